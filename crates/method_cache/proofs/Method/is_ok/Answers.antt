use mathlib.Core.Path.{refl}
use Rattle.method_cache.specs.MethodCache.{capacity_ok}
use Rattle.method_cache.proofs.Method.is_ok.Goals as goal

pub returns : goal.returns
unfolding capacity_ok
returns c = refl
