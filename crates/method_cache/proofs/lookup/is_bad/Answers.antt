use mathlib.Core.Path.{refl}
use Rattle.method_cache.specs.MethodCache.{bad_block}
use Rattle.method_cache.proofs.lookup.is_bad.Goals as goal

pub returns : goal.returns
unfolding bad_block
returns c = rw (c.bad_base.ensures, c.bad_size.ensures, c.size_at-size.ensures) refl
