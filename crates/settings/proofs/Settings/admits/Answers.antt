use Rattle.settings.specs.Settings.{admits}
use Rattle.settings.proofs.Settings.admits.Goals as goal

pub returns : goal.returns
unfolding admits
returns c =
    rw (← c.code_length_ok.ensures, ← c.is_cache_size.ensures, ← c.area_ok.ensures, ← c.is_ok.ensures)
