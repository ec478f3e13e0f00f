use mathlib.Core.Path.{◌∙◌, ap}
use Rattle.std.specs.Prelude.{is_ok}
use Rattle.settings.specs.SettingsLaws.{size_told}
use Rattle.settings.proofs.is_cache_size.Goals as goal

pub returns : goal.returns
returns c = c.is_ok.ensures.value ∙ ap is_ok c.new.ensures ∙ size_told c.args.words
