use Rattle.text.specs.Page.{Puts}
use Rattle.case_report.specs.Changes.{texts, cache_change}
use Rattle.case_report.proofs.changes.put_cache.Given as goal

abbrev pub invariant-loop-k : goal.invariant-loop-k
invariant-loop-k l = Puts l.initial.page l.page (texts l.k (cache_change l.cache))
