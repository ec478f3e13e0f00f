-- The cases marked P, in one theorem: each file of cases gives its part.
use Rattle.proved_cases.specs.Case.{AllHold}
use Rattle.proved_cases.specs.Words.{decoded, word_cases, words_decode}
use Rattle.proved_cases.specs.Run.{traced}
use Rattle.proved_cases.specs.Machine.{machine_cases, machine_runs_lem}

pub record PCases : Type 0 where
  pub words : AllHold decoded word_cases
  pub machine : AllHold traced machine_cases

pub p_cases : PCases
p_cases = record { words = words_decode; machine = machine_runs_lem }
