use Rattle.case_state.proofs.transfer_of.Goals as goal

pub returns : goal.returns
returns c = rw (← c.number.ensures, ← c.word.ensures, ← c.word-2.ensures, ← c.word-3.ensures) c.transfer_with.ensures
