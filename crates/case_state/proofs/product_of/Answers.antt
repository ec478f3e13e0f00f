use Rattle.case_state.proofs.product_of.Goals as goal

pub returns : goal.returns
returns c = rw (c.word.ensures, c.word-2.ensures)
