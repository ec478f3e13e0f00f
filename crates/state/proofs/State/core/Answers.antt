use Rattle.state.proofs.State.core.Goals as goal

pub returns : goal.returns
returns c = rw (c.transfer_words-transfer.ensures, c.load_words-load.ensures, c.product_words-products.ensures)
