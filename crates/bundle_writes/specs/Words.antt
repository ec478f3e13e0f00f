-- The words of what waits after a bundle, and that they are those of what waits in it.
use Rattle.std.specs.Prelude.{ℕ, ◌≡◌}
use Rattle.std.proofs.Common.{sym, subst}
use Rattle.effects.specs.declared.Effect.{Effect}
use Rattle.effects.specs.declared.Effect.TheVariants as effect
use Rattle.effects.specs.Effect.{on_effect}
use Rattle.products.specs.declared.ProductWords.{ProductWords}
use Rattle.products.specs.Products.{with_one_more}
use Rattle.products.specs.Words.{products_in, nearer_product_words, more_product_words, FixedProducts, words_fixed as product-words-fixed, nearer_fixed as nearer-products-fixed}
use Rattle.core_state.specs.declared.TransferWords.{TransferWords}
use Rattle.core_state.specs.declared.LoadWords.{LoadWords}
use Rattle.core_state.specs.declared.WaitingTransfer.TheVariants as transfer
use Rattle.core_state.specs.declared.WaitingLoad.TheVariants as load
use Rattle.core_state.specs.declared.Core.{Core}
use Rattle.core_state.specs.Core.{waiting_load, load_words, transfer_words, nearer_words, begun_words, Canonical}
use Rattle.core_state.proofs.WordLaws.{Fixed, words_fixed as transfer-fixed, load_fixed, begun_fixed, nearer_fixed, canonical_with}

-- Its own transfer begins, its trap leaves none waiting, or the one that waits comes nearer.
abbrev pub onward_words : Effect → TransferWords → TransferWords
onward_words e w = let other = nearer_words w in on_effect other (λ c n m. other) begun_words (λ n handler. transfer_words transfer.Nothing) e

-- A load of slot one waits for the next bundle; any other effect leaves what waits.
abbrev pub load_after : Effect → ℕ → LoadWords → LoadWords
load_after (effect.Alu a) v l = l
load_after (effect.Special d w) v l = l
load_after (effect.Product p h) v l = l
load_after (effect.Load k b r a) v l = load_words (load.Waits r v)
load_after (effect.Store k b a w) v l = l
load_after (effect.Stack c n m) v l = l
load_after (effect.Transfer d t) v l = l
load_after (effect.Trap vector handler) v l = l

-- A product of slot one is under way; any other effect leaves what is.
abbrev pub products_after : Effect → ProductWords → ProductWords
products_after (effect.Alu a) p = p
products_after (effect.Special d w) p = p
products_after (effect.Product l h) p = more_product_words p l h
products_after (effect.Load k b r a) p = p
products_after (effect.Store k b a w) p = p
products_after (effect.Stack c n m) p = p
products_after (effect.Transfer d t) p = p
products_after (effect.Trap vector handler) p = p

onward_fixed : (e : Effect) (w : TransferWords) → Fixed w → Fixed (onward_words e w)
onward_fixed (effect.Alu a) w f = nearer_fixed w f
onward_fixed (effect.Special d v) w f = nearer_fixed w f
onward_fixed (effect.Product l h) w f = nearer_fixed w f
onward_fixed (effect.Load k b r a) w f = nearer_fixed w f
onward_fixed (effect.Store k b a v) w f = nearer_fixed w f
onward_fixed (effect.Stack c n m) w f = nearer_fixed w f
onward_fixed (effect.Transfer d t) w f = begun_fixed d t
onward_fixed (effect.Trap vector handler) w f = transfer-fixed transfer.Nothing

after_fixed : (e : Effect) (v : ℕ) → let l = load_after e v (load_words load.Nothing) in load_words (waiting_load l) ≡ l
after_fixed (effect.Alu a) v = load_fixed load.Nothing
after_fixed (effect.Special d w) v = load_fixed load.Nothing
after_fixed (effect.Product p h) v = load_fixed load.Nothing
after_fixed (effect.Load k b r a) v = load_fixed (load.Waits r v)
after_fixed (effect.Store k b a w) v = load_fixed load.Nothing
after_fixed (effect.Stack c n m) v = load_fixed load.Nothing
after_fixed (effect.Transfer d t) v = load_fixed load.Nothing
after_fixed (effect.Trap vector handler) v = load_fixed load.Nothing

products_fixed : (e : Effect) (p : ProductWords) → FixedProducts p → FixedProducts (products_after e p)
products_fixed (effect.Alu a) p f = f
products_fixed (effect.Special d w) p f = f
products_fixed (effect.Product l h) p f = product-words-fixed (with_one_more (products_in p) l h)
products_fixed (effect.Load k b r a) p f = f
products_fixed (effect.Store k b a w) p f = f
products_fixed (effect.Stack c n m) p f = f
products_fixed (effect.Transfer d t) p f = f
products_fixed (effect.Trap vector handler) p f = f

-- A bundle keeps a core canonical.
pub written_canonical : (e : Effect) (v : ℕ) (c r : Core) → r.transfer ≡ onward_words e c.transfer
    → r.load ≡ load_after e v (load_words load.Nothing)
    → r.products ≡ products_after e (nearer_product_words c.products) → Canonical c → Canonical r
written_canonical e v c r t l p k =
    canonical_with r (onward_words e c.transfer) (load_after e v (load_words load.Nothing)) t l (onward_fixed e c.transfer k.transfer) (after_fixed e v)
    (subst FixedProducts (sym p) (products_fixed e (nearer_product_words c.products) (nearer-products-fixed c.products k.products)))
