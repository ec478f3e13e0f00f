use Rattle.record_parts.specs.Few.{few_in}
use Rattle.record.specs.PutLaws.{transfer_holds, load_holds, products_holds}
use Rattle.record.specs.PutLaws.{put_then, few_end}
use Rattle.record.specs.Written.{Put}
use Prim.Native.Nat.{ℕ, ◌-◌}
use native.Mathlib.Omega.{arith}
use mathlib.Core.Path.{subst}
use mathlib.Core.List.{List, [], ◌∷◌}
use borrow.Author.Rules.{rules}
use Rattle.record.proofs.putting.put_waiting.Goals as goal

pub put_few-first-requires : goal.put_few-first-requires
put_few-first-requires c = (omega (arith, c.requires), (transfer_holds _ _ c.transfer_words.ensures).room)

pub put_few-second-requires : goal.put_few-second-requires
put_few-second-requires c =
    let t = c.transfer_words in
    (omega (arith, c.requires, few_end _ t.result.words (transfer_holds _ _ t.ensures).room c.put_few-first.ensures), (load_holds _ _ c.load_words.ensures).room)

pub put_few-requires : goal.put_few-requires
put_few-requires c =
    let t = c.transfer_words in
    let l = c.load_words in
    (omega (arith, c.requires, few_end _ t.result.words (transfer_holds _ _ t.ensures).room c.put_few-first.ensures, few_end _ l.result.words (load_holds _ _ l.ensures).room c.put_few-second.ensures), (products_holds _ _ c.product_words.ensures).room)

pub returns : goal.returns
returns c =
    let a = c.args in
    let t = c.transfer_words in
    let l = c.load_words in
    let p = c.product_words in
    let whole = put_then (few_in t.result ∷ []) (few_in l.result ∷ few_in p.result ∷ []) c.put_few-first.ensures (put_then (few_in l.result ∷ []) (few_in p.result ∷ []) c.put_few-second.ensures c.put_few.ensures) in
    subst (λ (ws : List (List ℕ)). Put a.out.now c.put_few.new.out a.at c.put_few.result ws) (λ i. (transfer_holds _ _ t.ensures).words i ∷ (load_holds _ _ l.ensures).words i ∷ (products_holds _ _ p.ensures).words i ∷ []) whole
