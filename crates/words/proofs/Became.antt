-- What the words of records become by the stores of a call.
use mathlib.Core.Path.{◌≡◌, refl, sym, ap, ◌∙◌}
use mathlib.Core.List.{List}
use Prim.Native.Nat.{ℕ, ◌*◌, ◌<◌, min}
use lib.ListN.{length}
use lib.IntN.{ℤ}
use Rattle.words.specs.Word.{written, joined}
use Rattle.words.specs.Record.{Layout, count_of, WholeOf, BecameOf}
use Rattle.words.proofs.Codecs.{Codec}
use Rattle.words.proofs.Wholes.{as_many, still-below, over, joined-whole}

module _ {R T D : Type 0} {L : Layout R} {of : List ℤ → D → T} where
  -- as many as before
  pub count_in : {f : T → T} {ws ws' : List ℤ} → BecameOf L of f ws ws' → count_of L ws' ≡ count_of L ws
  count_in {f} {ws} {ws'} a = as_many L ws ws' a.long

  pub below_in : {f : T → T} {ws ws' : List ℤ} (i : ℕ) → BecameOf L of f ws ws' → i < count_of L ws → i < count_of L ws'
  below_in {f} {ws} {ws'} i a h = still-below L ws ws' i a.long h

  -- nothing is written
  pub stays : (f : T → T) {ws : List ℤ} → WholeOf L ws → ((d : D) → of ws d ≡ f (of ws d)) → BecameOf L of f ws ws
  stays f w e = record { whole = w; long = refl; table = e }

  -- one store behind the other
  pub became-then : {f g : T → T} {ws w1 w2 : List ℤ} → BecameOf L of f ws w1 → BecameOf L of g w1 w2 → BecameOf L of (λ (t : T). g (f t)) ws w2
  became-then {f} {g} a b = record { whole = b.whole; long = b.long ∙ a.long; table = λ (d : D). b.table d ∙ ap g (a.table d) }

  -- what is made of the table, by another name
  pub became-as : {f g : T → T} {ws w1 : List ℤ} → ((d : D) → f (of ws d) ≡ g (of ws d)) → BecameOf L of f ws w1 → BecameOf L of g ws w1
  became-as e a = record { whole = a.whole; long = a.long; table = λ (d : D). a.table d ∙ e d }

-- words that are the records of a table are that table written over the words before
pub table-over : {R : Type 0} {L : Layout R} (C : Codec L) (ws ws' : List ℤ) (f : ℕ → R) → WholeOf L ws → WholeOf L ws' → length ws' ≡ length ws
    → ((i : ℕ) → i < count_of L ws' → f i ≡ L.from ws' (L.size * i)) → ws' ≡ written ws 0 (joined (λ (i : ℕ). L.words (f i)) (min (count_of L ws) L.most))
table-over {R} {L} C ws ws' f w w' l e =
    joined-whole C ws' f w' e ∙ ap (joined (λ (i : ℕ). L.words (f i))) (as_many L ws ws' l) ∙ sym (over C ws f w)
