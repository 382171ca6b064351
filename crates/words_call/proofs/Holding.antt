-- Words that pass the tests of their fields, one after the other, are those of a record, and records in a row those of a list.
use Rattle.std.specs.Prelude.{Some}
use mathlib.Core.Path.{◌≡◌, refl, ap, ◌∙◌}
use mathlib.Core.Bool.{Bool, true, false, ◌&&◌}
use mathlib.Core.List.{List, [], ◌∷◌}
use Prim.Native.Nat.{ℕ, zero, suc, ◌+◌, ◌*◌, ◌%◌, ◌≤◌, ◌<◌}
use native.Mathlib.Nat.{mod-eq_of_lt}
use native.Mathlib.Omega.{arith}
use borrow.Author.Tests.{lt-ltb, eq-eqb}
use lib.Dec.{ltb}
use lib.ListN.{length, get_or}
use lib.IntN.{ℤ, pos, negsuc, ◌-ℤ◌}
use lib.Signed.{le_z}
use Rattle.signed.specs.Parts.{up, dn}
use Rattle.signed.proofs.Signed.{to-le-true, sub-law}
use Rattle.signed.proofs.Order.{le-true}
use Rattle.refusals.proofs.Tests.{and_first, and_second}
use Rattle.axis.specs.Refusals.{inside, link_holds}
use Rattle.words.specs.Word.{word_at}
use Rattle.words.specs.Field.{link_of}
use Rattle.words_shape.specs.declared.field.Range.{Range}
use Rattle.words_shape.specs.declared.element.Element.{Element}
use Rattle.words_shape.specs.Shape as Shape

pub clash : false ≡ true → ⊥
clash h = absurd (let z : ◌≡◌ {A = ℕ} 0 1 = cc in omega arith)

pub and_both : (x y : Bool) → x ≡ true → y ≡ true → (x && y) ≡ true
and_both x y p q = rw (p, q)

-- ---- a word
-- within wider limits
pub inside-more : (lo hi lo' hi' w : ℤ) → le_z lo' lo ≡ true → le_z hi hi' ≡ true → inside lo hi w ≡ true → inside lo' hi' w ≡ true
inside-more lo hi lo' hi' w p q h =
    let a = le-true lo' lo p in
    let b = le-true hi hi' q in
    let c = le-true lo w (and_first (le_z lo w) _ h) in
    let d = le-true w hi (and_second (le_z lo w) _ h) in
    and_both (le_z lo' w) (le_z w hi') (to-le-true lo' w (omega (arith, a, c))) (to-le-true w hi' (omega (arith, b, d)))

-- an index below a count, or none
module _ (n : ℕ) (w : ℤ) (few : n ≤ 65536) (h : inside (negsuc 0) (pos n -ℤ pos 1) w ≡ true) where
  low : up (negsuc 0) + dn w ≤ up w + dn (negsuc 0)
  low = le-true (negsuc 0) w (and_first (le_z (negsuc 0) w) _ h)

  high : up w + dn (pos n -ℤ pos 1) ≤ up (pos n -ℤ pos 1) + dn w
  high = le-true w (pos n -ℤ pos 1) (and_second (le_z (negsuc 0) w) _ h)

  below-count : up w + 1 ≤ n + dn w
  below-count = let s = sub-law (pos n) (pos 1) in omega (arith, s, high)

  pub link-word : Shape.is_in Shape.link w ≡ true
  link-word = and_both (le_z (negsuc 0) w) (le_z w (pos 65535)) (to-le-true (negsuc 0) w low) (to-le-true w (pos 65535) (omega (arith, below-count)))

pub link-holds : (n : ℕ) (w : ℤ) → n ≤ 65536 → inside (negsuc 0) (pos n -ℤ pos 1) w ≡ true → link_holds n (link_of w) ≡ true
unfolding link_of link_holds
link-holds n (pos m) few h =
    let l = below-count n (pos m) few h in let e : m % 65536 ≡ m = mod-eq_of_lt (omega (arith, l)) in lt-ltb (m % 65536) n (omega (arith, l, e))
link-holds n (negsuc m) few h = refl

-- ---- a record, and records
pub fields-make : (rs : List Range) (ws : List ℤ) (at : ℕ) → at + length rs ≤ length ws
    → ((k : ℕ) → k < length rs → Shape.is_in (get_or rs k Shape.no_range) (word_at ws (at + k)) ≡ true) → Shape.fields rs ws at ≡ Some (at + length rs)
unfolding Shape.fields Shape.and_then Shape.field
fields-make [] ws at room h = let q : at ≡ at + 0 = omega arith in ap Some q
fields-make (r ∷ rs) ws at room h =
    let a : ltb at (length ws) ≡ true = lt-ltb at (length ws) (omega arith) in
    let q : at + 0 ≡ at = omega arith in
    let b : Shape.is_in r (word_at ws at) ≡ true = rw q at (h 0 (omega arith)) in
    let n : at + 1 + length rs ≡ at + suc (length rs) = omega arith in
    rw (a, b) (fields-make rs ws (at + 1) (omega arith) (λ k l. let m : at + 1 + k ≡ at + suc k = omega arith in rw m (h (suc k) (omega arith))) ∙ ap Some n)

-- a run of elements of k words each
pub elements-make :
    (e : Element) (k : ℕ) (ws : List ℤ) (n at : ℕ) → ((i : ℕ) → i < n → Shape.element e ws (at + k * i) ≡ Some (at + k * i + k))
    → Shape.elements n e ws at ≡ Some (at + k * n)
unfolding Shape.elements Shape.and_then
elements-make e k ws zero at h = let q : at ≡ at + k * 0 = omega arith in ap Some q
elements-make e k ws (suc n) at h =
    let q : at + k * 0 ≡ at = omega arith in
    let f : Shape.element e ws at ≡ Some (at + k) = rw q at (h 0 (omega arith)) in
    let m : at + k + k * n ≡ at + k * suc n = omega arith in
    rw f (elements-make e k ws n (at + k) (λ i l. let z : at + k + k * i ≡ at + k * suc i = omega arith in rw z (h (suc i) (omega arith))) ∙ ap Some m)

-- and no more
pub run-make : (e : Element) (k : ℕ) (ws : List ℤ) (n : ℕ) → length ws ≡ k * n → ((i : ℕ) → i < n → Shape.element e ws (k * i) ≡ Some (k * i + k))
    → Shape.is_run n e ws ≡ true
unfolding Shape.is_run
run-make e k ws n l h =
    ap (Shape.is_at (length ws)) (elements-make e k ws n 0 (λ i b. let q : 0 + k * i ≡ k * i = omega arith in rw q (h i b)))
    ∙ eq-eqb (0 + k * n) (length ws) (omega (arith, l))
