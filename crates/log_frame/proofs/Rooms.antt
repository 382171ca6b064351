-- Rooms that are filled from their beginnings.
use mathlib.Core.Path.{◌≡◌, refl, sym, ap, ◌∙◌}
use mathlib.Core.List.{List, [], ◌∷◌, ◌++◌}
use Prim.Native.Nat.{ℕ, suc, ◌+◌, ◌≤◌, ◌<◌}
use native.Mathlib.Numerals.{add-one}
use native.Mathlib.Omega.{arith}
use lib.ListN.{length, get_or, drop, set, length-append, length-drop}
use lib.Seq.{drop-cons, append_snoc, set_at}
use lib.IntN.{ℤ}
use Rattle.words.specs.Word.{firsts}
use Rattle.words.proofs.Tables.{firsts-length}
use Rattle.log_frame.specs.Frame.{original_in, current_in, mark_in}
use Rattle.log_frame.specs.Read.{over}
use Rattle.log_frame.specs.Steps.{PointsRead}

module _ {A : Type 0} (f : ℕ → A) (room : List A) where
  -- by the count of what stands in it
  over-is : (n : ℕ) → over (firsts f n) room ≡ firsts f n ++ drop n room
  unfolding over
  over-is n = ap (λ (k : ℕ). firsts f n ++ drop k room) (firsts-length f n)

  firsts-next : (i : ℕ) → firsts f (i + 1) ≡ firsts f i ++ f i ∷ []
  unfolding firsts
  firsts-next i = ap (firsts f) (add-one i)

  -- nothing yet
  pub over_none : room ≡ over (firsts f 0) room
  unfolding over firsts
  over_none = refl

  -- one more
  pub over-more : {now : List A} (i : ℕ) (v : A) → now ≡ over (firsts f i) room → i < length room → v ≡ f i → set now i v ≡ over (firsts f (i + 1)) room
  over-more {now} i v p h e =
      ap (λ (l : List A). set l i v) (p ∙ over-is i ∙ ap (λ (l : List A). firsts f i ++ l) (drop-cons room i v h))
      ∙ set_at (firsts f i) (get_or room i v) (drop (suc i) room) v i (firsts-length f i)
      ∙ ap (λ (x : A). firsts f i ++ x ∷ drop (suc i) room) e
      ∙ sym (append_snoc (firsts f i) (f i) (drop (suc i) room))
      ∙ ap (λ (l : List A). l ++ drop (suc i) room) (sym (firsts-next i))
      ∙ ap (λ (k : ℕ). firsts f (i + 1) ++ drop k room) (sym (add-one i))
      ∙ sym (over-is (i + 1))

  -- it keeps its length
  pub over-length : {now : List A} (n : ℕ) → now ≡ over (firsts f n) room → n ≤ length room → length now ≡ length room
  over-length {now} n p h = ap length (p ∙ over-is n) ∙ length-append (firsts f n) (drop n room) ∙ omega (arith, firsts-length f n, length-drop n room)

-- ---- the points
-- what is read of them so far: the first i of n
pub record PointsSofar (line : List ℕ) (n : ℕ) (o₀ c₀ : List ℤ) (t₀ : List ℕ) (o c : List ℤ) (t : List ℕ) (i : ℕ) : Type 0 where
  pub within : i ≤ n
  pub read : PointsRead line i o₀ c₀ t₀ o c t
  pub originals_kept : length o ≡ length o₀
  pub currents_kept : length c ≡ length c₀
  pub marks_kept : length t ≡ length t₀

module _ (line : List ℕ) (n : ℕ) (o₀ c₀ : List ℤ) (t₀ : List ℕ) where
  -- nothing yet
  pub points_none : PointsSofar line n o₀ c₀ t₀ o₀ c₀ t₀ 0
  points_none = record {
    within = omega arith;
    read = record { originals = over_none (original_in line) o₀; currents = over_none (current_in line) c₀; marks = over_none (mark_in line) t₀ };
    originals_kept = refl;
    currents_kept = refl;
    marks_kept = refl;
  }

  -- one point more
  pub points-more :
      (o c : List ℤ) (t : List ℕ) (i : ℕ) (x y : ℤ) (m : ℕ) → PointsSofar line n o₀ c₀ t₀ o c t i → i < n
      → (n ≤ length o₀) × ((n ≤ length c₀) × (n ≤ length t₀))
      → x ≡ original_in line i → y ≡ current_in line i → m ≡ mark_in line i → PointsSofar line n o₀ c₀ t₀ (set o i x) (set c i y) (set t i m) (i + 1)
  points-more o c t i x y m s h room p q r =
      let os = over-more (original_in line) o₀ i x s.read.originals (omega (arith, room.0)) p in
      let cs = over-more (current_in line) c₀ i y s.read.currents (omega (arith, room.1.0)) q in
      let ts = over-more (mark_in line) t₀ i m s.read.marks (omega (arith, room.1.1)) r in
      record {
        within = omega arith;
        read = record { originals = os; currents = cs; marks = ts };
        originals_kept = over-length (original_in line) o₀ (i + 1) os (omega (arith, room.0));
        currents_kept = over-length (current_in line) c₀ (i + 1) cs (omega (arith, room.1.0));
        marks_kept = over-length (mark_in line) t₀ (i + 1) ts (omega (arith, room.1.1));
      }

  -- all of them
  pub points-all : {o c : List ℤ} {t : List ℕ} {i : ℕ} → PointsSofar line n o₀ c₀ t₀ o c t i → n ≤ i → PointsRead line n o₀ c₀ t₀ o c t
  points-all {o} {c} {t} {i} s h = let e : i ≡ n = omega (arith, s.within) in rw e at s.read
