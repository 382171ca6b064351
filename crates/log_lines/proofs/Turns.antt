-- The turns of `take_line`: what is left of the block gives the whole.
use mathlib.Core.Path.{◌≡◌, refl, sym, ap, subst, ◌∙◌}
use mathlib.Core.Bool.{Bool, true, false}
use mathlib.Core.List.{List, [], ◌∷◌, ◌++◌, append-nil}
use Prim.Native.Nat.{ℕ, ◌+◌, ◌≤◌, ◌<◌, min}
use native.Mathlib.Numerals.{add-one}
use native.Mathlib.Omega.{arith}
use borrow.Author.Tests.{eq-eqb, ne_eqb, leb-true, leb-false}
use lib.Dec.{leb}
use lib.ListN.{length, get_or, take, drop, set, length-append, length-take, length-set, take-append-drop, drop_of_length-le}
use lib.Seq.{take_all, take-append-le, append_snoc, take-suc-set, drop-set-lt, drop-cons}
use Rattle.log_lines.specs.Lines.{line_feed}
use Rattle.log_lines.specs.Cutting.{piece, feeds, held_with, Cut, Took}
use Rattle.log_lines.specs.declared.cutter.Taken.{Taken}

-- ---- a line feed, and another byte
pub piece-feed : (b : ℕ) (bs : List ℕ) → b ≡ line_feed → piece (b ∷ bs) ≡ []
unfolding piece
piece-feed b bs e = rw (eq-eqb b line_feed e)

pub piece-on : (b : ℕ) (bs : List ℕ) → (b ≡ line_feed → ⊥) → piece (b ∷ bs) ≡ b ∷ piece bs
unfolding piece
piece-on b bs e = rw (ne_eqb b line_feed e)

pub feeds-feed : (b : ℕ) (bs : List ℕ) → b ≡ line_feed → feeds (b ∷ bs) ≡ true
unfolding feeds
feeds-feed b bs e = rw (eq-eqb b line_feed e)

pub feeds-on : (b : ℕ) (bs : List ℕ) → (b ≡ line_feed → ⊥) → feeds (b ∷ bs) ≡ feeds bs
unfolding feeds
feeds-on b bs e = rw (ne_eqb b line_feed e)

-- ---- what is held
-- no byte more
held_same : (l : List ℕ) (c : ℕ) (bs : List ℕ) → c ≤ length l → piece bs ≡ [] → held_with (length l) (take c l) bs ≡ take c l
unfolding held_with
held_same l c bs h e = rw (e, append-nil (take c l)) (take_all (length l) (take c l) (omega (arith, length-take c l)))

-- where there is no room
held-full : (l : List ℕ) (c : ℕ) (bs : List ℕ) → length l ≤ c → held_with (length l) (take c l) bs ≡ l
unfolding held_with
held-full l c bs h = rw (take_all c l h) (take-append-le (length l) l (piece bs) (omega arith) ∙ take_all (length l) l (omega arith))

-- where there is, one byte more
held_more : (l : List ℕ) (c b : ℕ) (bs : List ℕ) → c < length l → (b ≡ line_feed → ⊥)
    → held_with (length (set l c b)) (take (c + 1) (set l c b)) bs ≡ held_with (length l) (take c l) (b ∷ bs)
unfolding held_with
held_more l c b bs h e = rw (length-set l c b, add-one, take-suc-set l c b h, append_snoc (take c l) b (piece bs), piece-on b bs e)

-- which is more than before
held-longer : (l : List ℕ) (c b : ℕ) (bs : List ℕ) → c < length l → (b ≡ line_feed → ⊥) → c < length (held_with (length l) (take c l) (b ∷ bs))
unfolding held_with
held-longer l c b bs h e = simp (piece-on b bs e, length-take, length-append) (omega arith)

-- the answer and the list, where nothing is added
module _ (l : List ℕ) (c : ℕ) (bs : List ℕ) (h : c ≤ length l) (e : held_with (length l) (take c l) bs ≡ take c l) where
  count_same : c ≡ length (held_with (length l) (take c l) bs)
  count_same = rw e (simp length-take (omega arith))

  list_same : l ≡ held_with (length l) (take c l) bs ++ drop (length (held_with (length l) (take c l) bs)) l
  list_same = rw (← count_same, e) (sym (take-append-drop c l))

-- ---- how a call ends
-- at a line feed
pub at-feed : (l : List ℕ) (at c b : ℕ) (bs : List ℕ) → c ≤ length l → b ≡ line_feed
    → Cut (b ∷ bs) at (take c l) l (record { at = at + 1; count = c; ended = true }) l
at-feed l at c b bs h e =
    let k = held_same l c (b ∷ bs) h (piece-feed b bs e) in
    record {
      ended = sym (feeds-feed b bs e);
      behind = rw (feeds-feed b bs e, piece-feed b bs e) (omega arith);
      count = count_same l c (b ∷ bs) h k;
      list = list_same l c (b ∷ bs) h k;
    }

-- and at the block's end
pub at-end : (l : List ℕ) (at c : ℕ) → c ≤ length l → Cut [] at (take c l) l (record { at = at; count = c; ended = false }) l
unfolding piece feeds
at-end l at c h =
    let k = held_same l c [] h refl in record { ended = refl; behind = omega arith; count = count_same l c [] h k; list = list_same l c [] h k }

-- ---- one byte
-- where there is no room for it
pub byte_full : (l : List ℕ) (at c b : ℕ) (bs : List ℕ) (r : Taken) (d : List ℕ) → length l ≤ c → (b ≡ line_feed → ⊥) → Cut bs (at + 1) (take c l) l r d
    → Cut (b ∷ bs) at (take c l) l r d
byte_full l at c b bs r d h e k = record {
  ended = k.ended ∙ sym (feeds-on b bs e);
  behind = rw (feeds-on b bs e, piece-on b bs e) (k.behind ∙ omega arith);
  count = k.count ∙ ap length (held-full l c bs h ∙ sym (held-full l c (b ∷ bs) h));
  list = k.list ∙ ap (λ (x : List ℕ). x ++ drop (length x) l) (held-full l c bs h ∙ sym (held-full l c (b ∷ bs) h));
}

-- and where there is
pub byte_more : (l : List ℕ) (at c b : ℕ) (bs : List ℕ) (r : Taken) (d : List ℕ) → c < length l → (b ≡ line_feed → ⊥)
    → Cut bs (at + 1) (take (c + 1) (set l c b)) (set l c b) r d → Cut (b ∷ bs) at (take c l) l r d
byte_more l at c b bs r d h e k = record {
  ended = k.ended ∙ sym (feeds-on b bs e);
  behind = rw (feeds-on b bs e, piece-on b bs e) (k.behind ∙ omega arith);
  count = k.count ∙ ap length (held_more l c b bs h e);
  list = k.list ∙ ap (λ (x : List ℕ). x ++ drop (length x) (set l c b)) (held_more l c b bs h e)
      ∙ ap (λ (x : List ℕ). held_with (length l) (take c l) (b ∷ bs) ++ x) (drop-set-lt _ l c b (held-longer l c b bs h e));
}

-- ---- the loop
-- what is left of the block from the place `at` on, with c bytes held in the list l, gives what the call owes
pub record Left (block : List ℕ) (from : ℕ) (l₀ : List ℕ) (count : ℕ) (l : List ℕ) (at c : ℕ) : Type 0 where
  pub within : c ≤ length l
  pub kept : length l ≡ length l₀
  pub gives : (r : Taken) (d : List ℕ) → Cut (drop at block) at (take c l) l r d → Took block from l₀ count r d

-- a count that was clipped holds the same bytes
clipped : (l : List ℕ) (count c : ℕ) → c ≡ min count (length l) → take c l ≡ take count l
clipped l count c e = go (leb count (length l)) refl
  where
    go : (t : Bool) → leb count (length l) ≡ t → take c l ≡ take count l
    go true h = let k = leb-true count (length l) h in let q : c ≡ count = omega arith in rw q
    go false h = let k = leb-false count (length l) h in take_all c l (omega arith) ∙ sym (take_all count l (omega arith))

module _ (block : List ℕ) (from : ℕ) (l₀ : List ℕ) (count : ℕ) where
  -- before the first byte
  pub left-all : (c : ℕ) → c ≡ min count (length l₀) → Left block from l₀ count l₀ from c
  left-all c e =
      record { within = omega arith; kept = refl; gives = λ r d k. subst (λ (x : List ℕ). Cut (drop from block) from x l₀ r d) (clipped l₀ count c e) k }

  module _ (l : List ℕ) (at c : ℕ) (v : Left block from l₀ count l at c) where
    -- the byte at a place
    byte : at < length block → drop at block ≡ get_or block at 0 ∷ drop (at + 1) block
    byte h = drop-cons block at 0 h ∙ ap (λ (n : ℕ). get_or block at 0 ∷ drop n block) (sym (add-one at))

    -- a turn for which there is no room
    pub left-full : at < length block → (get_or block at 0 ≡ line_feed → ⊥) → length l ≤ c → Left block from l₀ count l (at + 1) c
    left-full h e full = record {
      within = v.within;
      kept = v.kept;
      gives =
          λ r d k. v.gives r d (subst (λ (bs : List ℕ). Cut bs at (take c l) l r d) (sym (byte h))
          (byte_full l at c (get_or block at 0) (drop (at + 1) block) r d full e k));
    }

    -- a turn for which there is
    pub left-more : at < length block → (get_or block at 0 ≡ line_feed → ⊥) → c < length l → Left block from l₀ count (set l c (get_or block at 0)) (at + 1) (c + 1)
    left-more h e room = record {
      within = simp length-set (omega arith);
      kept = length-set l c (get_or block at 0) ∙ v.kept;
      gives =
          λ r d k. v.gives r d (subst (λ (bs : List ℕ). Cut bs at (take c l) l r d) (sym (byte h))
          (byte_more l at c (get_or block at 0) (drop (at + 1) block) r d room e k));
    }

    -- the line feed
    pub left-feed : at < length block → get_or block at 0 ≡ line_feed → Took block from l₀ count (record { at = at + 1; count = c; ended = true }) l
    left-feed h e =
        v.gives _ l (subst (λ (bs : List ℕ). Cut bs at (take c l) l (record { at = at + 1; count = c; ended = true }) l) (sym (byte h))
        (at-feed l at c (get_or block at 0) (drop (at + 1) block) v.within e))

    -- the block's end
    pub left_end : length block ≤ at → Took block from l₀ count (record { at = at; count = c; ended = false }) l
    left_end h =
        v.gives _ l (subst (λ (bs : List ℕ). Cut bs at (take c l) l (record { at = at; count = c; ended = false }) l) (sym (drop_of_length-le block h))
        (at-end l at c v.within))
