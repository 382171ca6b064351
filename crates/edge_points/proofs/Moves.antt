-- Points moved by an edge, one after the other: what each comes to, and how far.
use mathlib.Core.Path.{◌≡◌, refl, sym, ap, subst, ◌∙◌}
use mathlib.Core.Bool.{Bool, true, false}
use mathlib.Core.List.{List, [], ◌∷◌, ◌++◌}
use mathlib.Core.Logic.{◌⊎◌, ⊎_elim}
use Prim.Native.Nat.{ℕ, suc, ◌+◌, ◌-◌, ◌*◌, ◌≤◌, ◌<◌}
use native.Mathlib.Omega.{arith}
use lib.ListN.{length, get_or, set, length-set}
use lib.Seq.{get_or-set_other}
use lib.IntN.{ℤ, pos, ◌+ℤ◌, ◌-ℤ◌}
use Rattle.signed.specs.Range.{Between}
use Rattle.signed.proofs.Operations.{add-law, sub-law}
use Rattle.signed.proofs.Choices.{at_set}
use Rattle.axis.specs.declared.edge.Edge.{Edge}
use Rattle.axis.specs.Ring.{times}
use Rattle.axis.proofs.Walks.{same?, times-nil, times-here, times-there}
use Rattle.weak_contour.specs.Limits.{most_delta}
use Rattle.weak_contour.specs.Contour.{at}
use Rattle.edge_points.specs.EdgePoints.{Points, moved_by, move_point, move_points}
use Rattle.edge_points.specs.Steps.{Mover, run}

-- ---- by which edge
-- only its two positions count
pub moved-alike : (snap : Bool) (d e : Edge) (ps : List ℕ) (s : Points) → d.pos ≡ e.pos → d.opos ≡ e.opos → move_points snap d ps s ≡ move_points snap e ps s
unfolding move_points moved_by
moved-alike snap d e [] s p q = refl
moved-alike snap d e (x ∷ ps) s p q =
    moved-alike snap d e ps (move_point snap d x s) p q ∙ ap (move_points snap e ps) (one snap)
  where
    one : (b : Bool) → move_point b d x s ≡ move_point b e x s
    one true = ap (λ (z : ℤ). record { currents = set s.currents x z; touched = set s.touched x 1 }) p
    one false = λ i. record { currents = set s.currents x (at s.currents x +ℤ (p i -ℤ q i)); touched = set s.touched x 1 }

module _ (snap : Bool) (e : Edge) where
  -- ---- one after the other
  pub moved-both : (xs ys : List ℕ) (s : Points) → move_points snap e (xs ++ ys) s ≡ move_points snap e ys (move_points snap e xs s)
  unfolding move_points
  moved-both [] ys s = refl
  moved-both (x ∷ xs) ys s = moved-both xs ys (move_point snap e x s)

  -- those from p up to another: p, then the others; and where p is the other, none
  pub run-next : (p to : ℕ) (s : Points) → p < to → move_points snap e (run p (to - p)) s ≡ move_points snap e (run (p + 1) (to - (p + 1))) (move_point snap e p s)
  unfolding move_points run
  run-next p to s h = by (to - p) (to - (p + 1)) (p + 1) (omega arith) (omega arith)
    where
      by : (a b q : ℕ) → a ≡ suc b → q ≡ suc p → move_points snap e (run p a) s ≡ move_points snap e (run q b) (move_point snap e p s)
      by a b q f g = rw (f, g)

  pub run_end : (p to : ℕ) (s : Points) → to ≤ p → move_points snap e (run p (to - p)) s ≡ s
  unfolding move_points run
  run_end p to s h = let z : to - p ≡ 0 = omega arith in rw z

  -- ---- what stays
  -- the lengths
  pub currents_long : (ps : List ℕ) (s : Points) → length (move_points snap e ps s).currents ≡ length s.currents
  unfolding move_points
  currents_long [] s = refl
  currents_long (p ∷ ps) s = currents_long ps (move_point snap e p s) ∙ length-set s.currents p _

  pub marks_long : (ps : List ℕ) (s : Points) → length (move_points snap e ps s).touched ≡ length s.touched
  unfolding move_points
  marks_long [] s = refl
  marks_long (p ∷ ps) s = marks_long ps (move_point snap e p s) ∙ length-set s.touched p 1

  -- a point that is not met keeps its current and its mark
  pub current-kept : (ps : List ℕ) (s : Points) (i : ℕ) → times i ps ≡ 0 → at (move_points snap e ps s).currents i ≡ at s.currents i
  unfolding move_points
  current-kept [] s i h = refl
  current-kept (p ∷ ps) s i h =
      ⊎_elim
      (λ (q : i ≡ p). absurd (omega (arith, times-here i p ps q)))
      (λ (q : i ≡ p → ⊥). current-kept ps (move_point snap e p s) i (sym (times-there i p ps q) ∙ h) ∙ get_or-set_other s.currents p i _ (pos 0) q)
      (same? i p)

  pub mark-kept : (ps : List ℕ) (s : Points) (i : ℕ) → times i ps ≡ 0 → get_or (move_points snap e ps s).touched i 0 ≡ get_or s.touched i 0
  unfolding move_points
  mark-kept [] s i h = refl
  mark-kept (p ∷ ps) s i h =
      ⊎_elim
      (λ (q : i ≡ p). absurd (omega (arith, times-here i p ps q)))
      (λ (q : i ≡ p → ⊥). mark-kept ps (move_point snap e p s) i (sym (times-there i p ps q) ∙ h) ∙ get_or-set_other s.touched p i 1 0 q)
      (same? i p)

  -- ---- how far a current comes
  module _ (m : Mover e) where
    -- by one move
    pub moved-near : (b : ℕ) (z : ℤ) → Between b b z → Between (b + most_delta) (b + most_delta) (moved_by snap e z)
    unfolding moved_by
    moved-near b z h = by snap
      where
        by : (t : Bool) → Between (b + most_delta) (b + most_delta) (moved_by t e z)
        by true = omega (arith, m.pos)
        by false = omega (arith, h, m.pos, m.opos, add-law z (e.pos -ℤ e.opos), sub-law e.pos e.opos)

    -- by as many as there are
    pub grown : (ps : List ℕ) (s : Points) (i b : ℕ) → Between b b (at s.currents i)
        → Between (b + most_delta * times i ps) (b + most_delta * times i ps) (at (move_points snap e ps s).currents i)
    unfolding move_points
    grown [] s i b h = omega (arith, h, times-nil i)
    grown (p ∷ ps) s i b h =
        ⊎_elim
        (λ (q : i ≡ p).
        let v = moved_by snap e (at s.currents p) in
        let near : Between b b (at s.currents p) = subst (λ (x : ℕ). Between b b (at s.currents x)) q h in
        let one = at_set (Between (b + most_delta) (b + most_delta)) s.currents p i v (pos 0) (moved-near b _ near) (omega (arith, h)) in
        omega (arith, grown ps (move_point snap e p s) i (b + most_delta) one, times-here i p ps q))
        (λ (q : i ≡ p → ⊥).
        omega (arith, grown ps (move_point snap e p s) i b (subst (Between b b) (sym (get_or-set_other s.currents p i _ (pos 0) q)) h), times-there i p ps q))
        (same? i p)

-- ---- one move, as the code comes to it
pub snapped : (snap : Bool) (e : Edge) (z : ℤ) → snap ≡ true → e.pos ≡ moved_by snap e z
unfolding moved_by
snapped snap e z h = rw h

pub shifted : (snap : Bool) (e : Edge) (z : ℤ) → snap ≡ false → z +ℤ (e.pos -ℤ e.opos) ≡ moved_by snap e z
unfolding moved_by
shifted snap e z h = rw h

-- ---- a run in progress
-- of the points s₀ from `from` up to `to`, those in front of p are moved, which has made s: moving the others gives the whole, and they have not moved
pub record Moving (snap : Bool) (e : Edge) (from to : ℕ) (s₀ s : Points) (p : ℕ) : Type 0 where
  pub low : from ≤ p
  pub high : p ≤ to
  pub currents_size : length s.currents ≡ length s₀.currents
  pub marks_size : length s.touched ≡ length s₀.touched
  pub still : (i : ℕ) → p ≤ i → at s.currents i ≡ at s₀.currents i
  pub left : move_points snap e (run p (to - p)) s ≡ move_points snap e (run from (to - from)) s₀

pub moving-starts : (snap : Bool) (e : Edge) (from to : ℕ) (s : Points) → from ≤ to → Moving snap e from to s s from
moving-starts snap e from to s h = record { low = omega arith; high = h; currents_size = refl; marks_size = refl; still = λ i l. refl; left = refl }

-- one more: what it comes to
pub moving-next : {snap : Bool} {e : Edge} {from to p : ℕ} {s₀ s : Points} (u : ℤ) → Moving snap e from to s₀ s p → p < to
    → u ≡ moved_by snap e (at s.currents p)
    → Moving snap e from to s₀ (record { currents = set s.currents p u; touched = set s.touched p 1 }) (p + 1)
moving-next {snap} {e} {from} {to} {p} {s₀} {s} u m h q = record {
  low = omega (arith, m.low);
  high = omega arith;
  currents_size = length-set s.currents p u ∙ m.currents_size;
  marks_size = length-set s.touched p 1 ∙ m.marks_size;
  still = λ i l. get_or-set_other s.currents p i u (pos 0) (λ z. omega arith) ∙ m.still i (omega arith);
  left =
      ap (λ (z : ℤ). move_points snap e (run (p + 1) (to - (p + 1))) (record { currents = set s.currents p z; touched = set s.touched p 1 })) q
      ∙ sym (run-next snap e p to s h) ∙ m.left;
}

pub moving-ends : {snap : Bool} {e : Edge} {from to p : ℕ} {s₀ s : Points} → Moving snap e from to s₀ s p → to ≤ p
    → s ≡ move_points snap e (run from (to - from)) s₀
moving-ends {snap} {e} {from} {to} {p} {s₀} {s} m h = sym (run_end snap e p to s h) ∙ m.left
