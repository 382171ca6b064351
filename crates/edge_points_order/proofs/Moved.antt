-- Points moved one after the other, and by one segment after the other: what a point comes to, by the edge that moves it last.
use Rattle.std.specs.Prelude.{None, Some}
use mathlib.Core.Path.{◌≡◌, refl, sym, ap, subst, ◌∙◌}
use mathlib.Core.Bool.{Bool, true, false, cond, ◌&&◌}
use mathlib.Core.List.{List, [], ◌∷◌}
use mathlib.Core.Logic.{⊎_elim}
use mathlib.Core.Option.{Option, some, none}
use Prim.Native.Nat.{ℕ, zero, suc, ◌+◌, ◌≤◌, ◌<◌}
use native.Mathlib.Omega.{arith}
use borrow.Author.Tests.{ltb-true, ltb-false, leb-true}
use lib.Dec.{leb, ltb}
use lib.ListN.{length, get_or, length-set}
use lib.Seq.{get_or-set_same, get_or-set_other}
use lib.IntN.{pos}
use Rattle.refusals.proofs.Tests.{and_first, and_second}
use Rattle.signed.proofs.Choices.{clash}
use Rattle.axis.specs.declared.edge.Edge.{Edge}
use Rattle.axis.specs.declared.edge.Axis.{Axis}
use Rattle.axis.specs.Link.{Link}
use Rattle.axis.specs.declared.segment.Segment.{Segment}
use Rattle.axis.specs.declared.segment.Segments.{Segments}
use Rattle.axis.specs.Edge.{edge_at}
use Rattle.axis.specs.Link.{is_linked}
use Rattle.axis.specs.Ring.{times}
use Rattle.axis.specs.Segment.{segment_at}
use Rattle.axis.specs.Visits.{visits}
use Rattle.axis.proofs.Walks.{same?, times-nil, times-here, times-there}
use Rattle.weak_contour.specs.Contour.{at, Contour}
use Rattle.weak_contour.specs.Limits.{most_points}
use Rattle.weak.specs.Weak.{ends_hold, contour_of}
use Rattle.weak.proofs.Contours.{contour-holds}
use Rattle.gaps.specs.Gaps.{or_else}
use Rattle.edge_points.specs.EdgePoints.{
  walked,
  Points,
  moved_by,
  move_point,
  move_points,
  moves,
  move_segment,
  along_edge,
  visit_segment,
  move_all,
  is_on,
  on_one,
  segment_points,
}
use Rattle.edge_points.proofs.Runs.{walk-once}
use Rattle.edge_points_order.specs.Order.{meets, mover_of, mover_at, last_mover}

-- ---- what becomes of a point
-- the point p stays, with its mark
pub record Stays (s s' : Points) (p : ℕ) : Type 0 where
  pub current : at s'.currents p ≡ at s.currents p
  pub mark : get_or s'.touched p 0 ≡ get_or s.touched p 0

-- it is moved once by the edge e
pub record Goes (snap : Bool) (e : Edge) (s s' : Points) (p : ℕ) : Type 0 where
  pub current : at s'.currents p ≡ moved_by snap e (at s.currents p)
  pub mark : get_or s'.touched p 0 ≡ 1

-- it is moved by the edge of a link, or stays where there is none
abbrev pub Came : Bool → Axis → Points → Points → ℕ → Link → Type 0
Came snap axis s s' p None = Stays s s' p
Came snap axis s s' p (Some k) = Goes snap (edge_at axis k) s s' p

-- there are as many points
pub record SameSize (s s' : Points) : Type 0 where
  pub currents : length s'.currents ≡ length s.currents
  pub marks : length s'.touched ≡ length s.touched

-- ---- the points of a list
module _ (snap : Bool) (e : Edge) where
  list-size : (ps : List ℕ) (s : Points) → SameSize s (move_points snap e ps s)
  unfolding move_points
  list-size [] s = record { currents = refl; marks = refl }
  list-size (q ∷ ps) s =
      let r = list-size ps (move_point snap e q s) in
      record { currents = r.currents ∙ length-set s.currents q _; marks = r.marks ∙ length-set s.touched q 1 }

  -- one that is not in it stays
  list-out : (ps : List ℕ) (s : Points) (p : ℕ) → times p ps ≤ 0 → Stays s (move_points snap e ps s) p
  unfolding move_points
  list-out [] s p h = record { current = refl; mark = refl }
  list-out (q ∷ ps) s p h =
      ⊎_elim (λ (a : p ≡ q). absurd (omega (arith, times-here p q ps a)))
      (λ (a : p ≡ q → ⊥).
      let r = list-out ps (move_point snap e q s) p (omega (arith, times-there p q ps a)) in
      record { current = r.current ∙ get_or-set_other s.currents q p _ (pos 0) a; mark = r.mark ∙ get_or-set_other s.touched q p 1 0 a })
      (same? p q)

  -- the first is moved, where it is not in the rest
  list-first : (ps : List ℕ) (s : Points) (p : ℕ) → times p ps ≤ 0 → p < length s.currents → p < length s.touched
      → Goes snap e s (move_points snap e ps (move_point snap e p s)) p
  list-first ps s p h a b =
      let r = list-out ps (move_point snap e p s) p h in
      record { current = r.current ∙ get_or-set_same s.currents p _ (pos 0) a; mark = r.mark ∙ get_or-set_same s.touched p 1 0 b }

  -- one that is in it once is moved
  list-in : (ps : List ℕ) (s : Points) (p : ℕ) → 0 < times p ps → times p ps ≤ 1 → p < length s.currents → p < length s.touched
      → Goes snap e s (move_points snap e ps s) p
  unfolding move_points
  list-in [] s p h l a b = absurd (omega (arith, times-nil p))
  list-in (q ∷ ps) s p h l a b =
      ⊎_elim
      (λ (d : p ≡ q).
      subst (λ (x : ℕ). Goes snap e s (move_points snap e ps (move_point snap e x s)) p) d (list-first ps s p (omega (arith, times-here p q ps d)) a b))
      (λ (d : p ≡ q → ⊥).
      let n = times-there p q ps d in
      let r =
      list-in ps (move_point snap e q s) p (omega arith) (omega arith) (subst (λ (x : ℕ). p < x) (sym (length-set s.currents q _)) a)
      (subst (λ (x : ℕ). p < x) (sym (length-set s.touched q 1)) b) in
      record { current = r.current ∙ ap (moved_by snap e) (get_or-set_other s.currents q p _ (pos 0) d); mark = r.mark })
      (same? p q)

-- ---- one segment
module _ (snap alone : Bool) (axis : Axis) (es : List ℕ) where
  along-size : (g : Segment) (l : Link) (s : Points) → SameSize s (along_edge snap alone axis es g l s)
  unfolding along_edge move_segment
  along-size g None s = record { currents = refl; marks = refl }
  along-size g (Some k) s = by (contour_of 0 es g.first)
    where
      by : (x : Option Contour) → SameSize s (move_segment snap alone g (edge_at axis k) x s)
      by none = record { currents = refl; marks = refl }
      by (some c) = go (moves alone (edge_at axis k))
        where
          go : (m : Bool) → SameSize s (cond m (move_points snap (edge_at axis k) (walked c g.first g.last) s) s)
          go true = list-size snap (edge_at axis k) (walked c g.first g.last) s
          go false = record { currents = refl; marks = refl }

  module _ (n : ℕ) (few : n ≤ most_points) (hold : ends_hold 0 n es ≡ true) (s : Points) (p : ℕ) (inside : p < length s.currents)
      (marked : p < length s.touched) where
    -- on a contour that has its first point and its last
    on-contour : (g : Segment) (k : ℕ) (x : Option Contour) → contour_of 0 es g.first ≡ x → is_on x g.last ≡ true
        → Came snap axis s (move_segment snap alone g (edge_at axis k) x s) p (cond (moves alone (edge_at axis k) && meets x g p) (Some k) None)
    unfolding move_segment meets is_on
    on-contour g k none e h = absurd (clash false refl h)
    on-contour g k (some c) e h = by (moves alone (edge_at axis k)) (ltb 0 (times p (walked c g.first g.last))) refl
      where
        once : times p (walked c g.first g.last) ≤ 1
        once =
            let f = contour-holds 0 n g.first es c (omega arith) hold e in
            walk-once c g.first g.last most_points p f.low f.high (leb-true c.start g.last (and_first _ _ h))
            (ltb-true g.last c.end (and_second (leb c.start g.last) _ h))
            (omega (arith, f.points))

        by : (m b : Bool) → ltb 0 (times p (walked c g.first g.last)) ≡ b
            → Came snap axis s (cond m (move_points snap (edge_at axis k) (walked c g.first g.last) s) s) p (cond (m && b) (Some k) None)
        by false b q = record { current = refl; mark = refl }
        by true false q = list-out snap (edge_at axis k) (walked c g.first g.last) s p (ltb-false 0 _ q)
        by true true q = list-in snap (edge_at axis k) (walked c g.first g.last) s p (ltb-true 0 _ q) once inside marked

    along : (g : Segment) (l : Link) → segment_points es g l ≡ true → Came snap axis s (along_edge snap alone axis es g l s) p (mover_of alone axis es g l p)
    unfolding along_edge mover_of segment_points on_one
    along g None h = record { current = refl; mark = refl }
    along g (Some k) h = on-contour g k (contour_of 0 es g.first) refl h

-- ---- which edge it was
-- a segment moves a point by its own edge, which moves points
pub record Mover (alone : Bool) (axis : Axis) (g : Segment) (k : ℕ) : Type 0 where
  pub edge : g.edge ≡ Some k
  pub moving : moves alone (edge_at axis k) ≡ true

module _ (alone : Bool) (axis : Axis) (es : List ℕ) where
  mover-is : (g : Segment) (l : Link) (p k : ℕ) → g.edge ≡ l → mover_of alone axis es g l p ≡ Some k → Mover alone axis g k
  unfolding mover_of
  mover-is g None p k q e = let z : ◌≡◌ {A = ℕ} 0 1 = cc in absurd (omega arith)
  mover-is g (Some j) p k q e = by (moves alone (edge_at axis j)) (meets (contour_of 0 es g.first) g p) refl e
    where
      by : (m b : Bool) → moves alone (edge_at axis j) ≡ m → cond (m && b) (Some j) None ≡ Some k → Mover alone axis g k
      by true true w f = let h : j ≡ k = cc in subst (Mover alone axis g) h (record { edge = q; moving = w })
      by true false w f = let z : ◌≡◌ {A = ℕ} 0 1 = cc in absurd (omega arith)
      by false b w f = let z : ◌≡◌ {A = ℕ} 0 1 = cc in absurd (omega arith)

module _ (alone : Bool) (axis : Axis) (t : Segments) (es : List ℕ) (p : ℕ) where
  -- the edge that is last is that of a segment
  pub record MovedBy (n k : ℕ) : Type 0 where
    pub segment : ℕ
    pub below : segment < n
    pub by : mover_at alone axis t es p segment ≡ Some k

  last_is : (n k : ℕ) → last_mover alone axis t es p n ≡ Some k → MovedBy n k
  unfolding last_mover
  last_is zero k e = let z : ◌≡◌ {A = ℕ} 0 1 = cc in absurd (omega arith)
  last_is (suc n) k e = go (mover_at alone axis t es p n) refl e (last_is n k)
    where
      go : (l : Link) → mover_at alone axis t es p n ≡ l → or_else l (last_mover alone axis t es p n) ≡ Some k
          → (last_mover alone axis t es p n ≡ Some k → MovedBy n k) → MovedBy (suc n) k
      go None q f rest = let r = rest f in record { segment = r.segment; below = omega (arith, r.below); by = r.by }
      go (Some j) q f rest = record { segment = n; below = omega arith; by = q ∙ f }

  pub last-mover : (k : ℕ) → last_mover alone axis t es p t.len ≡ Some k → MovedBy t.len k
  last-mover k e = last_is t.len k e

  pub mover-at : (i k : ℕ) → mover_at alone axis t es p i ≡ Some k → Mover alone axis (segment_at t i) k
  unfolding mover_at
  mover-at i k e = mover-is alone axis es (segment_at t i) (segment_at t i).edge p k refl e

-- ---- every segment
-- n visits are one less, and then the last
visits-last : {S : Type 0} (f : S → ℕ → S) (n i : ℕ) (s : S) → visits f (suc n) i s ≡ f (visits f n i s) (i + n)
unfolding visits
visits-last f zero i s = ap (f s) (omega arith)
visits-last f (suc n) i s = visits-last f n (i + 1) (f s i) ∙ ap (f (visits f n (i + 1) (f s i))) (omega arith)

module _ (snap alone : Bool) (axis : Axis) (t : Segments) (es : List ℕ) (s₀ : Points) (few : length s₀.currents ≤ most_points)
    (marks : length s₀.touched ≡ length s₀.currents)
    (hold : ends_hold 0 (length s₀.currents) es ≡ true) (walks : (i : ℕ) → i < t.len → segment_points es (segment_at t i) (segment_at t i).edge ≡ true)
    (once : snap ≡ false → (p i j : ℕ) → i < j → j < t.len → is_linked (mover_at alone axis t es p i) ≡ true → is_linked (mover_at alone axis t es p j) ≡ true
    → ⊥) where
  -- the points behind the first n segments
  abbrev after : ℕ → Points
  after n = visits (visit_segment snap alone axis t es) n 0 s₀

  after_more : (n : ℕ) → after (suc n) ≡ visit_segment snap alone axis t es (after n) n
  after_more n = visits-last (visit_segment snap alone axis t es) n 0 s₀ ∙ ap (visit_segment snap alone axis t es (after n)) (omega arith)

  after-size : (n : ℕ) → SameSize s₀ (after n)
  unfolding visits visit_segment
  after-size zero = record { currents = refl; marks = refl }
  after-size (suc n) =
      let r = after-size n in
      let q = along-size snap alone axis es (segment_at t n) (segment_at t n).edge (after n) in
      subst (SameSize s₀) (sym (after_more n)) (record { currents = q.currents ∙ r.currents; marks = q.marks ∙ r.marks })

  -- one segment more: it leaves the point, or moves it, and then it snaps or is the first to move it
  reached-more : (s s' : Points) (p : ℕ) (m l : Link) → Came snap axis s₀ s p m → Came snap axis s s' p l
      → (snap ≡ false → is_linked l ≡ true → m ≡ None) → Came snap axis s₀ s' p (or_else l m)
  unfolding moved_by
  reached-more s s' p None None r v h = record { current = v.current ∙ r.current; mark = v.mark ∙ r.mark }
  reached-more s s' p (Some k) None r v h = record { current = v.current ∙ r.current; mark = v.mark ∙ r.mark }
  reached-more s s' p None (Some j) r v h = record { current = v.current ∙ ap (moved_by snap (edge_at axis j)) r.current; mark = v.mark }
  reached-more s s' p (Some k) (Some j) r v h = record { current = v.current ∙ by snap refl; mark = v.mark }
    where
      by : (b : Bool) → snap ≡ b → moved_by snap (edge_at axis j) (at s.currents p) ≡ moved_by snap (edge_at axis j) (at s₀.currents p)
      by true e = rw e
      by false e = let z = h e refl in let w : ◌≡◌ {A = ℕ} 0 1 = cc in absurd (omega arith)

  -- where a segment moves a point without snap, none in front of it has
  first_to : (p n : ℕ) → n < t.len → snap ≡ false → is_linked (mover_at alone axis t es p n) ≡ true → last_mover alone axis t es p n ≡ None
  first_to p n h e l = by (last_mover alone axis t es p n) refl
    where
      by : (m : Link) → last_mover alone axis t es p n ≡ m → m ≡ None
      by None q = refl
      by (Some k) q = let r = last_is alone axis t es p n k q in absurd (once e p r.segment n r.below h (ap is_linked r.by) l)

  reached : (p n : ℕ) → p < length s₀.currents → n ≤ t.len → Came snap axis s₀ (after n) p (last_mover alone axis t es p n)
  unfolding visits visit_segment last_mover mover_at
  reached p zero a h = record { current = refl; mark = refl }
  reached p (suc n) a h =
      let q = after-size n in
      subst (λ (x : Points). Came snap axis s₀ x p (last_mover alone axis t es p (suc n))) (sym (after_more n))
      (reached-more (after n) (visit_segment snap alone axis t es (after n) n) p (last_mover alone axis t es p n) (mover_at alone axis t es p n)
      (reached p n a (omega arith))
      (along snap alone axis es (length s₀.currents) few hold (after n) p (omega (arith, q.currents)) (omega (arith, q.marks)) (segment_at t n)
      (segment_at t n).edge (walks n h)) (first_to p n h))

  pub moved : (p : ℕ) → p < length s₀.currents → Came snap axis s₀ (move_all snap alone axis t es s₀) p (last_mover alone axis t es p t.len)
  moved p h = reached p t.len h (omega arith)

  pub moved-size : SameSize s₀ (move_all snap alone axis t es s₀)
  moved-size = after-size t.len
