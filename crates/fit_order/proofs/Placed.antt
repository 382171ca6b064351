-- The touched points behind edge points and strong points: one was where an edge was and is where that is, or is where strong points puts it; and any two of
-- them are in order.
use Rattle.std.specs.Prelude.{None, Some}
use mathlib.Core.Path.{◌≡◌, refl, sym, ap, ◌∙◌}
use mathlib.Core.Bool.{Bool, true, false, ◌||◌}
use mathlib.Core.List.{List, append-nil}
use mathlib.Core.Logic.{◌⊎◌, inl, inr, ⊎_elim}
use Prim.Native.Nat.{ℕ, ◌-◌, ◌≤◌, ◌<◌}
use native.Mathlib.Omega.{arith}
use lib.ListN.{length, get_or, get_or-eq_default}
use lib.IntN.{ℤ, pos}
use lib.Signed.{◌≤ℤ◌, ◌<ℤ◌}
use Rattle.signed.proofs.Choices.{clash}
use Rattle.signed.proofs.Signed.{to-≤ℤ, lt-or-le}
use Rattle.signed.proofs.Order.{of-≤ℤ, of-<ℤ, of-≡}
use Rattle.axis.specs.declared.edge.Axis.{Axis}
use Rattle.axis.specs.Link.{Link}
use Rattle.axis.specs.declared.segment.Segments.{Segments}
use Rattle.axis.specs.Edge.{edge_at}
use Rattle.fixed.specs.Point.{mul_fix}
use Rattle.fixed.proofs.Rounding.{mul-grows}
use Rattle.weak_contour.specs.Contour.{at, is_touched}
use Rattle.weak_contour.proofs.Searches.{is-touched, not-touched, marked, unmarked}
use Rattle.edge_points.specs.EdgePoints.{Points, moved_by, move_all, edge_answer}
use Rattle.edge_points_order.specs.Order.{last_mover}
use Rattle.edge_points_order.proofs.Chain.{Taken, taken, comes-along}
use Rattle.edge_points_order.proofs.Moved.{Came, last-mover, mover-at, moved, moved-size}
use Rattle.words.specs.Word.{firsts}
use Rattle.words.proofs.Places.{firsts_at}
use Rattle.words.proofs.Tables.{firsts-length}
use Rattle.strong.specs.declared.place.Place.{Place}
use Rattle.strong.specs.declared.place.Place.TheVariants.{Stays, At, Beyond}
use Rattle.strong.specs.Strong.{fpos_at, place_of, strong_at, current_after, mark_after, Aligned, aligned_all}
use Rattle.strong.specs.Steps.{Rising, Shorts}
use Rattle.strong.proofs.Order.{scaled-order}
use Rattle.strong.proofs.Determined.{stays, placed}
use Rattle.fit_order.specs.Order.{Scaled, Before}
use Rattle.fit_order.proofs.Scales.{not_negative, lower}
use Rattle.fit_order.proofs.Against.{over-edge, under-edge}

-- ---- two ways to be placed
-- the point p was where an edge was, done or not, and is where that is
pub record OnEdge (axis : Axis) (o c : List ℤ) (p : ℕ) : Type 0 where
  pub edge : ℕ
  pub there : edge < axis.len
  pub was : at o p ≡ (edge_at axis edge).opos
  pub is : at c p ≡ (edge_at axis edge).pos

-- it is where strong points puts it
pub record ByRule (axis : Axis) (f o c : List ℤ) (p : ℕ) : Type 0 where
  pub there : p < length f
  pub is : place_of axis (at f p) (at o p) ≡ At (at c p)

-- ---- two touched points
module _ (scale : ℤ) (axis : Axis) (f o c : List ℤ) (rise : Rising axis) (short : Shorts axis) (scaled : Scaled scale axis f o) (p q : ℕ)
    (l : at o p <ℤ at o q) where
  -- by numbers: what is scaled from u is lower than what is scaled from u'
  fonts : (u u' : ℤ) → at o p ≡ mul_fix u scale → at o q ≡ mul_fix u' scale → u <ℤ u'
  fonts u u' a b = lower u u' scale (not_negative scale scaled.positive) (rw (a, b) at l)

  -- and what is scaled does not fall
  grows : (a b : ℤ) → a ≤ℤ b → mul_fix a scale ≤ℤ mul_fix b scale
  grows a b h = mul-grows a b scale (not_negative scale scaled.positive) h

  -- two edges
  edge-edge : OnEdge axis o c p → OnEdge axis o c q → at c p ≤ℤ at c q
  edge-edge a b =
      let k = a.edge in
      let j = b.edge in
      let m = fonts (fpos_at axis k) (fpos_at axis j) (a.was ∙ scaled.edges k a.there) (b.was ∙ scaled.edges j b.there) in
      ⊎_elim (λ (h : k < j). rw (a.is, b.is) (rise.pos k j (omega arith) b.there))
      (λ (h : j ≤ k). absurd (omega (arith, of-<ℤ _ _ m, of-≤ℤ _ _ (rise.fpos j k h a.there)))) (lt-or-le k j)

  -- an edge, and a strong point behind it
  edge-rule : OnEdge axis o c p → ByRule axis f o c q → at c p ≤ℤ at c q
  edge-rule a b =
      let k = a.edge in
      let v = scaled.points q b.there in
      let last = axis.len - 1 in
      let m = fonts (fpos_at axis k) (at f q) (a.was ∙ scaled.edges k a.there) v in
      let i : last < axis.len = omega (arith, a.there) in
      rw a.is
      (over-edge axis rise short (at f q) (at o q) (at c q) b.is k a.there m
      (λ h. to-≤ℤ _ _ (omega (arith, of-≡ _ _ v, of-≡ _ _ (scaled.edges last i), of-≤ℤ _ _ (grows (fpos_at axis last) (at f q) h)))))

  -- a strong point, and an edge behind it
  rule-edge : ByRule axis f o c p → OnEdge axis o c q → at c p ≤ℤ at c q
  rule-edge a b =
      let k = b.edge in
      let v = scaled.points p a.there in
      let m = fonts (at f p) (fpos_at axis k) v (b.was ∙ scaled.edges k b.there) in
      let i : 0 < axis.len = omega (arith, b.there) in
      rw b.is
      (under-edge axis rise short (at f p) (at o p) (at c p) a.is k b.there m
      (λ h. to-≤ℤ _ _ (omega (arith, of-≡ _ _ v, of-≡ _ _ (scaled.edges 0 i), of-≤ℤ _ _ (grows (at f p) (fpos_at axis 0) h)))))

  -- two strong points
  rule-rule : ByRule axis f o c p → ByRule axis f o c q → at c p ≤ℤ at c q
  rule-rule a b =
      let v = scaled.points p a.there in
      let w = scaled.points q b.there in
      let m = of-<ℤ _ _ (fonts (at f p) (at f q) v w) in
      scaled-order axis rise short (at f p) (at o p) (at f q) (at o q) (at c p) (at c q) (to-≤ℤ _ _ (omega arith)) (to-≤ℤ _ _ (omega (arith, of-<ℤ _ _ l)))
      a.is b.is scale
      (not_negative scale scaled.positive) v w scaled.edges

  -- whichever they are
  pub two : OnEdge axis o c p ⊎ ByRule axis f o c p → OnEdge axis o c q ⊎ ByRule axis f o c q → at c p ≤ℤ at c q
  two (inl a) (inl b) = edge-edge a b
  two (inl a) (inr b) = edge-rule a b
  two (inr a) (inl b) = rule-edge a b
  two (inr a) (inr b) = rule-rule a b

-- ---- behind edge points
module _ (snap alone : Bool) (axis : Axis) (t : Segments) (o : List ℤ) (s : Points) (es : List ℕ) (before : Before snap alone axis t o s es)
    (yes : edge_answer alone axis t s es ≡ 0) where
  -- the points moved
  abbrev after : Points
  after = move_all snap alone axis t es s

  -- the tests of edge points hold
  tests : Taken alone axis t s es
  tests = taken alone axis t s es yes

  -- a point where an edge was comes to where that is; with snap, wherever it was
  goes-along : (p k : ℕ) → at o p ≡ (edge_at axis k).opos → moved_by snap (edge_at axis k) (at s.currents p) ≡ (edge_at axis k).pos
  unfolding moved_by
  goes-along p k e = by snap refl
    where
      by : (b : Bool) → snap ≡ b → moved_by b (edge_at axis k) (at s.currents p) ≡ (edge_at axis k).pos
      by true q = refl
      by false q = comes-along false (edge_at axis k) (at s.currents p) (ap (λ (l : List ℤ). at l p) (before.still q) ∙ e)

  -- a touched point is on an edge
  pub on-edges : (p : ℕ) → is_touched after.touched p ≡ true → OnEdge axis o after.currents p
  on-edges p m =
      ⊎_elim
      (λ (h : p < length s.currents).
      by h (last_mover alone axis t es p t.len) refl
      (moved snap alone axis t es s tests.few tests.marks tests.ends tests.walks before.once p h))
      (λ (g : length s.currents ≤ p). absurd (clash _ (none g) m)) (lt-or-le p (length s.currents))
    where
      -- behind the last point there is none
      none : length s.currents ≤ p → is_touched after.touched p ≡ false
      none g =
          let size = moved-size snap alone axis t es s tests.few tests.marks tests.ends tests.walks before.once in
          not-touched after.touched p (get_or-eq_default after.touched 0 {n = p} (omega (arith, size.marks, tests.marks)))

      by : p < length s.currents → (l : Link) → last_mover alone axis t es p t.len ≡ l → Came snap axis s after p l → OnEdge axis o after.currents p
      by h None q r =
          absurd (clash (is_touched after.touched p) (not-touched after.touched p (r.mark ∙ unmarked s.touched p (before.untouched p))) m)
      by h (Some k) q r =
          let f = last-mover alone axis t es p k q in
          let g = mover-at alone axis t es p f.segment k f.by in
          let was = before.on_edge p k h q in
          record { edge = k; there = tests.edges f.segment k f.below g.edge; was = was; is = r.current ∙ goes-along p k was }

-- ---- behind strong points
-- one of the first of a sequence
first-at : {A : Type 0} (g : ℕ → A) (n i : ℕ) (d : A) → i < n → get_or (firsts g n) i d ≡ g i
first-at {A} g n i d h = ap (λ (xs : List A). get_or xs i d) (sym (append-nil (firsts g n))) ∙ firsts_at g n i _ d h

-- a place leaves the current and the mark, or is a position
record Left (z : ℤ) (m : ℕ) (x : Place) : Type 0 where
  current : current_after z x ≡ z
  mark : mark_after m x ≡ m

record Put (z : ℤ) (x : Place) : Type 0 where
  is : x ≡ At (current_after z x)

leaves-or-puts : (z : ℤ) (m : ℕ) (x : Place) → Left z m x ⊎ Put z x
unfolding current_after mark_after
leaves-or-puts z m Stays = inl (record { current = refl; mark = refl })
leaves-or-puts z m (At y) = inr (record { is = refl })
leaves-or-puts z m Beyond = inl (record { current = refl; mark = refl })

-- no position is to stay
stays-not : {z : ℤ} → ◌≡◌ {A = Place} Stays (At z) → ⊥
stays-not e = let n : ◌≡◌ {A = ℕ} 0 1 = cc in omega arith

-- the point p was touched before, and stays
pub record Stood (c c' : List ℤ) (t : List ℕ) (p : ℕ) : Type 0 where
  pub mark : is_touched t p ≡ true
  pub is : at c' p ≡ at c p

module _ (axis : Axis) (f o c : List ℤ) (t w : List ℕ) where
  -- every point at its place
  abbrev new : Aligned
  new = aligned_all axis f o c t w

  -- where each comes to
  abbrev place : ℕ → Place
  place i = strong_at axis f o t w i

  -- one that is touched behind them stood, or is put
  pub stood-or-put : (p : ℕ) → is_touched new.touched p ≡ true → Stood c new.currents t p ⊎ ByRule axis f o new.currents p
  stood-or-put p m =
      ⊎_elim (λ (h : p < length f). by h (leaves-or-puts (at c p) (get_or t p 0) (place p))) (λ (h : length f ≤ p). absurd (none h)) (lt-or-le p (length f))
    where
      current : p < length f → at new.currents p ≡ current_after (at c p) (place p)
      current h = first-at (λ i. current_after (at c i) (place i)) (length f) p (pos 0) h

      mark : p < length f → get_or new.touched p 0 ≡ mark_after (get_or t p 0) (place p)
      mark h = first-at (λ i. mark_after (get_or t i 0) (place i)) (length f) p 0 h

      none : length f ≤ p → ⊥
      none h =
          let z = get_or-eq_default new.touched 0 {n = p} (omega (arith, firsts-length (λ i. mark_after (get_or t i 0) (place i)) (length f))) in
          omega (arith, marked new.touched p m)

      -- a position is given by the edges alone
      put : (b : Bool) → (is_touched t p || is_touched w p) ≡ b → Put (at c p) (place p) → place_of axis (at f p) (at o p) ≡ At (current_after (at c p) (place p))
      put true e r = absurd (stays-not (sym (stays axis f o c t w p e) ∙ r.is))
      put false e r = sym (placed axis f o c t w p e) ∙ r.is

      by : p < length f → Left (at c p) (get_or t p 0) (place p) ⊎ Put (at c p) (place p) → Stood c new.currents t p ⊎ ByRule axis f o new.currents p
      by h (inl r) = inl (record { mark = is-touched t p (omega (arith, marked new.touched p m, mark h, r.mark)); is = current h ∙ r.current })
      by h (inr r) = inr (record { there = h; is = put (is_touched t p || is_touched w p) refl r ∙ ap (λ (z : ℤ). At z) (sym (current h)) })
