-- The arcs of a contour between touched points: how they are found, whose references their ends are, and how one is written.
use mathlib.Core.Path.{◌≡◌, refl, sym, ap, subst, ◌∙◌}
use mathlib.Core.List.{List}
use mathlib.Core.Logic.{inl, inr, ⊎_elim}
use mathlib.Core.Option.{Option, some, none}
use Prim.Native.Nat.{ℕ, suc, ◌+◌, ◌-◌, ◌≤◌, ◌<◌}
use native.Mathlib.Decide.{dec_lt}
use native.Mathlib.Nat.{eq-or-lt_of_le}
use native.Mathlib.Omega.{arith}
use lib.ListN.{get_or}
use lib.IntN.{ℤ}
use Rattle.signed.proofs.Signed.{lt-or-le}
use Rattle.weak_contour.specs.Contour.{at, first_touched, last_touched, touched_before, touched_behind, refs, references, between_at}
use Rattle.weak_contour.specs.Steps.{Clear, Wrote, GentleRefs}
use Rattle.weak_contour.proofs.Searches.{First, first_is, first-clear, Last, last_is, last-clear, found-by}
use Rattle.weak_contour.proofs.References.{refs-gap, refs-behind, refs-front}
use Rattle.weak_contour.proofs.Points.{steep-two}
use Rattle.weak_known.specs.Walks.{contour, found_or, GentleOn}
use Rattle.weak_known.proofs.Agreeing.{between-reads, steep-reads}
use Rattle.weak_drag.specs.Steps.{InArc, Arc, GentleArc, ArcWrote}

-- a point of the arc is one of the contour
pub arc-on : (s e a b i : ℕ) → s ≤ a → b < e → InArc s e a b i → (s ≤ i) × (i < e)
arc-on s e a b i l h (inl q) = (omega (arith, q), omega (arith, q))
arc-on s e a b i l h (inr (inl q)) = (omega (arith, q), q.1.1)
arc-on s e a b i l h (inr (inr q)) = (q.1.0, omega (arith, q))

-- ---- the ends of an arc are the references of its points
module _ (t : List ℕ) (s e a b : ℕ) (r : Arc t s e a b) where
  pub arc-refs : (i : ℕ) → InArc s e a b i → references t (contour s e) i ≡ some (refs a b)
  arc-refs i (inl q) =
      let l = r.from_low in
      let h = r.to_high in
      refs-gap t (contour s e) i (omega (arith, q)) (omega (arith, q)) a b l q.0 q.1 h r.from_mark r.to_mark
      (λ z x y. r.clear z (inl (omega arith, x)))
  arc-refs i (inr (inl q)) =
      let l = r.from_low in
      refs-behind t (contour s e) i (omega (arith, q)) q.1.1 b a r.to_low q.0 r.from_high r.to_mark r.from_mark
      (λ z x y. r.clear z (inr (inr (q.0, (y, x))))) (λ z x y. r.clear z (inr (inl (q.0, (omega arith, x))))) q.1.0
  arc-refs i (inr (inr q)) =
      let h = r.to_high in
      refs-front t (contour s e) i q.1.0 (omega (arith, q)) b a r.to_low q.0 r.from_high r.to_mark r.from_mark
      (λ z x y. r.clear z (inr (inr (q.0, (y, x))))) (λ z x y. r.clear z (inr (inl (q.0, (omega arith, x))))) q.1.1

  -- a touched point lies on no arc
  pub arc-free : (i : ℕ) → 0 < get_or t i 0 → InArc s e a b i → ⊥
  arc-free i m q = omega (arith, r.clear i q)

  -- where no point of the contour is too steep, none of the arc is
  pub arc-gentle : (o c : List ℤ) → GentleOn o c t s e → GentleArc o c s e a b
  arc-gentle o c g i q =
      let w = arc-on s e a b i r.from_low r.to_high q in
      steep-two o c t (contour s e) i a b (r.clear i q) (arc-refs i q) (g i w.0 w.1)

-- ---- and a point whose reference p is lies on one of its two arcs
module _ (t : List ℕ) (s e i : ℕ) (low : s ≤ i) (high : i < e) (free : get_or t i 0 ≡ 0) where
  -- a touched point that is not behind i is in front of it, and the other way
  in_front : (x : ℕ) → 0 < get_or t x 0 → (i < x → ⊥) → x < i
  in_front x m n =
      ⊎_elim (λ h. h) (λ l. ⊎_elim (λ q. absurd (let z = subst (λ (y : ℕ). get_or t y 0 ≡ 0) q free in omega (arith, z))) (λ h. absurd (n h))
      (eq-or-lt_of_le l)) (lt-or-le x i)

  behind : (x : ℕ) → 0 < get_or t x 0 → (x < i → ⊥) → i < x
  behind x m n =
      ⊎_elim (λ h. absurd (n h)) (λ l. ⊎_elim (λ q. absurd (let z = subst (λ (y : ℕ). get_or t y 0 ≡ 0) q free in omega (arith, z))) (λ h. h)
      (eq-or-lt_of_le l)) (lt-or-le x i)

  pub refers-before : (p n : ℕ) → Arc t s e p n → touched_before t (contour s e) i ≡ some p → InArc s e p n i
  unfolding touched_before
  refers-before p n r q =
      let x : s + (i - s) ≡ i = omega arith in
      let y : s + (e - s) ≡ e = omega arith in
      ⊎_elim (λ a. near (rw x at (last_is t s (i - s) p a)) (dec_lt p n))
      (λ a. far (rw x at (last-clear t s (i - s) a.0)) (rw y at (last_is t s (e - s) p a.1)))
      (found-by (last_touched t s (i - s)) (last_touched t s (e - s)) p q)
    where
      near : Last t s i p → Dec (p < n) → InArc s e p n i
      near l (yes h) = inl (l.high, behind n r.to_mark (λ k. let z = l.clear n k h in omega (arith, z, r.to_mark)))
      near l (no h) = inr (inl (omega arith, (l.high, high)))

      far : Clear t s i → Last t s e p → InArc s e p n i
      far c l =
          let a : i < n = behind n r.to_mark (λ k. let z = c n k r.to_low in omega (arith, z, r.to_mark)) in
          inr (inr (⊎_elim (λ h. absurd (let z = l.clear n r.to_high h in omega (arith, z, r.to_mark))) (λ h. h) (lt-or-le p n), (low, a)))

  pub refers-behind : (l p : ℕ) → Arc t s e l p → touched_behind t (contour s e) i ≡ some p → InArc s e l p i
  unfolding touched_behind
  refers-behind l p r q =
      let x : suc i + (e - suc i) ≡ e = omega arith in
      let y : s + (e - s) ≡ e = omega arith in
      ⊎_elim (λ a. near (rw x at (first_is t (suc i) (e - suc i) p a)) (dec_lt l p))
      (λ a. far (rw x at (first-clear t (suc i) (e - suc i) a.0)) (rw y at (first_is t s (e - s) p a.1)))
      (found-by (first_touched t (suc i) (e - suc i)) (first_touched t s (e - s)) p q)
    where
      near : First t (suc i) e p → Dec (l < p) → InArc s e l p i
      near f (yes h) = inl (in_front l r.from_mark (λ k. let z = f.clear l h k in omega (arith, z, r.from_mark)), f.low)
      near f (no h) = inr (inr (omega arith, (low, f.low)))

      far : Clear t (suc i) e → First t s e p → InArc s e l p i
      far c f =
          let a : l < i = in_front l r.from_mark (λ k. let z = c l r.from_high k in omega (arith, z, r.from_mark)) in
          inr (inl (⊎_elim (λ h. absurd (let z = f.clear l h r.from_low in omega (arith, z, r.from_mark))) (λ h. h) (lt-or-le l p), (a, high)))

-- ---- how they are found
found_some : (x : Option ℕ) (n r : ℕ) → r ≡ found_or n x → r < n → x ≡ some r
unfolding found_or
found_some none n r e h = absurd (omega arith)
found_some (some y) n r e h = ap some (sym e)

module _ (t : List ℕ) (s e p : ℕ) (low : s ≤ p) (high : p < e) (mark : 0 < get_or t p 0) where
  -- the next behind p in front of the end
  pub next-found : (r : ℕ) → r ≡ found_or e (first_touched t (p + 1) (e - (p + 1))) → r < e → Arc t s e p r
  next-found r q h =
      let z : p + 1 + (e - (p + 1)) ≡ e = omega arith in
      let f : First t (p + 1) e r = rw z at (first_is t (p + 1) (e - (p + 1)) r (found_some _ e r q h)) in
      record {
        from_low = low;
        from_high = high;
        from_mark = mark;
        to_low = omega (arith, f.low);
        to_high = h;
        to_mark = f.mark;
        clear =
            λ i. ⊎_elim (λ m. f.clear i m.1 (omega (arith, m.0)))
            (⊎_elim (λ m. absurd (omega (arith, m.0, f.low))) (λ m. absurd (omega (arith, m.0, f.low))));
      }

  -- none there: the first of the contour
  pub next-around : (x r : ℕ) → x ≡ found_or e (first_touched t (p + 1) (e - (p + 1))) → e ≤ x → r ≡ found_or e (first_touched t s (e - s)) → Arc t s e p r
  unfolding found_or
  next-around x r q h v = by (first_touched t (p + 1) (e - (p + 1))) refl (first_touched t s (e - s)) refl q v
    where
      z : p + 1 + (e - (p + 1)) ≡ e
      z = omega arith

      y : s + (e - s) ≡ e
      y = omega arith

      by : (m : Option ℕ) → first_touched t (p + 1) (e - (p + 1)) ≡ m → (n : Option ℕ) → first_touched t s (e - s) ≡ n → x ≡ found_or e m → r ≡ found_or e n
          → Arc t s e p r
      by (some k) em n en a b = let f : First t (p + 1) e k = rw z at (first_is t (p + 1) (e - (p + 1)) k em) in absurd (omega (arith, f.high))
      by none em none en a b = let c : Clear t s e = rw y at (first-clear t s (e - s) en) in absurd (let w = c p high low in omega (arith, w))
      by none em (some k) en a b =
          let c : Clear t (p + 1) e = rw z at (first-clear t (p + 1) (e - (p + 1)) em) in
          let g : First t s e k = rw y at (first_is t s (e - s) k en) in
          let f : First t s e r = subst (First t s e) (sym b) g in
          record {
            from_low = low;
            from_high = high;
            from_mark = mark;
            to_low = f.low;
            to_high = f.high;
            to_mark = f.mark;
            clear =
                λ i. ⊎_elim (λ m. c i (omega (arith, m, f.high)) (omega (arith, m)))
                (⊎_elim (λ m. c i m.1.1 (omega (arith, m.1.0))) (λ m. f.clear i m.1.1 m.1.0));
          }

  -- the next before p behind the start
  pub prior-found : (r : ℕ) → r ≡ found_or p (last_touched t s (p - s)) → r < p → Arc t s e r p
  prior-found r q h =
      let z : s + (p - s) ≡ p = omega arith in
      let f : Last t s p r = rw z at (last_is t s (p - s) r (found_some _ p r q h)) in
      record {
        from_low = f.low;
        from_high = omega arith;
        from_mark = f.mark;
        to_low = low;
        to_high = high;
        to_mark = mark;
        clear = λ i. ⊎_elim (λ m. f.clear i m.1 (omega (arith, m.0))) (⊎_elim (λ m. absurd (omega (arith, m.0))) (λ m. absurd (omega (arith, m.0))));
      }

  -- none there: the last of the contour
  pub prior-around : (x r : ℕ) → x ≡ found_or p (last_touched t s (p - s)) → p ≤ x → r ≡ found_or e (last_touched t s (e - s)) → Arc t s e r p
  unfolding found_or
  prior-around x r q h v = by (last_touched t s (p - s)) refl (last_touched t s (e - s)) refl q v
    where
      z : s + (p - s) ≡ p
      z = omega arith

      y : s + (e - s) ≡ e
      y = omega arith

      by : (m : Option ℕ) → last_touched t s (p - s) ≡ m → (n : Option ℕ) → last_touched t s (e - s) ≡ n → x ≡ found_or p m → r ≡ found_or e n → Arc t s e r p
      by (some k) em n en a b = let f : Last t s p k = rw z at (last_is t s (p - s) k em) in absurd (omega (arith, f.high))
      by none em none en a b = let c : Clear t s e = rw y at (last-clear t s (e - s) en) in absurd (let w = c p high low in omega (arith, w))
      by none em (some k) en a b =
          let c : Clear t s p = rw z at (last-clear t s (p - s) em) in
          let g : Last t s e k = rw y at (last_is t s (e - s) k en) in
          let f : Last t s e r = subst (Last t s e) (sym b) g in
          record {
            from_low = f.low;
            from_high = f.high;
            from_mark = f.mark;
            to_low = low;
            to_high = high;
            to_mark = mark;
            clear =
                λ i. ⊎_elim (λ m. f.clear i (omega (arith, m)) (omega (arith, m.0)))
                (⊎_elim (λ m. f.clear i m.1.1 (omega (arith, m.1.0))) (λ m. c i m.1.1 m.1.0));
          }

-- ---- how one is written
module _ (o c : List ℤ) (s e a b : ℕ) (la : s ≤ a) (ha : a < e) (lb : s ≤ b) (hb : b < e) where
  -- between its ends
  pub arc-near : (d : List ℤ) → a < b → Wrote (between_at o c (refs a b)) (a + 1) b c d → ArcWrote (between_at o c (refs a b)) s e a b c d
  arc-near d h w = record {
    len = w.len;
    inside = λ i. ⊎_elim (λ m. w.inside i (omega (arith, m.0)) m.1) (⊎_elim (λ m. absurd (omega (arith, m.0))) (λ m. absurd (omega (arith, m.0))));
    outside = λ i n. by i n (dec_lt a i) (dec_lt i b);
  }
    where
      by : (i : ℕ) → (InArc s e a b i → ⊥) → Dec (a < i) → Dec (i < b) → at d i ≡ at c i
      by i n (yes x) (yes y) = absurd (n (inl (x, y)))
      by i n (yes x) (no y) = w.above i (omega arith)
      by i n (no x) y = w.below i (omega arith)

  -- around the contour's seam: first up to the end
  module _ (h : b ≤ a) (d₁ : List ℤ) (w : Wrote (between_at o c (refs a b)) (a + 1) e c d₁) where
    pub kept_from : at d₁ a ≡ at c a
    kept_from = w.below a (omega arith)

    pub kept-to : at d₁ b ≡ at c b
    kept-to = w.below b (omega arith)

    -- then from the start on
    pub gentle-front : GentleArc o c s e a b → GentleRefs o d₁ (refs a b) s b
    gentle-front g i x y = steep-reads o c d₁ i (refs a b) kept_from kept-to ∙ g i (inr (inr (h, (x, y))))

    pub arc-seam : (d : List ℤ) → Wrote (between_at o d₁ (refs a b)) s b d₁ d → ArcWrote (between_at o c (refs a b)) s e a b c d
    arc-seam d v = record {
      len = v.len ∙ w.len;
      inside = λ i. ⊎_elim (λ m. absurd (omega (arith, m)))
          (⊎_elim (λ m. v.above i (omega (arith, m)) ∙ w.inside i (omega (arith, m)) m.1.1)
          (λ m. v.inside i m.1.0 m.1.1 ∙ between-reads o c d₁ i (refs a b) kept_from kept-to));
      outside = λ i n. by i n (dec_lt i b) (dec_lt i s) (dec_lt a i) (dec_lt i e);
    }
      where
        by : (i : ℕ) → (InArc s e a b i → ⊥) → Dec (i < b) → Dec (i < s) → Dec (a < i) → Dec (i < e) → at d i ≡ at c i
        by i n (yes x) (yes y) u k = v.below i y ∙ w.below i (omega arith)
        by i n (yes x) (no y) u k = absurd (n (inr (inr (h, (omega arith, x)))))
        by i n (no x) y (yes u) (yes k) = absurd (n (inr (inl (h, (u, k)))))
        by i n (no x) y (yes u) (no k) = v.above i (omega arith) ∙ w.above i (omega arith)
        by i n (no x) y (no u) k = v.above i (omega arith) ∙ w.below i (omega arith)
