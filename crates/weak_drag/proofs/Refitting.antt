-- What the two arcs of a touched point come to: the points that depend on it are aligned, the others stay; on its contour, and on the outline.
use mathlib.Core.Path.{◌≡◌, refl, sym, ap, subst, ◌∙◌}
use mathlib.Core.Bool.{Bool, true, false, cond, not, ◌&&◌, ◌||◌}
use mathlib.Core.List.{List, [], ◌∷◌}
use mathlib.Core.Logic.{◌⊎◌, inl, inr}
use mathlib.Core.Option.{Option, some, none}
use Prim.Native.Nat.{ℕ, suc, ◌≤◌, ◌<◌}
use native.Mathlib.Decide.{dec_lt}
use native.Mathlib.Omega.{arith}
use borrow.Author.Tests.{eqb-true, eq-eqb, leb-true, le-leb, lt-leb}
use lib.Dec.{eqb, leb, ltb}
use lib.ListN.{length, get_or}
use lib.IntN.{ℤ, ◌+ℤ◌, ◌-ℤ◌}
use lib.Signed.{lt_z, le_z}
use Rattle.signed.specs.Equality.{eq_z}
use Rattle.signed.proofs.Signed.{signed}
use Rattle.refusals.proofs.Tests.{and_first, and_second}
use Rattle.weak_contour.specs.Contour.{
  at,
  Contour,
  is_touched,
  touched_before,
  touched_behind,
  References,
  refs,
  paired,
  references,
  first_of,
  second_of,
  interpolated,
  between_at,
  shifted_at,
  weak_at,
}
use Rattle.weak_contour.proofs.Searches.{not-touched, unmarked}
use Rattle.weak_contour.proofs.References.{refs-on}
use Rattle.weak_contour.proofs.Points.{weak-one, weak-two}
use Rattle.weak.specs.Weak.{ends_hold, contour_of, steep_on, on_contour, aligned_at}
use Rattle.weak.specs.Steps.{GentleAll}
use Rattle.weak.proofs.Contours.{Holds, contour-holds}
use Rattle.weak_known.specs.Walks.{contour, GentleOn}
use Rattle.weak_known.proofs.Agreeing.{between-reads}
use Rattle.weak_drag.specs.Drag.{is_reference, refers_on, depends, dragged_at}
use Rattle.weak_drag.specs.Steps.{InArc, Arc, ArcWrote, DependsOn, Refitted, DragDone}
use Rattle.weak_drag.proofs.Arcs.{arc-on, arc-refs, arc-free, refers-before, refers-behind}

-- ---- references
-- p is one of the references r
record Reference (p : ℕ) (r : Option References) : Type 0 where
  by : References
  is : r ≡ some by
  which : (by.before ≡ p) ⊎ (by.behind ≡ p)

or_cases : (x y : Bool) → (x || y) ≡ true → (x ≡ true) ⊎ (y ≡ true)
or_cases true y h = inl refl
or_cases false y h = inr h

or-second : (x y : Bool) → y ≡ true → (x || y) ≡ true
or-second true y e = refl
or-second false y e = e

refers-cases : (p : ℕ) (r : Option References) → is_reference p r ≡ true → Reference p r
unfolding is_reference
refers-cases p none e = let z : ◌≡◌ {A = ℕ} 0 1 = cc in absurd (omega arith)
refers-cases p (some r) e = go (or_cases (eqb r.before p) (eqb r.behind p) e)
  where
    go : (eqb r.before p ≡ true) ⊎ (eqb r.behind p ≡ true) → Reference p (some r)
    go (inl q) = record { by = r; is = refl; which = inl (eqb-true r.before p q) }
    go (inr q) = record { by = r; is = refl; which = inr (eqb-true r.behind p q) }

is_one : (p a b : ℕ) → (a ≡ p) ⊎ (b ≡ p) → is_reference p (some (refs a b)) ≡ true
unfolding is_reference
is_one p a b (inl q) = rw (eq-eqb a p q)
is_one p a b (inr q) = or-second (eqb a p) (eqb b p) (eq-eqb b p q)

-- both were found
paired-found : (x y : Option ℕ) (r : References) → paired x y ≡ some r → (x ≡ some r.before) × (y ≡ some r.behind)
paired-found none y r q = let z : ◌≡◌ {A = ℕ} 0 1 = cc in absurd (omega arith)
paired-found (some a) none r q = let z : ◌≡◌ {A = ℕ} 0 1 = cc in absurd (omega arith)
paired-found (some a) (some b) r q =
    let g : refs a b ≡ r = cc in
    (ap (λ (z : References). some z.before) g, ap (λ (z : References). some z.behind) g)

refs-found : (t : List ℕ) (k : Contour) (i : ℕ) (r : References) → references t k i ≡ some r
    → (touched_before t k i ≡ some r.before) × (touched_behind t k i ≡ some r.behind)
unfolding references
refs-found t k i r e = paired-found (touched_before t k i) (touched_behind t k i) r e

-- ---- on the contour from s up to e
-- the points of an arc that ends at p depend on it
arc-depends : (t : List ℕ) (s e p a b : ℕ) → Arc t s e a b → (a ≡ p) ⊎ (b ≡ p) → (i : ℕ) → InArc s e a b i → DependsOn t s e p i
arc-depends t s e p a b r w i q =
    let h = arc-on s e a b i r.from_low r.to_high q in
    record { low = h.0; high = h.1; free = r.clear i q; refers = ap (is_reference p) (arc-refs t s e a b r i q) ∙ is_one p a b w }

-- touched points stay where an arc is written
pub arc-kept : (f : ℕ → ℤ) (t : List ℕ) (s e a b : ℕ) (c d : List ℤ) → Arc t s e a b → ArcWrote f s e a b c d → (x : ℕ) → 0 < get_or t x 0 → at d x ≡ at c x
arc-kept f t s e a b c d r w x m = w.outside x (arc-free t s e a b r x m)

-- the arc from p to p is the rest of the contour
rest_in : (s e p i : ℕ) → s ≤ i → i < e → (i ≡ p → ⊥) → InArc s e p p i
rest_in s e p i l h n = by (dec_lt p i) (dec_lt i p)
  where
    by : Dec (p < i) → Dec (i < p) → InArc s e p p i
    by (yes x) y = inr (inl (omega arith, (x, h)))
    by (no x) (yes y) = inr (inr (omega arith, (l, y)))
    by (no x) (no y) = absurd (n (omega arith))

-- one reference twice: the shift, where it moved
cond_same : (b : Bool) (x : ℕ) → cond b x x ≡ x
cond_same true x = refl
cond_same false x = refl

by_one : (v u w x : ℤ) → eq_z u w ≡ false → interpolated v w u w u ≡ cond (eq_z u w) x (v +ℤ (u -ℤ w))
unfolding interpolated
by_one v u w x m = by (le_z v w) refl (le_z w v) refl
  where
    by : (a : Bool) → le_z v w ≡ a → (b : Bool) → le_z w v ≡ b → interpolated v w u w u ≡ cond (eq_z u w) x (v +ℤ (u -ℤ w))
    by true p b q = rw (p, m)
    by false p true q = rw (p, q, m)
    by false p false q = absurd (omega (arith, signed))

between-one : (o c : List ℤ) (p i : ℕ) → eq_z (at c p) (at o p) ≡ false → between_at o c (refs p p) i ≡ shifted_at o c p i
unfolding between_at first_of second_of shifted_at
between-one o c p i m = rw (cond_same (lt_z (at o p) (at o p)) p) (by_one (at o i) (at c p) (at o p) (at c i) m)

shifted_none : (o c : List ℤ) (p i : ℕ) → eq_z (at c p) (at o p) ≡ true → shifted_at o c p i ≡ at c i
unfolding shifted_at
shifted_none o c p i m = rw m

module _ (o c : List ℤ) (t : List ℕ) (s e p : ℕ) where
  -- p is the only touched point
  module _ (r : Arc t s e p p) where
    lone-in : (i : ℕ) → DependsOn t s e p i → InArc s e p p i
    lone-in i q = rest_in s e p i q.low q.high (λ z. let y = subst (λ (x : ℕ). get_or t x 0 ≡ 0) z q.free in omega (arith, y, r.from_mark))

    lone-weak : (i : ℕ) (q : DependsOn t s e p i) → weak_at o c t (contour s e) i ≡ shifted_at o c p i
    lone-weak i q = weak-one o c t (contour s e) i p q.free (arc-refs t s e p p r i (lone-in i q))

    pub refit-still : eq_z (at c p) (at o p) ≡ true → Refitted o c t s e p c
    refit-still m = record { len = refl; moved = λ i q. sym (lone-weak i q ∙ shifted_none o c p i m); kept = λ i n. refl }

    pub refit-lone : (d : List ℤ) → eq_z (at c p) (at o p) ≡ false → ArcWrote (between_at o c (refs p p)) s e p p c d → Refitted o c t s e p d
    refit-lone d m w = record {
      len = w.len;
      moved = λ i q. w.inside i (lone-in i q) ∙ between-one o c p i m ∙ sym (lone-weak i q);
      kept = λ i n. w.outside i (λ q. n (arc-depends t s e p p p r (inl refl) i q));
    }

  -- there are others: n the next behind it and l the next before it
  module _ (n l : ℕ) (x : Arc t s e p n) (other : n ≡ p → ⊥) (y : Arc t s e l p) (d₁ d : List ℤ) (v : ArcWrote (between_at o c (refs p n)) s e p n c d₁)
      (w : ArcWrote (between_at o d₁ (refs l p)) s e l p d₁ d) where
    before-other : l ≡ p → ⊥
    before-other q =
        let z : Arc t s e p p = subst (λ (a : ℕ). Arc t s e a p) q y in
        arc-free t s e p p z n x.to_mark (rest_in s e p n x.to_low x.to_high other)

    -- no point lies on both arcs
    apart : (i : ℕ) → InArc s e p n i → InArc s e l p i → ⊥
    apart i a b =
        let q : some (refs p n) ≡ some (refs l p) = sym (arc-refs t s e p n x i a) ∙ arc-refs t s e l p y i b in
        before-other (sym (ap (λ (r : Option References). lead r) q))
      where
        lead : Option References → ℕ
        lead none = 0
        lead (some r) = r.before

    both-moved : (i : ℕ) (q : DependsOn t s e p i) → Reference p (references t (contour s e) i) → at d i ≡ weak_at o c t (contour s e) i
    both-moved i q r = by r.which
      where
        found : (touched_before t (contour s e) i ≡ some r.by.before) × (touched_behind t (contour s e) i ≡ some r.by.behind)
        found = refs-found t (contour s e) i r.by r.is

        by : (r.by.before ≡ p) ⊎ (r.by.behind ≡ p) → at d i ≡ weak_at o c t (contour s e) i
        by (inl z) =
            let a = refers-before t s e i q.low q.high q.free p n x (found.0 ∙ ap some z) in
            w.outside i (apart i a) ∙ v.inside i a ∙ sym (weak-two o c t (contour s e) i p n q.free (arc-refs t s e p n x i a) (λ k. other (sym k)))
        by (inr z) =
            let a = refers-behind t s e i q.low q.high q.free l p y (found.1 ∙ ap some z) in
            w.inside i a
            ∙ between-reads o c d₁ i (refs l p) (arc-kept _ t s e p n c d₁ x v l y.from_mark) (arc-kept _ t s e p n c d₁ x v p x.from_mark)
            ∙ sym (weak-two o c t (contour s e) i l p q.free (arc-refs t s e l p y i a) before-other)

    pub refit-two : Refitted o c t s e p d
    refit-two = record {
      len = w.len ∙ v.len;
      moved = λ i q. both-moved i q (refers-cases p (references t (contour s e) i) q.refers);
      kept = λ i n'. w.outside i (λ q. n' (arc-depends t s e p l p y (inr refl) i q)) ∙ v.outside i (λ q. n' (arc-depends t s e p p n x (inl refl) i q));
    }

-- ---- on the outline
-- a contour starts where the search has come to, or behind
start-from : (z n i : ℕ) (es : List ℕ) (k : Contour) → ends_hold z n es ≡ true → contour_of z es i ≡ some k → z ≤ k.start
unfolding ends_hold contour_of
start-from z n i [] k h e = let w : ◌≡◌ {A = ℕ} 0 1 = cc in absurd (omega arith)
start-from z n i (x ∷ es) k h e =
    let a = and_second (leb z x) (ltb x n && ends_hold (suc x) n es) h in
    by (leb i x) refl (leb-true z x (and_first (leb z x) (ltb x n && ends_hold (suc x) n es) h))
    (start-from (suc x) n i es k (and_second (ltb x n) (ends_hold (suc x) n es) a))
  where
    by : (b : Bool) → leb i x ≡ b → z ≤ x → (contour_of (suc x) es i ≡ some k → suc x ≤ k.start) → z ≤ k.start
    by true q m rec =
        let f : some (record { start = z; end = suc x }) ≡ some k = rw q at e in
        let g : z ≡ k.start = cc in
        omega arith
    by false q m rec = let g = rec (rw q at e) in omega arith

-- every point of a contour that was found is on it
contour-same : (z n p i : ℕ) (es : List ℕ) (k : Contour) → ends_hold z n es ≡ true → contour_of z es p ≡ some k → k.start ≤ i → i < k.end
    → contour_of z es i ≡ some k
unfolding ends_hold contour_of
contour-same z n p i [] k h e l u = let w : ◌≡◌ {A = ℕ} 0 1 = cc in absurd (omega arith)
contour-same z n p i (x ∷ es) k h e l u =
    let a = and_second (leb z x) (ltb x n && ends_hold (suc x) n es) h in
    let b = and_second (ltb x n) (ends_hold (suc x) n es) a in
    by (leb p x) refl b (contour-same (suc x) n p i es k b)
  where
    by : (b : Bool) → leb p x ≡ b → ends_hold (suc x) n es ≡ true
        → (contour_of (suc x) es p ≡ some k → k.start ≤ i → i < k.end → contour_of (suc x) es i ≡ some k) → contour_of z (x ∷ es) i ≡ some k
    by true q m rec =
        let f : some (record { start = z; end = suc x }) ≡ some k = rw q at e in
        let g : suc x ≡ k.end = cc in
        rw (le-leb i x (omega arith)) f
    by false q m rec =
        let f : contour_of (suc x) es p ≡ some k = rw q at e in
        let g = start-from (suc x) n p es k m f in
        rw (lt-leb i x (omega arith)) (rec f l u)

-- currents that are the same
pub refitted-as : (o c x : List ℤ) (t : List ℕ) (s e p : ℕ) (d : List ℤ) → x ≡ c → Refitted o x t s e p d → Refitted o c t s e p d
refitted-as o c x t s e p d q r = subst (λ (y : List ℤ). Refitted o y t s e p d) q r

-- where no point of the outline is too steep, none of a contour is
pub gentle-here : (o c : List ℤ) (t es : List ℕ) (s e : ℕ) → GentleAll o c t es → e ≤ length o
    → ((i : ℕ) → s ≤ i → i < e → contour_of 0 es i ≡ some (contour s e)) → GentleOn o c t s e
unfolding steep_on
gentle-here o c t es s e g h on i a b = rw (on i a b) at (g i (omega arith))

module _ (t es : List ℕ) (n p : ℕ) (ends : ends_hold 0 n es ≡ true) where
  -- what depends on p is on p's contour
  on_same : (i : ℕ) (k : Contour) → contour_of 0 es i ≡ some k → is_reference p (references t k i) ≡ true → contour_of 0 es p ≡ some k
  on_same i k e q = by (refers-cases p (references t k i) q)
    where
      h : Holds n i k
      h = contour-holds 0 n i es k (omega arith) ends e

      by : Reference p (references t k i) → contour_of 0 es p ≡ some k
      by r = go r.which
        where
          a : ((k.start ≤ r.by.before) × (r.by.before < k.end) × (0 < get_or t r.by.before 0))
              × ((k.start ≤ r.by.behind) × (r.by.behind < k.end) × (0 < get_or t r.by.behind 0))
          a = refs-on t k i h.low h.high r.by r.is

          go : (r.by.before ≡ p) ⊎ (r.by.behind ≡ p) → contour_of 0 es p ≡ some k
          go (inl z) = contour-same 0 n i p es k ends e (rw (sym z) a.0.0) (rw (sym z) a.0.1)
          go (inr z) = contour-same 0 n i p es k ends e (rw (sym z) a.1.0) (rw (sym z) a.1.1)

  -- what a point that depends on p is
  record On (i : ℕ) : Type 0 where
    contour' : Contour
    found : contour_of 0 es i ≡ some contour'
    holds : Holds n i contour'
    free : is_touched t i ≡ false
    refers : is_reference p (references t contour' i) ≡ true
    same : contour_of 0 es p ≡ some contour'

  on : (i : ℕ) → depends t es p i ≡ true → On i
  unfolding depends refers_on
  on i q = by (contour_of 0 es i) refl (and_second (not (is_touched t i)) (refers_on t (contour_of 0 es i) p i) q)
    where
      free : (b : Bool) → not b ≡ true → b ≡ false
      free true h = sym h
      free false h = refl

      by : (k : Option Contour) → contour_of 0 es i ≡ k → refers_on t k p i ≡ true → On i
      by none e h = let z : ◌≡◌ {A = ℕ} 0 1 = cc in absurd (omega arith)
      by (some k) e h = record {
        contour' = k;
        found = e;
        holds = contour-holds 0 n i es k (omega arith) ends e;
        free = free (is_touched t i) (and_first (not (is_touched t i)) (refers_on t (contour_of 0 es i) p i) q);
        refers = h;
        same = on_same i k e h;
      }

  pub depends-below : (i : ℕ) → depends t es p i ≡ true → i < n
  depends-below i q = let h = (on i q).holds in omega (arith, h)

  module _ (o c : List ℤ) where
    no_true : (b : Bool) → b ≡ true → b ≡ false → ⊥
    no_true b x y = let w : true ≡ false = sym x ∙ y in let v : ◌≡◌ {A = ℕ} 0 1 = cc in omega arith

    -- p is on no contour: nothing depends on it
    pub done_none : contour_of 0 es p ≡ none → DragDone o c t es p c
    unfolding dragged_at
    done_none e = record { len = refl; each = λ i h. by i (depends t es p i) refl }
      where
        by : (i : ℕ) (b : Bool) → depends t es p i ≡ b → at c i ≡ cond (depends t es p i) (aligned_at o c t es i) (at c i)
        by i true q = let f : none ≡ some (on i q).contour' = sym e ∙ (on i q).same in let v : ◌≡◌ {A = ℕ} 0 1 = cc in absurd (omega arith)
        by i false q = rw q

    -- it is on the contour from s up to e
    module _ (s e : ℕ) (mine : contour_of 0 es p ≡ some (contour s e)) (d : List ℤ) (r : Refitted o c t s e p d) where
      here : (i : ℕ) (q : On i) → q.contour' ≡ contour s e
      here i q = let f : some q.contour' ≡ some (contour s e) = sym q.same ∙ mine in cc

      depends-here : (i : ℕ) → DependsOn t s e p i → depends t es p i ≡ true
      unfolding depends refers_on
      depends-here i q = rw (not-touched t i q.free, contour-same 0 n p i es (contour s e) ends mine q.low q.high) q.refers

      dependant : (i : ℕ) (q : On i) (k : Contour) → q.contour' ≡ k → k ≡ contour s e → DependsOn t s e p i
      dependant i q k a b =
          let f : q.contour' ≡ contour s e = a ∙ b in
          record {
            low = let h = q.holds.low in let z = ap (λ (x : Contour). x.start) f in omega arith;
            high = let h = q.holds.high in let z = ap (λ (x : Contour). x.end) f in omega arith;
            free = unmarked t i q.free;
            refers = ap (λ (x : Contour). is_reference p (references t x i)) (sym f) ∙ q.refers;
          }

      aligned : (i : ℕ) (q : On i) → weak_at o c t (contour s e) i ≡ aligned_at o c t es i
      unfolding aligned_at on_contour
      aligned i q = rw q.found (ap (λ (x : Contour). weak_at o c t x i) (sym (here i q)))

      pub done-contour : DragDone o c t es p d
      unfolding dragged_at
      done-contour = record { len = r.len; each = λ i h. by i (depends t es p i) refl }
        where
          by : (i : ℕ) (b : Bool) → depends t es p i ≡ b → at d i ≡ cond (depends t es p i) (aligned_at o c t es i) (at c i)
          by i true q = let k = on i q in rw q (r.moved i (dependant i k k.contour' refl (here i k)) ∙ aligned i k)
          by i false q = rw q (r.kept i (λ z. no_true (depends t es p i) (depends-here i z) q))
