-- The list undone gives the axis back, field by field.
use Rattle.std.specs.Prelude.{None, Some}
use mathlib.Core.Path.{◌≡◌, refl, sym, ap, ◌∙◌}
use mathlib.Core.Bool.{Bool, true, false, cond, ◌&&◌}
use mathlib.Core.List.{List, [], ◌∷◌, ◌++◌}
use mathlib.Core.Logic.{⊎_elim}
use Prim.Native.Nat.{ℕ, zero, suc, ◌+◌, ◌≤◌, ◌<◌}
use native.Mathlib.Nat.{eq-or-lt_of_le}
use native.Mathlib.Omega.{arith}
use borrow.Author.Tests.{eq-eqb, ne_eqb, eqb-true}
use lib.Dec.{eqb}
use Rattle.axis.proofs.Tests.{and-false}
use Rattle.axis.specs.declared.edge.Edge.{Edge}
use Rattle.axis.specs.declared.edge.Axis.{Axis}
use Rattle.axis.specs.Link.{Link}
use Rattle.axis.specs.declared.segment.Segment.{Segment}
use Rattle.axis.specs.declared.segment.Segments.{Segments}
use Rattle.axis.specs.Edge.{edge_at}
use Rattle.axis.specs.Segment.{segment_at}
use Rattle.axis.proofs.Sound.{never}
use Rattle.mend.specs.Altered.{
  Table,
  Field,
  Alteration,
  table_number,
  field_number,
  same_link,
  listed,
  of_segment,
  of_edge,
  in_order,
  alterations,
  is_field,
  before,
}
use Rattle.mend.specs.Altered as L

-- ---- lists behind each other
before-append : (xs ys : List Alteration) (x : Table) (i : ℕ) (f : Field) (now : Link) → before (xs ++ ys) x i f now ≡ before xs x i f (before ys x i f now)
unfolding before
before-append [] ys x i f now = refl
before-append (a ∷ xs) ys x i f now = ap (cond (is_field a x i f) a.old) (before-append xs ys x i f now)

-- ---- one field
same-is : (a b : Link) → same_link a b ≡ true → a ≡ b
same-is None None e = refl
same-is None (Some k) e = never e
same-is (Some j) None e = never e
same-is (Some j) (Some k) e = ap Some (eqb-true j k e)

-- its own entry
here : (x : Table) (i : ℕ) (f : Field) (a b : Link) → before (listed x i f a b) x i f b ≡ a
unfolding before
here x i f a b = by (same_link a b) refl
  where
    by : (t : Bool) → same_link a b ≡ t → before (cond t [] (record { table = x; index = i; field = f; old = a; new = b } ∷ [])) x i f b ≡ a
    by true e = sym (same-is a b e)
    by false e = rw (eq-eqb (table_number x) (table_number x) refl, eq-eqb (field_number f) (field_number f) refl, eq-eqb i i refl)

-- that of another
skips : (y x : Table) (j i : ℕ) (g f : Field) (a b now : Link)
    → ((eqb (table_number y) (table_number x) && eqb (field_number g) (field_number f)) && eqb j i) ≡ false → before (listed y j g a b) x i f now ≡ now
unfolding before
skips y x j i g f a b now e = by (same_link a b)
  where
    by : (t : Bool) → before (cond t [] (record { table = y; index = j; field = g; old = a; new = b } ∷ [])) x i f now ≡ now
    by true = refl
    by false = rw e

kind : (p q : Bool) → p ≡ false → (p && q) ≡ false
kind p q e = rw e

index : (p : Bool) (j i : ℕ) → (j ≡ i → ⊥) → (p && eqb j i) ≡ false
index p j i h = rw (ne_eqb j i h) (and-false p)

-- that of another index
passes : (y x : Table) (j i : ℕ) (g f : Field) (a b now : Link) → (j ≡ i → ⊥) → before (listed y j g a b) x i f now ≡ now
passes y x j i g f a b now h = skips y x j i g f a b now (index (eqb (table_number y) (table_number x) && eqb (field_number g) (field_number f)) j i h)

-- ---- one record
module _ (x : Table) (i : ℕ) (f : Field) where
  -- three lists and four, of which those behind say nothing, or those in front
  three : (p q r : List Alteration) (now : Link) → before (p ++ (q ++ r)) x i f now ≡ before p x i f (before q x i f (before r x i f now))
  three p q r now = before-append p (q ++ r) x i f now ∙ ap (before p x i f) (before-append q r x i f now)

  four : (p q r s : List Alteration) (now : Link) → before (p ++ (q ++ (r ++ s))) x i f now
      ≡ before p x i f (before q x i f (before r x i f (before s x i f now)))
  four p q r s now = before-append p (q ++ (r ++ s)) x i f now ∙ ap (before p x i f) (three q r s now)

-- a segment of another index, and any edge
segment-skips : (j i : ℕ) (a b : Segment) (f : Field) (now : Link) → (j ≡ i → ⊥) → before (of_segment j a b) L.segments i f now ≡ now
segment-skips j i a b f now h =
    three L.segments i f (listed L.segments j L.link a.link b.link) (listed L.segments j L.serif a.serif b.serif)
    (listed L.segments j L.next a.next b.next) now
    ∙ passes L.segments L.segments j i L.link f a.link b.link _ h
    ∙ passes L.segments L.segments j i L.serif f a.serif b.serif _ h
    ∙ passes L.segments L.segments j i L.next f a.next b.next now h

edge-skips-segment : (j i : ℕ) (a b : Edge) (f : Field) (now : Link) → before (of_edge j a b) L.segments i f now ≡ now
edge-skips-segment j i a b f now =
    four L.segments i f (listed L.edges j L.link a.link b.link) (listed L.edges j L.serif a.serif b.serif)
    (listed L.edges j L.first (Some a.first) (Some b.first))
    (listed L.edges j L.last (Some a.last) (Some b.last)) now
    ∙ skips L.edges L.segments j i L.link f a.link b.link _ refl
    ∙ skips L.edges L.segments j i L.serif f a.serif b.serif _ refl
    ∙ skips L.edges L.segments j i L.first f (Some a.first) (Some b.first) _ refl
    ∙ skips L.edges L.segments j i L.last f (Some a.last) (Some b.last) now refl

segment-skips-edge : (j i : ℕ) (a b : Segment) (f : Field) (now : Link) → before (of_segment j a b) L.edges i f now ≡ now
segment-skips-edge j i a b f now =
    three L.edges i f (listed L.segments j L.link a.link b.link) (listed L.segments j L.serif a.serif b.serif)
    (listed L.segments j L.next a.next b.next) now
    ∙ skips L.segments L.edges j i L.link f a.link b.link _ refl
    ∙ skips L.segments L.edges j i L.serif f a.serif b.serif _ refl
    ∙ skips L.segments L.edges j i L.next f a.next b.next now refl

edge-skips : (j i : ℕ) (a b : Edge) (f : Field) (now : Link) → (j ≡ i → ⊥) → before (of_edge j a b) L.edges i f now ≡ now
edge-skips j i a b f now h =
    four L.edges i f (listed L.edges j L.link a.link b.link) (listed L.edges j L.serif a.serif b.serif)
    (listed L.edges j L.first (Some a.first) (Some b.first))
    (listed L.edges j L.last (Some a.last) (Some b.last)) now
    ∙ passes L.edges L.edges j i L.link f a.link b.link _ h
    ∙ passes L.edges L.edges j i L.serif f a.serif b.serif _ h
    ∙ passes L.edges L.edges j i L.first f (Some a.first) (Some b.first) _ h
    ∙ passes L.edges L.edges j i L.last f (Some a.last) (Some b.last) now h

-- the fields of a segment
module _ (i : ℕ) (a b : Segment) where
  abbrev links : List Alteration
  links = listed L.segments i L.link a.link b.link

  abbrev serifs : List Alteration
  serifs = listed L.segments i L.serif a.serif b.serif

  abbrev nexts : List Alteration
  nexts = listed L.segments i L.next a.next b.next

  segment-link : before (of_segment i a b) L.segments i L.link b.link ≡ a.link
  segment-link =
      three L.segments i L.link links serifs nexts b.link
      ∙ ap (before links L.segments i L.link)
      (ap (before serifs L.segments i L.link) (skips L.segments L.segments i i L.next L.link a.next b.next b.link refl)
      ∙ skips L.segments L.segments i i L.serif L.link a.serif b.serif b.link refl)
      ∙ here L.segments i L.link a.link b.link

  segment-serif : before (of_segment i a b) L.segments i L.serif b.serif ≡ a.serif
  segment-serif =
      three L.segments i L.serif links serifs nexts b.serif
      ∙ skips L.segments L.segments i i L.link L.serif a.link b.link _ refl
      ∙ ap (before serifs L.segments i L.serif) (skips L.segments L.segments i i L.next L.serif a.next b.next b.serif refl)
      ∙ here L.segments i L.serif a.serif b.serif

  segment-next : before (of_segment i a b) L.segments i L.next b.next ≡ a.next
  segment-next =
      three L.segments i L.next links serifs nexts b.next
      ∙ skips L.segments L.segments i i L.link L.next a.link b.link _ refl
      ∙ skips L.segments L.segments i i L.serif L.next a.serif b.serif _ refl
      ∙ here L.segments i L.next a.next b.next

-- ---- all records
module _ (x : Table) (i : ℕ) (f : Field) (F : ℕ → List Alteration) (others : (j : ℕ) (now : Link) → (j ≡ i → ⊥) → before (F j) x i f now ≡ now) where
  order-skips : (n : ℕ) (now : Link) → n ≤ i → before (in_order F n) x i f now ≡ now
  unfolding in_order before
  order-skips zero now h = refl
  order-skips (suc n) now h =
      before-append (in_order F n) (F n) x i f now ∙ ap (before (in_order F n) x i f) (others n now (λ (e : n ≡ i). omega arith))
      ∙ order-skips n now (omega arith)

  order-finds : (n : ℕ) (old now : Link) → i < n → before (F i) x i f now ≡ old → before (in_order F n) x i f now ≡ old
  unfolding in_order
  order-finds zero old now h e = absurd (omega arith)
  order-finds (suc n) old now h e =
      before-append (in_order F n) (F n) x i f now
      ∙ ⊎_elim
      (λ (q : i ≡ n). ap (λ (k : ℕ). before (in_order F n) x i f (before (F k) x i f now)) (sym q) ∙ ap (before (in_order F n) x i f) e
      ∙ order-skips n old (omega arith))
      (λ (q : i < n). ap (before (in_order F n) x i f) (others n now (λ (r : n ≡ i). omega arith)) ∙ order-finds n old now q e)
      (eq-or-lt_of_le (omega arith))

order-none : (x : Table) (i : ℕ) (f : Field) (F : ℕ → List Alteration) → ((j : ℕ) (now : Link) → before (F j) x i f now ≡ now) → (n : ℕ) (now : Link)
    → before (in_order F n) x i f now ≡ now
unfolding in_order before
order-none x i f F h zero now = refl
order-none x i f F h (suc n) now = before-append (in_order F n) (F n) x i f now ∙ ap (before (in_order F n) x i f) (h n now) ∙ order-none x i f F h n now

module _ (axis : Axis) (t : Segments) (axis' : Axis) (t' : Segments) where
  abbrev S : ℕ → List Alteration
  S i = of_segment i (segment_at t i) (segment_at t' i)

  abbrev E : ℕ → List Alteration
  E k = of_edge k (edge_at axis k) (edge_at axis' k)

  segment-field : (i : ℕ) (f : Field) (old now : Link) → i < t.len → before (S i) L.segments i f now ≡ old
      → before (alterations axis t axis' t') L.segments i f now ≡ old
  unfolding alterations
  segment-field i f old now h e =
      before-append (in_order S t.len) (in_order E axis.len) L.segments i f now
      ∙ ap (before (in_order S t.len) L.segments i f)
      (order-none L.segments i f E (λ j v. edge-skips-segment j i (edge_at axis j) (edge_at axis' j) f v) axis.len now)
      ∙ order-finds L.segments i f S (λ j v q. segment-skips j i (segment_at t j) (segment_at t' j) f v q) t.len old now h e

  -- link, serif and next of each segment, from what they are now and the list
  pub link-undone : (i : ℕ) → i < t.len → before (alterations axis t axis' t') L.segments i L.link (segment_at t' i).link ≡ (segment_at t i).link
  link-undone i h = segment-field i L.link (segment_at t i).link (segment_at t' i).link h (segment-link i (segment_at t i) (segment_at t' i))

  pub serif_undone : (i : ℕ) → i < t.len → before (alterations axis t axis' t') L.segments i L.serif (segment_at t' i).serif ≡ (segment_at t i).serif
  serif_undone i h = segment-field i L.serif (segment_at t i).serif (segment_at t' i).serif h (segment-serif i (segment_at t i) (segment_at t' i))

  pub next-undone : (i : ℕ) → i < t.len → before (alterations axis t axis' t') L.segments i L.next (segment_at t' i).next ≡ (segment_at t i).next
  next-undone i h = segment-field i L.next (segment_at t i).next (segment_at t' i).next h (segment-next i (segment_at t i) (segment_at t' i))

-- the fields of an edge
module _ (k : ℕ) (a b : Edge) where
  abbrev edge-links : List Alteration
  edge-links = listed L.edges k L.link a.link b.link

  abbrev edge-serifs : List Alteration
  edge-serifs = listed L.edges k L.serif a.serif b.serif

  abbrev firsts : List Alteration
  firsts = listed L.edges k L.first (Some a.first) (Some b.first)

  abbrev lasts : List Alteration
  lasts = listed L.edges k L.last (Some a.last) (Some b.last)

  -- that of one of its fields says nothing of another
  past-link : (f : Field) (now : Link) → (eqb 1 1 && eqb 0 (field_number f)) ≡ false → before edge-links L.edges k f now ≡ now
  past-link f now e = skips L.edges L.edges k k L.link f a.link b.link now (kind _ _ e)

  past-serif : (f : Field) (now : Link) → (eqb 1 1 && eqb 1 (field_number f)) ≡ false → before edge-serifs L.edges k f now ≡ now
  past-serif f now e = skips L.edges L.edges k k L.serif f a.serif b.serif now (kind _ _ e)

  past_first : (f : Field) (now : Link) → (eqb 1 1 && eqb 3 (field_number f)) ≡ false → before firsts L.edges k f now ≡ now
  past_first f now e = skips L.edges L.edges k k L.first f (Some a.first) (Some b.first) now (kind _ _ e)

  past-last : (f : Field) (now : Link) → (eqb 1 1 && eqb 4 (field_number f)) ≡ false → before lasts L.edges k f now ≡ now
  past-last f now e = skips L.edges L.edges k k L.last f (Some a.last) (Some b.last) now (kind _ _ e)

  edge_link : before (of_edge k a b) L.edges k L.link b.link ≡ a.link
  edge_link =
      four L.edges k L.link edge-links edge-serifs firsts lasts b.link
      ∙ ap (before edge-links L.edges k L.link)
      (ap (λ (l : Link). before edge-serifs L.edges k L.link (before firsts L.edges k L.link l)) (past-last L.link b.link refl)
      ∙ ap (before edge-serifs L.edges k L.link) (past_first L.link b.link refl) ∙ past-serif L.link b.link refl)
      ∙ here L.edges k L.link a.link b.link

  edge_serif : before (of_edge k a b) L.edges k L.serif b.serif ≡ a.serif
  edge_serif =
      four L.edges k L.serif edge-links edge-serifs firsts lasts b.serif
      ∙ past-link L.serif _ refl
      ∙ ap (before edge-serifs L.edges k L.serif)
      (ap (before firsts L.edges k L.serif) (past-last L.serif b.serif refl) ∙ past_first L.serif b.serif refl)
      ∙ here L.edges k L.serif a.serif b.serif

  edge-first : before (of_edge k a b) L.edges k L.first (Some b.first) ≡ Some a.first
  edge-first =
      four L.edges k L.first edge-links edge-serifs firsts lasts (Some b.first)
      ∙ past-link L.first _ refl ∙ past-serif L.first _ refl
      ∙ ap (before firsts L.edges k L.first) (past-last L.first (Some b.first) refl)
      ∙ here L.edges k L.first (Some a.first) (Some b.first)

  edge-last : before (of_edge k a b) L.edges k L.last (Some b.last) ≡ Some a.last
  edge-last =
      four L.edges k L.last edge-links edge-serifs firsts lasts (Some b.last)
      ∙ past-link L.last _ refl ∙ past-serif L.last _ refl ∙ past_first L.last _ refl
      ∙ here L.edges k L.last (Some a.last) (Some b.last)

module _ (axis : Axis) (t : Segments) (axis' : Axis) (t' : Segments) where
  abbrev of_s : ℕ → List Alteration
  of_s i = of_segment i (segment_at t i) (segment_at t' i)

  abbrev of_e : ℕ → List Alteration
  of_e k = of_edge k (edge_at axis k) (edge_at axis' k)

  edge-field : (k : ℕ) (f : Field) (old now : Link) → k < axis.len → before (of_edge k (edge_at axis k) (edge_at axis' k)) L.edges k f now ≡ old
      → before (alterations axis t axis' t') L.edges k f now ≡ old
  unfolding alterations
  edge-field k f old now h e =
      before-append (in_order of_s t.len) (in_order of_e axis.len) L.edges k f now
      ∙ ap (before (in_order of_s t.len) L.edges k f)
      (order-finds L.edges k f of_e (λ j v q. edge-skips j k (edge_at axis j) (edge_at axis' j) f v q) axis.len old now h e)
      ∙ order-none L.edges k f of_s (λ j v. segment-skips-edge j k (segment_at t j) (segment_at t' j) f v) t.len old

  -- link, serif, first and last of each edge
  pub edge-link-undone : (k : ℕ) → k < axis.len → before (alterations axis t axis' t') L.edges k L.link (edge_at axis' k).link ≡ (edge_at axis k).link
  edge-link-undone k h = edge-field k L.link (edge_at axis k).link (edge_at axis' k).link h (edge_link k (edge_at axis k) (edge_at axis' k))

  pub edge-serif-undone : (k : ℕ) → k < axis.len → before (alterations axis t axis' t') L.edges k L.serif (edge_at axis' k).serif ≡ (edge_at axis k).serif
  edge-serif-undone k h = edge-field k L.serif (edge_at axis k).serif (edge_at axis' k).serif h (edge_serif k (edge_at axis k) (edge_at axis' k))

  pub first-undone : (k : ℕ) → k < axis.len → before (alterations axis t axis' t') L.edges k L.first (Some (edge_at axis' k).first)
      ≡ Some (edge_at axis k).first
  first-undone k h = edge-field k L.first (Some (edge_at axis k).first) (Some (edge_at axis' k).first) h (edge-first k (edge_at axis k) (edge_at axis' k))

  pub last-undone : (k : ℕ) → k < axis.len → before (alterations axis t axis' t') L.edges k L.last (Some (edge_at axis' k).last)
      ≡ Some (edge_at axis k).last
  last-undone k h = edge-field k L.last (Some (edge_at axis k).last) (Some (edge_at axis' k).last) h (edge-last k (edge_at axis k) (edge_at axis' k))
