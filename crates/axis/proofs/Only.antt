-- Changes of edges: none, one after the other, in one place, by a call.
use Rattle.std.specs.Prelude.{None, Some}
use mathlib.Core.Path.{◌≡◌, refl, sym, ap, subst, ◌∙◌}
use mathlib.Core.Bool.{Bool, true, false, cond, ◌&&◌, ◌||◌}
use mathlib.Core.List.{List, [], ◌∷◌, ◌++◌}
use mathlib.Core.Logic.{◌⊎◌, inl, inr}
use Prim.Native.Nat.{ℕ, zero, suc}
use native.Mathlib.Omega.{arith}
use lib.Dec.{eqb}
use lib.IntN.{ℤ}
use lib.ListN.{get_or, set, length-set}
use Rattle.refusals.specs.Refusal.{answered}
use Rattle.axis.specs.Link.{Blue}
use Rattle.axis.specs.declared.kinds.Mark.{Mark}
use Rattle.axis.specs.declared.edge.Edge.{Edge}
use Rattle.axis.specs.declared.edge.Axis.{Axis}
use Rattle.axis.specs.Edge.{empty_edge, edge_at, put_edge, changed, placed, fixed_at}
use Rattle.axis.specs.Mark.{mark_number, among}
use Rattle.axis.specs.Changes.{Extent, nothing, position, place, zone, zone_left, Stayed, Told, Only, wherever, OnlyAxis, Changes}

-- ---- flags and zones
or_self : (a : Bool) → a ≡ (a || a)
or_self true = refl
or_self false = refl

and_self : (a : Bool) → a ≡ (a && a)
and_self true = refl
and_self false = refl

left-self : (b : Blue) → b ≡ zone_left b b
left-self None = refl
left-self (Some z) = refl

pub or-true : (a : Bool) → true ≡ (a || true)
or-true true = refl
or-true false = refl

or-then : (a b c : Bool) → b ≡ (a || b) → c ≡ (b || c) → (b || c) ≡ (a || c)
or-then true b c p q = rw p
or-then false true c p q = sym q
or-then false false c p q = refl

and-false : (a : Bool) → false ≡ (a && false)
and-false true = refl
and-false false = refl

and_then : (a b c : Bool) → b ≡ (a && b) → c ≡ (b && c) → (b && c) ≡ (a && c)
and_then true true c p q = refl
and_then true false c p q = sym q
and_then false b c p q = rw p

left-then : (a b c : Blue) → b ≡ zone_left a b → c ≡ zone_left b c → zone_left b c ≡ zone_left a c
left-then a b None p q = refl
left-then a b (Some z) p q = p ∙ ap (zone_left a) (sym q)

-- ---- one edge
-- an edge at a position, with such a mark, flag done and neutral, and a zone
abbrev pub remade : Edge → ℤ → Mark → Bool → Bool → Blue → Edge
remade e p m done neutral b =
    changed e p m (record { round = e.flags.round; serif = e.flags.serif; done = done; neutral = neutral }) b e.link e.serif e.last

stayed : (e : Edge) → Stayed e e
stayed e = record { pos = refl; mark = refl; done = refl }

pub same-edge : (x : Extent) (e : Edge) → Only x e e
same-edge nothing e = record { rest = refl; told = stayed e }
same-edge (position ms) e = record { rest = refl; told = inl (stayed e) }
same-edge (place ms) e = record { rest = λ i. remade e e.pos e.mark (or_self e.flags.done i) e.flags.neutral e.blue; told = inl (stayed e) }
same-edge (zone ms) e = record {
  rest = λ i. remade e e.pos e.mark (or_self e.flags.done i) (and_self e.flags.neutral i) (left-self e.blue i);
  told = inl (stayed e);
}

-- what is told by one change and then another
stayed-then : (a b c : Edge) → Stayed a b → Stayed b c → Stayed a c
stayed-then a b c p q = record { pos = q.pos ∙ p.pos; mark = q.mark ∙ p.mark; done = q.done ∙ p.done }

marked-then : (ms : List Mark) (b c : Edge) → c.mark ≡ b.mark → among ms b.mark ≡ true → among ms c.mark ≡ true
marked-then ms b c e h = ap (among ms) e ∙ h

told-then : (ms : List Mark) (a b c : Edge) → Stayed a b ⊎ (among ms b.mark ≡ true) → Stayed b c ⊎ (among ms c.mark ≡ true)
    → Stayed a c ⊎ (among ms c.mark ≡ true)
told-then ms a b c p (inr q) = inr q
told-then ms a b c (inl p) (inl q) = inl (stayed-then a b c p q)
told-then ms a b c (inr p) (inl q) = inr (marked-then ms b c q.mark p)

-- a zone that is there still was there before
zone-before : (a b : Edge) (z : ℤ) → b.blue ≡ zone_left a.blue b.blue → b.blue ≡ Some z → a.blue ≡ Some z
zone-before a b z l e = sym (l ∙ ap (zone_left a.blue) e) ∙ e

zoned-then : (ms : List Mark) (a b c : Edge) → b.blue ≡ zone_left a.blue b.blue → Told (zone ms) a b → Told (zone ms) b c → Told (zone ms) a c
zoned-then ms a b c l p (inr (inl q)) = inr (inl q)
zoned-then ms a b c l (inl p) (inl q) = inl (stayed-then a b c p q)
zoned-then ms a b c l (inr (inl p)) (inl q) = inr (inl (marked-then ms b c q.mark p))
zoned-then ms a b c l (inr (inr p)) (inl q) = inr (inr (record { done = p.done; mark = q.mark ∙ p.mark; zone = p.zone ∙ ap Some (sym q.pos) }))
zoned-then ms a b c l (inl p) (inr (inr q)) =
    inr (inr (record { done = sym p.done ∙ q.done; mark = q.mark ∙ p.mark; zone = zone-before a b c.pos l q.zone }))
zoned-then ms a b c l (inr (inl p)) (inr (inr q)) = inr (inl (marked-then ms b c q.mark p))
zoned-then ms a b c l (inr (inr p)) (inr (inr q)) = inr (inr (record { done = p.done; mark = q.mark ∙ p.mark; zone = zone-before a b c.pos l q.zone }))

pub then-edge : (x : Extent) (a b c : Edge) → Only x a b → Only x b c → Only x a c
then-edge nothing a b c p q = record { rest = q.rest ∙ p.rest; told = stayed-then a b c p.told q.told }
then-edge (position ms) a b c p q =
    record { rest = q.rest ∙ ap (λ (e : Edge). placed e c.pos c.mark) p.rest; told = told-then ms a b c p.told q.told }
then-edge (place ms) a b c p q =
    let d = or-then a.flags.done b.flags.done c.flags.done (ap (λ (e : Edge). e.flags.done) p.rest)
    (ap (λ (e : Edge). e.flags.done) q.rest) in
    record {
      rest = q.rest ∙ (λ i. remade (p.rest i) c.pos c.mark (d i) (p.rest i).flags.neutral (p.rest i).blue);
      told = told-then ms a b c p.told q.told;
    }
then-edge (zone ms) a b c p q =
    let d = or-then a.flags.done b.flags.done c.flags.done (ap (λ (e : Edge). e.flags.done) p.rest)
    (ap (λ (e : Edge). e.flags.done) q.rest) in
    let n = and_then a.flags.neutral b.flags.neutral c.flags.neutral (ap (λ (e : Edge). e.flags.neutral) p.rest)
    (ap (λ (e : Edge). e.flags.neutral) q.rest) in
    let l = ap (λ (e : Edge). e.blue) p.rest in
    let z = left-then a.blue b.blue c.blue l (ap (λ (e : Edge). e.blue) q.rest) in
    record { rest = q.rest ∙ (λ i. remade (p.rest i) c.pos c.mark (d i) (n i) (z i)); told = zoned-then ms a b c l p.told q.told }

-- what changes less changes no more
pub position-place : (ms : List Mark) (a b : Edge) → Only (position ms) a b → Only (place ms) a b
position-place ms a b p =
    let d = or_self a.flags.done ∙ ap (λ (e : Edge). a.flags.done || e.flags.done) (sym p.rest) in
    record { rest = p.rest ∙ (λ i. remade a b.pos b.mark (d i) a.flags.neutral a.blue); told = p.told }

pub place-zone : (ms : List Mark) (a b : Edge) → Only (place ms) a b → Only (zone ms) a b
place-zone ms a b p =
    let n = and_self a.flags.neutral ∙ ap (λ (e : Edge). a.flags.neutral && e.flags.neutral) (sym p.rest) in
    let z = left-self a.blue ∙ ap (λ (e : Edge). zone_left a.blue e.blue) (sym p.rest) in
    record { rest = p.rest ∙ (λ i. remade a b.pos b.mark (a.flags.done || b.flags.done) (n i) (z i)); told = or-rezoned p.told }
  where
    or-rezoned : Told (place ms) a b → Told (zone ms) a b
    or-rezoned (inl s) = inl s
    or-rezoned (inr t) = inr (inl t)

-- and what is told by some marks is told by more
or-wider : (t a b : Bool) → (a ≡ true → b ≡ true) → (t || a) ≡ true → (t || b) ≡ true
or-wider true a b f h = refl
or-wider false a b f h = f h

or-last : (t a : Bool) → a ≡ true → (t || a) ≡ true
or-last true a h = refl
or-last false a h = h

pub first_marks : (ms ns : List Mark) (m : Mark) → among ms m ≡ true → among (ms ++ ns) m ≡ true
unfolding among
first_marks [] ns m h = absurd (let z : ◌≡◌ {A = ℕ} 0 1 = cc in omega arith)
first_marks (x ∷ ms) ns m h = or-wider (eqb (mark_number x) (mark_number m)) (among ms m) (among (ms ++ ns) m) (first_marks ms ns m) h

pub last-marks : (ms ns : List Mark) (m : Mark) → among ns m ≡ true → among (ms ++ ns) m ≡ true
unfolding among
last-marks [] ns m h = h
last-marks (x ∷ ms) ns m h = or-last (eqb (mark_number x) (mark_number m)) (among (ms ++ ns) m) (last-marks ms ns m h)

pub more-marks : (ms ns : List Mark) → ((m : Mark) → among ms m ≡ true → among ns m ≡ true) → (a b : Edge) → Only (zone ms) a b → Only (zone ns) a b
more-marks ms ns more a b h = record { rest = h.rest; told = by-more h.told }
  where
    by-more : Told (zone ms) a b → Told (zone ns) a b
    by-more (inl s) = inl s
    by-more (inr (inl t)) = inr (inl (more b.mark t))
    by-more (inr (inr z)) = inr (inr z)

-- an edge at a position that one of the marks gave, and one there for good
pub placed-only : (ms : List Mark) (e : Edge) (p : ℤ) (m : Mark) → among ms m ≡ true → Only (position ms) e (placed e p m)
placed-only ms e p m h = record { rest = refl; told = inr h }

pub fixed-only : (ms : List Mark) (e : Edge) (p : ℤ) (m : Mark) → among ms m ≡ true → Only (place ms) e (fixed_at e p m)
fixed-only ms e p m h = record { rest = λ i. remade e p m (or-true e.flags.done i) e.flags.neutral e.blue; told = inr h }

-- one that is done already, on its zone
pub rezoned-only : (ms : List Mark) (e : Edge) (z : ℤ) → e.flags.done ≡ true → e.blue ≡ Some z → Only (zone ms) e (fixed_at e z e.mark)
rezoned-only ms e z d b = record {
  rest = λ i. remade e z e.mark (or-true e.flags.done i) (and_self e.flags.neutral i) (left-self e.blue i);
  told = inr (inr (record { done = d; mark = refl; zone = b }));
}

-- and one that is neutral no longer, and has no zone
pub without-zone : (ms : List Mark) (e : Edge) → Only (zone ms) e (remade e e.pos e.mark e.flags.done false None)
without-zone ms e = record {
  rest = λ i. remade e e.pos e.mark (or_self e.flags.done i) (and-false e.flags.neutral i) None;
  told = inl (record { pos = refl; mark = refl; done = refl });
}

-- the link stays, whatever else may be changed
pub same-link : (x : Extent) (a b : Edge) → Only x a b → b.link ≡ a.link
same-link nothing a b p = ap (λ (e : Edge). e.link) p.rest
same-link (position ms) a b p = ap (λ (e : Edge). e.link) p.rest
same-link (place ms) a b p = ap (λ (e : Edge). e.link) p.rest
same-link (zone ms) a b p = ap (λ (e : Edge). e.link) p.rest

-- ---- edges in their places
-- one is stored
set-only : (extent : ℕ → Extent) (l : List Edge) (i k : ℕ) (e : Edge) → Only (extent i) (get_or l i empty_edge) e
    → Only (extent k) (get_or l k empty_edge) (get_or (set l i e) k empty_edge)
set-only extent [] i k e h = same-edge (extent k) empty_edge
set-only extent (x ∷ l) zero zero e h = h
set-only extent (x ∷ l) zero (suc k) e h = same-edge (extent (suc k)) (get_or l k empty_edge)
set-only extent (x ∷ l) (suc i) zero e h = same-edge (extent zero) x
set-only extent (x ∷ l) (suc i) (suc k) e h = set-only (λ (j : ℕ). extent (suc j)) l i k e h

module _ (extent : ℕ → Extent) where
  pub same-axis : (axis : Axis) → OnlyAxis extent axis axis
  same-axis axis = record { dim = refl; major = refl; len = refl; edges = record { size = refl; edge = λ (i : ℕ). same-edge (extent i) (edge_at axis i) } }

  pub then-axis : (a b c : Axis) → OnlyAxis extent a b → OnlyAxis extent b c → OnlyAxis extent a c
  then-axis a b c p q = record {
    dim = q.dim ∙ p.dim;
    major = q.major ∙ p.major;
    len = q.len ∙ p.len;
    edges = record {
      size = q.edges.size ∙ p.edges.size;
      edge = λ (i : ℕ). then-edge (extent i) (edge_at a i) (edge_at b i) (edge_at c i) (p.edges.edge i) (q.edges.edge i);
    };
  }

  pub put_only : (axis : Axis) (i : ℕ) (e : Edge) → Only (extent i) (edge_at axis i) e → OnlyAxis extent axis (put_edge axis i e)
  put_only axis i e h = record {
    dim = refl;
    major = refl;
    len = refl;
    edges = record { size = length-set axis.edges i e; edge = λ (k : ℕ). set-only extent axis.edges i k e h };
  }

  -- another store, behind earlier changes
  pub also-put : (old axis : Axis) (i : ℕ) (e : Edge) → OnlyAxis extent old axis → Only (extent i) (edge_at axis i) e → OnlyAxis extent old (put_edge axis i e)
  also-put old axis i e h p = then-axis old axis (put_edge axis i e) h (put_only axis i e p)

  pub link-kept : (old axis : Axis) (i : ℕ) → OnlyAxis extent old axis → (edge_at axis i).link ≡ (edge_at old i).link
  link-kept old axis i h = same-link (extent i) (edge_at old i) (edge_at axis i) (h.edges.edge i)

-- a place that is named
pub named : (names : ℕ → Bool) (x : Extent) (i : ℕ) (a b : Edge) → names i ≡ true → Only x a b → Only (wherever names x i) a b
named names x i a b e h = subst (λ (t : Bool). Only (cond t x nothing) a b) (sym e) h

-- places where more may be changed
pub wider-axis : (names : ℕ → Bool) (x y : Extent) → ((a b : Edge) → Only x a b → Only y a b) → (old new : Axis)
    → OnlyAxis (wherever names x) old new → OnlyAxis (wherever names y) old new
wider-axis names x y wider old new h = record {
  dim = h.dim;
  major = h.major;
  len = h.len;
  edges = record { size = h.edges.size; edge = λ (i : ℕ). in_place (names i) (edge_at old i) (edge_at new i) (h.edges.edge i) };
}
  where
    in_place : (t : Bool) (a b : Edge) → Only (cond t x nothing) a b → Only (cond t y nothing) a b
    in_place true a b o = wider a b o
    in_place false a b o = o

-- ---- a call
-- one that hands back what was given beside a refusal, or its work beside 0
pub call-changes : {A R : Type 0} (Small : A → A → Type 0) (k : ℕ) (old : A) (refused : ℕ → R) (done : R) (answer : R → ℕ) (of : R → A)
    → ((j : ℕ) → of (refused j) ≡ old) → Small old old → answer done ≡ 0 → (k ≡ 0 → Small old (of done))
    → Changes Small (answer (answered k refused done)) old (of (answered k refused done))
call-changes Small zero old refused done answer of given same accepted small = record { refused = λ h. absurd (omega (arith, accepted)); only = small refl }
call-changes Small (suc k) old refused done answer of given same accepted small =
    record { refused = λ h. given (suc k); only = subst (Small old) (sym (given (suc k))) same }
