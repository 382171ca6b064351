-- Request #112, the visit: a thin Latin stem beside an anchor comes to lie about the centre chosen, before the neighbour bound, for every axis and every index.
use Rattle.std.specs.Prelude.{None, Some}
use mathlib.Core.Path.{◌≡◌, refl, sym, ap, ◌∙◌}
use mathlib.Core.Bool.{cond}
use mathlib.Core.List.{List, [], ◌∷◌}
use Prim.Native.Nat.{ℕ, zero, suc, ◌<◌}
use native.Mathlib.Omega.{arith}
use lib.ListN.{length, get_or, set}
use lib.Seq.{get_or-set_same}
use lib.IntN.{ℤ, pos, ◌+ℤ◌}
use Rattle.signed.proofs.Order.{of-<ℤ}
use Rattle.signed.proofs.Signed.{to-lt-true}
use Rattle.signed.proofs.Choices.{cond-false}
use Rattle.signed.proofs.By.{by₂}
use Rattle.axis.specs.Link.{Blue}
use Rattle.axis.specs.declared.kinds.Group.{Group}
use Rattle.axis.specs.declared.kinds.Mark.TheVariants.{Stem}
use Rattle.axis.specs.declared.edge.Edge.{Edge}
use Rattle.axis.specs.declared.edge.Axis.{Axis}
use Rattle.axis.specs.Edge.{empty_edge, edge_at, fixed_at}
use Rattle.stems_latin.specs.Latin.{anchored_first, anchored_second}
use Rattle.stems_latin.proofs.Chosen.{chosen, about-chosen, together}
use Rattle.stems.specs.declared.kinds.Mode.{Mode}
use Rattle.stems.specs.Visit.{too_close, original_len, start_beside}
use Rattle.stems.specs.Stems.{State, counted, centred_stem, beside_anchor, latin_stem, group_stem, zone_stem, visit_link, visit}
use Rattle.stems.specs.Centre.{stem_width, shifted_centre, before_bound, ThinStem, Centred}
use Rattle.stems.proofs.Straight.{own-width}

-- ---- edges in their places
no-link : (k : ℕ) → None ≡ Some k → ⊥
no-link k e = let z : ◌≡◌ {A = ℕ} 0 1 = cc in omega arith

-- an edge that has a link has a place
pub linked-place : (es : List Edge) (i k : ℕ) → (get_or es i empty_edge).link ≡ Some k → i < length es
linked-place [] i k h = absurd (no-link k h)
linked-place (e ∷ es) zero k h = omega arith
linked-place (e ∷ es) (suc i) k h = let r = linked-place es i k h in omega arith

-- the edge of a place fixed at a position by a stem, as `fix_at` does
abbrev fix_in : List Edge → ℕ → ℤ → List Edge
fix_in es i p = set es i (fixed_at (get_or es i empty_edge) p Stem)

fixed_in : (es : List Edge) (i : ℕ) (p : ℤ) → i < length es → (get_or (fix_in es i p) i empty_edge).pos ≡ p
fixed_in es i p h = ap (λ (e : Edge). e.pos) (get_or-set_same es i (fixed_at (get_or es i empty_edge) p Stem) empty_edge h)

-- edge i is at p and edge k at q
record BothAt (es : List Edge) (i k : ℕ) (p q : ℤ) : Type 0 where
  first : (get_or es i empty_edge).pos ≡ p
  second : (get_or es k empty_edge).pos ≡ q

-- two edges fixed one after the other, or one edge twice at one position
both-fixed : (es : List Edge) (i k : ℕ) (p q : ℤ) → i < length es → k < length es → (i ≡ k → p ≡ q) → BothAt (fix_in (fix_in es i p) k q) i k p q
both-fixed [] i k p q hi hk h = absurd (omega arith)
both-fixed (e ∷ es) zero zero p q hi hk h = record { first = sym (h refl); second = refl }
both-fixed (e ∷ es) zero (suc k) p q hi hk h = record { first = refl; second = fixed_in es k q (omega arith) }
both-fixed (e ∷ es) (suc i) zero p q hi hk h = record { first = fixed_in es i p (omega arith); second = refl }
both-fixed (e ∷ es) (suc i) (suc k) p q hi hk h =
    let r = both-fixed es i k p q (omega arith) (omega arith) (λ (x : i ≡ k). h (ap suc x)) in
    record { first = r.first; second = r.second }

-- ---- the visit
module _ (m : Mode) (xs : List ℤ) (s : State) (i k a : ℕ) where
  abbrev e : Edge
  e = edge_at s.axis i

  abbrev e2 : Edge
  e2 = edge_at s.axis k

  -- the stem of an edge that is linked to itself has no width
  alone : i ≡ k → stem_width m xs s i k ≡ pos 0
  alone q = rw q (own-width m.rule xs e2.opos)

  visited : ThinStem m xs s i k a → visit m xs s i ≡ latin_stem m xs s i k (Some a)
  unfolding visit visit_link too_close zone_stem group_stem
  visited h =
      cond-false e.flags.done s (visit_link m xs s i e.link) h.not_done
      ∙ ap (visit_link m xs s i) h.link
      ∙ ap (λ (g : Group). cond (too_close g s.trail.last e e2) (counted s) (zone_stem e2.blue m xs s i k)) h.group
      ∙ ap (λ (b : Blue). zone_stem b m xs s i k) h.no_zone
      ∙ ap (λ (g : Group). group_stem g m xs s i k) h.group
      ∙ ap (latin_stem m xs s i k) h.anchor

  pub centred : ThinStem m xs s i k a → Centred m xs s i k a
  unfolding latin_stem beside_anchor
  centred h =
      let p = start_beside (edge_at s.axis a) e in
      let n = original_len e e2 in
      let w = stem_width m xs s i k in
      let open-link : before_bound m xs s i k a ≡ centred_stem s.axis i k p n w = cond-false e2.flags.done _ (centred_stem s.axis i k p n w)
      h.link_not_done in
      let both = both-fixed s.axis.edges i k (anchored_first p n w) (anchored_second p n w) (linked-place s.axis.edges i k h.link) h.place
      (λ (q : i ≡ k). together p n w (alone q)) in
      record {
        bound_after = visited h;
        about = ap (λ (u : Axis). (edge_at u i).pos +ℤ (edge_at u k).pos) open-link ∙ by₂ ◌+ℤ◌ refl both.first both.second
            ∙ about-chosen p n w (to-lt-true w (pos 96) (of-<ℤ w (pos 96) h.thin));
        chosen = chosen (shifted_centre s i k a) w;
      }
