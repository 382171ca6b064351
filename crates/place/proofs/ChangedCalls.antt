-- What the calls change: of the edge that they place nothing but its position and its mark, linked, serif or bound, and nothing else; a refusal nothing.
use Rattle.std.specs.Prelude.{None}
use mathlib.Core.Path.{◌≡◌, refl, sym, subst}
use mathlib.Core.Bool.{Bool}
use mathlib.Core.List.{List, [], ◌∷◌}
use Prim.Native.Nat.{ℕ, zero, suc, ◌<◌}
use native.Mathlib.Omega.{arith}
use lib.Dec.{eqb}
use lib.IntN.{ℤ}
use Rattle.refusals.specs.Refusal.{refusal, answered}
use Rattle.fixed.specs.declared.width.WidthRule.{WidthRule}
use Rattle.axis.specs.declared.kinds.Mark.{Mark}
use Rattle.axis.specs.declared.kinds.Mark.TheVariants as Marks
use Rattle.axis.specs.declared.edge.Axis.{Axis}
use Rattle.axis.specs.Edge.{edge_at}
use Rattle.axis.specs.Mark.{among}
use Rattle.axis.specs.Changes.{position, wherever, OnlyAxis, Changes}
use Rattle.axis.proofs.Only.{placed-only, same-axis, call-changes}
use Rattle.place.specs.declared.adjust.LinkDir.{LinkDir}
use Rattle.place.specs.Placing.{linked_pos, serif_pos, lower_bound, upper_bound}
use Rattle.place.proofs.Changed.{position-put, adjusted-only}
use Rattle.place.specs.Answer.{Fitted}
use Rattle.place.specs.Answer.{Bounds}
use Rattle.place.specs.Fitting.{
  linked_tests,
  serif_tests,
  edge_tests,
  adjust_tests,
  fitted,
  bounds,
  align_linked_edge,
  align_serif_edge,
  latin_remaining_bounds,
  adjust_link,
}
use Rattle.place.specs.Fitting.{AlignsLinkedEdge, AlignsSerifEdge, FindsLatinRemainingBounds, AdjustsLink}

-- nothing but the position of edge i, which has this mark then
abbrev OnlyPosition : ℕ → Mark → Axis → Axis → Type 0
OnlyPosition i m = OnlyAxis (wherever (eqb i) (position (m ∷ [])))

-- the outcome of a call whose work changes no more
call : (axis after : Axis) (k i : ℕ) (m : Mark) {r : Fitted} → r ≡ answered k (fitted axis) (fitted after 0) → OnlyPosition i m axis after
    → Changes (OnlyPosition i m) r.answer axis r.axis
call axis after k i m p h =
    subst (λ (r : Fitted). Changes (OnlyPosition i m) r.answer axis r.axis) (sym p)
    (call-changes (OnlyPosition i m) k axis (fitted axis) (fitted after 0) (λ (r : Fitted). r.answer) (λ (r : Fitted). r.axis) (λ (j : ℕ). refl)
    (same-axis _ axis) refl (λ _. h))

pub align-linked-edge : (axis : Axis) (rule : WidthRule) (xs : List ℤ) (base stem : ℕ) {r : Fitted} → AlignsLinkedEdge axis rule xs base stem r
    → Changes (OnlyAxis (wherever (eqb stem) (position (Marks.Linked ∷ [])))) r.answer axis r.axis
unfolding align_linked_edge among
align-linked-edge axis rule xs base stem p =
    let pos = linked_pos rule xs (edge_at axis base).pos (edge_at axis base).opos (edge_at axis stem).opos in
    call axis _ (refusal (linked_tests axis rule xs base stem)) stem Marks.Linked p
    (position-put (Marks.Linked ∷ []) axis stem _ (placed-only (Marks.Linked ∷ []) (edge_at axis stem) pos Marks.Linked refl))

pub align-serif-edge : (axis : Axis) (base serif : ℕ) {r : Fitted} → AlignsSerifEdge axis base serif r
    → Changes (OnlyAxis (wherever (eqb serif) (position (Marks.Serif ∷ [])))) r.answer axis r.axis
unfolding align_serif_edge among
align-serif-edge axis base serif p =
    let pos = serif_pos (edge_at axis base).pos (edge_at axis base).opos (edge_at axis serif).opos in
    call axis _ (refusal (serif_tests axis base serif)) serif Marks.Serif p
    (position-put (Marks.Serif ∷ []) axis serif _ (placed-only (Marks.Serif ∷ []) (edge_at axis serif) pos Marks.Serif refl))

pub adjust-link : (axis : Axis) (edge : ℕ) (dir : LinkDir) (ttb : Bool) {r : Fitted} → AdjustsLink axis edge dir ttb r
    → Changes (OnlyAxis (wherever (eqb edge) (position (Marks.Bound ∷ [])))) r.answer axis r.axis
unfolding adjust_link
adjust-link axis edge dir ttb p = call axis _ (refusal (adjust_tests axis edge ttb)) edge Marks.Bound p (adjusted-only axis edge dir)

-- `latin_remaining_bounds` hands back no axis; a refusal hands back no bounds either
pub latin-remaining-bounds : (axis : Axis) (edge : ℕ) {r : Bounds} → FindsLatinRemainingBounds axis edge r → 0 < r.answer
    → r ≡ bounds None None r.answer
unfolding latin_remaining_bounds
latin-remaining-bounds axis edge p =
    subst (λ (r : Bounds). 0 < r.answer → r ≡ bounds None None r.answer) (sym p)
    (by (refusal (edge_tests axis edge)) (bounds (lower_bound edge) (upper_bound axis edge) 0) refl)
  where
    by : (k : ℕ) (done : Bounds) → done.answer ≡ 0 → 0 < (answered k (bounds None None) done).answer
        → answered k (bounds None None) done ≡ bounds None None (answered k (bounds None None) done).answer
    by zero done e h = absurd (omega (arith, e))
    by (suc k) done e h = refl
