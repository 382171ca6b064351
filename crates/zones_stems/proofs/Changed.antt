-- What the call changes: position, done, neutral and zone of edges below the count, and nothing else; a refusal nothing. What it places has a mark of either
-- pass, and an edge
-- without such a mark from it has the position that it had, but for one that was done already and is put on its zone.
use Rattle.std.specs.Prelude.{None}
use mathlib.Core.Path.{◌≡◌, refl, sym, subst}
use mathlib.Core.Bool.{Bool}
use mathlib.Core.List.{List}
use Prim.Native.Nat.{ℕ, zero, suc}
use native.Mathlib.Omega.{arith}
use lib.Dec.{ltb}
use lib.IntN.{ℤ}
use Rattle.refusals.specs.Refusal.{refusal, answered}
use Rattle.refusals.proofs.Tests.{all_hold}
use Rattle.fixed.specs.declared.width.WidthRule.{WidthRule}
use Rattle.axis.specs.declared.kinds.Group.{Group}
use Rattle.axis.specs.declared.edge.Edge.{Edge}
use Rattle.axis.specs.declared.edge.Axis.{Axis}
use Rattle.axis.specs.Changes.{place, zone, Only, wherever, OnlyAxis, Changes}
use Rattle.axis.proofs.Only.{place-zone, first_marks, last-marks, more-marks, same-axis, then-axis, wider-axis}
use Rattle.zones.specs.Answer.{Anchored}
use Rattle.zones.specs.Pass.{blues_marks}
use Rattle.zones.specs.Call.{align_edges_to_blues}
use Rattle.zones.proofs.Changed as BluesChanged
use Rattle.stems.specs.Answer.{Stems}
use Rattle.stems.specs.Stems.{stems, stems_marks}
use Rattle.stems.proofs.Changed as StemsChanged
use Rattle.zones_stems.specs.Joined.{joined_marks, joined_tests, then_stems, align_blues_and_stems, AlignsBluesAndStems}
use Rattle.zones_stems.proofs.Rows.{row-answered}

-- ---- either pass gives some of the marks
blues-wider : (a b : Edge) → Only (zone blues_marks) a b → Only (zone joined_marks) a b
blues-wider = more-marks blues_marks joined_marks (first_marks blues_marks stems_marks)

stems-wider : (a b : Edge) → Only (place stems_marks) a b → Only (zone joined_marks) a b
stems-wider a b h = more-marks stems_marks joined_marks (last-marks blues_marks stems_marks) a b (place-zone stems_marks a b h)

module _ (axis : Axis) (group : Group) (adjust ttb : Bool) (rule : WidthRule) (xs : List ℤ) where
  abbrev Small : Axis → Axis → Type 0
  Small = OnlyAxis (wherever (λ (i : ℕ). ltb i axis.len) (zone joined_marks))

  -- ---- the two calls in a row
  abbrev zoned : Anchored
  zoned = align_edges_to_blues axis group rule xs

  abbrev row : Stems
  row = then_stems group adjust ttb rule xs zoned

  row_small : Small axis row.axis
  row_small =
      let blues = (BluesChanged.changed axis rule xs group {r = zoned} refl).only in
      let stems = (StemsChanged.changed zoned.axis group adjust ttb zoned.anchor rule xs {r = row} refl).only in
      then-axis _ axis zoned.axis row.axis
      (wider-axis (λ (i : ℕ). ltb i axis.len) (zone blues_marks) (zone joined_marks) blues-wider axis zoned.axis blues)
      (subst (λ (n : ℕ). OnlyAxis (wherever (λ (i : ℕ). ltb i n) (zone joined_marks)) zoned.axis row.axis) blues.len
      (wider-axis (λ (i : ℕ). ltb i zoned.axis.len) (place stems_marks) (zone joined_marks) stems-wider zoned.axis row.axis stems))

  -- ---- the call
  by-refusal : (k : ℕ) → (k ≡ 0 → row.answer ≡ 0) → Changes Small (answered k (stems 0 None axis) row).answer axis
      (answered k (stems 0 None axis) row).axis
  by-refusal zero f = record { refused = λ h. absurd (omega (arith, f refl)); only = row_small }
  by-refusal (suc k) f = record { refused = λ h. refl; only = same-axis _ axis }

  pub changed : {r : Stems} → AlignsBluesAndStems axis group adjust ttb rule xs r
      → Changes (OnlyAxis (wherever (λ (i : ℕ). ltb i axis.len) (zone joined_marks))) r.answer axis r.axis
  unfolding align_blues_and_stems
  changed p =
      subst (λ (r : Stems). Changes Small r.answer axis r.axis) (sym p)
      (by-refusal (refusal (joined_tests axis group ttb rule xs))
      (λ e. row-answered axis group adjust ttb rule xs (all_hold (joined_tests axis group ttb rule xs) refl e)))
