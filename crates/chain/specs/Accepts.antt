-- Which calls answer edges by 0, with their own parameters right.
use Rattle.std.specs.Prelude.{◌≡◌, Bool, true, false, List, ℕ, ltb, ℤ, pos}
use Rattle.fixed.specs.declared.width.WidthRule.{WidthRule}
use Rattle.fixed.specs.Width.{rule_holds}
use Rattle.axis.specs.declared.edge.Axis.{Axis}
use Rattle.axis.specs.declared.kinds.Group.{Group}
use Rattle.axis.specs.Link.{Link}
use Rattle.axis.specs.Accepted.{Below}
use Rattle.axis.specs.Limits.{most_units, most_passed}
use Rattle.axis.specs.Refusals.{inside, within}
use Rattle.place.specs.declared.adjust.LinkDir.{LinkDir}
use Rattle.place.specs.Placing.{both_below}
use Rattle.place.specs.Fitting.{align_linked_edge, align_serif_edge, adjust_link, latin_remaining_bounds}
use Rattle.zones.specs.Call.{align_edges_to_blues}
use Rattle.stems_cjk.specs.Hint.{hint_normal_stem_cjk}
use Rattle.stems.specs.Stems.{align_stem_edges}
use Rattle.zones_stems.specs.Joined.{zones_hold, align_blues_and_stems}
use Rattle.lowercase_m.specs.M.{count_holds, hint_lowercase_m}
use Rattle.gaps.specs.Gaps.{lost_gaps}

-- every call over edges accepts those of the axis
pub record Accepts (axis : Axis) : Type 0 where
  pub blues : (group : Group) (rule : WidthRule) (xs : List ℤ) → rule_holds rule xs ≡ true → (align_edges_to_blues axis group rule xs).answer ≡ 0
  pub linked : (rule : WidthRule) (xs : List ℤ) (base stem : ℕ) → rule_holds rule xs ≡ true → both_below axis.len base stem ≡ true → (align_linked_edge axis rule xs base stem).answer ≡ 0
  pub serif : (base serif : ℕ) → both_below axis.len base serif ≡ true → (align_serif_edge axis base serif).answer ≡ 0
  pub bounds : (i : ℕ) → ltb i axis.len ≡ true → (latin_remaining_bounds axis i).answer ≡ 0
  pub adjust : (i : ℕ) (dir : LinkDir) → ltb i axis.len ≡ true → (adjust_link axis i dir false).answer ≡ 0
  pub cjk : (adjust : Bool) (rule : WidthRule) (xs : List ℤ) (i j : ℕ) (d : ℤ) → rule_holds rule xs ≡ true → both_below axis.len i j ≡ true → within most_passed d ≡ true
      → (hint_normal_stem_cjk axis adjust rule xs i j d).answer ≡ 0
  pub stems : (group : Group) (adjust : Bool) (anchor : Link) (rule : WidthRule) (xs : List ℤ) → Below axis.len anchor → rule_holds rule xs ≡ true
      → (align_stem_edges axis group adjust false anchor rule xs).answer ≡ 0
  pub joined : (group : Group) (adjust : Bool) (rule : WidthRule) (xs : List ℤ) → rule_holds rule xs ≡ true → zones_hold group axis ≡ true
      → (align_blues_and_stems axis group adjust false rule xs).answer ≡ 0
  pub m : (group : Group) → count_holds axis.len ≡ true → (hint_lowercase_m axis group).answer ≡ 0
  pub gaps : (least : ℤ) (linked : Bool) → inside (pos 0) (pos most_units) least ≡ true → (lost_gaps axis least linked).answer ≡ 0
