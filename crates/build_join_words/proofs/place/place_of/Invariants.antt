-- `build_join_words::place::place_of` meets its contract: what is left of the search gives the whole.
use borrow.Author.Rules.{rules}
use borrow.Author.Tests.{not-true, not-false}
use native.Mathlib.Omega.{arith}
use mathlib.Core.Path.{◌≡◌, refl, sym, ap, subst, ◌∙◌}
use mathlib.Core.Bool.{true, ◌&&◌, ◌||◌}
use Prim.Native.Nat.{◌-◌, ◌≤◌, ◌<◌}
use lib.IntN.{ℤ, pos}
use lib.ListN.{get_or}
use lib.Signed.{le_z}
use mir.Syntax.{w16, w32}
use Rattle.signed.specs.Distance.{distance}
use Rattle.signed.proofs.Signed.{is, got}
use Rattle.signed.proofs.By.{by₂, by₃}
use Rattle.axis.specs.declared.edge.Edge.{Edge}
use Rattle.axis.specs.declared.segment.Segment.{Segment}
use Rattle.axis.specs.Limits.{most_edges, most_segments}
use Rattle.axis.specs.Ring.{walk, ends}
use Rattle.build_join.specs.Joining.{fits_in, limit_behind, may_join, state_at}
use Rattle.build_join.specs.Walks.{next_in, no_stem, stems_agree}
use Rattle.build_join.proofs.Turns.{place, left}
use Rattle.words.specs.Segment.{flat_segments}
use Rattle.build_join_words.specs.Reading.{edge_at_place, stems_in}
use Rattle.build_join_words.proofs.Visits.{
  visit-room,
  first-inside,
  edge-ring,
  may-said,
  may-far,
  search-start,
  search_no,
  search-yes,
  search-end,
  search-stop,
}
use Rattle.build_join_words.proofs.place.place_of.Given as goal

abbrev pub invariant-loop-k : goal.invariant-loop-k
invariant-loop-k l = (l.k ≤ l.count) × (l.count ≤ most_edges) × (l.best ≤ l.count)
    × (left (flat_segments l.words) l.rules l.second l.i l.count l.k l.best l.limit ≡ place (flat_segments l.words) l.rules l.second l.i)

abbrev pub decreases-loop-k : goal.decreases-loop-k
decreases-loop-k l = l.count - l.k
