-- A lent list that is edges, or segments, and no more, within their limit, is the words of what the call hands back and nothing else.
use mathlib.Core.Path.{◌≡◌, ap, ◌∙◌}
use mathlib.Core.Bool.{true}
use mathlib.Core.List.{List, ◌++◌, append-nil}
use Prim.Native.Nat.{ℕ, ◌*◌, ◌≤◌}
use native.Mathlib.Omega.{arith}
use lib.ListN.{length, drop_of_length-le}
use lib.IntN.{ℤ}
use Rattle.axis.specs.declared.edge.Axis.{Axis}
use Rattle.axis.specs.Edge.{edge_at}
use Rattle.axis.specs.Limits.{most_edges, most_segments}
use Rattle.words.specs.Word.{written, joined}
use Rattle.words.specs.Edge.{edge_size, edges_in, edge_words_at, edges_over}
use Rattle.words.specs.Segment.{segment_size, segments_in}
use Rattle.words.proofs.Writing.{written-front}
use Rattle.words.specs.Record.{WholeOf, edge_layout, segment_layout}
use Rattle.words.proofs.Wholes.{over}
use Rattle.words.proofs.Layouts.{edge_codec}
use Rattle.words_shape.specs.declared.element.Element.TheVariants as Elements
use Rattle.words_shape.specs.Shape.{edges_shown, segments_shown}
use Rattle.words_shape.proofs.Runs.{run_length}
use Rattle.words_shape.proofs.Back.{edge-place, segment-place, edges-back, segments-back}

-- how long they are
pub edges_long : (ws : List ℤ) → edges_shown ws ≡ true → length ws ≡ edge_size * edges_in ws
unfolding edges_shown
edges_long ws h = run_length Elements.Edge edge_size ws (edge-place ws) (edges_in ws) h

pub segments-long : (ws : List ℤ) → segments_shown ws ≡ true → length ws ≡ segment_size * segments_in ws
unfolding segments_shown
segments-long ws h = run_length Elements.Segment segment_size ws (segment-place ws) (segments_in ws) h

-- words over a list of their length
pub over-whole : (ws xs : List ℤ) → length ws ≡ length xs → written ws 0 xs ≡ xs
over-whole ws xs e = written-front ws xs ∙ ap (λ (rest : List ℤ). xs ++ rest) (drop_of_length-le ws {i = length xs} (omega arith)) ∙ append-nil xs

-- words that are edges and no more, within their limit
pub edges-shown : (ws : List ℤ) → edges_shown ws ≡ true → edges_in ws ≤ most_edges → WholeOf edge_layout ws
edges-shown ws shown few = record { few = few; long = edges_long ws shown; word = edges-back ws shown }

pub edges_whole : (ws : List ℤ) (axis : Axis) → edges_shown ws ≡ true → edges_in ws ≤ most_edges → edges_over ws axis ≡ joined (edge_words_at axis) (edges_in ws)
unfolding edges_over
edges_whole ws axis h few = over edge_codec ws (edge_at axis) (edges-shown ws h few)

-- words that are segments and no more, within their limit
pub segments-shown : (ws : List ℤ) → segments_shown ws ≡ true → segments_in ws ≤ most_segments → WholeOf segment_layout ws
segments-shown ws shown few = record { few = few; long = segments-long ws shown; word = segments-back ws shown }
