-- Words that are the words of their edges.
use mathlib.Core.Path.{◌≡◌, refl, sym, ap, ◌∙◌}
use mathlib.Core.Bool.{true}
use mathlib.Core.List.{List}
use Prim.Native.Nat.{ℕ, ◌*◌, ◌≤◌, ◌<◌}
use lib.ListN.{length}
use lib.IntN.{ℤ}
use Rattle.axis.specs.declared.kinds.Dimension.{Dimension}
use Rattle.axis.specs.declared.kinds.Direction.TheVariants as Directions
use Rattle.axis.specs.declared.edge.Edge.{Edge}
use Rattle.axis.specs.Edge.{empty_edge, edge_at, put_edge}
use Rattle.axis.specs.Limits.{most_edges}
use Rattle.words.specs.Word.{joined}
use Rattle.words.specs.Edge.{edge_size, edges_in, edge_from, axis_run, flat_axis, edge_words_at}
use Rattle.words.proofs.Typed.{axis-typed}
use Rattle.words.specs.Record.{edge_layout}
use Rattle.words.proofs.Wholes.{joined-whole}
use Rattle.words.proofs.Writes.{Tabled, record-in}
use Rattle.words.proofs.Layouts.{edge_codec}
use Rattle.words_shape.specs.Shape.{edges_shown}
use Rattle.words_call.specs.Lent.{edges_of}
use Rattle.words_call.proofs.Whole.{edges-shown}
use Rattle.words_edge.specs.Whole.{Whole, axis_in, reduced}

-- words that are edges and no more
pub shown-whole : (ws : List ℤ) → edges_shown ws ≡ true → edges_in ws ≤ most_edges → Whole ws
shown-whole ws shown few = edges-shown ws shown few

-- how many edges their axis has, on any dimension and on the one that `edges_of` takes
pub len-in : (ws : List ℤ) (d : Dimension) → (axis_in ws d).len ≡ edges_in ws
unfolding flat_axis axis_run
len-in ws d = refl

pub edges-len : (ws : List ℤ) → (edges_of ws).len ≡ edges_in ws
edges-len ws = len-in ws _

-- on any dimension it has the same edges
pub same_edges : (ws : List ℤ) (d : Dimension) (i : ℕ) → edge_at (axis_in ws d) i ≡ edge_at (edges_of ws) i
unfolding flat_axis axis_run
same_edges ws d i = refl

-- what is read of an edge is read of it there
pub read-in : (ws : List ℤ) (i : ℕ) {e : Edge} → e ≡ reduced (edge_at (edges_of ws) i) → (d : Dimension) → e ≡ reduced (edge_at (axis_in ws d) i)
read-in ws i q d = q ∙ ap reduced (sym (same_edges ws d i))

-- its table has all its places
pub axis-long : (ws : List ℤ) (d : Dimension) → length (axis_in ws d).edges ≡ most_edges
axis-long ws d = (axis-typed ws d _).places

-- it is read and written as the list of its edges
pub edge_table : Tabled edge_layout axis_in edge_at put_edge
unfolding flat_axis axis_run
edge_table = record {
  empty = empty_edge;
  wrap = λ (d : Dimension) (es : List Edge) (n : ℕ). record { dim = d; major_dir = Directions.None; edges = es; len = n };
  tables = λ ws d. refl;
  gets = λ d es n i. refl;
  puts = λ d es n i e. refl;
}

-- its edge in a place is the one whose words stand there
pub edge_in : (ws : List ℤ) (d : Dimension) (i : ℕ) → Whole ws → i < edges_in ws → edge_at (axis_in ws d) i ≡ edge_from ws (edge_size * i)
edge_in ws d i w h = record-in edge_table ws d i w h

-- they are those of their edges
pub words-joined : (ws : List ℤ) (d : Dimension) → Whole ws → ws ≡ joined (edge_words_at (axis_in ws d)) (edges_in ws)
words-joined ws d w = joined-whole edge_codec ws (edge_at (axis_in ws d)) w (λ i h. edge_in ws d i w h)
