-- Lent edges over which a call has written its axis are words of whole edges, every one within its field's values, and are read as that axis.
use Rattle.std.specs.Prelude.{None, Some}
use mathlib.Core.Path.{◌≡◌, refl, sym, ap, subst, ◌∙◌}
use mathlib.Core.Bool.{Bool, true, ◌&&◌}
use mathlib.Core.List.{List}
use Prim.Native.Nat.{ℕ, ◌-◌, ◌*◌, ◌/◌, ◌%◌, ◌≤◌, ◌<◌, min}
use native.Mathlib.Omega.{arith}
use borrow.Author.Tests.{leb-true, eq-eqb, le-leb}
use lib.ListN.{length}
use lib.IntN.{ℤ, pos, negsuc}
use lib.Signed.{le_z}
use Rattle.signed.proofs.Signed.{signed}
use Rattle.signed.proofs.Choices.{cond_cases}
use Rattle.refusals.specs.Refusal.{refusal}
use Rattle.refusals.proofs.Tests.{and_first, and_second, all_hold, no-refusal}
use Rattle.axis.specs.Link.{Blue}
use Rattle.axis.specs.declared.kinds.Dimension.{Dimension}
use Rattle.axis.specs.declared.kinds.Direction.{Direction}
use Rattle.axis.specs.Link.{Link}
use Rattle.axis.specs.declared.edge.Edge.{Edge}
use Rattle.axis.specs.declared.edge.Axis.{Axis}
use Rattle.axis.specs.Accepted.{Below, InZone, AxisWithin}
use Rattle.axis.specs.Changes.{Extent, nothing, position, place, zone, Only, OnlyAxis}
use Rattle.axis.specs.Edge.{empty_edge, edge_at}
use Rattle.axis.specs.Handed.{Short, TypedEdge, TypedAxis}
use Rattle.axis.specs.Limits.{most_edges}
use Rattle.axis.proofs.Acceptance.{below_none, below-to}
use Rattle.words.specs.Field.{short_of, link_of, fitted_word}
use Rattle.words.specs.Word.{firsts, joined, table}
use Rattle.words.specs.Edge.{edge_size, edges_in, edge_from, edge_in_run, axis_run, flat_axis, edge_words_at, edges_over}
use Rattle.words.proofs.Edges.{edge-lengths}
use Rattle.words.proofs.Places.{joined_at}
use Rattle.words.proofs.Tables.{firsts-length, joined_length}
use Rattle.words_shape.specs.Shape.{edges_shown}
use Rattle.words_call.specs.Lent.{Lent, edges_front}
use Rattle.words_call.proofs.Kept.{passed}
use Rattle.words_call.proofs.Whole.{edges_long}
use Rattle.words_edge.specs.Whole.{Whole, axis_in}
use Rattle.words_edge.proofs.Wholes.{shown-whole, len-in, axis-long, edge_in}
use Rattle.words.proofs.Layouts.{edge_codec}
use Rattle.words.proofs.Wholes.{over}
use Rattle.build_words.proofs.Back.{past_end as behind-all, axis-back}
use Rattle.chain_words.specs.Left.{EdgesLeft}
use Rattle.chain_words.proofs.Answers.{both}
use Rattle.chain_words.proofs.Shown.{Word, EdgeFits, edges-are-shown}

-- ---- the law
-- an axis of n edges, each of its types, and nothing behind them
pub record Fits (n : ℕ) (axis : Axis) : Type 0 where
  pub len : axis.len ≡ n
  pub whole : TypedAxis axis
  pub edge : (i : ℕ) → i < n → EdgeFits (edge_at axis i)
  pub empty : (i : ℕ) → n ≤ i → edge_at axis i ≡ empty_edge

-- the axis of words on another major direction
other-major : (ws : List ℤ) (d : Dimension) (m : Direction) → flat_axis ws d m ≡ record {
  dim =
      d;
  major_dir = m;
  edges = (axis_in ws d).edges;
  len = (axis_in ws d).len;
}
unfolding flat_axis axis_run
other-major ws d m = refl

-- its words, one edge behind the other
module _ (n : ℕ) (axis : Axis) (few : n ≤ most_edges) (f : Fits n axis) where
  abbrev words : List ℤ
  words = joined (edge_words_at axis) n

  pub words_long : length words ≡ edge_size * n
  words_long = joined_length (edge_words_at axis) edge_size (edge-lengths axis) n

  pub words-shown : edges_shown words ≡ true
  words-shown =
      edges-are-shown words n (edge_at axis) words_long f.edge
      (λ (i j : ℕ) (h : i < n) (b : j < edge_size). joined_at (edge_words_at axis) edge_size (edge-lengths axis) n i j h b)

  pub words-read : flat_axis words axis.dim axis.major_dir ≡ axis
  words-read =
      let back = axis-back axis n few (λ (i : ℕ) (h : i < n). (f.edge i h).typed) f.whole (λ (i : ℕ) (h : n ≤ i) (b : i < most_edges). f.empty i h)
      axis.dim in
      other-major words axis.dim axis.major_dir
      ∙ (λ k. record { dim = axis.dim; major_dir = axis.major_dir; edges = (back k).edges; len = (back k).len })
      ∙ ap (λ (m : ℕ). record { dim = axis.dim; major_dir = axis.major_dir; edges = axis.edges; len = m }) (sym f.len)

-- an axis written over the words of edges
pub edges-over : (ws : List ℤ) (axis : Axis) → Whole ws → edges_over ws axis ≡ joined (edge_words_at axis) (edges_in ws)
unfolding edges_over
edges-over ws axis w = over edge_codec ws (edge_at axis) w

-- written over words of as many edges
pub edges-left : (ws : List ℤ) (axis : Axis) → Whole ws → Fits (edges_in ws) axis → EdgesLeft ws (edges_over ws axis) axis
edges-left ws axis w f =
    let e = edges-over ws axis w in
    record {
      size = ap length e ∙ words_long (edges_in ws) axis w.few f ∙ sym w.long;
      shown = ap edges_shown e ∙ words-shown (edges_in ws) axis w.few f;
      read = ap (λ (l : List ℤ). flat_axis l axis.dim axis.major_dir) e ∙ words-read (edges_in ws) axis w.few f;
    }

-- what is left, read on the dimension and the major direction of the axis
pub read-on : {ws now : List ℤ} {axis : Axis} (d : Dimension) (m : Direction) → EdgesLeft ws now axis → axis.dim ≡ d → axis.major_dir ≡ m
    → flat_axis now d m ≡ axis
read-on {ws} {now} d m l p q = (λ k. flat_axis now (sym p k) (sym q k)) ∙ l.read

-- as many edges
pub as_many : {ws now : List ℤ} {axis : Axis} → EdgesLeft ws now axis → edges_in now ≡ edges_in ws
as_many l = ap (λ (n : ℕ). n / edge_size) l.size

pub flat-dim : (ws : List ℤ) (d : Dimension) (m : Direction) → (flat_axis ws d m).dim ≡ d
unfolding flat_axis axis_run
flat-dim ws d m = refl

pub flat-major : (ws : List ℤ) (d : Dimension) (m : Direction) → (flat_axis ws d m).major_dir ≡ m
unfolding flat_axis axis_run
flat-major ws d m = refl

-- ---- edges of which a call changes so much
-- what words are read as is of its types
pub short-of : (w : ℤ) → Short (short_of w)
unfolding short_of
short-of w =
    cond_cases Short (le_z (negsuc 32767) w && le_z w (pos 32767)) w (pos 0)
    (λ t. omega (arith, signed, and_first (le_z (negsuc 32767) w) _ t, and_second (le_z (negsuc 32767) w) _ t)) (λ t. omega arith)

pub link-of : (w : ℤ) → Below 65536 (link_of w)
unfolding link_of
link-of (pos n) = below-to 65536 _ (omega arith)
link-of (negsuc n) = below_none 65536

pub from-typed : (ws : List ℤ) (at : ℕ) → TypedEdge (edge_from ws at)
unfolding edge_from
from-typed ws at = record { fpos = short-of _; link = link-of _; serif = link-of _; first = omega arith; last = omega arith }

-- and stays so
only-typed : (x : Extent) (a b : Edge) → Only x a b → TypedEdge a → TypedEdge b
only-typed nothing a b p t = subst TypedEdge (sym p.rest) t
only-typed (position ms) a b p t =
    subst TypedEdge (sym p.rest) (record { fpos = t.fpos; link = t.link; serif = t.serif; first = t.first; last = t.last })
only-typed (place ms) a b p t = subst TypedEdge (sym p.rest) (record { fpos = t.fpos; link = t.link; serif = t.serif; first = t.first; last = t.last })
only-typed (zone ms) a b p t = subst TypedEdge (sym p.rest) (record { fpos = t.fpos; link = t.link; serif = t.serif; first = t.first; last = t.last })

-- what is within limits is of 32 bits
pub fitted-word : (b : Blue) → InZone b → Word (fitted_word b)
fitted-word None h = omega arith
fitted-word (Some z) h = let k = h.at z refl in omega (arith, k)

-- an index of few is of 16 bits
pub few-below : (n : ℕ) (l : Link) → n ≤ 65536 → Below n l → Below 65536 l
few-below n l h b = record { at = λ k e. omega (arith, b.at k e) }

-- nothing behind the last edge
behind : (x : Extent) (a b : Edge) → x ≡ nothing → Only x a b → b ≡ a
behind x a b e p = (subst (λ (y : Extent). Only y a b) e p).rest

pub past_end : (ws : List ℤ) (d : Dimension) (i : ℕ) → edges_in ws ≤ i → edge_at (axis_in ws d) i ≡ empty_edge
unfolding flat_axis axis_run table
past_end ws d i h =
    let n = min (edges_in ws) most_edges in
    behind-all (firsts (edge_in_run ws 0) n) empty_edge (most_edges - n) i (omega (arith, firsts-length (edge_in_run ws 0) n))

-- an axis whose edges are those of words, but for so much
pub only-fits : (ws : List ℤ) (d : Dimension) (extent : ℕ → Extent) (m : ℕ) (new : Axis) → Whole ws → m ≤ 2147483647 → OnlyAxis extent (axis_in ws d) new
    → ((i : ℕ) → edges_in ws ≤ i → extent i ≡ nothing) → AxisWithin m new → Fits (edges_in ws) new
only-fits ws d extent m new w most only none within =
    let n : new.len ≡ edges_in ws = only.len ∙ len-in ws d in
    record {
      len = n;
      whole = record { places = only.edges.size ∙ axis-long ws d };
      edge = λ (i : ℕ) (h : i < edges_in ws).
          let e = within.edge i (omega (arith, n)) in
          let p = e.pos in
          let o = e.opos in
          record {
            typed =
                only-typed (extent i) (edge_at (axis_in ws d) i) (edge_at new i) (only.edges.edge i)
                (subst TypedEdge (sym (edge_in ws d i w h)) (from-typed ws (edge_size * i)));
            opos = omega (arith, o);
            pos = omega (arith, p);
            fitted = fitted-word (edge_at new i).blue e.blue;
          };
      empty = λ (i : ℕ) (h : edges_in ws ≤ i). behind (extent i) (edge_at (axis_in ws d) i) (edge_at new i) (none i h) (only.edges.edge i) ∙ past_end ws d i h;
    }

-- ---- a call
-- with answer 0: the words were shown and the other words too, the call's own answer is 0, and the axis stands over the words
pub record Done {A : Type 0} (ws : List ℤ) (others : Bool) (answer : ℕ) (new now : A) : Type 0 where
  pub whole : Whole ws
  pub shown : edges_shown ws ≡ true
  pub rest : others ≡ true
  pub answered : answer ≡ 0
  pub held : now ≡ new

pub call-done : {A : Type 0} (ws : List ℤ) (others : Bool) {answer : ℕ} {new old now : A} → Lent (edges_front ws others) answer new old 0 now
    → Done ws others answer new now
unfolding edges_front
call-done ws others {answer} l =
    let p = passed (edges_front ws others) answer l.number in
    let t = all_hold (edges_front ws others) refl p.0 in
    let s = and_first (edges_shown ws) others t.1.1.0 in
    record {
      whole = shown-whole ws s (leb-true (edges_in ws) most_edges t.1.0);
      shown = s;
      rest = and_second (edges_shown ws) others t.1.1.0;
      answered = p.1;
      held = l.held;
    }

-- and back: words that are shown pass the tests in front
pub front-holds : (ws : List ℤ) (others : Bool) → edges_shown ws ≡ true → edges_in ws ≤ most_edges → others ≡ true → refusal (edges_front ws others) ≡ 0
unfolding edges_front
front-holds ws others s few o =
    no-refusal (edges_front ws others) (eq-eqb (length ws % edge_size) 0 (omega (arith, edges_long ws s)), (le-leb (edges_in ws) most_edges few, (both s o, refl)))

pub call-left : (ws : List ℤ) (others : Bool) (d : Dimension) (extent : ℕ → Extent) (m : ℕ) (new : Axis) {answer : ℕ} {now : List ℤ}
    → Lent (edges_front ws others) answer (edges_over ws new) ws 0 now → m ≤ 2147483647 → OnlyAxis extent (axis_in ws d) new
    → (answer ≡ 0 → (i : ℕ) → edges_in ws ≤ i → extent i ≡ nothing) → (answer ≡ 0 → AxisWithin m new) → EdgesLeft ws now new
call-left ws others d extent m new l most only none within =
    let c = call-done ws others l in
    subst (λ (now : List ℤ). EdgesLeft ws now new) (sym c.held)
    (edges-left ws new c.whole (only-fits ws d extent m new c.whole most only (none c.answered) (within c.answered)))
