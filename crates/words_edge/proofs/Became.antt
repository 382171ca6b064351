-- What the words of edges become by the stores of a call.
use Rattle.std.specs.Prelude.{None}
use mathlib.Core.Path.{◌≡◌, sym, ap, subst, ◌∙◌}
use mathlib.Core.List.{List}
use Prim.Native.Nat.{ℕ, ◌*◌, ◌<◌}
use native.Mathlib.Omega.{arith}
use lib.ListN.{length, set}
use lib.IntN.{ℤ, pos}
use Rattle.axis.specs.declared.flags.Flags.{Flags}
use Rattle.axis.specs.declared.kinds.Dimension.{Dimension}
use Rattle.axis.specs.Link.{Link}
use Rattle.axis.specs.declared.kinds.Mark.{Mark}
use Rattle.axis.specs.declared.edge.Edge.{Edge}
use Rattle.axis.specs.declared.edge.Axis.{Axis}
use Rattle.axis.specs.Accepted.{Below}
use Rattle.axis.specs.Flags.{as_done}
use Rattle.axis.specs.Edge.{edge_at, put_edge, placed, flagged, finished, joined_to}
use Rattle.axis.specs.Limits.{most_edges}
use Rattle.words.specs.Word.{word_at}
use Rattle.words.specs.Field.{blue_of, flags_of, flags_word, link_word, mark_word}
use Rattle.words.specs.Edge.{edge_size, pos_place, flags_place, blue_place, fitted_place, link_place, serif_place, mark_place, word_of_edge, edge_from, edges_in, edges_over}
use Rattle.words.specs.Record.{edge_layout}
use Rattle.words.proofs.Wholes as Of
use Rattle.words.proofs.Writes.{wrote-again, wrote_as, as-set, became}
use Rattle.words.proofs.Writes as Writes
use Rattle.words.proofs.Became.{table-over}
pub use Rattle.words.proofs.Became.{below_in, stays, became-then, became-as}
use Rattle.words.proofs.Layouts.{edge_codec}
use Rattle.words_edge.specs.Whole.{Whole, axis_in, Became, placing, flagging, fixing, zoned, unzoning, linking, serifing}
use Rattle.words_edge.proofs.Wholes.{edge_table, edge_in}
use Rattle.words_edge.proofs.Writes.{Wrote, pos-wrote, flags-wrote, link-wrote, serif-wrote, mark-wrote, fitted-wrote, present-wrote}
use Rattle.words_edge.proofs.Reading.{flags-in}

-- as many edges as before
pub as_many : (ws ws' : List ℤ) → length ws' ≡ length ws → edges_in ws' ≡ edges_in ws
as_many = Of.as_many edge_layout

-- ---- the axis written over the words
-- words whose axis is known on one dimension are that axis written over the words before
pub axis-over : (ws ws' : List ℤ) (d : Dimension) {axis : Axis} → Whole ws → Whole ws' → length ws' ≡ length ws → axis_in ws' d ≡ axis → ws' ≡ edges_over ws axis
unfolding edges_over
axis-over ws ws' d {axis} w w' l e = table-over edge_codec ws ws' (edge_at axis) w w' l (λ i h. ap (λ (t : Axis). edge_at t i) (sym e) ∙ edge_in ws' d i w' h)

pub became-over : {f : Axis → Axis} {ws ws' : List ℤ} → Whole ws → Became f ws ws' → (d : Dimension) → ws' ≡ edges_over ws (f (axis_in ws d))
became-over {f} {ws} {ws'} w a d = axis-over ws ws' d w a.whole a.long (a.table d)

-- ---- the stores
-- the edge whose words stand in a place
abbrev held : List ℤ → ℕ → Edge
held ws i = edge_from ws (edge_size * i)

-- its position and its mark
pub place-law : (ws w1 w2 : List ℤ) (i : ℕ) (p v u : ℤ) (m : Mark) → Whole ws → i < edges_in ws → w1 ≡ set ws (word_of_edge i pos_place) v → v ≡ p
    → w2 ≡ set w1 (word_of_edge i mark_place) u → u ≡ mark_word m → Became (placing i p m) ws w2
place-law ws w1 w2 i p v u m w h q e r f =
    became edge_table (λ (x : Edge). placed x p m) i w h (wrote-again edge_table a (wrote_as (ap (λ (x : Edge). placed x x.pos m) a.read) b))
  where
    a : Wrote ws w1 i (placed (held ws i) p (held ws i).mark)
    a = as-set (word_of_edge i pos_place) q e (pos-wrote ws i w h p)

    b : Wrote w1 w2 i (placed (held w1 i) (held w1 i).pos m)
    b = as-set (word_of_edge i mark_place) r f (mark-wrote w1 i a.whole (Of.still-below edge_layout ws w1 i a.long h) m)

-- other flags
pub flag-law : (ws ws' : List ℤ) (i : ℕ) (v : ℤ) (f : Flags) → Whole ws → i < edges_in ws → ws' ≡ set ws (word_of_edge i flags_place) v → v ≡ flags_word f
    → Became (flagging i f) ws ws'
flag-law ws ws' i v f w h r e = became edge_table (λ (x : Edge). flagged x f) i w h (as-set (word_of_edge i flags_place) r e (flags-wrote ws i w h f))

-- another link, and another serif
few-below : (l : Link) → Below most_edges l → Below 65536 l
few-below l b = record { at = λ k e. omega (arith, b.at k e) }

pub link-law : (ws ws' : List ℤ) (i : ℕ) (v : ℤ) (l : Link) → Whole ws → i < edges_in ws → Below most_edges l → ws' ≡ set ws (word_of_edge i link_place) v
    → v ≡ link_word l → Became (linking i l) ws ws'
link-law ws ws' i v l w h b r e =
    became edge_table (λ (x : Edge). joined_to x l x.serif) i w h (as-set (word_of_edge i link_place) r e (link-wrote ws i w h l (few-below l b)))

pub serif-law : (ws ws' : List ℤ) (i : ℕ) (v : ℤ) (l : Link) → Whole ws → i < edges_in ws → Below most_edges l → ws' ≡ set ws (word_of_edge i serif_place) v
    → v ≡ link_word l → Became (serifing i l) ws ws'
serif-law ws ws' i v l w h b r e =
    became edge_table (λ (x : Edge). joined_to x x.link l) i w h (as-set (word_of_edge i serif_place) r e (serif-wrote ws i w h l (few-below l b)))

-- no zone
pub unzone-law : (ws w1 w2 : List ℤ) (i : ℕ) → Whole ws → i < edges_in ws → w1 ≡ set ws (word_of_edge i fitted_place) (pos 0)
    → w2 ≡ set w1 (word_of_edge i blue_place) (pos 0) → Became (unzoning i) ws w2
unzone-law ws w1 w2 i w h q r =
    became edge_table (λ (x : Edge). zoned x None) i w h (wrote-again edge_table a (wrote_as (ap (λ (x : Edge). zoned x None) a.read) b))
  where
    a : Wrote ws w1 i (zoned (held ws i) (blue_of (word_at ws (word_of_edge i blue_place)) (pos 0)))
    a = Writes.as_written q (fitted-wrote ws i w h)

    b : Wrote w1 w2 i (zoned (held w1 i) None)
    b =
        Writes.as_written r (present-wrote w1 i a.whole (Of.still-below edge_layout ws w1 i a.long h) (word_at ws (word_of_edge i blue_place))
        (ap (λ (x : Edge). x.blue) a.read))

-- ---- two stores on the same edge
-- the second one changes what the first has made of it
pub put-again : (g : Edge → Edge) (ws : List ℤ) (d : Dimension) (i : ℕ) (x : Edge) → Whole ws → i < edges_in ws
    → put_edge (put_edge (axis_in ws d) i x) i (g (edge_at (put_edge (axis_in ws d) i x) i)) ≡ put_edge (axis_in ws d) i (g x)
put-again = Writes.put-again edge_table

-- its position and its mark, then that it is done
finishing : ℕ → Axis → Axis
finishing i axis = put_edge axis i (finished (edge_at axis i))

pub fix-law : (ws w1 w2 : List ℤ) (i : ℕ) (p p' : ℤ) (m : Mark) (fl : Flags) → i < edges_in ws → Whole ws → p' ≡ p → Became (placing i p' m) ws w1
    → fl ≡ flags_of (word_at w1 (word_of_edge i flags_place)) → Became (flagging i (as_done fl)) w1 w2 → Became (fixing i p m) ws w2
unfolding finishing
fix-law ws w1 w2 i p p' m fl h w e a q b =
    became-as again (became-then (subst (λ (z : ℤ). Became (placing i z m) ws w1) e a) done-now)
  where
    done : (d : Dimension) → flagging i (as_done fl) (axis_in w1 d) ≡ finishing i (axis_in w1 d)
    done d = ap (λ (x : Flags). flagging i (as_done x) (axis_in w1 d)) (q ∙ sym (flags-in w1 d i a.whole (below_in i a h)))

    done-now : Became (finishing i) w1 w2
    done-now = became-as done b

    again : (d : Dimension) → finishing i (placing i p m (axis_in ws d)) ≡ fixing i p m (axis_in ws d)
    again d = put-again finished ws d i (placed (edge_at (axis_in ws d) i) p m) w h
