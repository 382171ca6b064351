-- First and last segments of edges renumbered where their words stand.
use mathlib.Core.Path.{◌≡◌, refl, sym, ap, ◌∙◌}
use mathlib.Core.List.{List}
use Prim.Native.Nat.{ℕ, ◌+◌, ◌*◌, ◌≤◌, ◌<◌}
use native.Mathlib.Omega.{arith}
use lib.ListN.{length, set}
use lib.Seq.{get_or-set_other}
use lib.IntN.{ℤ, pos}
use Rattle.axis.specs.declared.edge.Edge.{Edge}
use Rattle.axis.specs.declared.edge.Axis.{Axis}
use Rattle.axis.specs.declared.kinds.Dimension.{Dimension}
use Rattle.axis.specs.declared.kinds.Dimension.TheVariants as Dimensions
use Rattle.axis.specs.Edge.{edge_at}
use Rattle.axis.specs.Limits.{most_segments}
use Rattle.pack.specs.Sets.{number_at}
use Rattle.pack.specs.Listing.{Placed}
use Rattle.pack.specs.Packed.{packed_edge, ending, renumbered, Ended, EdgesHold}
use Rattle.pack.proofs.Edges.{edges_to, edges-left, edges_more, edges-all}
use Rattle.words.specs.Word.{word_at}
use Rattle.words.specs.Field.{index_of}
use Rattle.words.specs.Edge.{edge_size, first_place, last_place, word_of_edge, edge_from, edges_in}
use Rattle.words.specs.Record.{edge_layout}
use Rattle.words.proofs.Wholes as Of
use Rattle.words.proofs.Writes.{wrote-again, wrote_as, as_written, became}
use Rattle.words_call.specs.Lent.{edges_of}
use Rattle.words_edge.specs.Whole.{Whole, axis_in, Became, ended}
use Rattle.words_edge.proofs.Became.{became-then, became-as, below_in}
use Rattle.words_edge.proofs.Reading.{first-in, last-in}
use Rattle.words_edge.proofs.Wholes.{edge_table, edge_in, len-in, axis-long}
use Rattle.words_edge.proofs.Writes.{Wrote, first-wrote, last-wrote}

-- ---- one edge
module _ (ws : List ℤ) (i : ℕ) (w : Whole ws) (h : i < edges_in ws) (ends : Ended (edges_of ws) i) (new : List ℕ) (few : Placed new) where
  abbrev f : ℕ → ℕ
  f = number_at new

  abbrev old : Edge
  old = edge_from ws (edge_size * i)

  first_is : index_of (word_at ws (word_of_edge i first_place)) ≡ old.first
  first_is = sym (first-in ws Dimensions.Horizontal i w h) ∙ ap (λ (e : Edge). e.first) (edge_in ws Dimensions.Horizontal i w h)

  last_is : index_of (word_at ws (word_of_edge i last_place)) ≡ old.last
  last_is = sym (last-in ws Dimensions.Horizontal i w h) ∙ ap (λ (e : Edge). e.last) (edge_in ws Dimensions.Horizontal i w h)

  small-first : old.first < most_segments
  small-first = omega (arith, first_is, first-in ws Dimensions.Horizontal i w h, ends.first)

  small-last : old.last < most_segments
  small-last = omega (arith, last_is, last-in ws Dimensions.Horizontal i w h, ends.last)

  space : edge_size * i + edge_size ≤ length ws
  space = Of.room ws i w h

  pub first-ready : (word_of_edge i first_place < length ws) × (index_of (word_at ws (word_of_edge i first_place)) < most_segments)
  first-ready = (omega (arith, space), omega (arith, first-in ws Dimensions.Horizontal i w h, ends.first))

  module _ (w1 : List ℤ) (p : w1 ≡ set ws (word_of_edge i first_place) (pos (f (index_of (word_at ws (word_of_edge i first_place)))))) where
    one : Wrote ws w1 i (ended old (f old.first) old.last)
    one =
        as_written (p ∙ ap (λ (k : ℕ). set ws (word_of_edge i first_place) (pos (f k))) first_is)
        (first-wrote ws i w h (f old.first) (omega (arith, few.at old.first small-first)))

    -- the word of the last is what it was
    last-same : word_at w1 (word_of_edge i last_place) ≡ word_at ws (word_of_edge i last_place)
    last-same =
        ap (λ (l : List ℤ). word_at l (word_of_edge i last_place)) p ∙ get_or-set_other ws (word_of_edge i first_place) (word_of_edge i last_place) _ (pos 0)
        (λ q. omega arith)

    pub last-ready : (word_of_edge i last_place < length w1) × (index_of (word_at w1 (word_of_edge i last_place)) < most_segments)
    last-ready = (omega (arith, one.long, space), omega (arith, ap index_of last-same, last-in ws Dimensions.Horizontal i w h, ends.last))

    pub end-law : (w2 : List ℤ) → w2 ≡ set w1 (word_of_edge i last_place) (pos (f (index_of (word_at w1 (word_of_edge i last_place))))) → Became (ending i f) ws w2
    end-law w2 q =
        became edge_table (packed_edge f) i w h
        (wrote-again edge_table one
        (wrote_as (ap (λ (x : Edge). ended x x.first (f old.last)) one.read)
        (as_written (q ∙ ap (λ (k : ℕ). set w1 (word_of_edge i last_place) (pos (f k))) (ap index_of last-same ∙ last_is))
        (last-wrote w1 i one.whole (Of.still-below edge_layout ws w1 i one.long h) (f old.last) (omega (arith, few.at old.last small-last))))))

-- ---- every edge
module _ (ws₀ : List ℤ) (w : Whole ws₀) (new : List ℕ) (ws : List ℤ) (i : ℕ) where
  abbrev g : ℕ → ℕ
  g = number_at new

  all-places : (d : Dimension) → (axis_in ws₀ d).len ≤ length (axis_in ws₀ d).edges
  all-places d = omega (arith, len-in ws₀ d, axis-long ws₀ d, w.few)

  module _ (h : i < edges_in ws₀) (a : Became (λ (x : Axis). edges_to (number_at new) x i) ws₀ ws) where
    inside : (d : Dimension) → i < (axis_in ws₀ d).len
    inside d = omega (arith, len-in ws₀ d)

    -- the next one is what it was
    here : (d : Dimension) → edge_at (edges_to g (axis_in ws₀ d) i) i ≡ edge_at (axis_in ws₀ d) i
    here d = edges-left g (axis_in ws₀ d) (all-places d) i (omega (arith, inside d))

    pub next-ready : EdgesHold (edges_of ws₀) most_segments → Whole ws × (i < edges_in ws) × Ended (edges_of ws) i
    next-ready e =
        let q = ap (λ (x : Axis). edge_at x i) (a.table Dimensions.Horizontal) ∙ here Dimensions.Horizontal in (
          a.whole,
          below_in i a h,
          record {
            first = omega (arith, ap (λ (x : Edge). x.first) q, e.first i (inside Dimensions.Horizontal));
            last = omega (arith, ap (λ (x : Edge). x.last) q, e.last i (inside Dimensions.Horizontal));
          },
        )

    pub one_more : (ws' : List ℤ) → Became (ending i g) ws ws' → Became (λ (x : Axis). edges_to (number_at new) x (i + 1)) ws₀ ws'
    one_more ws' b =
        became-as (λ d. edges_more g (axis_in ws₀ d) (all-places d) (edges_to g (axis_in ws₀ d) i) i _ (inside d) refl (ap (packed_edge g) (here d)))
        (became-then a b)

  pub all-ended : i ≤ edges_in ws₀ → edges_in ws₀ ≤ i → Became (λ (x : Axis). edges_to (number_at new) x i) ws₀ ws → Became (renumbered (number_at new)) ws₀ ws
  all-ended h k a = became-as (λ d. edges-all g (axis_in ws₀ d) (all-places d) i (omega (arith, len-in ws₀ d)) (omega (arith, len-in ws₀ d))) a
