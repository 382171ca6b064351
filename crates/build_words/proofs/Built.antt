-- Edges written, segments told their edges, and edges given their properties: one step behind the other.
use mathlib.Core.Path.{◌≡◌, refl, sym, ap, subst, ◌∙◌}
use mathlib.Core.Bool.{Bool, true, false}
use mathlib.Core.List.{List, ◌++◌}
use Prim.Native.Nat.{ℕ, ◌-◌, ◌*◌, ◌/◌, ◌≤◌, ◌<◌}
use native.Mathlib.Omega.{arith}
use borrow.Rule.Slice.PartMut.{post_of, same_len_mid, Post-is}
use lib.ListN.{length, take, drop}
use lib.Seq.{length-take-le}
use lib.IntN.{ℤ}
use Rattle.signed.proofs.Choices.{cond-true, cond-false}
use Rattle.axis.specs.declared.edge.Axis.{Axis}
use Rattle.axis.specs.declared.kinds.Dimension.{Dimension}
use Rattle.axis.specs.declared.kinds.Dimension.TheVariants as Dimensions
use Rattle.axis.specs.declared.kinds.Direction.{Direction}
use Rattle.axis.specs.declared.kinds.Direction.TheVariants as Directions
use Rattle.axis.specs.declared.segment.Segments.{Segments}
use Rattle.axis.specs.Accepted.{SegmentsWithin}
use Rattle.axis.specs.Limits.{most_edges}
use Rattle.build_join.specs.declared.rules.Rules.{Rules}
use Rattle.build_join.specs.Joining.{State, shown}
use Rattle.build_join.specs.Walks.{Joinable}
use Rattle.build_properties.specs.Properties.{edge_properties}
use Rattle.build_properties.specs.Steps as Steps
use Rattle.build.specs.Building.{built_segments, built_edges}
use Rattle.build.proofs.Handing as Handing
use Rattle.words.specs.Word.{written, joined}
use Rattle.words.specs.Edge.{edge_size, table_size, edges_in, edge_words_at}
use Rattle.words.specs.Segment.{segments_in, flat_segments}
use Rattle.words.proofs.Writing.{written-front}
use Rattle.words.proofs.Tables.{joined_length}
use Rattle.words.proofs.Edges.{edge-length, edge-lengths}
use Rattle.words_call.specs.Lent.{edges_of}
use Rattle.words_call.proofs.Whole.{over-whole}
use Rattle.words_edge.specs.Whole as Edges
use Rattle.words_edge.proofs.Wholes.{words-joined}
use Rattle.words_segment.specs.Whole.{Whole, Became}
use Rattle.words_segment.proofs.Became.{became-over, became-as}
use Rattle.build_join_words.specs.Lists.{Listed}
use Rattle.build_mark_words.specs.Marking.{RingsIn, marked_by}
use Rattle.build_mark_words.proofs.Marking.{marked-is}
use Rattle.build_properties_words.specs.Steps.{properties_of}
use Rattle.build_properties_words.proofs.Unread.{faced, properties-unread}
use Rattle.build_words.specs.Edges.{listed_words, Room}
use Rattle.build_words.specs.Building.{state_of, properties_words, Filling, BuiltIn, BuildsIn}
use Rattle.build_words.proofs.Listed.{
  few-listed,
  listed-room,
  listed-words,
  listed-count,
  listed-whole,
  listed-axis,
  listed-walk,
  listed-starts,
  listed-stops,
}

-- an axis of another dimension and another major direction is as ready for the properties of its edges
ready-faced : (axis : Axis) (t : Segments) (d : Dimension) (m : Direction) → Steps.Ready axis t → Steps.Ready (faced d m axis) t
ready-faced axis t d m R =
    record { few-edges = R.few-edges; few-segments = R.few-segments; edge = R.edge; segment = R.segment; rings = record { ring = R.rings.ring } }

module _ {ws : List ℤ} {r : Rules} {first last next : List ℕ} {room : List ℤ} (R : Filling ws r first last next room) where
  abbrev t : Segments
  t = flat_segments ws

  abbrev s : State
  s = state_of ws r

  abbrev edges : Axis
  edges = built_edges t r s

  abbrev count : ℕ
  count = edges_in room

  -- ---- the edges are written
  pub room-there : Room ws r.scale first count
  room-there = listed-room ws r R.within R.joinable R.listed

  abbrev made : List ℤ
  made = joined (edge_words_at edges) count

  module _ {w1 : List ℤ} (e : w1 ≡ written room 0 (joined (listed_words ws r.scale first last) count)) where
    pub made-is : w1 ≡ made
    made-is =
        e ∙ over-whole room _ (R.filled ∙ sym (joined_length (listed_words ws r.scale first last) edge_size (λ (k : ℕ). edge-length _) count))
        ∙ listed-words ws r R.within R.joinable R.listed

    pub made-long : length w1 ≡ length room
    made-long = ap length made-is ∙ joined_length (edge_words_at edges) edge_size (edge-lengths edges) count ∙ sym R.filled

    pub made-whole : Edges.Whole w1
    made-whole = subst Edges.Whole (sym made-is) (listed-whole ws r R.within R.joinable R.listed)

    made-axis : (d : Dimension) → Edges.axis_in w1 d ≡ faced d Directions.None edges
    unfolding shown
    made-axis d =
        ap (λ (x : List ℤ). Edges.axis_in x d) made-is ∙ listed-axis ws r R.within R.joinable R.listed d
        ∙ ap (λ (n : ℕ). record { dim = d; major_dir = Directions.None; edges = edges.edges; len = n }) R.listed.counts

    pub made-count : edges_in w1 ≡ count
    made-count = ap edges_in made-is ∙ listed-count ws r R.within R.joinable R.listed

    -- ---- the segments are told
    pub rings-there : (n : ℕ) → n ≡ edges_in w1 → RingsIn (segments_in ws) first last next n
    rings-there n q =
        subst (RingsIn (segments_in ws) first last next) (sym (q ∙ made-count))
        (record {
          few = few-listed ws r R.within R.joinable R.listed;
          starts = listed-starts ws r R.within R.joinable R.listed;
          stops = listed-stops ws r R.within R.joinable R.listed;
        })

    module _ {n : ℕ} (q : n ≡ edges_in w1) {ws' : List ℤ} (b : Became (marked_by first last next n) ws ws') where
      told : Became (λ (x : Segments). built_segments x s) ws ws'
      unfolding built_segments
      told =
          became-as
          (ap (λ (k : ℕ). marked_by first last next k t) (q ∙ made-count ∙ R.listed.counts)
          ∙ marked-is first last next s R.listed.nexts
          (λ (k : ℕ) (h : k < s.count). listed-walk ws r R.within R.joinable R.listed k (omega (arith, R.listed.counts))) t)
          b

      -- ---- the edges are given their properties
      pub properties-ready : Steps.Ready (edges_of w1) (flat_segments ws')
      properties-ready =
          subst (λ (x : Axis). Steps.Ready x (flat_segments ws')) (sym (made-axis Dimensions.Horizontal))
          (subst (Steps.Ready (faced Dimensions.Horizontal Directions.None edges)) (sym (told.table tt))
          (ready-faced edges (built_segments t s) Dimensions.Horizontal Directions.None (Handing.ready t r (shown t r s) refl R.within)))

      module _ {w2 : List ℤ} (p : Edges.Became (properties_of (flat_segments ws')) w1 w2) where
        given : Edges.axis_in w2 Dimensions.Horizontal ≡ faced Dimensions.Horizontal Directions.None (edge_properties edges (built_segments t s))
        given =
            p.table Dimensions.Horizontal ∙ (λ i. edge_properties (made-axis Dimensions.Horizontal i) (told.table tt i))
            ∙ properties-unread (built_segments t s) Dimensions.Horizontal Directions.None edges

        as_many : edges_in w2 ≡ s.count
        as_many = ap (λ (k : ℕ). k / edge_size) p.long ∙ made-count ∙ R.listed.counts

        pub built_in : BuiltIn ws r ws' w2
        built_in = record {
          long = told.long;
          segments = became-over R.whole told;
          edges = words-joined w2 Dimensions.Horizontal p.whole ∙ (λ i. joined (edge_words_at (given i)) (as_many i));
        }

-- ---- the lists as joining leaves them, and the room for a table of edges
module _ {ws : List ℤ} {r : Rules} (w : Whole ws) (W : SegmentsWithin (flat_segments ws)) (J : Joinable (flat_segments ws) r) {first last next : List ℕ}
    {full : Bool} {count : ℕ}
    (L : Listed (state_of ws r) first last next full count) (room : List ℤ) where
  pub few-built : count ≤ most_edges
  few-built = few-listed ws r W J L

  -- a 129th edge was called for
  pub builds-full : full ≡ true → BuildsIn ws r room full count ws room
  builds-full f = record { fulls = L.fulls; counts = L.counts; few = few-built; segments = sym (cond-true _ _ _ f); edges = sym (cond-true _ _ _ f) }

  -- none was: the edges fill the front of the room
  module _ (f : full ≡ false) (table : length room ≡ table_size) where
    abbrev front : List ℤ
    front = take (edge_size * count - 0) room

    front_long : length front ≡ edge_size * count
    front_long =
        let q : edge_size * count - 0 ≡ edge_size * count = omega arith in
        ap (λ (k : ℕ). length (take k room)) q ∙ length-take-le (edge_size * count) room (omega (arith, few-built, table))

    front-many : count ≡ edges_in front
    front-many = let q : count ≡ edge_size * count / edge_size = omega arith in q ∙ ap (λ (k : ℕ). k / edge_size) (sym front_long)

    pub front-ready : Filling ws r first last next front
    front-ready = record {
      whole = w;
      within = W;
      joinable = J;
      listed = record { firsts = L.firsts; lasts = L.lasts; nexts = L.nexts; fulls = sym f ∙ L.fulls; counts = sym front-many ∙ L.counts };
      filled = front_long ∙ ap (λ (k : ℕ). edge_size * k) front-many;
    }

    module _ {ws' now : List ℤ} (B : BuiltIn ws r ws' now) where
      abbrev axis : Axis
      axis = edge_properties (built_edges (flat_segments ws) r (state_of ws r)) (built_segments (flat_segments ws) (state_of ws r))

      now-long : length now ≡ edge_size * count
      now-long =
          ap length B.edges ∙ joined_length (edge_words_at axis) edge_size (edge-lengths axis) (state_of ws r).count
          ∙ ap (λ (k : ℕ). edge_size * k) (sym L.counts)

      pub room-long : length (now ++ post_of 0 (edge_size * count - 0) room) ≡ length room
      room-long = same_len_mid 0 (edge_size * count - 0) room now (now-long ∙ sym front_long)

      pub builds-done : BuildsIn ws r room full count ws' (now ++ post_of 0 (edge_size * count - 0) room)
      builds-done = record {
        fulls = L.fulls;
        counts = L.counts;
        few = few-built;
        segments = B.segments ∙ sym (cond-false _ _ _ f);
        edges =
            (λ i. B.edges i ++ (Post-is 0 (edge_size * count) room (omega arith) ∙ ap (λ (k : ℕ). drop k room) (sym now-long ∙ ap length B.edges)) i)
            ∙ sym (written-front room (properties_words ws r)) ∙ sym (cond-false _ _ _ f);
      }
