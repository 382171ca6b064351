-- The turns of the visit of an edge, from the first segment of its ring to the last.
use mathlib.Core.Path.{◌≡◌, refl, sym, ap, subst, ◌∙◌}
use mathlib.Core.Bool.{Bool, true, false}
use mathlib.Core.List.{List}
use Prim.Native.Nat.{ℕ, ◌+◌, ◌≤◌, ◌<◌}
use native.Mathlib.Omega.{arith}
use lib.IntN.{ℤ}
use lib.ListN.{length}
use Rattle.axis.specs.declared.edge.Edge.{Edge}
use Rattle.axis.specs.declared.kinds.Dimension.{Dimension}
use Rattle.axis.specs.declared.segment.Segments.{Segments}
use Rattle.axis.specs.Edge.{edge_at}
use Rattle.axis.specs.Limits.{most_segments}
use Rattle.axis.specs.Link.{index_or}
use Rattle.axis.specs.Ring.{next_of, walk, members, Walked}
use Rattle.axis.specs.Segment.{segment_at}
use Rattle.axis.proofs.Rings.{walk-passes, shorter}
use Rattle.build_properties.specs.Properties.{member, visit}
use Rattle.build_properties.specs.Steps.{Ready}
use Rattle.build_properties.proofs.Turns.{Along, Counted, along-start, along-more, along-end}
use Rattle.words.specs.Word.{word_at}
use Rattle.words.specs.Field.{index_of}
use Rattle.words.specs.Edge.{first_place, last_place, word_of_edge, edge_from, edges_in}
use Rattle.words.specs.Segment.{segments_in, flat_segments}
use Rattle.words_call.specs.Lent.{edges_of}
use Rattle.words_edge.specs.Whole.{Whole, axis_in, Became}
use Rattle.words_edge.proofs.Wholes.{edge_in, edges-len}
use Rattle.words_edge.proofs.Became.{as_many}
use Rattle.build_properties_words.specs.Reading.{words_of}
use Rattle.build_properties_words.specs.Steps.{Joined, ending}
use Rattle.build_properties_words.proofs.Readings.{segments-len, round-read, next-read}
use Rattle.build_properties_words.proofs.Visits.{joined_in, member-ready}

-- ---- the first segment of an edge and its last, as they are read
first-from : (ws : List ℤ) (at : ℕ) → (edge_from ws at).first ≡ index_of (word_at ws (at + first_place))
unfolding edge_from
first-from ws at = refl

last-from : (ws : List ℤ) (at : ℕ) → (edge_from ws at).last ≡ index_of (word_at ws (at + last_place))
unfolding edge_from
last-from ws at = refl

-- ---- a segment counted
module _ {t : Segments} {ix round straight round' straight' : ℕ} where
  pub counted-round : (segment_at t ix).flags.round ≡ true → round' ≡ round + 1 → straight' ≡ straight → Counted t ix round straight round' straight'
  counted-round e p q = record { round = rw e p; straight = rw e (omega (arith, q)) }

  pub counted-straight : (segment_at t ix).flags.round ≡ false → round' ≡ round → straight' ≡ straight + 1 → Counted t ix round straight round' straight'
  counted-straight e p q = record { round = rw e (omega (arith, p)); straight = rw e q }

-- ---- the turns
-- on the way from the first segment, where the words of the edges were ws₀, to the last: the words, the place and the two counts so far
pub record Going (sw : List ℤ) (k last first : ℕ) (ws₀ ws : List ℤ) (ix round straight : ℕ) : Type 0 where
  pub whole : Whole ws
  pub long : length ws ≡ length ws₀
  pub ready : Ready (edges_of ws) (flat_segments sw)
  pub edge : k < edges_in ws
  pub first_is : first ≡ (edge_at (edges_of ws₀) k).first
  pub last_is : last ≡ (edge_at (edges_of ws₀) k).last
  pub along : (d : Dimension) → Along (flat_segments sw) k last first (axis_in ws₀ d) (axis_in ws d) ix round straight

pub going-starts : (sw ws : List ℤ) (k : ℕ) {first last : ℕ} → Whole ws → Ready (edges_of ws) (flat_segments sw) → k < edges_in ws
    → first ≡ index_of (word_at ws (word_of_edge k first_place))
    → last ≡ index_of (word_at ws (word_of_edge k last_place)) → Going sw k last first ws ws first 0 0
going-starts sw ws k {first} {last} w r h p q =
    let f : first ≡ (edge_at (edges_of ws) k).first = p ∙ sym (ap (λ (e : Edge). e.first) (edge_in ws _ k w h) ∙ first-from ws _) in
    let l : last ≡ (edge_at (edges_of ws) k).last = q ∙ sym (ap (λ (e : Edge). e.last) (edge_in ws _ k w h) ∙ last-from ws _) in
    let walked : Walked (flat_segments sw) first last = rw (f, l) (r.rings.ring k (omega (arith, edges-len ws))) in
    record {
      whole = w;
      long = refl;
      ready = r;
      edge = h;
      first_is = f;
      last_is = l;
      along = λ (d : Dimension). along-start (flat_segments sw) k last first (axis_in ws d) walked;
    }

module _ {sw : List ℤ} {k last first : ℕ} {ws₀ ws : List ℤ} {ix round straight : ℕ} (g : Going sw k last first ws₀ ws ix round straight) where
  abbrev t : Segments
  t = flat_segments sw

  way : Along t k last first (edges_of ws₀) (edges_of ws) ix round straight
  way = g.along _

  pub going-inside : ix < segments_in sw
  going-inside = omega (arith, way.inside, segments-len sw)

  pub going-short : round + straight ≤ most_segments + 1
  going-short = omega (arith, way.short)

  -- whether the segment is round
  pub going-round : {b : Bool} → b ≡ (words_of sw ix).flags.round → (segment_at t ix).flags.round ≡ b
  going-round e = sym (round-read sw g.ready ix way.inside e)

  -- one step less is left
  pub going_less : {next : ℕ} → (ix ≡ last → ⊥) → next ≡ index_or last (words_of sw ix).next
      → length (walk (next_of t last) last most_segments next) < length (walk (next_of t last) last most_segments ix)
  going_less {next} h e =
      let p = walk-passes (next_of t last) t.len last most_segments ix h way.stops in
      let n : next ≡ next_of t last ix = next-read sw g.ready ix way.inside last e in
      subst (λ (x : ℕ). length (walk (next_of t last) last most_segments x) < length (walk (next_of t last) last most_segments ix)) (sym n)
      (omega (arith, shorter (next_of t last) t.len last most_segments ix p))

  -- behind the visit of the segment
  module _ {ws' : List ℤ} {round' straight' : ℕ} (a : Became (member t k ix) ws ws') (c : Counted t ix round straight round' straight') where
    still : k < edges_in ws'
    still = omega (arith, as_many ws ws' a.long, g.edge)

    ready' : Ready (edges_of ws') t
    ready' = member-ready sw ws k g.whole g.ready g.edge ix going-inside a

    pub going_on : {next : ℕ} → (ix ≡ last → ⊥) → next ≡ index_or last (words_of sw ix).next → Going sw k last first ws₀ ws' next round' straight'
    going_on h e = record {
      whole = a.whole;
      long = a.long ∙ g.long;
      ready = ready';
      edge = still;
      first_is = g.first_is;
      last_is = g.last_is;
      along = λ (d : Dimension).
          subst (λ (x : ℕ). Along t k last first (axis_in ws₀ d) (axis_in ws' d) x round' straight') (sym (next-read sw g.ready ix way.inside last e))
          (along-more t k last first (axis_in ws₀ d) (axis_in ws d) ix round straight (g.along d) (axis_in ws' d) round' straight' (a.table d) c h);
    }

    pub going-joined : Joined ws' k
    going-joined = joined_in sw ws' k a.whole ready' still

    -- at the last
    pub going-ends : {ws'' : List ℤ} → ix ≡ last → Became (ending k round' straight') ws' ws'' → Became (visit t k (members (edges_of ws₀) t k)) ws₀ ws''
    going-ends {ws''} h b = record {
      whole = b.whole;
      long = b.long ∙ a.long ∙ g.long;
      table = λ (d : Dimension).
          b.table d ∙ along-end t k last first (axis_in ws₀ d) (axis_in ws d) ix round straight (g.along d) (axis_in ws' d) round' straight' (a.table d) c _ h
          refl
          ∙ (λ n. visit t k (walk (next_of t (g.last_is n)) (g.last_is n) most_segments (g.first_is n)) (axis_in ws₀ d));
    }
