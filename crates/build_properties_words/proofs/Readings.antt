-- What is read of the words of segments decides what the segments of their table decide.
use Rattle.std.specs.Prelude.{None, Some}
use mathlib.Core.Path.{◌≡◌, refl, sym, ap, subst, ◌∙◌}
use mathlib.Core.Bool.{Bool, true, false, cond}
use mathlib.Core.List.{List}
use Prim.Native.Nat.{ℕ, ◌<◌}
use native.Mathlib.Omega.{arith}
use lib.IntN.{ℤ, pos}
use Rattle.signed.specs.Distance.{distance}
use Rattle.axis.specs.declared.edge.Axis.{Axis}
use Rattle.axis.specs.Link.{Link}
use Rattle.axis.specs.declared.segment.Segment.{Segment}
use Rattle.axis.specs.declared.segment.Segments.{Segments}
use Rattle.axis.specs.Accepted.{Below}
use Rattle.axis.specs.Link.{index_or}
use Rattle.axis.specs.Ring.{next_of}
use Rattle.axis.specs.Segment.{segment_at}
use Rattle.build_properties.specs.declared.join.Join.{Join}
use Rattle.build_properties.specs.Properties.{named_edge, is_other, join_of, join_at}
use Rattle.build_properties.specs.Steps.{Ready}
use Rattle.build_properties.proofs.Kept.{index_below}
use Rattle.words.specs.Segment.{segments_in, segments_run, flat_segments}
use Rattle.words.proofs.Places.{segment-read}
use Rattle.build_properties_words.specs.Reading.{asked, words_of, named_in, Naming, join_in}

-- ---- the other fields do not matter
edge-asked : (l : Link) (s : Segment) → named_edge l (asked s) ≡ named_edge l s
edge-asked None s = refl
edge-asked (Some i) s = refl

join-asked : (k : ℕ) (s serif link : Segment) → join_of k (asked s) (asked serif) (asked link) ≡ join_of k s serif link
unfolding join_of
join-asked k s serif link =
    λ n. let e = edge-asked s.serif serif n in
    cond {A = Join} (is_other k e) (record { is_serif = true; edge = e; delta = pos (distance s.pos serif.pos) })
    (record { is_serif = false; edge = edge-asked s.link link n; delta = pos (distance s.pos link.pos) })

named-asked : (ws : List ℤ) (ix : ℕ) (l : Link) → named_in ws (asked (words_of ws ix)) l ≡ asked (words_of ws (index_or ix l))
named-asked ws ix None = refl
named-asked ws ix (Some i) = refl

-- what a segment asks for, by what the code has read
pub join-law : (ws : List ℤ) (k ix : ℕ) {s serif link : Segment} {j : Join} → s ≡ asked (words_of ws ix) → serif ≡ named_in ws s s.serif
    → link ≡ named_in ws s s.link
    → j ≡ join_of k s serif link → j ≡ join_in ws k ix
join-law ws k ix {s} p q r e = e ∙ (λ n. join_of k s (q n) (r n)) ∙ ap (λ (x : Segment). join_of k x (named_in ws x x.serif) (named_in ws x x.link)) p

-- ---- the segments of the table
pub segments-len : (ws : List ℤ) → (flat_segments ws).len ≡ segments_in ws
unfolding flat_segments segments_run
segments-len ws = refl

module _ (ws : List ℤ) {axis : Axis} (r : Ready axis (flat_segments ws)) where
  abbrev t : Segments
  t = flat_segments ws

  segment-of : (i : ℕ) → i < t.len → segment_at t i ≡ words_of ws i
  segment-of i h = segment-read ws i (omega (arith, segments-len ws)) (omega (arith, segments-len ws, r.few-segments))

  module _ (ix : ℕ) (h : ix < t.len) where
    abbrev S : Segment
    S = segment_at t ix

    -- a segment that it names
    named-of : (l : Link) → Below t.len l → segment_at t (index_or ix l) ≡ words_of ws (index_or ix l)
    named-of l b = segment-of (index_or ix l) (index_below t.len ix l h b)

    -- its link and its serif, as they are read, are segments of the words
    below_of : (l : Segment → Link) → Below t.len (l S) → Below (segments_in ws) (l (words_of ws ix))
    below_of l b = subst (λ (s : Segment). Below (segments_in ws) (l s)) (segment-of ix h) (subst (λ (n : ℕ). Below n (l S)) (segments-len ws) b)

    pub naming : Naming ws ix
    naming = record {
      inside = omega (arith, segments-len ws);
      link = below_of (λ (s : Segment). s.link) (r.segment ix h).link;
      serif = below_of (λ (s : Segment). s.serif) (r.segment ix h).serif;
    }

    -- what it asks for
    pub join-read : (k : ℕ) → join_in ws k ix ≡ join_at t k ix
    unfolding join_at
    join-read k =
        let W = words_of ws ix in
        let s = segment-of ix h in
        (λ n. join_of k (asked W) (named-asked ws ix W.serif n) (named-asked ws ix W.link n))
        ∙ join-asked k W (words_of ws (index_or ix W.serif)) (words_of ws (index_or ix W.link))
        ∙ ap (λ (x : Segment). join_of k x (words_of ws (index_or ix x.serif)) (words_of ws (index_or ix x.link))) (sym s)
        ∙ (λ n. join_of k S (sym (named-of S.serif (r.segment ix h).serif) n) (sym (named-of S.link (r.segment ix h).link) n))

    -- whether it is round, and what is behind it
    pub round-read : {b : Bool} → b ≡ (words_of ws ix).flags.round → b ≡ S.flags.round
    round-read e = e ∙ ap (λ (x : Segment). x.flags.round) (sym (segment-of ix h))

    pub next-read : (last : ℕ) {next : ℕ} → next ≡ index_or last (words_of ws ix).next → next ≡ next_of t last ix
    next-read last e = e ∙ ap (λ (x : Segment). index_or last x.next) (sym (segment-of ix h))
