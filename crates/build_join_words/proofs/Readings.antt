-- What is read of the words decides what the segments of the table decide.
use Rattle.std.specs.Prelude.{None, Some}
use mathlib.Core.Path.{◌≡◌, refl, sym, ap, subst, ◌∙◌}
use mathlib.Core.Bool.{Bool, true, false, not, ◌||◌}
use mathlib.Core.List.{List, [], ◌∷◌, append-nil}
use Prim.Native.Nat.{ℕ, ◌<◌}
use native.Mathlib.Omega.{arith}
use lib.IntN.{ℤ, pos}
use lib.ListN.{length, get_or}
use lib.Signed.{le_z}
use mir.Syntax.{w16}
use mir.Val.{SFits}
use Rattle.signed.proofs.Signed.{fits-in}
use Rattle.axis.specs.declared.edge.Edge.{Edge}
use Rattle.axis.specs.Link.{Link}
use Rattle.axis.specs.declared.segment.Segment.{Segment}
use Rattle.axis.specs.declared.segment.Segments.{Segments}
use Rattle.axis.specs.Accepted.{Below, SegmentsWithin}
use Rattle.axis.specs.Limits.{most_segments}
use Rattle.axis.specs.Ring.{times}
use Rattle.axis.specs.Segment.{segment_at}
use Rattle.build_join.specs.declared.rules.Rules.{Rules}
use Rattle.build_join.specs.Joining.{passed_over, skips, fits, fits_in, stops_behind, head_or, edge_of, agrees}
use Rattle.build_join.specs.Walks.{no_stem, StemAt, StemsOf, stems_agree}
use Rattle.build_join.proofs.Stems.{none-to, to_same, stems-agree}
use Rattle.words.specs.Segment.{segments_in, segments_run, flat_segments}
use Rattle.words.proofs.Places.{firsts_at, segment-read}
use Rattle.words.proofs.Typed.{flat-typed}
use Rattle.build_join_words.specs.Reading.{asked, words_of, edge_by, edge_at_place, stem_of, stem_in, stems_in, own_stem}

-- how many segments the table has
pub segments-len : (ws : List ℤ) → (flat_segments ws).len ≡ segments_in ws
unfolding flat_segments segments_run
segments-len ws = refl

-- ---- the other fields do not matter
pub skips-asked : (r : Rules) (second : Bool) (s : Segment) → skips r second (asked s) ≡ skips r second s
unfolding skips passed_over
skips-asked r true s = refl
skips-asked r false s = refl

pub fits-asked : (second : Bool) (limit : ℕ) (s : Segment) (e : Edge) → fits_in second limit (asked s) e ≡ fits_in second limit s e
unfolding fits_in fits
fits-asked true limit s e = refl
fits-asked false limit s e = refl

-- ---- the edge of a group, by its first segment
module _ (t : Segments) (scale : ℤ) where
  pub place-by : (g : List ℕ) → 0 < length g → (edge_of t scale g).fpos ≡ (segment_at t (head_or 0 g)).pos
  place-by [] h = absurd (omega arith)
  place-by (m ∷ ms) h = refl

  pub fits_by : (second : Bool) (limit : ℕ) (s : Segment) (g : List ℕ) (a b : ℕ) → 0 < length g
      → fits_in second limit s (edge_by (segment_at t (head_or 0 g)) a b) ≡ fits_in second limit s (edge_of t scale g)
  unfolding fits_in fits
  fits_by second limit s [] a b h = absurd (omega arith)
  fits_by true limit s (m ∷ ms) a b h = refl
  fits_by false limit s (m ∷ ms) a b h = refl

  pub stops-by : (r : Rules) (i : ℕ) (g : List ℕ) (a b : ℕ)
      → stops_behind r (edge_by (segment_at t i) a b) (edge_at_place (edge_of t scale g).fpos) ≡ stops_behind r (edge_of t scale (i ∷ [])) (edge_of t scale g)
  unfolding stops_behind
  stops-by r i g a b = refl

-- ---- the positions of links
-- that of each segment in its place
pub stem-at : (ws : List ℤ) (i : ℕ) → i < most_segments → get_or (stems_in ws) i (pos 0) ≡ stem_in ws i
stem-at ws i h = ap (λ (l : List ℤ). get_or l i (pos 0)) (sym (append-nil (stems_in ws))) ∙ firsts_at (stem_in ws) most_segments i [] (pos 0) h

module _ (ws : List ℤ) (W : SegmentsWithin (flat_segments ws)) where
  abbrev t : Segments
  t = flat_segments ws

  pub segment-of : (i : ℕ) → i < t.len → segment_at t i ≡ words_of ws i
  segment-of i h = segment-read ws i (omega (arith, segments-len ws)) (omega (arith, segments-len ws, W.few))

  stem-of : (l : Link) → Below t.len l → StemAt t l (stem_of ws l)
  unfolding stem_of
  stem-of None b = record { none = λ e. refl; to = λ k e. absurd (none-to k e); short = λ k e. absurd (none-to k e) }
  stem-of (Some k) b = record {
    none = λ e. absurd (none-to k (sym e));
    to = λ j e. ap (λ (s : Segment). s.pos) (sym (segment-of k (b.at k refl))) ∙ ap (λ (m : ℕ). (segment_at t m).pos) (to_same k j e);
    short = λ j e. subst (λ (s : Segment). SFits w16 s.pos) (segment-of k (b.at k refl)) (fits-in w16 ((flat-typed ws).segment k).pos tt tt);
  }

  stems-are : StemsOf t true (stems_in ws)
  stems-are = record {
    at = λ q i h. rw (stem-at ws i (omega (arith, W.few)), ← segment-of i h) (stem-of (segment_at t i).link (W.segment i h).link);
    none = λ q. absurd (let z : ◌≡◌ {A = ℕ} 0 1 = cc in omega arith);
  }

  -- the test of positions is the test of the links
  pub links-said : (cjk : Bool) (near i : ℕ) (ms : List ℕ) (stem : ℤ) → stem ≡ own_stem ws cjk i → i < t.len → ((x : ℕ) → 0 < times x ms → x < t.len)
      → (le_z no_stem stem || stems_agree (stems_in ws) near stem ms) ≡ (not cjk || agrees t near (segment_at t i).link ms)
  links-said false near i ms stem e hi h = rw e
  links-said true near i ms stem e hi h = rw (e, ← stem-at ws i (omega (arith, W.few))) (stems-agree t true (stems_in ws) near i ms stems-are hi h)
