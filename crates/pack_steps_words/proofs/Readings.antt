-- What is read of segments where their words stand.
use Rattle.std.specs.Prelude.{None, Some, MatchOption}
use Rattle.std.specs.Option.{is_some}
use mathlib.Core.Path.{◌≡◌, sym, ap, ◌∙◌}
use mathlib.Core.Bool.{Bool}
use mathlib.Core.List.{List}
use Prim.Native.Nat.{ℕ, ◌<◌}
use native.Mathlib.Omega.{arith}
use lib.IntN.{ℤ}
use Rattle.axis.specs.Link.{Link}
use Rattle.axis.specs.Link.{is_linked, index_or}
use Rattle.pack.proofs.Filled.{edged, link_or, serif_or}
use Rattle.words.specs.Word.{word_at}
use Rattle.words.specs.Field.{link_of}
use Rattle.words.specs.Segment.{link_place, serif_place, edge_place, word_of_segment, segments_in, flat_segments}
use Rattle.words_segment.specs.Whole.{Whole}
use Rattle.words_segment.proofs.Reading.{link-in, serif-in, edge_in}
use Rattle.words_segment.proofs.Wholes.{segments-len}

-- what the library tells of a link
pub some-linked : (l : Link) (r : Bool) → r ≡ is_some l → r ≡ is_linked l
some-linked None r h = h
some-linked (Some k) r h = h

-- what the library's `map_or` reads of a link, or i where there is none
pub read-or : (l : Link) (i r : ℕ) → MatchOption l (r ≡ i) (λ (k : ℕ). r ≡ k) → r ≡ index_or i l
read-or None i r h = h
read-or (Some k) i r h = h

module _ (ws : List ℤ) (w : Whole ws) (i : ℕ) (h : i < segments_in ws) where
  pub inside : i < (flat_segments ws).len
  inside = omega (arith, segments-len ws, h)

  -- the three that are followed
  pub edged-read : (a : Link) (r : Bool) → a ≡ link_of (word_at ws (word_of_segment i edge_place)) → r ≡ is_linked a → r ≡ edged (flat_segments ws) i
  edged-read a r e q = q ∙ ap is_linked (e ∙ sym (edge_in ws i w h))

  pub link-or : (a : Link) (r : ℕ) → a ≡ link_of (word_at ws (word_of_segment i link_place)) → r ≡ index_or i a → r ≡ link_or (flat_segments ws) i
  link-or a r e q = q ∙ ap (index_or i) (e ∙ sym (link-in ws i w h))

  pub serif-or : (a : Link) (r : ℕ) → a ≡ link_of (word_at ws (word_of_segment i serif_place)) → r ≡ index_or i a → r ≡ serif_or (flat_segments ws) i
  serif-or a r e q = q ∙ ap (index_or i) (e ∙ sym (serif-in ws i w h))
