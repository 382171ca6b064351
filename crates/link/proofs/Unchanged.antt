-- The rounds change score, len, link and serif of a segment, and nothing else.
use mathlib.Core.Path.{◌≡◌, refl, ap}
use Prim.Native.Nat.{ℕ, ◌<◌}
use lib.IntN.{ℤ}
use Rattle.axis.specs.declared.kinds.Direction.{Direction}
use Rattle.axis.specs.Link.{Link}
use Rattle.axis.specs.declared.segment.Segment.{Segment}
use Rattle.axis.specs.declared.segment.Segments.{Segments}
use Rattle.axis.specs.Accepted.{Below, SegmentsWithin}
use Rattle.axis.specs.Segment.{segment_at}
use Rattle.axis.proofs.Acceptance.{below_none, below-to}
use Rattle.link.specs.declared.gap.Gap.{Gap}
use Rattle.link.specs.declared.thresholds.Thresholds.{Thresholds}
use Rattle.link.specs.Pairs.{relinked, gap_of, linked_by, serif_of}
use Rattle.link.specs.Rounds.{linked}
use Rattle.link.proofs.Kept.{Inside, linked-kept}

-- s is the segment a but for those four
pub record Rest (a s : Segment) : Type 0 where
  pub same : s ≡ relinked a s.score s.len s.link s.serif

-- so is s with other ones
again : (a s : Segment) (score len : ℤ) (link serif : Link) → Rest a s → Rest a (relinked s score len link serif)
again a s score len link serif h = record { same = ap (λ (z : Segment). relinked z score len link serif) h.same }

-- the segment i of n is that of t but for those four
record Kept (t : Segments) (n i : ℕ) (s : Segment) : Type 0 where
  rest : Rest (segment_at t i) s
  inside : Inside n i s

module _ (t : Segments) (n : ℕ) where
  loosed : (i : ℕ) (s : Segment) (l : Link) → i < n → Below n l → Kept t n i s → Kept t n i (serif_of s l)
  loosed i s l x b h = record { rest = again (segment_at t i) s _ _ _ _ h.rest; inside = record { link = below_none n; serif = b } }

  joined : (i j : ℕ) (s : Segment) (g : Gap) → j < n → Kept t n i s → Kept t n i (linked_by s g j)
  joined i j s g y h = record { rest = again (segment_at t i) s _ _ _ _ h.rest; inside = record { link = below-to n j y; serif = h.inside.serif } }

-- the count is the same, and each segment but for those four
pub record OnlyLinked (t u : Segments) : Type 0 where
  pub size : u.len ≡ t.len
  pub rest : (i : ℕ) → i < t.len → Rest (segment_at t i) (segment_at u i)

pub linked-only : (dir : Direction) (by : Thresholds) (t : Segments) → SegmentsWithin t → OnlyLinked t (linked dir by t)
linked-only dir by t w =
    let n = t.len in
    let e = linked-kept n (Kept t n) (λ i s x h. h.inside) (loosed t n) by
    (λ before seg1 seg2 i j x y p a b f. (joined t n i j seg1 (gap_of before seg1 seg2) y a, joined t n j i seg2 (gap_of before seg1 seg2) x b))
    dir t (record {
      size = refl;
      each = λ i x.
          record { rest = record { same = refl }; inside = record { link = (w.segment i x).link; serif = (w.segment i x).serif } };
    }) in
    record { size = e.size; rest = λ (i : ℕ) (x : i < n). (e.each i x).rest }
