-- Words that pass the one loop are those of segments, and a call accepts them.
use Rattle.std.specs.Prelude.{Some}
use mathlib.Core.Path.{◌≡◌, refl, sym, ap, subst, ◌∙◌}
use mathlib.Core.Bool.{Bool, true, false}
use mathlib.Core.List.{List}
use Prim.Native.Nat.{ℕ, zero, suc, ◌+◌, ◌*◌, ◌≤◌, ◌<◌, min}
use native.Mathlib.Omega.{arith}
use borrow.Author.Tests.{le-leb}
use lib.ListN.{length}
use lib.IntN.{ℤ, pos, negsuc}
use Rattle.axis.specs.declared.segment.Segment.{Segment}
use Rattle.axis.specs.Limits.{most_segments}
use Rattle.axis.specs.Refusals.{every_segment, segment_indices, segment_next, segment_numbers, segments_indices, segments_nexts, segments_numbers}
use Rattle.axis.proofs.Accepting.{every_holds}
use Rattle.words.specs.Word.{word_at}
use Rattle.words.specs.Segment.{segment_size, segment_from, segments_in, flat_segments}
use Rattle.words.specs.Record.{segment_layout}
use Rattle.words_shape.specs.declared.field.Range.{Range}
use Rattle.words_shape.specs.declared.element.Record.TheVariants as Records
use Rattle.words_shape.specs.declared.element.Element.TheVariants as Elements
use Rattle.words_shape.specs.Shape as Shape
use Rattle.words_edge_test.specs.Held.{links_to}
use Rattle.words_call.proofs.Holding.{and_both, inside-more, link-word, link-holds, fields-make, run-make}
use Rattle.words_call.proofs.Tested.{Passed}
use Rattle.words_segment.proofs.Wholes.{segments-len}
use Rattle.words_segment_test.specs.Held.{links_where, FrontHeld, BackHeld, nexts_hold, Held}
use Rattle.words_segment_test.proofs.Refusals.{segment-held}

-- a next that is accepted is the word of one
next-word : (n : ℕ) (nexts : Bool) (w : ℤ) → n ≤ 65536 → Shape.is_in (links_where n nexts) w ≡ true → Shape.is_in Shape.link w ≡ true
next-word n true w few h = link-word n w few h
next-word n false w few h = h

-- ---- a segment
pub record SegmentHeld (ws : List ℤ) (nexts : Bool) (n at : ℕ) : Type 0 where
  pub front : FrontHeld ws at
  pub back : BackHeld ws at (links_to n) (links_where n nexts)

-- by the values that the code has
pub held_by : (ws : List ℤ) (at n : ℕ) (nexts : Bool) {links ways : Range} → links ≡ links_to n → ways ≡ links_where n nexts
    → FrontHeld ws at → BackHeld ws at links ways
    → SegmentHeld ws nexts n at
held_by ws at n nexts {links} {ways} d e f b =
    record { front = f; back = subst (BackHeld ws at (links_to n)) e (subst (λ (x : Range). BackHeld ws at x ways) d b) }

module _ (ws : List ℤ) (at n : ℕ) (nexts : Bool) (few : n ≤ 65536) (room : at + segment_size ≤ length ws) (h : SegmentHeld ws nexts n at) where
  abbrev f : FrontHeld ws at
  f = h.front

  abbrev b : BackHeld ws at (links_to n) (links_where n nexts)
  b = h.back

  words-hold : (k : ℕ) → k < segment_size → Shape.field_in Records.Segment ws at k ≡ true
  words-hold zero l = f.w0
  words-hold (suc zero) l = f.w1
  words-hold (suc (suc zero)) l = f.w2
  words-hold (suc (suc (suc zero))) l = f.w3
  words-hold (suc (suc (suc (suc zero)))) l = f.w4
  words-hold (suc (suc (suc (suc (suc zero))))) l = f.w5
  words-hold (suc (suc (suc (suc (suc (suc zero)))))) l = f.w6
  words-hold (suc (suc (suc (suc (suc (suc (suc zero))))))) l = inside-more (pos 0) (pos 65535) (negsuc 2147483647) (pos 2147483647) (word_at ws (at + 7)) refl
      refl f.w7
  words-hold (suc (suc (suc (suc (suc (suc (suc (suc zero)))))))) l = inside-more (pos 0) (pos 65535) (negsuc 2147483647) (pos 2147483647)
      (word_at ws (at + 8)) refl refl f.w8
  words-hold (suc (suc (suc (suc (suc (suc (suc (suc (suc zero))))))))) l = link-word n (word_at ws (at + 9)) few b.w9
  words-hold (suc (suc (suc (suc (suc (suc (suc (suc (suc (suc zero)))))))))) l = link-word n (word_at ws (at + 10)) few b.w10
  words-hold (suc (suc (suc (suc (suc (suc (suc (suc (suc (suc (suc zero))))))))))) l = b.w11
  words-hold (suc (suc (suc (suc (suc (suc (suc (suc (suc (suc (suc (suc zero)))))))))))) l = b.w12
  words-hold (suc (suc (suc (suc (suc (suc (suc (suc (suc (suc (suc (suc (suc zero))))))))))))) l = b.w13
  words-hold (suc (suc (suc (suc (suc (suc (suc (suc (suc (suc (suc (suc (suc (suc zero)))))))))))))) l = next-word n nexts (word_at ws (at + 14)) few b.w14
  words-hold (suc (suc (suc (suc (suc (suc (suc (suc (suc (suc (suc (suc (suc (suc (suc k))))))))))))))) l = absurd (omega arith)

  segment-make : Shape.element Elements.Segment ws at ≡ Some (at + segment_size)
  unfolding Shape.element
  segment-make = fields-make (Shape.ranges_of Records.Segment) ws at room words-hold

  indices-make : segment_indices n (segment_from ws at) ≡ true
  unfolding segment_indices segment_from
  indices-make = and_both _ _ (link-holds n (word_at ws (at + 9)) few b.w9) (link-holds n (word_at ws (at + 10)) few b.w10)

  next-make : nexts ≡ true → segment_next n (segment_from ws at) ≡ true
  unfolding segment_next segment_from
  next-make e = link-holds n (word_at ws (at + 14)) few (subst (λ (t : Bool). Shape.is_in (links_where n t) (word_at ws (at + 14)) ≡ true) e b.w14)

  numbers-make : segment_numbers (segment_from ws at) ≡ true
  unfolding segment_numbers segment_from
  numbers-make = and_both _ _ f.w7 f.w8

-- ---- every segment
module _ (ws : List ℤ) (nexts : Bool) (n i : ℕ) (p : Passed segment_layout (SegmentHeld ws nexts n) ws n i) (h : n ≤ i) where
  few : n ≤ 65536
  few = omega (arith, p.few)

  room : (k : ℕ) → k < n → segment_size * k + segment_size ≤ length ws
  room k l = omega (arith, p.count)

  held : (k : ℕ) → k < n → SegmentHeld ws nexts n (segment_size * k)
  held k l = p.held k (omega arith)

  -- a test that each segment passes that is read
  every_one : (test : Segment → Bool) → ((k : ℕ) → k < n → test (segment_from ws (segment_size * k)) ≡ true) → every_segment test (flat_segments ws) ≡ true
  every_one test each =
      every_holds _ (min (flat_segments ws).len most_segments)
      (λ k l. ap test (segment-held ws k (at_most k l)) ∙ each k (omega (arith, segments-len ws, p.count, l)))
    where
      at_most : (k : ℕ) → k < min (flat_segments ws).len most_segments → k < min (segments_in ws) most_segments
      at_most k l = let e = segments-len ws in rw e at l

  nexted : (t : Bool) → nexts ≡ t → nexts_hold (flat_segments ws) t ≡ true
  unfolding segments_nexts
  nexted true e =
      every_one (segment_next (flat_segments ws).len)
      (λ k l. rw (segments-len ws ∙ sym p.count) (next-make ws (segment_size * k) n nexts few (room k l) (held k l) e))
  nexted false e = refl

  pub passed-all : Held ws nexts
  unfolding Shape.segments_shown segments_indices segments_numbers
  passed-all = record {
    words =
        run-make Elements.Segment segment_size ws (segments_in ws) (omega (arith, p.count, p.long))
        (λ k l. let b = in_all k l in segment-make ws (segment_size * k) n nexts few (room k b) (held k b));
    few = le-leb (segments_in ws) most_segments (omega (arith, p.count, p.few));
    indices =
        and_both _ _ (every_one (segment_indices (flat_segments ws).len)
        (λ k l. rw (segments-len ws ∙ sym p.count) (indices-make ws (segment_size * k) n nexts few (room k l) (held k l))))
        (nexted nexts refl);
    numbers = every_one segment_numbers (λ k l. numbers-make ws (segment_size * k) n nexts few (room k l) (held k l));
  }
    where
      in_all : (k : ℕ) → k < segments_in ws → k < n
      in_all k l = omega (arith, p.count)
