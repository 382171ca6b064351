-- The turns of the pair round, in place.
use mathlib.Core.Path.{◌≡◌, refl, sym, ap, subst, ◌∙◌}
use mathlib.Core.Bool.{Bool, true, false, not, cond, ◌&&◌}
use mathlib.Core.List.{List}
use Prim.Native.Nat.{ℕ, ◌<◌}
use borrow.Author.Tests.{eqb-true, eqb-false, not-true}
use lib.Dec.{eqb}
use lib.Seq.{get_or-set_other}
use lib.IntN.{ℤ, pos, ◌-ℤ◌}
use lib.Signed.{◌≤ℤ◌}
use Rattle.signed.specs.Equality.{eq_z}
use Rattle.signed.specs.Range.{Between}
use Rattle.signed.proofs.Signed.{eq_z-true}
use Rattle.signed.proofs.Choices.{cond_cases, either_way, clash, at_set}
use Rattle.axis.specs.declared.kinds.Direction.{Direction}
use Rattle.axis.specs.declared.kinds.Direction.TheVariants as Directions
use Rattle.axis.specs.declared.segment.Segment.{Segment}
use Rattle.axis.specs.declared.segment.Segments.{Segments}
use Rattle.axis.specs.Direction.{number_of, same, opposite}
use Rattle.axis.specs.Limits.{most_score}
use Rattle.axis.specs.Segment.{empty_segment, segment_at, put_segment}
use Rattle.axis.proofs.Tests.{and-false}
use Rattle.refusals.proofs.Tests.{and_first}
use Rattle.link.specs.declared.gap.Gap.{Gap}
use Rattle.link.specs.declared.thresholds.Thresholds.{Thresholds}
use Rattle.link.specs.Loops.{turns}
use Rattle.link.specs.Pairs.{max_z, min_z, gap_of, stem_gap, facing, check_seg, linked_by, improved_by}
use Rattle.link.specs.Rounds.{improve_pair, pair_turn, major_turn, pair_round}
use Rattle.link.specs.Steps.{Reach}
use Rattle.link.proofs.Kept.{Every}
use Rattle.link.proofs.Turns.{pair-skip, pair-go, major-skip, major-go}
use Rattle.link.proofs.Within.{Within, stem-dist, pair-within}
use Rattle.words.specs.Field.{direction_of, direction_word}
use Rattle.words.specs.Segment.{segments_in, flat_segments}
use Rattle.words_segment.specs.Whole.{Whole, Became, joining, reduced}
use Rattle.words_segment.proofs.Became.{stays, became-as}
use Rattle.words_segment.proofs.Wholes.{segments-len}
use Rattle.link_words.specs.Linking.{Linkable, Made, Alike, other_word, improving}
use Rattle.link_words.proofs.Turns.{put_same, made-within}

-- ---- one segment
-- what a stem is tested by is read
module _ (ws : List ℤ) (i : ℕ) (gap : Gap) (ix : ℕ) (w : Whole ws) (seg : Segment) (t : Bool) (q : seg ≡ reduced (segment_at (flat_segments ws) i))
    (e : t ≡ check_seg seg gap) where
  better-is : (v : Bool) → t ≡ v → check_seg (segment_at (flat_segments ws) i) gap ≡ v
  unfolding check_seg
  better-is v g = sym (ap (λ (x : Segment). check_seg x gap) q) ∙ sym e ∙ g

  abbrev by-test : Bool → Segments
  by-test x = put_segment (flat_segments ws) i (cond x (linked_by (segment_at (flat_segments ws) i) gap ix) (segment_at (flat_segments ws) i))

  -- the stem that it has is as good
  pub improve-none : t ≡ false → Became (improving i gap ix) ws ws
  unfolding improved_by
  improve-none g = stays (improving i gap ix) w (sym (ap by-test (better-is false g) ∙ put_same (flat_segments ws) i))

  -- this one is better
  pub improve-law : {ws' : List ℤ} {z v : ℤ} → t ≡ true → z ≡ gap.dist → v ≡ gap.len → Became (joining i z v ix) ws ws' → Became (improving i gap ix) ws ws'
  unfolding improved_by
  improve-law {ws'} {z} {v} g a b j =
      became-as (ap by-test (sym (better-is true g)))
      (subst (λ (x : ℤ). Became (joining i gap.dist x ix) ws ws') b (subst (λ (x : ℤ). Became (joining i x v ix) ws ws') a j))

-- ---- directions
-- the word of the other direction is that of the opposite one alone
pub other-is : (a b : Direction) → eq_z (direction_word b) (other_word a) ≡ opposite a b
unfolding opposite same
other-is Directions.None Directions.None = refl
other-is Directions.None Directions.Right = refl
other-is Directions.None Directions.Left = refl
other-is Directions.None Directions.Up = refl
other-is Directions.None Directions.Down = refl
other-is Directions.Right Directions.None = refl
other-is Directions.Right Directions.Right = refl
other-is Directions.Right Directions.Left = refl
other-is Directions.Right Directions.Up = refl
other-is Directions.Right Directions.Down = refl
other-is Directions.Left Directions.None = refl
other-is Directions.Left Directions.Right = refl
other-is Directions.Left Directions.Left = refl
other-is Directions.Left Directions.Up = refl
other-is Directions.Left Directions.Down = refl
other-is Directions.Up Directions.None = refl
other-is Directions.Up Directions.Right = refl
other-is Directions.Up Directions.Left = refl
other-is Directions.Up Directions.Up = refl
other-is Directions.Up Directions.Down = refl
other-is Directions.Down Directions.None = refl
other-is Directions.Down Directions.Right = refl
other-is Directions.Down Directions.Left = refl
other-is Directions.Down Directions.Up = refl
other-is Directions.Down Directions.Down = refl

-- no direction is opposite to itself
not_itself : (d : Direction) → opposite d d ≡ false
unfolding opposite same
not_itself Directions.None = refl
not_itself Directions.Right = refl
not_itself Directions.Left = refl
not_itself Directions.Up = refl
not_itself Directions.Down = refl

-- so two segments that are opposite are two
two : (t : Segments) (i j : ℕ) → opposite (segment_at t i).dir (segment_at t j).dir ≡ true → i ≡ j → ⊥
two t i j h e = clash _ (subst (λ (k : ℕ). opposite (segment_at t i).dir (segment_at t k).dir ≡ false) e (not_itself _)) h

-- ---- a pair
module _ (by : Thresholds) (before : Segment) (ws : List ℤ) (i j : ℕ) (s : Linkable ws) (like : Alike before (segment_at (flat_segments ws) i)) where
  abbrev T : Segments
  T = flat_segments ws

  abbrev G : Gap
  G = gap_of before (segment_at T i) (segment_at T j)

  not-facing : facing by (segment_at T i) (segment_at T j) i j G ≡ false → Made (pair_turn by before i j) ws ws
  not-facing h = record { became = stays (pair_turn by before i j) s.whole (pair-skip by before i j T G refl h); within = s.within }

  -- the directions of the two, by the word of the other one
  opposite-is : (v t : Bool) (word : ℤ) → t ≡ eq_z (direction_word (segment_at T j).dir) word → word ≡ other_word before.dir → t ≡ v
      → opposite (segment_at T i).dir (segment_at T j).dir ≡ v
  opposite-is v t word a e h =
      ap (λ (d : Direction). opposite d (segment_at T j).dir) like.dir ∙ sym (other-is before.dir (segment_at T j).dir)
      ∙ ap (eq_z (direction_word (segment_at T j).dir)) (sym e) ∙ sym a ∙ h

  -- in other directions
  pub pair-apart : (t : Bool) (word : ℤ) → t ≡ eq_z (direction_word (segment_at T j).dir) word → word ≡ other_word before.dir → t ≡ false
      → Made (pair_turn by before i j) ws ws
  unfolding facing
  pair-apart t word a e h = not-facing (let o = opposite-is false t word a e h in rw o (and-false (not (eqb i j))))

  module _ (t : Bool) (word : ℤ) (a : t ≡ eq_z (direction_word (segment_at T j).dir) word) (e : word ≡ other_word before.dir) (o : t ≡ true)
      (seg2 : Segment) (q : seg2 ≡ reduced (segment_at T j)) (g : Gap) (p : g ≡ gap_of before before seg2) (b : Bool) (c : b ≡ stem_gap by g) where
    facing-each : opposite (segment_at T i).dir (segment_at T j).dir ≡ true
    facing-each = opposite-is true t word a e o

    others : i ≡ j → ⊥
    others = two T i j facing-each

    pub gap_is : g ≡ G
    unfolding gap_of
    gap_is =
        p ∙ ap (gap_of before before) q
        ∙ (λ n. record {
          dist = (segment_at T j).pos -ℤ before.pos;
          len = min_z (sym like.high n) (segment_at T j).max_coord -ℤ max_z (sym like.low n) (segment_at T j).min_coord;
        })

    -- no gap of a stem
    pub pair-none : b ≡ false → Made (pair_turn by before i j) ws ws
    unfolding facing
    pair-none h = not-facing (let f : stem_gap by G ≡ false = ap (stem_gap by) (sym gap_is) ∙ sym c ∙ h in rw (facing-each, f) (and-false (not (eqb i j))))

    module _ (h : b ≡ true) (r : Reach g) where
      faces : facing by (segment_at T i) (segment_at T j) i j g ≡ true
      unfolding facing
      faces = rw (facing-each, sym c ∙ h) (both (eqb i j) refl)
        where
          both : (x : Bool) → eqb i j ≡ x → (not x && true) ≡ true
          both true e = absurd (others (eqb-true i j e))
          both false e = refl

      -- its distance
      pub pair-dist : Between 0 most_score g.dist
      pair-dist = stem-dist by (segment_at T i) (segment_at T j) i j g faces r

      -- behind the first store the other segment is as it was
      pub pair-second : {w1 : List ℤ} → Became (improving i g j) ws w1 → segment_at (flat_segments w1) j ≡ segment_at T j
      pair-second {w1} m = ap (λ (x : Segments). segment_at x j) (m.table tt) ∙ get_or-set_other T.segments i j _ empty_segment (λ (z : j ≡ i). others (sym z))

      -- a stem, for each of the two where it is better
      pub pair-law : {w1 w2 : List ℤ} → i < segments_in ws → j < segments_in ws → pos 0 ≤ℤ by.len → Became (improving i g j) ws w1
          → Became (improving j g i) w1 w2 → Made (pair_turn by before i j) ws w2
      pair-law {w1} {w2} x y l m n =
          made-within s.whole keeps s.within
          (record {
            whole = n.whole;
            long = n.long ∙ m.long;
            table = λ d. n.table d
                ∙ ap (λ (u : Segments). put_segment u j (improved_by (segment_at u j) g i)) (m.table d) ∙ second ∙ go;
          })
        where
          new : Segments
          new = put_segment (put_segment T i (improved_by (segment_at T i) g j)) j (improved_by (segment_at T j) g i)

          second : put_segment (put_segment T i (improved_by (segment_at T i) g j)) j
              (improved_by (segment_at (put_segment T i (improved_by (segment_at T i) g j)) j) g i) ≡ new
          second =
              ap (λ (z : Segment). put_segment (put_segment T i (improved_by (segment_at T i) g j)) j (improved_by z g i))
              (get_or-set_other T.segments i j _ empty_segment (λ (z : j ≡ i). others (sym z)))

          go : new ≡ pair_turn by before i j T
          go = pair-go by before i j T g gap_is _ _ faces refl refl

          keeps : Every (segments_in ws) (Within (segments_in ws)) T → Every (segments_in ws) (Within (segments_in ws)) (pair_turn by before i j T)
          keeps k = subst (Every (segments_in ws) (Within (segments_in ws))) go (pair-within (segments_in ws) by i j T g _ _ x y l k r faces refl refl)

-- ---- what the inner loop does not change
improved-alike : (a s : Segment) (g : Gap) (ix : ℕ) → Alike a s → Alike a (improved_by s g ix)
unfolding improved_by
improved-alike a s g ix h = either_way (Alike a) (check_seg s g) (linked_by s g ix) s (record { dir = h.dir; low = h.low; high = h.high }) h

pub turn-alike : (by : Thresholds) (before a : Segment) (i j : ℕ) (t : Segments) → Alike a (segment_at t i) → Alike a (segment_at (pair_turn by before i j t) i)
unfolding pair_turn improve_pair facing
turn-alike by before a i j t h =
    cond_cases (λ (u : Segments). Alike a (segment_at u i)) (facing by (segment_at t i) (segment_at t j) i j g)
    (put_segment (put_segment t i (improved_by (segment_at t i) g j)) j (improved_by (segment_at t j) g i)) t
    (λ e. subst (Alike a) (sym (get_or-set_other (put_segment t i (improved_by (segment_at t i) g j)).segments j i _ empty_segment (apart e)))
    (at_set (Alike a) t.segments i i _ empty_segment (improved-alike a (segment_at t i) g j h) h))
    (λ e. h)
  where
    g : Gap
    g = gap_of before (segment_at t i) (segment_at t j)

    apart : facing by (segment_at t i) (segment_at t j) i j g ≡ true → i ≡ j → ⊥
    apart e = eqb-false i j (not-true (eqb i j) (and_first (not (eqb i j)) _ e))

pub made_alike : (by : Thresholds) (before a : Segment) (i j : ℕ) {ws ws' : List ℤ} → Made (pair_turn by before i j) ws ws'
    → Alike a (segment_at (flat_segments ws) i)
    → Alike a (segment_at (flat_segments ws') i)
made_alike by before a i j {ws} {ws'} m h =
    subst (λ (u : Segments). Alike a (segment_at u i)) (sym (m.became.table tt)) (turn-alike by before a i j (flat_segments ws) h)

-- ---- a segment of the outer loop
-- its position alone is read of the one before the inner loop
before-reduced : (by : Thresholds) (s : Segment) (i j : ℕ) (t : Segments) → pair_turn by (reduced s) i j t ≡ pair_turn by s i j t
unfolding pair_turn gap_of
before-reduced by s i j t = refl

-- the words of two directions are the same where they are, and then they are one
word_number : (d : Direction) → direction_word d ≡ pos (number_of d)
word_number Directions.None = refl
word_number Directions.Right = refl
word_number Directions.Left = refl
word_number Directions.Up = refl
word_number Directions.Down = refl

word_same : (a b : Direction) → eq_z (direction_word a) (direction_word b) ≡ same a b
unfolding same
word_same a b = λ n. eq_z (word_number a n) (word_number b n)

word_back : (d : Direction) → direction_of (direction_word d) ≡ d
unfolding direction_of
word_back Directions.None = refl
word_back Directions.Right = refl
word_back Directions.Left = refl
word_back Directions.Up = refl
word_back Directions.Down = refl

module _ (major : Direction) (by : Thresholds) (ws : List ℤ) (i : ℕ) (s : Linkable ws) (t : Bool) (word : ℤ)
    (a : t ≡ eq_z (direction_word (segment_at (flat_segments ws) i).dir) word)
    (e : word ≡ direction_word major) where
  abbrev S : Segment
  S = segment_at (flat_segments ws) i

  words_are : (v : Bool) → t ≡ v → eq_z (direction_word S.dir) (direction_word major) ≡ v
  words_are v h = ap (eq_z (direction_word S.dir)) (sym e) ∙ sym a ∙ h

  pub major-none : t ≡ false → Made (major_turn major by (segments_in ws) i) ws ws
  major-none h = record {
    became =
        stays (major_turn major by (segments_in ws) i) s.whole
        (major-skip major by (segments_in ws) i (flat_segments ws) (sym (word_same S.dir major) ∙ words_are false h));
    within = s.within;
  }

  module _ (h : t ≡ true) (before : Segment) (q : before ≡ reduced S) where
    pub alike_self : Alike before S
    alike_self =
        record {
          dir = sym (ap (λ (x : Segment). x.dir) q);
          low = sym (ap (λ (x : Segment). x.min_coord) q);
          high = sym
              (ap (λ (x : Segment). x.max_coord) q);
        }

    pub major-dir : before.dir ≡ major
    major-dir =
        ap (λ (x : Segment). x.dir) q ∙ sym (word_back S.dir) ∙ ap direction_of
        (eq_z-true (direction_word S.dir) (direction_word major) (words_are true h)) ∙ word_back major

    pub major-law : {ws' : List ℤ} → Made (turns (pair_turn by before i) (segments_in ws)) ws ws' → Made (major_turn major by (segments_in ws) i) ws ws'
    major-law {ws'} m = record {
      became = became-as (major-go major by (segments_in ws) i (flat_segments ws) _ (sym (word_same S.dir major) ∙ words_are true h) again) m.became;
      within = m.within;
    }
      where
        again : turns (pair_turn by before i) (segments_in ws) (flat_segments ws) ≡ turns (pair_turn by S i) (segments_in ws) (flat_segments ws)
        again =
            ap (λ (x : Segment). turns (pair_turn by x i) (segments_in ws) (flat_segments ws)) q
            ∙ (λ n. turns (λ (j : ℕ) (u : Segments). before-reduced by S i j u n) (segments_in ws) (flat_segments ws))

-- the whole round
pub pairs-law : (major : Direction) (by : Thresholds) {ws ws' : List ℤ} {n : ℕ} → n ≡ segments_in ws → Became (turns (major_turn major by n) n) ws ws'
    → Became (pair_round major by) ws ws'
unfolding pair_round
pairs-law major by {ws} e a = became-as (ap (λ (k : ℕ). turns (major_turn major by k) k (flat_segments ws)) (e ∙ sym (segments-len ws))) a
