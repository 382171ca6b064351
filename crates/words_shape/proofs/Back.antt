-- Words that are those of their fields are given back: what is read from them is written as they were.
use Rattle.std.specs.Prelude.{None, Some}
use mathlib.Core.Path.{◌≡◌, refl, sym, ap, ◌∙◌}
use mathlib.Core.Bool.{Bool, true, false, cond, ◌&&◌, ◌||◌}
use mathlib.Core.List.{List, [], ◌∷◌, append-nil}
use Prim.Native.Nat.{ℕ, zero, suc, ◌+◌, ◌*◌, ◌<◌}
use native.Mathlib.Nat.{mod-eq_of_lt}
use native.Mathlib.Omega.{arith}
use lib.Dec.{ltb}
use lib.ListN.{length, get_or}
use lib.IntN.{ℤ, pos, negsuc}
use lib.Signed.{le_z}
use Rattle.signed.specs.Equality.{eq_z}
use Rattle.signed.proofs.Signed.{signed, eq_z-true}
use Rattle.refusals.proofs.Tests.{and_first, and_second}
use Rattle.words.specs.Field.{
  short_of,
  index_of,
  link_of,
  choice_of,
  direction_of,
  blue_of,
  flags_of,
  mark_of,
  link_word,
  direction_word,
  present_word,
  fitted_word,
  flags_word,
  mark_word,
}
use Rattle.words.specs.Word.{word_at, firsts}
use Rattle.words.specs.Edge.{edge_size, word_of_edge, edges_in, edge_from, edge_words}
use Rattle.words.specs.Segment.{segment_size, word_of_segment, segments_in, segment_from, segment_words}
use Rattle.words.proofs.Places.{firsts_at}
use Rattle.words_shape.specs.Place.{Place}
use Rattle.words_shape.specs.declared.field.Range.{Range}
use Rattle.words_shape.specs.declared.element.Record.TheVariants as Records
use Rattle.words_shape.specs.declared.element.Element.TheVariants as Elements
use Rattle.words_shape.specs.Shape.{
  is_in,
  short,
  index,
  link,
  choice,
  direction,
  flags,
  mark,
  no_range,
  and_then,
  field,
  fields,
  ranges_of,
  blue_shown,
  element,
  edges_shown,
  segments_shown,
}
use Rattle.words_shape.proofs.Shapes.{fields-place}
use Rattle.words_shape.proofs.Runs.{EdgeThere, edge-there, run_at}

clash : false ≡ true → ⊥
clash h = absurd (let z : ◌≡◌ {A = ℕ} 0 1 = cc in omega arith)

-- ---- a word within its field's values
short-word : (w : ℤ) → is_in short w ≡ true → short_of w ≡ w
unfolding short_of
short-word w h = rw h

index_word : (w : ℤ) → is_in index w ≡ true → pos (index_of w) ≡ w
index_word (pos n) h = let l = and_second (le_z (pos 0) (pos n)) _ h in ap pos (mod-eq_of_lt (omega (arith, signed, l)))
index_word (negsuc n) h = absurd (clash h)

link-word : (w : ℤ) → is_in link w ≡ true → link_word (link_of w) ≡ w
unfolding link_of
link-word (pos n) h = let l = and_second (le_z (negsuc 0) (pos n)) _ h in ap pos (mod-eq_of_lt (omega (arith, signed, l)))
link-word (negsuc zero) h = refl
link-word (negsuc (suc n)) h = let l = and_first (le_z (negsuc 0) (negsuc (suc n))) _ h in absurd (omega (arith, signed, l))

direction-word : (w : ℤ) → is_in direction w ≡ true → direction_word (direction_of w) ≡ w
unfolding direction_of
direction-word (pos n) h = let l = and_second (le_z (pos 0) (pos n)) _ h in by n (omega (arith, signed, l))
  where
    by : (n : ℕ) → n < 5 → direction_word (direction_of (pos n)) ≡ pos n
    by zero h = refl
    by (suc zero) h = refl
    by (suc (suc zero)) h = refl
    by (suc (suc (suc zero))) h = refl
    by (suc (suc (suc (suc zero)))) h = refl
    by (suc (suc (suc (suc (suc n))))) h = absurd (omega arith)
direction-word (negsuc n) h = absurd (clash h)

mark-word : (w : ℤ) → is_in mark w ≡ true → mark_word (mark_of w) ≡ w
unfolding mark_of
mark-word (pos n) h = let l = and_second (le_z (pos 0) (pos n)) _ h in by n (omega (arith, signed, l))
  where
    by : (n : ℕ) → n < 13 → mark_word (mark_of (pos n)) ≡ pos n
    by zero h = refl
    by (suc zero) h = refl
    by (suc (suc zero)) h = refl
    by (suc (suc (suc zero))) h = refl
    by (suc (suc (suc (suc zero)))) h = refl
    by (suc (suc (suc (suc (suc zero))))) h = refl
    by (suc (suc (suc (suc (suc (suc zero)))))) h = refl
    by (suc (suc (suc (suc (suc (suc (suc zero))))))) h = refl
    by (suc (suc (suc (suc (suc (suc (suc (suc zero)))))))) h = refl
    by (suc (suc (suc (suc (suc (suc (suc (suc (suc zero))))))))) h = refl
    by (suc (suc (suc (suc (suc (suc (suc (suc (suc (suc zero)))))))))) h = refl
    by (suc (suc (suc (suc (suc (suc (suc (suc (suc (suc (suc zero))))))))))) h = refl
    by (suc (suc (suc (suc (suc (suc (suc (suc (suc (suc (suc (suc zero)))))))))))) h = refl
    by (suc (suc (suc (suc (suc (suc (suc (suc (suc (suc (suc (suc (suc n))))))))))))) h = absurd (omega arith)
mark-word (negsuc n) h = absurd (clash h)

flags-word : (w : ℤ) → is_in flags w ≡ true → flags_word (flags_of w) ≡ w
unfolding flags_word flags_of
flags-word (pos n) h = let l = and_second (le_z (pos 0) (pos n)) _ h in by n (omega (arith, signed, l))
  where
    by : (n : ℕ) → n < 16 → flags_word (flags_of (pos n)) ≡ pos n
    by zero h = refl
    by (suc zero) h = refl
    by (suc (suc zero)) h = refl
    by (suc (suc (suc zero))) h = refl
    by (suc (suc (suc (suc zero)))) h = refl
    by (suc (suc (suc (suc (suc zero))))) h = refl
    by (suc (suc (suc (suc (suc (suc zero)))))) h = refl
    by (suc (suc (suc (suc (suc (suc (suc zero))))))) h = refl
    by (suc (suc (suc (suc (suc (suc (suc (suc zero)))))))) h = refl
    by (suc (suc (suc (suc (suc (suc (suc (suc (suc zero))))))))) h = refl
    by (suc (suc (suc (suc (suc (suc (suc (suc (suc (suc zero)))))))))) h = refl
    by (suc (suc (suc (suc (suc (suc (suc (suc (suc (suc (suc zero))))))))))) h = refl
    by (suc (suc (suc (suc (suc (suc (suc (suc (suc (suc (suc (suc zero)))))))))))) h = refl
    by (suc (suc (suc (suc (suc (suc (suc (suc (suc (suc (suc (suc (suc zero))))))))))))) h = refl
    by (suc (suc (suc (suc (suc (suc (suc (suc (suc (suc (suc (suc (suc (suc zero)))))))))))))) h = refl
    by (suc (suc (suc (suc (suc (suc (suc (suc (suc (suc (suc (suc (suc (suc (suc zero))))))))))))))) h = refl
    by (suc (suc (suc (suc (suc (suc (suc (suc (suc (suc (suc (suc (suc (suc (suc (suc n)))))))))))))))) h = absurd (omega arith)
flags-word (negsuc n) h = absurd (clash h)

-- a blue by its two words, 0 behind an absent one
present-word : (w v : ℤ) → is_in choice w ≡ true → present_word (blue_of w v) ≡ w
unfolding blue_of choice_of
present-word (pos zero) v h = refl
present-word (pos (suc zero)) v h = refl
present-word (pos (suc (suc n))) v h = let l = and_second (le_z (pos 0) (pos (suc (suc n)))) _ h in absurd (omega (arith, signed, l))
present-word (negsuc n) v h = absurd (clash h)

fitted-word : (w v : ℤ) → is_in choice w ≡ true → (eq_z w (pos 1) || eq_z v (pos 0)) ≡ true → fitted_word (blue_of w v) ≡ v
unfolding blue_of choice_of
fitted-word (pos zero) v h b = sym (eq_z-true v (pos 0) b)
fitted-word (pos (suc zero)) v h b = refl
fitted-word (pos (suc (suc n))) v h b = let l = and_second (le_z (pos 0) (pos (suc (suc n)))) _ h in absurd (omega (arith, signed, l))
fitted-word (negsuc n) v h b = absurd (clash h)

-- ---- records
-- a field that is there: the next place, and its word within its values
record There (r : Range) (ws : List ℤ) (at n : ℕ) : Type 0 where
  next : n ≡ at + 1
  in_values : is_in r (word_at ws at) ≡ true

field-there : (r : Range) (ws : List ℤ) (at n : ℕ) → field r ws at ≡ Some n → There r ws at n
unfolding field
field-there r ws at n e = by (ltb at (length ws)) (is_in r (word_at ws at)) refl e
  where
    by : (t v : Bool) → v ≡ is_in r (word_at ws at) → cond (t && v) (Some (at + 1)) None ≡ Some n → There r ws at n
    by true true q e = record { next = cc; in_values = sym q }
    by true false q e = absurd (let z : ◌≡◌ {A = ℕ} 0 1 = cc in omega arith)
    by false v q e = absurd (let z : ◌≡◌ {A = ℕ} 0 1 = cc in omega arith)

-- each word of a record that is there is within its field's values
abbrev AllIn : List Range → List ℤ → ℕ → Type 0
AllIn rs ws at = (k : ℕ) → k < length rs → is_in (get_or rs k no_range) (word_at ws (at + k)) ≡ true

fields_in : (rs : List Range) (ws : List ℤ) (at n : ℕ) → fields rs ws at ≡ Some n → AllIn rs ws at
unfolding fields and_then
fields_in [] ws at n e k h = absurd (omega arith)
fields_in (r ∷ rs) ws at n e k h = by (field r ws at) refl e (λ m f. fields_in rs ws m n f) k h
  where
    later : (m k : ℕ) → There r ws at m → AllIn rs ws m → suc k < length (r ∷ rs) → is_in (get_or rs k no_range) (word_at ws (at + suc k)) ≡ true
    later m k t again h = let q : at + suc k ≡ m + k = omega (arith, t.next) in rw q (again k (omega arith))

    all : (m k : ℕ) → There r ws at m → AllIn rs ws m → k < length (r ∷ rs) → is_in (get_or (r ∷ rs) k no_range) (word_at ws (at + k)) ≡ true
    all m zero t again h = let q : at + 0 ≡ at = omega arith in rw q t.in_values
    all m (suc k) t again h = later m k t again h

    by : (p : Place) → field r ws at ≡ p → and_then p (fields rs ws) ≡ Some n → ((m : ℕ) → fields rs ws m ≡ Some n → AllIn rs ws m) → AllIn (r ∷ rs) ws at
    by None f e again k h = absurd (let z : ◌≡◌ {A = ℕ} 0 1 = cc in omega arith)
    by (Some m) f e again k h = all m k (field-there r ws at m f) (again m e) h

-- the words of an edge that is there are those that it is written as
edge_same : (ws : List ℤ) (at n : ℕ) → EdgeThere ws at n → edge_words (edge_from ws at) ≡ firsts (λ (j : ℕ). word_at ws (at + j)) edge_size
unfolding edge_words edge_from firsts blue_shown
edge_same ws at n t =
    let q : at + 0 ≡ at = omega arith in
    let f = fields_in (ranges_of Records.Edge) ws at n t.fields_are in
    rw (
      q,
      short-word (word_at ws at) (rw q at (f 0 (omega arith))),
      flags-word (word_at ws (at + 3)) (f 3 (omega arith)),
      direction-word (word_at ws (at + 4)) (f 4 (omega arith)),
      present-word (word_at ws (at + 5)) (word_at ws (at + 6)) (f 5 (omega arith)),
      fitted-word (word_at ws (at + 5)) (word_at ws (at + 6)) (f 5 (omega arith)) t.blue,
      link-word (word_at ws (at + 7)) (f 7 (omega arith)),
      link-word (word_at ws (at + 8)) (f 8 (omega arith)),
      index_word (word_at ws (at + 9)) (f 9 (omega arith)),
      index_word (word_at ws (at + 10)) (f 10 (omega arith)),
      mark-word (word_at ws (at + 11)) (f 11 (omega arith)),
    )

-- and those of a segment
segment-same : (ws : List ℤ) (at n : ℕ) → fields (ranges_of Records.Segment) ws at ≡ Some n
    → segment_words (segment_from ws at) ≡ firsts (λ (j : ℕ). word_at ws (at + j)) segment_size
unfolding segment_words segment_from firsts
segment-same ws at n t =
    let q : at + 0 ≡ at = omega arith in
    let f = fields_in (ranges_of Records.Segment) ws at n t in
    rw (
      q,
      flags-word (word_at ws at) (rw q at (f 0 (omega arith))),
      direction-word (word_at ws (at + 1)) (f 1 (omega arith)),
      short-word (word_at ws (at + 2)) (f 2 (omega arith)),
      short-word (word_at ws (at + 3)) (f 3 (omega arith)),
      short-word (word_at ws (at + 4)) (f 4 (omega arith)),
      short-word (word_at ws (at + 5)) (f 5 (omega arith)),
      short-word (word_at ws (at + 6)) (f 6 (omega arith)),
      link-word (word_at ws (at + 9)) (f 9 (omega arith)),
      link-word (word_at ws (at + 10)) (f 10 (omega arith)),
      index_word (word_at ws (at + 11)) (f 11 (omega arith)),
      index_word (word_at ws (at + 12)) (f 12 (omega arith)),
      link-word (word_at ws (at + 13)) (f 13 (omega arith)),
      link-word (word_at ws (at + 14)) (f 14 (omega arith)),
    )

-- ---- lists
-- a word among the first of a list's words from a place on
among : (ws : List ℤ) (at n j : ℕ) → j < n → word_at (firsts (λ (k : ℕ). word_at ws (at + k)) n) j ≡ word_at ws (at + j)
among ws at n j h =
    ap (λ (l : List ℤ). word_at l j) (sym (append-nil (firsts (λ (k : ℕ). word_at ws (at + k)) n))) ∙ firsts_at (λ (k : ℕ). word_at ws (at + k)) n j [] (pos 0) h

-- how long an edge is, and a segment
pub edge-place : (ws : List ℤ) (at n : ℕ) → element Elements.Edge ws at ≡ Some n → n ≡ at + edge_size
unfolding element
edge-place ws at n e = (edge-there ws at n e).behind

pub segment-place : (ws : List ℤ) (at n : ℕ) → element Elements.Segment ws at ≡ Some n → n ≡ at + segment_size
unfolding element
segment-place ws at n e = fields-place (ranges_of Records.Segment) ws at n e

-- word j of edge i, decoded and encoded
pub edges-back : (ws : List ℤ) → edges_shown ws ≡ true → (i j : ℕ) → i < edges_in ws → j < edge_size
    → word_at (edge_words (edge_from ws (edge_size * i))) j ≡ word_at ws (word_of_edge i j)
unfolding edges_shown element
edges-back ws h i j l b =
    let at = edge_size * i in
    ap (λ (xs : List ℤ). word_at xs j) (edge_same ws at _ (edge-there ws at _ (run_at Elements.Edge edge_size ws (edge-place ws) (edges_in ws) h i l)))
    ∙ among ws at edge_size j b

-- word j of segment i, decoded and encoded
pub segments-back :
    (ws : List ℤ) → segments_shown ws ≡ true → (i j : ℕ) → i < segments_in ws → j < segment_size
    → word_at (segment_words (segment_from ws (segment_size * i))) j ≡ word_at ws (word_of_segment i j)
unfolding segments_shown element
segments-back ws h i j l b =
    let at = segment_size * i in
    ap (λ (xs : List ℤ). word_at xs j) (segment-same ws at _ (run_at Elements.Segment segment_size ws (segment-place ws) (segments_in ws) h i l))
    ∙ among ws at segment_size j b
