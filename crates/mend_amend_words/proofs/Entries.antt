-- The list of alterations as words: one word altered, and alterations behind others.
use Rattle.std.specs.Prelude.{None, Some}
use mathlib.Core.Path.{◌≡◌, refl, sym, ap, subst, ◌∙◌}
use mathlib.Core.Bool.{Bool, true, false, cond}
use mathlib.Core.List.{List, [], ◌∷◌, ◌++◌, append_assoc}
use Prim.Native.Nat.{ℕ, ◌+◌, ◌*◌, ◌≤◌}
use native.Mathlib.Omega.{arith}
use lib.Dec.{eqb}
use lib.ListN.{length, set, length-append}
use lib.Seq.{set-get_or}
use lib.IntN.{ℤ, pos}
use Rattle.signed.specs.Equality.{eq_z}
use Rattle.signed.proofs.Signed.{eq_z-true}
use Rattle.axis.specs.Link.{Link}
use Rattle.mend.specs.Altered.{Table, Field, Alteration, same_link, most_altered}
use Rattle.mend.specs.Altered as L
use Rattle.words.specs.Field.{link_word}
use Rattle.words.specs.Word.{word_at, written}
use Rattle.words.proofs.Writing.{written-length, written_none, written-more}
use Rattle.mend_amend_words.specs.declared.amend.Named.{Named}
use Rattle.mend_amend_words.specs.Listing.{alteration_size, alteration_words, list_words, Listed}
use Rattle.mend_amend_words.specs.Amended.{named_of, AmendedWord}

-- ---- one word, as the code comes to it
module _ (named : Named) (at : ℕ) (new : ℤ) (count : ℕ) (ws room : List ℤ) (r : Bool) (tested : r ≡ eq_z (word_at ws at) new) where
  abbrev entry : List ℤ
  entry = pos named.table ∷ pos named.index ∷ pos named.field ∷ word_at ws at ∷ new ∷ []

  -- it is what stood there
  pub stayed : r ≡ true → AmendedWord named at new count ws room count ws room
  stayed t =
      let b : eq_z (word_at ws at) new ≡ true = sym tested ∙ t in
      record {
        word = sym (set-get_or ws at (pos 0)) ∙ ap (set ws at) (eq_z-true (word_at ws at) new b);
        counted = sym (ap (λ (x : Bool). cond x count (count + 1)) b);
        few = omega arith;
        written_in = sym (ap (λ (x : Bool). cond x room (written room (alteration_size * count) entry)) b);
      }

  -- it is not
  pub altered : (z : ℤ) (room' e : List ℤ) → r ≡ false → z ≡ new → room' ≡ written room (alteration_size * count) e → e ≡ entry
      → AmendedWord named at new count ws room (count + 1) (set ws at z) room'
  altered z room' e t q w p =
      let b : eq_z (word_at ws at) new ≡ false = sym tested ∙ t in
      record {
        word = ap (set ws at) q;
        counted = sym (ap (λ (x : Bool). cond x count (count + 1)) b);
        few = omega arith;
        written_in = w ∙ ap (written room (alteration_size * count)) p ∙ sym (ap (λ (x : Bool). cond x room (written room (alteration_size * count) entry)) b);
      }

-- the new word, and what it is of, are others by equations
pub amended-as : {named named' : Named} {at : ℕ} {new new' : ℤ} {count : ℕ} {ws room : List ℤ} {r : ℕ} {ws' room' : List ℤ} → named ≡ named' → new ≡ new'
    → AmendedWord named at new count ws room r ws' room' → AmendedWord named' at new' count ws room r ws' room'
amended-as {named} {named'} {at} {new} {new'} {count} {ws} {room} {r} {ws'} {room'} q e a =
    subst (λ (x : Named). AmendedWord x at new' count ws room r ws' room') q (subst (λ (x : ℤ). AmendedWord named at x count ws room r ws' room') e a)

-- ---- one alteration
same_word : (a b : Link) → eq_z (link_word a) (link_word b) ≡ same_link a b
same_word None None = refl
same_word None (Some k) = refl
same_word (Some j) None = refl
same_word (Some j) (Some k) = refl

-- a field whose word is altered is listed
pub field-listed :
    (x : Table) (i : ℕ) (f : Field) (a b : Link) {at : ℕ} {new : ℤ} {count : ℕ} {ws room : List ℤ} {r : ℕ} {ws' room' : List ℤ}
    → AmendedWord (named_of x i f) at new count ws room r ws' room'
    → word_at ws at ≡ link_word a → new ≡ link_word b → Listed (L.listed x i f a b) count room r room'
unfolding list_words
field-listed x i f a b {at} {new} {count} {ws} {room} {r} {ws'} {room'} m p q = by (same_link a b) (tested ∙ same_word a b) m.counted m.written_in
  where
    tested : eq_z (word_at ws at) new ≡ eq_z (link_word a) (link_word b)
    tested = λ j. eq_z (p j) (q j)

    entry : List ℤ
    entry = pos (L.table_number x) ∷ pos i ∷ pos (L.field_number f) ∷ word_at ws at ∷ new ∷ []

    is-entry : entry ≡ alteration_words (record { table = x; index = i; field = f; old = a; new = b })
    is-entry = λ j. pos (L.table_number x) ∷ pos i ∷ pos (L.field_number f) ∷ p j ∷ q j ∷ []

    by : (t : Bool) → eq_z (word_at ws at) new ≡ t → r ≡ cond (eq_z (word_at ws at) new) count (count + 1)
        → room' ≡ cond (eq_z (word_at ws at) new) room (written room (alteration_size * count) entry)
        → Listed (cond t [] (record { table = x; index = i; field = f; old = a; new = b } ∷ [])) count room r room'
    by true e c w = record {
      counted = c ∙ ap (λ (s : Bool). cond s count (count + 1)) e ∙ omega arith;
      written_in = w ∙ ap (λ (s : Bool). cond s room (written room (alteration_size * count) entry)) e ∙ written_none room (alteration_size * count);
    }
    by false e c w = record {
      counted = c ∙ ap (λ (s : Bool). cond s count (count + 1)) e;
      written_in = w ∙ ap (λ (s : Bool). cond s room (written room (alteration_size * count) entry)) e ∙ ap (written room (alteration_size * count)) is-entry;
    }

-- ---- alterations behind others
pub list_length : (xs : List Alteration) → length (list_words xs) ≡ alteration_size * length xs
unfolding list_words
list_length [] = refl
list_length (a ∷ xs) = omega (arith, list_length xs)

list-append : (xs ys : List Alteration) → list_words (xs ++ ys) ≡ list_words xs ++ list_words ys
unfolding list_words
list-append [] ys = refl
list-append (a ∷ xs) ys = ap (λ (l : List ℤ). alteration_words a ++ l) (list-append xs ys) ∙ sym (append_assoc (alteration_words a) (list_words xs) (list_words ys))

-- nothing more
pub listed-none : (count : ℕ) (room : List ℤ) → Listed [] count room count room
unfolding list_words
listed-none count room = record { counted = omega arith; written_in = written_none room (alteration_size * count) }

-- the room is as long as it was
pub room-kept : {xs : List Alteration} {count : ℕ} {room : List ℤ} {r : ℕ} {room' : List ℤ} → Listed xs count room r room' → count + length xs ≤ most_altered
    → length room ≡ alteration_size * most_altered
    → length room' ≡ length room
room-kept {xs} {count} {room} {r} {room'} l h size =
    ap (length {A = ℤ}) l.written_in ∙ written-length room (list_words xs) (alteration_size * count) (omega (arith, list_length xs))

pub listed_then : {xs ys : List Alteration} {count : ℕ} {room : List ℤ} {r : ℕ} {room1 : List ℤ} {r' : ℕ} {room2 : List ℤ} → Listed xs count room r room1
    → Listed ys r room1 r' room2
    → count + length xs + length ys ≤ most_altered → length room ≡ alteration_size * most_altered → Listed (xs ++ ys) count room r' room2
listed_then {xs} {ys} {count} {room} {r} {room1} {r'} {room2} a b h size = record {
  counted = b.counted ∙ omega (arith, a.counted, length-append xs ys);
  written_in =
      b.written_in ∙ (λ j. written (a.written_in j) (at j) (list_words ys))
      ∙ written-more room (list_words xs) (list_words ys) (alteration_size * count) (omega (arith, list_length xs, list_length ys))
      ∙ ap (written room (alteration_size * count)) (sym (list-append xs ys));
}
  where
    at : alteration_size * r ≡ alteration_size * count + length (list_words xs)
    at = omega (arith, a.counted, list_length xs)
