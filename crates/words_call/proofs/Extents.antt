-- Edges of which so much is changed, word by word.
use mathlib.Core.Path.{◌≡◌, refl, sym, ap, subst, ◌∙◌}
use mathlib.Core.Bool.{Bool, true, false, cond, ◌||◌}
use mathlib.Core.List.{List, [], ◌∷◌}
use Prim.Native.Nat.{ℕ, ◌/◌, ◌%◌}
use native.Mathlib.Omega.{arith}
use borrow.Author.Tests.{eqb-true}
use lib.Dec.{eqb}
use lib.ListN.{set}
use lib.IntN.{ℤ}
use Rattle.axis.specs.declared.flags.Flags.{Flags}
use Rattle.axis.specs.Link.{Blue}
use Rattle.axis.specs.declared.kinds.Mark.{Mark}
use Rattle.axis.specs.declared.edge.Edge.{Edge}
use Rattle.axis.specs.declared.edge.Axis.{Axis}
use Rattle.axis.specs.Edge.{edge_at, changed, placed}
use Rattle.axis.specs.Changes.{Extent, nothing, position, place, zone, Only, wherever, OnlyAxis}
use Rattle.words.specs.Word.{word_at}
use Rattle.words.specs.Field.{flags_word, present_word, fitted_word, mark_word}
use Rattle.words.specs.Edge.{edge_size, pos_place, flags_place, blue_place, fitted_place, mark_place, edge_words}
use Rattle.words_call.specs.Kept.{of_edges, is_one_of, position_words, place_words, zone_words, words_of, in_extent, Beside}
use Rattle.words_call.proofs.Kept.{SameEdges}
use Rattle.words_call.proofs.Moved.{none_of, word-beside}

-- an edge with another position and mark, other flags and another zone
zone-word : (e : Edge) (p : ℤ) (m : Mark) (f : Flags) (b : Blue) (j : ℕ) → is_one_of zone_words j ≡ false
    → word_at (edge_words (changed e p m f b e.link e.serif e.last)) j ≡ word_at (edge_words e) j
unfolding edge_words
zone-word e p m f b j h =
    let one = none_of pos_place (flags_place ∷ blue_place ∷ fitted_place ∷ mark_place ∷ []) j h in
    let two = none_of flags_place (blue_place ∷ fitted_place ∷ mark_place ∷ []) j one.1 in
    let three = none_of blue_place (fitted_place ∷ mark_place ∷ []) j two.1 in
    let four = none_of fitted_place (mark_place ∷ []) j three.1 in
    let five = none_of mark_place [] j four.1 in
    let xs = edge_words e in
    let ys = set (set xs pos_place p) flags_place (flags_word f) in
    let zs = set ys blue_place (present_word b) in
    word-beside (set zs fitted_place (fitted_word b)) mark_place j (mark_word m) five.0 ∙ word-beside zs fitted_place j (fitted_word b) four.0
    ∙ word-beside ys blue_place j (present_word b) three.0 ∙ word-beside (set xs pos_place p) flags_place j (flags_word f) two.0
    ∙ word-beside xs pos_place j p one.0

place-word : (e : Edge) (p : ℤ) (m : Mark) (f : Flags) (j : ℕ) → is_one_of place_words j ≡ false
    → word_at (edge_words (changed e p m f e.blue e.link e.serif e.last)) j ≡ word_at (edge_words e) j
unfolding edge_words
place-word e p m f j h =
    let one = none_of pos_place (flags_place ∷ mark_place ∷ []) j h in
    let two = none_of flags_place (mark_place ∷ []) j one.1 in
    let three = none_of mark_place [] j two.1 in
    let xs = edge_words e in
    let ys = set xs pos_place p in
    word-beside (set ys flags_place (flags_word f)) mark_place j (mark_word m) three.0 ∙ word-beside ys flags_place j (flags_word f) two.0
    ∙ word-beside xs pos_place j p one.0

position-word : (e : Edge) (p : ℤ) (m : Mark) (j : ℕ) → is_one_of position_words j ≡ false → word_at (edge_words (placed e p m)) j ≡ word_at (edge_words e) j
unfolding edge_words
position-word e p m j h =
    let one = none_of pos_place (mark_place ∷ []) j h in
    let two = none_of mark_place [] j one.1 in
    word-beside (set (edge_words e) pos_place p) mark_place j (mark_word m) two.0 ∙ word-beside (edge_words e) pos_place j p one.0

only-word : (x : Extent) (a b : Edge) (j : ℕ) → Only x a b → is_one_of (words_of x) j ≡ false → word_at (edge_words b) j ≡ word_at (edge_words a) j
only-word nothing a b j p h = ap (λ (e : Edge). word_at (edge_words e) j) p.rest
only-word (position ms) a b j p h = ap (λ (e : Edge). word_at (edge_words e) j) p.rest ∙ position-word a _ _ j h
only-word (place ms) a b j p h = ap (λ (e : Edge). word_at (edge_words e) j) p.rest ∙ place-word a _ _ _ j h
only-word (zone ms) a b j p h = ap (λ (e : Edge). word_at (edge_words e) j) p.rest ∙ zone-word a _ _ _ _ j h

-- the words of all edges, by the extent of each
pub only-words : (extent : ℕ → Extent) (old new : Axis) → OnlyAxis extent old new → SameEdges (in_extent extent) old new
only-words extent old new h i j f = only-word (extent i) (edge_at old i) (edge_at new i) j (h.edges.edge i) f

-- an extent in the places that a test names, and one that is never left
pub wherever-words : (names : ℕ → Bool) (x : Extent) (old new : Axis) → OnlyAxis (wherever names x) old new → SameEdges (λ (i : ℕ). is_one_of (words_of x)) old new
wherever-words names x old new h i j f = only-word (wherever names x i) (edge_at old i) (edge_at new i) j (h.edges.edge i) (by (names i))
  where
    by : (t : Bool) → is_one_of (words_of (cond t x nothing)) j ≡ false
    by true = f
    by false = refl

-- ---- one word
-- one that is beside every edge in the places that a test names
beside-all : (names : ℕ → Bool) (ms : List Mark) (k : ℕ) → ((i : ℕ) → names i ≡ true → Beside i k) → of_edges (in_extent (wherever names (position ms))) k ≡ false
beside-all names ms k h = by (names (k / edge_size)) refl
  where
    neither : (a b : Bool) → names (k / edge_size) ≡ true → eqb (k % edge_size) pos_place ≡ a → eqb (k % edge_size) mark_place ≡ b → (a || (b || false)) ≡ false
    neither false false e p q = refl
    neither true b e p q = absurd ((h (k / edge_size) e).0 (omega (arith, eqb-true (k % edge_size) pos_place p)))
    neither false true e p q = absurd ((h (k / edge_size) e).1 (omega (arith, eqb-true (k % edge_size) mark_place q)))

    by : (t : Bool) → names (k / edge_size) ≡ t → is_one_of (words_of (cond t (position ms) nothing)) (k % edge_size) ≡ false
    by true e = neither (eqb (k % edge_size) pos_place) (eqb (k % edge_size) mark_place) e refl refl
    by false e = refl

-- one that is beside an edge, and beside two
pub other_word : (ms : List Mark) (s k : ℕ) → Beside s k → of_edges (in_extent (wherever (eqb s) (position ms))) k ≡ false
other_word ms s k h = beside-all (eqb s) ms k (λ i e. subst (λ (n : ℕ). Beside n k) (eqb-true s i e) h)

pub other-words : (ms : List Mark) (s t k : ℕ) → Beside s k → Beside t k → of_edges (in_extent (wherever (λ (i : ℕ). eqb i s || eqb i t) (position ms))) k ≡ false
other-words ms s t k g h = beside-all (λ (i : ℕ). eqb i s || eqb i t) ms k (λ i e. either i (eqb i s) (eqb i t) refl refl e)
  where
    either : (i : ℕ) (a b : Bool) → eqb i s ≡ a → eqb i t ≡ b → (a || b) ≡ true → Beside i k
    either i true b p q e = subst (λ (n : ℕ). Beside n k) (sym (eqb-true i s p)) g
    either i false true p q e = subst (λ (n : ℕ). Beside n k) (sym (eqb-true i t q)) h
    either i false false p q e = absurd (let z : ◌≡◌ {A = ℕ} 0 1 = cc in omega arith)
