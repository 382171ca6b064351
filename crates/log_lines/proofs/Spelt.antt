-- The lines of a stream are its bytes and no others: with their line feeds, one behind the other, they are the stream, and none has a line feed inside.
use mathlib.Core.Path.{◌≡◌, refl, sym, ap, ◌∙◌}
use mathlib.Core.Bool.{Bool, true, false, cond}
use mathlib.Core.List.{List, [], ◌∷◌, ◌++◌, append-nil}
use Prim.Native.Nat.{ℕ}
use borrow.Author.Tests.{eqb-true}
use lib.Dec.{eqb}
use lib.Seq.{append_snoc}
use Rattle.log_lines.specs.Lines.{line_feed, Line, last_line, lines_from, lines}
use Rattle.log_lines.specs.Cutting.{feeds}

-- the bytes of a line, with its line feed where it has one
unfoldable pub spelt : Line → List ℕ
spelt l = l.bytes ++ cond l.ended (line_feed ∷ []) []

-- those of lines, one behind the other
unfoldable pub spelt_all : List Line → List ℕ
spelt_all [] = []
spelt_all (l ∷ ls) = spelt l ++ spelt_all ls

last-spelt : (begun : List ℕ) → spelt_all (last_line begun) ≡ begun
unfolding last_line spelt_all spelt
last-spelt [] = refl
last-spelt (b ∷ bs) = append-nil ((b ∷ bs) ++ []) ∙ append-nil (b ∷ bs)

from-spelt : (begun bs : List ℕ) → spelt_all (lines_from begun bs) ≡ begun ++ bs
unfolding lines_from spelt_all spelt
from-spelt begun [] = last-spelt begun ∙ sym (append-nil begun)
from-spelt begun (b ∷ bs) = go (eqb b line_feed) refl (from-spelt [] bs) (from-spelt (begun ++ b ∷ []) bs)
  where
    go : (t : Bool) → eqb b line_feed ≡ t → spelt_all (lines_from [] bs) ≡ bs → spelt_all (lines_from (begun ++ b ∷ []) bs) ≡ (begun ++ b ∷ []) ++ bs
        → spelt_all (cond t (record { bytes = begun; ended = true } ∷ lines_from [] bs) (lines_from (begun ++ b ∷ []) bs)) ≡ begun ++ b ∷ bs
    go true e p q =
        ap (λ (x : List ℕ). (begun ++ line_feed ∷ []) ++ x) p ∙ append_snoc begun line_feed bs ∙ ap (λ (x : ℕ). begun ++ x ∷ bs) (sym (eqb-true b line_feed e))
    go false e p q = q ∙ append_snoc begun b bs

-- the lines are the stream
pub lines-spelt : (stream : List ℕ) → spelt_all (lines stream) ≡ stream
lines-spelt stream = from-spelt [] stream

-- no line has a line feed inside
unfoldable pub none_feeds : List Line → Bool
none_feeds [] = true
none_feeds (l ∷ ls) = cond (feeds l.bytes) false (none_feeds ls)

feeds-snoc : (bs : List ℕ) (b : ℕ) → feeds bs ≡ false → eqb b line_feed ≡ false → feeds (bs ++ b ∷ []) ≡ false
unfolding feeds
feeds-snoc [] b h e = rw e
feeds-snoc (x ∷ bs) b h e = go (eqb x line_feed) h (λ (k : feeds bs ≡ false). feeds-snoc bs b k e)
  where
    go : (t : Bool) → cond t true (feeds bs) ≡ false → (feeds bs ≡ false → feeds (bs ++ b ∷ []) ≡ false) → cond t true (feeds (bs ++ b ∷ [])) ≡ false
    go true k on = k
    go false k on = on k

last_none : (begun : List ℕ) → feeds begun ≡ false → none_feeds (last_line begun) ≡ true
unfolding last_line none_feeds
last_none [] h = refl
last_none (b ∷ bs) h = rw h

from-none : (begun bs : List ℕ) → feeds begun ≡ false → none_feeds (lines_from begun bs) ≡ true
unfolding lines_from none_feeds feeds
from-none begun [] h = last_none begun h
from-none begun (b ∷ bs) h = go (eqb b line_feed) refl (from-none [] bs refl) (from-none (begun ++ b ∷ []) bs)
  where
    go : (t : Bool) → eqb b line_feed ≡ t → none_feeds (lines_from [] bs) ≡ true
        → (feeds (begun ++ b ∷ []) ≡ false → none_feeds (lines_from (begun ++ b ∷ []) bs) ≡ true)
        → none_feeds (cond t (record { bytes = begun; ended = true } ∷ lines_from [] bs) (lines_from (begun ++ b ∷ []) bs)) ≡ true
    go true e p q = rw h p
    go false e p q = q (feeds-snoc begun b h e)

pub lines_clear : (stream : List ℕ) → none_feeds (lines stream) ≡ true
unfolding feeds
lines_clear stream = from-none [] stream refl
