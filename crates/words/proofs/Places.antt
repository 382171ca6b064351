-- Words by their places: which word of which record stands where.
use mathlib.Core.Path.{◌≡◌, sym, ap, ◌∙◌}
use mathlib.Core.List.{List, ◌∷◌, ◌++◌}
use mathlib.Core.Logic.{⊎_elim}
use Prim.Native.Nat.{ℕ, zero, suc, ◌+◌, ◌*◌, ◌≤◌, ◌<◌, min}
use native.Mathlib.Nat.{eq-or-lt_of_le, mul-le-mul_left}
use native.Mathlib.Omega.{arith}
use lib.ListN.{length, get_or, get_or-append}
use lib.Seq.{append_snoc, get_or-append_seam, get_or-append-add}
use lib.IntN.{ℤ, pos}
use Rattle.axis.specs.declared.kinds.Dimension.{Dimension}
use Rattle.axis.specs.declared.kinds.Direction.{Direction}
use Rattle.axis.specs.Edge.{empty_edge, edge_at}
use Rattle.axis.specs.Segment.{empty_segment, segment_at}
use Rattle.axis.specs.Limits.{most_edges, most_segments}
use Rattle.words.specs.Word.{word_at, firsts, joined, table}
use Rattle.words.specs.Edge.{edge_size, edge_from, edge_in_run, axis_run, edges_in, flat_axis}
use Rattle.words.specs.Segment.{segment_size, segment_from, segment_in_run, segments_run, segments_in, flat_segments}
use Rattle.words.proofs.Tables.{firsts-length, joined_length}

-- one of the first of a sequence
pub firsts_at : {A : Type 0} (f : ℕ → A) (n i : ℕ) (rest : List A) (d : A) → i < n → get_or (firsts f n ++ rest) i d ≡ f i
unfolding firsts
firsts_at f zero i rest d h = absurd (omega arith)
firsts_at {A} f (suc n) i rest d h =
    ap (λ (xs : List A). get_or xs i d) (append_snoc (firsts f n) (f n) rest)
    ∙ ⊎_elim
    (λ (e : i ≡ n). ap (λ (k : ℕ). get_or (firsts f n ++ f n ∷ rest) k d) (e ∙ sym (firsts-length f n)) ∙ get_or-append_seam (firsts f n) (f n) rest d
    ∙ ap f (sym e))
    (λ (l : i < n). firsts_at f n i (f n ∷ rest) d l)
    (eq-or-lt_of_le (omega arith))

-- a word of one of the records that stand one behind the other, each of k words
pub joined_at : (f : ℕ → List ℤ) (k : ℕ) → ((i : ℕ) → length (f i) ≡ k) → (n i j : ℕ) → i < n → j < k → word_at (joined f n) (k * i + j) ≡ word_at (f i) j
unfolding joined
joined_at f k sized zero i j h b = absurd (omega arith)
joined_at f k sized (suc n) i j h b =
    ⊎_elim
    (λ (e : i ≡ n).
    ap (word_at (joined f n ++ f n)) (let q : k * i ≡ k * n = ap (λ (m : ℕ). k * m) e in omega (arith, q, joined_length f k sized n))
    ∙ get_or-append-add (joined f n) (f n) j (pos 0)
    ∙ ap (λ (m : ℕ). word_at (f m) j) (sym e))
    (λ (l : i < n). get_or-append (joined f n) (f n) (pos 0) (k * i + j) (omega (arith, joined_length f k sized n, mul-le-mul_left k l))
    ∙ joined_at f k sized n i j l b)
    (eq-or-lt_of_le (omega arith))

-- the edge in a place of the table that is read, and the segment
pub edge-read : (ws : List ℤ) (dim : Dimension) (major : Direction) (i : ℕ) → i < edges_in ws → edges_in ws ≤ most_edges
    → edge_at (flat_axis ws dim major) i ≡ edge_from ws (edge_size * i)
unfolding flat_axis axis_run table
edge-read ws dim major i h few =
    let q : 0 + edge_size * i ≡ edge_size * i = omega arith in
    firsts_at (edge_in_run ws 0) (min (edges_in ws) most_edges) i _ empty_edge (omega arith) ∙ ap (edge_from ws) q

pub segment-read : (ws : List ℤ) (i : ℕ) → i < segments_in ws → segments_in ws ≤ most_segments → segment_at (flat_segments ws) i ≡ segment_from ws (segment_size * i)
unfolding flat_segments segments_run table
segment-read ws i h few =
    let q : 0 + segment_size * i ≡ segment_size * i = omega arith in
    firsts_at (segment_in_run ws 0) (min (segments_in ws) most_segments) i _ empty_segment (omega arith) ∙ ap (segment_from ws) q
