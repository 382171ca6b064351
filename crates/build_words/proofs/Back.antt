-- The words of edges, one behind the other, are read back as the axis whose edges they are.
use mathlib.Core.Path.{◌≡◌, refl, sym, ap, subst, ◌∙◌}
use mathlib.Core.List.{List, [], ◌∷◌, ◌++◌}
use mathlib.Core.Logic.{⊎_elim}
use Prim.Native.Nat.{ℕ, zero, suc, ◌+◌, ◌-◌, ◌*◌, ◌/◌, ◌≤◌, ◌<◌, min}
use native.Mathlib.Omega.{arith}
use lib.ListN.{length, get_or, replicate}
use lib.Seq.{ext_get_or}
use lib.IntN.{ℤ}
use Rattle.signed.proofs.Signed.{lt-or-le}
use Rattle.axis.specs.declared.edge.Edge.{Edge}
use Rattle.axis.specs.declared.edge.Axis.{Axis}
use Rattle.axis.specs.declared.kinds.Dimension.{Dimension}
use Rattle.axis.specs.declared.kinds.Direction.TheVariants as Directions
use Rattle.axis.specs.Edge.{empty_edge, edge_at}
use Rattle.axis.specs.Handed.{TypedEdge, TypedAxis}
use Rattle.axis.specs.Limits.{most_edges}
use Rattle.words.specs.Word.{word_at, firsts, joined, table}
use Rattle.words.specs.Edge.{edge_size, word_of_edge, edges_in, edge_from, edge_in_run, axis_run, flat_axis, edge_words, edge_words_at}
use Rattle.words.proofs.Tables.{firsts-length, joined_length}
use Rattle.words.proofs.Edges.{edge-lengths}
use Rattle.words.proofs.Places.{firsts_at, joined_at}
use Rattle.words.proofs.RoundTrip.{edge-back}
use Rattle.words_edge.specs.Whole.{Whole, axis_in}
use Rattle.words_edge.proofs.Wholes.{axis-long}

-- ---- sequences
-- two sequences that agree on the first n are joined alike
pub joined-alike : (f g : ℕ → List ℤ) (n : ℕ) → ((k : ℕ) → k < n → f k ≡ g k) → joined f n ≡ joined g n
unfolding joined
joined-alike f g zero h = refl
joined-alike f g (suc n) h = λ i. joined-alike f g n (λ (k : ℕ) (l : k < n). h k (omega arith)) i ++ h n (omega arith) i

-- behind the first of a table all places are empty
pub past_end : {A : Type 0} (xs : List A) (e : A) (m k : ℕ) → length xs ≤ k → get_or (xs ++ replicate m e) k e ≡ e
past_end [] e zero k h = refl
past_end [] e (suc m) zero h = refl
past_end [] e (suc m) (suc k) h = past_end [] e m k (omega arith)
past_end (x ∷ xs) e m zero h = absurd (omega arith)
past_end (x ∷ xs) e m (suc k) h = past_end xs e m k (omega arith)

-- an edge whose words stand elsewhere
edge_moved : (ws vs : List ℤ) (at : ℕ) → ((k : ℕ) → k < edge_size → word_at ws (at + k) ≡ word_at vs k) → edge_from ws at ≡ edge_from vs 0
unfolding edge_from
edge_moved ws vs at h =
    let q : at + 0 ≡ at = omega arith in
    let h0 : word_at ws at ≡ word_at vs 0 = rw q at (h 0 (omega arith)) in
    rw (
      h0,
      h 1 (omega arith),
      h 2 (omega arith),
      h 3 (omega arith),
      h 4 (omega arith),
      h 5 (omega arith),
      h 6 (omega arith),
      h 7 (omega arith),
      h 8 (omega arith),
      h 9 (omega arith),
      h 10 (omega arith),
      h 11 (omega arith),
    )

-- ---- the words of the first n edges of an axis, whose numbers are of their types
module _ (axis : Axis) (n : ℕ) (few : n ≤ most_edges) (typed : (k : ℕ) → k < n → TypedEdge (edge_at axis k)) where
  abbrev words : List ℤ
  words = joined (edge_words_at axis) n

  size : length words ≡ edge_size * n
  size = joined_length (edge_words_at axis) edge_size (edge-lengths axis) n

  pub count-back : edges_in words ≡ n
  count-back = let q : edge_size * n / edge_size ≡ n = omega arith in ap (λ (k : ℕ). k / edge_size) size ∙ q

  word-is : (i j : ℕ) → i < n → j < edge_size → word_at words (word_of_edge i j) ≡ word_at (edge_words_at axis i) j
  word-is i j h b = joined_at (edge_words_at axis) edge_size (edge-lengths axis) n i j h b

  pub read : (i : ℕ) → i < n → edge_from words (edge_size * i) ≡ edge_at axis i
  read i h = edge_moved words (edge_words_at axis i) (edge_size * i) (λ (k : ℕ) (l : k < edge_size). word-is i k h l) ∙ edge-back (edge_at axis i) (typed i h)

  below : (i : ℕ) → i < edges_in words → i < n
  below i h = omega (arith, count-back)

  pub whole_back : Whole words
  whole_back = record {
    few = omega (arith, count-back);
    long = size ∙ ap (λ (k : ℕ). edge_size * k) (sym count-back);
    word =
        λ (i j : ℕ) (h : i < edges_in words) (b : j < edge_size). ap (λ (e : Edge). word_at (edge_words e) j) (read i (below i h))
        ∙ sym (word-is i j (below i h) b);
  }

  -- the axis that they are read as has its edges
  module _ (whole : TypedAxis axis) (empty : (k : ℕ) → n ≤ k → k < most_edges → edge_at axis k ≡ empty_edge) where
    abbrev run : List Edge
    run = table most_edges empty_edge (edge_in_run words 0) n

    run_at : (k : ℕ) → k < most_edges → get_or run k empty_edge ≡ edge_at axis k
    unfolding table
    run_at k b = ⊎_elim
        (λ (h : k < n). let q : 0 + edge_size * k ≡ edge_size * k = omega arith in firsts_at (edge_in_run words 0) n k _ empty_edge h ∙ ap (edge_from words) q
        ∙ read k h)
        (λ (h : n ≤ k). past_end (firsts (edge_in_run words 0) n) empty_edge (most_edges - n) k (omega (arith, firsts-length (edge_in_run words 0) n))
        ∙ sym (empty k h b))
        (lt-or-le k n)

    long : (d : Dimension) → length run ≡ most_edges
    unfolding flat_axis axis_run
    long d =
        let q : min (edges_in words) most_edges ≡ n = omega (arith, count-back) in
        ap (λ (k : ℕ). length (table most_edges empty_edge (edge_in_run words 0) k)) (sym q) ∙ axis-long words d

    pub axis-back : (d : Dimension) → axis_in words d ≡ record { dim = d; major_dir = Directions.None; edges = axis.edges; len = n }
    unfolding flat_axis axis_run
    axis-back d =
        let q : min n most_edges ≡ n = omega arith in
        ap (λ (k : ℕ). record { dim = d; major_dir = Directions.None; edges = table most_edges empty_edge (edge_in_run words 0) (min k most_edges); len = k })
        count-back
        ∙ ap (λ (k : ℕ). record { dim = d; major_dir = Directions.None; edges = table most_edges empty_edge (edge_in_run words 0) k; len = n }) q
        ∙ ap (λ (es : List Edge). record { dim = d; major_dir = Directions.None; edges = es; len = n })
        (ext_get_or empty_edge run axis.edges (long d ∙ sym whole.places) (λ (k : ℕ) (h : k < length run). run_at k (omega (arith, long d))))
