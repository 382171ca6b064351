-- The rings of lent edges, one after the other.
use mathlib.Core.Path.{◌≡◌, refl, sym, ap, subst, ◌∙◌}
use mathlib.Core.Bool.{Bool, false, not}
use mathlib.Core.List.{List}
use mathlib.Core.Logic.{⊎_elim}
use Prim.Native.Nat.{ℕ, ◌+◌, ◌*◌, ◌≤◌, ◌<◌}
use native.Mathlib.Nat.{eq-or-lt_of_le}
use native.Mathlib.Omega.{arith}
use lib.ListN.{length, get_or, set, replicate, length-set, length-replicate}
use lib.Seq.{get_or-set_same, get_or-set_other}
use lib.IntN.{ℤ}
use Rattle.axis.specs.declared.edge.Edge.{Edge}
use Rattle.axis.specs.declared.edge.Axis.{Axis}
use Rattle.axis.specs.declared.kinds.Dimension.{Dimension}
use Rattle.axis.specs.declared.kinds.Direction.{Direction}
use Rattle.axis.specs.declared.segment.Segments.{Segments}
use Rattle.axis.specs.Edge.{edge_at}
use Rattle.axis.specs.Limits.{most_edges, most_segments}
use Rattle.mend.specs.Rebuilt.{Tallied}
use Rattle.mend.specs.Plan.{Gathered, Told}
use Rattle.mend.proofs.Plan.{ring-told}
use Rattle.words.proofs.Places.{edge-read}
use Rattle.mend.specs.Following.{closes, own_in, next_in}
use Rattle.words.specs.Word.{word_at}
use Rattle.words.specs.Field.{index_of}
use Rattle.words.specs.Edge.{first_place, last_place, word_of_edge, edges_in, edge_from, axis_run, flat_axis}
use Rattle.mend_rings_words.specs.Followed.{is_broken, FollowedTo}

module _ (es : List ℤ) (edges next : List ℕ) (n : ℕ) (counts : List ℕ) where
  pub followed-none : {broken : List Bool} → broken ≡ replicate most_edges false → FollowedTo es edges next n counts 0 broken
  followed-none e = record { size = ap (length {A = Bool}) e ∙ length-replicate {A = Bool} most_edges false; ring = λ k h. absurd (omega arith) }

  pub followed-more : (m : ℕ) {broken : List Bool} → FollowedTo es edges next n counts m broken → m < most_edges → (first last : ℕ) (r : Bool)
      → first ≡ index_of (word_at es (word_of_edge m first_place)) → last ≡ index_of (word_at es (word_of_edge m last_place))
      → r ≡ closes (own_in edges m) (next_in next) n first last (get_or counts m 0) first → FollowedTo es edges next n counts (m + 1) (set broken m (not r))
  followed-more m {broken} f l first last r p q e = record {
    size = length-set broken m (not r) ∙ f.size;
    ring = λ k h.
        ⊎_elim
        (λ (i : k ≡ m). ap (λ (x : ℕ). get_or (set broken m (not r)) x false) i ∙ get_or-set_same broken m (not r) false (omega (arith, f.size))
        ∙ ap not (e ∙ told)
        ∙ ap (is_broken es edges next n counts) (sym i))
        (λ (i : k < m). get_or-set_other broken m k (not r) false (λ (x : k ≡ m). omega arith) ∙ f.ring k i)
        (eq-or-lt_of_le (omega arith));
  }
    where
      told : closes (own_in edges m) (next_in next) n first last (get_or counts m 0) first
          ≡ closes (own_in edges m) (next_in next) n (index_of (word_at es (word_of_edge m first_place))) (index_of (word_at es (word_of_edge m last_place)))
          (get_or counts m 0) (index_of (word_at es (word_of_edge m first_place)))
      told = λ j. closes (own_in edges m) (next_in next) n (p j) (q j) (get_or counts m 0) (p j)

  pub followed-all : {i m : ℕ} {broken : List Bool} → i ≤ m → m ≤ i → FollowedTo es edges next n counts i broken → FollowedTo es edges next n counts m broken
  followed-all {i} {m} {broken} h g f = let z : i ≡ m = omega arith in subst (λ (k : ℕ). FollowedTo es edges next n counts k broken) z f

-- ---- what was followed tells which rings are broken
module _ (es : List ℤ) (dim : Dimension) (major : Direction) (t : Segments) (edges next counts lows highs : List ℕ) (broken : List Bool)
    (few : t.len ≤ most_segments) (few-edges : edges_in es ≤ most_edges)
    (g : Gathered t edges next) (a : Tallied edges t.len counts lows highs) (f : FollowedTo es edges next t.len counts (edges_in es) broken) where
  abbrev axis : Axis
  axis = flat_axis es dim major

  first_is : (k : ℕ) → k < edges_in es → (edge_at axis k).first ≡ index_of (word_at es (word_of_edge k first_place))
  unfolding edge_from
  first_is k h = ap (λ (e : Edge). e.first) (edge-read es dim major k h few-edges)

  last_is : (k : ℕ) → k < edges_in es → (edge_at axis k).last ≡ index_of (word_at es (word_of_edge k last_place))
  unfolding edge_from
  last_is k h = ap (λ (e : Edge). e.last) (edge-read es dim major k h few-edges)

  pub followed-told : Told axis t broken
  unfolding flat_axis axis_run
  followed-told = record {
    ring = λ (k : ℕ) (h : k < edges_in es).
        f.ring k h
        ∙ ap not
        ((λ j. closes (own_in edges k) (next_in next) t.len (sym (first_is k h) j) (sym (last_is k h) j) (get_or counts k 0) (sym (first_is k h) j))
        ∙ ring-told axis t edges next few few-edges g k h (get_or counts k 0) (a.counted k (omega arith)));
  }
