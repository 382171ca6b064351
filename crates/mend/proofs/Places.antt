-- Mended tables by their places.
use mathlib.Core.Path.{◌≡◌, refl, sym, ap, ◌∙◌}
use mathlib.Core.List.{List, [], ◌∷◌}
use mathlib.Core.Logic.{⊎_elim}
use Prim.Native.Nat.{ℕ, zero, suc, ◌+◌, ◌≤◌, ◌<◌}
use native.Mathlib.Omega.{arith}
use lib.ListN.{length, get_or, set, take}
use lib.Seq.{length-take-le, get_or-take, ext_get_or}
use Rattle.signed.proofs.Signed.{lt-or-le}
use Rattle.axis.specs.declared.edge.Edge.{Edge}
use Rattle.axis.specs.declared.edge.Axis.{Axis}
use Rattle.axis.specs.declared.segment.Segment.{Segment}
use Rattle.axis.specs.declared.segment.Segments.{Segments}
use Rattle.axis.specs.Edge.{empty_edge, edge_at}
use Rattle.axis.specs.Segment.{empty_segment, segment_at}
use Rattle.turn.proofs.Fronts.{front, front-more, front-all, front_at, behind-at, front_length}
use Rattle.mend.specs.Mended.{by_place, front_by, mended_segment, mended_edge, mended_segments, mended_axis}

-- a list of which the first i of n places are written
abbrev pub up_to : {A : Type 0} → (ℕ → A → A) → ℕ → List A → ℕ → List A
up_to f n xs i = front (by_place f 0 (take n xs)) xs i

module _ {A : Type 0} (f : ℕ → A → A) where
  place-length : (i : ℕ) (xs : List A) → length (by_place f i xs) ≡ length xs
  unfolding by_place
  place-length i [] = refl
  place-length i (x ∷ xs) = ap suc (place-length (i + 1) xs)

  place_at : (i : ℕ) (xs : List A) (j : ℕ) (d : A) → j < length xs → get_or (by_place f i xs) j d ≡ f (i + j) (get_or xs j d)
  unfolding by_place
  place_at i [] j d h = absurd (omega arith)
  place_at i (x ∷ xs) zero d h = ap (λ (k : ℕ). f k x) (let q : i ≡ i + 0 = omega arith in q)
  place_at i (x ∷ xs) (suc j) d h = place_at (i + 1) xs j d (omega arith) ∙ ap (λ (k : ℕ). f k (get_or xs j d)) (let q : i + 1 + j ≡ i + suc j = omega arith in q)

  -- of a table of which the first n places are such
  module _ (xs : List A) (n : ℕ) (whole : n ≤ length xs) where
    pub front-size : length (by_place f 0 (take n xs)) ≡ n
    front-size = place-length 0 (take n xs) ∙ length-take-le n xs whole

    first-at : (i : ℕ) (d : A) → i < n → get_or (by_place f 0 (take n xs)) i d ≡ f i (get_or xs i d)
    first-at i d h =
        place_at 0 (take n xs) i d (omega (arith, length-take-le n xs whole))
        ∙ ap (λ (k : ℕ). f k (get_or (take n xs) i d)) (let z : 0 + i ≡ i = omega arith in z)
        ∙ ap (f i) (get_or-take n xs i d h)

    pub table_at : (i : ℕ) (d : A) → i < n → get_or (front_by f n xs) i d ≡ f i (get_or xs i d)
    table_at i d h = front_at (by_place f 0 (take n xs)) xs n i d front-size h ∙ first-at i d h

    pub table-behind : (i : ℕ) (d : A) → n ≤ i → get_or (front_by f n xs) i d ≡ get_or xs i d
    table-behind i d h = behind-at (by_place f 0 (take n xs)) xs n i d front-size h

    pub table-length : length (front_by f n xs) ≡ length xs
    table-length = front_length (by_place f 0 (take n xs)) xs n front-size whole

    -- one place after the other: the places that are not written yet, one more, all
    pub left_at : (i k : ℕ) (d : A) → i ≤ n → i ≤ k → get_or (up_to f n xs i) k d ≡ get_or xs k d
    left_at i k d h g = behind-at (take i (by_place f 0 (take n xs))) xs i k d (length-take-le i (by_place f 0 (take n xs)) (omega (arith, front-size))) g

    pub one_written : (i : ℕ) (v d : A) → i < n → v ≡ f i (get_or xs i d) → set (up_to f n xs i) i v ≡ up_to f n xs (i + 1)
    one_written i v d h e = front-more (by_place f 0 (take n xs)) xs i v d (omega (arith, front-size)) (omega arith) (e ∙ sym (first-at i d h))

    pub all-written : (i : ℕ) → i ≤ n → n ≤ i → up_to f n xs i ≡ front_by f n xs
    all-written i h g = front-all (by_place f 0 (take n xs)) xs n i front-size h g

-- two that are the same in each of the first n places
pub fronts-same : {A : Type 0} (f g : ℕ → A → A) (xs : List A) (n : ℕ) (d : A) → n ≤ length xs → ((i : ℕ) → i < n → f i (get_or xs i d) ≡ g i (get_or xs i d))
    → front_by f n xs ≡ front_by g n xs
fronts-same f g xs n d whole same =
    ext_get_or d (front_by f n xs) (front_by g n xs) (table-length f xs n whole ∙ sym (table-length g xs n whole))
    (λ (i : ℕ) (l : i < length (front_by f n xs)).
    ⊎_elim
    (λ (h : i < n). table_at f xs n whole i d h ∙ same i h ∙ sym (table_at g xs n whole i d h))
    (λ (h : n ≤ i). table-behind f xs n whole i d h ∙ sym (table-behind g xs n whole i d h))
    (lt-or-le i n))

module _ (axis : Axis) (t : Segments) where
  module _ (whole : t.len ≤ length t.segments) where
    pub mended-segment-at : (i : ℕ) → i < t.len → segment_at (mended_segments axis t) i ≡ mended_segment axis t i (segment_at t i)
    unfolding mended_segments
    mended-segment-at i h = table_at (mended_segment axis t) t.segments t.len whole i empty_segment h

    pub segments-behind : (i : ℕ) → t.len ≤ i → segment_at (mended_segments axis t) i ≡ segment_at t i
    unfolding mended_segments
    segments-behind i h = table-behind (mended_segment axis t) t.segments t.len whole i empty_segment h

    pub mended-segments-length : length (mended_segments axis t).segments ≡ length t.segments
    unfolding mended_segments
    mended-segments-length = table-length (mended_segment axis t) t.segments t.len whole

  module _ (whole : axis.len ≤ length axis.edges) where
    pub mended-edge-at : (k : ℕ) → k < axis.len → edge_at (mended_axis axis t) k ≡ mended_edge axis t k (edge_at axis k)
    unfolding mended_axis
    mended-edge-at k h = table_at (mended_edge axis t) axis.edges axis.len whole k empty_edge h

    pub edges-behind : (k : ℕ) → axis.len ≤ k → edge_at (mended_axis axis t) k ≡ edge_at axis k
    unfolding mended_axis
    edges-behind k h = table-behind (mended_edge axis t) axis.edges axis.len whole k empty_edge h

    pub mended-edges-length : length (mended_axis axis t).edges ≡ length axis.edges
    unfolding mended_axis
    mended-edges-length = table-length (mended_edge axis t) axis.edges axis.len whole
