-- A set of numbers and the list of those that are in it, each once.
use Rattle.std.specs.Prelude.{◌≡◌, Bool, true, List, ◌⊎◌, ℕ, ◌<◌, ◌≤◌, length}
use Rattle.axis.specs.Limits.{most_segments}
use Rattle.mend.specs.Following.{count}
use Rattle.pack.specs.Sets.{is_in, number_at}

-- every number of a list is that of a segment
pub record Within (l : List ℕ) : Type 0 where
  pub at : (i : ℕ) → number_at l i < most_segments

-- the number in the place of each segment is that of a segment
pub record Placed (l : List ℕ) : Type 0 where
  pub at : (i : ℕ) → i < most_segments → number_at l i < most_segments

-- k stands in one of the first len places
pub record Found (order : List ℕ) (len k : ℕ) : Type 0 where
  pub place : ℕ
  pub below : place < len
  pub is : number_at order place ≡ k

-- the first len places hold the numbers of the set, as many as there are
pub record Listed (kept : List Bool) (order : List ℕ) (len : ℕ) : Type 0 where
  pub places : length kept ≡ most_segments
  pub slots : length order ≡ most_segments
  pub counted : len ≡ count (is_in kept) most_segments
  pub member : (j : ℕ) → j < len → is_in kept (number_at order j) ≡ true
  pub found : (k : ℕ) → is_in kept k ≡ true → Found order len k

-- k is in the set and on the list now, and nothing else is new
pub record Added (kept : List Bool) (order : List ℕ) (len k : ℕ) (kept' : List Bool) (order' : List ℕ) (len' : ℕ) : Type 0 where
  pub listed : Listed kept' order' len'
  pub here : is_in kept' k ≡ true
  pub held : (i : ℕ) → is_in kept i ≡ true → is_in kept' i ≡ true
  pub only : (i : ℕ) → is_in kept' i ≡ true → (is_in kept i ≡ true) ⊎ (i ≡ k)
  pub same : (j : ℕ) → j < len → number_at order' j ≡ number_at order j
  pub more : len ≤ len'

-- each number has how many of the set are below it, and there are so many
pub record Numbered (kept : List Bool) (new : List ℕ) (n : ℕ) : Type 0 where
  pub at : (k : ℕ) → k < most_segments → number_at new k ≡ count (is_in kept) k
  pub all : n ≡ count (is_in kept) most_segments
