-- Every ring of lent edges followed along lists of numbers.
use Rattle.std.specs.Prelude.{◌≡◌, Bool, false, not, List, ℕ, ◌<◌, length, get_or, ℤ}
use Rattle.axis.specs.Limits.{most_edges, most_segments}
use Rattle.mend.specs.Plan.{Gathered}
use Rattle.words.specs.Segment.{flat_segments}
use Rattle.mend.specs.Following.{closes, own_in, next_in}
use Rattle.words.specs.Word.{word_at}
use Rattle.words.specs.Field.{index_of}
use Rattle.words.specs.Edge.{first_place, last_place, word_of_edge}

-- the edge of each lent segment and the segment behind it, in lists with all their places
pub record GatheredIn (ws : List ℤ) (edges next : List ℕ) : Type 0 where
  pub gathered : Gathered (flat_segments ws) edges next
  pub next_size : length next ≡ most_segments

-- the ring of edge k does not close in as many steps as there are segments of it
abbrev pub is_broken : List ℤ → List ℕ → List ℕ → ℕ → List ℕ → ℕ → Bool
is_broken es edges next n counts k =
    not (closes (own_in edges k) (next_in next) n (index_of (word_at es (word_of_edge k first_place))) (index_of (word_at es (word_of_edge k last_place))) (get_or counts k 0) (index_of (word_at es (word_of_edge k first_place))))

-- so it is told of the first m edges
pub record FollowedTo (es : List ℤ) (edges next : List ℕ) (n : ℕ) (counts : List ℕ) (m : ℕ) (broken : List Bool) : Type 0 where
  pub size : length broken ≡ most_edges
  pub ring : (k : ℕ) → k < m → get_or broken k false ≡ is_broken es edges next n counts k
