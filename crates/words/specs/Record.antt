-- Records that stand as words one behind the other, whatever the record.
use Rattle.std.specs.Prelude.{◌≡◌, List, ℕ, ◌+◌, ◌*◌, ◌/◌, ◌≤◌, ◌<◌, length, ℤ}
use Rattle.axis.specs.declared.edge.Edge.{Edge}
use Rattle.axis.specs.declared.segment.Segment.{Segment}
use Rattle.axis.specs.Limits.{most_edges, most_segments}
use Rattle.words.specs.Word.{word_at}
use Rattle.words.specs.Edge.{edge_size, edge_from, edge_words}
use Rattle.words.specs.Segment.{segment_size, segment_from, segment_words}

-- ---- a kind of record
-- how many words it is, how many of it a table holds, how it is read where its words stand, and how it is written
pub record Layout (R : Type 0) : Type 0 where
  pub size : ℕ
  pub most : ℕ
  pub from : List ℤ → ℕ → R
  pub words : R → List ℤ

-- the two kinds
abbrev pub edge_layout : Layout Edge
edge_layout = record { size = edge_size; most = most_edges; from = edge_from; words = edge_words }

abbrev pub segment_layout : Layout Segment
segment_layout = record { size = segment_size; most = most_segments; from = segment_from; words = segment_words }

-- ---- lists of them
-- how many a list has
abbrev pub count_of : {R : Type 0} → Layout R → List ℤ → ℕ
count_of L ws = length ws / L.size

-- no more than the table holds, nothing behind the last, and word for word those that the records read from them are written as
pub record WholeOf {R : Type 0} (L : Layout R) (ws : List ℤ) : Type 0 where
  pub few : count_of L ws ≤ L.most
  pub long : length ws ≡ L.size * count_of L ws
  pub word : (i j : ℕ) → i < count_of L ws → j < L.size → word_at (L.words (L.from ws (L.size * i))) j ≡ word_at ws (L.size * i + j)

-- they stay the words of their records, as many, and the table that they are read as is what f makes of it, whatever d it is read with
pub record BecameOf {R T D : Type 0} (L : Layout R) (of : List ℤ → D → T) (f : T → T) (ws ws' : List ℤ) : Type 0 where
  pub whole : WholeOf L ws'
  pub long : length ws' ≡ length ws
  pub table : (d : D) → of ws' d ≡ f (of ws d)
