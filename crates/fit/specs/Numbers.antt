-- The numbers of an axis, by their words: the dimension, the group, stem adjust, snap, whether done edges alone move points, the width rule, whether the glyph is an m, and the guard's least
-- width and whether links are asked for.
use Rattle.std.specs.Prelude.{Bool, true, false, ◌&&◌, List, ℕ, ℤ}
use Rattle.axis.specs.declared.kinds.Dimension.{Dimension}
use Rattle.axis.specs.declared.kinds.Dimension.TheVariants.{Horizontal, Vertical}
use Rattle.lowercase_m.specs.M.{count_holds}
use Rattle.words.specs.Word.{word_at}
use Rattle.words.specs.Field.{choice_of, dimension_of, group_of, rule_of}
use Rattle.words_shape.specs.Shape.{choice}
use Rattle.words_call.specs.Lent.{both_in, choices}
use Rattle.fit.specs.declared.numbers.Numbers.{Numbers}

-- how many words they are
abbrev pub number_size : ℕ
number_size = 9

-- what the words are read as
abbrev pub numbers_of : List ℤ → Numbers
numbers_of ws = record {
  dim = dimension_of (word_at ws 0);
  group = group_of (word_at ws 1);
  stem_adjust = choice_of (word_at ws 2);
  snap = choice_of (word_at ws 3);
  alone = choice_of (word_at ws 4);
  rule = rule_of (word_at ws 5);
  lowercase_m = choice_of (word_at ws 6);
  least = word_at ws 7;
  linked = choice_of (word_at ws 8);
}

-- each word is one of its field; the least width takes every word
unfoldable pub numbers_shown : List ℤ → Bool
numbers_shown ws =
    choices (word_at ws 0) (word_at ws 1) (word_at ws 2) && (choices (word_at ws 3) (word_at ws 4) (word_at ws 5) && both_in choice (word_at ws 6) (word_at ws 8))

unfoldable pub is_horizontal : Dimension → Bool
is_horizontal Horizontal = true
is_horizontal Vertical = false

-- the m rule is asked for of so many edges: the glyph is an m, the axis horizontal, and there are as many edges as an m has
unfoldable pub is_asked : Numbers → ℕ → Bool
is_asked n count = n.lowercase_m && (is_horizontal n.dim && count_holds count)
