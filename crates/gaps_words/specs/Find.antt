-- The guard over lent edges, which are not written, the least width, and whether links are asked for; seven places are lent, for the count of lost gaps, the two edges of the first lost
-- pair and its widths, the count of lost stems, and that of edges that are not done.
use Rattle.std.specs.Prelude.{List, ℕ, ℤ, pos}
use Rattle.gaps.specs.Answer.{Gaps}
use Rattle.gaps.specs.Gaps.{lost_gaps}
use Rattle.words.specs.Field.{choice_of, link_word}
use Rattle.words_shape.specs.Shape.{is_in, choice}
use Rattle.words_call.specs.Lent.{Lent, edges_front, edges_of}

-- what the call finds
abbrev pub gaps_found : List ℤ → ℤ → ℤ → Gaps
gaps_found ws least linked = lost_gaps (edges_of ws) least (choice_of linked)

-- what seven places hold: the gaps lost, the first edge, the second, the widths before fitting and after it, the stems lost, and the edges not done
abbrev pub Places : Type 0
Places = ℤ × (ℤ × (ℤ × (ℤ × (ℤ × (ℤ × ℤ)))))

abbrev pub gaps_words : Gaps → Places
gaps_words g = (pos g.count, (link_word g.pair.first, (link_word g.pair.second, (g.pair.before, (g.pair.after, (pos g.stems, pos g.not_done))))))

abbrev pub GapsLent : List ℤ → ℤ → ℤ → Places → ℕ → Places → Type 0
GapsLent ws least linked old = Lent (edges_front ws (is_in choice linked)) (gaps_found ws least linked).answer (gaps_words (gaps_found ws least linked)) old
