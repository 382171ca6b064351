-- The calls on the edges of an axis in a row (the Rust's `hint_edges`, and the guard behind it): blue zones and stems, the m rule, remaining edges, the guard, each as its own call is
-- defined on the words that the one before left. The first that refuses ends the row.
use Rattle.std.specs.Prelude.{None}
use Rattle.std.specs.Prelude.{Bool, false, not, cond, ◌||◌, List, ℕ, ltb, ℤ}
use Rattle.refusals.specs.Refusal.{answered}
use Rattle.axis.specs.declared.kinds.Group.{Group}
use Rattle.axis.specs.Link.{Link}
use Rattle.axis.specs.Link.{is_linked}
use Rattle.lowercase_m.specs.Answer.{Hinted}
use Rattle.lowercase_m.specs.M.{hinted, hint_lowercase_m}
use Rattle.stems.specs.Answer.{Stems}
use Rattle.zones_stems.specs.Joined.{align_blues_and_stems}
use Rattle.remaining.specs.Remaining.{Remaining, remaining, align_remaining_edges}
use Rattle.gaps.specs.Answer.{Gaps}
use Rattle.gaps.specs.Gaps.{refused_by, lost_gaps}
use Rattle.words.specs.Edge.{edges_in, edges_over}
use Rattle.words_call.specs.Lent.{edges_of}
use Rattle.words_edge.specs.Whole.{axis_in}
use Rattle.fit.specs.declared.numbers.Numbers.{Numbers}
use Rattle.fit.specs.Answer.{FittedEdges}
use Rattle.fit.specs.Numbers.{is_asked}

-- ---- what the row comes to
-- a refusal, beside nothing
abbrev pub refused_edges : ℕ → FittedEdges
refused_edges k = record { answer = k; count = 0; anchor = None; gaps = refused_by 0 }

-- what is told, and the words that are left
pub record Left : Type 0 where
  pub told : FittedEdges
  pub words : List ℤ

-- a call refuses these words
abbrev pub stopped : List ℤ → ℕ → Left
stopped ws k = record { told = refused_edges k; words = ws }

-- ---- the guard
abbrev pub behind_guard : ℕ → Link → List ℤ → Gaps → Left
behind_guard count anchor ws g = answered g.answer (stopped ws) (record { told = record { answer = 0; count = count; anchor = anchor; gaps = g }; words = ws })

unfoldable pub then_guard : Numbers → ℕ → Link → List ℤ → Left
then_guard n count anchor ws = behind_guard count anchor ws (lost_gaps (edges_of ws) n.least n.linked)

-- ---- remaining edges
-- edges are left: stems have passed over some, or there is no anchor
unfoldable pub is_left : ℕ → Link → Bool
is_left count anchor = ltb 0 count || not (is_linked anchor)

-- where they are left; else the anchor and the edges stay
unfoldable pub remaining_where : Bool → Group → ℕ → Link → List ℤ → Remaining
remaining_where left group count anchor ws = cond left (align_remaining_edges (edges_of ws) group count anchor) (remaining anchor (edges_of ws) 0)

abbrev pub behind_remaining : Numbers → ℕ → List ℤ → Remaining → Left
behind_remaining n count ws r = answered r.answer (stopped ws) (then_guard n count r.anchor (edges_over ws r.axis))

unfoldable pub then_remaining : Numbers → ℕ → Link → List ℤ → Left
then_remaining n count anchor ws = behind_remaining n count ws (remaining_where (is_left count anchor) n.group count anchor ws)

-- ---- the m rule
-- where it is asked for; else the edges stay
unfoldable pub hinted_where : Bool → Group → List ℤ → Hinted
hinted_where asked group ws = cond asked (hint_lowercase_m (edges_of ws) group) (hinted (edges_of ws) 0)

abbrev pub behind_m : Numbers → ℕ → Link → List ℤ → Hinted → Left
behind_m n count anchor ws h = answered h.answer (stopped ws) (then_remaining n count anchor (edges_over ws h.axis))

unfoldable pub then_m : Numbers → ℕ → Link → List ℤ → Left
then_m n count anchor ws = behind_m n count anchor ws (hinted_where (is_asked n (edges_in ws)) n.group ws)

-- ---- blue zones and stems, and all behind them
abbrev pub behind_stems : Numbers → List ℤ → Stems → Left
behind_stems n ws s = answered s.answer (stopped ws) (then_m n s.count s.anchor (edges_over ws s.axis))

-- the call on blue zones and stems, with the axis' numbers and the standards xs
abbrev pub stems_on : Numbers → List ℤ → List ℤ → Stems
stems_on n xs ws = align_blues_and_stems (axis_in ws n.dim) n.group n.stem_adjust false n.rule xs

unfoldable pub fit_edges : Numbers → List ℤ → List ℤ → Left
fit_edges n xs ws = behind_stems n ws (stems_on n xs ws)
