-- What the steps of the search promise each other.
use Rattle.std.specs.Prelude.{Some}
use Rattle.std.specs.Prelude.{Bool, cond, ◌||◌, ℕ, ◌+◌, ◌≤◌, ◌<◌, ℤ, ◌-ℤ◌}
use Rattle.std.specs.Int.Signed.{le_z}
use Rattle.signed.specs.Range.{Between}
use Rattle.axis.specs.declared.edge.Edge.{Edge}
use Rattle.axis.specs.Limits.{most_edges, most_units, most_pos}
use Rattle.axis.specs.Link.{is_linked, links_to}
use Rattle.gaps.specs.declared.pair.Pair.{Pair}
use Rattle.gaps.specs.Answer.{Gaps}
use Rattle.gaps.specs.Gaps.{gone}

-- an edge in a place of the table, its positions within document 01's limits
pub record Placed (i : ℕ) (e : Edge) : Type 0 where
  pub place : i < most_edges
  pub opos : Between most_units most_units e.opos
  pub pos : Between most_pos most_pos e.pos

-- no more is found than a table has edges
pub record Few (found : Gaps) : Type 0 where
  pub gaps : found.count ≤ most_edges
  pub stems : found.stems ≤ most_edges
  pub undone : found.not_done ≤ most_edges

-- the pair from an edge in place i to one in place j, whether it is a stem, and whether it is gone
abbrev pub pair_of : ℕ → Edge → ℕ → Edge → Pair
pair_of i e j f = record { first = Some i; second = Some j; before = f.opos -ℤ e.opos; after = f.pos -ℤ e.pos }

abbrev pub stem_of : ℕ → Edge → ℕ → Edge → Bool
stem_of i e j f = links_to e.link j || links_to f.link i

abbrev pub gone_of : Edge → Edge → Bool
gone_of e f = gone (f.opos -ℤ e.opos) e.pos f.pos

-- the pair that is named: the one before where there is one
abbrev pub named_of : Pair → Pair → Pair
named_of old new = cond (is_linked old.first) old new

-- what is found with a lost stem more, and with a lost gap more
abbrev pub more_stems : Gaps → Pair → Gaps
more_stems found p = record { answer = found.answer; count = found.count; pair = named_of found.pair p; stems = found.stems + 1; not_done = found.not_done }

abbrev pub more_gaps : Gaps → Pair → Gaps
more_gaps found p = record { answer = found.answer; count = found.count + 1; pair = named_of found.pair p; stems = found.stems; not_done = found.not_done }

-- with one edge more that is not done
abbrev pub more_undone : Gaps → Gaps
more_undone found = record { answer = found.answer; count = found.count; pair = found.pair; stems = found.stems; not_done = found.not_done + 1 }

-- with one pair more, by whether it is gone, is a stem, and was wide enough
abbrev pub more_pairs : Bool → Bool → Bool → Gaps → Pair → Gaps
more_pairs gone stem wide found p = cond gone (cond stem (more_stems found p) (cond wide (more_gaps found p) found)) found

abbrev pub with_pair : ℤ → Gaps → ℕ → Edge → ℕ → Edge → Gaps
with_pair least found i e j f = more_pairs (gone_of e f) (stem_of i e j f) (le_z least (f.opos -ℤ e.opos)) found (pair_of i e j f)
