-- `link_words::serif::rewrite_links_in` meets its contract.
use mathlib.Core.Path.{refl}
use Prim.Native.Nat.{◌-◌, ◌<◌}
use native.Mathlib.Omega.{arith}
use Rattle.link.specs.Rounds.{rewrite_turn}
use Rattle.link_words.proofs.Turns.{Turned, turns-start, turns_next, turns-end}
use Rattle.link_words.proofs.Serifs.{rewrites-law}
use Rattle.link_words.proofs.serif.rewrite_links_in.Given as goal

abbrev pub invariant-loop-i : goal.invariant-loop-i
invariant-loop-i l = (l.link1_ix < l.count) × (l.ix1 < l.count) × Turned (rewrite_turn l.ix2 l.link1_ix l.link2_ix l.ix1) l.count l.initial.words l.words l.i

abbrev pub decreases-loop-i : goal.decreases-loop-i
decreases-loop-i l = l.count - l.i
