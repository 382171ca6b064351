-- `pack_steps_words::keep::kept_in` meets its contract: three lists are filled, and followed.
use borrow.Author.Rules.{rules}
use native.Mathlib.Omega.{arith}
use mathlib.Core.Path.{◌≡◌, refl}
use Prim.Native.Nat.{◌-◌, ◌≤◌, ◌<◌}
use Rattle.axis.specs.Limits.{most_segments}
use Rattle.axis.specs.declared.segment.Segments.{Segments}
use Rattle.words.specs.Segment.{segments_in, flat_segments}
use Rattle.words_segment.proofs.Wholes.{segments-len}
use Rattle.pack.proofs.Filled.{Three, three-none, three-next, link_fits, serif-fits, three-ready, three-followed}
use Rattle.pack_steps_words.proofs.Readings.{inside, edged-read, link-or, serif-or}
use Rattle.pack_steps_words.proofs.keep.kept_in.Given as goal

abbrev pub invariant-loop-i : goal.invariant-loop-i
invariant-loop-i l = (l.i ≤ l.n) × (l.n ≡ segments_in l.words) × (l.n ≤ most_segments) × Three (flat_segments l.words) l.kept l.links l.serifs l.i

abbrev pub decreases-loop-i : goal.decreases-loop-i
decreases-loop-i l = l.n - l.i
