-- `link_words::serif::rewrite_in` meets its contract.
use mathlib.Core.Path.{◌∙◌}
use Rattle.axis.proofs.Equal.{option-links}
use native.Mathlib.Omega.{arith}
use Rattle.axis.specs.Limits.{most_segments}
use Rattle.axis.proofs.Acceptance.{below-to}
use Rattle.link_words.proofs.Serifs.{rewrite-first, rewrite-second, rewrite-none}
use Rattle.link_words.proofs.serif.rewrite_in.Goals as goal

pub put_serif-requires : goal.put_serif-requires
put_serif-requires c =
    (c.requires.0, c.requires.1, below-to most_segments c.args.link1_ix (omega (arith, c.requires.2, c.requires.0.few)))

pub returns-then-eq : goal.returns-then-eq
returns-then-eq c =
    rewrite-first c.args.words.now c.args.ix2 c.args.link1_ix c.args.link2_ix c.args.ix1 c.args.i c.requires.0 _
    c.read_segment-seg.ensures _ (c.eq.ensures ∙ option-links _ _) c.if-eq.true
    c.put_serif.ensures

pub put_serif-requires-then-eq-2 : goal.put_serif-requires-then-eq-2
put_serif-requires-then-eq-2 c =
    (c.requires.0, c.requires.1, below-to most_segments c.args.ix1 (omega (arith, c.requires.3, c.requires.0.few)))

pub returns-then-eq-2 : goal.returns-then-eq-2
returns-then-eq-2 c =
    rewrite-second c.args.words.now c.args.ix2 c.args.link1_ix c.args.link2_ix c.args.ix1 c.args.i c.requires.0 _
    c.read_segment-seg.ensures _ (c.eq.ensures ∙ option-links _ _) c.if-eq.false
    _ (c.eq-2.ensures ∙ option-links _ _) c.if-eq-2.true c.put_serif-then-eq-2.ensures

pub returns-else-eq-2 : goal.returns-else-eq-2
returns-else-eq-2 c =
    rewrite-none c.args.words.now c.args.ix2 c.args.link1_ix c.args.link2_ix c.args.ix1 c.args.i c.requires.0 _
    c.read_segment-seg.ensures _ (c.eq.ensures ∙ option-links _ _) c.if-eq.false
    _ (c.eq-2.ensures ∙ option-links _ _) c.if-eq-2.false
