-- `remaining_pass_words::plan::latin_plan` meets its contract.
use native.Mathlib.Omega.{arith}
use mathlib.Core.Path.{sym, ◌∙◌}
use Prim.Native.Nat.{ℕ}
use Rattle.words_call.specs.Lent.{edges_of}
use Rattle.remaining.specs.Plan.{anchor_plan}
use Rattle.remaining_pass_words.proofs.Reading.{reach, serif-below, near-was}
use Rattle.remaining_pass_words.proofs.Plans.{serif_near, no-anchor, with-anchor}
use borrow.Author.Rules.{rules}
use Rattle.remaining_pass_words.proofs.plan.latin_plan.Goals as goal

pub near_serif-serif-requires : goal.near_serif-serif-requires
near_serif-serif-requires c = (c.requires.whole, c.requires.axis, c.requires.below)

pub by_serif-requires : goal.by_serif-requires
by_serif-requires c =
    let serif_of : ℕ = c.in-Some.k in
    let ws = c.args.words.now in
    let r = c.requires in (
      r,
      serif-below ws c.args.i serif_of r.axis r.below
          (near-was (edges_of ws) c.args.i serif_of _ (sym c.near_serif-serif.ensures ∙ c.in-Some.is)),
    )

pub returns-in-Some : goal.returns-in-Some
returns-in-Some c =
    let serif_of : ℕ = c.in-Some.k in
    c.by_serif.ensures ∙ serif_near (edges_of c.args.words.now) c.args.past c.args.i serif_of _ (sym c.near_serif-serif.ensures ∙ c.in-Some.is)

pub read_edge-requires : goal.read_edge-requires
read_edge-requires c = let r = c.requires in (r.whole, r.below)

pub anchor_plan-requires : goal.anchor_plan-requires
anchor_plan-requires c =
    let r = c.requires in
    let few = r.whole.few in
    let below = r.below in
    (reach c.args.words.now c.args.i r.axis r.below c.read_edge.ensures, omega (arith, few, below))

pub returns-in_default-anchor : goal.returns-in_default-anchor
returns-in_default-anchor c =
    c.anchor_plan.ensures ∙ (λ j. anchor_plan (c.read_edge.ensures j) c.args.i c.args.past)
    ∙ no-anchor (edges_of c.args.words.now) c.args.past c.args.i _ (sym c.near_serif-serif.ensures ∙ c.in_default.is) c.in_default-anchor.is

pub by_bounds-requires : goal.by_bounds-requires
by_bounds-requires c =
    let anchor_of : ℕ = c.in-Some-anchor.a in
    (c.requires, c.requires.anchor.at anchor_of c.in-Some-anchor.is)

pub returns : goal.returns
returns c =
    let anchor_of : ℕ = c.in-Some-anchor.a in
    c.by_bounds.ensures ∙ with-anchor (edges_of c.args.words.now) c.args.past c.args.i anchor_of _ (sym c.near_serif-serif.ensures ∙ c.in_default.is)
    c.in-Some-anchor.is
