-- `remaining_pass_words::plan::by_bounds` meets its contract.
use Rattle.std.specs.Prelude.{Some}
use mathlib.Core.Path.{◌≡◌, sym, ◌∙◌}
use Prim.Native.Nat.{ℕ}
use Rattle.words_call.specs.Lent.{edges_of}
use Rattle.remaining.specs.Plan.{spaced_plan, latin_between}
use Rattle.remaining.specs.Remaining.{done_before, done_behind}
use Rattle.remaining_pass_words.proofs.Finding.{before-in, behind-in}
use Rattle.remaining_pass_words.proofs.Reading.{reach}
use Rattle.remaining_pass_words.proofs.Plans.{bounds-both, bounds-first, bounds-none}
use borrow.Author.Rules.{rules}
use Rattle.remaining_pass_words.proofs.plan.by_bounds.Goals as goal

pub read_edge-edge-requires : goal.read_edge-edge-requires
read_edge-edge-requires c = (c.requires.0.whole, c.requires.0.below)

pub done_before-before-requires : goal.done_before-before-requires
done_before-before-requires c = let r = c.requires.0 in (r.whole, r.below)

pub done_behind-behind-requires : goal.done_behind-behind-requires
done_behind-behind-requires c = let r = c.requires.0 in (r.whole, r.below)

-- ---- none before
pub read_edge-requires : goal.read_edge-requires
read_edge-requires c = (c.requires.0.whole, c.requires.1)

pub spaced_plan-requires : goal.spaced_plan-requires
spaced_plan-requires c =
    let ws = c.args.words.now in
    let r = c.requires.0 in
    (reach ws c.args.a r.axis c.requires.1 c.read_edge.ensures, reach ws c.args.i r.axis r.below c.read_edge-edge.ensures)

pub returns-in_default : goal.returns-in_default
returns-in_default c =
    c.spaced_plan.ensures ∙ (λ j. spaced_plan (c.read_edge.ensures j) (c.read_edge-edge.ensures j) c.args.past)
    ∙ bounds-none (edges_of c.args.words.now) c.args.past c.args.i c.args.a _ _ (sym c.done_before-before.ensures ∙ c.in_default.is)

-- ---- none behind
pub read_edge-requires-in_default-behind : goal.read_edge-requires-in_default-behind
read_edge-requires-in_default-behind c = (c.requires.0.whole, c.requires.1)

pub spaced_plan-requires-in_default-behind : goal.spaced_plan-requires-in_default-behind
spaced_plan-requires-in_default-behind c =
    let ws = c.args.words.now in
    let r = c.requires.0 in
    (reach ws c.args.a r.axis c.requires.1 c.read_edge-in_default-behind.ensures, reach ws c.args.i r.axis r.below c.read_edge-edge.ensures)

pub returns-in_default-behind : goal.returns-in_default-behind
returns-in_default-behind c =
    let before_of : ℕ = c.in-Some.b in
    let first_is : done_before (edges_of c.args.words.now) c.args.i ≡ Some before_of = sym c.done_before-before.ensures ∙ c.in-Some.is in
    c.spaced_plan-in_default-behind.ensures ∙ (λ j. spaced_plan (c.read_edge-in_default-behind.ensures j) (c.read_edge-edge.ensures j) c.args.past)
    ∙ bounds-first (edges_of c.args.words.now) c.args.past c.args.i c.args.a before_of _ _ first_is
    (sym c.done_behind-behind.ensures ∙ c.in_default-behind.is)

pub read_edge-first-requires : goal.read_edge-first-requires
read_edge-first-requires c =
    let first_is : done_before (edges_of c.args.words.now) c.args.i ≡ Some c.in-Some.b = sym c.done_before-before.ensures ∙ c.in-Some.is in
    (c.requires.0.whole, before-in c.requires.0 c.in-Some.b first_is)

pub read_edge-last-requires : goal.read_edge-last-requires
read_edge-last-requires c =
    let last_is : done_behind (edges_of c.args.words.now) c.args.i ≡ Some c.in-Some-behind.f = sym c.done_behind-behind.ensures ∙ c.in-Some-behind.is in
    (c.requires.0.whole, behind-in c.requires.0 c.in-Some-behind.f last_is)

pub latin_between-requires : goal.latin_between-requires
latin_between-requires c =
    let before_of : ℕ = c.in-Some.b in
    let first_is : done_before (edges_of c.args.words.now) c.args.i ≡ Some before_of = sym c.done_before-before.ensures ∙ c.in-Some.is in
    let behind_of : ℕ = c.in-Some-behind.f in
    let last_is : done_behind (edges_of c.args.words.now) c.args.i ≡ Some behind_of = sym c.done_behind-behind.ensures ∙ c.in-Some-behind.is in
    let ws = c.args.words.now in
    let r = c.requires.0 in (
      reach ws before_of r.axis (before-in r before_of first_is) c.read_edge-first.ensures,
      reach ws behind_of r.axis (behind-in r behind_of last_is) c.read_edge-last.ensures,
      reach ws c.args.i r.axis r.below c.read_edge-edge.ensures,
    )

pub returns : goal.returns
returns c =
    let before_of : ℕ = c.in-Some.b in
    let first_is : done_before (edges_of c.args.words.now) c.args.i ≡ Some before_of = sym c.done_before-before.ensures ∙ c.in-Some.is in
    let behind_of : ℕ = c.in-Some-behind.f in
    let last_is : done_behind (edges_of c.args.words.now) c.args.i ≡ Some behind_of = sym c.done_behind-behind.ensures ∙ c.in-Some-behind.is in
    c.latin_between.ensures ∙ (λ j. latin_between (c.read_edge-first.ensures j) (c.read_edge-last.ensures j) (c.read_edge-edge.ensures j)
    c.args.past)
    ∙ bounds-both (edges_of c.args.words.now) c.args.past c.args.i c.args.a before_of behind_of _ _ first_is last_is
