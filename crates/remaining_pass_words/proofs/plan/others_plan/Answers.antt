-- `remaining_pass_words::plan::others_plan` meets its contract.
use Rattle.std.specs.Prelude.{Some}
use mathlib.Core.Path.{◌≡◌, sym, ◌∙◌}
use Prim.Native.Nat.{ℕ}
use Rattle.words_call.specs.Lent.{edges_of}
use Rattle.remaining.specs.Plan.{stays_plan, cjk_between}
use Rattle.remaining.specs.Remaining.{done_before, done_behind}
use Rattle.remaining_pass_words.proofs.Finding.{before-in, behind-in}
use Rattle.remaining_pass_words.proofs.Reading.{reach}
use Rattle.remaining_pass_words.proofs.Plans.{others-both, others-first, others-last, others-none}
use borrow.Author.Rules.{rules}
use Rattle.remaining_pass_words.proofs.plan.others_plan.Goals as goal

pub read_edge-edge-requires : goal.read_edge-edge-requires
read_edge-edge-requires c = (c.requires.whole, c.requires.below)

pub done_before-before-requires : goal.done_before-before-requires
done_before-before-requires c = let r = c.requires in (r.whole, r.below)

pub done_behind-behind-requires : goal.done_behind-behind-requires
done_behind-behind-requires c = let r = c.requires in (r.whole, r.below)

pub returns-in_default-behind : goal.returns-in_default-behind
returns-in_default-behind c =
    c.stays_plan.ensures ∙ (λ j. stays_plan (c.read_edge-edge.ensures j) c.args.past)
    ∙ others-none (edges_of c.args.words.now) c.args.past c.args.i _ _ (sym c.done_before-before.ensures ∙ c.in_default.is)
    (sym c.done_behind-behind.ensures ∙ c.in_default-behind.is)

pub by_serif-requires : goal.by_serif-requires
by_serif-requires c =
    let only_of : ℕ = c.in-Some-behind.f in
    let only-is : done_behind (edges_of c.args.words.now) c.args.i ≡ Some only_of = sym c.done_behind-behind.ensures ∙ c.in-Some-behind.is in
    let r = c.requires in (r, behind-in r only_of only-is)

pub returns-in_default : goal.returns-in_default
returns-in_default c =
    let only_of : ℕ = c.in-Some-behind.f in
    let only-is : done_behind (edges_of c.args.words.now) c.args.i ≡ Some only_of = sym c.done_behind-behind.ensures ∙ c.in-Some-behind.is in
    c.by_serif.ensures ∙ others-last (edges_of c.args.words.now) c.args.past c.args.i only_of _ _ (sym c.done_before-before.ensures ∙ c.in_default.is)
    only-is

pub by_serif-requires-in_default-behind-2 : goal.by_serif-requires-in_default-behind-2
by_serif-requires-in_default-behind-2 c =
    let first_is : done_before (edges_of c.args.words.now) c.args.i ≡ Some c.in-Some.b = sym c.done_before-before.ensures ∙ c.in-Some.is in
    (c.requires, before-in c.requires c.in-Some.b first_is)

pub returns-in_default-behind-2 : goal.returns-in_default-behind-2
returns-in_default-behind-2 c =
    let first_is : done_before (edges_of c.args.words.now) c.args.i ≡ Some c.in-Some.b = sym c.done_before-before.ensures ∙ c.in-Some.is in
    c.by_serif-in_default-behind-2.ensures ∙ others-first (edges_of c.args.words.now) c.args.past c.args.i c.in-Some.b _ _ first_is
    (sym c.done_behind-behind.ensures ∙ c.in_default-behind-2.is)

pub read_edge-first-requires : goal.read_edge-first-requires
read_edge-first-requires c =
    let first_is : done_before (edges_of c.args.words.now) c.args.i ≡ Some c.in-Some.b = sym c.done_before-before.ensures ∙ c.in-Some.is in
    (c.requires.whole, before-in c.requires c.in-Some.b first_is)

pub read_edge-last-requires : goal.read_edge-last-requires
read_edge-last-requires c =
    let last_is : done_behind (edges_of c.args.words.now) c.args.i ≡ Some c.in-Some-behind-2.f = sym c.done_behind-behind.ensures ∙ c.in-Some-behind-2.is in
    (c.requires.whole, behind-in c.requires c.in-Some-behind-2.f last_is)

pub cjk_between-requires : goal.cjk_between-requires
cjk_between-requires c =
    let before_of : ℕ = c.in-Some.b in
    let first_is : done_before (edges_of c.args.words.now) c.args.i ≡ Some before_of = sym c.done_before-before.ensures ∙ c.in-Some.is in
    let behind_of : ℕ = c.in-Some-behind-2.f in
    let last_is : done_behind (edges_of c.args.words.now) c.args.i ≡ Some behind_of = sym c.done_behind-behind.ensures ∙ c.in-Some-behind-2.is in
    let ws = c.args.words.now in
    let r = c.requires in (
      reach ws before_of r.axis (before-in r before_of first_is) c.read_edge-first.ensures,
      reach ws behind_of r.axis (behind-in r behind_of last_is) c.read_edge-last.ensures,
      reach ws c.args.i r.axis r.below c.read_edge-edge.ensures,
    )

pub returns : goal.returns
returns c =
    let before_of : ℕ = c.in-Some.b in
    let first_is : done_before (edges_of c.args.words.now) c.args.i ≡ Some before_of = sym c.done_before-before.ensures ∙ c.in-Some.is in
    let behind_of : ℕ = c.in-Some-behind-2.f in
    let last_is : done_behind (edges_of c.args.words.now) c.args.i ≡ Some behind_of = sym c.done_behind-behind.ensures ∙ c.in-Some-behind-2.is in
    c.cjk_between.ensures ∙ (λ j. cjk_between (c.read_edge-first.ensures j) (c.read_edge-last.ensures j) (c.read_edge-edge.ensures j)
    c.args.past)
    ∙ others-both (edges_of c.args.words.now) c.args.past c.args.i before_of behind_of _ _ first_is last_is
