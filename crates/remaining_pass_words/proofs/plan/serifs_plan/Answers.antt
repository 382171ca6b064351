-- `remaining_pass_words::plan::serifs_plan` meets its contract.
use Rattle.std.specs.Prelude.{Some}
use mathlib.Core.Path.{◌≡◌, sym, ap, subst, ◌∙◌}
use Prim.Native.Nat.{ℕ}
use Rattle.axis.specs.declared.edge.Edge.{Edge}
use Rattle.axis.specs.Accepted.{Below}
use Rattle.axis.specs.Edge.{edge_at}
use Rattle.words.specs.Edge.{edges_in}
use Rattle.words_call.specs.Lent.{edges_of}
use Rattle.remaining.specs.declared.kinds.Progress.{Progress}
use Rattle.remaining.specs.declared.kinds.Way.TheVariants as Ways
use Rattle.remaining.specs.Plan.{stays_plan, serif_plan}
use Rattle.remaining_pass_words.proofs.Reading.{serif-below}
use Rattle.remaining_pass_words.proofs.Plans.{serifs-none, serifs-to}
use borrow.Author.Rules.{rules}
use Rattle.remaining_pass_words.proofs.plan.serifs_plan.Goals as goal

pub read_edge-edge-requires : goal.read_edge-edge-requires
read_edge-edge-requires c = (c.requires.whole, c.requires.below)

pub returns-in_default : goal.returns-in_default
returns-in_default c =
    c.stays_plan.ensures ∙ (λ j. stays_plan (c.read_edge-edge.ensures j) c.args.past)
    ∙ serifs-none (edges_of c.args.words.now) c.args.past c.args.i _
    (sym (ap (λ (e : Edge). e.serif) c.read_edge-edge.ensures) ∙ c.in_default.is)

pub by_serif-requires : goal.by_serif-requires
by_serif-requires c =
    let serif_of : ℕ = c.in-Some.k in
    let serif-is : (edge_at (edges_of c.args.words.now) c.args.i).serif ≡ Some serif_of =
    sym (ap (λ (e : Edge). e.serif) c.read_edge-edge.ensures) ∙ c.in-Some.is in
    let ws = c.args.words.now in
    let r = c.requires in (
      record {
        whole = r.whole;
        axis = r.axis;
        anchor = subst (λ (p : Progress). Below (edges_in ws) p.anchor) (sym c.one_less.ensures) r.anchor;
        below = r.below;
      },
      serif-below ws c.args.i serif_of r.axis r.below serif-is,
    )

pub returns : goal.returns
returns c =
    let serif_of : ℕ = c.in-Some.k in
    let serif-is : (edge_at (edges_of c.args.words.now) c.args.i).serif ≡ Some serif_of =
    sym (ap (λ (e : Edge). e.serif) c.read_edge-edge.ensures) ∙ c.in-Some.is in
    let axis = edges_of c.args.words.now in
    c.by_serif.ensures ∙ ap (serif_plan (edge_at axis serif_of) (edge_at axis c.args.i) Ways.Fixed) c.one_less.ensures
    ∙ serifs-to axis c.args.past c.args.i serif_of _ serif-is
