-- `remaining_pass_words::find::near_serif` meets its contract.
use Rattle.std.specs.Prelude.{Some}
use mathlib.Core.Path.{◌≡◌, sym, ap, ◌∙◌}
use Prim.Native.Nat.{ℕ, ◌<◌}
use Rattle.axis.specs.declared.edge.Edge.{Edge}
use Rattle.axis.specs.Edge.{edge_at}
use Rattle.words.specs.Edge.{edges_in}
use Rattle.words_call.specs.Lent.{edges_of}
use Rattle.remaining.specs.Plan.{is_near}
use Rattle.remaining_pass_words.proofs.Reading.{reach, serif-below, near_none, near-is}
use borrow.Author.Rules.{rules}
use Rattle.remaining_pass_words.proofs.find.near_serif.Goals as goal

pub read_edge-edge-requires : goal.read_edge-edge-requires
read_edge-edge-requires c = (c.requires.0, c.requires.2)

pub returns-in_default : goal.returns-in_default
returns-in_default c = near_none (edges_of c.args.words.now) c.args.i _ (sym (ap (λ (e : Edge). e.serif) c.read_edge-edge.ensures) ∙ c.in_default.is)

pub read_edge-base-requires : goal.read_edge-base-requires
read_edge-base-requires c =
    let serif_of : ℕ = c.in-Some.k in
    let serif-is : (edge_at (edges_of c.args.words.now) c.args.i).serif ≡ Some serif_of =
    sym (ap (λ (e : Edge). e.serif) c.read_edge-edge.ensures) ∙ c.in-Some.is in
    let serif-in : serif_of < edges_in c.args.words.now =
    serif-below c.args.words.now c.args.i serif_of c.requires.1 c.requires.2 serif-is in
    (c.requires.0, serif-in)

pub is_near-requires : goal.is_near-requires
is_near-requires c =
    let serif_of : ℕ = c.in-Some.k in
    let serif-is : (edge_at (edges_of c.args.words.now) c.args.i).serif ≡ Some serif_of =
    sym (ap (λ (e : Edge). e.serif) c.read_edge-edge.ensures) ∙ c.in-Some.is in
    let serif-in : serif_of < edges_in c.args.words.now =
    serif-below c.args.words.now c.args.i serif_of c.requires.1 c.requires.2 serif-is in (
      reach c.args.words.now c.args.i c.requires.1 c.requires.2 c.read_edge-edge.ensures,
      reach c.args.words.now serif_of c.requires.1
          serif-in c.read_edge-base.ensures,
    )

pub returns-then-is_near : goal.returns-then-is_near
returns-then-is_near c =
    let serif_of : ℕ = c.in-Some.k in
    let serif-is : (edge_at (edges_of c.args.words.now) c.args.i).serif ≡ Some serif_of =
    sym (ap (λ (e : Edge). e.serif) c.read_edge-edge.ensures) ∙ c.in-Some.is in
    let near : c.is_near.result ≡ is_near (edge_at (edges_of c.args.words.now) c.args.i) (edge_at (edges_of c.args.words.now) serif_of) =
    c.is_near.ensures ∙ λ j. is_near (c.read_edge-edge.ensures j) (c.read_edge-base.ensures j) in
    near-is (edges_of c.args.words.now) c.args.i serif_of _ serif-is (sym near ∙ c.if-is_near.true)

pub returns : goal.returns
returns c =
    let serif_of : ℕ = c.in-Some.k in
    let serif-is : (edge_at (edges_of c.args.words.now) c.args.i).serif ≡ Some serif_of =
    sym (ap (λ (e : Edge). e.serif) c.read_edge-edge.ensures) ∙ c.in-Some.is in
    let near : c.is_near.result ≡ is_near (edge_at (edges_of c.args.words.now) c.args.i) (edge_at (edges_of c.args.words.now) serif_of) =
    c.is_near.ensures ∙ λ j. is_near (c.read_edge-edge.ensures j) (c.read_edge-base.ensures j) in
    near-is (edges_of c.args.words.now) c.args.i serif_of _ serif-is (sym near ∙ c.if-is_near.false)
