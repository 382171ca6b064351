-- `stems_words::store::hold_in` meets its contract.
use mathlib.Core.Path.{◌≡◌}
use Prim.Native.Nat.{ℕ, ◌<◌}
use native.Mathlib.Omega.{arith}
use borrow.Author.Tests.{not-true, not-false}
use mir.Syntax.{w32}
use Rattle.signed.proofs.Signed.{is, got}
use Rattle.axis.specs.declared.edge.Edge.{Edge}
use Rattle.axis.specs.Edge.{edge_at}
use Rattle.place.specs.Steps.{most_reach, InReach}
use Rattle.words.specs.Edge.{edges_in}
use Rattle.words_call.specs.Lent.{edges_of}
use Rattle.words_edge.specs.Whole.{reduced}
use Rattle.place_words.proofs.Places.{read-reach, edge-reach}
use Rattle.stems_words.proofs.Stores.{hold-free, hold-under, hold-over}
use borrow.Author.Rules.{rules}
use Rattle.stems_words.proofs.store.hold_in.Goals as goal

pub returns-then-not-bounded : goal.returns-then-not-bounded
returns-then-not-bounded c = hold-free c.args.words.now c.args.bounded c.args.i c.args.k c.requires.0 c.if-not-bounded.true

pub read_edge-edge-requires : goal.read_edge-edge-requires
read_edge-edge-requires c = (c.requires.0, c.requires.2)

pub read_edge-prev-requires : goal.read_edge-prev-requires
read_edge-prev-requires c =
    let previous-in : c.before-2.result < edges_in c.args.words.now = let h = c.requires.2 in let e = c.before-2.ensures in omega (arith, h, e) in
    (c.requires.0, previous-in)

pub read_edge-link-requires : goal.read_edge-link-requires
read_edge-link-requires c = (c.requires.0, c.requires.3)

pub is_over-requires : goal.is_over-requires
is_over-requires c =
    let previous-in : c.before-2.result < edges_in c.args.words.now = let h = c.requires.2 in let e = c.before-2.ensures in omega (arith, h, e) in
    let reach : (j : ℕ) (e : Edge) → j < edges_in c.args.words.now → e ≡ reduced (edge_at (edges_of c.args.words.now) j)
    → InReach e = λ j e h q. read-reach e q (edge-reach _ most_reach j (omega arith) c.requires.1 h) in (
      reach _ _ c.requires.2 c.read_edge-edge.ensures,
      reach _ _ previous-in c.read_edge-prev.ensures,
      reach _ _ c.requires.3
          c.read_edge-link.ensures,
    )

pub put_pos-requires : goal.put_pos-requires
put_pos-requires c = (c.requires.0, c.requires.2)

pub returns-then-is_over : goal.returns-then-is_over
returns-then-is_over c = hold-over c.args.words.now c.args.bounded c.args.i c.args.k c.if-not-bounded.false c.before-2.ensures
    c.read_edge-edge.ensures
    c.read_edge-prev.ensures c.read_edge-link.ensures c.is_over.ensures c.if-is_over.true
    (is (got w32 _ c.struct_told-1.given.1.1.0.1)) c.put_pos.ensures

pub returns-else-is_over : goal.returns-else-is_over
returns-else-is_over c = hold-under c.args.words.now c.args.bounded c.args.i c.args.k c.if-not-bounded.false c.before-2.ensures
    c.read_edge-edge.ensures
    c.read_edge-prev.ensures c.read_edge-link.ensures c.is_over.ensures c.requires.0 c.if-is_over.false
