-- `place_words::adjust::bound_of` meets its contract.
use Rattle.std.specs.Prelude.{Some}
use mathlib.Core.Path.{◌≡◌, sym, ap, ◌∙◌}
use mathlib.Core.Bool.{true}
use mathlib.Core.List.{List}
use Prim.Native.Nat.{ℕ, ◌<◌, ◌-◌}
use native.Mathlib.Omega.{arith}
use borrow.Author.Tests.{not-true, not-false}
use lib.IntN.{ℤ}
use mir.Syntax.{w32}
use Rattle.signed.proofs.Signed.{is, got}
use Rattle.signed.proofs.By.{by₂}
use Rattle.axis.specs.declared.edge.Edge.{Edge}
use Rattle.axis.specs.Edge.{edge_at}
use Rattle.place.specs.Placing.{has_passed, is_far, neighbour}
use Rattle.place.specs.Steps.{InReach}
use Rattle.place.proofs.Reach.{reach-read}
use Rattle.place.proofs.Neighbours.{neighbour-below}
use Rattle.words.specs.Edge.{edges_in}
use Rattle.words_call.specs.Lent.{edges_of}
use Rattle.words_edge.specs.Whole.{reduced}
use Rattle.words_edge.proofs.Wholes.{edges-len}
use Rattle.place_words.proofs.Places.{read-reach, edge-reach}
use Rattle.place_words.proofs.Adjusting.{bound-first, bound-alone, bound-unpassed, bound-unlinked, bound-near, bound-held}
use borrow.Author.Rules.{rules}
use Rattle.place_words.proofs.adjust.bound_of.Goals as goal

pub returns-then-edge-eq0 : goal.returns-then-edge-eq0
returns-then-edge-eq0 c = bound-first c.args.words.now c.args.edge c.args.dir c.if-edge-eq0.true

pub returns-in_default : goal.returns-in_default
returns-in_default c = bound-alone c.args.words.now c.args.edge c.args.dir c.if-edge-eq0.false (sym c.neighbour_in-neighbour.ensures ∙ c.in_default.is)

pub read_edge-edge2-requires : goal.read_edge-edge2-requires
read_edge-edge2-requires c =
    let words : List ℤ = c.args.words.now in
    let neighbour-is : neighbour c.args.dir (edges_of words) c.args.edge ≡ Some c.in-Some.k = sym c.neighbour_in-neighbour.ensures ∙ c.in-Some.is in
    let neighbour-edge : c.in-Some.k < edges_in words = let l = edges-len words in
    let h = (neighbour-below c.args.dir (edges_of words) c.args.edge (omega (arith, l, c.requires.2))).at _ neighbour-is in
    omega (arith, l, h) in
    (c.requires.0, neighbour-edge)

pub returns-then-not-has_passed : goal.returns-then-not-has_passed
returns-then-not-has_passed c =
    let is_later : c.args.edge ≡ 0 → ⊥ = c.if-edge-eq0.false in
    let words : List ℤ = c.args.words.now in
    let neighbour-is : neighbour c.args.dir (edges_of words) c.args.edge ≡ Some c.in-Some.k = sym c.neighbour_in-neighbour.ensures ∙ c.in-Some.is in
    let own_read : c.read_edge-edge1.result
    ≡ reduced (edge_at (edges_of words) c.args.edge) = c.read_edge-edge1.ensures in
    let pos_at : ℕ → ℤ = λ i. (edge_at (edges_of words) i).pos in
    let passed_is : c.has_passed.result ≡ has_passed c.args.dir (pos_at c.args.edge)
    (pos_at c.in-Some.k) = by₂ (has_passed c.args.dir) c.has_passed.ensures
    (is (got w32 _ c.struct_told-1.given.1.1.0.1) ∙ ap (λ (x : Edge). x.pos) own_read)
    (is (got w32 _ c.struct_told-2-1.given.1.1.0.1) ∙ ap (λ (x : Edge). x.pos) c.read_edge-edge2.ensures) in
    bound-unpassed c.args.words.now c.args.edge c.args.dir is_later c.in-Some.k neighbour-is
    (sym passed_is ∙ c.if-not-has_passed.true)

pub returns-in_default-link : goal.returns-in_default-link
returns-in_default-link c =
    let is_later : c.args.edge ≡ 0 → ⊥ = c.if-edge-eq0.false in
    let words : List ℤ = c.args.words.now in
    let neighbour-is : neighbour c.args.dir (edges_of words) c.args.edge ≡ Some c.in-Some.k = sym c.neighbour_in-neighbour.ensures ∙ c.in-Some.is in
    let own_read : c.read_edge-edge1.result
    ≡ reduced (edge_at (edges_of words) c.args.edge) = c.read_edge-edge1.ensures in
    let pos_at : ℕ → ℤ = λ i. (edge_at (edges_of words) i).pos in
    let passed_is : c.has_passed.result ≡ has_passed c.args.dir (pos_at c.args.edge)
    (pos_at c.in-Some.k) = by₂ (has_passed c.args.dir) c.has_passed.ensures
    (is (got w32 _ c.struct_told-1.given.1.1.0.1) ∙ ap (λ (x : Edge). x.pos) own_read)
    (is (got w32 _ c.struct_told-2-1.given.1.1.0.1) ∙ ap (λ (x : Edge). x.pos) c.read_edge-edge2.ensures) in
    let passed-held : has_passed c.args.dir (pos_at c.args.edge)
    (pos_at c.in-Some.k) ≡ true = sym passed_is ∙ c.if-not-has_passed.false in
    bound-unlinked c.args.words.now c.args.edge c.args.dir is_later c.in-Some.k neighbour-is passed-held
    (sym (ap (λ (x : Edge). x.link) own_read) ∙ c.in_default-link.is)

pub read_edge-linked-requires : goal.read_edge-linked-requires
read_edge-linked-requires c =
    let words : List ℤ = c.args.words.now in
    let own_read : c.read_edge-edge1.result
    ≡ reduced (edge_at (edges_of words) c.args.edge) = c.read_edge-edge1.ensures in
    let link-is : (edge_at (edges_of words) c.args.edge).link ≡ Some c.in-Some-link.l = sym (ap (λ (x : Edge). x.link) own_read) ∙ c.in-Some-link.is in
    let link-edge : c.in-Some-link.l < edges_in words = let l = edges-len words in
    let h = (c.requires.1.edge c.args.edge (omega (arith, l, c.requires.2))).link.at _ link-is in
    omega (arith, l, h) in
    (c.requires.0, link-edge)

pub overflow_sub-edge : goal.overflow_sub-edge
overflow_sub-edge c =
    let is_later : c.args.edge ≡ 0 → ⊥ = c.if-edge-eq0.false in
    let is_positive : 0 < c.args.edge = let n = is_later in omega (arith, n) in
    let h = is_positive in omega (arith, h)

pub read_edge-prev_edge-requires : goal.read_edge-prev_edge-requires
read_edge-prev_edge-requires c =
    let previous-edge : c.args.edge - 1 < edges_in c.args.words.now = let h = c.requires.2 in omega (arith, h) in
    (c.requires.0, previous-edge)

pub is_far-requires : goal.is_far-requires
is_far-requires c =
    let words : List ℤ = c.args.words.now in
    let own_read : c.read_edge-edge1.result
    ≡ reduced (edge_at (edges_of words) c.args.edge) = c.read_edge-edge1.ensures in
    let link-is : (edge_at (edges_of words) c.args.edge).link ≡ Some c.in-Some-link.l = sym (ap (λ (x : Edge). x.link) own_read) ∙ c.in-Some-link.is in
    let link-edge : c.in-Some-link.l < edges_in words = let l = edges-len words in
    let h = (c.requires.1.edge c.args.edge (omega (arith, l, c.requires.2))).link.at _ link-is in
    omega (arith, l, h) in
    let previous-edge : c.args.edge - 1 < edges_in words = let h = c.requires.2 in omega (arith, h) in
    let reaches : (i : ℕ) → i < edges_in words → InReach (edge_at (edges_of words) i) = λ i h. edge-reach _ _ i (omega arith) c.requires.1 h in
    let p = (read-reach c.read_edge-linked.result c.read_edge-linked.ensures (reaches _ link-edge)).pos in
    let q = (read-reach c.read_edge-prev_edge.result c.read_edge-prev_edge.ensures (reaches _ previous-edge)).pos in
    rw (reach-read _ p, reach-read _ q) (p, q)

pub returns-then-is_far : goal.returns-then-is_far
returns-then-is_far c =
    let is_later : c.args.edge ≡ 0 → ⊥ = c.if-edge-eq0.false in
    let words : List ℤ = c.args.words.now in
    let neighbour-is : neighbour c.args.dir (edges_of words) c.args.edge ≡ Some c.in-Some.k = sym c.neighbour_in-neighbour.ensures ∙ c.in-Some.is in
    let neighbour-edge : c.in-Some.k < edges_in words = let l = edges-len words in
    let h = (neighbour-below c.args.dir (edges_of words) c.args.edge (omega (arith, l, c.requires.2))).at _ neighbour-is in
    omega (arith, l, h) in
    let own_read : c.read_edge-edge1.result
    ≡ reduced (edge_at (edges_of words) c.args.edge) = c.read_edge-edge1.ensures in
    let link-is : (edge_at (edges_of words) c.args.edge).link ≡ Some c.in-Some-link.l = sym (ap (λ (x : Edge). x.link) own_read) ∙ c.in-Some-link.is in
    let pos_at : ℕ → ℤ = λ i. (edge_at (edges_of words) i).pos in
    let passed_is : c.has_passed.result ≡ has_passed c.args.dir (pos_at c.args.edge)
    (pos_at c.in-Some.k) = by₂ (has_passed c.args.dir) c.has_passed.ensures
    (is (got w32 _ c.struct_told-1.given.1.1.0.1) ∙ ap (λ (x : Edge). x.pos) own_read)
    (is (got w32 _ c.struct_told-2-1.given.1.1.0.1) ∙ ap (λ (x : Edge). x.pos) c.read_edge-edge2.ensures) in
    let passed-held : has_passed c.args.dir (pos_at c.args.edge)
    (pos_at c.in-Some.k) ≡ true = sym passed_is ∙ c.if-not-has_passed.false in
    let far-is : c.is_far.result ≡ is_far (pos_at c.in-Some-link.l)
    (pos_at (c.args.edge - 1)) = by₂ is_far c.is_far.ensures
    (is (got w32 _ c.struct_told-3-1.given.1.1.0.1) ∙ ap (λ (x : Edge). x.pos) c.read_edge-linked.ensures)
    (is (got w32 _ c.struct_told-4-1.given.1.1.0.1) ∙ ap (λ (x : Edge). x.pos) c.read_edge-prev_edge.ensures) in
    bound-held c.args.words.now c.args.edge c.args.dir is_later c.in-Some.k neighbour-is passed-held c.in-Some-link.l
    link-is
    (sym far-is ∙ c.if-is_far.true) neighbour-edge

pub returns : goal.returns
returns c =
    let is_later : c.args.edge ≡ 0 → ⊥ = c.if-edge-eq0.false in
    let words : List ℤ = c.args.words.now in
    let neighbour-is : neighbour c.args.dir (edges_of words) c.args.edge ≡ Some c.in-Some.k = sym c.neighbour_in-neighbour.ensures ∙ c.in-Some.is in
    let own_read : c.read_edge-edge1.result
    ≡ reduced (edge_at (edges_of words) c.args.edge) = c.read_edge-edge1.ensures in
    let link-is : (edge_at (edges_of words) c.args.edge).link ≡ Some c.in-Some-link.l = sym (ap (λ (x : Edge). x.link) own_read) ∙ c.in-Some-link.is in
    let pos_at : ℕ → ℤ = λ i. (edge_at (edges_of words) i).pos in
    let passed_is : c.has_passed.result ≡ has_passed c.args.dir (pos_at c.args.edge)
    (pos_at c.in-Some.k) = by₂ (has_passed c.args.dir) c.has_passed.ensures
    (is (got w32 _ c.struct_told-1.given.1.1.0.1) ∙ ap (λ (x : Edge). x.pos) own_read)
    (is (got w32 _ c.struct_told-2-1.given.1.1.0.1) ∙ ap (λ (x : Edge). x.pos) c.read_edge-edge2.ensures) in
    let passed-held : has_passed c.args.dir (pos_at c.args.edge)
    (pos_at c.in-Some.k) ≡ true = sym passed_is ∙ c.if-not-has_passed.false in
    let far-is : c.is_far.result ≡ is_far (pos_at c.in-Some-link.l)
    (pos_at (c.args.edge - 1)) = by₂ is_far c.is_far.ensures
    (is (got w32 _ c.struct_told-3-1.given.1.1.0.1) ∙ ap (λ (x : Edge). x.pos) c.read_edge-linked.ensures)
    (is (got w32 _ c.struct_told-4-1.given.1.1.0.1) ∙ ap (λ (x : Edge). x.pos) c.read_edge-prev_edge.ensures) in
    bound-near c.args.words.now c.args.edge c.args.dir is_later c.in-Some.k neighbour-is passed-held c.in-Some-link.l
    link-is
    (sym far-is ∙ c.if-is_far.false)
