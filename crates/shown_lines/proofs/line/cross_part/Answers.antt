-- `shown_lines::line::cross_part` meets its contract.
use mathlib.Core.Path.{◌≡◌, subst}
use mathlib.Core.List.{List, ◌∷◌, []}
use Prim.Native.Nat.{ℕ, ◌+◌}
use Rattle.shown.specs.Shown.{Side, side}
use Rattle.shown_lines.specs.Lines.{placed, place_on, Wound}
use Rattle.shown_lines.proofs.Winding.{wound-stays}
use Rattle.shown_lines.proofs.line.cross_part.Goals as goal

pub returns-then-stays : goal.returns-then-stays
returns-then-stays c =
    let with-ends : ℕ → ℕ → List Side = λ x x'. side (placed x c.args.low) (placed x' c.args.high) ∷ [] in
    let is-line : (x x' : ℕ)
    → x ≡ (place_on c.args.p c.args.c c.args.q c.args.k).x → x' ≡ (place_on c.args.p c.args.c c.args.q (c.args.k + 1)).x
    → with-ends x x' ≡ side (place_on c.args.p c.args.c c.args.q c.args.k) (place_on c.args.p c.args.c c.args.q (c.args.k + 1))
    ∷ [] = λ x x' e f. λ i. side (placed (e i) (c.requires.k_bound.1 i)) (placed (f i) (c.requires.k_bound.2 i)) ∷ [] in
    let x = (place_on c.args.p c.args.c c.args.q c.args.k).x in
    let x' = (place_on c.args.p c.args.c c.args.q (c.args.k + 1)).x in
    subst (λ (z : List Side). Wound z c.args.left c.args.y c.args.changes.now c.args.changes.now) (is-line x x' (λ _. x) (λ _. x'))
    (wound-stays c.args.left x c.args.low x' c.args.high c.args.y c.args.changes.now (c.stays.ensures c.if-stays.true))

pub returns : goal.returns
returns c =
    let with-ends : ℕ → ℕ → List Side = λ x x'. side (placed x c.args.low) (placed x' c.args.high) ∷ [] in
    let is-line : (x x' : ℕ)
    → x ≡ (place_on c.args.p c.args.c c.args.q c.args.k).x → x' ≡ (place_on c.args.p c.args.c c.args.q (c.args.k + 1)).x
    → with-ends x x' ≡ side (place_on c.args.p c.args.c c.args.q c.args.k) (place_on c.args.p c.args.c c.args.q (c.args.k + 1))
    ∷ [] = λ x x' e f. λ i. side (placed (e i) (c.requires.k_bound.1 i)) (placed (f i) (c.requires.k_bound.2 i)) ∷ [] in
    subst (λ (z : List Side). Wound z c.args.left c.args.y c.args.changes.now c.cross_side.new.changes)
    (is-line _ _ c.place_at-from.ensures.0 c.place_at-to.ensures.0) c.cross_side.ensures
