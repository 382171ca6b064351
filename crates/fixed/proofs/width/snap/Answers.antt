-- `fixed::width::snap` meets its contract: the standard at the place found is `nearest`, by which the width settles.
use native.Mathlib.Omega.{arith}
use mathlib.Core.Path.{◌≡◌, sym, ap, subst, ◌∙◌}
use mathlib.Core.List.{List}
use Prim.Native.Nat.{◌≤◌}
use lib.ListN.{get_or}
use lib.IntN.{ℤ, pos, neg_ℤ, nat_abs, ◌-ℤ◌, +ℤ_idl}
use mir.Syntax.{w32}
use mir.Val.{SFits}
use Rattle.signed.proofs.Signed.{signed, fits, is, range, got, abs-of, between-sfits}
use Rattle.fixed.specs.Width.{away, Nearest, nearest, settled, snapped}
use Rattle.signed.proofs.By.{by₂}
use Rattle.fixed.proofs.Widths.{nearest-found, snapped-empty, snapped-some, settled-zero, settled-far, settled-pos, settled-neg}
use Rattle.fixed.proofs.width.snap.Goals as goal
use Rattle.fixed.proofs.width.snap.Goals.{After-distance, After-magnitude-size, After-standard-1, Start}

abbrev list : Start → List ℤ
list s = s.args.standards.now

pub returns-then-standards-eq0 : goal.returns-then-standards-eq0
returns-then-standards-eq0 c = let s = c.before in is s.ranges.width ∙ sym (snapped-empty (list s) s.args.width c.if-standards-eq0.true)

pub overflow_cast-width : goal.overflow_cast-width
overflow_cast-width c = fits (omega (arith, signed, range c.ranges.width))

pub magnitude-size-requires : goal.magnitude-size-requires
magnitude-size-requires c = let k = overflow_cast-width c in omega (arith, signed, range c.ranges.width)

-- the width's magnitude
size_is : (c : After-magnitude-size) → c.magnitude-size.result ≡ nat_abs c.args.width
size_is c = c.magnitude-size.ensures ∙ ap nat_abs (is (overflow_cast-width c.before) ∙ is c.ranges.width)

size-most : (c : After-magnitude-size) → c.magnitude-size.result ≤ 2147483648
size-most c = omega (arith, size_is c, abs-of (between-sfits c.ranges.width))

pub returns-then-size-eq0 : goal.returns-then-size-eq0
returns-then-size-eq0 c =
    let s = c.before.before.before in
    let w = s.args.width in
    is s.ranges.width ∙ sym (snapped-some (list s) w c.if-standards-eq0.false
    ∙ settled-zero w (nearest (nat_abs w) (list s)) (sym (size_is c.before) ∙ c.if-size-eq0.true))

pub nearest_place-place-requires : goal.nearest_place-place-requires
nearest_place-place-requires c =
    record {
      standards_nonzero = (omega (arith, c.if-standards-eq0.false), size-most c.before);
      standards = c.requires;
    }

abbrev start : After-standard-1 → Start
start c = c.before.before.before.before.before

-- the standard found, and that the machine reads it whole
abbrev standard : After-standard-1 → ℤ
standard c = get_or (list (start c)) c.nearest_place-place.result (pos 0)

whole : (c : After-standard-1) → SFits w32 (standard c)
whole c = got w32 (standard c) c.standard-1.given

pub distance-requires : goal.distance-requires
distance-requires c = size-most c.before.before.before

distance_is : (c : After-distance) → c.distance.result ≡ away (nat_abs (start c.before).args.width) (standard c.before)
distance_is c = by₂ away c.distance.ensures (size_is c.before.before.before.before) (is (whole c.before))

-- the width settles by the standard found
settles : (c : After-standard-1) → snapped (list (start c)) (start c).args.width ≡ settled (start c).args.width (standard c)
settles c =
    let s = start c in
    let w = s.args.width in
    let e = size_is c.before.before.before in
    let n = subst (λ m. Nearest (list s) m (standard c)) e c.nearest_place-place.ensures.1 in
    snapped-some (list s) w c.if-standards-eq0.false ∙ ap (settled w) (nearest-found (list s) (nat_abs w) (standard c) n)

not-zero : (c : After-standard-1) → nat_abs (start c).args.width ≡ 0 → ⊥
not-zero c e = c.if-size-eq0.false (size_is c.before.before.before ∙ e)

pub returns-then-distance-gt-MOST_AWAY : goal.returns-then-distance-gt-MOST_AWAY
returns-then-distance-gt-MOST_AWAY c =
    let d = c.before in
    let a = d.before in
    is (start a).ranges.width ∙ sym (settles a ∙ settled-far (start a).args.width (standard a) (not-zero a) (omega (arith, distance_is d)))

pub overflow_sub-result : goal.overflow_sub-result
overflow_sub-result c =
    let a = c.before.before.before in
    let k = whole a in
    fits (omega (arith, signed, range k, (start a).requires.least a.nearest_place-place.result a.nearest_place-place.ensures.0))

pub returns-then-width-lt0 : goal.returns-then-width-lt0
returns-then-width-lt0 c =
    let d = c.before.before in
    let a = d.before in
    is (overflow_sub-result c) ∙ ap (λ (z : ℤ). pos 0 -ℤ z) (is (whole a)) ∙ +ℤ_idl (neg_ℤ (standard a))
    ∙ sym (settles a ∙ settled-neg (start a).args.width (standard a) (not-zero a) (omega (arith, distance_is d)) (omega (arith, signed)))

pub returns : goal.returns
returns c =
    let d = c.before.before in
    let a = d.before in
    is (whole a) ∙ sym (settles a ∙ settled-pos (start a).args.width (standard a) (not-zero a) (omega (arith, distance_is d)) (omega (arith, signed)))
