-- `strong_words::place::place_in` meets its contract: by which rule the point comes to its place.
use native.Mathlib.Omega.{arith}
use mathlib.Core.Path.{◌≡◌, sym, ap, subst, ◌∙◌}
use mathlib.Core.Bool.{Bool, true, false}
use mathlib.Core.List.{List}
use Prim.Native.Nat.{ℕ, ◌-◌, ◌<◌}
use lib.IntN.{ℤ}
use lib.Signed.{le_z, ◌<ℤ◌}
use mir.Syntax.{w32}
use mir.Val.{to_z, of_z}
use Rattle.signed.specs.Range.{Between}
use Rattle.signed.proofs.Signed.{is}
use Rattle.signed.proofs.By.{by₅}
use Rattle.axis.specs.Edge.{edge_at}
use Rattle.axis.specs.Handed.{Short}
use Rattle.axis.specs.Limits.{most_pos}
use Rattle.weak_contour.specs.Steps.{Coordinate}
use Rattle.words.specs.Edge.{edges_in}
use Rattle.words.proofs.Fields.{kept}
use Rattle.words_call.specs.Lent.{edges_of}
use Rattle.words_edge.proofs.Wholes.{edges-len}
use Rattle.strong.specs.declared.place.Place.TheVariants.{At}
use Rattle.strong.specs.Steps.{Around}
use Rattle.strong.specs.Strong.{fpos_at, found, between, with_edge, on_or_before, place_of}
use Rattle.strong.proofs.Places.{place-on, place-before}
use Rattle.strong.proofs.Search.{strictly}
use Rattle.strong_words.proofs.Reading.{fpos-short, asked, none-placed, low-placed, high-placed, inner-placed, is-around}
use Rattle.strong_words.proofs.place.place_in.Goals as goal

-- what a test of u and a font position as the machine reads them told
module _ {u z : ℤ} {t : Bool} (f : ℤ) (a : to_z w32 (of_z w32 u) ≡ u) (b : to_z w32 (of_z w32 f) ≡ z) where
  told-le : le_z (to_z w32 (of_z w32 u)) (to_z w32 (of_z w32 f)) ≡ t → le_z u z ≡ t
  told-le e = sym (λ x. le_z (a x) (b x)) ∙ e

  told-ge : le_z (to_z w32 (of_z w32 f)) (to_z w32 (of_z w32 u)) ≡ t → le_z z u ≡ t
  told-ge e = sym (λ x. le_z (b x) (a x)) ∙ e

-- ---- no edge, or the first one
pub returns-then-n-eq0 : goal.returns-then-n-eq0
returns-then-n-eq0 c = sym (none-placed c.args.words.now c.args.u c.args.v c.if-n-eq0.true)

pub read_fpos-requires : goal.read_fpos-requires
read_fpos-requires c = (c.requires.0, omega (arith, c.if-n-eq0.false))

pub with_edge-requires : goal.with_edge-requires
with_edge-requires c = (c.requires.0, c.requires.1, omega (arith, c.if-n-eq0.false), subst Coordinate (sym (is c.ranges.v)) c.requires.2)

pub returns-then-u-read_fpos : goal.returns-then-u-read_fpos
returns-then-u-read_fpos c =
    c.with_edge.ensures
    ∙ ap (with_edge (edges_of c.args.words.now) 0) (is c.ranges.v)
    ∙ sym (low-placed c.args.words.now c.args.u c.args.v c.if-n-eq0.false (told-le c.read_fpos.result (is c.ranges.u) (kept w32 c.read_fpos.result c.read_fpos.type_inv ∙ c.read_fpos.ensures) c.if-u-read_fpos.true))

-- ---- the last one
pub overflow_sub-n : goal.overflow_sub-n
overflow_sub-n c = omega (arith, c.if-n-eq0.false)

pub read_fpos-requires-2 : goal.read_fpos-requires-2
read_fpos-requires-2 c = (c.requires.0, omega (arith, c.if-n-eq0.false))

pub overflow_sub-n-then-read_fpos-u : goal.overflow_sub-n-then-read_fpos-u
overflow_sub-n-then-read_fpos-u c = omega (arith, c.if-n-eq0.false)

pub with_edge-requires-then-read_fpos-u : goal.with_edge-requires-then-read_fpos-u
with_edge-requires-then-read_fpos-u c = (c.requires.0, c.requires.1, omega (arith, c.if-n-eq0.false), subst Coordinate (sym (is c.ranges.v)) c.requires.2)

pub returns-then-read_fpos-u : goal.returns-then-read_fpos-u
returns-then-read_fpos-u c =
    let ws : List ℤ = c.args.words.now in
    c.with_edge-then-read_fpos-u.ensures
    ∙ ap (with_edge (edges_of ws) (edges_in ws - 1)) (is c.ranges.v)
    ∙ sym (high-placed ws c.args.u c.args.v c.if-n-eq0.false (told-le c.read_fpos.result (is c.ranges.u) (kept w32 c.read_fpos.result c.read_fpos.type_inv ∙ c.read_fpos.ensures) c.if-u-read_fpos.false) (told-ge c.read_fpos-2.result (is c.ranges.u) (kept w32 c.read_fpos-2.result c.read_fpos-2.type_inv ∙ c.read_fpos-2.ensures) c.if-read_fpos-u.true))

-- ---- inside
pub find_edge-k-requires : goal.find_edge-k-requires
find_edge-k-requires c = c.requires.0

pub read_fpos-fpos-requires : goal.read_fpos-fpos-requires
read_fpos-fpos-requires c =
    let ws : List ℤ = c.args.words.now in
    let none : edges_in ws ≡ 0 → ⊥ = c.if-n-eq0.false in
    let above-first : le_z c.args.u (fpos_at (edges_of ws) 0) ≡ false = told-le c.read_fpos.result (is c.ranges.u) (kept w32 c.read_fpos.result c.read_fpos.type_inv ∙ c.read_fpos.ensures) c.if-u-read_fpos.false in
    let below_last : le_z (fpos_at (edges_of ws) (edges_in ws - 1)) c.args.u ≡ false = told-ge c.read_fpos-2.result (is c.ranges.u) (kept w32 c.read_fpos-2.result c.read_fpos-2.type_inv ∙ c.read_fpos-2.ensures) c.if-read_fpos-u.false in
    let found_is : c.find_edge-k.result ≡ found (edges_of ws) c.args.u =
    c.find_edge-k.ensures ∙ ap (found (edges_of ws)) (is c.ranges.u) in
    let is-there : Around (edges_of ws) c.args.u c.find_edge-k.result =
    subst (Around (edges_of ws) c.args.u) (sym found_is) (is-around ws c.args.u c.args.v none above-first below_last) in
    let below : c.find_edge-k.result < edges_in ws = omega (arith, is-there.inside, edges-len ws) in
    (c.requires.0, below)

pub read_pos-pos-requires : goal.read_pos-pos-requires
read_pos-pos-requires c =
    let ws : List ℤ = c.args.words.now in
    let none : edges_in ws ≡ 0 → ⊥ = c.if-n-eq0.false in
    let above-first : le_z c.args.u (fpos_at (edges_of ws) 0) ≡ false = told-le c.read_fpos.result (is c.ranges.u) (kept w32 c.read_fpos.result c.read_fpos.type_inv ∙ c.read_fpos.ensures) c.if-u-read_fpos.false in
    let below_last : le_z (fpos_at (edges_of ws) (edges_in ws - 1)) c.args.u ≡ false = told-ge c.read_fpos-2.result (is c.ranges.u) (kept w32 c.read_fpos-2.result c.read_fpos-2.type_inv ∙ c.read_fpos-2.ensures) c.if-read_fpos-u.false in
    let found_is : c.find_edge-k.result ≡ found (edges_of ws) c.args.u =
    c.find_edge-k.ensures ∙ ap (found (edges_of ws)) (is c.ranges.u) in
    let is-there : Around (edges_of ws) c.args.u c.find_edge-k.result =
    subst (Around (edges_of ws) c.args.u) (sym found_is) (is-around ws c.args.u c.args.v none above-first below_last) in
    let below : c.find_edge-k.result < edges_in ws = omega (arith, is-there.inside, edges-len ws) in
    (c.requires.0, below)

pub returns-then-u-fpos : goal.returns-then-u-fpos
returns-then-u-fpos c =
    let ws : List ℤ = c.args.words.now in
    let none : edges_in ws ≡ 0 → ⊥ = c.if-n-eq0.false in
    let above-first : le_z c.args.u (fpos_at (edges_of ws) 0) ≡ false = told-le c.read_fpos.result (is c.ranges.u) (kept w32 c.read_fpos.result c.read_fpos.type_inv ∙ c.read_fpos.ensures) c.if-u-read_fpos.false in
    let below_last : le_z (fpos_at (edges_of ws) (edges_in ws - 1)) c.args.u ≡ false = told-ge c.read_fpos-2.result (is c.ranges.u) (kept w32 c.read_fpos-2.result c.read_fpos-2.type_inv ∙ c.read_fpos-2.ensures) c.if-read_fpos-u.false in
    let found_is : c.find_edge-k.result ≡ found (edges_of ws) c.args.u =
    c.find_edge-k.ensures ∙ ap (found (edges_of ws)) (is c.ranges.u) in
    let placed : place_of (edges_of ws) c.args.u c.args.v ≡ on_or_before (edges_of ws) c.args.u c.find_edge-k.result =
    inner-placed ws c.args.u c.args.v none above-first below_last ∙ ap (on_or_before (edges_of ws) c.args.u) (sym found_is) in
    let font : to_z w32 (of_z w32 c.read_fpos-fpos.result) ≡ fpos_at (edges_of ws) c.find_edge-k.result =
    kept w32 c.read_fpos-fpos.result c.read_fpos-fpos.type_inv ∙ c.read_fpos-fpos.ensures in
    let position : to_z w32 (of_z w32 c.read_pos-pos.result) ≡ (edge_at (edges_of ws) c.find_edge-k.result).pos =
    kept w32 c.read_pos-pos.result c.read_pos-pos.type_inv ∙ c.read_pos-pos.ensures in
    ap At position
    ∙ sym (placed ∙ place-on (edges_of ws) c.args.u c.find_edge-k.result
    (sym (is c.ranges.u) ∙ ap (to_z w32) c.if-u-fpos.true ∙ font))

-- ---- between two
pub overflow_sub-k : goal.overflow_sub-k
overflow_sub-k c =
    let ws : List ℤ = c.args.words.now in
    let none : edges_in ws ≡ 0 → ⊥ = c.if-n-eq0.false in
    let above-first : le_z c.args.u (fpos_at (edges_of ws) 0) ≡ false = told-le c.read_fpos.result (is c.ranges.u) (kept w32 c.read_fpos.result c.read_fpos.type_inv ∙ c.read_fpos.ensures) c.if-u-read_fpos.false in
    let below_last : le_z (fpos_at (edges_of ws) (edges_in ws - 1)) c.args.u ≡ false = told-ge c.read_fpos-2.result (is c.ranges.u) (kept w32 c.read_fpos-2.result c.read_fpos-2.type_inv ∙ c.read_fpos-2.ensures) c.if-read_fpos-u.false in
    let found_is : c.find_edge-k.result ≡ found (edges_of ws) c.args.u =
    c.find_edge-k.ensures ∙ ap (found (edges_of ws)) (is c.ranges.u) in
    let is-there : Around (edges_of ws) c.args.u c.find_edge-k.result =
    subst (Around (edges_of ws) c.args.u) (sym found_is) (is-around ws c.args.u c.args.v none above-first below_last) in
    omega (arith, is-there.behind_one)

pub read_fpos-requires-3 : goal.read_fpos-requires-3
read_fpos-requires-3 c =
    let ws : List ℤ = c.args.words.now in
    let none : edges_in ws ≡ 0 → ⊥ = c.if-n-eq0.false in
    let above-first : le_z c.args.u (fpos_at (edges_of ws) 0) ≡ false = told-le c.read_fpos.result (is c.ranges.u) (kept w32 c.read_fpos.result c.read_fpos.type_inv ∙ c.read_fpos.ensures) c.if-u-read_fpos.false in
    let below_last : le_z (fpos_at (edges_of ws) (edges_in ws - 1)) c.args.u ≡ false = told-ge c.read_fpos-2.result (is c.ranges.u) (kept w32 c.read_fpos-2.result c.read_fpos-2.type_inv ∙ c.read_fpos-2.ensures) c.if-read_fpos-u.false in
    let found_is : c.find_edge-k.result ≡ found (edges_of ws) c.args.u =
    c.find_edge-k.ensures ∙ ap (found (edges_of ws)) (is c.ranges.u) in
    let is-there : Around (edges_of ws) c.args.u c.find_edge-k.result =
    subst (Around (edges_of ws) c.args.u) (sym found_is) (is-around ws c.args.u c.args.v none above-first below_last) in
    let below : c.find_edge-k.result < edges_in ws = omega (arith, is-there.inside, edges-len ws) in
    (c.requires.0, omega (arith, below))

pub overflow_sub-k-2 : goal.overflow_sub-k-2
overflow_sub-k-2 c =
    let ws : List ℤ = c.args.words.now in
    let none : edges_in ws ≡ 0 → ⊥ = c.if-n-eq0.false in
    let above-first : le_z c.args.u (fpos_at (edges_of ws) 0) ≡ false = told-le c.read_fpos.result (is c.ranges.u) (kept w32 c.read_fpos.result c.read_fpos.type_inv ∙ c.read_fpos.ensures) c.if-u-read_fpos.false in
    let below_last : le_z (fpos_at (edges_of ws) (edges_in ws - 1)) c.args.u ≡ false = told-ge c.read_fpos-2.result (is c.ranges.u) (kept w32 c.read_fpos-2.result c.read_fpos-2.type_inv ∙ c.read_fpos-2.ensures) c.if-read_fpos-u.false in
    let found_is : c.find_edge-k.result ≡ found (edges_of ws) c.args.u =
    c.find_edge-k.ensures ∙ ap (found (edges_of ws)) (is c.ranges.u) in
    let is-there : Around (edges_of ws) c.args.u c.find_edge-k.result =
    subst (Around (edges_of ws) c.args.u) (sym found_is) (is-around ws c.args.u c.args.v none above-first below_last) in
    omega (arith, is-there.behind_one)

pub read_pos-requires : goal.read_pos-requires
read_pos-requires c =
    let ws : List ℤ = c.args.words.now in
    let none : edges_in ws ≡ 0 → ⊥ = c.if-n-eq0.false in
    let above-first : le_z c.args.u (fpos_at (edges_of ws) 0) ≡ false = told-le c.read_fpos.result (is c.ranges.u) (kept w32 c.read_fpos.result c.read_fpos.type_inv ∙ c.read_fpos.ensures) c.if-u-read_fpos.false in
    let below_last : le_z (fpos_at (edges_of ws) (edges_in ws - 1)) c.args.u ≡ false = told-ge c.read_fpos-2.result (is c.ranges.u) (kept w32 c.read_fpos-2.result c.read_fpos-2.type_inv ∙ c.read_fpos-2.ensures) c.if-read_fpos-u.false in
    let found_is : c.find_edge-k.result ≡ found (edges_of ws) c.args.u =
    c.find_edge-k.ensures ∙ ap (found (edges_of ws)) (is c.ranges.u) in
    let is-there : Around (edges_of ws) c.args.u c.find_edge-k.result =
    subst (Around (edges_of ws) c.args.u) (sym found_is) (is-around ws c.args.u c.args.v none above-first below_last) in
    let below : c.find_edge-k.result < edges_in ws = omega (arith, is-there.inside, edges-len ws) in
    (c.requires.0, omega (arith, below))

pub between-requires : goal.between-requires
between-requires c =
    let ws : List ℤ = c.args.words.now in
    let none : edges_in ws ≡ 0 → ⊥ = c.if-n-eq0.false in
    let above-first : le_z c.args.u (fpos_at (edges_of ws) 0) ≡ false = told-le c.read_fpos.result (is c.ranges.u) (kept w32 c.read_fpos.result c.read_fpos.type_inv ∙ c.read_fpos.ensures) c.if-u-read_fpos.false in
    let below_last : le_z (fpos_at (edges_of ws) (edges_in ws - 1)) c.args.u ≡ false = told-ge c.read_fpos-2.result (is c.ranges.u) (kept w32 c.read_fpos-2.result c.read_fpos-2.type_inv ∙ c.read_fpos-2.ensures) c.if-read_fpos-u.false in
    let found_is : c.find_edge-k.result ≡ found (edges_of ws) c.args.u =
    c.find_edge-k.ensures ∙ ap (found (edges_of ws)) (is c.ranges.u) in
    let is-there : Around (edges_of ws) c.args.u c.find_edge-k.result =
    subst (Around (edges_of ws) c.args.u) (sym found_is) (is-around ws c.args.u c.args.v none above-first below_last) in
    let below : c.find_edge-k.result < edges_in ws = omega (arith, is-there.inside, edges-len ws) in
    let short : (j : ℕ) → j < edges_in ws → Short (fpos_at (edges_of ws) j) = λ j h. fpos-short ws j c.requires.0 h in
    let within : (j : ℕ) → j < edges_in ws → Between most_pos most_pos (edge_at (edges_of ws) j).pos =
    λ j h. (c.requires.1.edge j (omega (arith, edges-len ws))).pos in
    let font : to_z w32 (of_z w32 c.read_fpos-fpos.result) ≡ fpos_at (edges_of ws) c.find_edge-k.result =
    kept w32 c.read_fpos-fpos.result c.read_fpos-fpos.type_inv ∙ c.read_fpos-fpos.ensures in
    let position : to_z w32 (of_z w32 c.read_pos-pos.result) ≡ (edge_at (edges_of ws) c.find_edge-k.result).pos =
    kept w32 c.read_pos-pos.result c.read_pos-pos.type_inv ∙ c.read_pos-pos.ensures in
    let apart : c.args.u ≡ fpos_at (edges_of ws) c.find_edge-k.result → ⊥ =
    λ e. c.if-u-fpos.false (ap (of_z w32) (e ∙ sym c.read_fpos-fpos.ensures)) in
    let around : (fpos_at (edges_of ws) (c.find_edge-k.result - 1) <ℤ c.args.u) × (c.args.u <ℤ fpos_at (edges_of ws) c.find_edge-k.result) =
    strictly (edges_of ws) c.args.u c.find_edge-k.result is-there apart in
    let font-before : to_z w32 (of_z w32 c.read_fpos-3.result) ≡ fpos_at (edges_of ws) (c.find_edge-k.result - 1) =
    kept w32 c.read_fpos-3.result c.read_fpos-3.type_inv ∙ c.read_fpos-3.ensures in
    let position-before : to_z w32 (of_z w32 c.read_pos.result) ≡ (edge_at (edges_of ws) (c.find_edge-k.result - 1)).pos =
    kept w32 c.read_pos.result c.read_pos.type_inv ∙ c.read_pos.ensures in
    let i = c.find_edge-k.result in
    let b = around in
    let r = asked (is c.ranges.u) font-before position-before font position
    ((b.0, b.1, short (i - 1) (omega (arith, below)), short i below), (within (i - 1) (omega (arith, below)), within i below)) in
    record { f1_lt_u = r.0; between = r.1 }

pub returns : goal.returns
returns c =
    let ws : List ℤ = c.args.words.now in
    let none : edges_in ws ≡ 0 → ⊥ = c.if-n-eq0.false in
    let above-first : le_z c.args.u (fpos_at (edges_of ws) 0) ≡ false = told-le c.read_fpos.result (is c.ranges.u) (kept w32 c.read_fpos.result c.read_fpos.type_inv ∙ c.read_fpos.ensures) c.if-u-read_fpos.false in
    let below_last : le_z (fpos_at (edges_of ws) (edges_in ws - 1)) c.args.u ≡ false = told-ge c.read_fpos-2.result (is c.ranges.u) (kept w32 c.read_fpos-2.result c.read_fpos-2.type_inv ∙ c.read_fpos-2.ensures) c.if-read_fpos-u.false in
    let found_is : c.find_edge-k.result ≡ found (edges_of ws) c.args.u =
    c.find_edge-k.ensures ∙ ap (found (edges_of ws)) (is c.ranges.u) in
    let placed : place_of (edges_of ws) c.args.u c.args.v ≡ on_or_before (edges_of ws) c.args.u c.find_edge-k.result =
    inner-placed ws c.args.u c.args.v none above-first below_last ∙ ap (on_or_before (edges_of ws) c.args.u) (sym found_is) in
    let font : to_z w32 (of_z w32 c.read_fpos-fpos.result) ≡ fpos_at (edges_of ws) c.find_edge-k.result =
    kept w32 c.read_fpos-fpos.result c.read_fpos-fpos.type_inv ∙ c.read_fpos-fpos.ensures in
    let position : to_z w32 (of_z w32 c.read_pos-pos.result) ≡ (edge_at (edges_of ws) c.find_edge-k.result).pos =
    kept w32 c.read_pos-pos.result c.read_pos-pos.type_inv ∙ c.read_pos-pos.ensures in
    let apart : c.args.u ≡ fpos_at (edges_of ws) c.find_edge-k.result → ⊥ =
    λ e. c.if-u-fpos.false (ap (of_z w32) (e ∙ sym c.read_fpos-fpos.ensures)) in
    let font-before : to_z w32 (of_z w32 c.read_fpos-3.result) ≡ fpos_at (edges_of ws) (c.find_edge-k.result - 1) =
    kept w32 c.read_fpos-3.result c.read_fpos-3.type_inv ∙ c.read_fpos-3.ensures in
    let position-before : to_z w32 (of_z w32 c.read_pos.result) ≡ (edge_at (edges_of ws) (c.find_edge-k.result - 1)).pos =
    kept w32 c.read_pos.result c.read_pos.type_inv ∙ c.read_pos.ensures in
    by₅ between c.between.ensures (is c.ranges.u) font-before position-before font position
    ∙ sym (placed ∙ place-before (edges_of ws) c.args.u c.find_edge-k.result apart)
