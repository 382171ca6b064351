-- `weak_known::contour::seam_same` meets its contract.
use native.Mathlib.Omega.{arith}
use mathlib.Core.Path.{◌≡◌, refl, ap, ◌∙◌}
use Prim.Native.Nat.{ℕ}
use lib.ListN.{get_or}
use Rattle.weak_known.specs.Walks.{first_shown, last_shown}
use Rattle.weak_known.proofs.Fitting.{shown-in, seam-not, seam-by}
use Rattle.weak_known.proofs.contour.seam_same.Goals as goal

pub bounds-touched-from : goal.bounds-touched-from
bounds-touched-from c =
    let first_is : c.shown-first.result ≡ first_shown c.args.behind.now c.args.s = c.shown-first.ensures in
    let a = c.args in
    omega (
      arith,
      c.from.ensures,
      first_is,
      shown-in a.touched.now a.s a.e c.requires.s_lt_e.0 c.requires.s_lt_e.4 a.before.now
          a.behind.now c.requires.e_value,
    )

pub returns-then-touched-from-eq0 : goal.returns-then-touched-from-eq0
returns-then-touched-from-eq0 c =
    let first_is : c.shown-first.result ≡ first_shown c.args.behind.now c.args.s = c.shown-first.ensures in
    let a = c.args in
    seam-not a.before.now a.behind.now a.s a.e a.touched.now _ (c.from.ensures ∙ first_is) c.if-touched-from-eq0.true

pub returns : goal.returns
returns c =
    let first_is : c.shown-first.result ≡ first_shown c.args.behind.now c.args.s = c.shown-first.ensures in
    let last_is : c.shown-last.result ≡ last_shown c.args.before.now c.args.e = c.shown-last.ensures in
    let a = c.args in
    seam-by a.before.now a.behind.now a.s a.e a.touched.now _ _ _ _ _ _ first_is last_is
    (λ z. c.if-touched-from-eq0.false (ap (λ (k : ℕ). get_or a.touched.now k 0) c.from.ensures ∙ z))
    c.number.ensures c.number-2.ensures refl refl
