-- `weak_known::contour::contour_same` meets its contract.
use mathlib.Core.Path.{◌≡◌, sym, ◌∙◌}
use mathlib.Core.Bool.{true}
use Rattle.weak_known.specs.Walks.{show_two}
use Rattle.weak_known.proofs.Fitting.{lone-decides, seam-decides, fits-decide}
use Rattle.weak_known.proofs.contour.contour_same.Goals as goal

pub returns-then-not-show_two : goal.returns-then-not-show_two
returns-then-not-show_two c = let a = c.args in
    c.lone_same.ensures
    ∙ lone-decides a.touched.now a.s a.e c.requires.0 c.requires.4 a.before.now a.behind.now
    (sym c.show_two.ensures ∙ c.if-not-show_two.true)

pub seam_same-requires : goal.seam_same-requires
seam_same-requires c =
    let two : let a = c.args in show_two a.before.now a.behind.now a.s a.e ≡ true = sym c.show_two.ensures ∙ c.if-not-show_two.false in
    record {
      s_lt_e = c.requires;
      e_value = two;
    }

pub returns-then-not-seam_same : goal.returns-then-not-seam_same
returns-then-not-seam_same c =
    let two : let a = c.args in show_two a.before.now a.behind.now a.s a.e ≡ true = sym c.show_two.ensures ∙ c.if-not-show_two.false in
    let a = c.args in
    seam-decides a.touched.now a.s a.e c.requires.0 c.requires.4 a.before.now a.behind.now two
    (sym c.seam_same.ensures ∙ c.if-not-seam_same.true)

pub returns : goal.returns
returns c =
    let two : let a = c.args in show_two a.before.now a.behind.now a.s a.e ≡ true = sym c.show_two.ensures ∙ c.if-not-show_two.false in
    let a = c.args in
    c.pairs_same.ensures
    ∙ fits-decide a.touched.now a.s a.e c.requires.0 c.requires.4 a.before.now a.behind.now two
    (sym c.seam_same.ensures ∙ c.if-not-seam_same.false)
