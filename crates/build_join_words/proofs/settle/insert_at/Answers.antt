-- `build_join_words::settle::insert_at` meets its contract: what is left to move gives the whole.
use mathlib.Core.Path.{◌≡◌, refl, sym, ap, ◌∙◌}
use Prim.Native.Nat.{ℕ, ◌+◌, ◌-◌, ◌<◌}
use native.Mathlib.Omega.{arith}
use lib.IntN.{ℤ, pos}
use lib.ListN.{get_or}
use mir.Syntax.{w16}
use mir.Val.{to_z, of_z}
use Rattle.signed.proofs.Signed.{is, got}
use Rattle.build_join_words.specs.Lists.{insert_at}
use Rattle.build_join_words.proofs.Inserting.{insert-on, insert-end}
use Rattle.build_join_words.proofs.settle.insert_at.Goals as goal

pub loop-below-init : goal.loop-below-init
loop-below-init c = (omega arith, refl, refl, refl)

pub loop-below-preserved : goal.loop-below-preserved
loop-below-preserved c =
    let o = c.loop-below in
    let h : c.args.at < o.below = omega arith in
    let behind : o.below - 1 + 1 ≡ o.below = omega arith in (
      omega arith,
      rw behind (insert-on _ _ _ _ _ _ h (is (got w16 (get_or o.places (o.below - 1) (pos 0)) c.places-1.given)) ∙ o.invariant.1),
      rw behind (insert-on _ _ _ _ _ _ h refl ∙ o.invariant.2),
      rw behind (insert-on _ _ _ _ _ _ h refl ∙ o.invariant.3),
    )

pub returns : goal.returns
returns c =
    let g = c.args in
    let o = c.loop-below.invariant in
    let all : g.at ≡ c.loop-below.below = omega arith in
    record {
      positions =
          sym (insert-end _ _ _ g.at g.at (omega arith)) ∙ ap (λ (k : ℕ). insert_at (pos 0) (to_z w16 (of_z w16 g.place)) c.loop-below.places g.at k) all ∙ o.1
          ∙ ap (λ (z : ℤ). insert_at (pos 0) z g.places.now g.at g.count) (is c.ranges.place);
      firsts = sym (insert-end _ _ _ g.at g.at (omega arith)) ∙ ap (insert_at 0 g.i c.loop-below.first g.at) all ∙ o.2;
      lasts = sym (insert-end _ _ _ g.at g.at (omega arith)) ∙ ap (insert_at 0 g.i c.loop-below.last g.at) all ∙ o.3;
    }
