-- Which plan an edge is placed by, with the fallback for a link that has a zone and without it.
use Rattle.std.specs.Prelude.{None, Some}
use mathlib.Core.Path.{◌≡◌, refl, sym, ap}
use mathlib.Core.Bool.{Bool, true, false, ◌&&◌}
use mathlib.Core.List.{List}
use lib.IntN.{ℤ}
use Rattle.signed.proofs.Choices.{clash}
use Rattle.axis.specs.Link.{Blue}
use Rattle.axis.specs.Link.{Link}
use Rattle.axis.specs.declared.edge.Edge.{Edge}
use Rattle.axis.specs.Edge.{has_blue}
use Rattle.stems.specs.declared.kinds.Mode.{Mode}
use Rattle.stems.specs.declared.kinds.Trail.{Trail}
use Rattle.stems.specs.Plan.{linked_plan, group_plan, zone_plan}

module _ (m : Mode) (xs : List ℤ) (e e2 a : Edge) (anchor : Link) (before : Bool) (trail : Trail) where
  -- it falls back
  pub by-link : (fallback : Bool) (b : Blue) → (fallback && has_blue b) ≡ true → linked_plan m.rule xs e e2 trail ≡ zone_plan b m xs e e2 a anchor before trail
  unfolding zone_plan has_blue
  by-link true (Some z) h = refl
  by-link true None h = absurd (clash false refl h)
  by-link false b h = absurd (clash false refl h)

  -- it does not
  pub by-group : (fallback : Bool) (b : Blue) → (fallback ≡ false → b ≡ None) → (fallback && has_blue b) ≡ false
      → group_plan m.group m xs e e2 a anchor before trail ≡ zone_plan b m xs e e2 a anchor before trail
  unfolding zone_plan has_blue
  by-group true None q h = refl
  by-group true (Some z) q h = absurd (clash true h refl)
  by-group false b q h = ap (λ (x : Blue). zone_plan x m xs e e2 a anchor before trail) (sym (q refl))
