-- Segments that are passed over: one law for each way through the tests.
use Rattle.std.specs.Prelude.{None, Some, is_some}
use mathlib.Core.Path.{◌≡◌, refl, ap}
use mathlib.Core.Bool.{Bool, true, false, not}
use lib.IntN.{pos, ◌*ℤ◌}
use lib.Signed.{lt_z}
use Rattle.axis.specs.declared.kinds.Direction.TheVariants as Directions
use Rattle.axis.specs.declared.segment.Segment.{Segment}
use Rattle.axis.specs.Direction.{same}
use Rattle.axis.specs.Link.{Link, is_linked}
use Rattle.build_join.specs.declared.rules.Rules.{Rules}
use Rattle.build_join.specs.Joining.{passed_over, skips}

-- there is a link where the library has one
pub linked-some : (l : Link) → is_linked l ≡ is_some l
linked-some None = refl
linked-some (Some k) = refl

module _ (r : Rules) (s : Segment) where
  pub too_short : lt_z s.height r.length ≡ true → true ≡ passed_over r s
  unfolding passed_over
  too_short h = rw h

  module _ (long : lt_z s.height r.length ≡ false) where
    pub too_wide : lt_z r.width s.delta ≡ true → true ≡ passed_over r s
    unfolding passed_over
    too_wide w = rw (long, w)

    module _ (narrow : lt_z r.width s.delta ≡ false) where
      pub no-direction : same s.dir Directions.None ≡ true → true ≡ passed_over r s
      unfolding passed_over
      no-direction d = rw (long, narrow, d)

      module _ (directed : same s.dir Directions.None ≡ false) where
        pub no_serif : is_linked s.serif ≡ false → false ≡ passed_over r s
        unfolding passed_over
        no_serif l = rw (long, narrow, directed, l)

        pub a-serif : is_linked s.serif ≡ true → (v : Bool) → v ≡ lt_z (s.height *ℤ pos 2) (r.length *ℤ pos 3) → v ≡ passed_over r s
        unfolding passed_over
        a-serif l v e = rw (long, narrow, directed, l) e

  -- the second loop skips those with a direction
  pub skips-directed : (second v : Bool) → second ≡ true → v ≡ same s.dir Directions.None → not v ≡ skips r second s
  unfolding skips
  skips-directed second v h e = rw h (ap not e)

  -- in the first CJK skips none, Latin those that it passes over
  pub skips-none : (second : Bool) → second ≡ false → r.cjk ≡ true → false ≡ skips r second s
  unfolding skips
  skips-none second h g = rw (h, g)

  pub skips-some : (second v : Bool) → second ≡ false → r.cjk ≡ false → v ≡ passed_over r s → v ≡ skips r second s
  unfolding skips passed_over
  skips-some second v h g e = rw (h, g) e
