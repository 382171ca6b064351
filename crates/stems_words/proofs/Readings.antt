-- What a visit decides by what is read of its edges is what it decides by the edges.
use Rattle.std.specs.Prelude.{None, Some}
use mathlib.Core.Path.{◌≡◌, refl}
use mathlib.Core.Bool.{Bool}
use mathlib.Core.List.{List}
use lib.IntN.{ℤ}
use Rattle.axis.specs.Link.{Link}
use Rattle.axis.specs.Link.{Blue}
use Rattle.axis.specs.declared.kinds.Group.{Group}
use Rattle.axis.specs.declared.kinds.Group.TheVariants.{Default, Cjk}
use Rattle.axis.specs.declared.edge.Edge.{Edge}
use Rattle.stems_cjk.specs.Cjk.{stem_of}
use Rattle.stems.specs.declared.kinds.Mode.{Mode}
use Rattle.stems.specs.Last.{LastStem}
use Rattle.stems.specs.declared.kinds.Trail.{Trail}
use Rattle.stems.specs.Visit.{is_close, too_close}
use Rattle.stems.specs.Plan.{anchored_plan, free_plan, latin_plan, stem_plan, cjk_plan, group_plan, zone_plan, plan_of}
use Rattle.words_edge.specs.Whole.{reduced}

-- whether a stem is too close
pub close-reads : (g : Group) (l : LastStem) (e e2 : Edge) → too_close g l (reduced e) (reduced e2) ≡ too_close g l e e2
unfolding too_close is_close
close-reads Default l e e2 = refl
close-reads Cjk None e e2 = refl
close-reads Cjk (Some z) e e2 = refl

-- the plan
module _ (m : Mode) (xs : List ℤ) (e e2 a : Edge) (anchor : Link) (before : Bool) (t : Trail) where
  latin-reads : (l : Link) → latin_plan m.rule xs (reduced e) (reduced e2) (reduced a) l t ≡ latin_plan m.rule xs e e2 a l t
  unfolding latin_plan free_plan anchored_plan
  latin-reads None = refl
  latin-reads (Some k) = refl

  cjk-reads : cjk_plan m xs (reduced e) (reduced e2) anchor before t ≡ cjk_plan m xs e e2 anchor before t
  unfolding cjk_plan stem_plan stem_of
  cjk-reads = refl

  group_reads : (g : Group) → group_plan g m xs (reduced e) (reduced e2) (reduced a) anchor before t ≡ group_plan g m xs e e2 a anchor before t
  unfolding group_plan
  group_reads Default = latin-reads anchor
  group_reads Cjk = cjk-reads

  zone-reads : (b : Blue) → zone_plan b m xs (reduced e) (reduced e2) (reduced a) anchor before t ≡ zone_plan b m xs e e2 a anchor before t
  unfolding zone_plan
  zone-reads None = group_reads m.group
  zone-reads (Some z) = refl

  pub plan-reads : plan_of m xs (reduced e) (reduced e2) (reduced a) anchor before t ≡ plan_of m xs e e2 a anchor before t
  plan-reads = zone-reads e2.blue
