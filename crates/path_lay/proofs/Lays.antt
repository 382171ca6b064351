-- A path in lent lists: one step at a time, and the steps of a walk.
use mathlib.Core.Path.{◌≡◌, refl, sym, ap, ◌∙◌, subst}
use mathlib.Core.List.{List, [], ◌∷◌, ◌++◌}
use Prim.Native.Nat.{ℕ, ◌+◌, ◌-◌, ◌*◌, ◌≤◌}
use native.Mathlib.Omega.{arith}
use lib.Ieee.{Float}
use lib.ListN.{length, set, length-set, length-append}
use Rattle.path_places.specs.declared.PixelPoint.{PixelPoint}
use Rattle.path_trip.specs.declared.step.PathStep.{PathStep}
use Rattle.path_trip.specs.Numbers.{kind_of, first_of, second_of}
use Rattle.path_lay.specs.Laying.{Lists, lent, placed_at, laid, lay, Room}

-- one step
pub laid-is : (ks : List ℕ) (ps : List Float) (n : ℕ) (s : PathStep) (kind : ℕ) (p q : PixelPoint) (ks' : List ℕ) (ps' : List Float)
    → (ks' ≡ set ks n kind) × (ps' ≡ placed_at (placed_at ps (4 * n) p) (4 * n + 2) q)
    → kind ≡ kind_of s → p ≡ first_of s → q ≡ second_of s → lent ks' ps' (n + 1) ≡ laid (lent ks ps n) s
unfolding laid
laid-is ks ps n s kind p q ks' ps' e k f g =
    λ i. lent ((e.0 ∙ ap (set ks n) k) i) ((e.1 ∙ λ j. placed_at (placed_at ps (4 * n) (f j)) (4 * n + 2) (g j)) i) (n + 1)

-- ---- several
-- none
pub lay-none : (l : Lists) → lay l [] ≡ l
unfolding lay
lay-none l = refl

-- one more
pub lay-one : (l : Lists) (s : PathStep) (ss : List PathStep) → lay l (s ∷ ss) ≡ lay (laid l s) ss
unfolding lay
lay-one l s ss = refl

-- one list behind the other
pub lay-more : (p q : List PathStep) (l : Lists) → lay l (p ++ q) ≡ lay (lay l p) q
unfolding lay
lay-more [] q l = refl
lay-more (s ∷ p) q l = lay-more p q (laid l s)

-- ---- how much room is left
-- the kinds stay as many
laid-kinds : (l : Lists) (s : PathStep) → length (laid l s).kinds ≡ length l.kinds
unfolding laid
laid-kinds l s = simp length-set

-- and the numbers
laid-places : (l : Lists) (s : PathStep) → length (laid l s).places ≡ length l.places
unfolding laid
laid-places l s = simp length-set

-- one step more
laid-count : (l : Lists) (s : PathStep) → (laid l s).count ≡ l.count + 1
unfolding laid
laid-count l s = refl

-- room for more is room for less
pub room-less : (l : Lists) (m n : ℕ) → n ≤ m → Room l m → Room l n
room-less l m n h r = record { kinds_room = omega (arith, r.kinds_room); places_room = omega (arith, r.places_room) }

-- what is left behind a step
pub room-laid : (l m : Lists) (s : PathStep) (n : ℕ) → m ≡ laid l s → Room l (n + 1) → Room m n
room-laid l m s n e r =
    subst (λ (x : Lists). Room x n) (sym e)
    (record {
      kinds_room = omega (arith, r.kinds_room, laid-kinds l s, laid-count l s);
      places_room = omega
          (arith, r.places_room, laid-places l s, laid-count l s);
    })

-- and behind several
pub room-lay : (p : List PathStep) (l m : Lists) (n : ℕ) → m ≡ lay l p → Room l (length p + n) → Room m n
unfolding lay
room-lay [] l m n e r = subst (λ (x : Lists). Room x n) (sym e) (room-less l (0 + n) n (omega arith) r)
room-lay (s ∷ p) l m n e r = room-lay p (laid l s) m n e (room-laid l (laid l s) s (length p + n) refl (room-less l _ (length p + n + 1) (omega arith) r))

-- ---- what is left to lay
-- what is left, behind what was laid, gives the whole
pub record Laying (l₀ : Lists) (whole : List PathStep) (l : Lists) (left : List PathStep) : Type 0 where
  pub same : lay l left ≡ lay l₀ whole
  pub room : Room l (length left)
  pub kinds_length : length l.kinds ≡ length l₀.kinds
  pub places_length : length l.places ≡ length l₀.places

-- at first all is left
pub laying : (l : Lists) (whole : List PathStep) → Room l (length whole) → Laying l whole l whole
laying l whole r = record { same = refl; room = r; kinds_length = refl; places_length = refl }

-- the kinds stay as many
lay-kinds : (p : List PathStep) (l : Lists) → length (lay l p).kinds ≡ length l.kinds
unfolding lay
lay-kinds [] l = refl
lay-kinds (s ∷ p) l = lay-kinds p (laid l s) ∙ laid-kinds l s

-- and the numbers
lay-places : (p : List PathStep) (l : Lists) → length (lay l p).places ≡ length l.places
unfolding lay
lay-places [] l = refl
lay-places (s ∷ p) l = lay-places p (laid l s) ∙ laid-places l s

module _ {l₀ : Lists} {whole : List PathStep} {l : Lists} where
  pub laying-as : (p q : List PathStep) → p ≡ q → Laying l₀ whole l p → Laying l₀ whole l q
  laying-as p q e y = subst (λ (x : List PathStep). Laying l₀ whole l x) e y

  pub laying-more : (m : Lists) (p q : List PathStep) → m ≡ lay l p → Laying l₀ whole l (p ++ q) → Laying l₀ whole m q
  laying-more m p q e y =
      record {
        same = ap (λ (x : Lists). lay x q) e ∙ sym (lay-more p q l) ∙ y.same;
        room = room-lay p l m (length q) e (room-less l _ (length p + length q) (omega (arith, length-append p q)) y.room);
        kinds_length = ap (λ (x : Lists). length x.kinds) e ∙ lay-kinds p l ∙ y.kinds_length;
        places_length = ap (λ (x : Lists). length x.places) e ∙ lay-places p l ∙ y.places_length;
      }

  pub laying-one : (m : Lists) (s : PathStep) (q : List PathStep) → m ≡ laid l s → Laying l₀ whole l (s ∷ q) → Laying l₀ whole m q
  laying-one m s q e y = laying-more m (s ∷ []) q (e ∙ sym (lay-one l s [] ∙ lay-none (laid l s))) y

  pub laying-room : (s : PathStep) (q : List PathStep) → Laying l₀ whole l (s ∷ q) → Room l 1
  laying-room s q y = room-less l _ 1 (omega arith) y.room

  pub laying-done : Laying l₀ whole l [] → l ≡ lay l₀ whole
  laying-done y = sym (lay-none l) ∙ y.same
