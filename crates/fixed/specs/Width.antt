-- The width rule: Keep, and Snap over a list of standard widths.
use Rattle.std.specs.Prelude.{◌≡◌, Bool, true, cond, ◌&&◌, ◌||◌, List, [], ◌∷◌, ℕ, ◌+◌, ◌≤◌, ◌<◌, max, ltb, leb, eqb, length, get_or, ℤ, pos, negsuc, neg_ℤ, nat_abs, ◌≤ℤ◌, ◌<ℤ◌}
use Rattle.std.specs.Int.Signed.{lt_z, le_z}
use Rattle.signed.specs.Distance.{distance}
use Rattle.fixed.specs.declared.width.WidthRule.{WidthRule}
use Rattle.fixed.specs.declared.width.WidthRule.TheVariants.{Keep, Snap}

-- ---- limits
-- standards of a list: 0 to 16
abbrev pub most_standards : ℕ
most_standards = 16

-- a standard: 1 to 16,383 units
abbrev pub most_standard : ℕ
most_standard = 16383

-- how far from a width the standard may be that it snaps to: 0 to 16 units
abbrev pub most_away : ℕ
most_away = 16

-- what a snapped width is at the least, unless it is 0: a pixel
abbrev pub one_pixel : ℕ
one_pixel = 64

-- ---- the list's own rule
-- strictly rising from above b, each at most its limit
unfoldable pub rises_from : ℤ → List ℤ → Bool
rises_from b [] = true
rises_from b (x ∷ xs) = lt_z b x && (le_z x (pos most_standard) && rises_from x xs)

-- no more than their limit, strictly rising, each 1 to its limit
unfoldable pub standards_hold : List ℤ → Bool
standards_hold xs = leb (length xs) most_standards && rises_from (pos 0) xs

-- Keep has no list to break
unfoldable pub rule_holds : WidthRule → List ℤ → Bool
rule_holds Keep xs = true
rule_holds Snap xs = standards_hold xs

-- what `standards_hold` says, as facts: `holds-is` and `is-holds` show that it is the same
pub record Standards (xs : List ℤ) : Type 0 where
  pub few : length xs ≤ most_standards
  pub least : (i : ℕ) → i < length xs → pos 1 ≤ℤ get_or xs i (pos 0)
  pub most : (i : ℕ) → i < length xs → get_or xs i (pos 0) ≤ℤ pos most_standard
  pub rising : (i j : ℕ) → i < j → j < length xs → get_or xs i (pos 0) <ℤ get_or xs j (pos 0)

-- ---- the nearest standard
-- how far the standard s is from the magnitude m
abbrev pub away : ℕ → ℤ → ℕ
away m s = distance s (pos m)

-- t is not nearer to m than s, and not smaller where it is equally near
unfoldable pub no_better : ℕ → ℤ → ℤ → Bool
no_better m s t = ltb (away m s) (away m t) || (eqb (away m s) (away m t) && le_z s t)

-- s is such that no standard of the list is nearer to m and no equally near one is smaller
unfoldable pub is_nearest : ℕ → List ℤ → ℤ → Bool
is_nearest m [] s = true
is_nearest m (t ∷ ts) s = no_better m s t && is_nearest m ts s

-- the standard of the list that passes a test, the first where several do, 0 where none does
unfoldable pub standard_that : (ℤ → Bool) → List ℤ → ℤ
standard_that p [] = pos 0
standard_that p (x ∷ xs) = cond (p x) x (standard_that p xs)

-- the standard nearest to m, the smaller on a tie
unfoldable pub nearest : ℕ → List ℤ → ℤ
nearest m xs = standard_that (is_nearest m xs) xs

-- what `nearest` gives, as facts: `nearest-is` shows that it does so for every list that keeps its rule but the empty one, and `nearest-only` that nothing else
-- has them
pub record Nearest (xs : List ℤ) (m : ℕ) (s : ℤ) : Type 0 where
  pub place : ℕ
  pub inside : place < length xs
  pub there : get_or xs place (pos 0) ≡ s
  pub none_nearer : (i : ℕ) → i < length xs → away m s ≤ away m (get_or xs i (pos 0))
  pub smaller_on_a_tie : (i : ℕ) → i < length xs → away m s ≡ away m (get_or xs i (pos 0)) → s ≤ℤ get_or xs i (pos 0)

-- ---- the rule
-- the standard s with the sign of the width
unfoldable pub with_sign : ℤ → ℤ → ℤ
with_sign (pos n) s = s
with_sign (negsuc n) s = neg_ℤ s

-- the standard s where it is near enough to the width's magnitude, else the width itself; width 0 stays 0
unfoldable pub settled : ℤ → ℤ → ℤ
settled w s = cond (eqb (nat_abs w) 0) w (cond (leb (away (nat_abs w) s) most_away) (with_sign w s) w)

-- an empty list changes no width
unfoldable pub snapped : List ℤ → ℤ → ℤ
snapped [] w = w
snapped (x ∷ xs) w = settled w (nearest (nat_abs w) (x ∷ xs))

-- a nonzero magnitude below a pixel becomes a pixel, with the same sign; 0 stays 0
unfoldable pub lifted : ℤ → ℤ
lifted w = cond (eqb (nat_abs w) 0) w (cond (ltb (nat_abs w) one_pixel) (with_sign w (pos one_pixel)) w)

-- the fitted width: Keep leaves it, Snap lifts what it has snapped
unfoldable pub fitted_width : WidthRule → List ℤ → ℤ → ℤ
fitted_width Keep xs w = w
fitted_width Snap xs w = lifted (snapped xs w)

-- ---- what a fitted width is to the width
-- r has the sign of the width w and is 0 exactly where w is; it is at most a pixel, or 16 units more than w, and differs from w by less than a pixel
pub record Fitted (w r : ℤ) : Type 0 where
  pub size : ℕ
  pub signed : r ≡ with_sign w (pos size)
  pub zero : nat_abs w ≡ 0 → size ≡ 0
  pub nonzero : 0 < nat_abs w → 0 < size
  pub most : size ≤ max one_pixel (nat_abs w + most_away)
  pub not_above : size < nat_abs w + one_pixel
  pub not_below : nat_abs w < size + one_pixel
