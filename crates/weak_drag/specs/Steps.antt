-- What the steps of a drag promise each other. A contour is from s up to e.
use Rattle.std.specs.Prelude.{◌≡◌, true, false, List, ◌⊎◌, ℕ, ◌≤◌, ◌<◌, length, get_or, ℤ}
use Rattle.weak_contour.specs.Contour.{at, refs, references, weak_at, steep_by}
use Rattle.weak_known.specs.Walks.{contour}
use Rattle.weak_drag.specs.Drag.{is_reference, dragged_at}

-- the point i lies behind a and in front of b on the way around the contour: between them, or, where b is not behind a, behind a up to the end, or in front of b from the start on
abbrev pub InArc : ℕ → ℕ → ℕ → ℕ → ℕ → Type 0
InArc s e a b i = ((a < i) × (i < b)) ⊎ (((b ≤ a) × ((a < i) × (i < e))) ⊎ ((b ≤ a) × ((s ≤ i) × (i < b))))

-- a and b are touched points of the contour, and none on the way from a to b is
pub record Arc (t : List ℕ) (s e a b : ℕ) : Type 0 where
  pub from_low : s ≤ a
  pub from_high : a < e
  pub from_mark : 0 < get_or t a 0
  pub to_low : s ≤ b
  pub to_high : b < e
  pub to_mark : 0 < get_or t b 0
  pub clear : (i : ℕ) → InArc s e a b i → get_or t i 0 ≡ 0

-- none of the arc's points is too steep for its ends as references
abbrev pub GentleArc : List ℤ → List ℤ → ℕ → ℕ → ℕ → ℕ → Type 0
GentleArc o c s e a b = (i : ℕ) → InArc s e a b i → steep_by o c (refs a b) i ≡ false

-- d is c with f i at each point i of the arc
pub record ArcWrote (f : ℕ → ℤ) (s e a b : ℕ) (c d : List ℤ) : Type 0 where
  pub len : length d ≡ length c
  pub inside : (i : ℕ) → InArc s e a b i → at d i ≡ f i
  pub outside : (i : ℕ) → (InArc s e a b i → ⊥) → at d i ≡ at c i

-- the point i of the contour depends on p
pub record DependsOn (t : List ℕ) (s e p i : ℕ) : Type 0 where
  pub low : s ≤ i
  pub high : i < e
  pub free : get_or t i 0 ≡ 0
  pub refers : is_reference p (references t (contour s e) i) ≡ true

-- d is c with the contour's points that depend on p aligned
pub record Refitted (o c : List ℤ) (t : List ℕ) (s e p : ℕ) (d : List ℤ) : Type 0 where
  pub len : length d ≡ length c
  pub moved : (i : ℕ) → DependsOn t s e p i → at d i ≡ weak_at o c t (contour s e) i
  pub kept : (i : ℕ) → (DependsOn t s e p i → ⊥) → at d i ≡ at c i

-- d is c with each point that depends on p aligned
pub record DragDone (o c : List ℤ) (t es : List ℕ) (p : ℕ) (d : List ℤ) : Type 0 where
  pub len : length d ≡ length c
  pub each : (i : ℕ) → i < length c → at d i ≡ dragged_at o c t es p i
