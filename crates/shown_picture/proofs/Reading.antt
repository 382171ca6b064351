-- Rows that are read off the lines of an outline, and counted one behind the other. Assumes nothing.
use mathlib.Core.Path.{◌≡◌, refl, sym, ap, subst, ◌∙◌}
use mathlib.Core.Bool.{Bool, true, false}
use mathlib.Core.List.{List}
use Prim.Native.Nat.{ℕ, zero, suc, ◌+◌, ◌*◌, ◌%◌, ◌≤◌, ◌<◌}
use native.Mathlib.Nat.{mul-le-mul_left, mul-le-mul_right}
use native.Mathlib.Omega.{arith}
use lib.Dec.{ltb}
use lib.ListN.{length, get_or}
use Rattle.weak_contour.specs.Limits.{most_points}
use Rattle.weak.specs.Weak.{ends_hold}
use Rattle.path_trip.specs.Path.{Points}
use Rattle.shown_rows.specs.declared.turns.Counts.{Counts}
use Rattle.shown_rows.specs.Turns.{most_columns, pixel, outer, inner, total, before, window, windows}
use Rattle.shown_rows.specs.Crossing.{centre}
use Rattle.shown_rows.specs.Rows.{black_at, wound, CountsBy, Closed}
use Rattle.shown_rows.proofs.Euler.{total-few, total-more, before_more, pixel-one, outer_one, inner-one}
use Rattle.shown.specs.Shown.{lines_of, ups, downs}
use Rattle.shown_lines.specs.Lines.{field_half, Wound}
use Rattle.shown.proofs.Counts.{framed-counts}
use Rattle.shown.proofs.Limits.{total-most}
use Rattle.shown_picture.specs.declared.window.Window.{Window}
use Rattle.shown_picture.specs.Window.{picture, Bounds}
use Rattle.shown_picture.specs.Rows.{most_count, Small, Sum, White, Cleared, row_from, RowRead, shifted, rows_to, RowsRead, PictureCounted}
use Rattle.shown.proofs.Told.{black-told}

-- ---- totals
total-same : (f g : ℕ → ℕ) (n : ℕ) → ((i : ℕ) → i < n → f i ≡ g i) → total f n ≡ total g n
unfolding total
total-same f g zero h = refl
total-same f g (suc n) h = let p = total-same f g n (λ i l. h i (omega arith)) in let q = h n (omega arith) in λ i. p i + q i

white-total : (l : List ℕ) → White l → (n : ℕ) → total (λ k. get_or l k 0) n ≡ 0
unfolding total
white-total l h zero = refl
white-total l h (suc n) = omega (arith, white-total l h n, h n)

-- ---- rows that are alike
before_same : (f g : ℕ → Bool) (n : ℕ) → ((i : ℕ) → i < n → f i ≡ g i) → (i : ℕ) → i < n → before f i ≡ before g i
before_same f g n h zero l = refl
before_same f g n h (suc i) l = h i (omega arith)

module _ (a b c d : ℕ → Bool) (n : ℕ) (p : (i : ℕ) → i < n → a i ≡ b i) (q : (i : ℕ) → i < n → c i ≡ d i) where
  windows-same : (f : Bool → Bool → Bool → Bool → ℕ) → windows f a c n ≡ windows f b d n
  windows-same f =
      total-same (window f a c) (window f b d) n
      (λ i l. let x = before_same a b n p i l in let y = p i l in let z = before_same c d n q i l in let t = q i l in λ k. f (x k) (y k) (z k) (t k))

  pub counts_same : {r : Counts} → CountsBy (λ f. windows f a c n) r → CountsBy (λ f. windows f b d n) r
  counts_same w = record { black = w.black ∙ windows-same pixel; outers = w.outers ∙ windows-same outer; inners = w.inners ∙ windows-same (λ _. inner) }

-- ---- one row
module _ (m : ℕ) (o : Points) (es : List ℕ) (few : length o.xs ≤ most_points) (ends : ends_hold 0 (length o.xs) es ≡ true) (left row : ℕ)
    (l l₁ l₂ : List ℕ) (c : Cleared l l₁)
    (w : Wound (lines_of field_half m o 0 es) left (centre row) l₁ l₂) where
  -- what winds is told by the changes
  wound-picture : (i : ℕ) → i < length l → wound l₂ i ≡ picture m o es (left + i) row
  wound-picture i h =
      let u = ups (lines_of field_half m o 0 es) (centre (left + i)) (centre row) in
      let v = downs (lines_of field_half m o 0 es) (centre (left + i)) (centre row) in
      let z = white-total l₁ c.none (suc i) in
      let s = w.sums i (omega (arith, c.as_long)) in
      ap (ltb 0) (s ∙ ap (λ (x : ℕ). (x + u + 65535 * v) % 65536) z ∙ ap (λ (x : ℕ). (x + 65535 * v) % 65536) (let e : 0 + u ≡ u = omega arith in e))
      ∙ sym (black-told field_half m o (length o.xs) es few ends (left + i) row)

  pub row_read : {below below' : List ℕ} {r : Counts} → Closed below l₂ r below' → RowRead (row_from (picture m o es) left row) below (length l) r below'
  row_read {below} {below'} {r} k =
      let e : length l₂ ≡ length l = w.as_long ∙ c.as_long in
      record {
        as_long = k.over.as_long;
        over = λ i h. k.over.here i (omega (arith, e)) ∙ wound-picture i h;
        counts =
            counts_same (black_at below) (black_at below) (wound l₂) (row_from (picture m o es) left row) (length l) (λ i h. refl) wound-picture
            (subst (λ (n : ℕ). CountsBy (λ f. windows f (black_at below) (wound l₂) n) r) e k.counts);
      }

-- a white row
pub white-read : (here : ℕ → Bool) → ((i : ℕ) → here i ≡ false) → {l l₁ : List ℕ} → Cleared l l₁ → {below below' : List ℕ} {r : Counts}
    → Closed below l₁ r below'
    → RowRead here below (length l) r below'
white-read here h {l} {l₁} c {below} {below'} {r} k =
    let none : (i : ℕ) → i < length l → wound l₁ i ≡ here i = λ i g. ap (λ (x : ℕ). ltb 0 (x % 65536)) (white-total l₁ c.none (suc i)) ∙ sym (h i) in
    record {
      as_long = k.over.as_long;
      over = λ i g. k.over.here i (omega (arith, c.as_long)) ∙ none i g;
      counts =
          counts_same (black_at below) (black_at below) (wound l₁) here (length l) (λ i g. refl) none
          (subst (λ (n : ℕ). CountsBy (λ f. windows f (black_at below) (wound l₁) n) r) c.as_long k.counts);
    }

-- ---- rows one behind the other
-- the row below row j, as the code has it
abbrev pub Lower : (ℕ → ℕ → Bool) → ℕ → ℕ → List ℕ → Type 0
Lower p n j below = (i : ℕ) → i < n → black_at below i ≡ before (p i) j

pub lower-none : (p : ℕ → ℕ → Bool) (n : ℕ) (below : List ℕ) → White below → Lower p n 0 below
lower-none p n below w i h = ap (ltb 0) (w i)

pub rows_none : (p : ℕ → ℕ → Bool) (n : ℕ) → CountsBy (λ f. rows_to f p n 0) (record { black = 0; outer = 0; inner = 0 })
unfolding total
rows_none p n = record { black = refl; outers = refl; inners = refl }

module _ (p : ℕ → ℕ → Bool) (n j : ℕ) (here : ℕ → Bool) (same : (i : ℕ) → here i ≡ p i j) {below below' : List ℕ} {r : Counts}
    (d : RowRead here below n r below') where
  pub lower-more : Lower p n (j + 1) below'
  lower-more i h = d.over i h ∙ same i ∙ before_more (p i) j

  pub rows_more : Lower p n j below → {a : Counts} → CountsBy (λ f. rows_to f p n j) a → {s : Counts} → Sum a r s → CountsBy (λ f. rows_to f p n (j + 1)) s
  rows_more w {a} c {s} t =
      let k = counts_same (black_at below) (λ i. before (p i) j) here (λ i. p i j) n w (λ i h. same i) d.counts in
      record {
        black = t.blacks ∙ total-more (λ j. windows pixel (λ i. before (p i) j) (λ i. p i j) n) j _ _ c.black k.black;
        outers = t.outers ∙ total-more (λ j. windows outer (λ i. before (p i) j) (λ i. p i j) n) j _ _ c.outers k.outers;
        inners = t.inners ∙ total-more (λ j. windows (λ _. inner) (λ i. before (p i) j) (λ i. p i j) n) j _ _ c.inners k.inners;
      }

-- all rows of a window
pub rows-read : (b : ℕ → ℕ → Bool) (w : Window) {j : ℕ} {r : Counts} → j ≡ w.rows
    → CountsBy (λ f. rows_to f (shifted b w.left w.low) (w.columns + 1) (j + 1)) r → RowsRead b w r
rows-read b w {j} {r} e c =
    let n : w.columns + 1 ≡ suc w.columns = omega arith in
    let m : j + 1 ≡ suc w.rows = omega arith in
    record {
      counts = subst (λ (k : ℕ). CountsBy (λ f. rows_to f (shifted b w.left w.low) k (suc w.rows)) r) n
          (subst (λ (k : ℕ). CountsBy (λ f. rows_to f (shifted b w.left w.low) (w.columns + 1) k) r) m c);
    }

-- the whole field, of which the rest is white
pub picture-counted : (b : ℕ → ℕ → Bool) (w : Window) {r : Counts} → Bounds b w → RowsRead b w r → PictureCounted b r
picture-counted b w h k =
    let n : w.left + w.columns < most_columns = omega (arith, h.wide) in
    let m : w.low + w.rows < most_columns = omega (arith, h.high) in
    let c = k.counts in
    record {
      counts = record {
        black = c.black ∙ sym (framed-counts pixel refl b w.left w.columns w.low w.rows h.white most_columns n m);
        outers = c.outers ∙ sym (framed-counts outer refl b w.left w.columns w.low w.rows h.white most_columns n m);
        inners = c.inners ∙ sym (framed-counts (λ _. inner) refl b w.left w.columns w.low w.rows h.white most_columns n m);
      };
    }

-- ---- no count is large
module _ (n : ℕ) where
  pixels-few : (a b : ℕ → Bool) → windows pixel a b n ≤ n
  pixels-few a b = total-few (window pixel a b) (λ i. pixel-one (b i)) n

  outers-few : (a b : ℕ → Bool) → windows outer a b n ≤ n
  outers-few a b = total-few (window outer a b) (λ i. outer_one (before a i) (a i) (before b i) (b i)) n

  inners-few : (a b : ℕ → Bool) → windows (λ _. inner) a b n ≤ n
  inners-few a b = total-few (window (λ _. inner) a b) (λ i. inner-one (a i) (before b i) (b i)) n

  -- of a row
  pub row_small : n ≤ most_columns → (a b : ℕ → Bool) {r : Counts} → CountsBy (λ f. windows f a b n) r → Small most_count r
  row_small h a b c = record {
    blacks = omega (arith, c.black, pixels-few a b);
    outers = omega (arith, c.outers, outers-few a b);
    inners = omega (arith, c.inners, inners-few a b);
  }

  -- of rows
  pub rows-small : n ≤ most_columns → (p : ℕ → ℕ → Bool) (m : ℕ) {r : Counts} → m ≤ most_columns → CountsBy (λ f. rows_to f p n m) r → Small most_count r
  rows-small h p m g c =
      let most : m * n ≤ most_columns * most_columns = omega (arith, mul-le-mul_left m h, mul-le-mul_right most_columns g) in
      record {
        blacks =
            omega (
              arith,
              most,
              c.black,
              total-most (λ j. windows pixel (λ i. before (p i) j) (λ i. p i j) n) n
                  (λ j. pixels-few (λ i. before (p i) j) (λ i. p i j)) m,
            );
        outers =
            omega (
              arith,
              most,
              c.outers,
              total-most (λ j. windows outer (λ i. before (p i) j) (λ i. p i j) n) n
                  (λ j. outers-few (λ i. before (p i) j) (λ i. p i j)) m,
            );
        inners =
            omega (
              arith,
              most,
              c.inners,
              total-most (λ j. windows (λ _. inner) (λ i. before (p i) j) (λ i. p i j) n) n
                  (λ j. inners-few (λ i. before (p i) j) (λ i. p i j)) m,
            );
      }
