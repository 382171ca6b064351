-- Lists of which the first places are written anew, one after the other, and what is read of the marks meanwhile.
use mathlib.Core.Path.{◌≡◌, refl, sym, ap, ◌∙◌}
use mathlib.Core.Bool.{Bool, true, false, ◌||◌, cond}
use mathlib.Core.List.{List, append-nil}
use mathlib.Core.Logic.{⊎_elim}
use Prim.Native.Nat.{ℕ, ◌+◌, ◌≤◌, ◌<◌}
use native.Mathlib.Nat.{eq-or-lt_of_le}
use native.Mathlib.Omega.{arith}
use borrow.Author.Tests.{lt-ltb}
use lib.IntN.{ℤ}
use lib.ListN.{length, get_or, set, length-set}
use lib.Seq.{ext_get_or, get_or-set_same, get_or-set_other}
use Rattle.axis.specs.declared.edge.Axis.{Axis}
use Rattle.weak_contour.specs.Contour.{at, is_touched}
use Rattle.words.specs.Word.{firsts}
use Rattle.words.proofs.Places.{firsts_at}
use Rattle.words.proofs.Tables.{firsts-length}
use Rattle.strong.specs.declared.place.Place.TheVariants.{Stays}
use Rattle.strong.specs.Strong.{place_of, strong_at}

-- the first i places of `now` are those of a sequence, and the others are as they were
pub record Upto {A : Type 0} (d : A) (f : ℕ → A) (i : ℕ) (old now : List A) : Type 0 where
  pub len : length now ≡ length old
  pub passed : (j : ℕ) → j < i → get_or now j d ≡ f j
  pub ahead : (j : ℕ) → i ≤ j → get_or now j d ≡ get_or old j d

module _ {A : Type 0} (d : A) (f : ℕ → A) where
  pub upto-none : (old : List A) → Upto d f 0 old old
  upto-none old = record { len = refl; passed = λ j h. absurd (omega arith); ahead = λ j h. refl }

  module _ (i : ℕ) (old now : List A) (h : i < length old) (w : Upto d f i old now) where
    -- one more
    pub upto-set : (v : A) → v ≡ f i → Upto d f (i + 1) old (set now i v)
    upto-set v e = record {
      len = length-set now i v ∙ w.len;
      passed = λ j l. ⊎_elim
          (λ (q : j ≡ i). ap (λ (k : ℕ). get_or (set now i v) k d) q ∙ get_or-set_same now i v d (omega (arith, w.len)) ∙ e ∙ ap f (sym q))
          (λ (g : j < i). get_or-set_other now i j v d (omega arith) ∙ w.passed j g)
          (eq-or-lt_of_le (omega arith));
      ahead = λ j l. get_or-set_other now i j v d (omega arith) ∙ w.ahead j (omega arith);
    }

    -- or left as it is
    pub upto-same : get_or old i d ≡ f i → Upto d f (i + 1) old now
    upto-same e = record {
      len = w.len;
      passed =
          λ j l. ⊎_elim (λ (q : j ≡ i). ap (λ (k : ℕ). get_or now k d) q ∙ w.ahead i (omega arith) ∙ e ∙ ap f (sym q)) (λ (g : j < i). w.passed j g)
          (eq-or-lt_of_le (omega arith));
      ahead = λ j l. w.ahead j (omega arith);
    }

  -- all of them
  pub upto_all : (i n : ℕ) (old now : List A) → length old ≡ n → n ≤ i → Upto d f i old now → now ≡ firsts f n
  upto_all i n old now e h w =
      ext_get_or d now (firsts f n) (w.len ∙ e ∙ sym (firsts-length f n))
      (λ j l. w.passed j (omega (arith, w.len, e)) ∙ sym
      (ap (λ (xs : List A). get_or xs j d) (sym (append-nil (firsts f n))) ∙ firsts_at f n j _ d (omega (arith, w.len, e))))

-- ---- points that stay
module _ (t w : List ℕ) (i : ℕ) where
  abbrev pub held : Bool
  held = is_touched t i || is_touched w i

  pub held-touched : (get_or t i 0 ≡ 0 → ⊥) → true ≡ held
  held-touched n = rw (lt-ltb 0 (get_or t i 0) (omega (arith, n)))

  pub held-weak : get_or t i 0 ≡ 0 → (get_or w i 0 ≡ 0 → ⊥) → true ≡ held
  held-weak e n = rw (e, lt-ltb 0 (get_or w i 0) (omega (arith, n)))

  pub held-not : get_or t i 0 ≡ 0 → get_or w i 0 ≡ 0 → false ≡ held
  held-not e g = rw (e, g)

  module _ (axis : Axis) (f o : List ℤ) where
    pub strong-held : held ≡ true → strong_at axis f o t w i ≡ Stays
    unfolding strong_at
    strong-held h = ap (λ (b : Bool). cond b Stays (place_of axis (at f i) (at o i))) h

    pub strong-free : held ≡ false → strong_at axis f o t w i ≡ place_of axis (at f i) (at o i)
    unfolding strong_at
    strong-free h = ap (λ (b : Bool). cond b Stays (place_of axis (at f i) (at o i))) h
