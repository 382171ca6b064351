-- An edge placed between two lies between their positions, the ends included, where it is between them by the positions that decide: original ones for Latin,
-- font positions for CJK; and of two
-- edges placed so the further one lies no lower, where the two between which they are placed are in order.
use mathlib.Core.Path.{◌≡◌, refl, sym, subst}
use mathlib.Core.Bool.{Bool, true, false, cond}
use mathlib.Core.Logic.{⊎_elim}
use Prim.Native.Nat.{ℕ, ◌+◌, ◌*◌, ◌≤◌, ◌<◌}
use native.Mathlib.Nat.{mul-le-mul_right}
use native.Mathlib.Omega.{arith}
use lib.IntN.{ℤ, pos, ◌+ℤ◌, ◌-ℤ◌}
use lib.Signed.{◌≤ℤ◌}
use Rattle.signed.specs.Parts.{up, dn}
use Rattle.signed.specs.Equality.{eq_z}
use Rattle.signed.proofs.Signed.{signed, add-law, sub-law, one-zero, to-≡, to-≤ℤ, lt-or-le}
use Rattle.signed.proofs.Equality.{eq_z-apart}
use Rattle.signed.proofs.Choices.{cond_cases}
use Rattle.axis.specs.declared.edge.Edge.{Edge}
use Rattle.fixed.specs.Point.{rounded, rounded_z}
use Rattle.fixed.proofs.Rounding.{rounded-grows}
use Rattle.fixed_ratio.specs.Ratio.{mul_div}
use Rattle.fixed_ratio.proofs.Ratios.{Part, part_of}
use Rattle.remaining.specs.declared.kinds.Progress.{Progress}
use Rattle.remaining.specs.Plan.{between_pos, latin_between, cjk_between}

-- z lies between p and q, whichever is above
pub record LiesBetween (p q z : ℤ) : Type 0 where
  pub rising : p ≤ℤ q → (p ≤ℤ z) × (z ≤ℤ q)
  pub falling : q ≤ℤ p → (q ≤ℤ z) × (z ≤ℤ p)

-- a part of the way from p to q lies between them
lies : (p q r : ℤ) → Part (q -ℤ p) r → LiesBetween p q (p +ℤ r)
lies p q r h =
    let u = h.up_most in
    let d = h.dn_most in
    let z = one-zero (q -ℤ p) in
    let s = sub-law q p in
    let a = add-law p r in
    record {
      rising = λ g. (to-≤ℤ p (p +ℤ r) (omega (arith, signed, z, s, a)), to-≤ℤ (p +ℤ r) q (omega (arith, signed, z, s, a)));
      falling = λ g. (to-≤ℤ q (p +ℤ r) (omega (arith, signed, z, s, a)), to-≤ℤ (p +ℤ r) p (omega (arith, signed, z, s, a)));
    }

-- the distance of two positions in order
ahead : (a b : ℤ) → a ≤ℤ b → b -ℤ a ≡ pos (up (b -ℤ a))
ahead a b h = to-≡ (b -ℤ a) (pos (up (b -ℤ a))) (omega (arith, signed, sub-law b a, one-zero (b -ℤ a)))

-- two positions apart are
apart : (a b : ℤ) → eq_z b a ≡ false → 0 < up (b -ℤ a) + dn (b -ℤ a)
apart a b e = ⊎_elim (λ h. h) (λ h. absurd (eq_z-apart b a e (to-≡ b a (omega (arith, sub-law b a))))) (lt-or-le 0 (up (b -ℤ a) + dn (b -ℤ a)))

same_place : (p : ℤ) → p ≤ℤ p
same_place p = to-≤ℤ p p (omega arith)

pub between-lies : (at before_at before_pos after_at after_pos : ℤ) → before_at ≤ℤ at → at ≤ℤ after_at
    → LiesBetween before_pos after_pos (between_pos at before_at before_pos after_at after_pos)
unfolding between_pos
between-lies at b p f q l m =
    cond_cases (LiesBetween p q) (eq_z f b) _ _ (λ t. record { rising = λ h. (same_place p, h); falling = λ h. (h, same_place p) })
    (λ t.
    let far : b ≤ℤ f = to-≤ℤ b f (omega (arith, signed)) in
    let k = up (at -ℤ b) in
    let d = up (f -ℤ b) in
    let some : 0 < d = omega (arith, apart b f t, signed, sub-law f b, one-zero (f -ℤ b)) in
    let less : k ≤ d = omega (arith, signed, sub-law f b, sub-law at b, one-zero (f -ℤ b), one-zero (at -ℤ b)) in
    subst (λ (r : ℤ). LiesBetween p q (p +ℤ r)) (λ i. mul_div (sym (ahead b at l) i) (q -ℤ p) (sym (ahead b f far) i))
    (lies p q _ (part_of k d (q -ℤ p) some less)))

-- ---- two between the same two
part-grows : (k m u d : ℕ) → 0 < d → k ≤ m → mul_div (pos k) (pos u) (pos d) ≤ℤ mul_div (pos m) (pos u) (pos d)
unfolding mul_div rounded_z
part-grows k m u d h l = to-≤ℤ (pos (rounded (k * u) d)) (pos (rounded (m * u) d)) (omega (arith, rounded-grows (k * u) (m * u) d h (mul-le-mul_right u l)))

pub between-grows : (at further before_at before_pos after_at after_pos : ℤ) → before_at ≤ℤ at → at ≤ℤ further → further ≤ℤ after_at → before_pos ≤ℤ after_pos
    → between_pos at before_at before_pos after_at after_pos ≤ℤ between_pos further before_at before_pos after_at after_pos
unfolding between_pos
between-grows at far b p f q l m n r = by (eq_z f b) refl
  where
    ahead-far : b ≤ℤ far
    ahead-far = to-≤ℤ b far (omega (arith, signed))

    ahead_after : b ≤ℤ f
    ahead_after = to-≤ℤ b f (omega (arith, signed))

    by : (t : Bool) → eq_z f b ≡ t → cond t p (p +ℤ mul_div (at -ℤ b) (q -ℤ p) (f -ℤ b)) ≤ℤ cond t p (p +ℤ mul_div (far -ℤ b) (q -ℤ p) (f -ℤ b))
    by true t = same_place p
    by false t =
        let some : 0 < up (f -ℤ b) = omega (arith, apart b f t, signed, sub-law f b, one-zero (f -ℤ b), ahead_after) in
        let less : up (at -ℤ b) ≤ up (far -ℤ b) = omega (arith, signed, sub-law far b, sub-law at b, one-zero (far -ℤ b), one-zero (at -ℤ b)) in
        let grows = part-grows (up (at -ℤ b)) (up (far -ℤ b)) (up (q -ℤ p)) (up (f -ℤ b)) some less in
        let one = mul_div (at -ℤ b) (q -ℤ p) (f -ℤ b) in
        let two = mul_div (far -ℤ b) (q -ℤ p) (f -ℤ b) in
        let more : one ≤ℤ two =
        subst (λ (x : ℤ). x ≤ℤ two) (λ i. mul_div (sym (ahead b at l) i) (sym (ahead p q r) i) (sym (ahead b f ahead_after) i))
        (subst (λ (x : ℤ). mul_div (pos (up (at -ℤ b))) (pos (up (q -ℤ p))) (pos (up (f -ℤ b))) ≤ℤ x)
        (λ i. mul_div (sym (ahead b far ahead-far) i) (sym (ahead p q r) i) (sym (ahead b f ahead_after) i)) grows) in
        to-≤ℤ (p +ℤ one) (p +ℤ two) (omega (arith, signed, more, add-law p one, add-law p two))

-- ---- the edges
module _ (before after e : Edge) (past : Progress) where
  -- Latin's, by original positions
  pub latin-lies : before.opos ≤ℤ e.opos → e.opos ≤ℤ after.opos → LiesBetween before.pos after.pos (latin_between before after e past).pos
  latin-lies l m = between-lies e.opos before.opos before.pos after.opos after.pos l m

  -- CJK's, by font positions
  pub cjk-lies : before.fpos ≤ℤ e.fpos → e.fpos ≤ℤ after.fpos → LiesBetween before.pos after.pos (cjk_between before after e past).pos
  cjk-lies l m = between-lies e.fpos before.fpos before.pos after.fpos after.pos l m
