-- Words written from a place of a buffer on.
use mathlib.Core.Path.{◌≡◌, refl, sym, ap, ◌∙◌}
use mathlib.Core.List.{List, [], ◌++◌, append_assoc}
use Prim.Native.Nat.{ℕ, ◌+◌, ◌≤◌, ◌<◌}
use native.Mathlib.Numerals.{add-one}
use native.Mathlib.Omega.{arith}
use lib.ListN.{length, get_or, take, drop, set, length-append, length-take, length-set}
use lib.Seq.{take_all, take_at, drop-append-add, drop-drop, paste, paste-zero, paste-suc, length-paste}
use lib.IntN.{ℤ, pos}
use Rattle.words.specs.Word.{written}

-- ---- a loop that writes
-- what it has written so far: the first i words
pub record Pasted (ws out₀ out : List ℤ) (at i : ℕ) : Type 0 where
  pub within : i ≤ length ws
  pub kept : length out ≡ length out₀
  pub so_far : out ≡ paste out₀ at ws i

pub pasted-none : (ws out : List ℤ) (at : ℕ) → Pasted ws out out at 0
pasted-none ws out at = record { within = omega arith; kept = refl; so_far = paste-zero out at ws }

pub pasted-more :
    {ws out₀ out : List ℤ} {at i : ℕ} (w : ℤ) → Pasted ws out₀ out at i → i < length ws → at + length ws ≤ length out₀ → w ≡ get_or ws i (pos 0)
    → Pasted ws out₀ (set out (at + i) w) at (i + 1)
pasted-more {ws} {out₀} {out} {at} {i} w p h room e = record {
  within = omega arith;
  kept = length-set out (at + i) w ∙ p.kept;
  so_far = rw (e, p.so_far, add-one) (paste-suc out₀ at ws i (pos 0) (omega arith) h);
}

pub pasted-all : {ws out₀ out : List ℤ} {at i : ℕ} → Pasted ws out₀ out at i → length ws ≤ i → out ≡ written out₀ at ws
unfolding written
pasted-all {ws} {out₀} {out} {at} {i} p h =
    let e : i ≡ length ws = omega (arith, p.within) in
    p.so_far ∙ rw (e, take_all (length ws) ws (omega arith))

-- ---- what is written
pub written-length : (out ws : List ℤ) (at : ℕ) → at + length ws ≤ length out → length (written out at ws) ≡ length out
unfolding written
written-length out ws at h =
    ap (λ (xs : List ℤ). length (take at out ++ xs ++ drop (at + length ws) out)) (sym (take_all (length ws) ws (omega arith)))
    ∙ length-paste out at ws (length ws) h (omega arith)

-- no word
pub written_none : (out : List ℤ) (at : ℕ) → out ≡ written out at []
unfolding written
written_none out at = paste-zero out at []

-- words behind words
pub written-more : (out xs ys : List ℤ) (at : ℕ) → at + length xs + length ys ≤ length out
    → written (written out at xs) (at + length xs) ys ≡ written out at (xs ++ ys)
unfolding written
written-more out xs ys at h = rw (take_at front rest (at + length xs) front_length, behind, append_assoc (take at out) xs ys, end)
  where
    front : List ℤ
    front = take at out ++ xs

    rest : List ℤ
    rest = drop (at + length xs) out

    front_length : length front ≡ at + length xs
    front_length = simp (length-append, length-take) (omega arith)

    behind : drop (at + length xs + length ys) (front ++ rest) ≡ drop (at + length xs + length ys) out
    behind =
        ap (λ (k : ℕ). drop (k + length ys) (front ++ rest)) (sym front_length) ∙ drop-append-add front rest (length ys)
        ∙ drop-drop (length ys) (at + length xs) out

    end : at + length (xs ++ ys) ≡ at + length xs + length ys
    end = simp length-append (omega arith)

-- words from the front on
pub written-front : (out ws : List ℤ) → written out 0 ws ≡ ws ++ drop (length ws) out
unfolding written
written-front out ws = let q : 0 + length ws ≡ length ws = omega arith in rw q
