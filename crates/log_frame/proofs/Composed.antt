-- A frame written piece by piece.
use mathlib.Core.Path.{◌≡◌, refl, sym, ap, ◌∙◌}
use mathlib.Core.List.{List, [], ◌∷◌, ◌++◌}
use Prim.Native.Nat.{ℕ, zero, suc, ◌+◌, ◌*◌, ◌≤◌, ◌<◌}
use native.Mathlib.Numerals.{add-one}
use native.Mathlib.Nat.{mul-le-mul_left}
use native.Mathlib.Omega.{arith}
use lib.ListN.{length, get_or, take, drop, length-append}
use lib.Seq.{take-suc, take_all, length-take-le}
use lib.IntN.{ℤ, pos}
use Rattle.log_digits.specs.Digits.{digits_for, written, high_of, low_of}
use Rattle.log_digits.proofs.Lines.{digits-length}
use Rattle.log_digits.proofs.Writing.{written_none, written-length, written_then, written-front}
use Rattle.log_frame.specs.Limits.{head_size, point_size, frame_size}
use Rattle.log_frame.specs.Frame.{Frame, kind_byte, point_bytes, points_bytes, frame_bytes, frame_digits}
use Rattle.log_frame.specs.Steps.{PointsFit, Writable}

-- ---- the points
module _ (o c : List ℤ) (t : List ℕ) where
  pub points-length : (n : ℕ) → length (points_bytes o c t n) ≡ point_size * n
  unfolding points_bytes point_bytes
  points-length zero = omega arith
  points-length (suc n) = length-append (points_bytes o c t n) (point_bytes o c t n) ∙ omega (arith, points-length n)

  point-size : (i : ℕ) → length (point_bytes o c t i) ≡ point_size
  unfolding point_bytes
  point-size i = refl

  points-next : (i : ℕ) → points_bytes o c t (i + 1) ≡ points_bytes o c t i ++ point_bytes o c t i
  unfolding points_bytes
  points-next i = ap (points_bytes o c t) (add-one i)

  -- what is written of them so far: the first i
  pub record PointsSofar (line₀ line : List ℕ) (i : ℕ) : Type 0 where
    pub within : i ≤ length o
    pub kept : length line ≡ length line₀
    pub so_far : line ≡ written line₀ head_size (points_bytes o c t i)

  -- nothing yet
  pub points_none : (line : List ℕ) → PointsSofar line line 0
  unfolding points_bytes
  points_none line = record { within = omega arith; kept = refl; so_far = written_none line head_size }

  -- one point more
  pub points-more :
      {line₀ line line' : List ℕ} {i : ℕ} → PointsFit o c t (length line₀) → PointsSofar line₀ line i → i < length o
      → line' ≡ written line (head_size + point_size * i) (point_bytes o c t i) → PointsSofar line₀ line' (i + 1)
  points-more {line₀} {line} {line'} {i} fit s h e =
      let now =
      written_then line₀ head_size (head_size + point_size * i) (points_bytes o c t i) (point_bytes o c t i) (omega (arith, points-length i))
      (omega (arith, fit.room, point-size i, mul-le-mul_left point_size h)) s.so_far e
      ∙ ap (written line₀ head_size) (sym (points-next i)) in
      record {
        within = omega arith;
        kept =
            ap length now ∙ written-length line₀ (points_bytes o c t (i + 1)) head_size
            (omega (arith, fit.room, points-length (i + 1), mul-le-mul_left point_size h));
        so_far = now;
      }

  -- all of them
  pub points-all : {line₀ line : List ℕ} {i : ℕ} → PointsSofar line₀ line i → length o ≤ i → line ≡ written line₀ head_size (points_bytes o c t (length o))
  points-all {line₀} {line} {i} s h =
      let e : i ≡ length o = omega (arith, s.within) in s.so_far ∙ ap (λ (n : ℕ). written line₀ head_size (points_bytes o c t n)) e

  -- a point as the code hands it on
  pub point-of :
      (i : ℕ) (line : List ℕ) {last : List ℕ} (at : ℕ) {x y : ℤ} → x ≡ get_or o i (pos 0) → y ≡ get_or c i (pos 0)
      → last ≡ written line at (get_or t i 0 ∷ high_of x ∷ low_of x ∷ high_of y ∷ low_of y ∷ []) → last ≡ written line at (point_bytes o c t i)
  unfolding point_bytes
  point-of i line {last} at {x} {y} p q e = e ∙ (λ j. written line at (get_or t i 0 ∷ high_of (p j) ∷ low_of (p j) ∷ high_of (q j) ∷ low_of (q j) ∷ []))

-- ---- the contour ends
-- what is written of them so far: the first i
pub record EndsSofar (es : List ℕ) (at : ℕ) (line₀ line : List ℕ) (i : ℕ) : Type 0 where
  pub within : i ≤ length es
  pub kept : length line ≡ length line₀
  pub so_far : line ≡ written line₀ at (take i es)

-- nothing yet
pub ends-none : (es : List ℕ) (at : ℕ) (line : List ℕ) → EndsSofar es at line line 0
ends-none es at line = record { within = omega arith; kept = refl; so_far = written_none line at }

-- one end more
pub ends_more :
    {es : List ℕ} {at : ℕ} {line₀ line line' : List ℕ} {i : ℕ} → EndsSofar es at line₀ line i → i < length es → digits_for (at + length es) ≤ length line₀
    → line' ≡ written line (at + i) (get_or es i 0 ∷ []) → EndsSofar es at line₀ line' (i + 1)
ends_more {es} {at} {line₀} {line} {line'} {i} s h room e =
    let taken = length-take-le i es s.within in
    let now =
    written_then line₀ at (at + i) (take i es) (get_or es i 0 ∷ []) (omega (arith, taken)) (omega arith) s.so_far e
    ∙ ap (written line₀ at) (sym (ap (λ (n : ℕ). take n es) (add-one i) ∙ take-suc es i 0 h)) in
    record {
      within = omega arith;
      kept = ap length now ∙ written-length line₀ (take (i + 1) es) at (omega (arith, length-take-le (i + 1) es (omega arith)));
      so_far = now;
    }

-- all of them
pub ends-all : {es : List ℕ} {at : ℕ} {line₀ line : List ℕ} {i : ℕ} → EndsSofar es at line₀ line i → length es ≤ i → line ≡ written line₀ at es
ends-all {es} {at} {line₀} {line} {i} s h = s.so_far ∙ ap (written line₀ at) (take_all i es h)

-- ---- the frame
module _ (f : Frame) where
  -- as many digits as its counts ask for
  pub frame-length : length (frame_digits f) ≡ digits_for (frame_size (length f.originals) (length f.ends))
  unfolding frame_digits frame_bytes
  frame-length =
      let n = length f.originals in
      let points = points_bytes f.originals f.currents f.marks n in
      digits-length (kind_byte ∷ n ∷ length f.ends ∷ (points ++ f.ends))
      ∙ omega (arith, length-append points f.ends, points-length f.originals f.currents f.marks n)

  -- its head, its points and its ends, one behind the other
  pub frame-written :
      (line : List ℕ) {headed pointed left : List ℕ} → Writable f (length line)
      → headed ≡ written line 0 (kind_byte ∷ length f.originals ∷ length f.ends ∷ [])
      → pointed ≡ written headed head_size (points_bytes f.originals f.currents f.marks (length f.originals))
      → left ≡ written pointed (head_size + point_size * length f.originals) f.ends → left ≡ frame_digits f ++ drop (length (frame_digits f)) line
  unfolding frame_digits frame_bytes
  frame-written line {headed} {pointed} {left} w p q r =
      let n = length f.originals in
      let head = kind_byte ∷ n ∷ length f.ends ∷ [] in
      let points = points_bytes f.originals f.currents f.marks n in
      let size = points-length f.originals f.currents f.marks n in
      let both = written_then line 0 head_size head points refl (omega (arith, w.room, size)) p q in
      written_then line 0 (head_size + point_size * n) (head ++ points) f.ends (omega (arith, size)) (omega (arith, w.room)) both r
      ∙ written-front line (head ++ points ++ f.ends)
