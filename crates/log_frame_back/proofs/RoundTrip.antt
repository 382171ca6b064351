-- A frame and its digits: reading the digits of a frame gives the frame, and the digits of what a good line holds are the line.
use mathlib.Core.Path.{◌≡◌, refl, sym, ap, ◌∙◌}
use mathlib.Core.Bool.{Bool, true, false}
use mathlib.Core.List.{List, [], ◌∷◌, ◌++◌, append_assoc}
use Prim.Native.Nat.{ℕ, zero, suc, ◌+◌, ◌-◌, ◌*◌, ◌/◌, ◌%◌, ◌<◌}
use native.Mathlib.Omega.{arith}
use borrow.Author.Tests.{ltb-true, ltb-false, eqb-true, eq-eqb}
use lib.Dec.{ltb, eqb}
use lib.ListN.{length, get_or, length-append, get_or-append}
use lib.Seq.{get_or-append-add, get_or_at, ext_get_or}
use lib.IntN.{ℤ, pos}
use Rattle.words.specs.Word.{firsts}
use Rattle.words.proofs.Tables.{firsts-length}
use Rattle.refusals.proofs.Tests.{and_first, and_second}
use Rattle.signed.proofs.By.{by₂}
use Rattle.log_digits.specs.Digits.{all_digits, Bytes, digits_for, byte_at, high_of, low_of, number_of}
use Rattle.log_digits.proofs.Lines.{byte_small, digits-all, byte-back, digits-back}
use Rattle.log_digits.proofs.Numbers.{high_small, low_small, number-back, high-back, low-back}
use Rattle.log_frame.specs.Limits.{head_size, point_size, frame_size}
use Rattle.log_frame.specs.Frame.{Frame, frame_of, kind_byte, point_bytes, points_bytes, frame_bytes, frame_digits, good_line, frame_in}
use Rattle.log_frame.specs.Frame.{points_in, contours_in, point_place, end_place, original_in, current_in, mark_in, end_in}
use Rattle.log_frame.specs.Steps.{Writable}
use Rattle.log_frame.proofs.Tested.{good_length}
use Rattle.log_frame.proofs.Composed.{points-length, frame-length}

-- ---- the first n of a sequence by their places
module _ {A : Type 0} (f : ℕ → A) (d : A) where
  pub firsts_at : (n i : ℕ) → i < n → get_or (firsts f n) i d ≡ f i
  unfolding firsts
  firsts_at zero i h = absurd (omega arith)
  firsts_at (suc n) i h = by (ltb i n) refl (firsts_at n i)
    where
      by : (b : Bool) → ltb i n ≡ b → (i < n → get_or (firsts f n) i d ≡ f i) → get_or (firsts f n ++ f n ∷ []) i d ≡ f i
      by true e rest = let k = ltb-true i n e in get_or-append (firsts f n) (f n ∷ []) d i (omega (arith, firsts-length f n)) ∙ rest k
      by false e rest =
          let k = ltb-false i n e in
          get_or_at (firsts f n) (f n) [] d i (omega (arith, firsts-length f n)) ∙ ap f (omega arith)

  -- a list is the sequence of its places
  pub firsts-are : (n : ℕ) (l : List A) → n ≡ length l → ((i : ℕ) → i < n → f i ≡ get_or l i d) → firsts f n ≡ l
  firsts-are n l e h = ext_get_or d (firsts f n) l (firsts-length f n ∙ e) (λ i k. let j : i < n = omega (arith, firsts-length f n) in firsts_at n i j ∙ h i j)

-- ---- the bytes of points
module _ (o c : List ℤ) (t : List ℕ) where
  five : (i : ℕ) → length (point_bytes o c t i) ≡ point_size
  unfolding point_bytes
  five i = refl

  -- the byte r of the point i, whatever stands behind the points
  point-byte : (n i r : ℕ) (rest : List ℕ) → i < n → r < point_size → get_or (points_bytes o c t n ++ rest) (point_size * i + r) 0 ≡ get_or (point_bytes o c t i) r 0
  unfolding points_bytes
  point-byte zero i r rest h k = absurd (omega arith)
  point-byte (suc n) i r rest h k = by (ltb i n) refl (point-byte n i r (point_bytes o c t n ++ rest))
    where
      apart : points_bytes o c t n ++ point_bytes o c t n ++ rest ≡ points_bytes o c t n ++ (point_bytes o c t n ++ rest)
      apart = append_assoc (points_bytes o c t n) (point_bytes o c t n) rest

      by : (b : Bool) → ltb i n ≡ b → (i < n → r < point_size → get_or (points_bytes o c t n ++ (point_bytes o c t n ++ rest)) (point_size * i + r) 0
          ≡ get_or (point_bytes o c t i) r 0)
          → get_or (points_bytes o c t n ++ point_bytes o c t n ++ rest) (point_size * i + r) 0 ≡ get_or (point_bytes o c t i) r 0
      by true e before = ap (λ (l : List ℕ). get_or l (point_size * i + r) 0) apart ∙ before (ltb-true i n e) k
      by false e before =
          let j = ltb-false i n e in
          let at : point_size * i + r ≡ length (points_bytes o c t n) + r = omega (arith, points-length o c t n) in
          let here : n ≡ i = omega arith in
          (λ l. get_or (apart l) (at l) 0) ∙ get_or-append-add (points_bytes o c t n) (point_bytes o c t n ++ rest) r 0
          ∙ get_or-append (point_bytes o c t n) rest 0 r (omega (arith, five n)) ∙ ap (λ (m : ℕ). get_or (point_bytes o c t m) r 0) here

-- ---- the bytes of a frame
module _ (f : Frame) where
  -- the points and the ends
  abbrev body : List ℕ
  body = points_bytes f.originals f.currents f.marks (length f.originals) ++ f.ends

  frame-head : frame_bytes f ≡ kind_byte ∷ length f.originals ∷ length f.ends ∷ body
  unfolding frame_bytes
  frame-head = refl

  -- behind the head
  behind-head : (j m : ℕ) → m ≡ suc (suc (suc j)) → get_or (frame_bytes f) m 0 ≡ get_or body j 0
  behind-head j m e = (λ l. get_or (frame-head l) (e l) 0)

  point_at : (i r : ℕ) → i < length f.originals → r < point_size
      → get_or (frame_bytes f) (point_place i + r) 0 ≡ get_or (point_bytes f.originals f.currents f.marks i) r 0
  point_at i r h k =
      behind-head (point_size * i + r) (point_place i + r) (omega arith)
      ∙ point-byte f.originals f.currents f.marks (length f.originals) i r f.ends h k

  end-at : (j : ℕ) → get_or (frame_bytes f) (head_size + point_size * length f.originals + j) 0 ≡ get_or f.ends j 0
  end-at j =
      let points = points_bytes f.originals f.currents f.marks (length f.originals) in
      let at : point_size * length f.originals + j ≡ length points + j = omega
      (arith, points-length f.originals f.currents f.marks (length f.originals)) in
      behind-head (point_size * length f.originals + j) _ (omega arith) ∙ ap (λ (m : ℕ). get_or body m 0) at ∙ get_or-append-add points f.ends j 0

  -- as many as its counts ask for
  bytes-length : length (frame_bytes f) ≡ frame_size (length f.originals) (length f.ends)
  bytes-length =
      let n = length f.originals in
      let points = points_bytes f.originals f.currents f.marks n in
      ap length frame-head ∙ omega (arith, length-append points f.ends, points-length f.originals f.currents f.marks n)

-- ---- writing and then reading
-- bytes behind bytes are bytes
bytes-append : (xs ys : List ℕ) → Bytes xs → Bytes ys → Bytes (xs ++ ys)
bytes-append [] ys h k i = k i
bytes-append (x ∷ xs) ys h k zero = h 0
bytes-append (x ∷ xs) ys h k (suc i) = bytes-append xs ys (λ j. h (suc j)) k i

module _ (f : Frame) (places : ℕ) (w : Writable f places) (marked : Bytes f.marks) where
  abbrev line : List ℕ
  line = frame_digits f

  -- each byte of a frame is one
  point-bytes : (i : ℕ) → Bytes (point_bytes f.originals f.currents f.marks i)
  unfolding point_bytes
  point-bytes i zero = marked i
  point-bytes i (suc zero) = high_small _ (w.points.originals i)
  point-bytes i (suc (suc zero)) = low_small (get_or f.originals i (pos 0))
  point-bytes i (suc (suc (suc zero))) = high_small _ (w.points.currents i)
  point-bytes i (suc (suc (suc (suc zero)))) = low_small (get_or f.currents i (pos 0))
  point-bytes i (suc (suc (suc (suc (suc r))))) = omega arith

  points-bytes : (n : ℕ) → Bytes (points_bytes f.originals f.currents f.marks n)
  unfolding points_bytes
  points-bytes zero i = omega arith
  points-bytes (suc n) i =
      bytes-append (points_bytes f.originals f.currents f.marks n) (point_bytes f.originals f.currents f.marks n) (points-bytes n)
      (point-bytes n) i

  frame-bytes : Bytes (frame_bytes f)
  unfolding frame_bytes
  frame-bytes zero = omega arith
  frame-bytes (suc zero) = omega (arith, w.few-points)
  frame-bytes (suc (suc zero)) = omega (arith, w.few_contours)
  frame-bytes (suc (suc (suc i))) =
      bytes-append (points_bytes f.originals f.currents f.marks (length f.originals)) f.ends (points-bytes (length f.originals))
      (λ j. omega (arith, w.ends j)) i

  -- the bytes of its line
  byte-is : (i : ℕ) → i < frame_size (length f.originals) (length f.ends) → byte_at line i ≡ get_or (frame_bytes f) i 0
  unfolding frame_digits
  byte-is i h = byte-back (frame_bytes f) frame-bytes i (omega (arith, bytes-length f))

  -- its counts
  pub points-is : points_in line ≡ length f.originals
  points-is = byte-is 1 (omega arith) ∙ ap (λ (l : List ℕ). get_or l 1 0) (frame-head f)

  pub contours-is : contours_in line ≡ length f.ends
  contours-is = byte-is 2 (omega arith) ∙ ap (λ (l : List ℕ). get_or l 2 0) (frame-head f)

  -- the digits of a frame are a good line
  pub written-good : good_line line ≡ true
  unfolding good_line frame_digits
  written-good =
      let size = by₂ (λ (n k : ℕ). digits_for (frame_size n k)) (frame-length f) (sym points-is) (sym contours-is) in
      rw (
        digits-all (frame_bytes f) frame-bytes,
        eq-eqb (length line) (digits_for (frame_size (points_in line) (contours_in line))) size,
        byte-is 0 (omega arith),
        frame-head f,
      )

  -- the byte r of the point i of its line
  byte_of : (i r : ℕ) → i < length f.originals → r < point_size
      → byte_at line (point_place i + r) ≡ get_or (point_bytes f.originals f.currents f.marks i) r 0
  byte_of i r h k = byte-is (point_place i + r) (omega arith) ∙ point_at f i r h k

  mark-is : (i : ℕ) → i < length f.originals → mark_in line i ≡ get_or f.marks i 0
  unfolding point_bytes
  mark-is i h = ap (byte_at line) (omega arith) ∙ byte_of i 0 h (omega arith)

  original-is : (i : ℕ) → i < length f.originals → original_in line i ≡ get_or f.originals i (pos 0)
  unfolding point_bytes
  original-is i h =
      by₂ number_of refl (byte_of i 1 h (omega arith)) (ap (byte_at line) (omega arith) ∙ byte_of i 2 h (omega arith)) ∙ number-back _ (w.points.originals i)

  current-is : (i : ℕ) → i < length f.originals → current_in line i ≡ get_or f.currents i (pos 0)
  unfolding point_bytes
  current-is i h =
      by₂ number_of refl (byte_of i 3 h (omega arith)) (ap (byte_at line) (omega arith) ∙ byte_of i 4 h (omega arith)) ∙ number-back _ (w.points.currents i)

  end_is : (j : ℕ) → j < length f.ends → end_in line j ≡ get_or f.ends j 0
  end_is j h =
      ap (λ (n : ℕ). byte_at line (head_size + point_size * n + j)) points-is ∙ byte-is (head_size + point_size * length f.originals + j) (omega arith)
      ∙ end-at f j

  -- and hold the frame
  pub written_read : frame_in line ≡ f
  unfolding frame_in
  written_read =
      let o = firsts-are (original_in line) (pos 0) (points_in line) f.originals points-is (λ i h. original-is i (omega (arith, points-is))) in
      let c = firsts-are (current_in line) (pos 0) (points_in line) f.currents (points-is ∙ sym w.points.currents_length)
      (λ i h. current-is i (omega (arith, points-is))) in
      let t = firsts-are (mark_in line) 0 (points_in line) f.marks (points-is ∙ sym w.points.marks_length) (λ i h. mark-is i (omega (arith, points-is))) in
      let es = firsts-are (end_in line) 0 (contours_in line) f.ends contours-is (λ i h. end_is i (omega (arith, contours-is))) in
      λ l. frame_of (o l) (c l) (t l) (es l)

-- ---- reading and then writing
module _ (line : List ℕ) (good : good_line line ≡ true) where
  -- what the line holds
  abbrev n : ℕ
  n = points_in line

  pub originals_length : length (frame_in line).originals ≡ n
  unfolding frame_in
  originals_length = firsts-length (original_in line) n

  pub ends-length : length (frame_in line).ends ≡ contours_in line
  unfolding frame_in
  ends-length = firsts-length (end_in line) (contours_in line)

  kind_is : byte_at line 0 ≡ kind_byte
  unfolding good_line
  kind_is = eqb-true _ _ (and_second (eqb (length line) _) (eqb (byte_at line 0) kind_byte) (and_second (all_digits line) _ good))

  digits_are : all_digits line ≡ true
  unfolding good_line
  digits_are = and_first (all_digits line) _ good

  -- the byte r of the point i
  point-read : (i r : ℕ) → i < n → r < point_size → get_or (point_bytes (frame_in line).originals (frame_in line).currents (frame_in line).marks i) r 0
      ≡ byte_at line (point_place i + r)
  unfolding point_bytes frame_in
  point-read i zero h k = firsts_at (mark_in line) 0 n i h ∙ ap (byte_at line) (omega arith)
  point-read i (suc zero) h k = ap high_of (firsts_at (original_in line) (pos 0) n i h) ∙ high-back _ _ (byte_small line _) (byte_small line _)
  point-read i (suc (suc zero)) h k =
      ap low_of (firsts_at (original_in line) (pos 0) n i h) ∙ low-back _ _ (byte_small line _) (byte_small line _) ∙ ap (byte_at line) (omega arith)
  point-read i (suc (suc (suc zero))) h k = ap high_of (firsts_at (current_in line) (pos 0) n i h) ∙ high-back _ _ (byte_small line _) (byte_small line _)
  point-read i (suc (suc (suc (suc zero)))) h k = ap low_of (firsts_at (current_in line) (pos 0) n i h) ∙ low-back _ _ (byte_small line _) (byte_small line _)
      ∙ ap (byte_at line) (omega arith)
  point-read i (suc (suc (suc (suc (suc r))))) h k = absurd (omega arith)

  pub end_read : (j : ℕ) → j < contours_in line → get_or (frame_in line).ends j 0 ≡ end_in line j
  unfolding frame_in
  end_read j h = firsts_at (end_in line) 0 (contours_in line) j h

  -- each byte of the frame is the line's
  byte-read : (i : ℕ) → i < frame_size n (contours_in line) → get_or (frame_bytes (frame_in line)) i 0 ≡ byte_at line i
  byte-read zero h = ap (λ (l : List ℕ). get_or l 0 0) (frame-head (frame_in line)) ∙ sym kind_is
  byte-read (suc zero) h = ap (λ (l : List ℕ). get_or l 1 0) (frame-head (frame_in line)) ∙ originals_length
  byte-read (suc (suc zero)) h = ap (λ (l : List ℕ). get_or l 2 0) (frame-head (frame_in line)) ∙ ends-length
  byte-read (suc (suc (suc j))) h = by (ltb j (point_size * n)) refl
    where
      by : (b : Bool) → ltb j (point_size * n) ≡ b → get_or (frame_bytes (frame_in line)) (suc (suc (suc j))) 0 ≡ byte_at line (suc (suc (suc j)))
      by true e =
          let k = ltb-true j (point_size * n) e in
          let at : suc (suc (suc j)) ≡ point_place (j / 5) + j % 5 = omega arith in
          ap (λ (m : ℕ). get_or (frame_bytes (frame_in line)) m 0) at ∙ point_at (frame_in line) (j / 5) (j % 5) (omega (arith, originals_length)) (omega arith)
          ∙ point-read (j / 5) (j % 5) (omega arith) (omega arith) ∙ ap (byte_at line) (sym at)
      by false e =
          let k = ltb-false j (point_size * n) e in
          let at : suc (suc (suc j)) ≡ head_size + point_size * length (frame_in line).originals + (j - point_size * n) = omega (arith, originals_length) in
          let to : end_place line (j - point_size * n) ≡ suc (suc (suc j)) = omega arith in
          ap (λ (m : ℕ). get_or (frame_bytes (frame_in line)) m 0) at ∙ end-at (frame_in line) (j - point_size * n) ∙ end_read (j - point_size * n) (omega arith)
          ∙ ap (byte_at line) to

  -- the digits of what a good line holds are the line
  pub read-written : frame_digits (frame_in line) ≡ line
  unfolding frame_digits
  read-written =
      let size = by₂ (λ (m k : ℕ). frame_size m k) (bytes-length (frame_in line)) originals_length ends-length in
      digits-back (frame_bytes (frame_in line)) line (good_length line good ∙ ap digits_for (sym size)) digits_are (λ i h. byte-read i (omega (arith, size)))
