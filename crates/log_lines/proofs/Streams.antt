-- The lines of a stream, call by call: what a call takes, and what is left of the stream behind it, give the stream's lines, wherever its blocks are cut.
use mathlib.Core.Path.{◌≡◌, refl, sym, ap, ◌∙◌}
use mathlib.Core.Bool.{Bool, true, false, cond}
use mathlib.Core.List.{List, [], ◌∷◌, ◌++◌, map, flatten, append-nil}
use Prim.Native.Nat.{ℕ, zero, suc, ◌+◌, ◌≤◌, ◌<◌}
use native.Mathlib.Omega.{arith}
use lib.Dec.{eqb}
use lib.ListN.{length, take, drop, length-take, length-drop, length-append}
use lib.Seq.{take_all, take-take, append_snoc, take_at, drop-drop}
use Rattle.log_lines.specs.Lines.{line_feed, Line, last_line, lines_from, held_of, held_lines}
use Rattle.log_lines.specs.Cutting.{piece, feeds, held_with, Took}
use Rattle.log_lines.specs.declared.cutter.Taken.{Taken}

-- ---- what is held of a line depends on what is held of its beginning
take-append-take : {A : Type 0} (n : ℕ) (xs ys : List A) → take n (take n xs ++ ys) ≡ take n (xs ++ ys)
take-append-take zero xs ys = refl
take-append-take (suc n) [] ys = refl
take-append-take (suc n) (x ∷ xs) ys = rw (take-append-take n xs ys)

-- the last line
held-last : (n : ℕ) (begun : List ℕ) → map (held_of (suc n)) (last_line (take (suc n) begun)) ≡ map (held_of (suc n)) (last_line begun)
unfolding last_line
held-last n [] = refl
held-last n (b ∷ bs) = rw (take-take n n bs (omega arith))

-- every line
held-begun : (n : ℕ) → 0 < n → (begun bs : List ℕ) → held_lines n (take n begun) bs ≡ held_lines n begun bs
unfolding lines_from
held-begun zero h begun bs = absurd (omega arith)
held-begun (suc n) h begun [] = held-last n begun
held-begun (suc n) h begun (b ∷ bs) =
    go (eqb b line_feed)
    (sym (held-begun (suc n) h (take (suc n) begun ++ b ∷ []) bs)
    ∙ ap (λ (x : List ℕ). held_lines (suc n) x bs) (take-append-take (suc n) begun (b ∷ []))
    ∙ held-begun (suc n) h (begun ++ b ∷ []) bs)
  where
    go : (t : Bool)
        → held_lines (suc n) (take (suc n) begun ++ b ∷ []) bs ≡ held_lines (suc n) (begun ++ b ∷ []) bs
        → map (held_of (suc n)) (cond t (record { bytes = take (suc n) begun; ended = true } ∷ lines_from [] bs) (lines_from (take (suc n) begun ++ b ∷ []) bs))
        ≡ map (held_of (suc n)) (cond t (record { bytes = begun; ended = true } ∷ lines_from [] bs) (lines_from (begun ++ b ∷ []) bs))
    go true on = rw (take-take (suc n) (suc n) begun (omega arith))
    go false on = on

-- ---- the lines of bytes with a line feed, and without
lines-feed : (begun bs more : List ℕ) → feeds bs ≡ true
    → lines_from begun (bs ++ more) ≡ record { bytes = begun ++ piece bs; ended = true } ∷ lines_from [] (drop (length (piece bs) + 1) bs ++ more)
unfolding lines_from feeds piece
lines-feed begun [] more h = absurd (let z : ◌≡◌ {A = ℕ} 0 1 = cc in omega arith)
lines-feed begun (b ∷ bs) more h = go (eqb b line_feed) h (lines-feed (begun ++ b ∷ []) bs more)
  where
    go : (t : Bool) → cond t true (feeds bs) ≡ true
        → (feeds bs ≡ true → lines_from (begun ++ b ∷ []) (bs ++ more)
        ≡ record { bytes = (begun ++ b ∷ []) ++ piece bs; ended = true } ∷ lines_from [] (drop (length (piece bs) + 1) bs ++ more))
        → cond t (record { bytes = begun; ended = true } ∷ lines_from [] (bs ++ more)) (lines_from (begun ++ b ∷ []) (bs ++ more))
        ≡ record { bytes = begun ++ cond t [] (b ∷ piece bs); ended = true } ∷ lines_from [] (drop (length (cond t [] (b ∷ piece bs)) + 1) (b ∷ bs) ++ more)
    go true k on = rw (append-nil begun)
    go false k on = let q : length (b ∷ piece bs) + 1 ≡ suc (length (piece bs) + 1) = omega arith in on k ∙ rw (append_snoc begun b (piece bs), q)

lines-on : (begun bs more : List ℕ) → feeds bs ≡ false → lines_from begun (bs ++ more) ≡ lines_from (begun ++ piece bs) more
unfolding lines_from feeds piece
lines-on begun [] more h = rw (append-nil begun)
lines-on begun (b ∷ bs) more h = go (eqb b line_feed) h (lines-on (begun ++ b ∷ []) bs more)
  where
    go : (t : Bool) → cond t true (feeds bs) ≡ false
        → (feeds bs ≡ false → lines_from (begun ++ b ∷ []) (bs ++ more) ≡ lines_from ((begun ++ b ∷ []) ++ piece bs) more)
        → cond t (record { bytes = begun; ended = true } ∷ lines_from [] (bs ++ more)) (lines_from (begun ++ b ∷ []) (bs ++ more))
        ≡ lines_from (begun ++ cond t [] (b ∷ piece bs)) more
    go true k on = absurd (let z : ◌≡◌ {A = ℕ} 0 1 = cc in omega arith)
    go false k on = on k ∙ rw (append_snoc begun b (piece bs))

-- where there is no line feed the bytes in front of it are all
piece-all : (bs : List ℕ) → feeds bs ≡ false → piece bs ≡ bs
unfolding feeds piece
piece-all [] h = refl
piece-all (b ∷ bs) h = go (eqb b line_feed) h (piece-all bs)
  where
    go : (t : Bool) → cond t true (feeds bs) ≡ false → (feeds bs ≡ false → piece bs ≡ bs) → cond t [] (b ∷ piece bs) ≡ b ∷ bs
    go true k on = absurd (let z : ◌≡◌ {A = ℕ} 0 1 = cc in omega arith)
    go false k on = ap (λ (x : List ℕ). b ∷ x) (on k)

-- ---- one call
module _ (block : List ℕ) (from : ℕ) (l : List ℕ) (count : ℕ) (r : Taken) (d : List ℕ) (k : Took block from l count r d) where
  abbrev bytes : List ℕ
  bytes = drop from block

  abbrev held : List ℕ
  held = held_with (length l) (take count l) bytes

  -- what the list holds
  holds : take r.count d ≡ held
  holds = ap (λ (n : ℕ). take n d) k.count ∙ ap (take (length held)) k.list ∙ take_at held _ (length held) refl

  few : length held ≤ length l
  unfolding held_with
  few = omega (arith, length-take (length l) (take count l ++ piece bytes))

  pub length-kept : length d ≡ length l
  length-kept = ap length k.list ∙ simp (length-append, length-drop) (omega (arith, few))

  -- no more is held than the list has places
  pub count-few : r.count ≤ length d
  count-few = omega (arith, k.count, few, length-kept)

  -- a block in which no line ends is taken to its end
  pub at-end : r.ended ≡ false → length block ≤ r.at
  at-end e =
      let f : feeds bytes ≡ false = sym k.ended ∙ e in
      let p : r.at ≡ from + length (piece bytes) + 0 = k.behind ∙ ap (λ (b : Bool). from + length (piece bytes) + cond b 1 0) f in
      omega (arith, p, ap length (piece-all bytes f), length-drop from block)

  -- and each call takes something
  pub further : from < length block → from < r.at
  further h = go r.ended refl
    where
      go : (b : Bool) → r.ended ≡ b → from < r.at
      go false e = omega (arith, at-end e)
      go true e =
          let p : r.at ≡ from + length (piece bytes) + 1 = k.behind ∙ ap (λ (b : Bool). from + length (piece bytes) + cond b 1 0) (sym k.ended ∙ e) in
          omega (arith, p)

  -- the lines that are left: the line that has ended and those behind it, or those of a line of which more is held
  pub call-lines :
      (more : List ℕ) → 0 < length l
      → held_lines (length l) (take count l) (bytes ++ more)
      ≡ cond r.ended (record { bytes = take r.count d; ended = true } ∷ held_lines (length l) [] (drop r.at block ++ more))
      (held_lines (length l) (take r.count d) more)
  unfolding held_with
  call-lines more h = go (feeds bytes) refl
    where
      go : (t : Bool) → feeds bytes ≡ t
          → held_lines (length l) (take count l) (bytes ++ more)
          ≡ cond r.ended (record { bytes = take r.count d; ended = true } ∷ held_lines (length l) [] (drop r.at block ++ more))
          (held_lines (length l) (take r.count d) more)
      go true e =
          let q : r.at ≡ from + (length (piece bytes) + 1) = k.behind ∙ rw e (omega arith) in
          ap (map (held_of (length l))) (lines-feed (take count l) bytes more e)
          ∙ rw (k.ended, e, holds, q, ← drop-drop (length (piece bytes) + 1) from block)
      go false e =
          ap (map (held_of (length l))) (lines-on (take count l) bytes more e)
          ∙ sym (held-begun (length l) h (take count l ++ piece bytes) more)
          ∙ rw (k.ended, e, holds)

-- ---- a stream
-- the calls of a program that gets a stream block by block, and the lines that it gets by them: it stands at the place `from` of a block, behind which others
-- follow, and holds `count` bytes in the list l
pub data Calls : List ℕ → ℕ → List ℕ → ℕ → List (List ℕ) → List Line → Type 0 where
  -- a line ends: the next begins
  feed : {l : List ℕ} {count : ℕ} {block : List ℕ} {from : ℕ} {blocks : List (List ℕ)} {ls : List Line} {r : Taken} {d : List ℕ} → Took block from l count r d
      → r.ended ≡ true
      → Calls d 0 block r.at blocks ls → Calls l count block from blocks (record { bytes = take r.count d; ended = true } ∷ ls)
  -- the block ends: the next follows
  next : {l : List ℕ} {count : ℕ} {block : List ℕ} {from : ℕ} {b : List ℕ} {blocks : List (List ℕ)} {ls : List Line} {r : Taken} {d : List ℕ}
      → Took block from l count r d → r.ended ≡ false
      → Calls d r.count b 0 blocks ls → Calls l count block from (b ∷ blocks) ls
  -- the stream ends
  last : {l : List ℕ} {count : ℕ} {block : List ℕ} {from : ℕ} {r : Taken} {d : List ℕ} → Took block from l count r d → r.ended ≡ false
      → Calls l count block from [] (last_line (take r.count d))

-- the last line, of which no more than the list is held
last-held : (n : ℕ) (begun : List ℕ) → length begun ≤ n → held_lines n begun [] ≡ last_line begun
unfolding lines_from last_line
last-held n [] h = refl
last-held n (b ∷ bs) h = rw (take_all n (b ∷ bs) h)

-- they are the stream's lines, each once and in order, each as the list holds it
pub stream-lines :
    {l : List ℕ} {count : ℕ} {block : List ℕ} {from : ℕ} {blocks : List (List ℕ)} {ls : List Line} → Calls l count block from blocks ls → 0 < length l
    → ls ≡ held_lines (length l) (take count l) (drop from block ++ flatten blocks)
unfolding flatten
stream-lines {l} {count} {block} {from} {blocks} (feed {ls = ls} {r = r} {d = d} k e more) h =
    let q = length-kept block from l count r d k in
    let rest : ls ≡ held_lines (length l) [] (drop r.at block ++ flatten blocks) = stream-lines more (omega arith) ∙ rw q in
    sym (call-lines block from l count r d k (flatten blocks) h ∙ rw (e, rest))
stream-lines {l} {count} {block} {from} (next {b = b} {blocks = blocks} {ls = ls} {r = r} {d = d} k e more) h =
    let q = length-kept block from l count r d k in
    let rest : ls ≡ held_lines (length l) (take r.count d) (flatten (b ∷ blocks)) = stream-lines more (omega arith) ∙ rw (q, flatten) in
    rest ∙ sym (call-lines block from l count r d k (flatten (b ∷ blocks)) h ∙ rw e)
stream-lines {l} {count} {block} {from} (last {r = r} {d = d} k e) h =
    let q = length-kept block from l count r d k in
    sym (call-lines block from l count r d k [] h ∙ rw e (last-held (length l) (take r.count d) (omega (arith, length-take r.count d))))

-- so that one stream has the same lines in one block and in many
pub same_lines :
    {l m a b : List ℕ} {more others : List (List ℕ)} {xs ys : List Line} → Calls l 0 a 0 more xs → Calls m 0 b 0 others ys → length l ≡ length m → 0 < length l
    → a ++ flatten more ≡ b ++ flatten others → xs ≡ ys
same_lines p q e h s = stream-lines p h ∙ (λ i. held_lines (e i) [] (s i)) ∙ sym (stream-lines q (omega arith))
