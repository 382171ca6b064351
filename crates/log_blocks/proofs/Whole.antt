-- The calls print what is printed for the stream, wherever its blocks are cut.
use mathlib.Core.Path.{◌≡◌, sym, ap, ◌∙◌}
use mathlib.Core.List.{List, [], ◌∷◌, ◌++◌, flatten}
use Prim.Native.Nat.{ℕ, ◌≤◌}
use lib.ListN.{length, take, drop, drop_of_length-le}
use Rattle.log_lines.specs.Lines.{lines_from}
use Rattle.log_blocks.specs.Printed.{replies, printed, Refits, Rests}
use Rattle.log_blocks.specs.declared.blocks.Refitted.{Refitted}

-- the calls of a program that gets a stream block by block, and the bytes that it prints: it stands at the place `from` of a block, behind which others follow,
-- and holds `count` bytes in the list l
pub data Prints : List ℕ → ℕ → List ℕ → ℕ → List (List ℕ) → List ℕ → Type 0 where
  -- it answers lines of the block, and prints what the call wrote
  part : {l : List ℕ} {count : ℕ} {block : List ℕ} {from : ℕ} {blocks : List (List ℕ)} {text out : List ℕ} {r : Refitted} {d left : List ℕ}
      → Refits block from l count out r d left
      → Prints d r.count block r.at blocks text → Prints l count block from blocks (take r.size left ++ text)
  -- the block has ended: the next follows
  next : {l : List ℕ} {count : ℕ} {block : List ℕ} {from : ℕ} {b : List ℕ} {blocks : List (List ℕ)} {text : List ℕ} → length block ≤ from
      → Prints l count b 0 blocks text
      → Prints l count block from (b ∷ blocks) text
  -- the stream has: it prints what the last call wrote
  last : {l : List ℕ} {count : ℕ} {block : List ℕ} {from r : ℕ} {left : List ℕ} → length block ≤ from → Rests l count r left
      → Prints l count block from [] (take r left)

-- it is what is printed for the rest of the stream
rest-printed :
    {l : List ℕ} {count : ℕ} {block : List ℕ} {from : ℕ} {blocks : List (List ℕ)} {text : List ℕ} → Prints l count block from blocks text
    → text ≡ replies (lines_from (take count l) (drop from block ++ flatten blocks))
unfolding flatten
rest-printed {blocks =
    blocks} (part {r = r} {d = d} {left = left} w more) = ap (λ (x : List ℕ). take r.size left ++ x) (rest-printed more) ∙ sym (w.gives (flatten blocks))
rest-printed {l} {count} {block} (next {b = b} {blocks = blocks} h more) =
    rest-printed more ∙ ap (λ (x : List ℕ). replies (lines_from (take count l) (x ++ (b ++ flatten blocks)))) (sym (drop_of_length-le block h))
rest-printed {l} {count} {block} (last h w) = w.gives ∙ ap (λ (x : List ℕ). replies (lines_from (take count l) (x ++ []))) (sym (drop_of_length-le block h))

-- and from the stream's beginning on what is printed for the stream
pub all-printed : {l block : List ℕ} {blocks : List (List ℕ)} {text : List ℕ} → Prints l 0 block 0 blocks text → text ≡ printed (block ++ flatten blocks)
all-printed p = rest-printed p
