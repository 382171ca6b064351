-- One turn of the loop over a block: what is written and what is left give what is printed for the whole.
use mathlib.Core.Path.{◌≡◌, refl, sym, ap, ◌∙◌}
use mathlib.Core.Bool.{Bool, true, false, cond}
use mathlib.Core.List.{List, [], ◌∷◌, ◌++◌, map, append_assoc, append-nil}
use Prim.Native.Nat.{ℕ, ◌+◌, ◌-◌, ◌≤◌, ◌<◌}
use native.Mathlib.Omega.{arith}
use lib.ListN.{length, take, drop, drop_of_length-le}
use lib.Seq.{length-take-le}
use Rattle.log_frame.specs.Limits.{most_digits}
use Rattle.log_lines.specs.Lines.{Line, last_line, lines_from, held_of, held_lines}
use Rattle.log_lines.specs.Cutting.{Took}
use Rattle.log_lines.specs.declared.cutter.Taken.{Taken}
use Rattle.log_lines.proofs.Streams.{length-kept, count-few, at-end, further, call-lines}
use Rattle.log_reply.specs.Reply.{reply, most_reply}
use Rattle.log_reply.proofs.Held.{reply-held}
use Rattle.log_blocks.specs.Printed.{replies, Appends, Refits, Rests}

-- the replies to lines are those to what is held of them
replies-held : (n : ℕ) → most_digits < n → (ls : List Line) → replies (map (held_of n) ls) ≡ replies ls
unfolding replies
replies-held n h [] = refl
replies-held n h (l ∷ ls) = λ i. reply-held l.bytes l.ended n h i ++ replies-held n h ls i

-- ---- what a call of the cutter says of the replies
module _ (block : List ℕ) (from : ℕ) (l : List ℕ) (count : ℕ) (r : Taken) (d : List ℕ) (k : Took block from l count r d) (big : most_digits < length l)
    (more : List ℕ) where
  left-are :
      replies (lines_from (take count l) (drop from block ++ more))
      ≡ replies (cond r.ended (record { bytes = take r.count d; ended = true } ∷ held_lines (length l) [] (drop r.at block ++ more))
      (held_lines (length l) (take r.count d) more))
  left-are =
      sym (replies-held (length l) big (lines_from (take count l) (drop from block ++ more)))
      ∙ ap replies (call-lines block from l count r d k more (omega arith))

  -- no line has ended
  replies-on : r.ended ≡ false → replies (lines_from (take count l) (drop from block ++ more))
      ≡ replies (lines_from (take r.count d) (drop r.at block ++ more))
  replies-on e =
      left-are
      ∙ ap (λ (b : Bool). replies (cond b (record { bytes = take r.count d; ended = true } ∷ held_lines (length l) [] (drop r.at block ++ more))
      (held_lines (length l) (take r.count d) more))) e
      ∙ replies-held (length l) big (lines_from (take r.count d) more)
      ∙ ap (λ (x : List ℕ). replies (lines_from (take r.count d) (x ++ more))) (sym (drop_of_length-le block (at-end block from l count r d k e)))

  -- one has
  replies-ended : r.ended ≡ true → replies (lines_from (take count l) (drop from block ++ more))
      ≡ reply (take r.count d) true ++ replies (lines_from [] (drop r.at block ++ more))
  unfolding replies
  replies-ended e =
      left-are
      ∙ ap (λ (b : Bool). replies (cond b (record { bytes = take r.count d; ended = true } ∷ held_lines (length l) [] (drop r.at block ++ more))
      (held_lines (length l) (take r.count d) more))) e
      ∙ ap (λ (x : List ℕ). reply (take r.count d) true ++ x) (replies-held (length l) big (lines_from [] (drop r.at block ++ more)))

-- ---- the loop
-- what stands in `out`, and what is printed for the rest of the stream by what is held in the list l, is what is printed for the stream
pub record Onward (block : List ℕ) (from : ℕ) (l₀ : List ℕ) (count : ℕ) (out₀ l out : List ℕ) (at held size : ℕ) : Type 0 where
  pub list_kept : length l ≡ length l₀
  pub out_kept : length out ≡ length out₀
  pub in_list : size ≤ length out
  pub few : held ≤ length l
  pub low : from ≤ at
  pub begun : 0 < size → from < at
  pub gives : (more : List ℕ) → replies (lines_from (take count l₀) (drop from block ++ more))
      ≡ take size out ++ replies (lines_from (take held l) (drop at block ++ more))

-- nothing yet
pub onward-none : (block : List ℕ) (from : ℕ) (l : List ℕ) (count : ℕ) (out : List ℕ) → count ≤ length l → Onward block from l count out l out from count 0
onward-none block from l count out h =
    record { list_kept = refl; out_kept = refl; in_list = omega arith; few = h; low = omega arith; begun = λ z. absurd (omega arith); gives = λ more. refl }

module _ (block : List ℕ) (from : ℕ) (l₀ : List ℕ) (count : ℕ) (out₀ l out : List ℕ) (at held size : ℕ)
    (o : Onward block from l₀ count out₀ l out at held size) where
  module _ (big : most_digits < length l₀) (inside : at < length block) (r : Taken) (d : List ℕ) (k : Took block at l held r d) where
    -- no line has ended
    pub onward-held : r.ended ≡ false → Onward block from l₀ count out₀ d out r.at r.count size
    onward-held e = record {
      list_kept = length-kept block at l held r d k ∙ o.list_kept;
      out_kept = o.out_kept;
      in_list = o.in_list;
      few = count-few block at l held r d k;
      low = omega (arith, o.low, further block at l held r d k inside);
      begun = λ z. omega (arith, o.low, further block at l held r d k inside);
      gives = λ more. o.gives more ∙ ap (λ (x : List ℕ). take size out ++ x) (replies-on block at l held r d k (omega (arith, o.list_kept)) more e);
    }

    -- one has
    pub onward-ended : r.ended ≡ true → (s : ℕ) (left : List ℕ) → length left ≡ length out → Appends (reply (take r.count d) true) out size s left
        → Onward block from l₀ count out₀ d left r.at 0 s
    onward-ended e s left kept a = record {
      list_kept = length-kept block at l held r d k ∙ o.list_kept;
      out_kept = kept ∙ o.out_kept;
      in_list = omega (arith, a.in_list, kept);
      few = omega arith;
      low = omega (arith, o.low, further block at l held r d k inside);
      begun = λ z. omega (arith, o.low, further block at l held r d k inside);
      gives = λ more.
          o.gives more ∙ ap (λ (x : List ℕ). take size out ++ x) (replies-ended block at l held r d k (omega (arith, o.list_kept)) more e)
          ∙ sym (append_assoc (take size out) (reply (take r.count d) true) (replies (lines_from [] (drop r.at block ++ more))))
          ∙ ap (λ (x : List ℕ). x ++ replies (lines_from [] (drop r.at block ++ more))) (sym a.leaves);
    }

  refits : (from < length block → most_reply ≤ length out₀ → from < at) → Refits block from l₀ count out₀ (record { at = at; count = held; size = size }) l out
  refits f = record { list_kept = o.list_kept; in_list = o.in_list; held = o.few; further = f; gives = o.gives }

  -- there is no room for one more
  pub onward-full : length out - size < most_reply → Refits block from l₀ count out₀ (record { at = at; count = held; size = size }) l out
  onward-full h = refits (λ a b. o.begun (omega (arith, h, b, o.out_kept)))

  -- the block has ended
  pub onward-all : length block ≤ at → Refits block from l₀ count out₀ (record { at = at; count = held; size = size }) l out
  onward-all h = refits (λ a b. omega (arith, a, h))

-- ---- what the log ends in
-- nothing
pub rest-none : (l : List ℕ) (count : ℕ) (left : List ℕ) → count ≡ 0 → Rests l count 0 left
unfolding lines_from last_line replies
rest-none l count left e = record { in_list = omega arith; gives = rw e }

-- a line with no line feed
last-reply : (begun : List ℕ) → 0 < length begun → replies (last_line begun) ≡ reply begun false
unfolding last_line replies
last-reply [] h = absurd (omega arith)
last-reply (b ∷ bs) h = append-nil (reply (b ∷ bs) false)

pub rest_some :
    (l : List ℕ) (count : ℕ) (out : List ℕ) (r : ℕ) (left : List ℕ) → (count ≡ 0 → ⊥) → count ≤ length l → length left ≡ length out
    → Appends (reply (take count l) false) out 0 r left
    → Rests l count r left
unfolding lines_from
rest_some l count out r left h few kept a = record {
  in_list = omega (arith, a.in_list, kept);
  gives = a.leaves ∙ sym (last-reply (take count l) (omega (arith, length-take-le count l few, h)));
}
