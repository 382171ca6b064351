-- The reply as the call comes to it.
use mathlib.Core.Path.{◌≡◌, sym, ap, ◌∙◌}
use mathlib.Core.Bool.{Bool, true, false}
use mathlib.Core.List.{List, [], ◌∷◌, ◌++◌}
use Prim.Native.Nat.{ℕ, suc, ◌+◌, ◌*◌, ◌≤◌, ◌<◌}
use native.Mathlib.Omega.{arith}
use borrow.Author.Tests.{le-leb, lt-leb}
use lib.ListN.{length, drop, set}
use lib.Seq.{set_at, drop-cons, append_snoc}
use Rattle.log_digits.specs.Digits.{digits_of, digits_for, written}
use Rattle.log_digits.proofs.Lines.{digits-length}
use Rattle.log_digits.proofs.Writing.{written-front}
use Rattle.log_lines.specs.Lines.{line_feed}
use Rattle.log_frame.specs.Read.{not_frame}
use Rattle.log_text.specs.Answer.{refused_bytes, Puts}
use Rattle.log_reply.specs.Reply.{line_bytes, reply, most_reply, Replies}
use Rattle.log_reply.proofs.Lengths.{bytes-few, reply-length}

-- the answer to a line with its line feed is that of its frame, and to one without it a refusal
pub with-feed : (line : List ℕ) (ended : Bool) → ended ≡ true → line_bytes line true ≡ line_bytes line ended
with-feed line ended e = ap (line_bytes line) (sym e)

pub without-feed : (line : List ℕ) (ended : Bool) → ended ≡ false → refused_bytes not_frame ≡ line_bytes line ended
unfolding line_bytes
without-feed line ended e = rw e

module _ (line : List ℕ) (ended : Bool) (out : List ℕ) where
  -- no room
  pub no_room : length out < most_reply → Replies line ended out 0 out
  no_room h = record { size = rw (lt-leb most_reply (length out) h); leaves = rw (lt-leb most_reply (length out) h) }

  -- the digits, and the line feed behind them
  fed : (bytes : List ℕ) → digits_for (length bytes) < length out
      → set (written out 0 bytes) (digits_for (length bytes)) line_feed ≡ (digits_of bytes ++ line_feed ∷ []) ++ drop (suc (digits_for (length bytes))) out
  fed bytes h =
      let n = digits-length bytes in
      ap (λ (x : List ℕ). set x (digits_for (length bytes)) line_feed)
      (written-front out bytes ∙ ap (λ (x : List ℕ). digits_of bytes ++ x) (ap (λ (k : ℕ). drop k out) n ∙ drop-cons out (digits_for (length bytes)) 0 h))
      ∙ set_at (digits_of bytes) _ (drop (suc (digits_for (length bytes))) out) line_feed (digits_for (length bytes)) n
      ∙ sym (append_snoc (digits_of bytes) line_feed (drop (suc (digits_for (length bytes))) out))

  pub with-room : {r : ℕ} {text : List ℕ} → most_reply ≤ length out → Puts (line_bytes line ended) out r text
      → Replies line ended out (2 * r + 1) (set text (2 * r) line_feed)
  unfolding reply
  with-room {r} {text} h p = record {
    size = rw (le-leb most_reply (length out) h) (omega (arith, p.count, reply-length line ended));
    leaves =
        rw (le-leb most_reply (length out) h, reply-length line ended)
        ((λ i. set (p.leaves i) (2 * p.count i) line_feed) ∙ fed (line_bytes line ended) (omega (arith, bytes-few line ended)));
  }
