-- One reply more, written into the part of a list behind its first bytes.
use mathlib.Core.Path.{◌≡◌, ap, ◌∙◌}
use mathlib.Core.Bool.{Bool, cond}
use mathlib.Core.List.{List, ◌++◌, append_assoc}
use Prim.Native.Nat.{ℕ, ◌+◌, ◌-◌, ◌≤◌}
use native.Mathlib.Omega.{arith}
use borrow.Author.Tests.{le-leb}
use borrow.Rule.Slice.PartMut.{mid_of, post_of, put_mid, mid_len}
use lib.ListN.{length, take, drop}
use lib.Seq.{take-append-add, take-append_seam, length-take-le}
use Rattle.log_reply.specs.Reply.{reply, most_reply, Replies}
use Rattle.log_reply.proofs.Lengths.{reply-short}
use Rattle.log_blocks.specs.Printed.{Appends}

-- a text at the beginning of the part stands behind the first bytes
front-put : (out : List ℕ) (size k : ℕ) (text rest : List ℕ) → size ≤ length out
    → take (size + length text) (put_mid size k out (text ++ rest)) ≡ take size out ++ text
front-put out size k text rest h =
    let behind = (text ++ rest) ++ post_of size k out in
    ap (λ (n : ℕ). take (n + length text) (take size out ++ behind)) (omega (arith, length-take-le size out h))
    ∙ take-append-add (take size out) behind (length text)
    ∙ ap (λ (x : List ℕ). take size out ++ x)
    (ap (take (length text)) (append_assoc text rest (post_of size k out)) ∙ take-append_seam text (rest ++ post_of size k out))

module _ (line : List ℕ) (ended : Bool) (out : List ℕ) (size : ℕ) (room : size + most_reply ≤ length out) {r : ℕ} {part : List ℕ}
    (w : Replies line ended (mid_of size (length out - size) out) r part) where
  there : most_reply ≤ length (mid_of size (length out - size) out)
  there = omega (arith, mid_len size (length out) out (omega arith))

  count-is : r ≡ length (reply line ended)
  count-is = w.size ∙ ap (λ (b : Bool). cond b (length (reply line ended)) 0) (le-leb most_reply (length (mid_of size (length out - size) out)) there)

  part-is : part ≡ reply line ended ++ drop (length (reply line ended)) (mid_of size (length out - size) out)
  part-is =
      w.leaves
      ∙ ap (λ (b : Bool). cond b (reply line ended ++ drop (length (reply line ended)) (mid_of size (length out - size) out))
      (mid_of size (length out - size) out))
      (le-leb most_reply (length (mid_of size (length out - size) out)) there)

  pub appended-fits : size + r ≤ length out
  appended-fits = omega (arith, count-is, reply-short line ended)

  pub appended : Appends (reply line ended) out size (size + r) (put_mid size (length out - size) out part)
  appended = record {
    count = ap (λ (n : ℕ). size + n) count-is;
    in_list = appended-fits;
    leaves =
        (λ i. take (size + count-is i) (put_mid size (length out - size) out (part-is i)))
        ∙ front-put out size (length out - size) (reply line ended) (drop (length (reply line ended)) (mid_of size (length out - size) out)) (omega arith);
  }
