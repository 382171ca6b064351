-- `log_text::text::put_results` meets its contract. The invariant: what is written so far.
use native.Mathlib.Omega.{arith}
use mathlib.Core.Path.{◌≡◌, ap, subst, ◌∙◌}
use mathlib.Core.List.{[], ◌∷◌}
use Prim.Native.Nat.{ℕ, ◌+◌, ◌*◌, ◌≤◌}
use lib.ListN.{length, get_or}
use lib.IntN.{pos}
use mir.Syntax.{w32}
use Rattle.signed.proofs.Signed.{is, got}
use Rattle.log_digits.specs.Digits.{digits_for}
use Rattle.log_digits.proofs.Writing.{written-length}
use Rattle.log_text.specs.Answer.{done_byte, done_size, done_bytes, Puts}
use Rattle.log_text.proofs.Putting.{two-written}
use Rattle.log_text.proofs.Results.{told_none, told_more, told-all}
use Rattle.log_text.proofs.text.put_results.Goals as goal

pub loop-i-init : goal.loop-i-init
loop-i-init c = told_none c.args.results.now _

pub put_result-requires : goal.put_result-requires
put_result-requires c =
    let begun : length c.put_byte-2.new.line
    ≡ length c.args.out.now = ap length (two-written c.args.out.now 0 done_byte (length c.args.results.now) (omega (arith, c.requires.1))
    c.put_byte.ensures c.put_byte-2.ensures)
    ∙ written-length c.args.out.now (done_byte ∷ length c.args.results.now ∷ []) 0 (omega (arith, c.requires.1)) in
    let room : digits_for
    (done_size (length c.args.results.now))
    ≤ length c.put_byte-2.new.line = omega (arith, begun, c.requires.1) in
    omega (arith, c.loop-i.invariant, room)

pub loop-i-preserved : goal.loop-i-preserved
loop-i-preserved c =
    let begun : length c.put_byte-2.new.line
    ≡ length c.args.out.now = ap length (two-written c.args.out.now 0 done_byte (length c.args.results.now) (omega (arith, c.requires.1))
    c.put_byte.ensures c.put_byte-2.ensures)
    ∙ written-length c.args.out.now (done_byte ∷ length c.args.results.now ∷ []) 0 (omega (arith, c.requires.1)) in
    let room : digits_for
    (done_size (length c.args.results.now))
    ≤ length c.put_byte-2.new.line = omega (arith, begun, c.requires.1) in
    let a = c.args in
    told_more a.results.now c.loop-i.i _ room c.loop-i.invariant (omega arith)
    (is (got w32 (get_or a.results.now c.loop-i.i (pos 0)) c.put_result-arg-in-loop-i-1.given))
    c.put_result.ensures

pub shape_of-out : goal.shape_of-out
shape_of-out c =
    let begun : length c.put_byte-2.new.line
    ≡ length c.args.out.now = ap length (two-written c.args.out.now 0 done_byte (length c.args.results.now) (omega (arith, c.requires.1))
    c.put_byte.ensures c.put_byte-2.ensures)
    ∙ written-length c.args.out.now (done_byte ∷ length c.args.results.now ∷ []) 0 (omega (arith, c.requires.1)) in
    c.loop-i.invariant.kept ∙ begun

pub returns : goal.returns
returns c = let a = c.args in
    let all : c.loop-i.i ≡ length a.results.now = omega (arith, c.loop-i.invariant.within) in
    subst (λ (n : ℕ). Puts (done_bytes a.results.now) a.out.now (2 + 3 * n) c.loop-i.out) all
    (told-all a.results.now a.out.now c.loop-i.i
    c.requires.1
    c.put_byte.ensures c.put_byte-2.ensures
    c.loop-i.invariant (omega arith))
