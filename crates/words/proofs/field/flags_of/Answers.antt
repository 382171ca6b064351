-- `words::field::flags_of` meets its contract.
use Rattle.words.specs.Field.{odd_of, flags_of}
use mathlib.Core.Path.{◌≡◌, ap, ◌∙◌}
use Prim.Native.Nat.{ℕ, ◌/◌}
use Rattle.signed.specs.Parts.{up}
use Rattle.signed.proofs.Signed.{is}
use Rattle.words.proofs.field.flags_of.Goals as goal
use Rattle.words.proofs.field.flags_of.Goals.{After-size_of-n}

-- the number is the word's
number : (c : After-size_of-n) → c.size_of-n.result ≡ up c.args.word
number c = c.size_of-n.ensures ∙ ap up (is c.ranges.word)

pub returns : goal.returns
unfolding flags_of
returns c =
    let done = c.before in
    let serif = done.before in
    let round = serif.before in
    let e = number round.before in
    λ i. record {
      round = (round.odd.ensures ∙ ap odd_of e) i;
      serif = (serif.odd-2.ensures ∙ ap (λ (n : ℕ). odd_of (n / 2)) e) i;
      done = (done.odd-3.ensures ∙ ap (λ (n : ℕ). odd_of (n / 4)) e) i;
      neutral = (c.odd-4.ensures ∙ ap (λ (n : ℕ). odd_of (n / 8)) e) i;
    }
