-- The promise of `reply_to` determines what it hands back and the lent bytes.
use mathlib.Core.Path.{◌≡◌, sym, ◌∙◌}
use mathlib.Core.Bool.{Bool}
use mathlib.Core.List.{List}
use Prim.Native.Nat.{ℕ}
use Rattle.log_reply.specs.Reply.{Replies}

pub determined : (line : List ℕ) (ended : Bool) (out : List ℕ) (r s : ℕ) (d e : List ℕ) → Replies line ended out r d → Replies line ended out s e
    → (r ≡ s) × (d ≡ e)
determined line ended out r s d e x y = (x.size ∙ sym y.size, x.leaves ∙ sym y.leaves)
