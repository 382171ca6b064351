-- The promise of `take_line` determines what it hands back and the lent list.
use mathlib.Core.Path.{◌≡◌, sym, ◌∙◌}
use mathlib.Core.List.{List}
use Prim.Native.Nat.{ℕ}
use Rattle.log_lines.specs.Cutting.{Took}
use Rattle.log_lines.specs.declared.cutter.Taken.{Taken}

pub determined : (block : List ℕ) (from : ℕ) (l : List ℕ) (count : ℕ) (r s : Taken) (d e : List ℕ) → Took block from l count r d → Took block from l count s e
    → (r ≡ s) × (d ≡ e)
determined block from l count r s d e x y = (
  λ i. record { at = (x.behind ∙ sym y.behind) i; count = (x.count ∙ sym y.count) i; ended = (x.ended ∙ sym y.ended) i },
  x.list
      ∙ sym y.list,
)
