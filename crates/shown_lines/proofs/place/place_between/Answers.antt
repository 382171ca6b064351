-- `shown_lines::place::place_between` meets its contract.
use Rattle.shown_lines.proofs.place.place_between.Goals as goal

pub returns : goal.returns
returns c = let x = c.doubled_at-x.ensures in
    let y = c.doubled_at-y.ensures in
    (λ i. record { x = x.0 i; y = y.0 i }, record { x_less = x.1; y_less = y.1 })
