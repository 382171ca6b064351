-- Values of the definitions, worked out by hand from document 01 at negatives and limits: one table, one statement.
use Rattle.std.proofs.Common.{◌≡◌, List, [], ◌∷◌, map, pos, refl}
use Rattle.signed.specs.Table.{Row, ◌is◌, minus}
use Rattle.middle.specs.Middle.{residue, wrap_z, mid_pos, mid_delta}

unfoldable pub rows : List Row
rows =
    (mid_pos (pos 10) (pos 21) is pos 15) ∷
    (mid_pos (minus 1) (pos 0) is minus 1) ∷
    (mid_pos (pos 2147483647) (pos 1) is pos 0) ∷
    (mid_pos (pos 65536) (pos 0) is minus 32768) ∷
    (mid_pos (minus 2147483648) (minus 2147483648) is pos 0) ∷
    (mid_delta (pos 10) (pos 21) is pos 5) ∷
    (mid_delta (pos 21) (pos 10) is minus 6) ∷
    (mid_delta (minus 2147483648) (pos 2147483647) is minus 1) ∷
    []

-- each row holds
pub worked : map (λ (r : Row). r.gives) rows ≡ map (λ (r : Row). r.value) rows
unfolding residue wrap_z mid_pos mid_delta rows
worked = refl
