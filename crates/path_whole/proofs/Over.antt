-- Steps laid from the beginning of lent lists on are written over it, and what stands behind stays.
use mathlib.Core.Path.{◌≡◌, refl, sym, ap, ◌∙◌}
use mathlib.Core.List.{List, [], ◌∷◌, ◌++◌, append_assoc}
use Prim.Native.Nat.{ℕ, suc, ◌+◌, ◌*◌, ◌≤◌}
use native.Mathlib.Nat.{zero-add, suc-add, add-zero}
use native.Mathlib.Omega.{arith}
use lib.Ieee.{Float}
use lib.ListN.{length, set, drop, length-append}
use lib.Seq.{set-append_seam}
use Rattle.path_places.specs.declared.PixelPoint.{PixelPoint}
use Rattle.path_trip.specs.declared.step.PathStep.{PathStep}
use Rattle.path_trip.specs.Numbers.{kind_of, first_of, second_of}
use Rattle.path.specs.Lending.{four}
use Rattle.path_lay.specs.Laying.{Lists, lent, placed_at, laid, lay, Room}
use Rattle.path_whole.specs.Writing.{kinds_of, numbers_of, written}

-- a store behind a list
set_past : {A : Type 0} (xs ys : List A) (i : ℕ) (a : A) → set (xs ++ ys) (length xs + i) a ≡ xs ++ set ys i a
set_past [] ys i a = ap (λ (k : ℕ). set ys k a) (zero-add i)
set_past (x ∷ xs) ys i a = ap (λ (k : ℕ). set (x ∷ (xs ++ ys)) k a) (suc-add (length xs) i) ∙ ap (λ l. x ∷ l) (set_past xs ys i a)

past : {A : Type 0} (xs ys : List A) (i j : ℕ) (a : A) → j ≡ length xs + i → set (xs ++ ys) j a ≡ xs ++ set ys i a
past xs ys i j a e = ap (λ (k : ℕ). set (xs ++ ys) k a) e ∙ set_past xs ys i a

-- two places behind 4 · n numbers
placed : (n : ℕ) (bs : List Float) (a b c d : Float) (ps : List Float) (p q : PixelPoint) → length bs ≡ 4 * n
    → placed_at (placed_at (bs ++ a ∷ b ∷ c ∷ d ∷ ps) (4 * n) p) (4 * n + 2) q ≡ bs ++ (four p q ++ ps)
placed n bs a b c d ps p q e =
    ap (λ (l : List Float). set (set (set l (4 * n + 1) p.y) (4 * n + 2) q.x) (4 * n + 2 + 1) q.y)
    (past bs (a ∷ b ∷ c ∷ d ∷ ps) 0 (4 * n) p.x (omega arith))
    ∙ ap (λ (l : List Float). set (set l (4 * n + 2) q.x) (4 * n + 2 + 1) q.y) (past bs (p.x ∷ b ∷ c ∷ d ∷ ps) 1 (4 * n + 1) p.y (omega arith))
    ∙ ap (λ (l : List Float). set l (4 * n + 2 + 1) q.y) (past bs (p.x ∷ p.y ∷ c ∷ d ∷ ps) 2 (4 * n + 2) q.x (omega arith))
    ∙ past bs (p.x ∷ p.y ∷ q.x ∷ d ∷ ps) 3 (4 * n + 2 + 1) q.y (omega arith)

-- one step behind others
laid-behind : (gs : List ℕ) (k : ℕ) (ks : List ℕ) (bs : List Float) (a b c d : Float) (ps : List Float) (s : PathStep) → length bs ≡ 4 * length gs
    → laid (lent (gs ++ k ∷ ks) (bs ++ a ∷ b ∷ c ∷ d ∷ ps) (length gs)) s
    ≡ lent ((gs ++ (kind_of s ∷ [])) ++ ks) ((bs ++ four (first_of s) (second_of s)) ++ ps) (length (gs ++ (kind_of s ∷ [])))
unfolding laid
laid-behind gs k ks bs a b c d ps s e =
    let n : length gs + 1 ≡ length (gs ++ (kind_of s ∷ [])) = sym (length-append gs (kind_of s ∷ [])) in
    let l = set-append_seam gs k ks (kind_of s) ∙ sym (append_assoc gs (kind_of s ∷ []) ks) in
    let m = placed (length gs) bs a b c d ps (first_of s) (second_of s) e ∙ sym (append_assoc bs (four (first_of s) (second_of s)) ps) in
    λ i. lent (l i) (m i) (n i)

-- steps behind others
lay-behind : (p : List PathStep) (gs ks : List ℕ) (bs ps : List Float) → length p ≤ length ks → 4 * length p ≤ length ps → length bs ≡ 4 * length gs
    → lay (lent (gs ++ ks) (bs ++ ps) (length gs)) p
    ≡ lent (gs ++ (kinds_of p ++ drop (length p) ks)) (bs ++ (numbers_of p ++ drop (4 * length p) ps)) (length gs + length p)
unfolding lay kinds_of numbers_of
lay-behind [] gs ks bs ps h g e = let n : length gs ≡ length gs + 0 = sym (add-zero (length gs)) in λ i. lent (gs ++ ks) (bs ++ ps) (n i)
lay-behind (s ∷ p) gs [] bs ps h g e = let z : ⊥ = omega arith in absurd z
lay-behind (s ∷ p) gs (k ∷ ks) bs [] h g e = let z : ⊥ = omega arith in absurd z
lay-behind (s ∷ p) gs (k ∷ ks) bs (a ∷ []) h g e = let z : ⊥ = omega arith in absurd z
lay-behind (s ∷ p) gs (k ∷ ks) bs (a ∷ b ∷ []) h g e = let z : ⊥ = omega arith in absurd z
lay-behind (s ∷ p) gs (k ∷ ks) bs (a ∷ b ∷ c ∷ []) h g e = let z : ⊥ = omega arith in absurd z
lay-behind (s ∷ p) gs (k ∷ ks) bs (a ∷ b ∷ c ∷ d ∷ ps) h g e =
    let gs' = gs ++ (kind_of s ∷ []) in
    let bs' = bs ++ four (first_of s) (second_of s) in
    let e' : length bs' ≡ 4 * length gs' = omega (arith, length-append gs (kind_of s ∷ []), length-append bs (four (first_of s) (second_of s))) in
    let n : length gs' + length p ≡ length gs + suc (length p) = omega (arith, length-append gs (kind_of s ∷ [])) in
    let m : suc (suc (suc (suc (4 * length p)))) ≡ 4 * suc (length p) = omega arith in
    let l = append_assoc gs (kind_of s ∷ []) (kinds_of p ++ drop (length p) ks) in
    let j =
    append_assoc bs (four (first_of s) (second_of s)) (numbers_of p ++ drop (4 * length p) ps)
    ∙ ap (λ (i : ℕ). bs ++ (four (first_of s) (second_of s) ++ (numbers_of p ++ drop i (a ∷ b ∷ c ∷ d ∷ ps)))) m in
    ap (λ (x : Lists). lay x p) (laid-behind gs k ks bs a b c d ps s e) ∙ lay-behind p gs' ks bs' ps (omega arith) (omega arith) e'
    ∙ λ i. lent (l i) (j i) (n i)

-- steps from the beginning on
pub lay-over : (p : List PathStep) (ks : List ℕ) (ps : List Float) (n : ℕ) → Room (lent ks ps 0) (length p) → lay (lent ks ps 0) p ≡ written p (lent ks ps n)
lay-over p ks ps n r =
    let z : 0 + length p ≡ length p = zero-add (length p) in
    lay-behind p [] ks [] ps (omega (arith, r.kinds_room)) (omega (arith, r.places_room)) refl
    ∙ λ i. lent (kinds_of p ++ drop (length p) ks) (numbers_of p ++ drop (4 * length p) ps) (z i)
