-- Rings while they are built: each member's next is the member behind it, and the last one's is the first.
use mathlib.Core.Path.{◌≡◌, refl, sym, ap, ◌∙◌}
use mathlib.Core.Bool.{true}
use mathlib.Core.List.{List, [], ◌∷◌, ◌++◌}
use Prim.Native.Nat.{ℕ, zero, suc, ◌≤◌, ◌<◌}
use native.Mathlib.Omega.{arith}
use borrow.Author.Tests.{eq-eqb, ne_eqb, lt-ltb}
use lib.ListN.{length, get_or, set, length-set}
use lib.Seq.{get_or-set_same, get_or-set_other}
use Rattle.axis.specs.Limits.{most_segments}
use Rattle.axis.specs.Ring.{walk, ends, times}
use Rattle.axis.proofs.Rings.{Passes, shorter}
use Rattle.build_join.specs.Joining.{head_or, last_of, last_in, appended}
use Rattle.build_join.specs.Walks.{next_in}
use Rattle.build_join.proofs.Members.{times-head, times-apart, times_more, times-last, Once, once-rest, head-last}

-- ---- chains
-- each member's next is the member behind it, and the last one's is f
unfoldable pub Chain : List ℕ → ℕ → List ℕ → Type 0
Chain next f [] = Unit
Chain next f (m ∷ ms) = (get_or next m 0 ≡ head_or f ms) × Chain next f ms

pub chain-none : (next g : List ℕ) → g ≡ [] → Chain next (head_or 0 g) g
unfolding Chain
chain-none next g e = rw e tt

-- a store elsewhere leaves it
pub chain-other : (next : List ℕ) (f : ℕ) (ms : List ℕ) (i v : ℕ) → times i ms ≡ 0 → Chain next f ms → Chain (set next i v) f ms
unfolding Chain
chain-other next f [] i v h r = tt
chain-other next f (m ∷ ms) i v h r =
    let a = times-apart i m ms h in
    (get_or-set_other next i m v 0 (λ e. a.head (sym e)) ∙ r.0, chain-other next f ms i v a.rest r.1)

-- a store behind the last leads it elsewhere
chain-retarget : (next : List ℕ) (f g m : ℕ) (ms : List ℕ) → Once (m ∷ ms) → last_of m ms < length next → Chain next f (m ∷ ms)
    → Chain (set next (last_of m ms) g) g (m ∷ ms)
unfolding Chain
chain-retarget next f g m [] o l r = (get_or-set_same next m g 0 l, tt)
chain-retarget next f g m (x ∷ ms) o l r =
    (get_or-set_other next (last_of x ms) m g 0 (head-last m x ms o) ∙ r.0, chain-retarget next f g x ms (once-rest m (x ∷ ms) o) l r.1)

head-snoc : (f i : ℕ) (ms : List ℕ) → head_or f (ms ++ i ∷ []) ≡ head_or i ms
head-snoc f i [] = refl
head-snoc f i (m ∷ ms) = refl

chain_snoc : (next : List ℕ) (f i : ℕ) (ms : List ℕ) → Chain next i ms → get_or next i 0 ≡ f → Chain next f (ms ++ i ∷ [])
unfolding Chain
chain_snoc next f i [] r h = (h, tt)
chain_snoc next f i (m ∷ ms) r h = (r.0 ∙ sym (head-snoc f i ms), chain_snoc next f i ms r.1 h)

-- ---- rings
-- a new edge is a ring of one
pub ring-one : (next : List ℕ) (i : ℕ) → i < length next → Chain (set next i i) i (i ∷ [])
unfolding Chain
ring-one next i h = (get_or-set_same next i i 0 h, tt)

-- appending keeps the ring, with one member more
ring-append : (next : List ℕ) (f m i : ℕ) (ms : List ℕ) → Once (m ∷ ms) → times i (m ∷ ms) ≡ 0 → i < length next → last_of m ms < length next
    → Chain next f (m ∷ ms)
    → Chain (appended next f (last_of m ms) i) f ((m ∷ ms) ++ i ∷ [])
ring-append next f m i ms o h hi hl r =
    chain_snoc (appended next f (last_of m ms) i) f i (m ∷ ms)
    (chain-retarget (set next i f) f i m ms o (rw length-set hl) (chain-other next f (m ∷ ms) i f h r))
    (get_or-set_other (set next i f) (last_of m ms) i i 0 (λ e. let z : times (last_of m ms) (m ∷ ms) ≡ 0 = rw e at h in omega (arith, times-last m ms))
    ∙ get_or-set_same next i f 0 hi)

pub ring-more : (next g : List ℕ) (i : ℕ) → 0 < length g → Once g → times i g ≡ 0 → i < length next → last_in g < length next → Chain next (head_or 0 g) g
    → Chain (appended next (head_or 0 g) (last_in g) i) (head_or 0 (g ++ i ∷ [])) (g ++ i ∷ [])
ring-more next [] i h o f hi hl r = absurd (omega arith)
ring-more next (m ∷ ms) i h o f hi hl r = ring-append next m m i ms o f hi hl r

-- and leaves the other rings
pub ring-apart : (next : List ℕ) (g f last i : ℕ) (ms : List ℕ) → times i ms ≡ 0 → times last ms ≡ 0 → Chain next g ms → Chain (appended next f last i) g ms
ring-apart next g f last i ms hi hl r = chain-other (set next i f) g ms last i hl (chain-other next g ms i f hi r)

-- ---- walks
-- the walk of a ring from its first to its last passes the members in order
pub walk-ring : (next : List ℕ) (f m : ℕ) (ms : List ℕ) (n : ℕ) → Once (m ∷ ms) → length ms ≤ n → Chain next f (m ∷ ms)
    → walk (next_in next) (last_of m ms) n m ≡ m ∷ ms
unfolding walk Chain
walk-ring next f m [] zero o h r = refl
walk-ring next f m [] (suc n) o h r = rw (eq-eqb m m refl)
walk-ring next f m (x ∷ ms) zero o h r = absurd (omega arith)
walk-ring next f m (x ∷ ms) (suc n) o h r =
    rw (ne_eqb m (last_of x ms) (head-last m x ms o), r.0)
    (ap (λ (l : List ℕ). m ∷ l) (walk-ring next f x ms n (once-rest m (x ∷ ms) o) (omega arith) r.1))

-- and ends
pub ends-ring : (next : List ℕ) (f m : ℕ) (ms : List ℕ) (n : ℕ) → Once (m ∷ ms) → ((x : ℕ) → 0 < times x (m ∷ ms) → x < most_segments) → length ms ≤ n
    → Chain next f (m ∷ ms)
    → ends (next_in next) most_segments (last_of m ms) n m ≡ true
unfolding ends Chain
ends-ring next f m [] zero o b h r = eq-eqb m m refl
ends-ring next f m [] (suc n) o b h r = rw (eq-eqb m m refl)
ends-ring next f m (x ∷ ms) zero o b h r = absurd (omega arith)
ends-ring next f m (x ∷ ms) (suc n) o b h r =
    rw (ne_eqb m (last_of x ms) (head-last m x ms o), r.0, lt-ltb x most_segments (b x (omega (arith, times-head x ms, times_more x m (x ∷ ms)))))
    (ends-ring next f x ms n (once-rest m (x ∷ ms) o) (λ y p. b y (omega (arith, times_more y m (x ∷ ms)))) (omega arith) r.1)

-- what is left of a walk is less behind a step
pub fewer : (next : ℕ → ℕ) (most last n ix : ℕ) → Passes next most last n ix → length (walk next last n (next ix)) < length (walk next last n ix)
fewer next most last n ix p = omega (arith, shorter next most last n ix p)
