-- What it takes to adjust an edge, by what the code has read of it.
use Rattle.std.specs.Prelude.{None, Some}
use mathlib.Core.Path.{◌≡◌, refl, sym, ap, ◌∙◌}
use mathlib.Core.Bool.{Bool, true, false, cond}
use mathlib.Core.List.{List}
use Prim.Native.Nat.{ℕ, ◌+◌, ◌-◌, ◌<◌}
use lib.IntN.{ℤ}
use Rattle.axis.specs.declared.kinds.Dimension.{Dimension}
use Rattle.axis.specs.Link.{Link}
use Rattle.axis.specs.declared.kinds.Mark.TheVariants.{Bound}
use Rattle.axis.specs.declared.edge.Axis.{Axis}
use Rattle.axis.specs.Edge.{edge_at, put_edge, placed}
use Rattle.axis.proofs.Acceptance.{below_none, below-to}
use Rattle.place.specs.declared.adjust.LinkDir.{LinkDir}
use Rattle.place.specs.declared.adjust.LinkDir.TheVariants.{Prev, Next}
use Rattle.place.specs.Placing.{lower_bound, upper_bound, has_passed, is_far, neighbour, held_to, bound_by, adjusted}
use Rattle.place.proofs.Neighbours.{adjusted-first, adjusted-later}
use Rattle.words.specs.Edge.{axis_run, flat_axis, edges_in}
use Rattle.words_call.specs.Lent.{edges_of}
use Rattle.words_edge.specs.Whole.{Whole, axis_in, Became, placing}
use Rattle.words_edge.proofs.Became.{stays, became-as}
use Rattle.place_words.specs.Placing.{adjusting, held_at, BoundBy}

-- ---- of an axis
module _ (axis : Axis) (i : ℕ) (dir : LinkDir) (later : i ≡ 0 → ⊥) where
  alone : neighbour dir axis i ≡ None → axis ≡ adjusted axis i dir
  unfolding bound_by
  alone n = rw (adjusted-later axis i dir later, n)

  module _ (k : ℕ) (n : neighbour dir axis i ≡ Some k) where
    unpassed : has_passed dir (edge_at axis i).pos (edge_at axis k).pos ≡ false → axis ≡ adjusted axis i dir
    unfolding bound_by
    unpassed p = rw (adjusted-later axis i dir later, n, p)

    module _ (p : has_passed dir (edge_at axis i).pos (edge_at axis k).pos ≡ true) where
      unlinked : (edge_at axis i).link ≡ None → axis ≡ adjusted axis i dir
      unfolding bound_by held_to
      unlinked l = rw (adjusted-later axis i dir later, n, p, l)

      near : (l : ℕ) → (edge_at axis i).link ≡ Some l → is_far (edge_at axis l).pos (edge_at axis (i - 1)).pos ≡ false → axis ≡ adjusted axis i dir
      unfolding bound_by held_to
      near l e f = rw (adjusted-later axis i dir later, n, p, e, f)

      held : (l : ℕ) → (edge_at axis i).link ≡ Some l → is_far (edge_at axis l).pos (edge_at axis (i - 1)).pos ≡ true
          → put_edge axis i (placed (edge_at axis i) (edge_at axis k).pos Bound) ≡ adjusted axis i dir
      unfolding bound_by held_to
      held l e f =
          sym (adjusted-later axis i dir later ∙ ap (bound_by axis (i - 1) i dir) n
          ∙ ap (λ (t : Bool). cond t (held_to axis (i - 1) i k (edge_at axis i).link) axis) p
          ∙ ap (held_to axis (i - 1) i k) e ∙ ap (λ (t : Bool). cond t (put_edge axis i (placed (edge_at axis i) (edge_at axis k).pos Bound)) axis) f)

-- ---- of words
-- the neighbour is the same on every dimension
neighbour-same : (ws : List ℤ) (d : Dimension) (i : ℕ) (dir : LinkDir) → neighbour dir (axis_in ws d) i ≡ neighbour dir (edges_of ws) i
unfolding neighbour upper_bound flat_axis axis_run
neighbour-same ws d i Prev = refl
neighbour-same ws d i Next = refl

module _ (ws : List ℤ) (i : ℕ) (dir : LinkDir) where
  abbrev E : Axis
  E = edges_of ws

  pub bound-first : i ≡ 0 → BoundBy ws i dir None
  bound-first e = record { below = below_none _; axis = λ (d : Dimension). adjusted-first (axis_in ws d) i dir e }

  module _ (later : i ≡ 0 → ⊥) where
    pub bound-alone : neighbour dir E i ≡ None → BoundBy ws i dir None
    bound-alone n = record { below = below_none _; axis = λ (d : Dimension). alone (axis_in ws d) i dir later (neighbour-same ws d i dir ∙ n) }

    module _ (k : ℕ) (n : neighbour dir E i ≡ Some k) where
      pub bound-unpassed : has_passed dir (edge_at E i).pos (edge_at E k).pos ≡ false → BoundBy ws i dir None
      unfolding flat_axis axis_run
      bound-unpassed p = record { below = below_none _; axis = λ (d : Dimension). unpassed (axis_in ws d) i dir later k (neighbour-same ws d i dir ∙ n) p }

      module _ (p : has_passed dir (edge_at E i).pos (edge_at E k).pos ≡ true) where
        pub bound-unlinked : (edge_at E i).link ≡ None → BoundBy ws i dir None
        unfolding flat_axis axis_run
        bound-unlinked e = record { below = below_none _; axis = λ (d : Dimension). unlinked (axis_in ws d) i dir later k (neighbour-same ws d i dir ∙ n) p e }

        pub bound-near : (l : ℕ) → (edge_at E i).link ≡ Some l → is_far (edge_at E l).pos (edge_at E (i - 1)).pos ≡ false → BoundBy ws i dir None
        unfolding flat_axis axis_run
        bound-near l e f = record { below = below_none _; axis = λ (d : Dimension). near (axis_in ws d) i dir later k (neighbour-same ws d i dir ∙ n) p l e f }

        pub bound-held : (l : ℕ) → (edge_at E i).link ≡ Some l → is_far (edge_at E l).pos (edge_at E (i - 1)).pos ≡ true → k < edges_in ws
            → BoundBy ws i dir (Some k)
        unfolding flat_axis axis_run
        bound-held l e f h =
            record { below = below-to _ k h; axis = λ (d : Dimension). held (axis_in ws d) i dir later k (neighbour-same ws d i dir ∙ n) p l e f }

-- ---- the store
module _ (ws : List ℤ) (i : ℕ) (dir : LinkDir) where
  pub adjust-stays : {bound : Link} → Whole ws → BoundBy ws i dir bound → bound ≡ None → Became (adjusting i dir) ws ws
  adjust-stays {bound} w b e = stays (adjusting i dir) w (λ (d : Dimension). sym (ap (held_at (axis_in ws d) i) e) ∙ b.axis d)

  pub adjust-law : {bound : Link} {ws' : List ℤ} (k : ℕ) {z : ℤ} → BoundBy ws i dir bound → bound ≡ Some k → z ≡ (edge_at (edges_of ws) k).pos
      → Became (placing i z Bound) ws ws'
      → Became (adjusting i dir) ws ws'
  unfolding flat_axis axis_run
  adjust-law {bound} k {z} b e p a =
      became-as
      (λ (d : Dimension).
      ap (λ (x : ℤ). put_edge (axis_in ws d) i (placed (edge_at (axis_in ws d) i) x Bound)) p ∙ sym (ap (held_at (axis_in ws d) i) e) ∙ b.axis d)
      a
