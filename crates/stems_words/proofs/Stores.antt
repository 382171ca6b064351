-- The stores that a plan may leave out.
use mathlib.Core.Path.{◌≡◌, sym, ap, ◌∙◌}
use mathlib.Core.Bool.{Bool, true, false, cond, ◌&&◌}
use mathlib.Core.List.{List}
use Prim.Native.Nat.{ℕ, ◌-◌}
use lib.IntN.{ℤ}
use Rattle.axis.specs.declared.kinds.Dimension.{Dimension}
use Rattle.axis.specs.declared.kinds.Mark.TheVariants as Marks
use Rattle.axis.specs.declared.edge.Edge.{Edge}
use Rattle.axis.specs.Edge.{edge_at, put_edge, placed}
use Rattle.zones.proofs.Straight.{put_same}
use Rattle.words.specs.Edge.{axis_run, flat_axis}
use Rattle.stems.specs.declared.kinds.Second.{Second}
use Rattle.stems.specs.declared.kinds.Second.TheVariants.{Stays, Placed, Fixed}
use Rattle.stems.specs.Plan.{second_edge, is_over}
use Rattle.words_call.specs.Lent.{edges_of}
use Rattle.words_edge.specs.Whole.{Whole, axis_in, reduced, Became, placing, fixing}
use Rattle.words_edge.proofs.Became.{stays, became-as}
use Rattle.stems_words.specs.Stems.{putting_second, holding}

-- ---- the second edge
module _ (k : ℕ) {ws : List ℤ} {x : Second} where
  pub second-stays : Whole ws → x ≡ Stays → Became (putting_second k x) ws ws
  unfolding second_edge
  second-stays w e =
      stays (putting_second k x) w (λ (d : Dimension). sym (put_same (axis_in ws d) k) ∙ ap (λ (y : Second). putting_second k y (axis_in ws d)) (sym e))

  pub second-placed : {ws' : List ℤ} {z v : ℤ} → x ≡ Placed z → v ≡ z → Became (placing k v Marks.Linked) ws ws' → Became (putting_second k x) ws ws'
  unfolding second_edge
  second-placed e q b =
      became-as (λ (d : Dimension). ap (λ (y : ℤ). placing k y Marks.Linked (axis_in ws d)) q ∙ ap (λ (y : Second). putting_second k y (axis_in ws d)) (sym e)) b

  pub second-fixed : {ws' : List ℤ} {z v : ℤ} → x ≡ Fixed z → v ≡ z → Became (fixing k v Marks.Stem) ws ws' → Became (putting_second k x) ws ws'
  unfolding second_edge
  second-fixed e q b =
      became-as (λ (d : Dimension). ap (λ (y : ℤ). fixing k y Marks.Stem (axis_in ws d)) q ∙ ap (λ (y : Second). putting_second k y (axis_in ws d)) (sym e)) b

-- ---- the bound
-- it is kept to where two tests hold
abbrev held_if : List ℤ → ℕ → ℕ → Dimension → Bool → Bool → Edge
held_if ws i k d bounded over = cond (bounded && over) (placed (edge_at (axis_in ws d) i) (edge_at (axis_in ws d) (i - 1)).pos Marks.Bound) (edge_at (axis_in ws d) i)

module _ (ws : List ℤ) (bounded : Bool) (i k : ℕ) where
  pub hold-free : Whole ws → bounded ≡ false → Became (holding bounded i k) ws ws
  hold-free w b = stays (holding bounded i k) w (λ (d : Dimension). sym (put_same (axis_in ws d) i) ∙ ap (λ (t : Bool). holding t i k (axis_in ws d)) (sym b))

  module _ {j : ℕ} {edge prev link : Edge} {over : Bool} (b : bounded ≡ true) (p : j ≡ i - 1) (e : edge ≡ reduced (edge_at (edges_of ws) i))
      (f : prev ≡ reduced (edge_at (edges_of ws) j))
      (g : link ≡ reduced (edge_at (edges_of ws) k)) (o : over ≡ is_over edge prev link) where
    prev-is : prev ≡ reduced (edge_at (edges_of ws) (i - 1))
    prev-is = f ∙ ap (λ (n : ℕ). reduced (edge_at (edges_of ws) n)) p

    held-as : (d : Dimension) {t : Bool} → over ≡ t → held_if ws i k d true t
        ≡ held_if ws i k d bounded (is_over (edge_at (axis_in ws d) i) (edge_at (axis_in ws d) (i - 1)) (edge_at (axis_in ws d) k))
    unfolding flat_axis axis_run
    held-as d t = λ n. held_if ws i k d (sym b n) ((sym t ∙ o ∙ (λ x. is_over (e x) (prev-is x) (g x))) n)

    pub hold-under : Whole ws → over ≡ false → Became (holding bounded i k) ws ws
    hold-under w t = stays (holding bounded i k) w (λ (d : Dimension). sym (put_same (axis_in ws d) i) ∙ ap (put_edge (axis_in ws d) i) (held-as d t))

    pub hold-over : {ws' : List ℤ} {z : ℤ} → over ≡ true → z ≡ prev.pos → Became (placing i z Marks.Bound) ws ws' → Became (holding bounded i k) ws ws'
    unfolding flat_axis axis_run
    hold-over t q a =
        became-as
        (λ (d : Dimension).
        ap (λ (x : ℤ). placing i x Marks.Bound (axis_in ws d)) (q ∙ ap (λ (x : Edge). x.pos) prev-is) ∙ ap (put_edge (axis_in ws d) i) (held-as d t))
        a
