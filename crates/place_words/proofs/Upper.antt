-- The edge behind an edge, by what the code has read of it.
use Rattle.std.specs.Prelude.{None, Some}
use mathlib.Core.Path.{◌≡◌, sym, ap, ◌∙◌}
use mathlib.Core.Bool.{Bool, cond, ◌&&◌}
use mathlib.Core.List.{List}
use Prim.Native.Nat.{ℕ, ◌+◌, ◌<◌, ◌≤◌}
use borrow.Author.Tests.{lt-ltb, le-ltb}
use lib.IntN.{ℤ}
use Rattle.axis.specs.declared.edge.Edge.{Edge}
use Rattle.axis.specs.Edge.{edge_at}
use Rattle.place.specs.Placing.{upper_bound}
use Rattle.words.specs.Edge.{axis_run, flat_axis, edges_in}
use Rattle.words_call.specs.Lent.{edges_of}
use Rattle.words_edge.specs.Whole.{reduced}

pub upper-none : (ws : List ℤ) (i : ℕ) → edges_in ws ≤ i + 1 → None ≡ upper_bound (edges_of ws) i
unfolding upper_bound flat_axis axis_run
upper-none ws i h = rw (le-ltb (i + 1) (edges_in ws) h)

pub upper-read : (ws : List ℤ) (i : ℕ) (e : Edge) (t : Bool) → i + 1 < edges_in ws → e ≡ reduced (edge_at (edges_of ws) (i + 1)) → e.flags.done ≡ t
    → cond t (Some (i + 1)) None ≡ upper_bound (edges_of ws) i
unfolding upper_bound flat_axis axis_run
upper-read ws i e t h q d =
    sym ((λ k. cond (lt-ltb (i + 1) (edges_in ws) h k && (edge_at (edges_of ws) (i + 1)).flags.done) (Some (i + 1)) None)
    ∙ ap (λ (b : Bool). cond b (Some (i + 1)) None) (sym (ap (λ (x : Edge). x.flags.done) q) ∙ d))
