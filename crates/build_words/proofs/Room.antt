-- Which words of the room for edges building can change: those of the edges that it tells, and with a refusal none.
use mathlib.Core.Path.{◌≡◌, refl, sym, ap, subst, ◌∙◌}
use mathlib.Core.Bool.{Bool, true, false, cond, ◌&&◌}
use mathlib.Core.List.{List, ◌++◌}
use Prim.Native.Nat.{ℕ, ◌+◌, ◌-◌, ◌*◌, ◌%◌, ◌≤◌}
use native.Mathlib.Omega.{arith}
use borrow.Author.Tests.{eqb-true, ltb-false}
use lib.Dec.{eqb, ltb}
use lib.ListN.{length, drop}
use lib.Seq.{get_or-append-add, get_or-drop}
use lib.IntN.{ℤ, pos}
use Rattle.refusals.proofs.Tests.{and_second, all_hold}
use Rattle.axis.specs.declared.edge.Axis.{Axis}
use Rattle.axis.specs.Limits.{most_edges}
use Rattle.build.specs.declared.numbers.Thresholds.{Thresholds}
use Rattle.words.specs.Word.{word_at, written, joined}
use Rattle.words.specs.Edge.{edge_size, table_size, edge_words_at}
use Rattle.words.specs.Segment.{segment_size}
use Rattle.words.proofs.Writing.{written-front, written-length}
use Rattle.words.proofs.Tables.{joined_length}
use Rattle.words.proofs.Edges.{edge-lengths}
use Rattle.words_call.specs.Lent.{segments_front}
use Rattle.words_call.specs.Kept.{KeptBut}
use Rattle.words_call.proofs.Kept.{passed}
use Rattle.build_words.specs.Lent as Build
use Rattle.build_words.proofs.Counts.{built-few}

-- the words of the first n edges
abbrev pub of_first : ℕ → ℕ → Bool
of_first n k = ltb k (edge_size * n)

-- behind what is written from the front on
behind : (xs room : List ℤ) (k : ℕ) → length xs ≤ k → word_at (xs ++ drop (length xs) room) k ≡ word_at room k
behind xs room k h =
    let q : length xs + (k - length xs) ≡ k = omega arith in
    ap (word_at (xs ++ drop (length xs) room)) (sym q) ∙ get_or-append-add xs (drop (length xs) room) (k - length xs) (pos 0)
    ∙ get_or-drop (length xs) room (k - length xs) (pos 0)
    ∙ ap (word_at room) q

into-kept : (room : List ℤ) (axis : Axis) → edge_size * axis.len ≤ length room → KeptBut (of_first axis.len) room (Build.edges_into room axis)
into-kept room axis h =
    let words = joined (edge_words_at axis) axis.len in
    let size = joined_length (edge_words_at axis) edge_size (edge-lengths axis) axis.len in
    record {
      size = written-length room words 0 (omega (arith, size));
      word = λ (k : ℕ) (f : of_first axis.len k ≡ false).
          ap (λ (l : List ℤ). word_at l k) (written-front room words) ∙ behind words room k (omega (arith, size, ltb-false k (edge_size * axis.len) f));
    }

-- nothing is changed
all-kept : (named : ℕ → Bool) (room : List ℤ) → KeptBut named room room
all-kept named room = record { size = refl; word = λ k f. refl }

module _ (ws room : List ℤ) (dim major group ttb scale : ℤ) (t : Thresholds) (count : ℤ) {r : ℕ} {now edges : List ℤ} {n : ℤ}
    (l : Build.BuiltLent ws room dim major group ttb scale t count r (now, (edges, n))) where
  abbrev axis : Axis
  axis = (Build.built ws dim major group ttb scale t).axis

  abbrev Kept : List ℤ → Type 0
  Kept = KeptBut (of_first axis.len) room

  -- the room has the table's length where the call is done
  room-long : r ≡ 0 → length room ≡ table_size
  unfolding segments_front
  room-long z =
      let q = (passed (Build.build_front ws room dim major group ttb) _ (sym z ∙ l.number)).0 in
      eqb-true (length room) table_size (and_second (eqb (length ws % segment_size) 0) _ (all_hold (Build.build_front ws room dim major group ttb) refl q).0)

  pub room-kept : Kept edges
  room-kept = by (eqb r 0) refl l.held
    where
      by : (b : Bool) → eqb r 0 ≡ b
          → ◌≡◌ {A =
          List ℤ × (List ℤ × ℤ)} (now, (edges, n)) (cond (eqb r 0) (Build.built_lists ws room (Build.built ws dim major group ttb scale t))
          (ws, (room, count)))
          → Kept edges
      by true q e =
          let there = rw q at e in
          subst Kept (sym (ap (λ (p : List ℤ × (List ℤ × ℤ)). p.1.0) there))
          (into-kept room axis (omega (arith, room-long (eqb-true r 0 q), built-few ws dim major group ttb scale t)))
      by false q e =
          let there = rw q at e in
          subst Kept (sym (ap (λ (p : List ℤ × (List ℤ × ℤ)). p.1.0) there)) (all-kept (of_first axis.len) room)
