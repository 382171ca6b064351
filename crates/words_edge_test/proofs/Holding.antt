-- Words that pass the one loop are those of edges, and every call accepts them.
use Rattle.std.specs.Prelude.{None, Some}
use mathlib.Core.Path.{◌≡◌, refl, sym, ap, ◌∙◌}
use mathlib.Core.Bool.{Bool, true, false, cond, ◌||◌}
use mathlib.Core.List.{List}
use Prim.Native.Nat.{ℕ, zero, suc, ◌+◌, ◌*◌, ◌≤◌, ◌<◌, min}
use native.Mathlib.Omega.{arith}
use borrow.Author.Tests.{le-leb, ne_eqb}
use lib.Dec.{eqb}
use lib.ListN.{length}
use lib.IntN.{ℤ, pos, negsuc}
use mir.Syntax.{w32}
use mir.Val.{SFits, of_z}
use Rattle.signed.specs.Equality.{eq_z}
use Rattle.signed.proofs.Signed.{eq_z-true, bits_of}
use Rattle.axis.specs.declared.edge.Edge.{Edge}
use Rattle.axis.specs.Limits.{most_edges, most_units}
use Rattle.axis.specs.Refusals.{within, every_edge, blue_holds, edge_indices, edge_numbers, edges_indices, edges_numbers}
use Rattle.axis.proofs.Accepting.{every_holds}
use Rattle.words.specs.Word.{word_at}
use Rattle.words.specs.Field.{choice_of, blue_of}
use Rattle.words.specs.Edge.{edge_size, edge_from, edges_in}
use Rattle.words.specs.Record.{edge_layout}
use Rattle.words_shape.specs.Place.{Place}
use Rattle.words_shape.specs.declared.element.Record.TheVariants as Records
use Rattle.words_shape.specs.declared.element.Element.TheVariants as Elements
use Rattle.words_shape.specs.Shape as Shape
use Rattle.words_call.specs.Lent.{edges_of}
use Rattle.words_call.proofs.Holding.{and_both, inside-more, link-word, link-holds, fields-make, run-make}
use Rattle.words_call.proofs.Tested.{Passed}
use Rattle.words_edge.proofs.Wholes.{edges-len}
use Rattle.words_edge_test.proofs.Refusals.{edge-held}
use Rattle.words_edge_test.specs.Held.{zone_test, links_to, FrontHeld, BackHeld, Held}

zone-shape : (p v : ℤ) → zone_test p v ≡ true → (eq_z p (pos 1) || eq_z v (pos 0)) ≡ true
unfolding choice_of
zone-shape p v h = by (eq_z p (pos 1)) h
  where
    by : (t : Bool) → cond t (within most_units v) (eq_z v (pos 0)) ≡ true → (t || eq_z v (pos 0)) ≡ true
    by true h = refl
    by false h = h

zone-word : (p v : ℤ) → zone_test p v ≡ true → Shape.is_in Shape.word v ≡ true
zone-word p v h = by (choice_of p) h
  where
    zero_word : (v : ℤ) → eq_z v (pos 0) ≡ true → Shape.is_in Shape.word v ≡ true
    zero_word v h = let e : v ≡ pos 0 = eq_z-true v (pos 0) h in rw e

    by : (t : Bool) → cond t (within most_units v) (eq_z v (pos 0)) ≡ true → Shape.is_in Shape.word v ≡ true
    by true h = inside-more (negsuc 65534) (pos 65535) (negsuc 2147483647) (pos 2147483647) v refl refl h
    by false h = zero_word v h

zone-holds : (p v : ℤ) → zone_test p v ≡ true → blue_holds (blue_of p v) ≡ true
unfolding blue_of blue_holds
zone-holds p v h = by (choice_of p) h
  where
    by : (t : Bool) → cond t (within most_units v) (eq_z v (pos 0)) ≡ true → blue_holds (cond t (Some v) None) ≡ true
    by true h = h
    by false h = refl

pub zero_is : (w : ℤ) → SFits w32 w → eqb (of_z w32 w) 0 ≡ eq_z w (pos 0)
zero_is (pos n) f = refl
zero_is (negsuc n) f = ne_eqb (of_z w32 (negsuc n)) 0 (λ e. omega (arith, e, bits_of f))

pub zone-there : (p v : ℤ) (t r : Bool) → t ≡ choice_of p → t ≡ true → r ≡ within most_units v → r ≡ zone_test p v
zone-there p v t r e g q = q ∙ ap (λ (x : Bool). cond x (within most_units v) (eq_z v (pos 0))) (sym g ∙ e)

pub zone-none : (p v : ℤ) (t r : Bool) → t ≡ choice_of p → t ≡ false → r ≡ eq_z v (pos 0) → r ≡ zone_test p v
zone-none p v t r e g q = q ∙ ap (λ (x : Bool). cond x (within most_units v) (eq_z v (pos 0))) (sym g ∙ e)

-- ---- an edge
abbrev pub EdgeHeld : List ℤ → ℕ → ℕ → Type 0
EdgeHeld ws n at = FrontHeld ws at × BackHeld ws at (links_to n)

module _ (ws : List ℤ) (at n : ℕ) (few : n ≤ most_edges) (room : at + edge_size ≤ length ws) (h : EdgeHeld ws n at) where
  abbrev f : FrontHeld ws at
  f = h.0

  abbrev b : BackHeld ws at (links_to n)
  b = h.1

  words-hold : (k : ℕ) → k < edge_size → Shape.field_in Records.Edge ws at k ≡ true
  words-hold zero l = f.w0
  words-hold (suc zero) l = inside-more (negsuc 65534) (pos 65535) (negsuc 2147483647) (pos 2147483647) (word_at ws (at + 1)) refl refl f.w1
  words-hold (suc (suc zero)) l = inside-more (negsuc 16777215) (pos 16777216) (negsuc 2147483647) (pos 2147483647) (word_at ws (at + 2)) refl refl f.w2
  words-hold (suc (suc (suc zero))) l = f.w3
  words-hold (suc (suc (suc (suc zero)))) l = b.w4
  words-hold (suc (suc (suc (suc (suc zero))))) l = b.w5
  words-hold (suc (suc (suc (suc (suc (suc zero)))))) l = zone-word (word_at ws (at + 5)) (word_at ws (at + 6)) b.w6
  words-hold (suc (suc (suc (suc (suc (suc (suc zero))))))) l = link-word n (word_at ws (at + 7)) (omega (arith, few)) b.w7
  words-hold (suc (suc (suc (suc (suc (suc (suc (suc zero)))))))) l = link-word n (word_at ws (at + 8)) (omega (arith, few)) b.w8
  words-hold (suc (suc (suc (suc (suc (suc (suc (suc (suc zero))))))))) l = b.w9
  words-hold (suc (suc (suc (suc (suc (suc (suc (suc (suc (suc zero)))))))))) l = b.w10
  words-hold (suc (suc (suc (suc (suc (suc (suc (suc (suc (suc (suc zero))))))))))) l = b.w11
  words-hold (suc (suc (suc (suc (suc (suc (suc (suc (suc (suc (suc (suc k)))))))))))) l = absurd (omega arith)

  edge-make : Shape.edge ws at ≡ Some (at + edge_size)
  unfolding Shape.edge Shape.and_then Shape.blue_shown
  edge-make =
      ap (λ (p : Place). Shape.and_then p (λ next. cond (Shape.blue_shown ws at) (Some next) None))
      (fields-make (Shape.ranges_of Records.Edge) ws at room words-hold)
      ∙ ap (λ (t : Bool). cond t (Some (at + edge_size)) None) (zone-shape (word_at ws (at + 5)) (word_at ws (at + 6)) b.w6)

  indices-make : edge_indices n (edge_from ws at) ≡ true
  unfolding edge_indices edge_from
  indices-make = and_both _ _ (link-holds n (word_at ws (at + 7)) (omega (arith, few)) b.w7) (link-holds n (word_at ws (at + 8)) (omega (arith, few)) b.w8)

  numbers-make : edge_numbers (edge_from ws at) ≡ true
  unfolding edge_numbers edge_from
  numbers-make = and_both _ _ f.w1 (and_both _ _ f.w2 (zone-holds (word_at ws (at + 5)) (word_at ws (at + 6)) b.w6))

-- ---- every edge
module _ (ws : List ℤ) (n i : ℕ) (p : Passed edge_layout (EdgeHeld ws n) ws n i) (h : n ≤ i) where
  room : (k : ℕ) → k < n → edge_size * k + edge_size ≤ length ws
  room k l = omega (arith, p.count)

  held : (k : ℕ) → k < n → EdgeHeld ws n (edge_size * k)
  held k l = p.held k (omega arith)

  -- a test that each edge passes that is read
  every_one : (test : Edge → Bool) → ((k : ℕ) → k < n → test (edge_from ws (edge_size * k)) ≡ true) → every_edge test (edges_of ws) ≡ true
  every_one test each =
      every_holds _ (min (edges_of ws).len most_edges) (λ k l. ap test (edge-held ws k (at_most k l)) ∙ each k (omega (arith, edges-len ws, p.count, l)))
    where
      at_most : (k : ℕ) → k < min (edges_of ws).len most_edges → k < min (edges_in ws) most_edges
      at_most k l = let e = edges-len ws in rw e at l

  pub passed-all : Held ws
  unfolding Shape.edges_shown Shape.element edges_indices edges_numbers
  passed-all = record {
    words =
        run-make Elements.Edge edge_size ws (edges_in ws) (omega (arith, p.count, p.long))
        (λ k l. let b = in_all k l in edge-make ws (edge_size * k) n p.few (room k b) (held k b));
    few = le-leb (edges_in ws) most_edges (omega (arith, p.count, p.few));
    indices =
        every_one (edge_indices (edges_of ws).len) (λ k l. rw (edges-len ws ∙ sym p.count) (indices-make ws (edge_size * k) n p.few (room k l) (held k l)));
    numbers = every_one edge_numbers (λ k l. numbers-make ws (edge_size * k) n p.few (room k l) (held k l));
  }
    where
      in_all : (k : ℕ) → k < edges_in ws → k < n
      in_all k l = omega (arith, p.count)
