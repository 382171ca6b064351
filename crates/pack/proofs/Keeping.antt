-- The kept segments are the least set that holds those of edges, and links and serifs of its own.
use Rattle.std.specs.Prelude.{None, Some}
use mathlib.Core.Path.{◌≡◌, refl, sym, ap, ◌∙◌}
use mathlib.Core.Bool.{Bool, true, false, false≢true}
use mathlib.Core.Logic.{◌⊎◌, inl, inr, ⊎_elim}
use Prim.Native.Nat.{ℕ, ◌<◌}
use borrow.Author.Tests.{ltb-true, lt-ltb}
use lib.Dec.{ltb}
use Rattle.refusals.proofs.Tests.{and_first, and_second}
use Rattle.axis.specs.Link.{Link}
use Rattle.axis.specs.declared.segment.Segments.{Segments}
use Rattle.axis.specs.Accepted.{Below}
use Rattle.axis.specs.Link.{is_linked, links_to, index_or}
use Rattle.axis.specs.Segment.{segment_at}
use Rattle.axis.proofs.Sound.{links-to, of-link}
use Rattle.pack.specs.Sets.{Closed, Least}
use Rattle.pack.specs.Rounds.{LeastBelow}
use Rattle.pack.proofs.Rounds.{or_case, or_left, or_right, and_both, Led, given-or-led, reached-least}
use Rattle.pack.specs.Kept.{leads, has_edge, kept, Keeps}

-- ---- a segment leads to its link and its serif, and to no other
module _ (t : Segments) where
  pub leads-is : (i k : ℕ) → leads t i k ≡ true → ((segment_at t i).link ≡ Some k) ⊎ ((segment_at t i).serif ≡ Some k)
  unfolding leads
  leads-is i k e =
      ⊎_elim
      (λ (a : links_to (segment_at t i).link k ≡ true). inl (links-to (segment_at t i).link k a))
      (λ (b : links_to (segment_at t i).serif k ≡ true). inr (links-to (segment_at t i).serif k b))
      (or_case (links_to (segment_at t i).link k) (links_to (segment_at t i).serif k) e)

  pub leads-by-link : (i k : ℕ) → (segment_at t i).link ≡ Some k → leads t i k ≡ true
  unfolding leads
  leads-by-link i k e = or_left (links_to (segment_at t i).link k) _ (of-link (segment_at t i).link k e)

  pub leads-by-serif : (i k : ℕ) → (segment_at t i).serif ≡ Some k → leads t i k ≡ true
  unfolding leads
  leads-by-serif i k e = or_right (links_to (segment_at t i).link k) _ (of-link (segment_at t i).serif k e)

  pub has-edge : (k : ℕ) → k < t.len → is_linked (segment_at t k).edge ≡ true → has_edge t k ≡ true
  unfolding has_edge
  has-edge k h e = and_both (ltb k t.len) _ (lt-ltb k t.len h) e

  pub edge-has : (k : ℕ) → has_edge t k ≡ true → (k < t.len) × (is_linked (segment_at t k).edge ≡ true)
  unfolding has_edge
  edge-has k e = (ltb-true k t.len (and_first _ _ e), and_second (ltb k t.len) _ e)

  -- ---- the least set
  pub kept-least : LeastBelow (leads t) t.len (has_edge t) (kept t)
  unfolding kept
  kept-least = reached-least (leads t) t.len (has_edge t)

  pub kept-starts : (k : ℕ) → k < t.len → is_linked (segment_at t k).edge ≡ true → kept t k ≡ true
  kept-starts k h e = kept-least.holds k (has-edge k h e)

  -- in the words of the request: it is such a set, and every such set has all of its segments
  pub keeps : Keeps t (kept t)
  keeps = record { starts = kept-starts; on = kept-least.closed.on }

  pub keeps-no-more : (s : ℕ → Bool) → Keeps t s → (k : ℕ) → k < t.len → kept t k ≡ true → s k ≡ true
  keeps-no-more s w k h e =
      kept-least.least s (record { on = w.on }) (λ (i : ℕ) (l : i < t.len) (g : has_edge t i ≡ true). let q = edge-has i g in w.starts i l q.1) k h e

  -- where links and serifs are segments, no other number is kept
  module _ (linked : (i : ℕ) → i < t.len → Below t.len (segment_at t i).link) (serifed : (i : ℕ) → i < t.len → Below t.len (segment_at t i).serif) where
    pub leads-below : (i k : ℕ) → i < t.len → leads t i k ≡ true → k < t.len
    leads-below i k h e =
        ⊎_elim
        (λ (a : (segment_at t i).link ≡ Some k). (linked i h).at k a)
        (λ (b : (segment_at t i).serif ≡ Some k). (serifed i h).at k b)
        (leads-is i k e)

    pub kept-below : (k : ℕ) → kept t k ≡ true → k < t.len
    unfolding kept
    kept-below k e =
        ⊎_elim
        (λ (a : has_edge t k ≡ true). (edge-has k a).0)
        (λ (b : Led (leads t) t.len k). leads-below b.from k b.below b.leads_to)
        (given-or-led (leads t) t.len (has_edge t) t.len k e)

    pub kept-link : (i k : ℕ) → i < t.len → kept t i ≡ true → (segment_at t i).link ≡ Some k → kept t k ≡ true
    kept-link i k h e q = kept-least.closed.on i k h ((linked i h).at k q) e (leads-by-link i k q)

    pub kept-serif : (i k : ℕ) → i < t.len → kept t i ≡ true → (segment_at t i).serif ≡ Some k → kept t k ≡ true
    kept-serif i k h e q = kept-least.closed.on i k h ((serifed i h).at k q) e (leads-by-serif i k q)

    -- ---- what is followed along two lists, of the links and of the serifs, a segment itself where it has none, is the kept set
    module _
        (a b : ℕ → ℕ) (given s : ℕ → Bool)
        (to-link : (i : ℕ) → i < t.len → a i ≡ index_or i (segment_at t i).link) (to-serif : (i : ℕ) → i < t.len → b i ≡ index_or i (segment_at t i).serif)
        (starts : (k : ℕ) → given k ≡ has_edge t k) (w : Least a b given s) where
      on-by : (l : Link) (i : ℕ) → kept t i ≡ true → ((k : ℕ) → l ≡ Some k → kept t k ≡ true) → kept t (index_or i l) ≡ true
      on-by None i e h = e
      on-by (Some k) i e h = h k refl

      kept-closed : Closed a b (kept t)
      kept-closed = record {
        one = λ i e.
            let h = kept-below i e in
            ap (kept t) (to-link i h) ∙ on-by (segment_at t i).link i e (λ k q. kept-link i k h e q);
        two = λ i e.
            let h = kept-below i e in
            ap (kept t) (to-serif i h) ∙ on-by (segment_at t i).serif i e (λ k q. kept-serif i k h e q);
      }

      followed-kept : (k : ℕ) → s k ≡ true → kept t k ≡ true
      followed-kept = w.least (kept t) kept-closed (λ k e. kept-least.holds k (sym (starts k) ∙ e))

      closed_on : (i k : ℕ) → i < t.len → k < t.len → s i ≡ true → leads t i k ≡ true → s k ≡ true
      closed_on i k h g e l =
          ⊎_elim
          (λ (q : (segment_at t i).link ≡ Some k). ap s (sym (to-link i h ∙ ap (index_or i) q)) ∙ w.closed.one i e)
          (λ (q : (segment_at t i).serif ≡ Some k). ap s (sym (to-serif i h ∙ ap (index_or i) q)) ∙ w.closed.two i e)
          (leads-is i k l)

      kept-followed : (k : ℕ) → kept t k ≡ true → s k ≡ true
      kept-followed k e =
          kept-least.least s (record { on = closed_on }) (λ (i : ℕ) (l : i < t.len) (g : has_edge t i ≡ true). w.holds i (starts i ∙ g)) k (kept-below k e) e

      pub followed-is-kept : (k : ℕ) → s k ≡ kept t k
      followed-is-kept k = go (s k) (kept t k) refl refl
        where
          go : (x y : Bool) → s k ≡ x → kept t k ≡ y → s k ≡ kept t k
          go true y p q = p ∙ sym (followed-kept k p)
          go false true p q = absurd (false≢true (sym p ∙ kept-followed k q))
          go false false p q = p ∙ sym q
