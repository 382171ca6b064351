-- Lists that are filled place by place, and the kept segments that are followed from three of them.
use Rattle.std.specs.Prelude.{None, Some}
use mathlib.Core.Path.{◌≡◌, refl, sym, ap, ◌∙◌}
use mathlib.Core.Bool.{Bool, false, ◌&&◌}
use mathlib.Core.List.{List}
use mathlib.Core.Logic.{◌⊎◌, ⊎_elim}
use Prim.Native.Nat.{ℕ, zero, suc, ◌+◌, ◌≤◌, ◌<◌}
use native.Mathlib.Nat.{eq-or-lt_of_le}
use native.Mathlib.Omega.{arith}
use borrow.Author.Tests.{lt-ltb, le-ltb}
use lib.ListN.{length, get_or, set, replicate, length-set, length-replicate}
use lib.Seq.{get_or-set_same, get_or-set_other}
use Rattle.signed.proofs.Signed.{lt-or-le}
use Rattle.axis.specs.Link.{Link}
use Rattle.axis.specs.declared.segment.Segments.{Segments}
use Rattle.axis.specs.Accepted.{Below}
use Rattle.axis.specs.Limits.{most_segments}
use Rattle.axis.specs.Link.{is_linked, index_or}
use Rattle.axis.specs.Segment.{segment_at}
use Rattle.pack.specs.Sets.{is_in, number_at, Least}
use Rattle.pack.specs.Listing.{Within}
use Rattle.pack.specs.Kept.{has_edge, kept, Linked, KeptAre}
use Rattle.pack.proofs.Keeping.{followed-is-kept}

-- the first i places are what f makes of them, the others what they were
pub record Filled (A : Type 0) (f : ℕ → A) (d : A) (l : List A) (i : ℕ) : Type 0 where
  pub long : length l ≡ most_segments
  pub done : (k : ℕ) → k < i → get_or l k d ≡ f k
  pub rest : (k : ℕ) → i ≤ k → get_or l k d ≡ d

module _ {A : Type 0} where
  all_one : (n k : ℕ) (d : A) → get_or (replicate n d) k d ≡ d
  all_one zero k d = refl
  all_one (suc n) zero d = refl
  all_one (suc n) (suc k) d = all_one n k d

  pub filled_none : (f : ℕ → A) (d : A) → Filled A f d (replicate most_segments d) 0
  filled_none f d = record { long = length-replicate most_segments d; done = λ k h. absurd (omega arith); rest = λ k h. all_one most_segments k d }

  pub filled_next : (f : ℕ → A) (d : A) (l : List A) (i : ℕ) (v : A) → Filled A f d l i → i < most_segments → v ≡ f i → Filled A f d (set l i v) (i + 1)
  filled_next f d l i v w h e = record {
    long = length-set l i v ∙ w.long;
    done = λ k g.
        ⊎_elim
        (λ (q : k ≡ i). ap (λ (j : ℕ). get_or (set l i v) j d) q ∙ get_or-set_same l i v d (omega (arith, w.long)) ∙ e ∙ sym (ap f q))
        (λ (b : k < i). get_or-set_other l i k v d (λ q. omega arith) ∙ w.done k b)
        (eq-or-lt_of_le (omega arith));
    rest = λ k g. get_or-set_other l i k v d (λ q. omega arith) ∙ w.rest k (omega arith);
  }

-- ---- the three lists of a table: which segments have an edge, their links, their serifs
abbrev pub edged : Segments → ℕ → Bool
edged t k = is_linked (segment_at t k).edge

abbrev pub link_or : Segments → ℕ → ℕ
link_or t k = index_or k (segment_at t k).link

abbrev pub serif_or : Segments → ℕ → ℕ
serif_or t k = index_or k (segment_at t k).serif

pub index-within : (n k : ℕ) (l : Link) → k < n → Below n l → index_or k l < n
index-within n k None h b = h
index-within n k (Some j) h b = b.at j refl

pub record Three (t : Segments) (xs : List Bool) (ys zs : List ℕ) (i : ℕ) : Type 0 where
  pub given : Filled Bool (edged t) false xs i
  pub one : Filled ℕ (link_or t) 0 ys i
  pub two : Filled ℕ (serif_or t) 0 zs i

pub three-none : (t : Segments) → Three t (replicate most_segments false) (replicate most_segments 0) (replicate most_segments 0) 0
three-none t = record { given = filled_none (edged t) false; one = filled_none (link_or t) 0; two = filled_none (serif_or t) 0 }

pub three-next : (t : Segments) (given : List Bool) (one two : List ℕ) (i : ℕ) (x : Bool) (y z : ℕ) → Three t given one two i → i < most_segments
    → x ≡ edged t i → y ≡ link_or t i → z ≡ serif_or t i → Three t (set given i x) (set one i y) (set two i z) (i + 1)
three-next t given one two i x y z w h p q r = record {
  given = filled_next (edged t) false given i x w.given h p;
  one = filled_next (link_or t) 0 one i y w.one h q;
  two = filled_next (serif_or t) 0 two i z w.two h r;
}

pub three-ends : (t : Segments) (given : List Bool) (one two : List ℕ) (i : ℕ) → i ≤ t.len → t.len ≤ i → Three t given one two i
    → Three t given one two t.len
three-ends t given one two i h g w = let e : i ≡ t.len = omega arith in rw e at w

module _ (t : Segments) (l : Linked t) where
  starts : (given : List Bool) → Filled Bool (edged t) false given t.len → (k : ℕ) → is_in given k ≡ has_edge t k
  unfolding has_edge
  starts given w k =
      ⊎_elim
      (λ (h : k < t.len). w.done k h ∙ sym (ap (λ (b : Bool). b && edged t k) (lt-ltb k t.len h)))
      (λ (h : t.len ≤ k). w.rest k h ∙ sym (ap (λ (b : Bool). b && edged t k) (le-ltb k t.len h)))
      (lt-or-le k t.len)

  within : (f : ℕ → ℕ) (m : List ℕ) → ((k : ℕ) → k < t.len → f k < t.len) → Filled ℕ f 0 m t.len → Within m
  within f m b w = record {
    at = λ k.
        ⊎_elim
        (λ (h : k < t.len). omega (arith, w.done k h, b k h, l.few))
        (λ (h : t.len ≤ k). omega (arith, w.rest k h))
        (lt-or-le k t.len);
  }

  pub ones-within : (m : List ℕ) → Filled ℕ (link_or t) 0 m t.len → Within m
  ones-within m w = within (link_or t) m (λ k h. index-within t.len k (segment_at t k).link h (l.linked k h)) w

  pub twos-within : (m : List ℕ) → Filled ℕ (serif_or t) 0 m t.len → Within m
  twos-within m w = within (serif_or t) m (λ k h. index-within t.len k (segment_at t k).serif h (l.serifed k h)) w

  -- what is followed from them asks for
  pub three-ready : (given : List Bool) (one two : List ℕ) (i : ℕ) → i ≤ t.len → t.len ≤ i → Three t given one two i
      → (length given ≡ most_segments) × Within one × Within two
  three-ready given one two i h g w =
      let v = three-ends t given one two i h g w in
      (v.given.long, ones-within one v.one, twos-within two v.two)

  -- a link or serif fits
  pub link_fits : (i r : ℕ) → i < t.len → r ≡ link_or t i → r < most_segments
  link_fits i r h e = omega (arith, e, index-within t.len i (segment_at t i).link h (l.linked i h), l.few)

  pub serif-fits : (i r : ℕ) → i < t.len → r ≡ serif_or t i → r < most_segments
  serif-fits i r h e = omega (arith, e, index-within t.len i (segment_at t i).serif h (l.serifed i h), l.few)

  pub three-followed : (given kept' : List Bool) (one two : List ℕ) (i : ℕ) → i ≤ t.len → t.len ≤ i → Three t given one two i
      → Least (number_at one) (number_at two) (is_in given) (is_in kept') → KeptAre t kept'
  three-followed given kept' one two i h g w f =
      let v = three-ends t given one two i h g w in
      record {
        at =
            followed-is-kept t l.linked l.serifed (number_at one) (number_at two) (is_in given) (is_in kept') v.one.done v.two.done
            (starts given v.given) f;
      }
