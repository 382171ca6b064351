-- Segments moved one after the other to their new places, and the places behind them emptied.
use Rattle.std.specs.Prelude.{None, Some}
use mathlib.Core.Path.{◌≡◌, refl, sym, ap, ◌∙◌}
use mathlib.Core.Bool.{Bool, true, false, cond}
use mathlib.Core.List.{List, [], ◌∷◌, ◌++◌, map, append-nil, append_assoc}
use Prim.Native.Nat.{ℕ, zero, suc, ◌+◌, ◌-◌, ◌≤◌, ◌<◌}
use native.Mathlib.Numerals.{add-one}
use native.Mathlib.Omega.{arith}
use lib.ListN.{length, get_or, set, take, drop, replicate, take-append-drop, length-append, length-map, length-replicate}
use lib.Seq.{get_or-append-add, get_or-drop, length-take-le, drop-cons, append_snoc, set_at, take_at, drop-append-add, drop-drop}
use Rattle.axis.specs.declared.edge.Edge.{Edge}
use Rattle.axis.specs.Link.{Link}
use Rattle.axis.specs.declared.segment.Segment.{Segment}
use Rattle.axis.specs.declared.segment.Segments.{Segments}
use Rattle.axis.specs.Accepted.{Below}
use Rattle.axis.specs.Limits.{most_segments}
use Rattle.axis.specs.Link.{is_linked}
use Rattle.axis.specs.Segment.{empty_segment, segment_at, put_segment}
use Rattle.mend.proofs.Sums.{count-few}
use Rattle.mend.specs.Following.{total, count}
use Rattle.pack.specs.Sets.{is_in, number_at, chosen}
use Rattle.pack.specs.Listing.{Numbered}
use Rattle.pack.proofs.Counts.{count_same}
use Rattle.pack.specs.Kept.{kept, new_index, KeptAre}
use Rattle.pack.specs.Packed.{moved, packed_segment, packed_edge, kept_count, packed_segments, moved_segments, cleared, Renumbers, SegmentsHold}
use Rattle.pack.proofs.Choices.{chosen-length}

-- ---- the same renumbering
moved_same : (f g : ℕ → ℕ) (n : ℕ) → ((k : ℕ) → k < n → f k ≡ g k) → (l : Link) → Below n l → moved f l ≡ moved g l
moved_same f g n h None b = refl
moved_same f g n h (Some k) b = ap Some (h k (b.at k refl))

pub segment-same : (f g : ℕ → ℕ) (n : ℕ) → ((k : ℕ) → k < n → f k ≡ g k) → (s : Segment) → Below n s.link → Below n s.serif → Below n s.next
    → packed_segment f s ≡ packed_segment g s
segment-same f g n h s a b c =
    let p = moved_same f g n h s.link a in
    let q = moved_same f g n h s.serif b in
    let r = moved_same f g n h s.next c in
    λ j. record {
      flags = s.flags;
      dir = s.dir;
      pos = s.pos;
      delta = s.delta;
      min_coord = s.min_coord;
      max_coord = s.max_coord;
      height = s.height;
      score = s.score;
      len = s.len;
      link = p j;
      serif = q j;
      first = s.first;
      last = s.last;
      edge = s.edge;
      next = cond (is_linked s.edge) (r j) None;
    }

pub edge_same : (f g : ℕ → ℕ) (n : ℕ) → ((k : ℕ) → k < n → f k ≡ g k) → (e : Edge) → e.first < n → e.last < n → packed_edge f e ≡ packed_edge g e
edge_same f g n h e a b =
    let p = h e.first a in
    let q = h e.last b in
    λ j. record {
      fpos = e.fpos;
      opos = e.opos;
      pos = e.pos;
      flags = e.flags;
      dir = e.dir;
      blue = e.blue;
      link = e.link;
      serif = e.serif;
      first = p j;
      last = q j;
      mark = e.mark;
    }

-- the numbers of the kept set are the new indices
pub renumbers : (t : Segments) (list : List Bool) (new : List ℕ) (n : ℕ) → t.len ≤ most_segments → KeptAre t list → Numbered list new n → Renumbers t new
renumbers t list new n few k w = record { at = λ (i : ℕ) (h : i < t.len). w.at i (omega arith) ∙ count_same (is_in list) (kept t) i (λ j l. k.at j) }

-- ---- segments moved
module _ (t : Segments) where
  abbrev f : ℕ → Segment
  f k = packed_segment (new_index t) (segment_at t k)

  -- the first i are moved
  unfoldable pub stage : ℕ → Segments
  stage i = record { segments = map f (chosen (kept t) i) ++ drop (new_index t i) t.segments; len = t.len }

  front_length : (i : ℕ) → length (map f (chosen (kept t) i)) ≡ new_index t i
  front_length i = length-map (chosen (kept t) i) _ ∙ chosen-length (kept t) i

  pub stage-none : t ≡ stage 0
  unfolding stage chosen total
  stage-none = refl

  pub stage-all : (i : ℕ) → i ≤ t.len → t.len ≤ i → stage i ≡ moved_segments t
  unfolding stage moved_segments
  stage-all i h g = let e : i ≡ t.len = omega arith in rw e

  chosen-in : (i : ℕ) → kept t i ≡ true → chosen (kept t) (i + 1) ≡ chosen (kept t) i ++ (i ∷ [])
  unfolding chosen
  chosen-in i e = ap (chosen (kept t)) (add-one i) ∙ ap (λ (b : Bool). chosen (kept t) i ++ cond b (i ∷ []) []) e

  chosen-out : (i : ℕ) → kept t i ≡ false → chosen (kept t) (i + 1) ≡ chosen (kept t) i ++ []
  unfolding chosen
  chosen-out i e = ap (chosen (kept t)) (add-one i) ∙ ap (λ (b : Bool). chosen (kept t) i ++ cond b (i ∷ []) []) e

  new_in : (i : ℕ) → kept t i ≡ true → new_index t (i + 1) ≡ suc (new_index t i)
  unfolding total
  new_in i e = ap (count (kept t)) (add-one i) ∙ ap (λ (b : Bool). count (kept t) i + cond b 1 0) e ∙ add-one (new_index t i)

  new-out : (i : ℕ) → kept t i ≡ false → new_index t (i + 1) ≡ new_index t i
  unfolding total
  new-out i e = ap (count (kept t)) (add-one i) ∙ ap (λ (b : Bool). count (kept t) i + cond b 1 0) e ∙ omega arith

  map-append : {A B : Type 0} (g : A → B) (l m : List A) → map g (l ++ m) ≡ map g l ++ map g m
  map-append g [] m = refl
  map-append g (x ∷ l) m = ap (λ (r : List _). g x ∷ r) (map-append g l m)

  pub stage-out : (i : ℕ) → kept t i ≡ false → stage i ≡ stage (i + 1)
  unfolding stage
  stage-out i e =
      let p = sym (chosen-out i e ∙ append-nil (chosen (kept t) i)) in
      let q = sym (new-out i e) in
      λ j. record { segments = map f (p j) ++ drop (q j) t.segments; len = t.len }

  pub stage-in : (i : ℕ) (v : Segment) → kept t i ≡ true → i < t.len → t.len ≤ length t.segments → v ≡ f i
      → put_segment (stage i) (new_index t i) v ≡ stage (i + 1)
  unfolding stage
  stage-in i v e h whole q =
      let room : new_index t i < length t.segments = omega (arith, count-few (kept t) i) in
      let list : set (map f (chosen (kept t) i) ++ drop (new_index t i) t.segments) (new_index t i) v
      ≡ map f (chosen (kept t) (i + 1)) ++ drop (new_index t (i + 1)) t.segments =
      ap (λ (r : List Segment). set (map f (chosen (kept t) i) ++ r) (new_index t i) v) (drop-cons t.segments (new_index t i) empty_segment room)
      ∙ set_at (map f (chosen (kept t) i)) (get_or t.segments (new_index t i) empty_segment) (drop (suc (new_index t i)) t.segments) v (new_index t i)
      (front_length i)
      ∙ ap (λ (x : Segment). map f (chosen (kept t) i) ++ x ∷ drop (suc (new_index t i)) t.segments) q
      ∙ sym (append_snoc (map f (chosen (kept t) i)) (f i) (drop (suc (new_index t i)) t.segments))
      ∙ ap (λ (r : List Segment). r ++ drop (suc (new_index t i)) t.segments) (sym (map-append f (chosen (kept t) i) (i ∷ [])))
      ∙ ap (λ (r : List ℕ). map f r ++ drop (suc (new_index t i)) t.segments) (sym (chosen-in i e))
      ∙ ap (λ (k : ℕ). map f (chosen (kept t) (i + 1)) ++ drop k t.segments) (sym (new_in i e)) in
      λ j. record { segments = list j; len = t.len }

  -- what stands in a place that is not reached yet
  pub moved-room : (i : ℕ) → i < t.len → new_index t i ≤ i
  moved-room i h = count-few (kept t) i

-- what is not moved yet stands where it stood
pub stage-left : (t : Segments) (i k : ℕ) → new_index t i ≤ k → segment_at (stage t i) k ≡ segment_at t k
unfolding stage
stage-left t i k h =
    let front : List Segment = map (λ (j : ℕ). packed_segment (new_index t) (segment_at t j)) (chosen (kept t) i) in
    let long : length front ≡ new_index t i = length-map (chosen (kept t) i) _ ∙ chosen-length (kept t) i in
    let q : k ≡ length front + (k - new_index t i) = omega arith in
    let r : new_index t i + (k - new_index t i) ≡ k = omega arith in
    ap (λ (j : ℕ). get_or (front ++ drop (new_index t i) t.segments) j empty_segment) q
    ∙ get_or-append-add front (drop (new_index t i) t.segments) (k - new_index t i) empty_segment
    ∙ get_or-drop (new_index t i) t.segments (k - new_index t i) empty_segment
    ∙ ap (λ (j : ℕ). get_or t.segments j empty_segment) r

-- ---- places emptied
module _ (c : ℕ) (u : Segments) where
  unfoldable pub emptied : ℕ → Segments
  emptied i = record { segments = take c u.segments ++ (replicate (i - c) empty_segment ++ drop i u.segments); len = u.len }

  none_left : c - c ≡ 0
  none_left = omega arith

  pub emptied-none : u ≡ emptied c
  unfolding emptied
  emptied-none =
      let p = sym (ap (λ (k : ℕ). take c u.segments ++ (replicate k empty_segment ++ drop c u.segments)) none_left ∙ take-append-drop c u.segments) in
      λ j. record { segments = p j; len = u.len }

  replicate_more : {A : Type 0} (n : ℕ) (x : A) → replicate n x ++ (x ∷ []) ≡ replicate (suc n) x
  replicate_more zero x = refl
  replicate_more (suc n) x = ap (λ (l : List _). x ∷ l) (replicate_more n x)

  pub emptied-next : (i : ℕ) → c ≤ i → i < length u.segments → put_segment (emptied i) i empty_segment ≡ emptied (i + 1)
  unfolding emptied
  emptied-next i h g =
      let front : List Segment = take c u.segments ++ replicate (i - c) empty_segment in
      let long : length front ≡ i = length-append (take c u.segments) (replicate (i - c) empty_segment)
      ∙ omega (arith, length-take-le c u.segments (omega arith), length-replicate (i - c) empty_segment) in
      let more : suc (i - c) ≡ i + 1 - c = omega arith in
      let after : suc i ≡ i + 1 = omega arith in
      let list : set (take c u.segments ++ (replicate (i - c) empty_segment ++ drop i u.segments)) i empty_segment
      ≡ take c u.segments ++ (replicate (i + 1 - c) empty_segment ++ drop (i + 1) u.segments) =
      ap (λ (l : List Segment). set l i empty_segment) (sym (append_assoc (take c u.segments) (replicate (i - c) empty_segment) (drop i u.segments)))
      ∙ ap (λ (r : List Segment). set (front ++ r) i empty_segment) (drop-cons u.segments i empty_segment g)
      ∙ set_at front (get_or u.segments i empty_segment) (drop (suc i) u.segments) empty_segment i long
      ∙ sym (append_snoc front empty_segment (drop (suc i) u.segments))
      ∙ ap (λ (l : List Segment). l ++ drop (suc i) u.segments) (append_assoc (take c u.segments) (replicate (i - c) empty_segment) (empty_segment ∷ []))
      ∙ ap (λ (l : List Segment). take c u.segments ++ l ++ drop (suc i) u.segments) (replicate_more (i - c) empty_segment)
      ∙ append_assoc (take c u.segments) (replicate (suc (i - c)) empty_segment) (drop (suc i) u.segments)
      ∙ (λ j. take c u.segments ++ (replicate (more j) empty_segment ++ drop (after j) u.segments)) in
      λ j. record { segments = list j; len = u.len }

  pub emptied-all : (i : ℕ) → i ≤ u.len → u.len ≤ i → emptied i ≡ cleared c u
  unfolding emptied cleared
  emptied-all i h g = let e : i ≡ u.len = omega arith in rw e

-- ---- both: what the definition says
pub packed-is : (t : Segments) → t.len ≤ length t.segments → (cleared (kept_count t) (moved_segments t)).segments ≡ (packed_segments t).segments
unfolding cleared moved_segments packed_segments
packed-is t whole =
    let c = kept_count t in
    let few : c ≤ t.len = count-few (kept t) t.len in
    let firsts : List Segment = map (λ (k : ℕ). packed_segment (new_index t) (segment_at t k)) (chosen (kept t) t.len) in
    let long : length firsts ≡ c = length-map (chosen (kept t) t.len) _ ∙ chosen-length (kept t) t.len in
    let split : t.len ≡ length firsts + (t.len - c) = omega arith in
    let back : c + (t.len - c) ≡ t.len = omega arith in
    let p : take c (firsts ++ drop c t.segments) ≡ firsts = take_at firsts (drop c t.segments) c long in
    let q : drop t.len (firsts ++ drop c t.segments) ≡ drop t.len t.segments =
    ap (λ (k : ℕ). drop k (firsts ++ drop c t.segments)) split
    ∙ drop-append-add firsts (drop c t.segments) (t.len - c)
    ∙ drop-drop (t.len - c) c t.segments
    ∙ ap (λ (k : ℕ). drop k t.segments) back in
    λ j. p j ++ (replicate (t.len - c) empty_segment ++ q j)

pub upto : {n m : ℕ} {l : Link} → n ≤ m → Below n l → Below m l
upto {l = l} h b = record { at = λ (k : ℕ) (e : l ≡ Some k). omega (arith, b.at k e) }

-- one kept segment moved, by its number on a list
pub put-moved : (t : Segments) (new : List ℕ) (u : Segments) (i : ℕ) (v : Segment) → SegmentsHold t → Renumbers t new → i < t.len
    → t.len ≤ length t.segments → kept t i ≡ true
    → u ≡ stage t i → v ≡ packed_segment (λ (k : ℕ). get_or new k 0) (segment_at t i) → put_segment u (number_at new i) v ≡ stage t (i + 1)
put-moved t new u i v a r h whole e q p =
    (λ j. put_segment (q j) (r.at i h j) v)
    ∙ stage-in t i v e h whole (p ∙ segment-same (λ (k : ℕ). get_or new k 0) (new_index t) t.len r.at (segment_at t i) (a.link i h) (a.serif i h)
    (a.next i h))
