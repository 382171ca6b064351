-- What every call over lent edges leaves of them, with answer 0: words of whole edges, each within its field's values, that are read as the axis handed back.
use Rattle.std.specs.Prelude.{None, Some}
use mathlib.Core.Path.{◌≡◌, refl, ap, subst, ◌∙◌}
use mathlib.Core.Bool.{Bool, true, false, cond, ◌&&◌, ◌||◌}
use mathlib.Core.List.{List, [], ◌∷◌}
use Prim.Native.Nat.{ℕ, ◌≤◌, ◌<◌}
use native.Mathlib.Omega.{arith}
use borrow.Author.Tests.{eqb-true, le-ltb, ne_eqb}
use lib.Dec.{eqb, ltb}
use lib.ListN.{get_or}
use lib.IntN.{ℤ}
use Rattle.refusals.specs.Refusal.{refusal}
use Rattle.refusals.proofs.Answers.{none-refused}
use Rattle.refusals.proofs.Tests.{all_hold}
use Rattle.axis.specs.declared.kinds.Dimension.TheVariants as Dimensions
use Rattle.axis.specs.declared.kinds.Direction.TheVariants as Directions
use Rattle.axis.specs.declared.kinds.Group.{Group}
use Rattle.axis.specs.Link.{Link}
use Rattle.axis.specs.declared.kinds.Mark.TheVariants.{Linked, Serif, Bound}
use Rattle.axis.specs.declared.edge.Edge.{Edge}
use Rattle.axis.specs.declared.edge.Axis.{Axis}
use Rattle.axis.specs.Accepted.{Below}
use Rattle.axis.specs.Changes.{Extent, nothing, position, place, zone, wherever}
use Rattle.axis.specs.Edge.{empty_edge}
use Rattle.axis.specs.Limits.{most_pos}
use Rattle.axis.specs.Link.{links_to}
use Rattle.axis.proofs.Acceptance.{axis-within}
use Rattle.axis.proofs.Accepting.{edges-within}
use Rattle.place.specs.Steps.{most_reach}
use Rattle.place.proofs.ChangedCalls as Fitting
use Rattle.lowercase_m.specs.Answer.{Hinted}
use Rattle.lowercase_m.specs.M.{stems_of, aligned, count_holds, mTests, hinted, hint_lowercase_m, mExtent}
use Rattle.lowercase_m.specs.Steps.{twice_moved}
use Rattle.lowercase_m.proofs.Changed as M
use Rattle.lowercase_m.proofs.Handed as MHanded
use Rattle.zones.specs.Pass.{blues_marks}
use Rattle.zones.proofs.Changed as Blues
use Rattle.zones.proofs.Handed as BluesHanded
use Rattle.stems_cjk.specs.Hint.{stem_marks}
use Rattle.stems_cjk.proofs.Changed as Cjk
use Rattle.stems.specs.Handed.{most_fitted}
use Rattle.stems.specs.Stems.{stems_marks}
use Rattle.stems.proofs.Changed as Stems
use Rattle.stems.proofs.Handed as StemsHanded
use Rattle.zones_stems.specs.Joined.{joined_marks}
use Rattle.zones_stems.proofs.Changed as Joined
use Rattle.zones_stems.proofs.Handed as JoinedHanded
use Rattle.words.specs.Field.{choice_of, dimension_of, group_of, rule_of}
use Rattle.words.specs.Edge.{edges_in, flat_axis}
use Rattle.words_shape.specs.Shape.{is_in, choice}
use Rattle.words_call.specs.Lent.{edges_of, both_in, choices, named_edge, named_anchor}
use Rattle.words_call.proofs.Kept.{lent-first}
use Rattle.words_edge.proofs.Wholes.{edges-len, len-in}
use Rattle.place_words.specs.Lent.{link_dir_of, linked_fitted, LinkedLent, serif_fitted, SerifLent, adjust_fitted, AdjustLent}
use Rattle.lowercase_m_words.specs.Lent.{mHinted, MLent}
use Rattle.stem_cjk_words.specs.Lent.{stem_hinted, StemLent}
use Rattle.zones_words.specs.Lent.{zones_anchored, ZonesLent}
use Rattle.stems_words.specs.Lent.{stems_aligned, StemsLent}
use Rattle.zones_stems_words.specs.Lent.{joined_aligned, JoinedLent}
use Rattle.chain_words.specs.Left.{EdgesLeft}
use Rattle.chain_words.proofs.Edges.{call-left}
use Rattle.chain_words.proofs.Placed.{
  linked-named,
  linked-within,
  serif-named,
  serif_within,
  adjust-named,
  adjust-within,
  first-named,
  second-named,
  cjk-within,
}

-- ---- extents: nothing behind the last edge
-- of one edge
one_only : (s n i : ℕ) (x : Extent) → s < n → n ≤ i → wherever (eqb s) x i ≡ nothing
one_only s n i x h l = ap (λ (b : Bool). cond b x nothing) (ne_eqb s i (λ e. omega arith))

-- of two
two-only : (s t n i : ℕ) (x : Extent) → s < n → t < n → n ≤ i → wherever (λ (k : ℕ). eqb k s || eqb k t) x i ≡ nothing
two-only s t n i x h g l = rw (ne_eqb i s (λ e. omega arith), ne_eqb i t (λ e. omega arith))

-- of all
all-only : (n i : ℕ) (x : Extent) → n ≤ i → wherever (λ (k : ℕ). ltb k n) x i ≡ nothing
all-only n i x l = ap (λ (b : Bool). cond b x nothing) (le-ltb i n l)

-- of the m rule, whose third stem and its link are edges
not-linked : (n i : ℕ) (l : Link) → Below n l → n ≤ i → links_to l i ≡ false
unfolding links_to
not-linked n i None b h = refl
not-linked n i (Some k) b h = let q = b.at k refl in ne_eqb k i (λ e. omega arith)

m-only : (edges : List Edge) (n i : ℕ) → count_holds n ≡ true → Below n (get_or edges (stems_of n).third empty_edge).link → n ≤ i → mExtent edges n i ≡ nothing
m-only edges n i c b h = by (eqb n 6) refl c
  where
    six : (n : ℕ) → n ≡ 6 → Below n (get_or edges (stems_of n).third empty_edge).link → n ≤ i → mExtent edges n i ≡ nothing
    six n e b h =
        let f = subst (λ (k : ℕ). Below k (get_or edges (stems_of k).third empty_edge).link) e b in
        let l : 6 ≤ i = omega (arith, e) in
        ap (λ (k : ℕ). mExtent edges k i) e ∙ rw (ne_eqb i 4 (λ e. omega arith), not-linked 6 i _ f l)

    twelve : (n : ℕ) → n ≡ 12 → Below n (get_or edges (stems_of n).third empty_edge).link → n ≤ i → mExtent edges n i ≡ nothing
    twelve n e b h =
        let f = subst (λ (k : ℕ). Below k (get_or edges (stems_of k).third empty_edge).link) e b in
        let l : 12 ≤ i = omega (arith, e) in
        ap (λ (k : ℕ). mExtent edges k i) e ∙ rw (
          ne_eqb i 9 (λ e. omega arith),
          not-linked 12 i _ f l,
          ne_eqb i 8 (λ e. omega arith),
          ne_eqb i 11
              (λ e. omega arith),
        )

    by : (t : Bool) → eqb n 6 ≡ t → (t || eqb n 12) ≡ true → mExtent edges n i ≡ nothing
    by true e c = six n (eqb-true n 6 e) b h
    by false e c = twelve n (eqb-true n 12 c) b h

-- ---- the calls that place one edge
-- `khs_align_linked_edge`
pub linked-left : (ws : List ℤ) (rule : ℤ) (standards : List ℤ) (base stem : ℤ) {now : List ℤ} → LinkedLent ws rule standards base stem 0 now
    → EdgesLeft ws now (linked_fitted ws rule standards base stem).axis
linked-left ws rule standards base stem l =
    let A = edges_of ws in
    call-left ws (is_in choice rule) Dimensions.Horizontal (wherever (eqb (named_edge stem)) (position (Linked ∷ []))) most_reach
    (linked_fitted ws rule standards base stem).axis l (omega arith)
    (Fitting.align-linked-edge A (rule_of rule) standards (named_edge base) (named_edge stem) refl).only
    (λ e i h. one_only (named_edge stem) (edges_in ws) i _
    (omega (arith, linked-named A (rule_of rule) standards (named_edge base) (named_edge stem) e, edges-len ws)) h)
    (linked-within A (rule_of rule) standards (named_edge base) (named_edge stem))

-- `khs_align_serif_edge`
pub serif-left : (ws : List ℤ) (base serif : ℤ) {now : List ℤ} → SerifLent ws base serif 0 now → EdgesLeft ws now (serif_fitted ws base serif).axis
serif-left ws base serif l =
    let A = edges_of ws in
    call-left ws true Dimensions.Horizontal (wherever (eqb (named_edge serif)) (position (Serif ∷ []))) most_reach (serif_fitted ws base serif).axis l
    (omega arith)
    (Fitting.align-serif-edge A (named_edge base) (named_edge serif) refl).only
    (λ e i h. one_only (named_edge serif) (edges_in ws) i _ (omega (arith, serif-named A (named_edge base) (named_edge serif) e, edges-len ws)) h)
    (serif_within A (named_edge base) (named_edge serif))

-- `khs_adjust_link`
pub adjust-left : (ws : List ℤ) (edge dir ttb : ℤ) {now : List ℤ} → AdjustLent ws edge dir ttb 0 now → EdgesLeft ws now (adjust_fitted ws edge dir ttb).axis
adjust-left ws edge dir ttb l =
    let A = edges_of ws in
    call-left ws (both_in choice dir ttb) Dimensions.Horizontal (wherever (eqb (named_edge edge)) (position (Bound ∷ []))) most_pos
    (adjust_fitted ws edge dir ttb).axis l (omega arith)
    (Fitting.adjust-link A (named_edge edge) (link_dir_of dir) (choice_of ttb) refl).only
    (λ e i h. one_only (named_edge edge) (edges_in ws) i _ (omega (arith, adjust-named A (named_edge edge) (link_dir_of dir) (choice_of ttb) e, edges-len ws)) h)
    (adjust-within A (named_edge edge) (link_dir_of dir) (choice_of ttb))

-- `khs_hint_normal_stem_cjk`
pub stem-left : (ws : List ℤ) (dim adjust rule : ℤ) (standards : List ℤ) (edge edge2 delta own : ℤ) {now : List ℤ} {d : ℤ}
    → StemLent ws dim adjust rule standards edge edge2 delta own 0 (now, d) → EdgesLeft ws now (stem_hinted ws dim adjust rule standards edge edge2 delta).axis
stem-left ws dim adjust rule standards edge edge2 delta own l =
    let A = flat_axis ws (dimension_of dim) Directions.None in
    let n = len-in ws (dimension_of dim) in
    call-left ws (choices dim adjust rule) (dimension_of dim) (wherever (λ (k : ℕ). eqb k (named_edge edge) || eqb k (named_edge edge2)) (position stem_marks))
    most_reach
    (stem_hinted ws dim adjust rule standards edge edge2 delta).axis (lent-first l) (omega arith)
    (Cjk.changed A (named_edge edge) (named_edge edge2) (choice_of adjust) (rule_of rule) standards delta refl).only
    (λ e i h. two-only (named_edge edge) (named_edge edge2) (edges_in ws) i _
    (omega (arith, first-named A (choice_of adjust) (rule_of rule) standards (named_edge edge) (named_edge edge2) delta e, n))
    (omega (arith, second-named A (choice_of adjust) (rule_of rule) standards (named_edge edge) (named_edge edge2) delta e, n)) h)
    (cjk-within A (choice_of adjust) (rule_of rule) standards (named_edge edge) (named_edge edge2) delta)

-- ---- the m rule
-- `khs_hint_lowercase_m`
module _ (axis : Axis) (group : Group) (e : (hint_lowercase_m axis group).answer ≡ 0) where
  m-nothing : (i : ℕ) → axis.len ≤ i → mExtent axis.edges axis.len i ≡ nothing
  unfolding hint_lowercase_m
  m-nothing i h =
      let z = none-refused (hinted axis) (hinted (aligned group axis (stems_of axis.len)) 0) (λ (r : Hinted). r.answer) (λ j. refl) (refusal (mTests axis))
      e in
      let t = all_hold (mTests axis) refl z in
      let w = axis-within axis t.0 t.1.1.0 t.1.1.1.0 in
      m-only axis.edges axis.len i t.1.0 (w.edge (stems_of axis.len).third (third t.1.0)).link h
    where
      third : count_holds axis.len ≡ true → (stems_of axis.len).third < axis.len
      third c = go (eqb axis.len 6) refl c
        where
          go : (t : Bool) → eqb axis.len 6 ≡ t → (t || eqb axis.len 12) ≡ true → (stems_of axis.len).third < axis.len
          go true q c = rw q (omega (arith, eqb-true axis.len 6 q))
          go false q c = rw q (omega (arith, eqb-true axis.len 12 c))

pub m-left : (ws : List ℤ) (group : ℤ) {now : List ℤ} → MLent ws group 0 now → EdgesLeft ws now (mHinted ws group).axis
m-left ws group l =
    let A = edges_of ws in
    call-left ws (is_in choice group) Dimensions.Horizontal (mExtent A.edges A.len) twice_moved (mHinted ws group).axis l (omega arith)
    (M.changed A (group_of group) refl).only
    (λ e i h. m-nothing A (group_of group) e i (omega (arith, h, edges-len ws))) (MHanded.handed-within A (group_of group))

-- ---- the passes
-- `khs_align_edges_to_blues`
pub zones-left : (ws : List ℤ) (dim group rule : ℤ) (standards : List ℤ) (anchor : ℤ) {now : List ℤ} {found : ℤ}
    → ZonesLent ws dim group rule standards anchor 0 (now, found)
    → EdgesLeft ws now (zones_anchored ws dim group rule standards).axis
zones-left ws dim group rule standards anchor l =
    let A = flat_axis ws (dimension_of dim) Directions.None in
    call-left ws (choices dim group rule) (dimension_of dim) (wherever (λ (i : ℕ). ltb i A.len) (zone blues_marks)) most_pos
    (zones_anchored ws dim group rule standards).axis (lent-first l) (omega arith)
    (Blues.changed A (rule_of rule) standards (group_of group) refl).only
    (λ e i h. all-only A.len i _ (omega (arith, h, len-in ws (dimension_of dim))))
    (λ e. edges-within _ (BluesHanded.handed-on A (group_of group) (rule_of rule) standards e))

-- `khs_align_stem_edges`
pub stems-left : (ws : List ℤ) (dim group adjust ttb anchor rule : ℤ) (standards : List ℤ) (count found : ℤ) {now : List ℤ} {n a : ℤ}
    → StemsLent ws dim group adjust ttb anchor rule standards count found 0 (now, (n, a))
    → EdgesLeft ws now (stems_aligned ws dim group adjust ttb anchor rule standards).axis
stems-left ws dim group adjust ttb anchor rule standards count found l =
    let A = flat_axis ws (dimension_of dim) Directions.None in
    call-left ws (choices dim group adjust && both_in choice ttb rule) (dimension_of dim) (wherever (λ (i : ℕ). ltb i A.len) (place stems_marks)) most_fitted
    (stems_aligned ws dim group adjust ttb anchor rule standards).axis (lent-first l) (omega arith)
    (Stems.changed A (group_of group) (choice_of adjust) (choice_of ttb) (named_anchor anchor) (rule_of rule) standards refl).only
    (λ e i h. all-only A.len i _ (omega (arith, h, len-in ws (dimension_of dim))))
    (StemsHanded.handed-within A (group_of group) (choice_of adjust) (choice_of ttb) (named_anchor anchor) (rule_of rule) standards)

-- `khs_align_blues_and_stems`
pub joined-left : (ws : List ℤ) (dim group adjust ttb rule : ℤ) (standards : List ℤ) (count found : ℤ) {now : List ℤ} {n a : ℤ}
    → JoinedLent ws dim group adjust ttb rule standards count found 0 (now, (n, a))
    → EdgesLeft ws now (joined_aligned ws dim group adjust ttb rule standards).axis
joined-left ws dim group adjust ttb rule standards count found l =
    let A = flat_axis ws (dimension_of dim) Directions.None in
    call-left ws (choices dim group adjust && both_in choice ttb rule) (dimension_of dim) (wherever (λ (i : ℕ). ltb i A.len) (zone joined_marks)) most_fitted
    (joined_aligned ws dim group adjust ttb rule standards).axis (lent-first l) (omega arith)
    (Joined.changed A (group_of group) (choice_of adjust) (choice_of ttb) (rule_of rule) standards refl).only
    (λ e i h. all-only A.len i _ (omega (arith, h, len-in ws (dimension_of dim))))
    (JoinedHanded.handed-within A (group_of group) (choice_of adjust) (choice_of ttb) (rule_of rule) standards)
