-- What becomes of an edge, by what the code has read.
use Rattle.std.specs.Prelude.{None, Some}
use mathlib.Core.Path.{◌≡◌, refl, sym, ap, subst, ◌∙◌}
use mathlib.Core.Bool.{Bool, true, cond}
use mathlib.Core.List.{List}
use Prim.Native.Nat.{ℕ, ◌*◌, ◌<◌}
use native.Mathlib.Omega.{arith}
use lib.IntN.{ℤ, pos}
use lib.Signed.{lt_z}
use Rattle.signed.specs.Distance.{distance}
use Rattle.signed.proofs.Choices.{either_way}
use Rattle.axis.specs.declared.edge.Axis.{Axis}
use Rattle.axis.specs.declared.edge.Edge.{Edge}
use Rattle.axis.specs.declared.flags.Flags.{Flags}
use Rattle.axis.specs.declared.kinds.Dimension.{Dimension}
use Rattle.axis.specs.Link.{Link}
use Rattle.axis.specs.Accepted.{Below}
use Rattle.axis.specs.Edge.{empty_edge, edge_at, put_edge, flagged, joined_to}
use Rattle.axis.specs.Limits.{most_edges}
use Rattle.axis.proofs.Acceptance.{below_none, below-to}
use Rattle.build_properties.specs.Properties.{chosen, set_serif, put_serif, put_link, serif_beside, with_properties}
use Rattle.words.specs.Word.{word_at}
use Rattle.words.specs.Field.{short_of, flags_of, link_of}
use Rattle.words.specs.Edge.{edge_size, flags_place, link_place, serif_place, word_of_edge, edge_from, edges_in, axis_run, flat_axis}
use Rattle.words_call.specs.Lent.{edges_of}
use Rattle.words_edge.specs.Whole.{Whole, axis_in, Became, flagging, linking, serifing}
use Rattle.words_edge.proofs.Wholes.{edge_in}
use Rattle.words_edge.proofs.Reading.{flags-in, link-in, serif-in}
use Rattle.words_edge.proofs.Became.{became-then, became-as, put-again}
use Rattle.build_properties_words.specs.Steps.{Joined, taking_serif, taking_link, ending}

-- ---- the edge that is to be had
-- it is one of n
chosen-inside : (n : ℕ) (axis : Axis) (e : Edge) (delta : ℤ) (q : ℕ) (held : Link) → q < n → Below n held → chosen axis e delta q held < n
unfolding chosen
chosen-inside n axis e delta q None h b = h
chosen-inside n axis e delta q (Some o) h b =
    either_way (λ (k : ℕ). k < n) (lt_z delta (pos (distance e.fpos (edge_at axis o).fpos))) q o h (b.at o refl)

-- it is the same on every dimension
chosen-same : (ws : List ℤ) (d : Dimension) (e : Edge) (delta : ℤ) (q : ℕ) (held : Link)
    → chosen (edges_of ws) e delta q held ≡ chosen (axis_in ws d) e delta q held
unfolding chosen flat_axis axis_run
chosen-same ws d e delta q None = refl
chosen-same ws d e delta q (Some o) = refl

edge_same : (ws : List ℤ) (d : Dimension) (k : ℕ) → edge_at (edges_of ws) k ≡ edge_at (axis_in ws d) k
unfolding flat_axis axis_run
edge_same ws d k = refl

-- by where the two edges stand
fpos-from : (ws : List ℤ) (at : ℕ) → (edge_from ws at).fpos ≡ short_of (word_at ws at)
unfolding edge_from
fpos-from ws at = refl

fpos-in : (ws : List ℤ) (k : ℕ) → Whole ws → k < edges_in ws → short_of (word_at ws (edge_size * k)) ≡ (edge_at (edges_of ws) k).fpos
fpos-in ws k w h = sym (ap (λ (e : Edge). e.fpos) (edge_in ws _ k w h) ∙ fpos-from ws (edge_size * k))

module _ (ws : List ℤ) (k : ℕ) (delta : ℤ) (q : ℕ) {held : Link} where
  pub chosen_none : held ≡ None → q ≡ chosen (edges_of ws) (edge_at (edges_of ws) k) delta q held
  unfolding chosen
  chosen_none e = ap (chosen (edges_of ws) (edge_at (edges_of ws) k) delta q) (sym e)

  pub chosen-held : (b : Bool) {o : ℕ} {v x y z : ℤ} → Whole ws → k < edges_in ws → Below (edges_in ws) held → held ≡ Some o
      → x ≡ short_of (word_at ws (edge_size * k))
      → y ≡ short_of (word_at ws (edge_size * o)) → z ≡ pos (distance x y) → v ≡ delta → lt_z v z ≡ b
      → cond b q o ≡ chosen (edges_of ws) (edge_at (edges_of ws) k) delta q held
  unfolding chosen
  chosen-held b {o} w h below e x-is y-is z-is v-is t =
      let p = x-is ∙ fpos-in ws k w h in
      let r = y-is ∙ fpos-in ws o w (below.at o e) in
      ap (λ (u : Bool). cond u q o) (sym t ∙ (λ n. lt_z (v-is n) (z-is n)) ∙ λ n. lt_z delta (pos (distance (p n) (r n))))
      ∙ ap (chosen (edges_of ws) (edge_at (edges_of ws) k) delta q) (sym e)

-- ---- edges that can be named
pub named-below : (ws : List ℤ) (l : Link) → Whole ws → Below (edges_in ws) l → Below most_edges l
named-below ws l w b = record { at = λ k e. omega (arith, b.at k e, w.few) }

beside-below : (l s : Link) → Below most_edges s → Below most_edges (serif_beside l s)
beside-below None s b = b
beside-below (Some i) s b = below_none most_edges

module _ (ws : List ℤ) (k : ℕ) (j : Joined ws k) where
  held_link : {l : Link} → l ≡ link_of (word_at ws (word_of_edge k link_place)) → l ≡ (edge_at (edges_of ws) k).link
  held_link e = e ∙ sym (link-in ws _ k j.whole j.inside)

  held-serif : {l : Link} → l ≡ link_of (word_at ws (word_of_edge k serif_place)) → l ≡ (edge_at (edges_of ws) k).serif
  held-serif e = e ∙ sym (serif-in ws _ k j.whole j.inside)

  -- the link and the serif that are read
  pub link-below : {l : Link} → l ≡ link_of (word_at ws (word_of_edge k link_place)) → Below (edges_in ws) l
  link-below e = subst (Below (edges_in ws)) (sym (held_link e)) j.edge.link

  pub serif-below : {l : Link} → l ≡ link_of (word_at ws (word_of_edge k serif_place)) → Below (edges_in ws) l
  serif-below e = subst (Below (edges_in ws)) (sym (held-serif e)) j.edge.serif

  -- the edge that is chosen
  pub taken-inside : (delta : ℤ) (q : ℕ) {w : ℕ} {held : Link} → q < edges_in ws → Below (edges_in ws) held
      → w ≡ chosen (edges_of ws) (edge_at (edges_of ws) k) delta q held → w < edges_in ws
  taken-inside delta q {w} {held} h b e =
      subst (λ (x : ℕ). x < edges_in ws) (sym e) (chosen-inside (edges_in ws) (edges_of ws) (edge_at (edges_of ws) k) delta q held h b)

  pub taken-below : (delta : ℤ) (q : ℕ) {w : ℕ} {held : Link} → q < edges_in ws → Below (edges_in ws) held
      → w ≡ chosen (edges_of ws) (edge_at (edges_of ws) k) delta q held → Below most_edges (Some w)
  taken-below delta q {w} h b e = named-below ws (Some w) j.whole (below-to (edges_in ws) w (taken-inside delta q h b e))

  -- ---- the stores
  module _ (q : ℕ) {delta delta' : ℤ} {w : ℕ} {held : Link} (p : delta' ≡ delta) (e : w ≡ chosen (edges_of ws) (edge_at (edges_of ws) k) delta' q held) where
    taken : (d : Dimension) {l : Link} → held ≡ l → w ≡ chosen (axis_in ws d) (edge_at (axis_in ws d) k) delta q l
    taken d h = e ∙ chosen-same ws d _ delta' q held ∙ λ n. chosen (axis_in ws d) (edge_same ws d k n) (p n) q (h n)

    pub link-taken : {w1 : List ℤ} → held ≡ link_of (word_at ws (word_of_edge k link_place)) → Became (linking k (Some w)) ws w1
        → Became (taking_link k delta q) ws w1
    link-taken h a =
        became-as (λ (d : Dimension). ap (λ (x : ℕ). put_link k x (axis_in ws d)) (taken d (held_link h ∙ ap (λ (x : Edge). x.link) (edge_same ws d k)))) a

    pub serif-taken : {w1 w2 : List ℤ} → held ≡ link_of (word_at ws (word_of_edge k serif_place)) → Became (serifing k (Some w)) ws w1
        → Became (set_serif w) w1 w2
        → Became (taking_serif k delta q) ws w2
    serif-taken h a b =
        became-as (λ (d : Dimension). ap (λ (x : ℕ). put_serif k x (axis_in ws d)) (taken d (held-serif h ∙ ap (λ (x : Edge). x.serif) (edge_same ws d k))))
        (became-then a b)

  -- the end of a visit, by the link and the serif alone
  module _ (round straight : ℕ) {link serif : Link} {x : Edge} (p : link ≡ link_of (word_at ws (word_of_edge k link_place)))
      (q : serif ≡ link_of (word_at ws (word_of_edge k serif_place)))
      (e : x ≡ with_properties round straight (joined_to empty_edge link serif)) where
    pub left_below : Below most_edges x.serif
    unfolding with_properties
    left_below = subst (λ (g : Edge). Below most_edges g.serif) (sym e) (beside-below link serif (named-below ws serif j.whole (serif-below q)))

    pub ended : {w1 w2 : List ℤ} → Became (flagging k x.flags) ws w1 → Became (serifing k x.serif) w1 w2 → Became (ending k round straight) ws w2
    unfolding with_properties
    ended {w1} {w2} a b = became-as same (became-then a b)
      where
        same : (d : Dimension) → serifing k x.serif (flagging k x.flags (axis_in ws d)) ≡ ending k round straight (axis_in ws d)
        same d =
            let A = axis_in ws d in
            let E = edge_at A k in
            let l = held_link p ∙ ap (λ (g : Edge). g.link) (edge_same ws d k) in
            let s = held-serif q ∙ ap (λ (g : Edge). g.serif) (edge_same ws d k) in
            put-again (λ (g : Edge). joined_to g g.link x.serif) ws d k (flagged E x.flags) j.whole j.inside
            ∙ ap (λ (g : Edge). put_edge A k (joined_to (flagged E g.flags) E.link g.serif)) e
            ∙ (λ n. let g = with_properties round straight (joined_to empty_edge (l n) (s n)) in put_edge A k
            (joined_to (flagged E g.flags) E.link g.serif))

-- an edge marked
pub mark-law : (ws : List ℤ) (k : ℕ) {w1 : List ℤ} {f : Flags} → Whole ws → k < edges_in ws → f ≡ flags_of (word_at ws (word_of_edge k flags_place))
    → Became (flagging k (record { round = f.round; serif = true; done = f.done; neutral = f.neutral })) ws w1 → Became (set_serif k) ws w1
mark-law ws k w h e a =
    became-as
    (λ (d : Dimension).
    ap (λ (g : Flags). flagging k (record { round = g.round; serif = true; done = g.done; neutral = g.neutral }) (axis_in ws d))
    (e ∙ sym (flags-in ws d k w h)))
    a
