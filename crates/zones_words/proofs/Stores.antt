-- The stores of a visit, by what the code has read of the edges.
use Rattle.std.specs.Prelude.{None}
use mathlib.Core.Path.{◌≡◌, refl, sym, ap, ◌∙◌}
use mathlib.Core.Bool.{Bool, true, false, cond}
use mathlib.Core.List.{List}
use Prim.Native.Nat.{ℕ, ◌<◌}
use lib.IntN.{ℤ}
use Rattle.fixed.specs.declared.width.WidthRule.{WidthRule}
use Rattle.axis.specs.declared.flags.Flags.{Flags}
use Rattle.axis.specs.declared.kinds.Dimension.{Dimension}
use Rattle.axis.specs.Link.{Link}
use Rattle.axis.specs.declared.kinds.Mark.{Mark}
use Rattle.axis.specs.declared.kinds.Mark.TheVariants.{Linked}
use Rattle.axis.specs.declared.edge.Edge.{Edge}
use Rattle.axis.specs.Edge.{edge_at, put_edge, flagged, finished, fixed_at, has_blue}
use Rattle.place.specs.Placing.{linked_pos, linked_edge}
use Rattle.words.specs.Word.{word_at}
use Rattle.words.specs.Field.{flags_of, mark_of}
use Rattle.words.specs.Edge.{flags_place, mark_place, word_of_edge, edges_in}
use Rattle.zones.specs.Zones.{not_neutral, zone_mark}
use Rattle.zones.specs.Steps.{thinned, both_zoned, loses_own, loses_link, linked_or_zoned, thin_at}
use Rattle.zones.proofs.Straight.{put_same}
use Rattle.words_call.specs.Lent.{edges_of}
use Rattle.words_edge.specs.Whole.{Whole, axis_in, Became, flagging, fixing, zoned, unzoning, reduced}
use Rattle.words_edge.proofs.Wholes.{read-in}
use Rattle.words_edge.proofs.Reading.{flags-in, mark-in}
use Rattle.words_edge.proofs.Became.{stays, became-then, became-as, put-again}
use Rattle.zones_words.specs.Blues.{thinning, skipping, zoning, linking}

-- ---- a zone skipped
pub thin-law : (ws w1 w2 : List ℤ) (i : ℕ) (t : Bool) (fl : Flags) → Whole ws → i < edges_in ws → t ≡ true → fl ≡ flags_of (word_at ws (word_of_edge i flags_place))
    → Became (flagging i (not_neutral fl)) ws w1 → Became (unzoning i) w1 w2 → Became (thinning i t) ws w2
unfolding thinned
thin-law ws w1 w2 i t fl w h e q a b = became-as both (became-then a b)
  where
    both : (d : Dimension) → unzoning i (flagging i (not_neutral fl) (axis_in ws d)) ≡ thinning i t (axis_in ws d)
    both d =
        let A = axis_in ws d in
        put-again (λ (x : Edge). zoned x None) ws d i (flagged (edge_at A i) (not_neutral fl)) w h
        ∙ ap (λ (f : Flags). put_edge A i (zoned (flagged (edge_at A i) (not_neutral f)) None)) (q ∙ sym (flags-in ws d i w h))
        ∙ ap (λ (x : Bool). thinning i x A) (sym e)

pub thin-none : (ws : List ℤ) (i : ℕ) (t : Bool) → Whole ws → t ≡ false → Became (thinning i t) ws ws
unfolding thinned
thin-none ws i t w e = stays (thinning i t) w (λ (d : Dimension). sym (put_same (axis_in ws d) i) ∙ ap (λ (x : Bool). thinning i x (axis_in ws d)) (sym e))

-- ---- one zone of two
own-reads : (e g : Edge) → loses_own (reduced e) (reduced g) ≡ loses_own e g
unfolding loses_own both_zoned
own-reads e g = refl

link-reads : (e g : Edge) → loses_link (reduced e) (reduced g) ≡ loses_link e g
unfolding loses_link both_zoned
link-reads e g = refl

pub skip-law : (ws w1 w2 : List ℤ) (i k : ℕ) {e g : Edge} {own other : Bool} → e ≡ reduced (edge_at (edges_of ws) i) → g ≡ reduced (edge_at (edges_of ws) k)
    → own ≡ loses_own e g → other ≡ loses_link e g → Became (thinning i own) ws w1 → Became (thinning k other) w1 w2 → Became (skipping i k) ws w2
skip-law ws w1 w2 i k {e} {g} {own} {other} p q own_is other-is a b = became-as both (became-then a b)
  where
    both : (d : Dimension) → thinning k other (thinning i own (axis_in ws d)) ≡ skipping i k (axis_in ws d)
    both d =
        let A = edge_at (axis_in ws d) i in
        let B = edge_at (axis_in ws d) k in
        let p' = read-in ws i p d in
        let q' = read-in ws k q d in
        ap (λ (t : Bool). thin_at (thin_at (axis_in ws d) i t) k other) (own_is ∙ (λ n. loses_own (p' n) (q' n)) ∙ own-reads A B)
        ∙ ap (thin_at (thin_at (axis_in ws d) i (loses_own A B)) k) (other-is ∙ (λ n. loses_link (p' n) (q' n)) ∙ link-reads A B)

-- ---- an edge on its zone
pub zone-law : (ws w1 : List ℤ) (anchor : Link) (i : ℕ) (z : ℤ) {z' : ℤ} {e : Edge} {m n : Mark} → Whole ws → i < edges_in ws
    → e ≡ reduced (edge_at (edges_of ws) i)
    → m ≡ mark_of (word_at ws (word_of_edge i mark_place)) → n ≡ cond e.flags.done m (zone_mark anchor) → z' ≡ z → Became (fixing i z' n) ws w1
    → Became (zoning anchor i z) ws w1
zone-law ws w1 anchor i z {z'} {e} {m} {n} w h q r f t a = became-as same a
  where
    same : (d : Dimension) → fixing i z' n (axis_in ws d) ≡ zoning anchor i z (axis_in ws d)
    same d =
        let A = axis_in ws d in
        let E = edge_at A i in
        let mark : m ≡ E.mark = r ∙ sym (mark-in ws d i w h) in
        let flags = read-in ws i q d in
        (λ k. put_edge A i (fixed_at E (t k) (f k))) ∙ (λ k. put_edge A i (fixed_at E z (cond (flags k).flags.done (mark k) (zone_mark anchor))))

-- ---- an edge behind another
module _ (rule : WidthRule) (xs ws : List ℤ) (one two : ℕ) {stem : Edge} {t : Bool} (q : stem ≡ reduced (edge_at (edges_of ws) two))
    (b : t ≡ has_blue stem.blue) where
  zone-at : (d : Dimension) → has_blue (edge_at (axis_in ws d) two).blue ≡ t
  zone-at d = sym (b ∙ ap (λ (x : Edge). has_blue x.blue) (read-in ws two q d))

  -- it has a zone
  pub stem-zoned : Whole ws → t ≡ true → Became (linking rule xs one two) ws ws
  unfolding linked_or_zoned
  stem-zoned w e =
      stays (linking rule xs one two) w
      (λ (d : Dimension).
      let A = axis_in ws d in
      sym (ap (λ (x : Bool). put_edge A two (cond x (edge_at A two) (finished (linked_edge rule xs (edge_at A one) (edge_at A two))))) (zone-at d ∙ e)
      ∙ put_same A two))

  -- it has none
  pub stem-law : {w1 : List ℤ} {base moved : Edge} {z : ℤ} → t ≡ false → base ≡ reduced (edge_at (edges_of ws) one) → moved ≡ linked_edge rule xs base stem
      → z ≡ moved.pos
      → Became (fixing two z Linked) ws w1 → Became (linking rule xs one two) ws w1
  unfolding linked_or_zoned
  stem-law {w1} {base} {moved} {z} e p m r a = became-as same a
    where
      same : (d : Dimension) → fixing two z Linked (axis_in ws d) ≡ linking rule xs one two (axis_in ws d)
      same d =
          let A = axis_in ws d in
          let p' = read-in ws one p d in
          let q' = read-in ws two q d in
          ap (λ (x : ℤ). put_edge A two (fixed_at (edge_at A two) x Linked))
          (r ∙ ap (λ (x : Edge). x.pos) m ∙ (λ n. linked_pos rule xs (p' n).pos (p' n).opos (q' n).opos))
          ∙ ap (λ (x : Bool). put_edge A two (cond x (edge_at A two) (finished (linked_edge rule xs (edge_at A one) (edge_at A two))))) (sym (zone-at d ∙ e))
