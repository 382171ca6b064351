-- `stem_cjk_words::stem::stem_in` meets its contract.
use mathlib.Core.Path.{◌≡◌, sym, ap, subst, ◌∙◌}
use lib.IntN.{ℤ}
use mir.Syntax.{w32}
use mir.Val.{to_z, of_z}
use Rattle.signed.specs.Range.{Between}
use Rattle.signed.proofs.Signed.{is, got}
use Rattle.axis.specs.declared.edge.Edge.{Edge}
use Rattle.axis.specs.Edge.{edge_at}
use Rattle.axis.specs.Limits.{most_passed}
use Rattle.words_call.specs.Lent.{edges_of}
use Rattle.stems_cjk.specs.declared.stem.Stem.{Stem}
use Rattle.stems_cjk.specs.Cjk.{most_width, most_cjk_start}
use Rattle.stems_cjk.proofs.Moves.{stem-pos-range, stem-width-range, start-read, width_read}
use Rattle.place_words.proofs.Places.{read-reach}
use Rattle.stem_cjk_words.specs.Stem.{stem_read}
use Rattle.stem_cjk_words.proofs.Stems.{stem-read, first_below, second_below}
use borrow.Author.Rules.{rules}
use Rattle.stem_cjk_words.proofs.stem.stem_in.Goals as goal

pub stem_of-stem-requires : goal.stem_of-stem-requires
stem_of-stem-requires c = let r = c.requires.in_reach in
    record {
      standards_value = c.requires.standards_value;
      in_reach = (
        read-reach c.read_edge-edge1.result c.read_edge-edge1.ensures r.0,
        read-reach c.read_edge-other.result c.read_edge-other.ensures r.1,
        subst (Between most_passed most_passed) (sym (is c.ranges.delta)) r.2,
      );
    }

pub place_stem_in-requires : goal.place_stem_in-requires
place_stem_in-requires c =
    let stem-is : c.stem_of-stem.result ≡ (stem_read c.args.dim c.args.stem_adjust c.args.rule c.args.standards.now c.args.edge c.args.edge2 c.args.delta
    c.args.words.now) = stem-read c.args.dim c.args.stem_adjust c.args.rule c.args.standards.now c.args.edge c.args.edge2 c.args.words.now
    c.read_edge-edge1.ensures c.read_edge-other.ensures (is c.ranges.delta) c.stem_of-stem.ensures in
    let pos-range : Between most_cjk_start most_cjk_start c.stem_of-stem.result.pos = let r = c.requires.in_reach in
    subst (λ (x : Stem). Between most_cjk_start most_cjk_start x.pos) (sym stem-is) (stem-pos-range _ _ _ _ _ _ _ r.0 r.1 r.2) in
    let pos-held : Between most_cjk_start most_cjk_start (to_z w32 (of_z w32 c.stem_of-stem.result.pos)) = subst (Between most_cjk_start most_cjk_start) (sym (start-read _ pos-range)) pos-range in
    let width-range : Between most_width most_width c.stem_of-stem.result.width = let r = c.requires.in_reach in
    subst (λ (x : Stem). Between most_width most_width x.width) (sym stem-is)
    (stem-width-range c.args.dim c.args.stem_adjust c.args.rule c.args.standards.now _ _ c.args.delta r.0 r.1) in
    let width-held : Between most_width most_width (to_z w32 (of_z w32 c.stem_of-stem.result.width)) = subst (Between most_width most_width) (sym (width_read _ width-range)) width-range in
    record {
      whole = c.requires.whole;
      between = (pos-held, width-held);
    }

pub returns-then-edge1-other : goal.returns-then-edge1-other
returns-then-edge1-other c =
    let stem_by : Stem = stem_read c.args.dim c.args.stem_adjust c.args.rule c.args.standards.now c.args.edge c.args.edge2 c.args.delta
    c.args.words.now in
    let stem-is : c.stem_of-stem.result ≡ stem_by = stem-read c.args.dim c.args.stem_adjust c.args.rule c.args.standards.now c.args.edge c.args.edge2 c.args.words.now
    c.read_edge-edge1.ensures c.read_edge-other.ensures (is c.ranges.delta) c.stem_of-stem.ensures in
    let opos : ℤ × ℤ = ((edge_at (edges_of c.args.words.now) c.args.edge).opos, (edge_at (edges_of c.args.words.now) c.args.edge2).opos) in
    let own_is : (to_z w32 (of_z w32 c.read_edge-edge1.result.opos) ≡ opos.0)
    × (to_z w32 (of_z w32 c.read_edge-other.result.opos) ≡ opos.1) = (
      is (got w32 _ c.struct_told-1.given.1.0.1) ∙ ap (λ (x : Edge). x.opos) c.read_edge-edge1.ensures,
      is (got w32 _ c.struct_told-2-1.given.1.0.1) ∙ ap (λ (x : Edge). x.opos) c.read_edge-other.ensures,
    ) in
    record {
      delta = is (got w32 _ c.struct_told-then-edge1-other-3-1.given.1.1.0.1) ∙ ap (λ (x : Stem). x.delta) stem-is;
      words =
          first_below c.args.edge c.args.edge2 stem_by own_is.0 own_is.1 c.if-edge1-other.true
          (is (got w32 _ c.struct_told-then-edge1-other-1.given.0.1) ∙ ap (λ (x : Stem). x.pos) stem-is)
          (is (got w32 _ c.struct_told-then-edge1-other-2-1.given.1.0.1) ∙ ap (λ (x : Stem). x.width) stem-is) c.place_stem_in.ensures;
    }

pub place_stem_in-requires-2 : goal.place_stem_in-requires-2
place_stem_in-requires-2 c =
    let stem-is : c.stem_of-stem.result ≡ (stem_read c.args.dim c.args.stem_adjust c.args.rule c.args.standards.now c.args.edge c.args.edge2 c.args.delta
    c.args.words.now) = stem-read c.args.dim c.args.stem_adjust c.args.rule c.args.standards.now c.args.edge c.args.edge2 c.args.words.now
    c.read_edge-edge1.ensures c.read_edge-other.ensures (is c.ranges.delta) c.stem_of-stem.ensures in
    let pos-range : Between most_cjk_start most_cjk_start c.stem_of-stem.result.pos = let r = c.requires.in_reach in
    subst (λ (x : Stem). Between most_cjk_start most_cjk_start x.pos) (sym stem-is) (stem-pos-range _ _ _ _ _ _ _ r.0 r.1 r.2) in
    let pos-held : Between most_cjk_start most_cjk_start (to_z w32 (of_z w32 c.stem_of-stem.result.pos)) = subst (Between most_cjk_start most_cjk_start) (sym (start-read _ pos-range)) pos-range in
    let width-range : Between most_width most_width c.stem_of-stem.result.width = let r = c.requires.in_reach in
    subst (λ (x : Stem). Between most_width most_width x.width) (sym stem-is)
    (stem-width-range c.args.dim c.args.stem_adjust c.args.rule c.args.standards.now _ _ c.args.delta r.0 r.1) in
    let width-held : Between most_width most_width (to_z w32 (of_z w32 c.stem_of-stem.result.width)) = subst (Between most_width most_width) (sym (width_read _ width-range)) width-range in
    let w = c.requires.whole in
    record {
      whole = (w.0, w.2, w.1);
      between = (pos-held, width-held);
    }

pub returns : goal.returns
returns c =
    let stem_by : Stem = stem_read c.args.dim c.args.stem_adjust c.args.rule c.args.standards.now c.args.edge c.args.edge2 c.args.delta
    c.args.words.now in
    let stem-is : c.stem_of-stem.result ≡ stem_by = stem-read c.args.dim c.args.stem_adjust c.args.rule c.args.standards.now c.args.edge c.args.edge2 c.args.words.now
    c.read_edge-edge1.ensures c.read_edge-other.ensures (is c.ranges.delta) c.stem_of-stem.ensures in
    let opos : ℤ × ℤ = ((edge_at (edges_of c.args.words.now) c.args.edge).opos, (edge_at (edges_of c.args.words.now) c.args.edge2).opos) in
    let own_is : (to_z w32 (of_z w32 c.read_edge-edge1.result.opos) ≡ opos.0)
    × (to_z w32 (of_z w32 c.read_edge-other.result.opos) ≡ opos.1) = (
      is (got w32 _ c.struct_told-1.given.1.0.1) ∙ ap (λ (x : Edge). x.opos) c.read_edge-edge1.ensures,
      is (got w32 _ c.struct_told-2-1.given.1.0.1) ∙ ap (λ (x : Edge). x.opos) c.read_edge-other.ensures,
    ) in
    record {
      delta = is (got w32 _ c.struct_told-5-1.given.1.1.0.1) ∙ ap (λ (x : Stem). x.delta) stem-is;
      words =
          second_below c.args.edge c.args.edge2 stem_by own_is.0 own_is.1 c.if-edge1-other.false
          (is (got w32 _ c.struct_told-3-1.given.0.1) ∙ ap (λ (x : Stem). x.pos) stem-is)
          (is (got w32 _ c.struct_told-4-1.given.1.0.1) ∙ ap (λ (x : Stem). x.width) stem-is) c.place_stem_in-2.ensures;
    }
