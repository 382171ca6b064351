-- `words::edge::edge_from` meets its contract.
use Rattle.words.specs.Word.{word_at}
use Rattle.words.specs.Field.{blue_of}
use Rattle.words.specs.Edge.{edge_from}
use mir.Syntax.{w16, w32}
use Rattle.words.proofs.Fields.{kept}
use mathlib.Core.Path.{◌≡◌, ap, ◌∙◌}
use Prim.Native.Nat.{ℕ, ◌+◌}
use native.Mathlib.Omega.{arith}
use Rattle.words.proofs.edge.edge_from.Goals as goal

pub returns : goal.returns
unfolding edge_from
returns c =
    let last = c in
    let first = last in
    let serif = first in
    let link = serif in
    let blue = link in
    let dir = blue in
    let flags = dir in
    let pos = flags in
    let opos = pos in
    let fpos = opos in
    let a = fpos.args in
    let q : a.at + 5 + 1 ≡ a.at + 6 = omega arith in
    λ i. record {
      fpos = (kept w16 fpos.short_at.result fpos.short_at.type_inv ∙ fpos.short_at.ensures) i;
      opos = (kept w32 opos.word_at.result opos.word_at.type_inv ∙ opos.word_at.ensures) i;
      pos = (kept w32 pos.word_at-2.result pos.word_at-2.type_inv ∙ pos.word_at-2.ensures) i;
      flags = flags.flags_at.ensures i;
      dir = dir.direction_at.ensures i;
      blue = (blue.blue_at.ensures ∙ ap (λ (k : ℕ). blue_of (word_at a.words.now (a.at + 5)) (word_at a.words.now k)) q) i;
      link = link.link_at.ensures i;
      serif = serif.link_at-2.ensures i;
      first = first.index_at.ensures i;
      last = last.index_at-2.ensures i;
      mark = c.mark_at.ensures i;
    }
