-- `lowercase_m_words::hint::m_in` meets its contract.
use mathlib.Core.Path.{◌≡◌, sym, subst, ◌∙◌}
use borrow.Author.Tests.{not-true, not-false}
use Rattle.signed.specs.Range.{Between}
use Rattle.signed.proofs.Signed.{is}
use Rattle.words_call.specs.Lent.{edges_of}
use Rattle.lowercase_m.specs.M.{delta, most_delta}
use Rattle.lowercase_m.specs.Steps.{StemsOf}
use Rattle.lowercase_m.proofs.Places.{pos-read, pos-held, delta-between, places_of, in_table}
use Rattle.lowercase_m_words.proofs.Moving.{of_words}
use Rattle.lowercase_m_words.proofs.Stems.{stems-in, ReadWithin, read-within, link-in, rule-stays, rule-law}
use borrow.Author.Rules.{rules}
use Rattle.lowercase_m_words.proofs.hint.m_in.Goals as goal

pub read_edge-edge1-requires : goal.read_edge-edge1-requires
read_edge-edge1-requires c =
    let ws = c.args.words.now in
    let st = stems-in ws c.stems_of-stems.ensures c.requires.1 c.requires.2 in
    (c.requires.0, of_words ws _ st.first_below)

pub read_edge-edge2-requires : goal.read_edge-edge2-requires
read_edge-edge2-requires c =
    let ws = c.args.words.now in
    let st = stems-in ws c.stems_of-stems.ensures c.requires.1 c.requires.2 in
    (c.requires.0, of_words ws _ st.second_below)

pub read_edge-edge3-requires : goal.read_edge-edge3-requires
read_edge-edge3-requires c =
    let ws = c.args.words.now in
    let st = stems-in ws c.stems_of-stems.ensures c.requires.1 c.requires.2 in
    (c.requires.0, of_words ws _ st.third_below)

pub applies-requires : goal.applies-requires
applies-requires c =
    let ws = c.args.words.now in
    let st = stems-in ws c.stems_of-stems.ensures c.requires.1 c.requires.2 in
    let w1 = read-within ws _ c.read_edge-edge1.ensures c.requires.1 st.first_below in
    let w2 = read-within ws _ c.read_edge-edge2.ensures c.requires.1 st.second_below in
    let w3 = read-within ws _ c.read_edge-edge3.ensures c.requires.1 st.third_below in
    record {
      in_table = in_table _ _ st;
      between = (w1.opos, w2.opos, w3.opos);
    }

pub returns-then-not-applies : goal.returns-then-not-applies
returns-then-not-applies c =
    rule-stays c.args.words.now c.args.group c.stems_of-stems.ensures c.read_edge-edge1.ensures c.read_edge-edge2.ensures c.read_edge-edge3.ensures
    c.applies.ensures c.requires.0 c.if-not-applies.true

pub delta_of-delta-requires : goal.delta_of-delta-requires
delta_of-delta-requires c =
    let ws = c.args.words.now in
    let st = stems-in ws c.stems_of-stems.ensures c.requires.1 c.requires.2 in
    let w1 = read-within ws _ c.read_edge-edge1.ensures c.requires.1 st.first_below in
    let w2 = read-within ws _ c.read_edge-edge2.ensures c.requires.1 st.second_below in
    let w3 = read-within ws _ c.read_edge-edge3.ensures c.requires.1 st.third_below in
    (pos-held _ w1.pos, pos-held _ w2.pos, pos-held _ w3.pos)

pub stem_in-requires : goal.stem_in-requires
stem_in-requires c =
    let ws = c.args.words.now in
    let st = stems-in ws c.stems_of-stems.ensures c.requires.1 c.requires.2 in
    let h = st.third_below in
    let r = c.delta_of-delta.ensures.1 in
    record {
      whole = (c.requires.0, of_words ws _ h, link-in ws _ c.requires.1 h);
      places = (places_of (edges_of ws) c.requires.1, subst (Between most_delta most_delta) (sym (is r.fits)) (delta-between _ r));
    }

pub returns : goal.returns
returns c =
    let ws = c.args.words.now in
    let st = stems-in ws c.stems_of-stems.ensures c.requires.1 c.requires.2 in
    let w1 = read-within ws _ c.read_edge-edge1.ensures c.requires.1 st.first_below in
    let w2 = read-within ws _ c.read_edge-edge2.ensures c.requires.1 st.second_below in
    let w3 = read-within ws _ c.read_edge-edge3.ensures c.requires.1 st.third_below in
    let d : c.delta_of-delta.result ≡ delta c.read_edge-edge1.result.pos c.read_edge-edge2.result.pos c.read_edge-edge3.result.pos =
    c.delta_of-delta.ensures.0 ∙ λ i. delta (pos-read _ w1.pos i) (pos-read _ w2.pos i) (pos-read _ w3.pos i) in
    rule-law ws c.args.group c.stems_of-stems.ensures c.read_edge-edge1.ensures c.read_edge-edge2.ensures c.read_edge-edge3.ensures
    c.applies.ensures c.if-not-applies.false (is c.delta_of-delta.ensures.1.fits ∙ d) c.stem_in.ensures
