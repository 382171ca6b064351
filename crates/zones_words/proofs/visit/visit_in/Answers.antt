-- `zones_words::visit::visit_in` meets its contract.
use Rattle.std.specs.Prelude.{Some}
use Prim.Native.Nat.{◌<◌}
use native.Mathlib.Omega.{arith}
use lib.IntN.{ℤ}
use mathlib.Core.Path.{subst}
use mir.Syntax.{w32}
use mir.Val.{SFits}
use Rattle.signed.proofs.Signed.{is, fits-in}
use Rattle.words.specs.Edge.{edges_in}
use Rattle.words_edge.specs.Whole.{Became}
use Rattle.words_edge.proofs.Became.{below_in}
use Rattle.zones.proofs.Kept.{read-or}
use Rattle.zones_words.specs.Blues.{zoning}
use Rattle.zones_words.proofs.Visits.{
  Found,
  Chosen,
  visited-done,
  link-below,
  visited-none,
  one_below,
  two-below,
  fitted-between,
  zone-bound,
  visited-zone,
}
use Rattle.zones_words.proofs.visit.visit_in.Goals as goal

pub returns-then-edge : goal.returns-then-edge
returns-then-edge c =
    visited-done c.args.rule c.args.standards.now c.args.words.now c.args.anchor c.args.i c.read_edge-edge.ensures c.requires.whole.0
    c.if-edge.true

pub skip_in-requires : goal.skip_in-requires
skip_in-requires c =
    let linked-in : c.map_or-k.result < edges_in c.args.words.now =
    link-below c.args.words.now c.args.i _ c.read_edge-edge.ensures c.requires.whole.1 c.requires.whole.2 (read-or _ _ _ c.map_or-k.ensures) in
    (c.requires.whole.0, c.requires.whole.1, linked-in)

pub read_edge-edge2-requires : goal.read_edge-edge2-requires
read_edge-edge2-requires c =
    let linked-in : c.map_or-k.result < edges_in c.args.words.now =
    link-below c.args.words.now c.args.i _ c.read_edge-edge.ensures c.requires.whole.1 c.requires.whole.2 (read-or _ _ _ c.map_or-k.ensures) in
    (c.skip_in.ensures.whole, below_in _ c.skip_in.ensures linked-in)

pub returns-in_default : goal.returns-in_default
returns-in_default c =
    let found : Found c.args.words.now c.skip_in.new.words c.args.i c.map_or-k.result c.read_edge-visited.result c.zone_of-zone.result =
    record {
      edge = c.read_edge-edge.result;
      edge2 = c.read_edge-edge2.result;
      below = c.requires.whole.1;
      within = c.requires.whole.2;
      read = c.read_edge-edge.ensures;
      not_done = c.if-edge.false;
      link = (read-or _ _ _ c.map_or-k.ensures);
      skip = c.skip_in.ensures;
      first = c.read_edge-visited.ensures;
      second = c.read_edge-edge2.ensures;
      zone = c.zone_of-zone.ensures;
    } in
    visited-none found c.args.rule c.args.standards.now c.args.anchor c.in_default.is

pub zone_in-requires : goal.zone_in-requires
zone_in-requires c =
    let found : Found c.args.words.now c.skip_in.new.words c.args.i c.map_or-k.result c.read_edge-visited.result c.zone_of-zone.result =
    record {
      edge = c.read_edge-edge.result;
      edge2 = c.read_edge-edge2.result;
      below = c.requires.whole.1;
      within = c.requires.whole.2;
      read = c.read_edge-edge.ensures;
      not_done = c.if-edge.false;
      link = (read-or _ _ _ c.map_or-k.ensures);
      skip = c.skip_in.ensures;
      first = c.read_edge-visited.ensures;
      second = c.read_edge-edge2.ensures;
      zone = c.zone_of-zone.ensures;
    } in
    let fitted : ℤ = c.in-Some.fitted in
    let chosen : Chosen c.args.i c.map_or-k.result c.read_edge-visited.result c.zone_of-zone.result c.choose-one.result c.choose-two.result fitted =
    record {
      on = c.has_blue-on.result;
      fitted = c.in-Some.is;
      on_is = c.has_blue-on.ensures;
      one_is = c.choose-one.ensures;
      two_is = c.choose-two.ensures;
    } in
    (c.skip_in.ensures.whole, one_below found chosen)

pub stem_in-requires : goal.stem_in-requires
stem_in-requires c =
    let found : Found c.args.words.now c.skip_in.new.words c.args.i c.map_or-k.result c.read_edge-visited.result c.zone_of-zone.result =
    record {
      edge = c.read_edge-edge.result;
      edge2 = c.read_edge-edge2.result;
      below = c.requires.whole.1;
      within = c.requires.whole.2;
      read = c.read_edge-edge.ensures;
      not_done = c.if-edge.false;
      link = (read-or _ _ _ c.map_or-k.ensures);
      skip = c.skip_in.ensures;
      first = c.read_edge-visited.ensures;
      second = c.read_edge-edge2.ensures;
      zone = c.zone_of-zone.ensures;
    } in
    let fitted : ℤ = c.in-Some.fitted in
    let chosen : Chosen c.args.i c.map_or-k.result c.read_edge-visited.result c.zone_of-zone.result c.choose-one.result c.choose-two.result fitted =
    record {
      on = c.has_blue-on.result;
      fitted = c.in-Some.is;
      on_is = c.has_blue-on.ensures;
      one_is = c.choose-one.ensures;
      two_is = c.choose-two.ensures;
    } in
    let fitted-is : SFits w32 fitted = fits-in w32 (fitted-between found chosen) tt tt in
    let put : Became (zoning c.args.anchor c.choose-one.result fitted) c.skip_in.new.words c.zone_in.new.words =
    subst (λ (x : ℤ). Became (zoning c.args.anchor c.choose-one.result x) c.skip_in.new.words c.zone_in.new.words)
    (is fitted-is) c.zone_in.ensures in
    let f = found in
    let k = chosen in
    record {
      standards_value = c.requires.standards_value;
      whole = (put.whole, below_in _ put (one_below f k), below_in _ put (two-below f k), zone-bound f k c.args.anchor put);
    }

pub anchor_first-requires : goal.anchor_first-requires
anchor_first-requires c =
    let few = c.requires.whole.0.few in
    let at = c.requires.whole.1 in
    omega (arith, few, at)

pub returns : goal.returns
returns c =
    let found : Found c.args.words.now c.skip_in.new.words c.args.i c.map_or-k.result c.read_edge-visited.result c.zone_of-zone.result =
    record {
      edge = c.read_edge-edge.result;
      edge2 = c.read_edge-edge2.result;
      below = c.requires.whole.1;
      within = c.requires.whole.2;
      read = c.read_edge-edge.ensures;
      not_done = c.if-edge.false;
      link = (read-or _ _ _ c.map_or-k.ensures);
      skip = c.skip_in.ensures;
      first = c.read_edge-visited.ensures;
      second = c.read_edge-edge2.ensures;
      zone = c.zone_of-zone.ensures;
    } in
    let fitted : ℤ = c.in-Some.fitted in
    let chosen : Chosen c.args.i c.map_or-k.result c.read_edge-visited.result c.zone_of-zone.result c.choose-one.result c.choose-two.result fitted =
    record {
      on = c.has_blue-on.result;
      fitted = c.in-Some.is;
      on_is = c.has_blue-on.ensures;
      one_is = c.choose-one.ensures;
      two_is = c.choose-two.ensures;
    } in
    let fitted-is : SFits w32 fitted = fits-in w32 (fitted-between found chosen) tt tt in
    let put : Became (zoning c.args.anchor c.choose-one.result fitted) c.skip_in.new.words c.zone_in.new.words =
    subst (λ (x : ℤ). Became (zoning c.args.anchor c.choose-one.result x) c.skip_in.new.words c.zone_in.new.words)
    (is fitted-is) c.zone_in.ensures in
    visited-zone found chosen c.args.anchor put c.args.rule c.args.standards.now c.stem_in.ensures
    c.anchor_first.ensures
