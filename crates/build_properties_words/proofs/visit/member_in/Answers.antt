-- `build_properties_words::visit::member_in` meets its contract: by whether an edge is asked for, and in which way.
use Rattle.std.specs.Prelude.{Some}
use Prim.Native.Nat.{◌<◌}
use mir.Syntax.{w32}
use Rattle.signed.proofs.Signed.{is, got}
use Rattle.words.specs.Edge.{edges_in}
use Rattle.build_properties_words.specs.Steps.{Joined}
use Rattle.build_properties_words.proofs.Visits.{joined_in, named_in, asked-inside, member-none, member-serif, member-link}
use borrow.Author.Rules.{rules}
use Rattle.build_properties_words.proofs.visit.member_in.Goals as goal

pub read_join-join-requires : goal.read_join-join-requires
read_join-join-requires c = (named_in c.args.segments.now c.args.edges.now c.args.k c.requires.0 c.requires.1 c.requires.2 c.args.ix c.requires.3, c.requires.4)

pub returns-in_default : goal.returns-in_default
returns-in_default c = member-none c.args.segments.now c.args.edges.now c.args.k c.requires.0 c.requires.1 c.requires.2 c.args.ix c.requires.3
    c.read_join-join.ensures c.in_default.is

pub take_serif-requires : goal.take_serif-requires
take_serif-requires c =
    let ready : Joined c.args.edges.now c.args.k × (c.in-Some.asked < edges_in c.args.edges.now) = (
      joined_in c.args.segments.now c.args.edges.now c.args.k c.requires.0 c.requires.1 c.requires.2,
      asked-inside c.args.segments.now c.args.edges.now c.args.k c.requires.0 c.requires.1 c.requires.2 c.args.ix c.requires.3
          c.read_join-join.ensures c.in-Some.is,
    ) in
    ready

pub returns-then-join : goal.returns-then-join
returns-then-join c = member-serif c.args.segments.now c.args.edges.now c.args.k c.requires.0 c.requires.1 c.requires.2 c.args.ix c.requires.3
    c.read_join-join.ensures c.in-Some.is
    c.if-join.true (is (got w32 c.read_join-join.result.delta c.struct_told-1.given.1.1.0.1)) c.take_serif.ensures

pub take_link-requires : goal.take_link-requires
take_link-requires c =
    let ready : Joined c.args.edges.now c.args.k × (c.in-Some.asked < edges_in c.args.edges.now) = (
      joined_in c.args.segments.now c.args.edges.now c.args.k c.requires.0 c.requires.1 c.requires.2,
      asked-inside c.args.segments.now c.args.edges.now c.args.k c.requires.0 c.requires.1 c.requires.2 c.args.ix c.requires.3
          c.read_join-join.ensures c.in-Some.is,
    ) in
    ready

pub returns : goal.returns
returns c = member-link c.args.segments.now c.args.edges.now c.args.k c.requires.0 c.requires.1 c.requires.2 c.args.ix c.requires.3
    c.read_join-join.ensures c.in-Some.is
    c.if-join.false (is (got w32 c.read_join-join.result.delta c.struct_told-2-1.given.1.1.0.1)) c.take_link.ensures
