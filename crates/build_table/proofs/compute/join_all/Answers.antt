-- `build_table::compute::join_all` meets its contract: by the group, and by whether there was room.
use borrow.Author.Rules.{rules}
use mathlib.Core.Path.{ap}
use Rattle.build_join.specs.declared.join.Joined.{Joined}
use Rattle.build_join.proofs.Turns.{latin-first, none-begun}
use Rattle.build.proofs.Joins.{one-loop, second-begun, full-stays, two-loops}
use Rattle.build_table.proofs.compute.join_all.Goals as goal

pub stems_of-stems-requires : goal.stems_of-stems-requires
stems_of-stems-requires c = c.requires.0

pub join_segments-joined-requires : goal.join_segments-joined-requires
join_segments-joined-requires c =
    let none-joined = c in
    let stems-of = none-joined in
    let start = stems-of in
    let g = start.args in
    let e = none-joined.none_joined-none.ensures in
    record {
      joinable = (start.requires.1, stems-of.stems_of-stems.ensures, latin-first g.rules);
      joined_value = (none-begun g.segments g.rules _ e, ap (λ (j : Joined). j.full) e);
    }

pub returns-then-rules : goal.returns-then-rules
returns-then-rules c =
    let join-segments = c in
    let g = join-segments.args in
    one-loop g.segments g.rules _ join-segments.join_segments-joined.ensures c.if-rules.true

pub returns-then-joined : goal.returns-then-joined
returns-then-joined c =
    let else1 = c in
    let join-segments = else1 in
    let g = join-segments.args in
    full-stays g.segments g.rules _ join-segments.join_segments-joined.ensures else1.if-rules.false c.if-joined.true

pub join_segments-requires : goal.join_segments-requires
join_segments-requires c =
    let else2 = c in
    let else1 = else2 in
    let join-segments = else1 in
    let stems-of = join-segments in
    let start = stems-of in
    let g = start.args in
    record {
      joinable = (start.requires.1, stems-of.stems_of-stems.ensures, λ h. else1.if-rules.false);
      joined_value = (second-begun g.segments g.rules _ join-segments.join_segments-joined.ensures, else2.if-joined.false);
    }

pub returns : goal.returns
returns c =
    let else1 = c in
    let g = else1.args in
    two-loops g.segments g.rules _ c.join_segments.ensures else1.if-rules.false
