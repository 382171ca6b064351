-- What the functions on single edges answer: each has an answer where a segment asks for nothing too, and then leaves its edge as it is.
use Rattle.std.specs.Prelude.{None, Some}
use Rattle.std.specs.Prelude.{Bool, cond, ℤ, pos}
use Rattle.std.specs.Int.Signed.{lt_z}
use Rattle.signed.specs.Distance.{distance}
use Rattle.axis.specs.Link.{Link}
use Rattle.axis.specs.declared.edge.Edge.{Edge}
use Rattle.axis.specs.Edge.{joined_to}
use Rattle.build_properties.specs.declared.join.Join.{Join}
use Rattle.build_properties.specs.Properties.{as_serif}

-- the serif or the link of an edge
abbrev pub held_by : Bool → Edge → Link
held_by is-serif e = cond is-serif e.serif e.link

-- the edge asked for, or the one that e has, which is e2
unfoldable pub nearer : Edge → Edge → ℤ → Link → Link → Link
nearer e e2 delta None held = held
nearer e e2 delta (Some q) None = Some q
nearer e e2 delta (Some q) (Some o) = cond (lt_z delta (pos (distance e.fpos e2.fpos))) (Some q) (Some o)

-- the edge with that one as its serif or as its link
unfoldable pub joined_by : Edge → Edge → Join → Edge
joined_by e e2 j =
    cond j.is_serif
    (joined_to e e.link (nearer e e2 j.delta j.edge e.serif))
    (joined_to e (nearer e e2 j.delta j.edge e.link) e.serif)

-- SERIF set, where the join is that of a serif
abbrev pub flagged_by : Bool → Edge → Edge
flagged_by is-serif e = cond is-serif (as_serif e) e
