-- `build_join_words::join::join_in` meets its contract: by the group, and by whether there was room.
use Rattle.build_join.proofs.Turns.{latin-first}
use Rattle.build_join_words.proofs.Listings.{listed-none, placed-none}
use Rattle.build_join_words.proofs.Loops.{two-listed, one-listed, second-placed, full-listed}
use Rattle.build_join_words.proofs.join.join_in.Goals as goal

pub join_loop-joined-requires : goal.join_loop-joined-requires
join_loop-joined-requires c =
    let start = c in
    let zeros = start.requires.first_value in (
      record { within = start.requires.segments_within.0; joinable = start.requires.segments_within.1; latin = latin-first start.args.rules },
      placed-none _ _
          (listed-none _ _ zeros.0 zeros.1 zeros.2),
    )

pub returns-then-rules : goal.returns-then-rules
returns-then-rules c = one-listed _ _ c.join_loop-joined.ensures c.if-rules.true

pub returns-then-joined : goal.returns-then-joined
returns-then-joined c = let else1 = c in full-listed _ _ else1.join_loop-joined.ensures else1.if-rules.false c.if-joined.true

pub join_loop-requires : goal.join_loop-requires
join_loop-requires c =
    let else2 = c in
    let else1 = else2 in
    let join-loop = else1 in
    let start = join-loop in (
      record { within = start.requires.segments_within.0; joinable = start.requires.segments_within.1; latin = λ h. else1.if-rules.false },
      second-placed _ _ join-loop.join_loop-joined.ensures
          else2.if-joined.false,
    )

pub returns : goal.returns
returns c = let else1 = c in two-listed _ _ else1.if-rules.false c.join_loop.ensures
