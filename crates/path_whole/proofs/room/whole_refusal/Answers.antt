-- `path_whole::room::whole_refusal` meets its contract.
use mathlib.Core.Path.{sym, ◌∙◌}
use Rattle.path_whole.proofs.Wrote.{refused-room, refused-else}
use Rattle.path_whole.proofs.room.whole_refusal.Goals as goal

pub returns-then-not-has_room : goal.returns-then-not-has_room
returns-then-not-has_room c = let a = c.args in
    sym (refused-room a.xs.now a.ys.now a.marks.now a.ends.now a.kinds a.places
    (sym c.has_room.ensures ∙ c.if-not-has_room.true))

pub returns : goal.returns
returns c = let a = c.args in
    c.path_refusal.ensures ∙ sym (refused-else a.xs.now a.ys.now a.marks.now a.ends.now a.kinds a.places
    (sym c.has_room.ensures ∙ c.if-not-has_room.false))
