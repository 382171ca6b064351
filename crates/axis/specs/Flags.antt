-- Flags of segments and edges.
use Rattle.std.specs.Prelude.{true, false}
use Rattle.axis.specs.declared.flags.Flags.{Flags}

-- nothing special
abbrev pub normal : Flags
normal = record { round = false; serif = false; done = false; neutral = false }

-- the flags with `done` set
abbrev pub as_done : Flags → Flags
as_done f = record { round = f.round; serif = f.serif; done = true; neutral = f.neutral }
