-- What was read, as it is handed on to be written.
use Rattle.std.specs.Prelude.{take}
use Rattle.log_frame.specs.Frame.{Frame, frame_of}
use Rattle.log_frame.specs.Answer.{ReadFrame}

-- the lists at the rooms' beginnings, by the counts that reading hands back
abbrev pub read_lists : ReadFrame → Frame → Frame
read_lists r rooms = frame_of (take r.points rooms.originals) (take r.points rooms.currents) (take r.points rooms.marks) (take r.contours rooms.ends)
