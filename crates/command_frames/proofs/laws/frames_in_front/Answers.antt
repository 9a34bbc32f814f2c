-- `frames_in_front`: whole frames at the front of a stream are its first frames, by induction over them: two whole frames with which the
-- bytes begin are equal, and so is what follows them, and the rest of a stream begins with no whole frame.
use Rattle.command_frames.proofs.Spelling.{frames_in_front_are}
use Rattle.command_frames.proofs.laws.frames_in_front.Goals as goal

pub returns : goal.returns
returns c = frames_in_front_are
