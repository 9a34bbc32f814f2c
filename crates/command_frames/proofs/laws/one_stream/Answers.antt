-- `one_stream`: bytes determine the frames and the rest of their stream, by induction over two such lists of frames: the first frames are
-- equal, since the length in front of them is, and a rest begins with no whole frame.
use Rattle.command_frames.proofs.Spelling.{one_stream_is}
use Rattle.command_frames.proofs.laws.one_stream.Goals as goal

pub returns : goal.returns
returns c = one_stream_is
