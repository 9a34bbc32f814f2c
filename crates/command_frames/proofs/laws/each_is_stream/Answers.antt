-- `each_is_stream`: any bytes are whole frames and a rest, by induction over a bound on their length: after a whole frame at the front
-- fewer bytes are left.
use Rattle.command_frames.proofs.Spelling.{each_is_stream_is}
use Rattle.command_frames.proofs.laws.each_is_stream.Goals as goal

pub returns : goal.returns
returns c = each_is_stream_is
