-- `same_frames_same_output`: each tenant gets equal replies in both streams, by the law `same_frames_same_replies`; so all replies, by
-- induction over the frames, and the bytes of the output are equal.
use Rattle.host_core.proofs.Replays.{same_frames_same_output}
use Rattle.host_core.proofs.laws.same_frames_same_output.Goals as goal

pub returns : goal.returns
returns c = same_frames_same_output c.same_frames_same_replies.ensures
