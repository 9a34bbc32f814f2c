-- `no_content_ends_a_stream`, by cases of how the call ends: by the law `frames_in_front` the stream's other frames and its rest follow the
-- frames that were read, so the number of the frames, the limit and the rest determine the result.
use Rattle.host_core.proofs.Ends.{no_content_ends_a_stream}
use Rattle.host_core.proofs.laws.no_content_ends_a_stream.Goals as goal

pub returns : goal.returns
returns c = no_content_ends_a_stream c.frames_in_front.ensures
