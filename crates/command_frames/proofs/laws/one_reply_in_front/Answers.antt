-- `one_reply_in_front`: a reply is encoded as a frame, so the bytes determine its content and what follows it; and the content determines
-- the tenant, the command and the status, since each number is read from its encoding, and the payload, the bytes after them.
use Rattle.command_frames.proofs.Spelling.{one_reply_in_front_is}
use Rattle.command_frames.proofs.laws.one_reply_in_front.Goals as goal

pub returns : goal.returns
returns c = one_reply_in_front_is
