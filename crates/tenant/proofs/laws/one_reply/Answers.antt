-- `one_reply`: a frame has one reply and one next state: that of the command's one result, by the law `one_command_result`, or of an error,
-- if the frame has no command or its tenant is not served.
use Rattle.tenant.proofs.OneCommandResult.{one_reply_is}
use Rattle.tenant.proofs.laws.one_reply.Goals as goal

pub returns : goal.returns
returns c = one_reply_is c.one_command_result.ensures
