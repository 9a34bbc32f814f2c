-- `one_reply_list`: frames have one list of replies and one last state without refusals of memory, by induction over the frames and the law
-- `one_reply`.
use Rattle.tenant.proofs.OneCommandResult.{one_alone_is}
use Rattle.tenant.proofs.laws.one_reply_list.Goals as goal

pub returns : goal.returns
returns c = one_alone_is c.one_reply.ensures
