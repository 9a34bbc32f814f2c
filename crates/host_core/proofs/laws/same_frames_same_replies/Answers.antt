-- `same_frames_same_replies`: in both streams the tenant's replies are those of its machine without refusals, and by the law
-- `one_reply_list` its first state and its frames determine these.
use Rattle.host_core.proofs.ServedAlone.{same_frames_same_replies}
use Rattle.host_core.proofs.laws.same_frames_same_replies.Goals as goal

pub returns : goal.returns
returns c = same_frames_same_replies c.one_reply_list.ensures
