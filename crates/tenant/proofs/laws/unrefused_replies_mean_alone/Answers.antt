-- `unrefused_replies_mean_alone`: replies without the status `NoMemory` are those without refusals, by induction over the frames: a result
-- that is due to a refusal has this status.
use Rattle.tenant.proofs.Flag.{unrefused_replies_mean_alone}
use Rattle.tenant.proofs.laws.unrefused_replies_mean_alone.Goals as goal

pub returns : goal.returns
returns c = unrefused_replies_mean_alone
