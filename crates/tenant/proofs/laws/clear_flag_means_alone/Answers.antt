-- `clear_flag_means_alone`: if the flag is clear after the last frame, the replies are those without refusals of memory, by induction over
-- the frames: if it is clear after a frame, it was clear before.
use Rattle.tenant.proofs.Flag.{clear_flag_means_alone}
use Rattle.tenant.proofs.laws.clear_flag_means_alone.Goals as goal

pub returns : goal.returns
returns c = clear_flag_means_alone
