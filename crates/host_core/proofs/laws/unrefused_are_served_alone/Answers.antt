-- `unrefused_are_served_alone`: for a tenant with a state after the frames it is the law `clear_flag_means_alone`; one without had none
-- before them, and its replies are those without refusals, by induction over its frames.
use Rattle.host_core.proofs.ServedAlone.{unrefused_are_served_alone}
use Rattle.host_core.proofs.laws.unrefused_are_served_alone.Goals as goal

pub returns : goal.returns
returns c = unrefused_are_served_alone c.clear_flag_means_alone.ensures
