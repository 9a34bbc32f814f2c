-- `calls_are_served_alone`: a call changes only the state of the frame's tenant, so by induction over the calls each tenant gets replies of
-- its machine; if no memory is refused to it, they are those without refusals, by the law `unrefused_are_served_alone`.
use Rattle.host_core.proofs.Serving.{calls_are_served_alone}
use Rattle.host_core.proofs.laws.calls_are_served_alone.Goals as goal

pub returns : goal.returns
returns c = calls_are_served_alone c.unrefused_are_served_alone.ensures
