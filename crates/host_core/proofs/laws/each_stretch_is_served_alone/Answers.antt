-- `each_stretch_is_served_alone`: the stretch is a sequence of calls, so each tenant gets replies of its machine, by the law
-- `calls_are_served_alone`; without the status `NoMemory` they are those without refusals, by the law `unrefused_replies_mean_alone`.
use Rattle.host_core.proofs.ServedAlone.{each_stretch}
use Rattle.host_core.proofs.laws.each_stretch_is_served_alone.Goals as goal

pub returns : goal.returns
returns c = each_stretch c.unrefused_replies_mean_alone.ensures c.calls_are_served_alone.ensures
