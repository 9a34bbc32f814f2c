-- `each_is_served_alone_until_refused`: the first n calls are calls in sequence too, so the law `calls_are_served_alone` holds for them.
use Rattle.host_core.proofs.ServedAlone.{each_until_refused}
use Rattle.host_core.proofs.laws.each_is_served_alone_until_refused.Goals as goal

pub returns : goal.returns
returns c = each_until_refused c.calls_are_served_alone.ensures
