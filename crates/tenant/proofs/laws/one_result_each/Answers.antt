-- `one_result_each`: test runs have as many results as packets, by induction over both lists.
use Rattle.tenant.proofs.BatchLaws.{one_result_each}
use Rattle.tenant.proofs.laws.one_result_each.Goals as goal

pub returns : goal.returns
returns c = one_result_each
