-- `stores_keep_simulation`: by cases of the object that is written (the stack or a value), the bytes of the store lie in the part, and
-- words and bytes represent the state after it; no other part changes, by the law `writes_stay_inside`.
use Rattle.bpf_helpers.proofs.SingleStores.{stores_keep_simulation}
use Rattle.bpf_helpers.proofs.laws.stores_keep_simulation.Goals as goal

pub returns : goal.returns
returns c = stores_keep_simulation c.writes_stay_inside.ensures
