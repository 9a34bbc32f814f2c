-- `value_store_admits`: a store of a number writes its low bytes within a value, so it is no fault and the facts describe the state after
-- it, by the lemma for any such write (`object_over`).
use Rattle.abstraction.proofs.ValueAccess.{value_stored}
use Rattle.abstraction.proofs.laws.value_store_admits.Goals as goal

pub returns : goal.returns
returns c = value_stored
