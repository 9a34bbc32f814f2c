-- `slots_absorb`: a second join with a slot changes nothing, by cases of both slots, and for two spills since the join of kinds is
-- associative (`joins_associate`).
use Rattle.reg_kinds.proofs.Absorption.{slots_absorb}
use Rattle.reg_kinds.proofs.laws.slots_absorb.Goals as goal

pub returns : goal.returns
returns c = slots_absorb c.joins_associate.ensures.kinds
