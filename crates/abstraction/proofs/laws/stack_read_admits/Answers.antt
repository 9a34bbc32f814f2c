-- `stack_read_admits`: a load that facts allow lies in one stack slot, and its cell, which fits what they say of the slot, gives a value
-- of the predicted kind (`cell_gives`).
use Rattle.abstraction.proofs.StackLoads.{stack_gives}
use Rattle.abstraction.proofs.laws.stack_read_admits.Goals as goal

pub returns : goal.returns
returns c = stack_gives
