-- `stack_output_admits`: after a write of bytes to the stack each cell fits what the new facts say of its slot, slot by slot
-- (`slot_filled`); registers and objects are unchanged.
use Rattle.abstraction.proofs.ManyWrites.{stack_write_many}
use Rattle.abstraction.proofs.laws.stack_output_admits.Goals as goal

pub returns : goal.returns
returns c = stack_write_many
