-- `stack_input_admits`: each byte that facts let a helper read is present in its stack slot, by what the facts say of this slot; so a
-- read gives as many bytes as it asks for.
use Rattle.abstraction.proofs.ManyReads.{stack_read_many}
use Rattle.abstraction.proofs.laws.stack_input_admits.Goals as goal

pub returns : goal.returns
returns c = stack_read_many
