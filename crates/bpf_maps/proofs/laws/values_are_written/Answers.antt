-- `values_are_written`: the bytes are the value of the element at whose offset they are written; every other value of a live map lies
-- before or after them, as do the stack and the context, and so is unchanged.
use Rattle.bpf_maps.proofs.InPart.{value_written}
use Rattle.bpf_maps.proofs.laws.values_are_written.Goals as goal

pub returns : goal.returns
returns c = value_written
