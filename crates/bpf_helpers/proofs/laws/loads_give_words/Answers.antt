-- `loads_give_words`: by cases of the object to which the pointer leads (stack, context or value), the loaded bytes lie in the part,
-- and their word represents the loaded value, as the simulation says of this object.
use Rattle.bpf_helpers.proofs.SingleLoads.{loads_give_words}
use Rattle.bpf_helpers.proofs.laws.loads_give_words.Goals as goal

pub returns : goal.returns
returns c = loads_give_words
