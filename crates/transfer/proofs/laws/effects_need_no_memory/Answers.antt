-- `effects_need_no_memory`: by `transfer_reasons` the reason of a rejection applies to its instruction, and `Memory` applies to none.
use Rattle.transfer.proofs.Rules.{need_no_memory}
use Rattle.transfer.proofs.laws.effects_need_no_memory.Goals as goal

pub returns : goal.returns
returns c = need_no_memory c.transfer_reasons.ensures
