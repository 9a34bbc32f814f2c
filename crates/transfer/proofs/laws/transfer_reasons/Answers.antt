-- `transfer_reasons`: by cases of the instruction, each reason for which the transfer function rejects it applies to it (`reasons_seen`).
use Rattle.transfer.proofs.Rules.{reasons_seen}
use Rattle.transfer.proofs.laws.transfer_reasons.Goals as goal

pub returns : goal.returns
returns c = reasons_seen
