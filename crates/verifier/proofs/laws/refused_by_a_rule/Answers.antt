-- `refused_by_a_rule`: the rules of the shape name other reasons than `Memory`, and those of safety by the law `effects_need_no_memory`.
use Rattle.verifier.proofs.Rules.{not_for_memory}
use Rattle.verifier.proofs.laws.refused_by_a_rule.Goals as goal

pub returns : goal.returns
returns c = not_for_memory c.effects_need_no_memory.ensures
