-- `join` of `NumberedFacts`: the registers and the groups of stack slots before this one are joined, and the other groups are unchanged.
use Rattle.verifier.specs.inside.Numbers.{IsJoinedBelow}
use Rattle.verifier.proofs.numbered_facts.NumberedFacts.join.Given as goal

abbrev pub invariant-loop-group : goal.invariant-loop-group
invariant-loop-group l = IsJoinedBelow l.fresh l.group l.fn.self l.edge l.self
