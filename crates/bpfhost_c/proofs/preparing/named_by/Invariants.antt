-- `named_by`: the list has the descriptors so far that have an object, in order, each with its object.
use Rattle.std.proofs.Common.{◌≡◌, take}
use Rattle.bpfhost_c.specs.Prepares.{named_by}
use Rattle.bpfhost_c.proofs.preparing.named_by.Given as goal

abbrev pub invariant-loop-descriptor : goal.invariant-loop-descriptor
invariant-loop-descriptor l = l.named.items ≡ named_by (take l.descriptor-index l.descriptors)
