-- `are_objects`: all descriptors have an object exactly if all that are left have one.
use Rattle.std.proofs.Common.{◌≡◌, drop}
use Rattle.bpfhost_c.specs.Prepares.{are_objects}
use Rattle.bpfhost_c.proofs.preparing.are_objects.Given as goal

abbrev pub invariant-loop-descriptor : goal.invariant-loop-descriptor
invariant-loop-descriptor l = are_objects (drop l.descriptor-index l.descriptors) ≡ are_objects l.descriptors
