-- `objects_at`: the list has the entries before this one whose descriptors are among those of the program's maps.
use Rattle.std.proofs.Common.{◌≡◌, take}
use Rattle.verifier.specs.Maps.{objects_at}
use Rattle.verifier.proofs.maps.objects_at.Given as goal

abbrev pub invariant-loop-entry : goal.invariant-loop-entry
invariant-loop-entry l = l.kept.items ≡ objects_at l.maps (take l.entry-index l.named)
