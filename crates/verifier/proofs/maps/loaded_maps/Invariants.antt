-- `loaded_maps`: the list has the descriptors by which the instructions that begin before the slot load maps or values of maps.
use Rattle.std.proofs.Common.{◌≡◌}
use Rattle.insn_set.specs.Program.{begun_below}
use Rattle.verifier.specs.Maps.{maps_of}
use Rattle.verifier.proofs.maps.loaded_maps.Given as goal

abbrev pub invariant-loop-slot : goal.invariant-loop-slot
invariant-loop-slot l = l.maps.items ≡ maps_of (begun_below l.program l.slot)
