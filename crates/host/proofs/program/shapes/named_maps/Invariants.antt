-- The arguments so far name the maps of the list, in their order, with different descriptors.
use Rattle.std.proofs.Common.{take}
use Rattle.clap.specs.Walk.{texts}
use Rattle.host.specs.program.Shapes.{AreMapArguments}
use Rattle.host.proofs.program.shapes.named_maps.Given as goal

abbrev pub invariant-loop-index : goal.invariant-loop-index
invariant-loop-index l = AreMapArguments (take l.index (texts l.arguments)) l.maps.items
