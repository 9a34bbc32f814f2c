-- `loaded_maps_have_shapes`: an accepted program has no fault of its shape, so each descriptor that an instruction loads names a map.
use Rattle.verifier.proofs.LoadedShapes.{maps_have_shapes}
use Rattle.verifier.proofs.laws.loaded_maps_have_shapes.Goals as goal

pub returns : goal.returns
returns c = maps_have_shapes
