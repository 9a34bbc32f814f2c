-- `maps_are_listed`: the list has the descriptor of each load, only once, and only its descriptors have shapes among the kept objects.
use Rattle.verifier.proofs.Listed.{maps_are_listed}
use Rattle.verifier.proofs.laws.maps_are_listed.Goals as goal

pub returns : goal.returns
returns c = maps_are_listed
