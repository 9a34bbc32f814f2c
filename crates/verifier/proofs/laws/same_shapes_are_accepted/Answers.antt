-- `same_shapes_are_accepted`: each descriptor of its maps names equal objects in both lists, so the rules find no fault with either.
use Rattle.verifier.proofs.OtherObjects as other
use Rattle.verifier.proofs.laws.same_shapes_are_accepted.Goals as goal

pub returns : goal.returns
returns c = other.same_shapes_are_accepted
