-- `safety_follows_shape`: by `transfer_reasons` each of the three reasons needs an unknown helper, a descriptor without a map or a missing
-- value, and an instruction without a fault of its shape has none of these.
use Rattle.verifier.proofs.LoadedShapes.{safety_follows}
use Rattle.verifier.proofs.laws.safety_follows_shape.Goals as goal

pub returns : goal.returns
returns c = safety_follows c.transfer_reasons.ensures
