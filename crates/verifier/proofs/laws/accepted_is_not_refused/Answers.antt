-- `accepted_is_not_refused`: a rejection is the first fault of the shape or of safety, and an accepted program has neither (`not_refused`).
use Rattle.verifier.proofs.OneVerdict.{not_refused}
use Rattle.verifier.proofs.laws.accepted_is_not_refused.Goals as goal

pub returns : goal.returns
returns c = not_refused
