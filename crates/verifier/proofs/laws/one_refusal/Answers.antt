-- `one_refusal`: a fault of safety counts only without one of the shape, and two first faults of one kind are at one slot (`one_verdict`).
use Rattle.verifier.proofs.OneVerdict.{one_verdict}
use Rattle.verifier.proofs.laws.one_refusal.Goals as goal

pub returns : goal.returns
returns c = one_verdict
