-- `accepted_programs_never_fault`: a run begins in an admitted state, and by `steps_go_on` each step ends it or leads to another.
use Rattle.verifier.proofs.Runs.{never_faults}
use Rattle.verifier.proofs.laws.accepted_programs_never_fault.Goals as goal

pub returns : goal.returns
returns c = never_faults c.steps_go_on.ensures
