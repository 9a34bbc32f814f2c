-- `run_past`: the slot that the flow names is one of the stack, as `renumber_written` requires, by clause `stack` of `apply` (`in_stack`).
use Rattle.verifier.proofs.NumberedSteps.{in_stack}
use Rattle.verifier.proofs.pass.run_past.Goals as goal

pub renumber_written-requires : goal.renumber_written-requires
renumber_written-requires g c = in_stack _ _ _ c.in-Ok.ensures.stack
