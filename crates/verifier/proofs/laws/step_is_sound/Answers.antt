-- `step_is_sound`: in a program the transfer function is sound for the instruction, and leaves facts well formed, by its two laws.
use Rattle.verifier.proofs.Steps.{slots_covered}
use Rattle.verifier.proofs.laws.step_is_sound.Goals as goal

pub returns : goal.returns
returns c = slots_covered c.transfer_is_sound.ensures c.transfer_keeps_well_formed.ensures
