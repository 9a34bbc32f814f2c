-- `alike_is_bisimulation`: a state alike to another gives each command an alike result; `Commands` proves it by cases of the command.
use Rattle.saving.proofs.Commands as proof
use Rattle.saving.proofs.laws.alike_is_bisimulation.Goals as goal

pub returns : goal.returns
returns c = proof.alike_is_bisimulation
