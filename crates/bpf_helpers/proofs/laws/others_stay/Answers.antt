-- `others_stay`: a value of a map that is not bound has its bytes from the start of the run in the memory, by the simulation, and so in
-- the part, in which it lies.
use Rattle.bpf_helpers.proofs.Runs.{others_stay}
use Rattle.bpf_helpers.proofs.laws.others_stay.Goals as goal

pub returns : goal.returns
returns c = others_stay
