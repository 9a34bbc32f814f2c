-- `runs_end`: a bound map has the keys and values of the machine's map after the run, since its values keep their offsets by the law
-- `areas_keep_elements`, and the simulation has their bytes in the part.
use Rattle.bpf_helpers.proofs.Runs.{runs_end}
use Rattle.bpf_helpers.proofs.laws.runs_end.Goals as goal

pub returns : goal.returns
returns c = runs_end c.areas_keep_elements.ensures
