-- `at_most_one_fault`: by the law `one_reading` a text has one list of readings, and these determine its fault (`one_fault_is`).
use Rattle.bpf_text.proofs.TextLaws.{one_fault_is}
use Rattle.bpf_text.proofs.laws.at_most_one_fault.Goals as goal

pub returns : goal.returns
returns c = one_fault_is c.one_reading.ensures
