-- `program_has_no_fault`: by the law `one_reading` a text has one list of readings, and those of a program have no fault and some slot
-- (`no_fault_is`).
use Rattle.bpf_text.proofs.TextLaws.{no_fault_is}
use Rattle.bpf_text.proofs.laws.program_has_no_fault.Goals as goal

pub returns : goal.returns
returns c = no_fault_is c.one_reading.ensures
