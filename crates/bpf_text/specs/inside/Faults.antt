-- The fault of a line, and the line that has it. This project's own.
use Rattle.std.specs.Prelude.{ℕ, ◌+◌}
use Rattle.bpf_text.specs.declared.fault.TextFault.{TextFault}
use Rattle.bpf_text.specs.declared.fault.TextFaultKind.{TextFaultKind}
use Rattle.bpf_text.specs.declared.fault.TextFaultKind.TheVariants.{Memory}
use Rattle.bpf_text.specs.Fault.{memory_fault}

-- the fault of this kind on the line of an index, from 0, so that the line's number is one more;
-- Memory is a fault of the whole text, at line 0
abbrev pub fault_on : ℕ → TextFaultKind → TextFault
fault_on index Memory = memory_fault
fault_on index kind = record { line = index + 1; kind = kind }
