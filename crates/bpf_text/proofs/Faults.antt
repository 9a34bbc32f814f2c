-- Faults of lines.
use Rattle.std.proofs.Common.{◌≡◌, ◌≢◌, ℕ, ◌+◌, refl}
use Rattle.bpf_text.specs.declared.fault.TextFaultKind.{TextFaultKind}
use Rattle.bpf_text.specs.declared.fault.TextFaultKind.TheVariants.{Memory}
use Rattle.bpf_text.specs.inside.Faults.{fault_on}

-- a fault of any kind but Memory is on the line of its index, counted from 1
pub fault_on_line : (i : ℕ) (kind : TextFaultKind)
    → kind ≢ Memory → fault_on i kind ≡ record { line = i + 1; kind = kind }
fault_on_line i Memory other = absurd (other refl)
fault_on_line i _ other = refl
