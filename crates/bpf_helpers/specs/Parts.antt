-- What a function requires of a tenant's part, and which ranges it requests. This project's own.
use Rattle.std.specs.Prelude.{◌≡◌, ℕ, ◌<◌}
use Rattle.arena.specs.declared.trace.Trace.{Trace}
use Rattle.arena.specs.Memory.{Memory}
use Rattle.arena.specs.Ranges.{AddsInside}
use Rattle.bpf_maps.specs.declared.part.TheConstants.{PART}

-- the tenant has a part of the memory, and each part has `PART` bytes
abbrev pub IsPartOf : ℕ → Memory → Type 0
IsPartOf tenant memory = (tenant < memory.parts) × (memory.part ≡ PART)

-- from the trace `old` to `new`, each address range that was added lies in the tenant's part, and
-- no step was counted
pub record AsksInside (memory : Memory) (tenant : ℕ) (old new : Trace) : Type 0 where
  pub inside : AddsInside memory tenant old.ranges new.ranges
  pub steps : new.steps ≡ old.steps
