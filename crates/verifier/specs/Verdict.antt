-- The verdict on a program: the first fault of its shape, else the first instruction that may not
-- be run with the facts before it, else it is accepted. The rules and their order are this
-- project's own.
use Rattle.std.specs.Prelude.{◌≡◌, ℕ, ◌<◌, List, Option, Some, None, Result, Ok, Err, ◌⊎◌}
use Rattle.insn_set.specs.declared.insn.Insn.{Insn}
use Rattle.insn_set.specs.Program.{begins_at}
use Rattle.reg_kinds.specs.declared.reason.Reason.{Reason}
use Rattle.reg_kinds.specs.declared.reason.Reason.TheVariants.{Memory}
use Rattle.tagged_model.specs.declared.shape.Named.{Named}
use Rattle.tagged_model.specs.Cells.{and_then}
use Rattle.tagged_model.specs.Named.{Shapes}
use Rattle.transfer.specs.Branches.{Edges}
use Rattle.transfer.specs.Effects.{effect}
use Rattle.verifier.specs.declared.fault.VerifyFault.{VerifyFault}
use Rattle.verifier.specs.Shape.{structure_fault}
use Rattle.verifier.specs.Before.{facts_before}
use Rattle.verifier.specs.Maps.{shapes_of}

-- the reason why an instruction may not be run, from what the transfer function (`effect`) gives
-- for it and the facts before it: the reason of an error (`Err`). None if it may be run (`Ok`); the
-- facts on its edges make no difference
abbrev pub reason_of : Result Edges Reason → Option Reason
reason_of (Ok edges) = None
reason_of (Err reason) = Some reason

-- why the instruction at a slot may not be run with the facts before it: the reason of its first
-- condition that fails; None if none fails, no facts arrive there, or no instruction begins there
unfoldable pub safety_fault : Shapes → List Insn → ℕ → Option Reason
safety_fault shapes code at =
    and_then (facts_before shapes code at)
    (λ f. and_then (begins_at code at) (λ i. reason_of (effect shapes at i f)))

-- there is this fault at this slot, and none at any lower slot
pub record IsFirstFault (fault_at : ℕ → Option Reason) (slot : ℕ) (reason : Reason) : Type 0 where
  pub here : fault_at slot ≡ Some reason
  pub below : (n : ℕ) → n < slot → fault_at n ≡ None

-- no slot has a fault
abbrev pub HasNoFault : (ℕ → Option Reason) → Type 0
HasNoFault fault_at = (n : ℕ) → fault_at n ≡ None

-- the program is rejected at a slot for a reason: the first fault of its shape or, if that has
-- none, of safety, with the shapes of the maps that its descriptors name
abbrev pub IsRefused : List Insn → List Named → ℕ → Reason → Type 0
IsRefused code named slot reason =
    IsFirstFault (structure_fault code named) slot reason
    ⊎ (HasNoFault (structure_fault code named)
    × IsFirstFault (safety_fault (shapes_of code named) code) slot reason)

-- no slot has a fault of the shape or of safety
abbrev pub IsAccepted : List Insn → List Named → Type 0
IsAccepted code named =
    HasNoFault (structure_fault code named) × HasNoFault (safety_fault (shapes_of code named) code)

-- out of memory, which is reported at slot 0
abbrev pub memory_fault : VerifyFault
memory_fault = record { slot = 0; reason = Memory }

-- the error for a program that is not accepted: the slot and the reason for which it is rejected,
-- or out of memory
abbrev pub IsFaultOf : List Insn → List Named → VerifyFault → Type 0
IsFaultOf code named e = (e ≡ memory_fault) ⊎ IsRefused code named e.slot e.reason
