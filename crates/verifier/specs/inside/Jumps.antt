-- The targets of jumps, and what is wrong with one. This project's own.
use Rattle.std.specs.Prelude.{◌≡◌, ℕ, ◌&&◌, List, [], ◌∷◌, Option, Some, IfSome, ◌<◌}
use Rattle.insn_set.specs.declared.insn.Insn.{Insn}
use Rattle.insn_set.specs.Program.{begins_at, slot_count}
use Rattle.insn_set.specs.Flow.{jumps_to, jumps, jump_target}
use Rattle.reg_kinds.specs.declared.reason.Reason.{Reason}
use Rattle.reg_kinds.specs.declared.reason.Reason.TheVariants.{JumpOutside, JumpBackward}
use Rattle.verifier.specs.Shape.{leads_outside, leads_backward, first_reason}

-- the fault of the target of instruction i at slot `at`, by the first two rules of `shape_reason`;
-- None if it has none, or the instruction does not jump
abbrev pub target_reason : List Insn → Insn → ℕ → Option Reason
target_reason code i at = first_reason (
    (jumps i && leads_outside code (jumps_to i at), JumpOutside)
    ∷ (jumps i && leads_backward (jumps_to i at) at, JumpBackward)
    ∷ [])

-- each jump leads to a slot below the end of the program, if its target is not below slot 0
abbrev pub JumpsLand : List Insn → Type 0
JumpsLand code =
    (n : ℕ) (i : Insn)
    → begins_at code n ≡ Some i
    → IfSome (jump_target i n) (λ to. to < slot_count code)
