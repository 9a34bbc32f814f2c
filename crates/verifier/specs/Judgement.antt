-- The judgement of slots: the program that they spell is accepted, or they are rejected because of
-- one slot. What is rejected, in which order, and the numbers are this project's own.
use Rattle.std.specs.Prelude.{◌≡◌, ℕ, ◌+◌, List, ◌++◌, Result, Ok, Err, codes}
use Rattle.std.specs.Fmt.{decimal}
use Rattle.insn_set.specs.declared.insn.Insn.{Insn}
use Rattle.insn_set.specs.Program.{IsProgram, program_bytes}
use Rattle.insn_codec.specs.declared.fault.CodecFault.{CodecFault}
use Rattle.insn_codec.specs.Fault.{fault_number}
use Rattle.insn_codec.specs.ProgramFault.{IsProgramFault}
use Rattle.reg_kinds.specs.Reason.{number}
use Rattle.tagged_model.specs.declared.shape.Named.{Named}
use Rattle.verifier.specs.declared.fault.VerifyFault.{VerifyFault}
use Rattle.verifier.specs.declared.refusal.Cause.{Cause}
use Rattle.verifier.specs.declared.refusal.Cause.TheVariants.{Slots, Verdict}
use Rattle.verifier.specs.declared.refusal.Refusal.{Refusal}
use Rattle.verifier.specs.Verdict.{IsAccepted, IsRefused}

-- the number of the cause for which slots are rejected. The reply to a rejected PROG_LOAD and the
-- line of a refusal (`refusal_text`) have it. If the slots are no program (`Slots`), it is 100 plus
-- the number of `kind`, the fault that the codec finds (`fault_number`). If they are a program that
-- is not accepted (`Verdict`), it is the number of `reason`, for which the verifier rejects it.
-- That is below 100, so a number has only one cause. The reply to a load never has 108, for
-- `Memory` of the codec: out of memory is the error NoMemory, without the number of a cause
abbrev pub cause_number : Cause → ℕ
cause_number (Slots kind) = 100 + fault_number kind
cause_number (Verdict reason) = number reason

-- the refusal of slots that are no program, from the codec's fault
abbrev pub refusal_of_slots : CodecFault → Refusal
refusal_of_slots fault = record { slot = fault.slot; cause = Slots fault.kind }

-- the refusal of a program that breaks a rule, from its fault
abbrev pub refusal_of_program : VerifyFault → Refusal
refusal_of_program fault = record { slot = fault.slot; cause = Verdict fault.reason }

-- the line of a refusal, without its line feed
abbrev pub refusal_text : Refusal → List ℕ
refusal_text refusal =
    codes "refused: slot "
    ++ (decimal refusal.slot ++ (codes " reason " ++ decimal (cause_number refusal.cause)))

-- the bytes of slots are rejected at this slot: they are no program (`Slots`), or they are those of
-- a program that breaks a rule there (`Verdict`)
abbrev pub IsRefusedFor : List Named → List ℕ → ℕ → Cause → Type 0
IsRefusedFor named slots slot (Slots kind) =
    IsProgramFault slots (record { slot = slot; kind = kind })
IsRefusedFor named slots slot (Verdict reason) =
    (insns : List Insn)
    × IsProgram insns
    × (slots ≡ program_bytes insns)
    × IsRefused insns named slot reason

-- the judgement on the bytes of slots. Ok: they are the bytes of this program, which is accepted.
-- Err: they are rejected with this refusal. There is at most one judgement
abbrev pub Judges : List Named → List ℕ → Result (List Insn) Refusal → Type 0
Judges named slots (Ok insns) =
    IsProgram insns × (slots ≡ program_bytes insns) × IsAccepted insns named
Judges named slots (Err refusal) = IsRefusedFor named slots refusal.slot refusal.cause
