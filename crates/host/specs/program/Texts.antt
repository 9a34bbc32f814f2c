-- A program as hex lines, which `dis` and `verify` read, and lines whose slots are no program. This
-- project's own.
use Rattle.std.specs.Prelude.{◌≡◌, ℕ, List, IsUtf8}
use Rattle.bpf_text.specs.HexText.{IsHexText}
use Rattle.insn_set.specs.Program.{IsProgram, program_bytes}
use Rattle.insn_codec.specs.ProgramFault.{IsProgramFault}
use Rattle.insn_codec.specs.declared.fault.CodecFault.{CodecFault}
use Rattle.insn_set.specs.declared.insn.Insn.{Insn}
use Rattle.host.specs.program.Failure.{codec_failure}
use Rattle.host.specs.declared.program.failure.Failure.{Failure}

-- the input is UTF-8, and its hex lines have these bytes of slots
pub record IsSlotText (input slots : List ℕ) : Type 0 where
  pub utf8 : IsUtf8 input
  pub lines : IsHexText input slots

-- the input is UTF-8, and its hex lines have the slots of this program
pub record IsProgramText (input : List ℕ) (insns : List Insn) : Type 0 where
  pub utf8 : IsUtf8 input
  pub slots : IsHexText input (program_bytes insns)
  pub program : IsProgram insns

-- the hex lines of the input have slots that are no program; the failure is that of their fault
pub record IsProgramRefused (input : List ℕ) (failure : Failure) : Type 0 where
  pub bytes : List ℕ
  pub fault : CodecFault
  pub utf8 : IsUtf8 input
  pub slots : IsHexText input bytes
  pub own : IsProgramFault bytes fault
  pub failure_is : failure ≡ codec_failure fault
