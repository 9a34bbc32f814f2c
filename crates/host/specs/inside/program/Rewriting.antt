-- The input and output of `asm` and `dis`, and the inputs that they reject. This project's own.
use Rattle.std.specs.Prelude.{◌≡◌, ◌⊎◌, ℕ, ◌+◌, ◌<◌, ◌≤◌, List, length, take, Option, IsUtf8}
use Rattle.std.specs.Io.KnownBytes.{Appends, Consumes, IsAtEnd}
use Rattle.bpf_text.specs.Assembly.{IsAssembled, IsOwnFault}
use Rattle.bpf_text.specs.HexText.{IsHexFault, hex_text}
use Rattle.bpf_text.specs.Printed.{printed}
use Rattle.bpf_text.specs.declared.fault.TextFault.{TextFault}
use Rattle.insn_set.specs.Program.{program_bytes}
use Rattle.insn_set.specs.declared.insn.Insn.{Insn}
use Rattle.host.specs.program.Statuses.{text_failure}
use Rattle.host.specs.declared.program.texts.TheConstants.{LONGEST_INPUT}
use Rattle.host.specs.declared.program.failure.Failure.{Failure}
use Rattle.host.specs.declared.program.failure.Failure.TheVariants.{WrongArguments, MapArgument, Truncated}
use Rattle.host.specs.declared.program.failure.Failure.TheVariants.{TooManyFrames, TooLong, Line, Slot, Read, Write, Seed, Memory}
use Rattle.host.specs.declared.program.texts.TextTask.{TextTask}
use Rattle.host.specs.declared.program.texts.TextTask.TheVariants.{Assemble, Disassemble}
use Rattle.host.specs.program.Texts.{IsProgramText, IsProgramRefused}

-- the input is a program's text, and the output the program's slots as hex lines
pub record IsAssembly (input output : List ℕ) : Type 0 where
  pub insns : List Insn
  pub utf8 : IsUtf8 input
  pub program : IsAssembled input insns
  pub lines : output ≡ hex_text (program_bytes insns)

-- the input has a program's slots as hex lines, and the output is the program's text
pub record IsDisassembly (input output : List ℕ) : Type 0 where
  pub insns : List Insn
  pub read : IsProgramText input insns
  pub text : output ≡ printed insns

-- the output is what the task makes of the input: hex lines or a text
abbrev pub IsRewritten : TextTask → List ℕ → List ℕ → Type 0
IsRewritten Assemble input output = IsAssembly input output
IsRewritten Disassemble input output = IsDisassembly input output

-- the input is not UTF-8, which is fault 1 of line 0
abbrev pub IsNoText : List ℕ → Failure → Type 0
IsNoText input failure = (¬ IsUtf8 input) × (failure ≡ Line 0 1)

-- the input is UTF-8, but no program's text: a line has a fault, or there is no instruction; the
-- failure is that of the fault
pub record IsTextRefused (input : List ℕ) (failure : Failure) : Type 0 where
  pub fault : TextFault
  pub utf8 : IsUtf8 input
  pub own : IsOwnFault input fault
  pub failure_is : failure ≡ text_failure fault

-- the input is UTF-8, but no hex lines: a line has a fault, or no line has a slot; the failure is
-- that of the fault
pub record IsHexRefused (input : List ℕ) (failure : Failure) : Type 0 where
  pub fault : TextFault
  pub utf8 : IsUtf8 input
  pub own : IsHexFault input fault
  pub failure_is : failure ≡ text_failure fault

-- the input is not hex lines with at least one slot, and `failure` says why: the input is not
-- UTF-8, a line has a fault, or no line has a slot
abbrev pub IsUnreadable : List ℕ → Failure → Type 0
IsUnreadable input failure = IsNoText input failure ⊎ IsHexRefused input failure

-- why the input has no program as hex lines: it has no slots, or these are no program
abbrev pub IsNoProgramText : List ℕ → Failure → Type 0
IsNoProgramText input failure = IsUnreadable input failure ⊎ IsProgramRefused input failure

-- why the task rejects the input
abbrev pub IsInputRefused : TextTask → List ℕ → Failure → Type 0
IsInputRefused Assemble input failure = IsNoText input failure ⊎ IsTextRefused input failure
IsInputRefused Disassemble input failure = IsNoProgramText input failure

-- ---- the streams

-- the bytes that the reader has left and those that the writer holds, if they are known, and how
-- many calls of each failed so far
pub record Streams : Type 0 where
  pub input : Option (List ℕ)
  pub output : Option (List ℕ)
  pub read_failures : ℕ
  pub write_failures : ℕ

-- the streams of this reader and this writer, given what contracts see of each: the bytes, if they
-- are known, and the number of failed calls
abbrev pub streams : {R W : Type 0}
    → (R → Option (List ℕ))
    → (R → ℕ)
    → (W → Option (List ℕ))
    → (W → ℕ)
    → R
    → W
    → Streams
streams remaining read_failures contents write_failures reader writer = record {
  input = remaining reader;
  output = contents writer;
  read_failures = read_failures reader;
  write_failures = write_failures writer;
}

-- a call read the input to its end, and the input is not too long; `before` and `after` are what
-- the reader has left before and after the call, if that is known
pub record ReadsWholeInput (before after : Option (List ℕ)) (input : List ℕ) : Type 0 where
  pub short : length input ≤ LONGEST_INPUT
  pub read : Consumes before after input
  pub end : IsAtEnd after

-- the reading of the input ended with this failure. `before` and `after` are the bytes that the
-- reader has left before and after the reading, None if they are not known; `failures_before` and
-- `failures_after` are how many of the reader's calls have failed before and after it. `TooLong`:
-- `LONGEST_INPUT` + 1 bytes were consumed, one more than allowed, and no call failed. `Read`: a
-- call failed, after at most `LONGEST_INPUT` bytes were consumed. `Memory`: memory was refused
-- before the first call, so no byte was consumed, and no call failed. With any other failure no
-- reading ends (⊥)
abbrev pub HasNoInput : Failure → Option (List ℕ) → Option (List ℕ) → ℕ → ℕ → Type 0
HasNoInput TooLong before after failures_before failures_after =
    ((bytes : List ℕ) × (length bytes ≡ LONGEST_INPUT + 1) × Consumes before after bytes)
    × (failures_after ≡ failures_before)
HasNoInput Read before after failures_before failures_after =
    ((bytes : List ℕ) × (length bytes ≤ LONGEST_INPUT) × Consumes before after bytes)
    × (failures_before < failures_after)
HasNoInput Memory before after failures_before failures_after =
    (after ≡ before) × (failures_after ≡ failures_before)
HasNoInput WrongArguments before after failures_before failures_after = ⊥
HasNoInput (MapArgument number) before after failures_before failures_after = ⊥
HasNoInput (Truncated frames) before after failures_before failures_after = ⊥
HasNoInput TooManyFrames before after failures_before failures_after = ⊥
HasNoInput (Line line kind) before after failures_before failures_after = ⊥
HasNoInput (Slot slot kind) before after failures_before failures_after = ⊥
HasNoInput Write before after failures_before failures_after = ⊥
HasNoInput Seed before after failures_before failures_after = ⊥

-- nothing was written, and no call of the writer failed
abbrev pub WritesNothing : Streams → Streams → Type 0
WritesNothing old new = (new.output ≡ old.output) × (new.write_failures ≡ old.write_failures)

-- Below, `made` relates an input to its output, and `refused` relates it to the failure for which
-- it is rejected.

-- the input was read, and the output that `made` relates to it was written whole; no call failed
pub record WritesWholeOutput (made : List ℕ → List ℕ → Type 0) (old new : Streams) : Type 0 where
  pub input : List ℕ
  pub output : List ℕ
  pub whole : ReadsWholeInput old.input new.input input
  pub made_so : made input output
  pub written : Appends old.output new.output output
  pub sound : (new.read_failures ≡ old.read_failures) × (new.write_failures ≡ old.write_failures)

-- the input was read and is rejected, with a failure that `refused` relates to it, or memory ran
-- out; nothing was written
pub record RefusesInput (refused : List ℕ → Failure → Type 0) (old new : Streams)
    (failure : Failure) : Type 0 where
  pub input : List ℕ
  pub whole : ReadsWholeInput old.input new.input input
  pub why : (failure ≡ Memory) ⊎ refused input failure
  pub silent : WritesNothing old new
  pub sound : new.read_failures ≡ old.read_failures

-- the input was read, and a call of the writer failed: of the output that `made` relates to the
-- input, only the first `count` bytes were written, or all if only the flush failed
pub record CutsOutput (made : List ℕ → List ℕ → Type 0) (old new : Streams)
    (failure : Failure) : Type 0 where
  pub input : List ℕ
  pub output : List ℕ
  pub count : ℕ
  pub whole : ReadsWholeInput old.input new.input input
  pub made_so : made input output
  pub part : count ≤ length output
  pub written : Appends old.output new.output (take count output)
  pub failure_is : failure ≡ Write
  pub failed : old.write_failures < new.write_failures
  pub sound : new.read_failures ≡ old.read_failures

-- how a run ends with this failure and without its whole output: the input could not be read; it is
-- rejected with a failure that `refused` relates to it, or memory ran out; or a call of the writer
-- failed, for the output that `made` relates to the input. Only in this last case may bytes have
-- been written
abbrev pub StopsRewriting : (List ℕ → List ℕ → Type 0) → (List ℕ → Failure → Type 0) → Streams
    → Streams → Failure → Type 0
StopsRewriting made refused old new failure =
    (HasNoInput failure old.input new.input old.read_failures new.read_failures
    × WritesNothing old new)
    ⊎ (RefusesInput refused old new failure ⊎ CutsOutput made old new failure)
