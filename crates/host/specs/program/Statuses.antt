-- The exit status of each failure, and the failure for each fault. This project's own.
use Rattle.std.specs.Prelude.{ℕ}
use Rattle.clap.specs.declared.error.kind.ErrorKind.{ErrorKind}
use Rattle.clap.specs.declared.error.kind.ErrorKind.TheVariants as error
use Rattle.bpf_text.specs.Fault.{kind_number}
use Rattle.bpf_text.specs.declared.fault.TextFault.{TextFault}
use Rattle.bpf_text.specs.declared.fault.TextFaultKind.{TextFaultKind}
use Rattle.bpf_text.specs.declared.fault.TextFaultKind.TheVariants as text
use Rattle.host_core.specs.declared.server.ServeFault.{ServeFault}
use Rattle.host_core.specs.declared.server.ServeFaultKind.{ServeFaultKind}
use Rattle.host_core.specs.declared.server.ServeFaultKind.TheVariants as fault
use Rattle.host.specs.declared.program.failure.Failure.{Failure}
use Rattle.host.specs.declared.program.failure.Failure.TheVariants.{WrongArguments, MapArgument, Truncated}
use Rattle.host.specs.declared.program.failure.Failure.TheVariants.{TooManyFrames, TooLong, Line, Slot, Read, Write, Seed, Memory}

-- The exit status of the program, by the failure with which it ends. What a failure has besides its
-- name is only for its fault line: a count of frames, the number of a line, a slot or a map
-- argument, and `kind`, the number of a fault. 1: the input is rejected. The input of `serve` ends
-- inside a frame (`Truncated`) or has a byte after the most frames that are served
-- (`TooManyFrames`), the input of another subcommand is too long, or a line or a slot has a fault.
-- 2: arguments are wrong. 3: a call to read the input or to write the output failed, or `serve` has
-- no random seed for its hash maps (`Seed`). 4: out of memory.
abbrev pub exit_status : Failure → ℕ
exit_status (Truncated frames) = 1
exit_status TooManyFrames = 1
exit_status TooLong = 1
exit_status (Line line kind) = 1
exit_status (Slot slot kind) = 1
exit_status WrongArguments = 2
exit_status (MapArgument number) = 2
exit_status Read = 3
exit_status Write = 3
exit_status Seed = 3
exit_status Memory = 4

-- the failure for clap's kind of error: wrong arguments, unless out of memory. Help and version are
-- such errors too, since there are no such options
abbrev pub arguments_failure : ErrorKind → Failure
arguments_failure error.InvalidValue = WrongArguments
arguments_failure error.UnknownArgument = WrongArguments
arguments_failure error.InvalidSubcommand = WrongArguments
arguments_failure error.NoEquals = WrongArguments
arguments_failure error.ValueValidation = WrongArguments
arguments_failure error.TooManyValues = WrongArguments
arguments_failure error.TooFewValues = WrongArguments
arguments_failure error.WrongNumberOfValues = WrongArguments
arguments_failure error.ArgumentConflict = WrongArguments
arguments_failure error.MissingRequiredArgument = WrongArguments
arguments_failure error.MissingSubcommand = WrongArguments
arguments_failure error.DisplayHelp = WrongArguments
arguments_failure error.DisplayHelpOnMissingArgumentOrSubcommand = WrongArguments
arguments_failure error.DisplayVersion = WrongArguments
arguments_failure error.Io = WrongArguments
arguments_failure error.Format = WrongArguments
arguments_failure error.OutOfMemory = Memory

-- the failure for a fault that ends a stream after `frames` frames
abbrev pub failure_after : ServeFaultKind → ℕ → Failure
failure_after fault.Read frames = Read
failure_after fault.Write frames = Write
failure_after fault.Truncated frames = Truncated frames
failure_after fault.TooManyFrames frames = TooManyFrames
failure_after fault.Memory frames = Memory

-- the failure for the fault of a stream, which has a kind and a number of frames
abbrev pub stream_failure : ServeFault → Failure
stream_failure ended = failure_after ended.kind ended.frames

-- the failure for a kind of fault on a line of a text; lines are counted from 1, and 0 is the whole
-- text; that of out of memory has no line
abbrev pub failure_on : ℕ → TextFaultKind → Failure
failure_on line text.Syntax = Line line (kind_number text.Syntax)
failure_on line text.Range = Line line (kind_number text.Range)
failure_on line text.UnknownLabel = Line line (kind_number text.UnknownLabel)
failure_on line text.LabelTwice = Line line (kind_number text.LabelTwice)
failure_on line text.TooLong = Line line (kind_number text.TooLong)
failure_on line text.Empty = Line line (kind_number text.Empty)
failure_on line text.Memory = Memory

-- the failure for the fault of a text, which has a line and a kind
abbrev pub text_failure : TextFault → Failure
text_failure found = failure_on found.line found.kind
