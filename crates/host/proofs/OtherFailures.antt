-- No failure of a run on streams is a failure of the arguments.
use Rattle.std.proofs.Common.{◌≢◌, ◌∙◌, ℕ, List, Result, Ok, Err, IfErr, ap, subst, sym, inl, inr, arith}
use Rattle.bpf_text.specs.declared.fault.TextFaultKind.{TextFaultKind}
use Rattle.bpf_text.specs.declared.fault.TextFaultKind.TheVariants as text
use Rattle.insn_codec.specs.declared.fault.FaultKind.{FaultKind}
use Rattle.insn_codec.specs.declared.fault.FaultKind.TheVariants as codec
use Rattle.host_core.specs.declared.server.ServeFault.{ServeFault}
use Rattle.host_core.specs.declared.server.ServeFaultKind.{ServeFaultKind}
use Rattle.host_core.specs.declared.server.ServeFaultKind.TheVariants as fault
use Rattle.host_core.specs.Served.{StreamState}
use Rattle.host_core.specs.State.{TenantState}
use Rattle.host.specs.program.Failure.{failure_at}
use Rattle.host.specs.program.Statuses.{exit_status, failure_on, failure_after}
use Rattle.host.specs.inside.program.Frames.{stream_end, ServesNewHost}
use Rattle.host.specs.inside.program.Rewriting.{IsInputRefused, HasNoInput, Streams, StopsRewriting}
use Rattle.host.specs.declared.program.failure.Failure.{Failure}
use Rattle.host.specs.declared.program.failure.Failure.TheVariants.{TooLong, Read, Memory}
use Rattle.host.specs.declared.program.texts.TextTask.{TextTask}
use Rattle.host.specs.declared.program.texts.TextTask.TheVariants.{Assemble, Disassemble}

-- the failure is not one of the arguments
abbrev pub IsOther : Failure → Type 0
IsOther failure = exit_status failure ≢ 2

-- ---- faults of a text and of slots

on_line : (line : ℕ) (kind : TextFaultKind) → IsOther (failure_on line kind)
on_line line text.Memory = λ e. omega (arith, e)
on_line line other = λ e. omega (arith, e)

at_slot : (slot : ℕ) (kind : FaultKind) → IsOther (failure_at slot kind)
at_slot slot codec.Memory = λ e. omega (arith, e)
at_slot slot other = λ e. omega (arith, e)

-- ---- inputs that are rejected

-- a failure since an input is rejected is not one of the arguments
pub refused_otherwise : (task : TextTask) (input : List ℕ) (failure : Failure)
    → IsInputRefused task input failure → IsOther failure
refused_otherwise Assemble input failure (inl none) = λ e. omega (arith, sym (ap exit_status none.1) ∙ e)
refused_otherwise Assemble input failure (inr of_text) =
    subst IsOther (sym of_text.failure_is) (on_line of_text.fault.line of_text.fault.kind)
refused_otherwise Disassemble input failure (inl (inl none)) = λ e. omega (arith, sym (ap exit_status none.1) ∙ e)
refused_otherwise Disassemble input failure (inl (inr of_hex)) =
    subst IsOther (sym of_hex.failure_is) (on_line of_hex.fault.line of_hex.fault.kind)
refused_otherwise Disassemble input failure (inr of_program) =
    subst IsOther (sym of_program.failure_is) (at_slot of_program.fault.slot of_program.fault.kind)

-- ---- runs

unread : (failure : Failure) (old new : Streams)
    → HasNoInput failure old.input new.input old.read_failures new.read_failures → IsOther failure
unread TooLong old new is = λ e. omega (arith, e)
unread Read old new is = λ e. omega (arith, e)
unread Memory old new is = λ e. omega (arith, e)
unread other old new is = absurd is

-- a failure of a run that rewrites its input is not one of the arguments, if none for a rejected input is
pub stops_otherwise : (made : List ℕ → List ℕ → Type 0) (refused : List ℕ → Failure → Type 0)
    → ((input : List ℕ) (failure : Failure) → refused input failure → IsOther failure)
    → (old new : Streams) (failure : Failure) → StopsRewriting made refused old new failure → IsOther failure
stops_otherwise made refused otherwise old new failure (inl is) = unread failure old new is.0
stops_otherwise made refused otherwise old new failure (inr (inl unmade)) =
    elim unmade.why [
      | inl memory ↦ (λ e. omega (arith, sym (ap exit_status memory) ∙ e))
      | inr why ↦ otherwise unmade.input failure why
    ]
stops_otherwise made refused otherwise old new failure (inr (inr unwritten)) = λ e.
    omega (arith, sym (ap exit_status unwritten.failure_is) ∙ e)

-- ---- streams

stream_otherwise : (kind : ServeFaultKind) (frames : ℕ) → IsOther (failure_after kind frames)
stream_otherwise fault.Memory frames = λ e. omega (arith, e)
stream_otherwise other frames = λ e. omega (arith, e)

ends_otherwise : (served : Result ℕ ServeFault) → IfErr (stream_end served) IsOther
ends_otherwise (Ok count) = tt
ends_otherwise (Err fault) = stream_otherwise fault.kind fault.frames

-- a failure of a run that serves a stream is not one of the arguments
pub served_otherwise : (result : Result (Unit {0}) Failure) (before : StreamState)
    (after : List TenantState → StreamState)
    → ServesNewHost result before after → IfErr result IsOther
served_otherwise result before after is = subst (λ r. IfErr r IsOther) (sym is.3) (ends_otherwise is.0)
