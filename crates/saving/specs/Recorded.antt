-- A tenant with the births of its objects. This project's own.
use Rattle.std.specs.Prelude.{◌≡◌, ℕ, Bool, List, Result, Ok, Err}
use Rattle.command_frames.specs.declared.command.BadFrame.{BadFrame}
use Rattle.command_frames.specs.Command.{Command, parsed}
use Rattle.command_frames.specs.Frame.{reply_to}
use Rattle.tenant.specs.Kept.{KeptTenant, state_in}
use Rattle.tenant.specs.State.{TenantState}
use Rattle.tenant.specs.Machine.{Answer}
use Rattle.tenant.specs.Alone.{IsFrameResult}
use Rattle.saving.specs.Alike.{HoldsItsMaps}
use Rattle.saving.specs.Births.{Birth, AreBirths, births_after}

-- a tenant, and the births of its live maps and open programs, the latest first
pub record RecordedTenant : Type 0 where
  pub kept : KeptTenant
  pub births : List Birth

-- the state that a tenant and the bytes of its part represent; the values of its maps lie in these
abbrev pub tenant_state : List ℕ → RecordedTenant → TenantState
tenant_state part t = state_in part t.kept

-- the invariant, whatever bytes the part has: exactly the maps that an open object names are live,
-- and the births are those of the state
abbrev pub IsRecorded : RecordedTenant → Type 0
IsRecorded t =
    (part : List ℕ) → HoldsItsMaps (tenant_state part t) × AreBirths (tenant_state part t) t.births

-- the births of a tenant after a frame, the latest first; a birth records at which descriptor a map
-- was created or a program loaded. `births` are those before the frame; `a` has the status of the
-- reply, and the state after the frame. If the frame is parsed as no command (Err), the births
-- are unchanged. If it is parsed as a command (Ok), MAP_CREATE and PROG_LOAD add the birth of the
-- object that they opened, if they succeeded, CLOSE removes the births of objects that are no
-- longer live, and any other command changes none (`births_after`)
abbrev pub births_after_frame : Result Command BadFrame → Answer → List Birth → List Birth
births_after_frame (Err fault) a births = births
births_after_frame (Ok command) a births = births_after command a births

-- the reply to a frame is that of its tenant's machine, which leads from state `before` to `after`,
-- and the births change from `births` to `later` as the frame's command says; memory may be refused
pub record RecordsFrame (frame reply : List ℕ) (before after : TenantState)
    (births later : List Birth) : Type 0 where
  pub refused : Bool
  pub answer : Answer
  pub answers : IsFrameResult refused before (parsed frame) answer
  pub reply_is : reply ≡ reply_to frame answer.status answer.payload
  pub left : after ≡ answer.after
  pub recorded : later ≡ births_after_frame (parsed frame) answer births
