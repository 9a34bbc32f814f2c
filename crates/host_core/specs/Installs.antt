-- A program that was verified elsewhere. This project's own.
use Rattle.std.specs.Prelude.{ℕ, ℤ, List, Option, Some, None}
use Rattle.insn_set.specs.declared.insn.Insn.{Insn}
use Rattle.saving.specs.Installs.{load_frame, load_reply}
use Rattle.tenant.specs.Machine.{targets}
use Rattle.tenant.specs.State.{TenantState}
use Rattle.verifier.specs.Fits.{Fits}
use Rattle.verifier.specs.Verified.{Accepted}
use Rattle.host_core.specs.Handled.{Handles}
use Rattle.host_core.specs.Saving.{Records}
use Rattle.host_core.specs.States.{HostState}

-- what a host does at the frame of a tenant that loads the program, if the reply has this status
-- and no payload
pub record Installs (tenant : ℕ) (code : List Insn) (status : ℤ) (before after : HostState)
    : Type 0 where
  pub handled : Handles before.states (load_frame tenant code) (load_reply tenant code status)
      after.states
  pub recorded : Records (load_frame tenant code) (load_reply tenant code status) before after

-- each descriptor of the program's maps names, in this state, a map of the shape with which the
-- program was accepted; for a tenant that is not served nothing is required, since no program is
-- opened there
abbrev pub FitsTenant : Accepted → Option TenantState → Type 0
FitsTenant a None = Unit {0}
FitsTenant a (Some s) = Fits a (targets s)
