-- The hosts that there are: each tenant has a history. This project's own.
use Rattle.std.specs.Prelude.{◌≡◌, ℕ, List, [], length, slice_get, Some}
use Rattle.command_frames.specs.Command.{Command}
use Rattle.tenant.specs.State.{TenantState, new_tenant}
use Rattle.saving.specs.declared.birth.Birth.{Birth}
use Rattle.saving.specs.Laws.{IsHistory}
use Rattle.host_core.specs.States.{HostState}

-- some commands lead a new tenant to this state and these births, whether memory is refused to them
-- or not
abbrev pub IsReached : TenantState → List Birth → Type 0
IsReached s births = (commands : List Command) × IsHistory new_tenant [] commands s births

-- each tenant of a host has a state and births that some commands lead to
pub record AreReached (h : HostState) : Type 0 where
  pub many : length h.births ≡ length h.states
  pub each : (t : ℕ) (s : TenantState) (births : List Birth)
      → slice_get h.states t ≡ Some s
      → slice_get h.births t ≡ Some births
      → IsReached s births
