-- The state after a load that opens a program. This project's own.
use Rattle.std.specs.Prelude.{◌≡◌, ℕ, ◌≤◌, List, IsSome}
use Rattle.bpf_maps.specs.Live.{LiveMaps, live_at, shape_at}
use Rattle.fd_table.specs.Table.{with_open}
use Rattle.tenant.specs.declared.object.OpenObject.TheVariants as object
use Rattle.tenant.specs.Kept.{times_listed, AreHeld, map_at}
use Rattle.tenant.specs.Loaded.{LoadedProgram}
use Rattle.tenant.specs.State.{TenantState}

-- the state with this program opened at the descriptor fd
abbrev pub with_program : TenantState → ℕ → LoadedProgram → TenantState
with_program s fd l = record s { objects = with_open s.objects fd (object.Program l) }

-- there is a live map of each of these handles
abbrev pub AreLive : LiveMaps → List ℕ → Type 0
AreLive t held = (handle : ℕ) → 1 ≤ times_listed handle held → IsSome (live_at t handle)

-- after references are added, the maps that were live are live, with their shapes, keys and values,
-- each live map has a reference (`AreHeld`), and the flag of refused memory is unchanged
pub record IsHeldMore (old new : LiveMaps) : Type 0 where
  pub held : AreHeld new
  pub live : (handle : ℕ) → IsSome (live_at old handle) → IsSome (live_at new handle)
  pub shape : (handle : ℕ) → shape_at new handle ≡ shape_at old handle
  pub same : (part : List ℕ) (handle : ℕ) → map_at part new handle ≡ map_at part old handle
  pub refused : new.refused ≡ old.refused
