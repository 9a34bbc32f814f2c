-- How a host keeps the births of its tenants' objects, and the frames that it saves of a tenant.
-- This project's own.
use Rattle.std.specs.Prelude.{◌≡◌, ◌≢◌, ◌⊎◌, ℕ, ◌<◌, ◌^◌, List, [], ◌∷◌, length, slice_get, Option, Some, option_and_then, option_map}
use Rattle.std.specs.List.{AllByRecursion, flat_map}
use Rattle.command_frames.specs.Frame.{framed, owner}
use Rattle.tenant.specs.Batch.{BatchInput}
use Rattle.tenant.specs.State.{TenantState}
use Rattle.saving.specs.declared.birth.Birth.{Birth}
use Rattle.saving.specs.Laws.{IsRestoredBy}
use Rattle.saving.specs.Recorded.{RecordsFrame}
use Rattle.saving.specs.SaveParts.{parts, frames_of}
use Rattle.host_core.specs.Batch.{RunsFor, ChangesTenant}
use Rattle.host_core.specs.Handled.{Handles}
use Rattle.host_core.specs.States.{HostState, new_host}

-- at this frame, with this reply, the births of the frame's tenant change as its command says, and
-- no other births change
pub record Records (frame reply : List ℕ) (before after : HostState) : Type 0 where
  pub own : (s : TenantState) (births : List Birth)
      → slice_get before.states (owner frame) ≡ Some s
      → slice_get before.births (owner frame) ≡ Some births
      → (t : TenantState)
      × (later : List Birth)
      × (slice_get after.states (owner frame) ≡ Some t)
      × (slice_get after.births (owner frame) ≡ Some later)
      × RecordsFrame frame reply s t births later
  pub others : (other : ℕ)
      → other ≢ owner frame
      → slice_get after.births other ≡ slice_get before.births other
  pub count : length after.births ≡ length before.births

-- the frames of one part of a save of a tenant, each with its length before it; None if the tenant
-- is not served or there is no such part
abbrev pub saved_part : HostState → ℕ → ℕ → Option (List ℕ)
saved_part host tenant part =
    option_and_then (λ s.
    option_and_then (λ births. option_map (frames_of tenant) (slice_get (parts s births) part))
    (slice_get host.births tenant)) (slice_get host.states tenant)

-- ---- calls one after another

-- a host handles a frame, and the births of the frame's tenant are those after its command
abbrev pub HandlesFrame : HostState → HostState → Type 0
HandlesFrame before after =
    (frame : List ℕ)
    × (reply : List ℕ)
    × Handles before.states frame reply after.states
    × Records frame reply before after

-- a host runs a program of a tenant on packets; no other state and no births change
abbrev pub RunsPackets : HostState → HostState → Type 0
RunsPackets before after =
    (tenant : ℕ) × (fd : ℕ) × (inputs : List BatchInput) × (room : List ℕ) × (written : List ℕ)
    × RunsFor fd (slice_get before.states tenant) inputs room written
    (slice_get after.states tenant)
    × ChangesTenant tenant before.states after.states × (after.births ≡ before.births)

-- what a call does to a host: it handles a frame, or does what handling one would (an
-- installation); it runs a program on packets; or it changes nothing (a save, a call that only
-- reads)
abbrev pub Call : HostState → HostState → Type 0
Call before after = HandlesFrame before after ⊎ (RunsPackets before after ⊎ (after ≡ before))

-- calls one after another, from the first host to the last; the list has the host after each call
abbrev pub Calls : HostState → List HostState → HostState → Type 0
Calls before [] after = after ≡ before
Calls before (next ∷ later) after = Call before next × Calls next later after

-- `saved` has the bytes of all parts of a save of the tenant, from part 0 on, and there are no more
abbrev pub AreParts : HostState → ℕ → List (List ℕ) → Type 0
AreParts host tenant saved = (part : ℕ) → saved_part host tenant part ≡ slice_get saved part

-- All parts of a save of a tenant, one after another, are frames of this tenant, each with its
-- length before it. These frames restore the tenant: a new tenant that has handled them replies as
-- the saved one does (`IsRestoredBy`). Only tenants with a number of 16 bits are meant: a frame has
-- 16 bits for the number.
abbrev pub AreRestored : HostState → Type 0
AreRestored host =
    (tenant : ℕ) (s : TenantState) → tenant < 2 ^ 16 → slice_get host.states tenant ≡ Some s
    → (saved : List (List ℕ)) × (frames : List (List ℕ)) × AreParts host tenant saved
    × (flat_map (λ bytes. bytes) saved ≡ flat_map framed frames)
    × AllByRecursion (λ frame. owner frame ≡ tenant) frames
    × IsRestoredBy s frames

-- after any of these calls on a new host, the parts of a save of each tenant restore this tenant
abbrev pub TenantsAreRestored : Type 0
TenantsAreRestored =
    (count : ℕ) (calls : List HostState) (host : HostState)
    → Calls (new_host count) calls host
    → AreRestored host
