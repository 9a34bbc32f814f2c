-- What calls of `Host::handle` do, one after another. This project's own.
use Rattle.std.specs.Prelude.{◌≡◌, ◌≢◌, ℕ, List, [], ◌∷◌, length, map, slice_get}
use Rattle.command_frames.specs.Frame.{owner}
use Rattle.tenant.specs.State.{TenantState}
use Rattle.tenant.specs.Alone.{MayReply, IsFault}

-- A frame is handled: its reply and the next state of its tenant are those of the tenant's machine,
-- every other tenant is unchanged, and no test run faults.
pub record Handles (before : List TenantState) (frame reply : List ℕ)
    (after : List TenantState) : Type 0 where
  pub own : MayReply frame reply (slice_get before (owner frame)) (slice_get after (owner frame))
  pub others : (other : ℕ) → other ≢ owner frame → slice_get after other ≡ slice_get before other
  pub count : length after ≡ length before
  pub no_fault : ¬ IsFault reply

-- a frame, its reply, and the states of all tenants after it
pub record Turn : Type 0 where
  pub frame : List ℕ
  pub reply : List ℕ
  pub states : List TenantState

-- the frames of these turns, in order
abbrev pub frames_in : List Turn → List (List ℕ)
frames_in turns = map (λ turn. turn.frame) turns

-- the replies of these turns, in order
abbrev pub replies_in : List Turn → List (List ℕ)
replies_in turns = map (λ turn. turn.reply) turns

-- the states after these turns; those before them if there are none
abbrev pub states_after : List TenantState → List Turn → List TenantState
states_after before [] = before
states_after before (turn ∷ turns) = states_after turn.states turns

-- the frames of the turns are handled in order (`Handles`), each with the reply and the next states
-- of its turn: they lead from the states `before` to the states `after`
abbrev pub HandlesInOrder : List TenantState → List Turn → List TenantState → Type 0
HandlesInOrder before [] after = after ≡ before
HandlesInOrder before (turn ∷ turns) after =
    Handles before turn.frame turn.reply turn.states × HandlesInOrder turn.states turns after
