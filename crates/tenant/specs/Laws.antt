-- The machine is deterministic: if memory is refused to the same commands, they have the same
-- results and frames the same replies. What the replies say of refused memory. This project's own.
use Rattle.std.specs.Prelude.{◌≡◌, ◌≢◌, ◌⊎◌, ℕ, Bool, true, false, [], List, Option, Some, Ok}
use Rattle.command_frames.specs.Command.{Command, map_create, prog_load, parsed}
use Rattle.tenant.specs.State.{TenantState}
use Rattle.tenant.specs.Machine.{Answer, Answers, refuses_for_memory}
use Rattle.command_frames.specs.Frame.{reply_to}
use Rattle.tenant.specs.declared.errno.Errno.TheVariants.{NoMemory, BadAddress}
use Rattle.tenant.specs.Errno.{status_of}
use Rattle.tenant.specs.Alone.{RepliesUnder, MayReply, IsFault, IsRefusedMemory, NoneIsRefusedMemory, IsServedAlone, AloneWithRefusals}

-- in a state, a command has one result if memory is refused to it, and one if it is not
abbrev pub OneCommandResult : Type 0
OneCommandResult =
    (refused : Bool) (s : TenantState) (command : Command) (a b : Answer)
    → Answers refused s command a → Answers refused s command b → a ≡ b

-- in a state, a frame has one reply and one next state if memory is refused to it, and one of each
-- if it is not
abbrev pub OneReply : Type 0
OneReply =
    (refused : Bool) (frame x y : List ℕ) (before a b : Option TenantState)
    → RepliesUnder refused frame x before a → RepliesUnder refused frame y before b
    → (x ≡ y) × (a ≡ b)

-- if no memory is refused, a tenant's frames have one list of replies, and one state after them
abbrev pub OneAlone : Type 0
OneAlone =
    (before a b : Option TenantState) (frames xs ys : List (List ℕ))
    → IsServedAlone before frames xs a
    → IsServedAlone before frames ys b
    → (xs ≡ ys) × (a ≡ b)

-- if a tenant's flag is clear after a command, its result is that without refusals of memory
abbrev pub ClearFlagMeansNoRefusal : Type 0
ClearFlagMeansNoRefusal =
    (refused : Bool) (s : TenantState) (command : Command) (a : Answer)
    → Answers refused s command a → a.after.refused ≡ false → Answers false s command a

-- if a tenant's flag is clear at the end, its replies are those of its machine without refusals
abbrev pub ClearFlagMeansAlone : Type 0
ClearFlagMeansAlone =
    (before : Option TenantState) (after : TenantState) (frames replies : List (List ℕ))
    → AloneWithRefusals before frames replies (Some after)
    → after.refused ≡ false → IsServedAlone before frames replies (Some after)

-- ---- the status of refused memory

-- whether a command takes memory, so that memory may be refused to it: the creation of a map, hash
-- or array (`map_create`), and the load of a program (`prog_load`) do. No other command does: its
-- result is the same whether memory is refused or not (`Answers`)
abbrev pub takes_memory : Command → Bool
takes_memory (map_create kind key value max flags) = true
takes_memory (prog_load kind slots) = true
takes_memory other = false

-- a result of a command in the state s that reports no refusal of memory: its status is not ENOMEM,
-- and the flag after it is that of s
abbrev pub IsNoRefusal : TenantState → Answer → Type 0
IsNoRefusal s a = (a.status ≢ status_of NoMemory) × (a.after.refused ≡ s.refused)

-- If memory may be refused, a command has a result that it has without refusals, or it is a
-- creation or a load with the status ENOMEM, which only sets the flag (`refused`). No command has
-- this status or changes the flag if memory is not refused (`unrefused`), and none but a creation
-- or a load does at all (`others`).
pub record RefusalsAreReported : Type 0 where
  pub refused : (s : TenantState) (command : Command) (a : Answer) → Answers true s command a
      → Answers false s command a ⊎ ((takes_memory command ≡ true) × (a ≡ refuses_for_memory s))
  pub unrefused : (s : TenantState) (command : Command) (a : Answer)
      → Answers false s command a → IsNoRefusal s a
  pub others : (refused : Bool) (s : TenantState) (command : Command) (a : Answer)
      → Answers refused s command a → takes_memory command ≡ false → IsNoRefusal s a

-- only the reply to a creation or a load may be that memory was refused
abbrev pub OnlyCreationsAndLoadsAreRefused : Type 0
OnlyCreationsAndLoadsAreRefused =
    (frame reply : List ℕ) (before after : Option TenantState) → MayReply frame reply before after
    → IsRefusedMemory reply
    → (command : Command) × (parsed frame ≡ Ok command) × (takes_memory command ≡ true)

-- if none of a tenant's replies is that memory was refused, they are those of its machine without
-- refusals, whatever its flag was
abbrev pub UnrefusedRepliesMeanAlone : Type 0
UnrefusedRepliesMeanAlone =
    (before after : Option TenantState) (frames replies : List (List ℕ))
    → AloneWithRefusals before frames replies after → NoneIsRefusedMemory replies
    → IsServedAlone before frames replies after

-- a reply with the status of a fault has no payload
abbrev pub FaultsHaveNoPayload : Type 0
FaultsHaveNoPayload =
    (frame reply : List ℕ) (before after : Option TenantState)
    → MayReply frame reply before after
    → IsFault reply
    → reply ≡ reply_to frame (status_of BadAddress) []
