-- Replies to the frames of one tenant, one command at a time. This project's own.
use Rattle.std.specs.Prelude.{◌≡◌, ◌≢◌, ℕ, Bool, List, []}
use Rattle.arena.specs.Memory.{Memory, part_bytes}
use Rattle.command_frames.specs.declared.command.Head.{Head}
use Rattle.command_frames.specs.Command.{Command}
use Rattle.command_frames.specs.Frame.{reply_bytes}
use Rattle.tenant.specs.declared.errno.Errno.TheVariants.{BadAddress}
use Rattle.tenant.specs.Errno.{status_of}
use Rattle.tenant.specs.State.{TenantState}
use Rattle.saving.specs.Births.{Birth, births_after}
use Rattle.tenant.specs.Machine.{Answer, Answers}
use Rattle.tenant.specs.Replies.{Writes}

-- The reply to a command is the machine's, whether memory is refused to it (`refused`) or not, and
-- is not the reply to a run that faults. The state `after` it is the machine's, and the births
-- `later` are those after the command.
pub record RepliesToCommand (command : Command) (head : Head) (reply : List ℕ)
    (before after : TenantState) (births later : List Birth) : Type 0 where
  pub refused : Bool
  pub answer : Answer
  pub answers : Answers refused before command answer
  pub written : Writes head reply answer
  pub left : after ≡ answer.after
  pub recorded : later ≡ births_after command answer births
  pub no_fault : reply ≢ reply_bytes head.tenant head.command (status_of BadAddress) []

-- only the part of this tenant changes in the memory, and not the number or the size of the parts
pub record ChangesPart (tenant : ℕ) (old new : Memory) : Type 0 where
  pub parts : new.parts ≡ old.parts
  pub part : new.part ≡ old.part
  pub others : (other : ℕ) → other ≢ tenant → part_bytes new other ≡ part_bytes old other
