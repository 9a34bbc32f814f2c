-- Replies to commands.
use Rattle.std.proofs.Common.{Result, Ok, Err, ◌≡◌, Bool, List, ℕ, refl, sym, subst}
use Rattle.command_frames.specs.declared.command.Head.{Head}
use Rattle.command_frames.specs.declared.command.Command.{Command as CodeCommand}
use Rattle.command_frames.specs.Shown.{shown_command}
use Rattle.tenant.specs.declared.errno.Errno.{Errno}
use Rattle.tenant.specs.declared.reply.Reply.{Reply}
use Rattle.tenant.specs.declared.reply.Reply.TheVariants as reply
use Rattle.saving.specs.inside.Frames.{RepliesToCommand}
use Rattle.tenant.specs.Machine.{Answers}
use Rattle.tenant.specs.Replies.{shown_reply, IsWritable, Writes}
use Rattle.tenant.specs.State.{TenantState}
use Rattle.saving.specs.Births.{Birth, births_after}
use Rattle.saving.proofs.FramesStatuses.{no_fault_written}

-- the state of the result that a reply or an error represents is the given one
pub shown_after : (r : Result Reply Errno) (s : TenantState) → s ≡ (shown_reply r s).after
shown_after (Err errno) s = refl
shown_after (Ok reply.Done) s = refl
shown_after (Ok other) s = refl

-- if the parsed command is known, the reply that is written of its result is a reply to it, with the births after it
pub seen : {command known : CodeCommand} {h : Head} {bytes : List ℕ} {before after : TenantState}
    {births later : List Birth} (refused : Bool) (r : Result Reply Errno)
    → command ≡ known
    → Answers refused before (shown_command known) (shown_reply r after)
    → IsWritable r
    → ((s : TenantState) → Writes h bytes (shown_reply r s))
    → later ≡ births_after (shown_command known) (shown_reply r after) births
    → RepliesToCommand (shown_command command) h bytes before after births later
seen {command} {known} {h} {bytes} {before} {after} {births} {later} refused r is answers writable
    written recorded = record {
      refused = refused;
      answer = shown_reply r after;
      answers =
          subst (λ (x : CodeCommand). Answers refused before (shown_command x) (shown_reply r after)) (sym is) answers;
      written = written after;
      left = shown_after r after;
      recorded =
          subst (λ (x : CodeCommand). later ≡ births_after (shown_command x) (shown_reply r after) births)
          (sym is) recorded;
      no_fault = no_fault_written h bytes r after writable (written after);
    }
