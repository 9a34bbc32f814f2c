-- The reply to the frame that loads a program.
use Rattle.std.proofs.Common.{◌≡◌, ◌≢◌, ℕ, Bool, List, [], Result, Some, refl, sym, ap, subst, ◌∙◌}
use Rattle.std.specs.Prelude.{ℤ}
use Rattle.command_frames.specs.declared.command.BadFrame.{BadFrame}
use Rattle.command_frames.specs.declared.command.Head.{Head}
use Rattle.command_frames.specs.Command.{Command, parsed}
use Rattle.command_frames.specs.Frame.{owner, command_number, reply_bytes, reply_to}
use Rattle.insn_set.specs.declared.insn.Insn.{Insn}
use Rattle.insn_set.specs.Program.{IsProgram, program_bytes}
use Rattle.tenant.specs.declared.errno.Errno.{Errno}
use Rattle.tenant.specs.declared.errno.Errno.TheVariants.{BadAddress}
use Rattle.tenant.specs.declared.reply.Reply.{Reply}
use Rattle.tenant.specs.Alone.{IsFrameResult, MayReply}
use Rattle.tenant.specs.Errno.{status_of}
use Rattle.tenant.specs.Machine.{Answer, Loads}
use Rattle.tenant.specs.Replies.{shown_reply, IsWritable}
use Rattle.tenant.specs.State.{TenantState}
use Rattle.saving.specs.Births.{Birth, with_opened}
use Rattle.saving.specs.Installs.{load_frame, load_reply}
use Rattle.saving.specs.Recorded.{RecordsFrame, births_after_frame}
use Rattle.saving.specs.Restored.{load_of}
use Rattle.saving.specs.inside.Frames.{RepliesToCommand}
use Rattle.command_frames.specs.Laws.{EncodingInvertsParsing}
use Rattle.saving.proofs.ByFrames.{program_carried}
use Rattle.saving.proofs.FramesStatuses.{no_fault_written}

module _ (insns : List Insn) (refused : Bool) (a : Answer) (before after : TenantState)
    (loads : Loads refused before 1 (program_bytes insns) a)
    (left : after ≡ a.after) where
  -- the command that loads the program gets this result, and then the births are those after the load
  pub command_loaded : (births later : List Birth) (r : Result Reply Errno)
      → a ≡ shown_reply r after → IsWritable r
      → later ≡ with_opened a.status a.after births
      → RepliesToCommand (load_of insns) (record { tenant = 0; command = 0 })
      (reply_bytes 0 0 a.status a.payload) before after births
      later
  command_loaded births later r shown writable is =
      let h : Head = record { tenant = 0; command = 0 } in
      record {
        refused = refused;
        answer = a;
        answers = loads;
        written = refl;
        left = left;
        recorded = is;
        no_fault =
            no_fault_written h (reply_bytes 0 0 a.status a.payload) r after writable
            (ap (λ (x : Answer). reply_bytes 0 0 x.status x.payload) shown);
      }

  module _ (law : EncodingInvertsParsing) (number : ℕ) (is : IsProgram insns) (status : ℤ) (status_is : status ≡ a.status)
      (none : a.payload ≡ []) where
    carried : IsFrameResult refused before (parsed (load_frame number insns)) a
    carried =
        subst (λ (c : Result Command BadFrame). IsFrameResult refused before c a)
        (sym (program_carried law number insns is)) loads

    -- the reply to the load with this status has the status and the payload of the machine's result
    pub reply_is : load_reply number insns status ≡ reply_to (load_frame number insns) a.status a.payload
    reply_is =
        ap (λ (s : ℤ). reply_to (load_frame number insns) s []) status_is
        ∙ ap (λ (bytes : List ℕ). reply_to (load_frame number insns) a.status bytes) (sym none)

    -- the reply with this status is a possible reply to the frame that loads the program
    pub frame_replied : MayReply (load_frame number insns) (load_reply number insns status) (Some before) (Some after)
    frame_replied = (refused, (a, carried, reply_is, ap Some left))

    -- after the frame that loads the program the births are those after the load
    pub frame_recorded : (births later : List Birth) → later ≡ with_opened a.status a.after births
        → RecordsFrame (load_frame number insns) (load_reply number insns status) before after births later
    frame_recorded births later opened = record {
      refused = refused;
      answer = a;
      answers = carried;
      reply_is = reply_is;
      left = left;
      recorded =
          subst (λ (c : Result Command BadFrame). later ≡ births_after_frame c a births)
          (sym (program_carried law number insns is)) opened;
    }

    -- the reply to the frame that loads the program is not that of a fault
    pub frame_no_fault : (r : Result Reply Errno)
        → a ≡ shown_reply r after → IsWritable r
        → load_reply number insns status ≢ reply_to (load_frame number insns) (status_of BadAddress) []
    frame_no_fault r shown writable =
        let frame = load_frame number insns in
        let h : Head = record { tenant = owner frame; command = command_number frame } in
        no_fault_written h (load_reply number insns status) r after writable
        (reply_is ∙ ap (λ (x : Answer). reply_to frame x.status x.payload) shown)
