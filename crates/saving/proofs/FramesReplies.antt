-- Replies to frames, by their heads.
use Rattle.std.proofs.Common.{Result, Ok, Err, ◌≡◌, ◌≢◌, ℕ, false, List, [], length, drop, Some, refl, sym, ap, subst, ◌∙◌}
use Rattle.std.specs.Prelude.{ℤ, nat_lt}
use Rattle.byteorder.specs.Endian.{little_number}
use Rattle.command_frames.specs.declared.command.BadFrame.{BadFrame}
use Rattle.command_frames.specs.declared.command.Head.{Head}
use Rattle.command_frames.specs.Command.{Command, parsed}
use Rattle.command_frames.specs.Frame.{head_of, owner, reply_bytes, reply_to}
use Rattle.tenant.specs.declared.errno.Errno.{Errno}
use Rattle.tenant.specs.declared.errno.Errno.TheVariants.{BadAddress}
use Rattle.tenant.specs.Alone.{IsFrameResult, MayReply, frame_errno}
use Rattle.tenant.specs.Errno.{status_of}
use Rattle.tenant.specs.Machine.{refuses}
use Rattle.tenant.specs.Replies.{Writes}
use Rattle.tenant.specs.State.{TenantState}
use Rattle.saving.specs.Births.{Birth}
use Rattle.saving.specs.Recorded.{RecordsFrame, births_after_frame}
use Rattle.saving.specs.inside.Frames.{RepliesToCommand}
use Rattle.saving.proofs.FramesHeads.{heads}
use Rattle.saving.proofs.FramesStatuses.{no_fault_written}

-- a reply with the tenant and the command number of a frame's head is the reply to the frame
pub by_head : (frame : List ℕ) (h : Head)
    → head_of frame ≡ Some h → (status : ℤ) (payload : List ℕ)
    → reply_bytes h.tenant h.command status payload ≡ reply_to frame status payload
by_head frame h headed status payload =
    let both = heads (nat_lt (length frame) 4) (little_number 2 frame) (little_number 2 (drop 2 frame)) h headed in
    ap (λ (n : ℕ). reply_bytes n h.command status payload) (sym both.0)
    ∙ ap (λ (n : ℕ). reply_bytes (owner frame) n status payload) (sym both.1)

-- a reply to the command of a frame is a possible reply to the frame
pub may_tell : {births later : List Birth} (frame : List ℕ) (command : Command) (h : Head)
    (reply : List ℕ) (before after : TenantState)
    → head_of frame ≡ Some h → parsed frame ≡ Ok command
    → RepliesToCommand command h reply before after births later
    → MayReply frame reply (Some before) (Some after)
may_tell frame command h reply before after headed is t = (
  t.refused,
  (
    t.answer,
    subst (λ (r : Result Command BadFrame). IsFrameResult t.refused before r t.answer) (sym is) t.answers,
    t.written ∙ by_head frame h headed t.answer.status t.answer.payload,
    ap Some t.left,
  ),
)

-- a reply to the command of a frame is one to the frame, with the births after the command
pub may_record : (frame : List ℕ) (command : Command) (h : Head) (reply : List ℕ)
    (before after : TenantState) (births later : List Birth)
    → head_of frame ≡ Some h → parsed frame ≡ Ok command
    → RepliesToCommand command h reply before after births later
    → RecordsFrame frame reply before after births later
may_record frame command h reply before after births later headed is t = record {
  refused = t.refused;
  answer = t.answer;
  answers = subst (λ (r : Result Command BadFrame). IsFrameResult t.refused before r t.answer) (sym is) t.answers;
  reply_is = t.written ∙ by_head frame h headed t.answer.status t.answer.payload;
  left = t.left;
  recorded = subst (λ (r : Result Command BadFrame). later ≡ births_after_frame r t.answer births) (sym is) t.recorded;
}

-- a reply that is not that of a fault by the frame's head is not that of a fault to the frame
pub no_fault_replied : (frame : List ℕ) (h : Head) (reply : List ℕ)
    → head_of frame ≡ Some h
    → reply ≢ reply_bytes h.tenant h.command (status_of BadAddress) []
    → reply ≢ reply_to frame (status_of BadAddress) []
no_fault_replied frame h reply headed apart e = apart (e ∙ sym (by_head frame h headed (status_of BadAddress) []))

-- ---- a frame without a command

-- a frame that is rejected may get the error of its fault, and the state is not changed
pub refused_frame : (frame reply : List ℕ) (s : TenantState) (fault : BadFrame) (errno : Errno) (h : Head)
    → head_of frame ≡ Some h → parsed frame ≡ Err fault
    → errno ≡ frame_errno fault
    → reply ≡ reply_bytes h.tenant h.command (status_of errno) []
    → MayReply frame reply (Some s) (Some s)
refused_frame frame reply s fault errno h headed is same written = (
  false,
  (
    refuses errno s,
    subst (λ (r : Result Command BadFrame). IsFrameResult false s r (refuses errno s)) (sym is)
        (ap (λ (x : Errno). refuses x s) same),
    written ∙ by_head frame h headed (status_of errno) [],
    refl,
  ),
)

-- the reply to a frame that is rejected has the error of its fault, and no birth is added or removed
pub refused_record : (frame reply : List ℕ) (s : TenantState) (births : List Birth)
    (fault : BadFrame) (errno : Errno) (h : Head)
    → head_of frame ≡ Some h → parsed frame ≡ Err fault
    → errno ≡ frame_errno fault
    → reply ≡ reply_bytes h.tenant h.command (status_of errno) []
    → RecordsFrame frame reply s s births births
refused_record frame reply s births fault errno h headed is same written = record {
  refused = false;
  answer = refuses errno s;
  answers =
      subst (λ (r : Result Command BadFrame). IsFrameResult false s r (refuses errno s)) (sym is)
      (ap (λ (x : Errno). refuses x s) same);
  reply_is = written ∙ by_head frame h headed (status_of errno) [];
  left = refl;
  recorded =
      subst (λ (r : Result Command BadFrame). births ≡ births_after_frame r (refuses errno s) births) (sym is) refl;
}

-- the reply of an error other than BadAddress is not that of a fault
pub refused_no_fault : (frame bytes : List ℕ) (s : TenantState) (errno : Errno) (h : Head)
    → head_of frame ≡ Some h → errno ≢ BadAddress
    → Writes h bytes (refuses errno s)
    → bytes ≢ reply_to frame (status_of BadAddress) []
refused_no_fault frame bytes s errno h headed other written =
    no_fault_replied frame h bytes headed (no_fault_written h bytes (Err errno) s other written)
