-- The replies to one tenant: those of its own machine, on its own frames. This project's own.
use Rattle.std.specs.Prelude.{◌≡◌, ℕ, Bool, false, List, [], ◌∷◌, length, take, drop, filter, Option, Some, None, Result, Ok, Err, nat_lt, ◌==◌, if◌then◌else◌}
use Rattle.std.specs.Int.{w32, cast_unsigned}
use Rattle.std.specs.List.{AllByRecursion}
use Rattle.byteorder.specs.Endian.{little_bytes}
use Rattle.command_frames.specs.declared.command.BadFrame.{BadFrame}
use Rattle.command_frames.specs.declared.command.BadFrame.TheVariants as bad
use Rattle.command_frames.specs.Frame.{head_length, owner, reply_to}
use Rattle.command_frames.specs.Command.{Command, parsed}
use Rattle.tenant.specs.declared.errno.Errno.{Errno}
use Rattle.tenant.specs.declared.errno.Errno.TheVariants.{NotPermitted, TooBig, NoMemory, BadAddress, Invalid}
use Rattle.tenant.specs.Errno.{status_of}
use Rattle.tenant.specs.State.{TenantState}
use Rattle.tenant.specs.Machine.{Answer, refuses, Answers}

-- the error for a frame that carries no command
abbrev pub frame_errno : BadFrame → Errno
frame_errno bad.TooLong = TooBig
frame_errno bad.Unknown = Invalid
frame_errno bad.Body = Invalid

-- `a` is the result of a frame in the state s: if the frame carries a command, the result of this
-- command (`refused`: memory is refused to it); if it carries none, the error for its fault, and
-- nothing changes
abbrev pub IsFrameResult : Bool → TenantState → Result Command BadFrame → Answer → Type 0
IsFrameResult refused s (Err fault) a = a ≡ refuses (frame_errno fault) s
IsFrameResult refused s (Ok command) a = Answers refused s command a

-- the error for a frame of a tenant that is not served, or for one that has no head
abbrev pub unserved_errno : List ℕ → Errno
unserved_errno frame = if nat_lt (length frame) head_length then Invalid else NotPermitted

-- `reply` is the reply to this frame, which leads its tenant from the state `before` to `after`;
-- `refused` is whether memory is refused. A tenant that is not served has no state (None), and the
-- reply reports that, or that the frame has no head
abbrev pub RepliesUnder : Bool → List ℕ → List ℕ → Option TenantState → Option TenantState → Type 0
RepliesUnder refused frame reply None after =
    (after ≡ None) × (reply ≡ reply_to frame (status_of (unserved_errno frame)) [])
RepliesUnder refused frame reply (Some s) after =
    (a : Answer) × IsFrameResult refused s (parsed frame) a
    × (reply ≡ reply_to frame a.status a.payload) × (after ≡ Some a.after)

-- `reply` is a possible reply to this frame, with these states of its tenant before and after it:
-- the one if memory is refused to its command, or the one if it is not
abbrev pub MayReply : List ℕ → List ℕ → Option TenantState → Option TenantState → Type 0
MayReply frame reply before after = (refused : Bool) × RepliesUnder refused frame reply before after

-- the status of a reply, four bytes from byte 8 on, is that of this error
abbrev pub HasErrno : Errno → List ℕ → Type 0
HasErrno errno reply = take 4 (drop 8 reply) ≡ little_bytes 4 (cast_unsigned w32 (status_of errno))

-- the status of a reply is that of a faulting test run (EFAULT)
abbrev pub IsFault : List ℕ → Type 0
IsFault reply = HasErrno BadAddress reply

-- the status of a reply is that of a command to which memory was refused (ENOMEM)
abbrev pub IsRefusedMemory : List ℕ → Type 0
IsRefusedMemory reply = HasErrno NoMemory reply

-- ---- a list of frames

-- the frames of tenant t among all frames
abbrev pub frames_of : ℕ → List (List ℕ) → List (List ℕ)
frames_of t frames = filter (λ frame. owner frame == t) frames

-- the replies to the frames of tenant t, among the replies to all frames, one for each; if one list
-- is longer, its rest is left out
abbrev pub replies_of : ℕ → List (List ℕ) → List (List ℕ) → List (List ℕ)
replies_of t [] replies = []
replies_of t (frame ∷ frames) [] = []
replies_of t (frame ∷ frames) (reply ∷ replies) =
    if owner frame == t then reply ∷ replies_of t frames replies else replies_of t frames replies

-- a tenant's frames, in order, have these replies, one each, and lead from the state `before` to
-- `after`: `tells` holds of each frame, its reply, and the states before and after it
abbrev pub RepliesInOrder : (List ℕ → List ℕ → Option TenantState → Option TenantState → Type 0)
    → Option TenantState → List (List ℕ) → List (List ℕ) → Option TenantState → Type 0
RepliesInOrder tells before [] [] after = after ≡ before
RepliesInOrder tells before (frame ∷ frames) (reply ∷ replies) after =
    (between : Option TenantState)
    × tells frame reply before between
    × RepliesInOrder tells between frames replies after
RepliesInOrder tells before [] (reply ∷ replies) after = ⊥
RepliesInOrder tells before (frame ∷ frames) [] after = ⊥

-- the replies are those of the tenant's machine, without refusals of memory
abbrev pub IsServedAlone : Option TenantState → List (List ℕ) → List (List ℕ) → Option TenantState
    → Type 0
IsServedAlone before frames replies after =
    RepliesInOrder (RepliesUnder false) before frames replies after

-- the replies are those of the tenant's machine, from the state `before` to `after`; memory may be
-- refused to any of the commands, or to none
abbrev pub AloneWithRefusals : Option TenantState → List (List ℕ) → List (List ℕ)
    → Option TenantState → Type 0
AloneWithRefusals before frames replies after = RepliesInOrder MayReply before frames replies after

-- none of these replies is that of a command to which memory was refused
abbrev pub NoneIsRefusedMemory : List (List ℕ) → Type 0
NoneIsRefusedMemory replies = AllByRecursion (λ reply. ¬ IsRefusedMemory reply) replies
