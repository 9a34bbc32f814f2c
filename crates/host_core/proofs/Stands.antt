-- A frame that is cut to the size of the buffer has the same reply as the whole frame.
use Rattle.std.proofs.Common.{◌≡◌, ℕ, ◌<◌, true, false, List, [], length, take, drop, get_or}
use Rattle.std.proofs.Common.{Option, Some, None, Result, refl, sym, ap, subst, ◌∙◌, arith, inl, inr}
use Rattle.std.specs.Prelude.{ℤ, nat_lt, if◌then◌else◌}
use Rattle.std.proofs.lemmas.Bool.{lt-ltb, le-ltb}
use Rattle.std.proofs.lemmas.List.{get_or-take, get_or-drop}
use Rattle.byteorder.specs.Endian.{little_number}
use Rattle.command_frames.specs.declared.command.BadFrame.{BadFrame}
use Rattle.command_frames.specs.Command.{Command, longest_frame, parsed}
use Rattle.command_frames.specs.Frame.{owner, command_number, reply_to, reply_bytes}
use Rattle.host_core.specs.inside.Reading.{IsKeptFrontOf}
use Rattle.tenant.specs.declared.errno.Errno.{Errno}
use Rattle.tenant.specs.declared.errno.Errno.TheVariants.{NotPermitted, Invalid}
use Rattle.tenant.specs.Errno.{status_of}
use Rattle.tenant.specs.State.{TenantState}
use Rattle.tenant.specs.Alone.{IsFrameResult, MayReply}

same_byte : (xs ys : List ℕ) (k : ℕ) → k < 4 → take 4 xs ≡ take 4 ys → get_or xs k 0 ≡ get_or ys k 0
same_byte xs ys k lt e = sym (get_or-take 4 xs k 0 lt) ∙ ap (λ (l : List ℕ). get_or l k 0) e ∙ get_or-take 4 ys k 0 lt

-- a long frame has a head
has_head : (frame : List ℕ) → longest_frame < length frame → nat_lt (length frame) 4 ≡ false
has_head frame long = le-ltb (length frame) 4 (omega arith)

long_owner : (frame : List ℕ) → longest_frame < length frame → owner frame ≡ little_number 2 frame
long_owner frame long = rw (has_head frame long) refl

long_command : (frame : List ℕ) → longest_frame < length frame → command_number frame ≡ little_number 2 (drop 2 frame)
long_command frame long = rw (has_head frame long) refl

same_owner : (front frame : List ℕ)
    → longest_frame < length front → longest_frame < length frame
    → take 4 front ≡ take 4 frame
    → owner front ≡ owner frame
same_owner front frame long_front long_frame e =
    let low = same_byte front frame 0 (omega arith) e in
    let high = same_byte front frame 1 (omega arith) e in
    let same : little_number 2 front ≡ little_number 2 frame = omega arith in
    long_owner front long_front ∙ same ∙ sym (long_owner frame long_frame)

same_command : (front frame : List ℕ)
    → longest_frame < length front → longest_frame < length frame
    → take 4 front ≡ take 4 frame
    → command_number front ≡ command_number frame
same_command front frame long_front long_frame e =
    let low = get_or-drop 2 front 0 0 ∙ same_byte front frame 2 (omega arith) e ∙ sym (get_or-drop 2 frame 0 0) in
    let high = get_or-drop 2 front 1 0 ∙ same_byte front frame 3 (omega arith) e ∙ sym (get_or-drop 2 frame 1 0) in
    let same : little_number 2 (drop 2 front) ≡ little_number 2 (drop 2 frame) = omega arith in
    long_command front long_front ∙ same ∙ sym (long_command frame long_frame)

-- a frame that was cut to the size of the buffer is of the same tenant as the whole frame
pub stands_owner : (front frame : List ℕ) → IsKeptFrontOf front frame → owner front ≡ owner frame
stands_owner front frame (inl same) = ap owner same
stands_owner front frame (inr h) = same_owner front frame h.0 h.1 h.2

-- frames that are too long are not parsed, so both have the same fault
same_parsed : (front frame : List ℕ)
    → longest_frame < length front → longest_frame < length frame
    → parsed front ≡ parsed frame
same_parsed front frame long_front long_frame =
    let front_long : nat_lt longest_frame (length front) ≡ true = lt-ltb longest_frame (length front) long_front in
    let frame_long : nat_lt longest_frame (length frame) ≡ true = lt-ltb longest_frame (length frame) long_frame in
    rw (front_long, frame_long) refl

same_head : (front frame : List ℕ) (status : ℤ) (payload : List ℕ)
    → owner front ≡ owner frame
    → command_number front ≡ command_number frame
    → reply_to front status payload ≡ reply_to frame status payload
same_head front frame status payload o c =
    ap (λ (n : ℕ). reply_bytes n (command_number front) status payload) o
    ∙ ap (λ (n : ℕ). reply_bytes (owner frame) n status payload) c

headed : (frame : List ℕ)
    → longest_frame < length frame
    → (if nat_lt (length frame) 4 then Invalid else NotPermitted) ≡ NotPermitted
headed frame long = rw (has_head frame long) refl

none_status : (front frame : List ℕ)
    → owner front ≡ owner frame
    → command_number front ≡ command_number frame
    → longest_frame < length front → longest_frame < length frame
    → reply_to front (status_of (if nat_lt (length front) 4 then Invalid else NotPermitted)) []
    ≡ reply_to frame (status_of (if nat_lt (length frame) 4 then Invalid else NotPermitted)) []
none_status front frame o c long_front long_frame =
    same_head front frame (status_of (if nat_lt (length front) 4 then Invalid else NotPermitted)) [] o c
    ∙ ap (λ (e : Errno). reply_to frame (status_of e) []) (headed front long_front ∙ sym (headed frame long_frame))

-- a reply to a frame that was cut to the size of the buffer is a reply to the whole frame
pub stands_tells : (front frame reply : List ℕ) (before after : Option TenantState)
    → IsKeptFrontOf front frame → MayReply front reply before after
    → MayReply frame reply before after
stands_tells front frame reply before after (inl same) h = subst (λ (f : List ℕ). MayReply f reply before after) same h
stands_tells front frame reply None after (inr (long_front, long_frame, e)) (refused, h) =
    let o = same_owner front frame long_front long_frame e in
    let c = same_command front frame long_front long_frame e in
    (refused, (h.0, h.1 ∙ none_status front frame o c long_front long_frame))
stands_tells front frame reply (Some s) after (inr (long_front, long_frame, e)) (refused, (a, answers, seen, goes)) =
    let o = same_owner front frame long_front long_frame e in
    let c = same_command front frame long_front long_frame e in
    let same = same_parsed front frame long_front long_frame in (
      refused,
      (
        a,
        subst (λ (r : Result Command BadFrame). IsFrameResult refused s r a) same answers,
        seen ∙ same_head front frame a.status a.payload o c,
        goes,
      ),
    )
