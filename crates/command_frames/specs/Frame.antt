-- Frames: a stream is a list of them and a rest, and each has a reply. Their format is this
-- project's own; a status is a result of bpf(2).
use Rattle.std.specs.Prelude.{ℕ, ℤ, ◌+◌, ◌<◌, ◌^◌, List, ◌++◌, length, drop, nat_lt, Option, Some, None, if◌then◌else◌, ◌⊎◌}
use Rattle.std.specs.Int.{w32, cast_unsigned}
use Rattle.byteorder.specs.Endian.{little_number, little_bytes}
use Rattle.command_frames.specs.declared.command.Head.{Head}

-- a frame on the stream: its length in four bytes, little-endian, and then its bytes
abbrev pub framed : List ℕ → List ℕ
framed frame = little_bytes 4 (length frame) ++ frame

-- these bytes may be a frame: their length fits in four bytes
abbrev pub IsFrame : List ℕ → Type 0
IsFrame frame = length frame < 2 ^ 32

-- the bytes don't begin with a whole frame: they are fewer than the four bytes of a length, or
-- fewer than these four and a frame of this length
abbrev pub IsPartial : List ℕ → Type 0
IsPartial bytes = (length bytes < 4) ⊎ (length bytes < 4 + little_number 4 bytes)

-- ---- the head of a frame

-- the length of a head, in bytes: a tenant and a command, two bytes each
abbrev pub head_length : ℕ
head_length = 4

-- the head of a frame; None if the frame has fewer than four bytes
abbrev pub head_of : List ℕ → Option Head
head_of frame =
    if nat_lt (length frame) head_length
    then None
    else Some (record { tenant = little_number 2 frame; command = little_number 2 (drop 2 frame) })

-- the tenant of a frame, and 65535 if it is too short for a head
abbrev pub owner : List ℕ → ℕ
owner frame = if nat_lt (length frame) head_length then 65535 else little_number 2 frame

-- the number of a frame's command, and 65535 if it is too short for a head
abbrev pub command_number : List ℕ → ℕ
command_number frame =
    if nat_lt (length frame) head_length then 65535 else little_number 2 (drop 2 frame)

-- ---- the reply

-- the number of bytes between the length of a reply and its payload: tenant, command and status
abbrev pub reply_head : ℕ
reply_head = 8

-- the length of the longest payload, in bytes
abbrev pub longest_payload : ℕ
longest_payload = 4096

-- the length of the longest reply, in bytes
abbrev pub longest_reply : ℕ
longest_reply = 4 + reply_head + longest_payload

-- the bytes of a reply before its payload: `size`, the tenant, the command and the status. `size`
-- is the number of bytes that follow it
abbrev pub front_bytes : ℕ → ℕ → ℤ → ℕ → List ℕ
front_bytes tenant command status size =
    little_bytes 4 size
    ++
    (little_bytes 2 tenant
    ++ (little_bytes 2 command ++ little_bytes 4 (cast_unsigned w32 status)))

-- a reply: the bytes before its payload, and the payload
abbrev pub reply_bytes : ℕ → ℕ → ℤ → List ℕ → List ℕ
reply_bytes tenant command status payload =
    front_bytes tenant command status (reply_head + length payload) ++ payload

-- the reply to a frame, with this status and payload; it repeats the frame's tenant and command
-- number, and has 65535 for both if the frame is too short for a head
abbrev pub reply_to : List ℕ → ℤ → List ℕ → List ℕ
reply_to frame status payload = reply_bytes (owner frame) (command_number frame) status payload
