-- Bytes determine the frames and the replies that they encode. This project's own.
use Rattle.std.specs.Prelude.{◌≡◌, ℕ, ℤ, ◌<◌, ◌≤◌, ◌^◌, List, ◌++◌, length, Ok, slice_index, FitsSigned}
use Rattle.std.specs.Int.{w32}
use Rattle.std.specs.List.{flat_map, AllByRecursion}
use Rattle.command_frames.specs.Command.{Command, parsed, longest_frame}
use Rattle.command_frames.specs.Encoded.{frame_of, FitsFields}
use Rattle.command_frames.specs.Frame.{framed, IsFrame, IsPartial, head_length, owner, longest_payload, reply_bytes}

-- ---- streams

-- the bytes are these frames one after another, and then a rest that is no whole frame
pub record IsStream (bytes : List ℕ) (frames : List (List ℕ)) (rest : List ℕ) : Type 0 where
  pub each : AllByRecursion IsFrame frames
  pub partial : IsPartial rest
  pub spelled : bytes ≡ flat_map framed frames ++ rest

-- all bytes, a list of numbers below 256, are a stream: frames, and a rest that is no whole frame
abbrev pub EachIsStream : Type 0
EachIsStream =
    (bytes : List ℕ) → ((i : ℕ) → slice_index bytes i < 256)
    → (frames : List (List ℕ)) × (rest : List ℕ) × IsStream bytes frames rest

-- bytes are a stream in one way at most: if they are one of `frames` and `rest`, and one of
-- `others` and `left`, the frames are the same, and so is the rest
abbrev pub OneStream : Type 0
OneStream =
    (bytes : List ℕ) (frames others : List (List ℕ)) (rest left : List ℕ)
    → IsStream bytes frames rest → IsStream bytes others left → (frames ≡ others) × (rest ≡ left)

-- if the bytes of a stream begin with some whole frames (`first`), these are its first ones, and
-- what follows them (`left`) is a stream of its remaining frames (`more`) with the same rest
abbrev pub FramesInFront : Type 0
FramesInFront =
    (bytes : List ℕ) (first frames : List (List ℕ)) (left rest : List ℕ)
    → AllByRecursion IsFrame first
    → bytes ≡ flat_map framed first ++ left
    → IsStream bytes frames rest
    → (more : List (List ℕ)) × (frames ≡ first ++ more) × IsStream left more rest

-- ---- commands

-- The encoding of a command inverts parsing: the frame of a command to a tenant is parsed as this
-- command, if the command's numbers fit (`FitsFields`) and the frame is not too long; and a frame
-- that is parsed as a command is that command's frame to its owner, and the numbers fit.
pub record EncodingInvertsParsing : Type 0 where
  pub parsed_again : (tenant : ℕ) (c : Command)
      → FitsFields c → length (frame_of tenant c) ≤ longest_frame
      → parsed (frame_of tenant c) ≡ Ok c
  pub encoded_again : (frame : List ℕ) (c : Command)
      → ((i : ℕ) → slice_index frame i < 256) → head_length ≤ length frame → parsed frame ≡ Ok c
      → (frame ≡ frame_of (owner frame) c) × FitsFields c

-- the owner of the frame of a command to a tenant is this tenant, if its number fits in two bytes
abbrev pub FramesHaveOwners : Type 0
FramesHaveOwners = (tenant : ℕ) (c : Command) → tenant < 2 ^ 16 → owner (frame_of tenant c) ≡ tenant

-- ---- replies

-- the fields of a reply are in their ranges
pub record IsReply (tenant command : ℕ) (status : ℤ) (payload : List ℕ) : Type 0 where
  pub tenant_fits : tenant < 2 ^ 16
  pub command_fits : command < 2 ^ 16
  pub status_fits : FitsSigned w32 status
  pub short : length payload ≤ longest_payload

-- bytes begin with one reply at most: if they are a reply and a rest, and also another reply and
-- what is left, both replies have the same fields, and the bytes after them are the same
abbrev pub OneReplyInFront : Type 0
OneReplyInFront =
    (tenant other command number : ℕ) (status sign : ℤ) (payload load rest left : List ℕ)
    → IsReply tenant command status payload → IsReply other number sign load
    → reply_bytes tenant command status payload ++ rest ≡ reply_bytes other number sign load ++ left
    → (tenant ≡ other) × (command ≡ number) × (status ≡ sign) × (payload ≡ load) × (rest ≡ left)
