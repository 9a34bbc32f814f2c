-- Serving one frame: it is read, handled, and its reply is written. This project's own.
use Rattle.std.specs.Prelude.{◌≡◌, Bool, true, false, ℕ, ◌<◌, List, [], length, take}
use Rattle.std.specs.Io.KnownBytes.{Consumes, Appends, IsAtEnd}
use Rattle.host_core.specs.declared.server.ServeFaultKind.{ServeFaultKind}
use Rattle.host_core.specs.declared.server.ServeFaultKind.TheVariants.{Read, Write, Truncated, TooManyFrames, Memory}
use Rattle.command_frames.specs.Frame.{framed, IsFrame, IsPartial}
use Rattle.host_core.specs.Served.{StreamState, NoCallFailed}
use Rattle.host_core.specs.Handled.{Handles}

-- a frame was read and handled, and `out` was written: its reply, or the front of it
pub record ServesOneFrame (old new : StreamState) (frame reply out : List ℕ) : Type 0 where
  pub is_frame : IsFrame frame
  pub read : Consumes old.input new.input (framed frame)
  pub written : Appends old.output new.output out
  pub handled : Handles old.states frame reply new.states

-- the bytes `rest` were read; nothing was written or flushed, and no state changed
pub record ReadsOnly (old new : StreamState) (rest : List ℕ) : Type 0 where
  pub read : Consumes old.input new.input rest
  pub written : new.output ≡ old.output
  pub flushed : new.flushed ≡ old.flushed
  pub states : new.states ≡ old.states

-- ---- one frame

-- one frame was served and its reply flushed (true), or the input was at its end (false)
abbrev pub ServesFrameOrEnds : StreamState → StreamState → Bool → Type 0
ServesFrameOrEnds old new true =
    ((frame : List ℕ) × (reply : List ℕ) × ServesOneFrame old new frame reply reply)
    × (new.flushed ≡ true)
    × NoCallFailed old new
ServesFrameOrEnds old new false = ReadsOnly old new [] × IsAtEnd new.input × NoCallFailed old new

-- What was read and written of one frame before a fault, and why: a call failed, or the input is at
-- its end. Two faults never occur here: Memory comes before the first frame, and TooManyFrames
-- after the last one.
abbrev pub StopsInFrame : StreamState → StreamState → ServeFaultKind → Type 0
StopsInFrame old new Read =
    ((rest : List ℕ) × IsPartial rest × ReadsOnly old new rest)
    × (old.read_failures < new.read_failures)
StopsInFrame old new Write =
    ((frame : List ℕ)
    × (reply : List ℕ)
    × (n : ℕ)
    × ServesOneFrame old new frame reply (take n reply))
    × (old.write_failures < new.write_failures)
StopsInFrame old new Truncated =
    ((rest : List ℕ) × IsPartial rest × (0 < length rest) × ReadsOnly old new rest)
    × IsAtEnd new.input
    × NoCallFailed old new
StopsInFrame old new TooManyFrames = ⊥
StopsInFrame old new Memory = ⊥
