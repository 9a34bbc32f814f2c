-- How reading a frame may end. This project's own.
use Rattle.std.specs.Prelude.{◌≡◌, ℕ, ◌<◌, List, length, take, Option, ◌⊎◌}
use Rattle.std.specs.Io.KnownBytes.{Consumes, IsAtEnd}
use Rattle.command_frames.specs.Command.{longest_frame}
use Rattle.command_frames.specs.Frame.{IsPartial}
use Rattle.host_core.specs.declared.server.ServeFaultKind.{ServeFaultKind}
use Rattle.host_core.specs.declared.server.ServeFaultKind.TheVariants.{Read, Write, Truncated, TooManyFrames, Memory}

-- fewer than `count` bytes were read; `old` and `new` are those left before and after, if known
pub record ReadsFewer (old new : Option (List ℕ)) (count : ℕ) : Type 0 where
  pub bytes : List ℕ
  pub few : length bytes < count
  pub read : Consumes old new bytes

-- less than a whole frame was read; if the input ends in it (`Truncated`), at least one byte
pub record ReadsPartial (kind : ServeFaultKind) (old new : Option (List ℕ)) : Type 0 where
  pub bytes : List ℕ
  pub partial : IsPartial bytes
  pub begun : kind ≡ Truncated → 0 < length bytes
  pub read : Consumes old new bytes

-- why no more was read: a call failed, or the input is at its end and no call failed; no other
-- fault occurs while a frame is read. `left` are the bytes left then, if they are known
abbrev pub StopsReading : ServeFaultKind → Option (List ℕ) → ℕ → ℕ → Type 0
StopsReading Read left failures_before failures_after = failures_before < failures_after
StopsReading Truncated left failures_before failures_after =
    IsAtEnd left × (failures_after ≡ failures_before)
StopsReading Write left failures_before failures_after = ⊥
StopsReading TooManyFrames left failures_before failures_after = ⊥
StopsReading Memory left failures_before failures_after = ⊥

-- why no more was read, given the reader before and after, old and new: `remaining` gives the bytes
-- that it has left, if they are known, and `failures` how many of its calls failed
abbrev pub StopsAt : {R : Type 0}
    → (R → Option (List ℕ))
    → (R → ℕ)
    → ServeFaultKind
    → R
    → R
    → Type 0
StopsAt remaining failures kind old new =
    StopsReading kind (remaining new) (failures old) (failures new)

-- the front is the frame, or both are longer than the longest valid frame and begin with the same
-- head; the reply to such a long frame depends only on its head
abbrev pub IsKeptFrontOf : List ℕ → List ℕ → Type 0
IsKeptFrontOf front frame =
    (front ≡ frame)
    ⊎ ((longest_frame < length front)
    × (longest_frame < length frame)
    × (take 4 front ≡ take 4 frame))
