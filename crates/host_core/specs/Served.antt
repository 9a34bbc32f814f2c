-- The effect of a call of `serve`: the frames that it reads, the replies to them, and the point at
-- which it stops. This project's own.
use Rattle.std.specs.Prelude.{◌≡◌, ◌≢◌, Bool, true, false, ℕ, ◌<◌, ◌≤◌, List, [], ◌∷◌, ◌++◌}
use Rattle.std.specs.Prelude.{length, take, slice_get, Option, Some, None, Result, IfOk, IfErr, OnOk}
use Rattle.std.specs.List.{flat_map, AllByRecursion}
use Rattle.std.specs.Io.KnownBytes.{Consumes, Appends, IsAtEnd}
use Rattle.host_core.specs.declared.server.ServeFault.{ServeFault}
use Rattle.host_core.specs.declared.server.ServeFaultKind.{ServeFaultKind}
use Rattle.host_core.specs.declared.server.ServeFaultKind.TheVariants.{Read, Write, Truncated, TooManyFrames, Memory}
use Rattle.host_core.specs.declared.stream.Sink.{Ghosts as OfSink}
use Rattle.host_core.specs.declared.stream.Source.{Ghosts as OfSource}
use Rattle.command_frames.specs.Frame.{framed, IsFrame, IsPartial}
use Rattle.tenant.specs.State.{TenantState}
use Rattle.host_core.specs.Handled.{Turn, frames_in, replies_in, HandlesInOrder}
use Rattle.tenant.specs.Alone.{frames_of, replies_of, IsFault, IsServedAlone}

-- ---- the replies to the tenants

-- no memory was ever refused to the tenant that has this state; true of None, a tenant that is not
-- served, which takes no memory. To such tenants `Noninterference` promises the replies of their
-- own machines
abbrev pub IsUnrefused : Option TenantState → Type 0
IsUnrefused None = Unit {0}
IsUnrefused (Some s) = s.refused ≡ false

-- Each tenant to which no memory was refused gets exactly the replies that its own machine, which
-- has no other tenants, gives to its own frames without refusals of memory. For a number that is
-- not served, each frame gets an error that depends only on the frame.
abbrev pub Noninterference :
    List TenantState → List (List ℕ) → List (List ℕ) → List TenantState → Type 0
Noninterference before frames replies after =
    (t : ℕ) → IsUnrefused (slice_get after t) → IsServedAlone (slice_get before t)
    (frames_of t frames) (replies_of t frames replies) (slice_get after t)

-- none of these replies has the status of a test run that faulted
abbrev pub NoneFaults : List (List ℕ) → Type 0
NoneFaults replies = AllByRecursion (λ reply. ¬ IsFault reply) replies

-- ---- calls of `serve`

-- the tenants' states; the bytes that the reader has left and those that the writer holds, if they
-- are known; whether all that was written is flushed; and how many calls of each failed so far
pub record StreamState : Type 0 where
  pub states : List TenantState
  pub input : Option (List ℕ)
  pub output : Option (List ℕ)
  pub flushed : Bool
  pub read_failures : ℕ
  pub write_failures : ℕ

-- the state of a stream with these tenants' states, this reader and this writer; `source` and
-- `sink` have what contracts see of a reader and of a writer
abbrev pub stream_state : {R W : Type 0}
    → OfSource R
    → OfSink W
    → List TenantState
    → R
    → W
    → StreamState
stream_state source sink states reader writer = record {
  states = states;
  input = source.remaining reader;
  output = sink.contents writer;
  flushed = sink.is_flushed writer;
  read_failures = source.failures reader;
  write_failures = sink.failures writer;
}

-- no call of the reader or the writer failed between these states
abbrev pub NoCallFailed : StreamState → StreamState → Type 0
NoCallFailed old new =
    (new.read_failures ≡ old.read_failures) × (new.write_failures ≡ old.write_failures)

-- the frames of the turns were read and got replies, one after another, and then the bytes `rest`
-- were read; the bytes `out` were written
pub record Serves (old new : StreamState) (turns : List Turn) (rest out : List ℕ) : Type 0 where
  pub each : AllByRecursion IsFrame (frames_in turns)
  pub read : Consumes old.input new.input (flat_map framed (frames_in turns) ++ rest)
  pub written : Appends old.output new.output out
  pub handled : HandlesInOrder old.states turns new.states

-- the bytes of the replies, one after another
abbrev pub joined_replies : List (List ℕ) → List ℕ
joined_replies replies = flat_map (λ reply. reply) replies

-- `count` frames got replies, each was written whole, and then the bytes `rest` were read
abbrev pub RepliesToFrames : StreamState → StreamState → ℕ → List ℕ → Type 0
RepliesToFrames old new count rest =
    (turns : List Turn)
    × (length turns ≡ count)
    × Serves old new turns rest (joined_replies (replies_in turns))

-- `count` frames were read, and then bytes that are no whole frame; the replies to the frames were
-- written, one after another. Each tenant to which no memory was refused got exactly those of its
-- own machine, and no test run faulted.
pub record ServesAlone (old new : StreamState) (count : ℕ) (rest : List ℕ) : Type 0 where
  pub frames : List (List ℕ)
  pub replies : List (List ℕ)
  pub each : AllByRecursion IsFrame frames
  pub many : (length frames ≡ count) × (length replies ≡ count)
  pub partial : IsPartial rest
  pub read : Consumes old.input new.input (flat_map framed frames ++ rest)
  pub written : Appends old.output new.output (joined_replies replies)
  pub alone : Noninterference old.states frames replies new.states
  pub no_fault : NoneFaults replies

-- `count` replies were written whole, and of the reply to one more frame the first n bytes: fewer
-- than all, or all if only the flush failed; nothing after that frame was read
abbrev pub CutsLastReply : StreamState → StreamState → ℕ → Type 0
CutsLastReply old new count =
    (turns : List Turn) × (last : Turn) × (n : ℕ) × (length turns ≡ count)
    × Serves old new (turns ++ last ∷ []) []
    (joined_replies (replies_in turns) ++ take n last.reply)

-- the end of a call that replies to `count` frames: the input is at its end
abbrev pub ServesToEnd : StreamState → StreamState → ℕ → Type 0
ServesToEnd old new count =
    RepliesToFrames old new count [] × IsAtEnd new.input × NoCallFailed old new

-- `old` and `new` are before and after a call that ends with this fault, after `count` replies were
-- written whole; at TooManyFrames one more byte was read, and at Memory nothing was done
abbrev pub StopsWithFault : StreamState → StreamState → ServeFaultKind → ℕ → Type 0
StopsWithFault old new Read count =
    (rest : List ℕ)
    × IsPartial rest
    × RepliesToFrames old new count rest
    × (old.read_failures < new.read_failures)
StopsWithFault old new Write count =
    CutsLastReply old new count × (old.write_failures < new.write_failures)
StopsWithFault old new Truncated count =
    (rest : List ℕ)
    × IsPartial rest
    × (0 < length rest)
    × RepliesToFrames old new count rest
    × IsAtEnd new.input
    × NoCallFailed old new
StopsWithFault old new TooManyFrames count =
    (byte : ℕ) × RepliesToFrames old new count (byte ∷ []) × NoCallFailed old new
StopsWithFault old new Memory count = (count ≡ 0) × (new ≡ old)

-- at a fault other than Write, `ServesAlone` holds of the `count` frames before it and some
-- rest; at Write, which cuts a reply, this claims nothing
abbrev pub StopsAlone : StreamState → StreamState → ServeFaultKind → ℕ → Type 0
StopsAlone old new kind count = kind ≢ Write → (rest : List ℕ) × ServesAlone old new count rest

-- if everything was flushed before, everything is flushed again, including the replies that were
-- written since
pub record IsFlushedAgain (old new : StreamState) : Type 0 where
  pub again : old.flushed ≡ true → new.flushed ≡ true

-- A call of `serve` that allows `limit` frames leads from the state `old` to the state `new`. With
-- Ok, the input is at its end (`done`). With a fault, `fault` says what was read and written before
-- it. `alone` and `alone_before` are about the tenants to which no memory was refused. At most
-- `limit` frames got replies: fewer if the input ends inside a frame, exactly `limit` at
-- TooManyFrames. If everything was flushed before the call, everything is flushed after it, unless
-- the fault is one of the writer.
pub record ServesStream (limit : ℕ) (result : Result ℕ ServeFault)
    (old new : StreamState) : Type 0 where
  pub done : IfOk result (λ count. ServesToEnd old new count)
  pub alone : IfOk result (λ count. ServesAlone old new count [])
  pub few : IfOk result (λ count. count ≤ limit)
  pub flushed : OnOk result (IsFlushedAgain old new)
  pub fault : IfErr result (λ fault. StopsWithFault old new fault.kind fault.frames)
  pub alone_before : IfErr result (λ fault. StopsAlone old new fault.kind fault.frames)
  pub few_before : IfErr result (λ fault. fault.frames ≤ limit)
  pub flushed_before : IfErr result (λ fault. fault.kind ≢ Write → IsFlushedAgain old new)
  pub cut_before : IfErr result (λ fault. fault.kind ≡ Truncated → fault.frames < limit)
  pub too_many : IfErr result (λ fault. fault.kind ≡ TooManyFrames → fault.frames ≡ limit)
