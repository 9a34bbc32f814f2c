-- What follows for the tenants from the replies to all, and how a stream ends. This project's own.
use Rattle.std.specs.Prelude.{◌≡◌, ◌≢◌, ℕ, ◌==◌, List, length, slice_get, take, drop, nat_lt, if◌then◌else◌, Some, Result, Ok, Err}
use Rattle.std.specs.List.{AllByRecursion}
use Rattle.std.specs.Io.KnownBytes.{Appends}
use Rattle.command_frames.specs.Frame.{owner}
use Rattle.command_frames.specs.Laws.{IsStream}
use Rattle.tenant.specs.State.{TenantState}
use Rattle.tenant.specs.Alone.{frames_of, replies_of, NoneIsRefusedMemory, IsServedAlone, AloneWithRefusals}
use Rattle.host_core.specs.Handled.{Turn, frames_in, replies_in, states_after, HandlesInOrder}
use Rattle.host_core.specs.declared.server.ServeFault.{ServeFault}
use Rattle.host_core.specs.declared.server.ServeFaultKind.TheVariants.{Truncated, TooManyFrames, Memory}
use Rattle.host_core.specs.Served.{IsUnrefused, Noninterference, NoneFaults, StreamState, ServesAlone, ServesStream, NoCallFailed}

-- each tenant gets replies that its own machine may give to its own frames; memory may be refused
abbrev pub EachIsServedByItsMachine : List TenantState → List (List ℕ) → List (List ℕ)
    → List TenantState → Type 0
EachIsServedByItsMachine before frames replies after =
    (t : ℕ)
    → AloneWithRefusals (slice_get before t) (frames_of t frames) (replies_of t frames replies)
    (slice_get after t)

-- If each tenant gets replies that its machine may give with refusals of memory, then a tenant to
-- which none was refused gets exactly those without refusals, whatever was refused to others.
abbrev pub UnrefusedAreServedAlone : Type 0
UnrefusedAreServedAlone =
    (before after : List TenantState) (frames replies : List (List ℕ))
    → EachIsServedByItsMachine before frames replies after
    → Noninterference before frames replies after

-- Over a sequence of calls, each tenant gets replies that its machine may give to its own frames,
-- and if no memory was refused to it, exactly those of its machine without refusals; and no test
-- run faults.
abbrev pub CallsAreServedAlone : Type 0
CallsAreServedAlone =
    (before after : List TenantState) (turns : List Turn) → HandlesInOrder before turns after
    → EachIsServedByItsMachine before (frames_in turns) (replies_in turns) after
    × Noninterference before (frames_in turns) (replies_in turns) after
    × NoneFaults (replies_in turns)

-- After each number of turns, each tenant to which no memory was refused until then got exactly the
-- replies of its own machine, whatever is refused to it later.
abbrev pub EachIsServedAloneUntilRefused : Type 0
EachIsServedAloneUntilRefused =
    (before after : List TenantState) (turns : List Turn) (n : ℕ)
    → HandlesInOrder before turns after
    → Noninterference before (frames_in (take n turns)) (replies_in (take n turns))
    (states_after before (take n turns))

-- Noninterference by a tenant's own replies: if none of them says that memory was refused, they are
-- exactly those of its own machine without refusals of memory. Whether the tenant's flag is set
-- before does not matter, nor what is refused to others.
abbrev pub NoninterferenceByReplies
    : List TenantState → List (List ℕ) → List (List ℕ) → List TenantState → Type 0
NoninterferenceByReplies before frames replies after =
    (t : ℕ) → let own = replies_of t frames replies in NoneIsRefusedMemory own
    → IsServedAlone (slice_get before t) (frames_of t frames) own (slice_get after t)

-- In each stretch of turns, n after the first m: if no reply to a tenant says that memory was
-- refused, it gets exactly the replies of its own machine, from its state before the stretch.
abbrev pub EachStretchIsServedAlone : Type 0
EachStretchIsServedAlone =
    (before after : List TenantState) (turns : List Turn) (m n : ℕ)
    → HandlesInOrder before turns after
    → let start = states_after before (take m turns) in
    let those = take n (drop m turns) in
    NoninterferenceByReplies start (frames_in those) (replies_in those) (states_after start those)

-- Two streams that agree on a tenant's state at the start and on its frames give it the same
-- replies, if neither refuses memory to it: it can observe neither the frames of others nor how
-- they interleave with its own. Names with `_too` are of the second stream.
abbrev pub SameFramesSameReplies : Type 0
SameFramesSameReplies =
    (t : ℕ) (before after before_too after_too : List TenantState)
    (frames replies frames_too replies_too : List (List ℕ))
    → Noninterference before frames replies after
    → Noninterference before_too frames_too replies_too after_too
    → IsUnrefused (slice_get after t) → IsUnrefused (slice_get after_too t)
    → slice_get before t ≡ slice_get before_too t → frames_of t frames ≡ frames_of t frames_too
    → replies_of t frames replies ≡ replies_of t frames_too replies_too

-- ---- a stream that is served again

-- tenant t has the same state at the beginning of two streams, in `old` and in `old_too`, and
-- neither refuses memory to it, by its states at the end, in `new` and in `new_too`
pub record BeginsAlike (old new old_too new_too : List TenantState) (t : ℕ) : Type 0 where
  pub same : slice_get old t ≡ slice_get old_too t
  pub unrefused : IsUnrefused (slice_get new t)
  pub unrefused_too : IsUnrefused (slice_get new_too t)

-- Two streams with the same frames have the same replies, and the same bytes are written, whatever
-- hosts serve them, if each tenant of these frames has the same state at the beginning of both, and
-- neither refuses memory to it. Names with `_too` are of the second stream.
abbrev pub SameFramesSameOutput : Type 0
SameFramesSameOutput =
    (old new old_too new_too : StreamState) (count count_too : ℕ) (rest rest_too : List ℕ)
    → (one : ServesAlone old new count rest)
    (other : ServesAlone old_too new_too count_too rest_too)
    → one.frames ≡ other.frames
    → AllByRecursion
    (λ frame.
    BeginsAlike old.states new.states old_too.states new_too.states (owner frame)) one.frames
    → (one.replies ≡ other.replies)
    × (out : List ℕ)
    × Appends old.output new.output out
    × Appends old_too.output new_too.output out

-- ---- how a stream ends

-- The result of a call that allows `limit` frames, on a stream of so many frames and a rest that is
-- no whole frame: any byte after `limit` frames is too many; before that a rest is a cut frame.
abbrev pub stream_result : ℕ → ℕ → List ℕ → Result ℕ ServeFault
stream_result limit many rest =
    if nat_lt limit many then Err (record { kind = TooManyFrames; frames = limit }) else
    (if length rest == 0 then Ok many else
    (if many == limit
    then Err (record { kind = TooManyFrames; frames = limit })
    else Err (record { kind = Truncated; frames = many })))

-- No content of a frame ends a stream: if the bytes of the reader are known, no call of the reader
-- or the writer fails, and there is memory for the buffers, the result of `serve` depends only on
-- `limit`, on the number of frames, and on whether bytes follow them (`stream_result`).
abbrev pub NoContentEndsAStream : Type 0
NoContentEndsAStream =
    (limit : ℕ) (result : Result ℕ ServeFault) (old new : StreamState) (bytes : List ℕ)
    (frames : List (List ℕ)) (rest : List ℕ)
    → ServesStream limit result old new
    → NoCallFailed old new
    → result ≢ Err (record { kind = Memory; frames = 0 })
    → old.input ≡ Some bytes
    → IsStream bytes frames rest
    → result ≡ stream_result limit (length frames) rest
