-- `serve`: each end, of the input, of memory or by a failed call, has what the contract promises, by induction over the frames served;
-- calls of `handle` in order are served as if each tenant were the only one.
use Rattle.std.proofs.Common.{◌≡◌, ◌≢◌, ℕ, ◌+◌, ◌<◌, ◌≤◌, Ok, Err, Bool, true, false, List, [], ◌∷◌, ◌++◌, length, Option}
use Rattle.std.proofs.Common.{refl, sym, ap, subst, ◌∙◌, arith, append-nil, append_assoc, length-append, take, lit≤, inl}
use Rattle.std.specs.Prelude.{slice_get, ◌==◌, if◌then◌else◌}
use Rattle.std.proofs.lemmas.Bool.{eqb-true, eqb-false}
use Rattle.std.proofs.lemmas.List.{map-append, length-map}
use Rattle.std.proofs.lemmas.Grind.{flat_map-append}
use Rattle.std.proofs.KnownBytes.{Consumes-nil, Consumes-trans, Appends-nil, Appends-trans}
use Rattle.std.specs.List.{flat_map, AllByRecursion}
use Rattle.std.specs.Io.KnownBytes.{Consumes, Appends, IsAtEnd}
use Rattle.command_frames.specs.Frame.{owner, framed, IsFrame, IsPartial}
use Rattle.host_core.specs.inside.Reading.{IsKeptFrontOf}
use Rattle.host_core.proofs.Stands.{stands_owner, stands_tells}
use Rattle.tenant.specs.State.{TenantState}
use Rattle.tenant.specs.Alone.{frames_of, replies_of, MayReply, IsFault, AloneWithRefusals}
use Rattle.host_core.specs.declared.server.ServeFault.{ServeFault}
use Rattle.host_core.specs.declared.server.ServeFaultKind.{ServeFaultKind}
use Rattle.host_core.specs.declared.server.ServeFaultKind.TheVariants.{Read, Write, Truncated, TooManyFrames, Memory}
use Rattle.host_core.specs.Laws.{EachIsServedByItsMachine, UnrefusedAreServedAlone, CallsAreServedAlone}
use Rattle.host_core.specs.Served.{NoneFaults, StreamState, NoCallFailed, Serves, ServesAlone, RepliesToFrames, CutsLastReply}
use Rattle.host_core.specs.Served.{joined_replies, ServesToEnd, StopsWithFault, StopsAlone, IsFlushedAgain, ServesStream}
use Rattle.host_core.specs.Handled.{Handles, Turn, frames_in, replies_in, HandlesInOrder}
use Rattle.host_core.specs.inside.Frame.{ServesOneFrame, ReadsOnly, ServesFrameOrEnds, StopsInFrame}

ahead : (same : Bool) (frame reply : List ℕ) (frames replies : List (List ℕ))
    (before mid after : Option TenantState)
    → (same ≡ true → MayReply frame reply before mid)
    → (same ≡ false → mid ≡ before) → AloneWithRefusals mid frames replies after
    → AloneWithRefusals before (if same then frame ∷ frames else frames)
    (if same then reply ∷ replies else replies) after
ahead true frame reply frames replies before mid after own other rest = (mid, own refl, rest)
ahead false frame reply frames replies before mid after own other rest =
    subst (λ (x : Option TenantState). AloneWithRefusals x frames replies after) (other refl) rest

-- a frame that is handled comes before the later frames of its tenant
handled_first : (t : ℕ) (frame reply : List ℕ) (frames replies : List (List ℕ))
    (before mid : List TenantState) (after : Option TenantState)
    → Handles before frame reply mid
    → AloneWithRefusals (slice_get mid t) frames replies after
    → AloneWithRefusals (slice_get before t)
    (if owner frame == t then frame ∷ frames else frames)
    (if owner frame == t then reply ∷ replies else replies)
    after
handled_first t frame reply frames replies before mid after h rest =
    ahead (owner frame == t) frame reply frames replies (slice_get before t) (slice_get mid t) after
    (λ e.
    subst (λ (n : ℕ). MayReply frame reply (slice_get before n) (slice_get mid n)) (eqb-true (owner frame) t e) h.own)
    (λ e. h.others t (λ k. eqb-false (owner frame) t e (sym k))) rest

-- ---- calls of `handle` in sequence

calls_seen : (before after : List TenantState) (turns : List Turn)
    → HandlesInOrder before turns after
    → EachIsServedByItsMachine before (frames_in turns) (replies_in turns) after × NoneFaults (replies_in turns)
calls_seen before after [] same = ((λ t. ap (λ (s : List TenantState). slice_get s t) same), tt)
calls_seen before after (turn ∷ turns) (h, rest) =
    let (seen, sound) = calls_seen turn.states after turns rest in (
      (λ t.
          handled_first t turn.frame turn.reply (frames_of t (frames_in turns))
          (replies_of t (frames_in turns) (replies_in turns))
          before turn.states (slice_get after t) h (seen t)),
      (h.no_fault, sound),
    )

pub calls_are_served_alone : UnrefusedAreServedAlone → CallsAreServedAlone
calls_are_served_alone alone before after turns h =
    let (seen, sound) = calls_seen before after turns h in
    (seen, alone before after (frames_in turns) (replies_in turns) seen, sound)

-- one more turn
abbrev turn_of : List ℕ → List ℕ → List TenantState → Turn
turn_of frame reply states = record { frame = frame; reply = reply; states = states }

handled_more : (before mid after : List TenantState) (turns : List Turn) (frame reply : List ℕ)
    → HandlesInOrder before turns mid → Handles mid frame reply after
    → HandlesInOrder before (turns ++ turn_of frame reply after ∷ []) after
handled_more before mid after [] frame reply same h = (
  subst (λ (s : List TenantState). Handles s frame reply after)
      same h,
  refl,
)
handled_more before mid after (turn ∷ turns) frame reply (first, rest) h = (
  first,
  handled_more turn.states mid after turns frame reply rest h,
)

-- ---- the bytes

all_push : {X : Type 0} (P : X → Type 0) (xs : List X) (x : X)
    → AllByRecursion P xs → P x → AllByRecursion P (xs ++ x ∷ [])
all_push P [] x h p = (p, tt)
all_push P (y ∷ ys) x h p = (h.0, all_push P ys x h.1 p)

-- the frames that were read after one more frame; `rest` are the bytes after it
pub read_more : (a b c : Option (List ℕ)) (frames : List (List ℕ)) (frame rest : List ℕ)
    → Consumes a b (flat_map framed frames ++ [])
    → Consumes b c (framed frame ++ rest)
    → Consumes a c (flat_map framed (frames ++ frame ∷ []) ++ rest)
read_more a b c frames frame rest first later =
    let whole : flat_map framed (frames ++ frame ∷ []) ≡ flat_map framed frames ++ framed frame =
    flat_map-append framed frames (frame ∷ []) ∙ ap (λ l. flat_map framed frames ++ l) (append-nil (framed frame)) in
    let joins = Consumes-trans a b c (flat_map framed frames ++ []) (framed frame ++ rest) first later in
    let regrouped :
    (flat_map framed frames ++ []) ++ (framed frame ++ rest) ≡ flat_map framed (frames ++ frame ∷ []) ++ rest =
    ap (λ l. l ++ (framed frame ++ rest)) (append-nil (flat_map framed frames))
    ∙ sym (append_assoc (flat_map framed frames) (framed frame) rest)
    ∙ ap (λ l. l ++ rest) (sym whole) in
    subst (Consumes a c) regrouped joins

-- the bytes after the last whole frame
pub read_rest : (a b c : Option (List ℕ)) (frames : List (List ℕ)) (rest : List ℕ)
    → Consumes a b (flat_map framed frames ++ [])
    → Consumes b c rest
    → Consumes a c (flat_map framed frames ++ rest)
read_rest a b c frames rest first later =
    subst (Consumes a c)
    (ap (λ l. l ++ rest) (append-nil (flat_map framed frames)))
    (Consumes-trans a b c (flat_map framed frames ++ []) rest first later)

-- the bytes of the replies and one more are those of the replies and then its own
pub joined-push : (replies : List (List ℕ)) (reply : List ℕ)
    → joined_replies (replies ++ reply ∷ []) ≡ joined_replies replies ++ reply
joined-push replies reply =
    flat_map-append (λ r. r) replies (reply ∷ []) ∙ ap (λ l. joined_replies replies ++ l) (append-nil reply)

-- ---- from one stream state to the next

frames_more : (turns : List Turn) (turn : Turn) → frames_in (turns ++ turn ∷ []) ≡ frames_in turns ++ turn.frame ∷ []
frames_more turns turn = map-append (λ (t : Turn). t.frame) turns (turn ∷ [])

joined_more : (turns : List Turn) (turn : Turn)
    → joined_replies (replies_in (turns ++ turn ∷ [])) ≡ joined_replies (replies_in turns) ++ turn.reply
joined_more turns turn =
    ap joined_replies (map-append (λ (t : Turn). t.reply) turns (turn ∷ [])) ∙ joined-push (replies_in turns) turn.reply

serves_more : (old mid new : StreamState) (turns : List Turn) (frame reply out : List ℕ)
    → Serves old mid turns [] (joined_replies (replies_in turns))
    → ServesOneFrame mid new frame reply out
    → Serves old new (turns ++ turn_of frame reply new.states ∷ []) [] (joined_replies (replies_in turns) ++ out)
serves_more old mid new turns frame reply out s h =
    let more = sym (frames_more turns (turn_of frame reply new.states)) in
    record {
      each = subst (AllByRecursion IsFrame) more (all_push IsFrame (frames_in turns) frame s.each h.is_frame);
      read = subst (λ (fs : List (List ℕ)). Consumes old.input new.input (flat_map framed fs ++ [])) more
          (read_more old.input mid.input new.input (frames_in turns) frame [] s.read
          (subst (Consumes mid.input new.input) (sym (append-nil (framed frame))) h.read));
      written =
          Appends-trans old.output mid.output new.output (joined_replies (replies_in turns)) out s.written h.written;
      handled = handled_more old.states mid.states new.states turns frame reply s.handled h.handled;
    }

-- at first no frame has a reply, and nothing was read or written
pub answered_none : (m : StreamState) → RepliesToFrames m m 0 []
answered_none m = (
  [],
  refl,
  record { each = tt; read = Consumes-nil m.input; written = Appends-nil m.output; handled = refl },
)

-- if count frames have whole replies, and one more is served, count + 1 frames have whole replies
pub answered_more : (old mid new : StreamState) (count : ℕ) (frame reply : List ℕ)
    → RepliesToFrames old mid count [] → ServesOneFrame mid new frame reply reply
    → RepliesToFrames old new (count + 1) []
answered_more old mid new count frame reply (turns, len, s) h =
    let turn = turn_of frame reply new.states in (
      turns ++ turn ∷ [],
      omega (arith, len, length-append turns (turn ∷ [])),
      subst (Serves old new (turns ++ turn ∷ []) []) (sym (joined_more turns turn))
          (serves_more old mid new turns frame reply reply s h),
    )

-- if n bytes of the reply to one more frame are written, the last reply is cut after count whole ones
pub cut_off : (old mid new : StreamState) (count n : ℕ) (frame reply : List ℕ)
    → RepliesToFrames old mid count []
    → ServesOneFrame mid new frame reply (take n reply)
    → CutsLastReply old new count
cut_off old mid new count n frame reply (turns, len, s) h = (
  turns,
  turn_of frame reply new.states,
  n,
  len,
  serves_more old mid new turns frame reply (take n reply) s h,
)

-- if count frames have whole replies, and then only bytes are read, these are the rest after the frames
pub answered_rest : (old mid new : StreamState) (count : ℕ) (rest : List ℕ)
    → RepliesToFrames old mid count [] → ReadsOnly mid new rest
    → RepliesToFrames old new count rest
answered_rest old mid new count rest (turns, len, s) h = (
  turns,
  len,
  record {
    each = s.each;
    read = read_rest old.input mid.input new.input (frames_in turns) rest s.read h.read;
    written =
        subst (λ (o : Option (List ℕ)). Appends old.output o (joined_replies (replies_in turns)))
        (sym h.written) s.written;
    handled = subst (λ (x : List TenantState). HandlesInOrder old.states turns x) (sym h.states) s.handled;
  },
)

-- the buffer has all bytes of the frame on which its reply depends
pub turns : (old new : StreamState) (frame front reply out : List ℕ)
    → IsFrame frame
    → Consumes old.input new.input (framed frame)
    → IsKeptFrontOf front frame → Appends old.output new.output out
    → MayReply front reply (slice_get old.states (owner front)) (slice_get new.states (owner front))
    → ((other : ℕ) → other ≢ owner front → slice_get new.states other ≡ slice_get old.states other)
    → length new.states ≡ length old.states → ¬ IsFault reply
    → ServesOneFrame old new frame reply out
turns old new frame front reply out is_frame read stands written own others count no_fault =
    let same = stands_owner front frame stands in
    record {
      is_frame = is_frame;
      read = read;
      written = written;
      handled = record {
        own =
            subst (λ (n : ℕ). MayReply frame reply (slice_get old.states n) (slice_get new.states n))
            same (stands_tells front frame reply _ _ stands own);
        others = λ other ne. others other (λ e. ne (e ∙ same));
        count = count;
        no_fault = no_fault;
      };
    }

-- ---- the end of a call

sound_both : (old mid new : StreamState) → NoCallFailed old mid → NoCallFailed mid new → NoCallFailed old new
sound_both old mid new h k = (k.0 ∙ h.0, k.1 ∙ h.1)

-- the call stops in a frame
pub frame_stops : (old mid new : StreamState) (kind : ServeFaultKind) (count : ℕ)
    → RepliesToFrames old mid count [] → NoCallFailed old mid
    → StopsInFrame mid new kind
    → StopsWithFault old new kind count
frame_stops old mid new Read count answered sound ((rest, partial, waits), failed) =
    (rest, partial, answered_rest old mid new count rest answered waits, omega (arith, sound.0, failed))
frame_stops old mid new Write count answered sound ((frame, reply, n, turn), failed) =
    (cut_off old mid new count n frame reply answered turn, omega (arith, sound.1, failed))
frame_stops old mid new Truncated count answered sound ((rest, partial, some, waits), end, more) =
    (rest, partial, some, answered_rest old mid new count rest answered waits, end, sound_both old mid new sound more)
frame_stops old mid new TooManyFrames count answered sound h = absurd h
frame_stops old mid new Memory count answered sound h = absurd h

-- reads do not change what is flushed
pub frame_stays_flushed : (old mid new : StreamState) (kind : ServeFaultKind)
    → IsFlushedAgain old mid → StopsInFrame mid new kind
    → kind ≢ Write
    → IsFlushedAgain old new
frame_stays_flushed old mid new Read flushed ((rest, partial, waits), failed) other = record {
  again = λ first. waits.flushed ∙ flushed.again first;
}
frame_stays_flushed old mid new Write flushed stopped other = absurd (other refl)
frame_stays_flushed old mid new Truncated flushed ((rest, partial, some, waits), end, more) other = record {
  again = λ first. waits.flushed ∙ flushed.again first;
}
frame_stays_flushed old mid new TooManyFrames flushed stopped other = absurd stopped
frame_stays_flushed old mid new Memory flushed stopped other = absurd stopped

pub end_stays_flushed : (old mid new : StreamState)
    → IsFlushedAgain old mid → ServesFrameOrEnds mid new false
    → IsFlushedAgain old new
end_stays_flushed old mid new flushed (waits, end, more) = record {
  again = λ first. waits.flushed ∙ flushed.again first;
}

pub frame_is_no_limit : (old new : StreamState) (kind : ServeFaultKind) {P : Type 0}
    → StopsInFrame old new kind → kind ≡ TooManyFrames → P
frame_is_no_limit old new kind stopped same = absurd (subst (StopsInFrame old new) same stopped)

-- the input ends
pub frame_done : (old mid new : StreamState) (count : ℕ)
    → RepliesToFrames old mid count [] → NoCallFailed old mid
    → ServesFrameOrEnds mid new false
    → ServesToEnd old new count
frame_done old mid new count answered sound (waits, end, more) = (
  answered_rest old mid new count [] answered waits,
  end,
  sound_both old mid new sound more,
)

-- the limit of frames is reached, and the input ends
pub end_done : (old mid new : StreamState) (count limit : ℕ)
    → count ≡ limit → RepliesToFrames old mid count []
    → NoCallFailed old mid → Consumes mid.input new.input []
    → new.output ≡ mid.output → new.flushed ≡ mid.flushed
    → new.states ≡ mid.states → IsAtEnd new.input
    → NoCallFailed mid new
    → ServesToEnd old new limit
end_done old mid new count limit same answered sound read written flushed states end more =
    let rest =
    answered_rest old mid new count [] answered
    (record { read = read; written = written; flushed = flushed; states = states }) in
    (subst (λ (n : ℕ). RepliesToFrames old new n []) same rest, end, sound_both old mid new sound more)

-- the replies to each tenant are those of its machine
answered_alone : CallsAreServedAlone
    → (old new : StreamState) (count : ℕ) (rest : List ℕ) → IsPartial rest
    → RepliesToFrames old new count rest
    → ServesAlone old new count rest
answered_alone law old new count rest partial (turns, many, s) =
    let (seen, alone, no_fault) = law old.states new.states turns s.handled in
    record {
      frames = frames_in turns;
      replies = replies_in turns;
      each = s.each;
      many = (length-map turns _ ∙ many, length-map turns _ ∙ many);
      partial = partial;
      read = s.read;
      written = s.written;
      alone = alone;
      no_fault = no_fault;
    }

-- a call that ends at the end of its input serves its frames as `ServesAlone` has it
pub serves_alone : CallsAreServedAlone
    → (old new : StreamState) (count : ℕ) → ServesToEnd old new count
    → ServesAlone old new count []
serves_alone law old new count (answered, end, sound) = answered_alone law old new count [] (inl (lit≤ tt)) answered

-- before anything is read there are no replies
pub nothing_served : (m : StreamState) → ServesAlone m m 0 []
nothing_served m = record {
  frames = [];
  replies = [];
  each = tt;
  many = (refl, refl);
  partial = inl (lit≤ tt);
  read = Consumes-nil m.input;
  written = Appends-nil m.output;
  alone = λ t unrefused. refl;
  no_fault = tt;
}

-- a call that ends with another fault than Write serves the frames before it as `ServesAlone` has it
pub stops_alone : CallsAreServedAlone
    → (old new : StreamState) (kind : ServeFaultKind) (count : ℕ)
    → StopsWithFault old new kind count
    → StopsAlone old new kind count
stops_alone law old new Read count (rest, partial, answered, failed) whole = (
  rest,
  answered_alone law old new count rest partial answered,
)
stops_alone law old new Write count stopped whole = absurd (whole refl)
stops_alone law old new Truncated count (rest, partial, some, answered, end, sound) whole = (
  rest,
  answered_alone law old new count rest partial answered,
)
stops_alone law old new TooManyFrames count (byte, answered, sound) whole = (
  byte ∷ [],
  answered_alone law old new count (byte ∷ []) (inl (lit≤ tt)) answered,
)
stops_alone law old new Memory count (none, same) whole = (
  [],
  subst (λ (s : StreamState). ServesAlone old s count []) (sym same)
      (subst (λ (n : ℕ). ServesAlone old old n []) (sym none) (nothing_served old)),
)

-- if one more frame is served and flushed, count + 1 frames have whole replies, no call failed, and all is flushed
pub frame_more : (old mid new : StreamState) (count : ℕ)
    → RepliesToFrames old mid count [] → NoCallFailed old mid
    → ServesFrameOrEnds mid new true
    → RepliesToFrames old new (count + 1) [] × NoCallFailed old new × IsFlushedAgain old new
frame_more old mid new count answered sound ((frame, reply, turn), flushed, more) = (
  answered_more old
      mid new count frame reply answered turn,
  sound_both old mid new sound more,
  record { again = λ first. flushed },
)

-- the limit of frames is reached, and another byte follows
pub end_more : (old mid new : StreamState) (count limit byte : ℕ)
    → count ≡ limit → RepliesToFrames old mid count []
    → NoCallFailed old mid → Consumes mid.input new.input (byte ∷ [])
    → new.output ≡ mid.output → new.flushed ≡ mid.flushed
    → new.states ≡ mid.states → NoCallFailed mid new
    → StopsWithFault old new TooManyFrames limit
end_more old mid new count limit byte same answered sound read written flushed states more =
    let rest =
    answered_rest old mid new count (byte ∷ []) answered
    (record { read = read; written = written; flushed = flushed; states = states }) in
    (byte, subst (λ (n : ℕ). RepliesToFrames old new n (byte ∷ [])) same rest, sound_both old mid new sound more)

-- the limit of frames is reached, and the read that looks for another byte fails
pub end_fails : (old mid new : StreamState) (count limit : ℕ) (kind : ServeFaultKind)
    → kind ≡ Read → count ≡ limit
    → RepliesToFrames old mid count [] → NoCallFailed old mid
    → Consumes mid.input new.input [] → new.output ≡ mid.output
    → new.flushed ≡ mid.flushed → new.states ≡ mid.states
    → mid.read_failures < new.read_failures
    → StopsWithFault old new kind limit
end_fails old mid new count limit kind is same answered sound read written flushed states failed =
    let rest =
    answered_rest old mid new count [] answered
    (record { read = read; written = written; flushed = flushed; states = states }) in
    subst (λ (k : ServeFaultKind). StopsWithFault old new k limit) (sym is)
    ([], inl (lit≤ tt), subst (λ (n : ℕ). RepliesToFrames old new n []) same rest, omega (arith, sound.0, failed))

-- ---- the contract of `serve`

-- a call that ends at the end of its input, within the limit of frames, meets the contract of `serve`
pub ends_served : CallsAreServedAlone
    → (limit count : ℕ) (old new : StreamState) → count ≤ limit
    → IsFlushedAgain old new → ServesToEnd old new count
    → ServesStream limit (Ok count) old new
ends_served law limit count old new few flushed served = record {
  done = served;
  alone = serves_alone law old new count served;
  few = few;
  flushed = flushed;
  fault = tt;
  alone_before = tt;
  few_before = tt;
  flushed_before = tt;
  cut_before = tt;
  too_many = tt;
}

-- before anything is read
pub ends_unread : (limit : ℕ) (m : StreamState) → ServesStream limit (Err (record { kind = Memory; frames = 0 })) m m
ends_unread limit m = record {
  done = tt;
  alone = tt;
  few = tt;
  flushed = tt;
  fault = (refl, refl);
  alone_before = λ whole. ([], nothing_served m);
  few_before = omega arith;
  flushed_before = λ other. record { again = λ first. first };
  cut_before = λ wrong. cc wrong;
  too_many = λ wrong. cc wrong;
}

-- a call that ends with a fault, at a number of frames that fits the fault, meets the contract of `serve`
pub ends_stopped : CallsAreServedAlone
    → (limit : ℕ) (fault : ServeFault) (old new : StreamState) → fault.frames ≤ limit
    → (fault.kind ≢ Write → IsFlushedAgain old new)
    → (fault.kind ≡ Truncated → fault.frames < limit)
    → (fault.kind ≡ TooManyFrames → fault.frames ≡ limit)
    → StopsWithFault old new fault.kind fault.frames
    → ServesStream limit (Err fault) old new
ends_stopped law limit fault old new few flushed cut full stopped = record {
  done = tt;
  alone = tt;
  few = tt;
  flushed = tt;
  fault = stopped;
  alone_before = stops_alone law old new fault.kind fault.frames stopped;
  few_before = few;
  flushed_before = flushed;
  cut_before = cut;
  too_many = full;
}
