-- The result of a stream whose bytes are known.
use Rattle.std.proofs.Common.{◌≡◌, ◌≢◌, ℕ, ◌+◌, ◌<◌, ◌≤◌, Bool, true, false, List, [], ◌∷◌, ◌++◌, length, Option, Some, None, Ok}
use Rattle.std.proofs.Common.{Err, refl, sym, ap, ap₂, subst, ◌∙◌, arith, append-nil, append_assoc, length-append, inl, inr}
use Rattle.std.proofs.lemmas.List.{length-map}
use Rattle.std.specs.Prelude.{◌⊎◌, ◌==◌, nat_lt, if◌then◌else◌}
use Rattle.std.proofs.lemmas.Bool.{lt-ltb, le-ltb}
use Rattle.std.proofs.lemmas.Bool.Decides.{eqb_tells}
use Rattle.std.specs.List.{flat_map}
use Rattle.std.specs.Io.KnownBytes.{Consumes, IsAtEnd}
use Rattle.command_frames.specs.Frame.{framed, IsPartial}
use Rattle.command_frames.specs.Laws.{IsStream, FramesInFront}
use Rattle.host_core.specs.declared.server.ServeFaultKind.{ServeFaultKind}
use Rattle.host_core.specs.declared.server.ServeFaultKind.TheVariants.{Read, Write, Truncated, TooManyFrames, Memory}
use Rattle.host_core.specs.Handled.{Turn, frames_in}
use Rattle.host_core.specs.Served.{StreamState, NoCallFailed, RepliesToFrames, ServesToEnd, StopsWithFault}
use Rattle.host_core.specs.Laws.{stream_result, NoContentEndsAStream}

is_equal : (a b : ℕ) → a ≡ b → (a == b) ≡ true
is_equal a b same = by (eqb_tells a b)
  where
    by : ((a == b) ≡ true) × (a ≡ b) ⊎ ((a == b) ≡ false) × (a ≢ b) → (a == b) ≡ true
    by (inl seen) = seen.0
    by (inr seen) = absurd (seen.1 same)

is_other : (a b : ℕ) → a ≢ b → (a == b) ≡ false
is_other a b differ = by (eqb_tells a b)
  where
    by : ((a == b) ≡ true) × (a ≡ b) ⊎ ((a == b) ≡ false) × (a ≢ b) → (a == b) ≡ false
    by (inl seen) = absurd (differ seen.1)
    by (inr seen) = seen.0

some_left : (rest : List ℕ) → 0 < length rest → (length rest == 0) ≡ false
some_left rest some = is_other (length rest) 0 (λ e. omega (arith, e))

-- ---- the result, by the number of frames and what follows them

chosen : {A : Type 0} (b c : Bool) (x y : A) → b ≡ c → (if b then x else y) ≡ (if c then x else y)
chosen b c x y e = ap (λ (d : Bool). if d then x else y) e

-- more frames than the limit allows
past_limit : (limit many : ℕ) (rest : List ℕ)
    → limit < many
    → stream_result limit many rest ≡ Err (record { kind = TooManyFrames; frames = limit })
past_limit limit many rest more = chosen (nat_lt limit many) true _ _ (lt-ltb limit many more)

-- at most as many, and no bytes after them
at_end : (limit many : ℕ) (rest : List ℕ) → many ≤ limit → rest ≡ [] → stream_result limit many rest ≡ Ok many
at_end limit many rest few none =
    chosen (nat_lt limit many) false _ _ (le-ltb limit many few)
    ∙ chosen (length rest == 0) true _ _ (ap (λ (l : List ℕ). length l == 0) none)

-- exactly as many, and bytes after them
at_limit : (limit many : ℕ) (rest : List ℕ)
    → many ≡ limit → 0 < length rest
    → stream_result limit many rest ≡ Err (record { kind = TooManyFrames; frames = limit })
at_limit limit many rest same some =
    chosen (nat_lt limit many) false _ _ (le-ltb limit many (omega arith))
    ∙ chosen (length rest == 0) false _ _ (some_left rest some)
    ∙ chosen (many == limit) true _ _ (is_equal many limit same)

-- fewer, and bytes after them
in_frame : (limit many : ℕ) (rest : List ℕ)
    → many < limit → 0 < length rest
    → stream_result limit many rest ≡ Err (record { kind = Truncated; frames = many })
in_frame limit many rest fewer some =
    chosen (nat_lt limit many) false _ _ (le-ltb limit many (omega arith))
    ∙ chosen (length rest == 0) false _ _ (some_left rest some)
    ∙ chosen (many == limit) false _ _ (is_other many limit (λ e. omega (arith, e)))

-- ---- the frames that were read from known bytes

-- the bytes that were read, and those that are left
read_of : (old new : Option (List ℕ)) (bytes read : List ℕ)
    → old ≡ Some bytes → Consumes old new read
    → (left : List ℕ) × (new ≡ Some left) × (bytes ≡ read ++ left)
read_of old None bytes read known consumed =
    absurd (subst (λ (o : Option (List ℕ)). Consumes o None read) known consumed)
read_of old (Some left) bytes read known consumed = (
  left,
  refl,
  subst (λ (o : Option (List ℕ)). Consumes o (Some left) read) known consumed,
)

none_left : (new : Option (List ℕ)) (left : List ℕ) → new ≡ Some left → IsAtEnd new → left ≡ []
none_left new left known end = subst IsAtEnd known end

-- the stream after the frames that were read: the other frames and the rest
follows : FramesInFront
    → (old new : StreamState) (count : ℕ) (bytes after rest : List ℕ) (frames : List (List ℕ))
    → old.input ≡ Some bytes → IsStream bytes frames rest
    → RepliesToFrames old new count after
    → (left : List ℕ)
    × (more : List (List ℕ))
    × (new.input ≡ Some left)
    × (length frames ≡ count + length more)
    × IsStream (after ++ left) more rest
follows law old new count bytes after rest frames known stream (turns, many, s) =
    let first = frames_in turns in
    let (left, left_is, read) = read_of old.input new.input bytes (flat_map framed first ++ after) known s.read in
    let (more, frames_are, later) =
    law bytes first frames (after ++ left) rest s.each
    (read ∙ append_assoc (flat_map framed first) after left)
    stream in (
      left,
      more,
      left_is,
      omega (arith, ap length frames_are, length-append first more, length-map turns (λ (t : Turn). t.frame), many),
      later,
    )

framed_some : (frame : List ℕ) (frames : List (List ℕ)) (rest : List ℕ)
    → 4 ≤ length (flat_map framed (frame ∷ frames) ++ rest)
framed_some frame frames rest =
    omega (
      arith,
      length-append (flat_map framed (frame ∷ frames)) rest,
      length-append (framed frame) (flat_map framed frames),
    )

-- no bytes have no frames and no rest
of_none : (bytes : List ℕ) (more : List (List ℕ)) (rest : List ℕ)
    → bytes ≡ [] → IsStream bytes more rest → (length more ≡ 0) × (rest ≡ [])
of_none bytes [] rest none is = (refl, sym is.spelled ∙ none)
of_none bytes (frame ∷ frames) rest none is =
    absurd (omega (arith, ap length (sym is.spelled ∙ none), framed_some frame frames rest))

-- bytes that are less than a whole frame have no frames
of_partial : FramesInFront
    → (bytes : List ℕ) (more : List (List ℕ)) (rest : List ℕ) → IsPartial bytes
    → IsStream bytes more rest
    → (length more ≡ 0) × (rest ≡ bytes)
of_partial law bytes more rest partial is =
    let (none, nothing, tail) =
    law bytes more [] rest bytes is.each is.spelled (record { each = tt; partial = partial; spelled = refl }) in (
      omega (arith, ap length nothing, length-append more none),
      as_rest none (omega (arith, ap length nothing, length-append more none)) tail.spelled,
    )
  where
    as_rest : (none : List (List ℕ)) → length none ≡ 0 → rest ≡ flat_map framed none ++ bytes → rest ≡ bytes
    as_rest [] no_frames is = is
    as_rest (frame ∷ frames) no_frames is = absurd (omega arith)

-- ---- by the way in which the call ends

ends_done : FramesInFront
    → (limit count : ℕ) (old new : StreamState) (bytes rest : List ℕ) (frames : List (List ℕ))
    → old.input ≡ Some bytes → IsStream bytes frames rest
    → count ≤ limit → ServesToEnd old new count
    → Ok count ≡ stream_result limit (length frames) rest
ends_done law limit count old new bytes rest frames known stream few (answered, end, sound) =
    let (left, more, left_is, many, later) = follows law old new count bytes [] rest frames known stream answered in
    let (no_more, no_rest) = of_none left more rest (none_left new.input left left_is end) later in
    let same : length frames ≡ count = omega arith in
    sym (at_end limit (length frames) rest (omega arith) no_rest ∙ ap (λ (n : ℕ). Ok n) same)

ends_by : FramesInFront
    → (limit : ℕ) (kind : ServeFaultKind) (count : ℕ) (old new : StreamState) (bytes rest : List ℕ)
    (frames : List (List ℕ))
    → old.input ≡ Some bytes → IsStream bytes frames rest
    → NoCallFailed old new → kind ≢ Memory
    → (kind ≡ Truncated → count < limit) → (kind ≡ TooManyFrames → count ≡ limit)
    → StopsWithFault old new kind count
    → Err (record { kind = kind; frames = count }) ≡ stream_result limit (length frames) rest
ends_by law limit Read count old new bytes rest frames known stream sound other cut full
    (part, partial, answered, failed) =
    absurd (omega (arith, sound.0, failed))
ends_by law limit Write count old new bytes rest frames known stream sound other cut full (cut_off, failed) =
    absurd (omega (arith, sound.1, failed))
ends_by law limit Memory count old new bytes rest frames known stream sound other cut full stopped = absurd (other refl)
ends_by law limit Truncated count old new bytes rest frames known stream sound other cut full
    (part, partial, some, answered, end, still) =
    let (left, more, left_is, many, later) = follows law old new count bytes part rest frames known stream answered in
    let whole : part ++ left ≡ part =
    ap (λ (l : List ℕ). part ++ l) (none_left new.input left left_is end) ∙ append-nil part in
    let (no_more, rest_is) =
    of_partial law part more rest partial (subst (λ (l : List ℕ). IsStream l more rest) whole later) in
    let same : length frames ≡ count = omega arith in
    sym (in_frame limit (length frames) rest (omega (arith, cut refl)) (omega (arith, ap length rest_is, some))
    ∙ ap (λ (n : ℕ). Err (record { kind = Truncated; frames = n })) same)
ends_by law limit TooManyFrames count old new bytes rest frames known stream sound other cut full
    (byte, answered, still) =
    let (left, more, left_is, many, later) =
    follows law old new count bytes (byte ∷ []) rest frames known stream answered in
    ap (λ (n : ℕ). Err (record { kind = TooManyFrames; frames = n })) (full refl) ∙ sym (by left more many later)
  where
    by : (left : List ℕ) (more : List (List ℕ))
        → length frames ≡ count + length more → IsStream ((byte ∷ []) ++ left) more rest
        → stream_result limit (length frames) rest ≡ Err (record { kind = TooManyFrames; frames = limit })
    by left [] many later =
        at_limit limit (length frames) rest (omega (arith, full refl)) (omega (arith, ap length later.spelled))
    by left (frame ∷ more) many later = past_limit limit (length frames) rest (omega (arith, full refl))

pub no_content_ends_a_stream : FramesInFront → NoContentEndsAStream
no_content_ends_a_stream law limit (Ok count) old new bytes frames rest served sound other known stream =
    ends_done law limit count old new bytes rest frames known stream served.few served.done
no_content_ends_a_stream law limit (Err fault) old new bytes frames rest served sound other known stream =
    ends_by law limit fault.kind fault.frames old new bytes rest frames known stream sound
    (λ e. other (ap₂ (λ (k : ServeFaultKind) (n : ℕ). Err (record { kind = k; frames = n })) e (of_memory e)))
    served.cut_before served.too_many served.fault
  where
    of_memory : fault.kind ≡ Memory → fault.frames ≡ 0
    of_memory e = (subst (λ (k : ServeFaultKind). StopsWithFault old new k fault.frames) e served.fault).0
