-- Bytes determine the frames and the replies that they encode.
use Rattle.std.proofs.Common.{◌≡◌, ℕ, zero, suc, ◌+◌, ◌<◌, ◌≤◌, ◌^◌, List, [], ◌∷◌, ◌++◌, length, take, drop, get_or, refl, sym, ap, ap₂, subst, ◌∙◌}
use Rattle.std.proofs.Common.{arith, le_refl, append_assoc, length-append, length-take, length-take-le, length-drop, take-append-drop, inl, inr}
use Rattle.std.specs.Prelude.{ℤ, FitsSigned, ◌⊎◌}
use Rattle.std.specs.Int.{w32, cast_signed, cast_unsigned, from_le_bytes}
use Rattle.std.specs.List.{flat_map, AllByRecursion}
use Rattle.std.proofs.lemmas.Bool.{cases_lt}
use Rattle.std.proofs.lemmas.List.{take_at, drop_at, get_or-take, get_or-drop, get_or_past}
use Rattle.std.proofs.lemmas.Nat.{le_bytes_4}
use Rattle.std.proofs.lemmas.Int.{ints, to_z-of_z}
use Rattle.byteorder.specs.Endian.{little_number, little_bytes}
use Rattle.command_frames.specs.Frame.{framed, IsFrame, IsPartial, reply_bytes}
use Rattle.command_frames.specs.Laws.{IsStream, IsReply}

-- ---- a number is read from its encoding

-- a number below 2 ^ 32 is read from its four bytes
pub number_of_bytes : (n : ℕ) (rest : List ℕ) → n < 2 ^ 32 → little_number 4 (little_bytes 4 n ++ rest) ≡ n
number_of_bytes n rest small = omega arith

-- a number below 2 ^ 16 is read from its two bytes
pub half_of_bytes : (n : ℕ) (rest : List ℕ) → n < 2 ^ 16 → little_number 2 (little_bytes 2 n ++ rest) ≡ n
half_of_bytes n rest small = omega arith

-- ---- frames

-- two lists of one length, each followed by another: if the wholes are equal, so are the lists and so are the rests
same_halves : (f g xs ys : List ℕ) → length f ≡ length g → f ++ xs ≡ g ++ ys → (f ≡ g) × (xs ≡ ys)
same_halves f g xs ys len e =
    let f_is : f ≡ g =
    sym (take_at f xs (length f) refl) ∙ ap (take (length f)) e ∙ take_at g ys (length f) (sym len) in
    let rest_is : xs ≡ ys =
    sym (drop_at f xs (length f) refl) ∙ ap (drop (length f)) e ∙ drop_at g ys (length f) (sym len) in
    (f_is, rest_is)

-- a stream has one first frame, and one rest after it
same_front : (f g xs ys : List ℕ) → IsFrame f → IsFrame g → framed f ++ xs ≡ framed g ++ ys → (f ≡ g) × (xs ≡ ys)
same_front f g xs ys small small_too e =
    let len : length f ≡ length g =
    sym (number_of_bytes (length f) (f ++ xs) small)
    ∙ ap (little_number 4) e
    ∙ number_of_bytes (length g) (g ++ ys) small_too in
    same_halves f g xs ys len (ap (drop 4) e)

whole_is_not_partial : (frame rest : List ℕ) → IsFrame frame → ¬ IsPartial (framed frame ++ rest)
whole_is_not_partial frame rest small (inl few) = omega (arith, length-append frame rest)
whole_is_not_partial frame rest small (inr few) =
    omega (arith, length-append frame rest, number_of_bytes (length frame) (frame ++ rest) small)

none_before : (frame : List ℕ) (frames : List (List ℕ)) (rest left : List ℕ)
    → IsFrame frame → IsPartial rest
    → ¬ (rest ≡ flat_map framed (frame ∷ frames) ++ left)
none_before frame frames rest left small partial e =
    whole_is_not_partial frame (flat_map framed frames ++ left) small
    (subst IsPartial (e ∙ append_assoc (framed frame) (flat_map framed frames) left) partial)

readings_agree : (frames others : List (List ℕ)) (rest left : List ℕ)
    → AllByRecursion IsFrame frames → AllByRecursion IsFrame others
    → IsPartial rest → IsPartial left
    → flat_map framed frames ++ rest ≡ flat_map framed others ++ left
    → (frames ≡ others) × (rest ≡ left)
readings_agree [] [] rest left all all_too partial partial_too e = (refl, e)
readings_agree [] (g ∷ gs) rest left all all_too partial partial_too e =
    absurd (none_before g gs rest left all_too.0 partial e)
readings_agree (f ∷ fs) [] rest left all all_too partial partial_too e =
    absurd (none_before f fs left rest all.0 partial_too (sym e))
readings_agree (f ∷ fs) (g ∷ gs) rest left all all_too partial partial_too e =
    let (here, more) = same_front f g (flat_map framed fs ++ rest) (flat_map framed gs ++ left) all.0 all_too.0
    (sym (append_assoc (framed f) (flat_map framed fs) rest) ∙ e ∙ append_assoc (framed g) (flat_map framed gs) left) in
    let (frames_are, rest_is) = readings_agree fs gs rest left all.1 all_too.1 partial partial_too more in
    (ap₂ (λ (x : List ℕ) (xs : List (List ℕ)). x ∷ xs) here frames_are, rest_is)

-- bytes determine the frames and the rest of their stream
pub one_stream_is : (bytes : List ℕ) (frames others : List (List ℕ)) (rest left : List ℕ)
    → IsStream bytes frames rest → IsStream bytes others left
    → (frames ≡ others) × (rest ≡ left)
one_stream_is bytes frames others rest left is is_too =
    readings_agree frames others rest left is.each is_too.each is.partial is_too.partial
    (sym is.spelled ∙ is_too.spelled)

frames_after : (bytes : List ℕ) (first frames : List (List ℕ)) (left rest : List ℕ)
    → AllByRecursion IsFrame first → bytes ≡ flat_map framed first ++ left
    → AllByRecursion IsFrame frames → IsPartial rest
    → bytes ≡ flat_map framed frames ++ rest
    → (more : List (List ℕ)) × (frames ≡ first ++ more) × IsStream left more rest
frames_after bytes [] frames left rest all e each partial is = (
  frames,
  refl,
  record { each = each; partial = partial; spelled = sym e ∙ is },
)
frames_after bytes (f ∷ fs) [] left rest all e each partial is =
    absurd (none_before f fs rest left all.0 partial (sym is ∙ e))
frames_after bytes (f ∷ fs) (g ∷ gs) left rest all e each partial is =
    let (here, next) = same_front f g (flat_map framed fs ++ left) (flat_map framed gs ++ rest) all.0 each.0
    (sym (append_assoc (framed f) (flat_map framed fs) left)
    ∙ sym e
    ∙ is
    ∙ append_assoc (framed g) (flat_map framed gs) rest) in
    let (more, frames_are, stream) =
    frames_after (flat_map framed fs ++ left) fs gs left rest all.1 refl each.1 partial next in
    (more, ap₂ (λ (x : List ℕ) (xs : List (List ℕ)). x ∷ xs) (sym here) frames_are, stream)

-- whole frames at the front of a stream are its first ones, and what follows them is a stream of the others
pub frames_in_front_are : (bytes : List ℕ) (first frames : List (List ℕ)) (left rest : List ℕ)
    → AllByRecursion IsFrame first → bytes ≡ flat_map framed first ++ left
    → IsStream bytes frames rest
    → (more : List (List ℕ)) × (frames ≡ first ++ more) × IsStream left more rest
frames_in_front_are bytes first frames left rest all e is =
    frames_after bytes first frames left rest all e is.each is.partial is.spelled

-- ---- each byte list is a stream

AreBytes : List ℕ → Type 0
AreBytes bytes = (i : ℕ) → get_or bytes i 0 < 256

-- the frames of a stream and the bytes after them
Reads : List ℕ → Type 0
Reads bytes = (frames : List (List ℕ)) × (rest : List ℕ) × IsStream bytes frames rest

number_fits : (bytes : List ℕ) → AreBytes bytes → little_number 4 bytes < 2 ^ 32
unfolding AreBytes
number_fits bytes fits = omega (arith, fits 0, fits 1, fits 2, fits 3)

number_in_front : (bytes : List ℕ) → little_number 4 (take 4 bytes) ≡ little_number 4 bytes
number_in_front bytes =
    let first : get_or (take 4 bytes) 0 0 ≡ get_or bytes 0 0 = get_or-take 4 bytes 0 0 (omega arith) in
    let second : get_or (take 4 bytes) 1 0 ≡ get_or bytes 1 0 = get_or-take 4 bytes 1 0 (omega arith) in
    let third : get_or (take 4 bytes) 2 0 ≡ get_or bytes 2 0 = get_or-take 4 bytes 2 0 (omega arith) in
    let fourth : get_or (take 4 bytes) 3 0 ≡ get_or bytes 3 0 = get_or-take 4 bytes 3 0 (omega arith) in
    omega arith

front_fits : (bytes : List ℕ) → AreBytes bytes → (i : ℕ) → (i < 4) ⊎ (4 ≤ i) → get_or (take 4 bytes) i 0 < 256
unfolding AreBytes
front_fits bytes fits i (inl low) = omega (arith, get_or-take 4 bytes i 0 low, fits i)
front_fits bytes fits i (inr high) = omega (arith, get_or_past (take 4 bytes) i 0 (omega (arith, length-take 4 bytes)))

-- the first four bytes are the encoding of the length at the front
length_spelled : (bytes : List ℕ)
    → AreBytes bytes → 4 ≤ length bytes
    → little_bytes 4 (little_number 4 bytes) ≡ take 4 bytes
length_spelled bytes fits long =
    let same : little_number 4 bytes ≡ from_le_bytes w32 (take 4 bytes) = sym (number_in_front bytes) ∙ omega arith in
    le_bytes_4 (take 4 bytes) (little_number 4 bytes) (length-take-le 4 bytes long)
    (λ i. front_fits bytes fits i (cases_lt i 4)) same

-- the frame at the front of bytes that include a whole frame, and the bytes after it
front_frame : List ℕ → List ℕ
front_frame bytes = take (little_number 4 bytes) (drop 4 bytes)

behind : List ℕ → List ℕ
behind bytes = drop (little_number 4 bytes) (drop 4 bytes)

length-front_frame : (bytes : List ℕ)
    → 4 + little_number 4 bytes ≤ length bytes → length (front_frame bytes) ≡ little_number 4 bytes
unfolding front_frame
length-front_frame bytes whole =
    length-take-le (little_number 4 bytes) (drop 4 bytes) (omega (arith, length-drop 4 bytes))

front_spelled : (bytes : List ℕ)
    → AreBytes bytes → 4 + little_number 4 bytes ≤ length bytes
    → bytes ≡ framed (front_frame bytes) ++ behind bytes
unfolding front_frame behind
front_spelled bytes fits whole =
    let counted : little_bytes 4 (length (front_frame bytes)) ≡ take 4 bytes =
    ap (little_bytes 4) (length-front_frame bytes whole) ∙ length_spelled bytes fits (omega arith) in
    let later : front_frame bytes ++ behind bytes ≡ drop 4 bytes =
    take-append-drop (little_number 4 bytes) (drop 4 bytes) in
    sym (ap (λ (l : List ℕ). (l ++ front_frame bytes) ++ behind bytes) counted
    ∙ append_assoc (take 4 bytes) (front_frame bytes) (behind bytes)
    ∙ ap (λ (l : List ℕ). take 4 bytes ++ l) later
    ∙ take-append-drop 4 bytes)

behind_fits : (bytes : List ℕ) → AreBytes bytes → AreBytes (behind bytes)
unfolding AreBytes behind
behind_fits bytes fits i =
    omega (
      arith,
      get_or-drop (little_number 4 bytes) (drop 4 bytes) i 0,
      get_or-drop 4 bytes (little_number 4 bytes + i) 0,
      fits (4 + (little_number 4 bytes + i)),
    )

-- a whole frame in front of a stream
frame_more : (bytes : List ℕ)
    → AreBytes bytes → 4 + little_number 4 bytes ≤ length bytes
    → Reads (behind bytes)
    → Reads bytes
unfolding Reads
frame_more bytes fits whole (frames, rest, is) = (
  front_frame bytes ∷ frames,
  rest,
  record {
    each = (omega (arith, length-front_frame bytes whole, number_fits bytes fits), is.each);
    partial = is.partial;
    spelled =
        front_spelled bytes fits whole
        ∙ ap (λ (l : List ℕ). framed (front_frame bytes) ++ l) is.spelled
        ∙ sym (append_assoc (framed (front_frame bytes)) (flat_map framed frames) rest);
  },
)

none_whole : (bytes : List ℕ) → IsPartial bytes → Reads bytes
unfolding Reads
none_whole bytes partial = ([], bytes, record { each = tt; partial = partial; spelled = refl })

behind_is_shorter : (most : ℕ) (bytes : List ℕ)
    → length bytes ≤ suc most → 4 + little_number 4 bytes ≤ length bytes
    → length (behind bytes) ≤ most
unfolding behind
behind_is_shorter most bytes within whole =
    omega (arith, length-drop (little_number 4 bytes) (drop 4 bytes), length-drop 4 bytes)

-- there are at most as many frames as bytes
reads_by : (most : ℕ) (bytes : List ℕ) → length bytes ≤ most → AreBytes bytes → (length bytes < 4) ⊎ (4 ≤ length bytes)
    → (length bytes < 4 + little_number 4 bytes) ⊎ (4 + little_number 4 bytes ≤ length bytes) → Reads bytes
reads_by most bytes within fits (inl few) other = none_whole bytes (inl few)
reads_by most bytes within fits (inr four) (inl few) = none_whole bytes (inr few)
reads_by zero bytes within fits (inr four) (inr whole) = absurd (omega arith)
reads_by (suc most) bytes within fits (inr four) (inr whole) =
    frame_more bytes fits whole (reads_by most (behind bytes) (behind_is_shorter most bytes within whole)
    (behind_fits bytes fits) (cases_lt (length (behind bytes)) 4)
    (cases_lt (length (behind bytes)) (4 + little_number 4 (behind bytes))))

-- all bytes are a stream of frames and a rest
pub each_is_stream_is : (bytes : List ℕ)
    → ((i : ℕ) → get_or bytes i 0 < 256)
    → (frames : List (List ℕ)) × (rest : List ℕ) × IsStream bytes frames rest
unfolding Reads AreBytes
each_is_stream_is bytes fits =
    reads_by (length bytes) bytes (le_refl (length bytes)) fits (cases_lt (length bytes) 4)
    (cases_lt (length bytes) (4 + little_number 4 bytes))

-- ---- replies

-- the bytes after the length of a reply, from its command on, and from its status on
from_status : ℤ → List ℕ → List ℕ
from_status status payload = little_bytes 4 (cast_unsigned w32 status) ++ payload

from_command : ℕ → ℤ → List ℕ → List ℕ
from_command command status payload = little_bytes 2 command ++ from_status status payload

seen : ℕ → ℕ → ℤ → List ℕ → List ℕ
seen tenant command status payload = little_bytes 2 tenant ++ from_command command status payload

status_in_range : (z : ℤ) → FitsSigned w32 z → cast_unsigned w32 z < 2 ^ 32
status_in_range z fits = omega (arith, ints)

same_status : (s z : ℤ) → FitsSigned w32 s → FitsSigned w32 z → cast_unsigned w32 s ≡ cast_unsigned w32 z → s ≡ z
same_status s z fits fits_too e = sym (to_z-of_z w32 s fits) ∙ ap (cast_signed w32) e ∙ to_z-of_z w32 z fits_too

same_seen : (t u c d : ℕ) (s z : ℤ) (p q : List ℕ)
    → IsReply t c s p → IsReply u d z q
    → seen t c s p ≡ seen u d z q
    → (t ≡ u) × (c ≡ d) × (s ≡ z) × (p ≡ q)
unfolding seen from_command from_status
same_seen t u c d s z p q is is_too e =
    let tenant : t ≡ u =
    sym (half_of_bytes t (from_command c s p) is.tenant_fits)
    ∙ ap (little_number 2) e
    ∙ half_of_bytes u (from_command d z q) is_too.tenant_fits in
    let command : c ≡ d =
    sym (half_of_bytes c (from_status s p) is.command_fits)
    ∙ ap (λ (l : List ℕ). little_number 2 (drop 2 l)) e
    ∙ half_of_bytes d (from_status z q) is_too.command_fits in
    let bits : cast_unsigned w32 s ≡ cast_unsigned w32 z =
    sym (number_of_bytes (cast_unsigned w32 s) p (status_in_range s is.status_fits))
    ∙ ap (λ (l : List ℕ). little_number 4 (drop 4 l)) e
    ∙ number_of_bytes (cast_unsigned w32 z) q (status_in_range z is_too.status_fits) in
    (tenant, command, same_status s z is.status_fits is_too.status_fits bits, ap (drop 8) e)

framed_seen : (t c : ℕ) (s : ℤ) (p : List ℕ) → reply_bytes t c s p ≡ framed (seen t c s p)
unfolding seen from_command from_status
framed_seen t c s p =
    let same : 8 + length p ≡ length (seen t c s p) = omega arith in
    ap (λ n. little_bytes 4 n ++ seen t c s p) same

-- bytes determine the reply with which they begin, and the bytes after it
pub one_reply_in_front_is : (t u c d : ℕ) (s z : ℤ) (p q rest left : List ℕ)
    → IsReply t c s p → IsReply u d z q
    → reply_bytes t c s p ++ rest ≡ reply_bytes u d z q ++ left
    → (t ≡ u) × (c ≡ d) × (s ≡ z) × (p ≡ q) × (rest ≡ left)
unfolding seen from_command from_status
one_reply_in_front_is t u c d s z p q rest left is is_too e =
    let small : IsFrame (seen t c s p) = omega (arith, is.short) in
    let small_too : IsFrame (seen u d z q) = omega (arith, is_too.short) in
    let framed_e : framed (seen t c s p) ++ rest ≡ framed (seen u d z q) ++ left =
    ap (λ l. l ++ rest) (sym (framed_seen t c s p)) ∙ e ∙ ap (λ l. l ++ left) (framed_seen u d z q) in
    let (same, after) = same_front (seen t c s p) (seen u d z q) rest left small small_too framed_e in
    let (tenant, command, status, payload) = same_seen t u c d s z p q is is_too same in
    (tenant, command, status, payload, after)
