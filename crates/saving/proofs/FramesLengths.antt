-- The number of bytes that a command has after its numbers; it is at most the length of its frame.
use Rattle.std.proofs.Common.{Result, Ok, Err, ◌≡◌, ℕ, ◌≤◌, Bool, true, false, List, length, drop, refl, subst, arith}
use Rattle.std.specs.Prelude.{◌==◌, nat_lt, nat_le, if◌then◌else◌}
use Rattle.std.proofs.lemmas.Bool.{ltb-false}
use Rattle.std.proofs.lemmas.List.{length-drop}
use Rattle.byteorder.specs.Endian.{little_number}
use Rattle.command_frames.specs.declared.command.BadFrame.{BadFrame}
use Rattle.command_frames.specs.declared.command.BadFrame.TheVariants.{TooLong, Body}
use Rattle.command_frames.specs.Command.{Command, map_create, map_lookup, map_update, map_delete, map_next_key, prog_load, prog_test_run}
use Rattle.command_frames.specs.Command.{close, tail_length, exactly, at_least, command_in, parsed, longest_frame, word_at, long_at, words_in}

abbrev IsWithin : ℕ → Result Command BadFrame → Type 0
IsWithin n (Ok command) = tail_length command ≤ n
IsWithin n (Err fault) = Unit {0}

if_within : (n : ℕ) (b : Bool) (x y : Result Command BadFrame)
    → IsWithin n x → IsWithin n y → IsWithin n (if b then x else y)
if_within n true x y h k = h
if_within n false x y h k = k

exactly_within : (n : ℕ) (body : List ℕ) (command : Command)
    → tail_length command ≤ length body → IsWithin (length body) (exactly n body command)
exactly_within n body command h = if_within (length body) (length body == n) (Ok command) (Err Body) h tt

at_least_within : (n : ℕ) (body : List ℕ) (command : Command)
    → tail_length command ≤ length body → IsWithin (length body) (at_least n body command)
at_least_within n body command h = if_within (length body) (nat_le n (length body)) (Ok command) (Err Body) h tt

behind : (n : ℕ) (body : List ℕ) → length (drop n body) ≤ length body
behind n body = omega (arith, length-drop n body)

body_within : (n : ℕ) (body : List ℕ) → IsWithin (length body) (command_in n body)
body_within n body =
    if_within (length body) (n == 0) _ _
    (exactly_within 20 body
    (map_create (word_at 0 body) (word_at 4 body) (word_at 8 body) (word_at 12 body)
    (word_at 16 body))
    (omega arith))
    (if_within (length body) (n == 1) _ _
    (at_least_within 4 body (map_lookup (word_at 0 body) (drop 4 body)) (behind 4 body))
    (if_within (length body) (n == 2) _ _
    (at_least_within 12 body (map_update (word_at 0 body) (long_at 4 body) (drop 12 body)) (behind 12 body))
    (if_within (length body) (n == 3) _ _
    (at_least_within 4 body (map_delete (word_at 0 body) (drop 4 body)) (behind 4 body))
    (if_within (length body) (n == 4) _ _
    (at_least_within 4 body (map_next_key (word_at 0 body) (drop 4 body)) (behind 4 body))
    (if_within (length body) (n == 5) _ _
    (at_least_within 4 body (prog_load (word_at 0 body) (drop 4 body)) (behind 4 body))
    (if_within (length body) (n == 10) _ _
    (at_least_within 44 body
    (prog_test_run (word_at 0 body) (words_in 10 (drop 4 body)) (drop 44 body))
    (behind 44 body))
    (if_within (length body) (n == 256) _ _ (exactly_within 4 body (close (word_at 0 body)) (omega arith)) tt)))))))

no_command : (fault : BadFrame) (command : Command) → let a : Result Command BadFrame = Err fault in a ≡ Ok command → ⊥
no_command fault command e = cc

-- the key, the value, the slots or the packet of a parsed command are no longer than the longest frame
pub parsed_within : (frame : List ℕ) (command : Command)
    → parsed frame ≡ Ok command → tail_length command ≤ longest_frame
parsed_within frame command e = by_length (nat_lt longest_frame (length frame)) refl e
  where
    n : ℕ
    n = little_number 2 (drop 2 frame)

    by_length : (over : Bool)
        → nat_lt longest_frame (length frame) ≡ over
        → (if over then Err TooLong else command_in n (drop 4 frame)) ≡ Ok command
        → tail_length command ≤ longest_frame
    by_length true is e = absurd (no_command TooLong command e)
    by_length false is e =
        let here : tail_length command ≤ length (drop 4 frame) =
        subst (IsWithin (length (drop 4 frame))) e (body_within n (drop 4 frame)) in
        let less = behind 4 frame in
        let short : length frame ≤ longest_frame = ltb-false longest_frame (length frame) is in
        omega (arith, here, less, short)
