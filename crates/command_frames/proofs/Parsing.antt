-- The parts of a frame, from their positions.
use Rattle.std.proofs.Common.{◌≡◌, ℕ, ◌≤◌, false, true, List, length, drop, Ok, Result, ap, ◌∙◌}
use Rattle.std.specs.Prelude.{nat_lt, nat_le}
use Rattle.std.proofs.lemmas.Bool.{le-ltb, le-leb}
use Rattle.byteorder.specs.Endian.{little_number}
use Rattle.command_frames.specs.Command.{Command, prog_test_run, command_in, parsed, longest_frame, word_at, words_in}
use Rattle.command_frames.specs.declared.command.BadFrame.{BadFrame}

abbrev the_run : ℕ → List ℕ → List ℕ → Result Command BadFrame
the_run fd found left = Ok (prog_test_run fd found left)

-- a test run's body of at least 44 bytes is read as its descriptor, its ten context words and its packet, the rest
pub run_read : (body rest left found : List ℕ) (fd : ℕ)
    → 44 ≤ length body → fd ≡ word_at 0 body
    → found ≡ words_in 10 rest → rest ≡ drop 4 body
    → left ≡ drop 44 body
    → the_run fd found left ≡ command_in 10 body
run_read body rest left found fd enough number read first second =
    let whole : nat_le 44 (length body) ≡ true = le-leb 44 (length body) enough in
    let same =
    ap (λ n. prog_test_run n found left) number
    ∙ ap (λ ws. prog_test_run (word_at 0 body) ws left) (read ∙ ap (words_in 10) first)
    ∙ ap (prog_test_run (word_at 0 body) (words_in 10 (drop 4 body))) second in
    rw whole (ap Ok same)

-- a frame that is not too long is parsed as the command of the number in its head, with the body after the head
pub parsed_as : (frame body : List ℕ) (number : ℕ)
    → length frame ≤ longest_frame → number ≡ little_number 2 (drop 2 frame)
    → body ≡ drop 4 frame
    → command_in number body ≡ parsed frame
parsed_as frame body number short named rest =
    let fits : nat_lt longest_frame (length frame) ≡ false = le-ltb longest_frame (length frame) short in
    rw fits (ap (λ n. command_in n body) named ∙ ap (command_in (little_number 2 (drop 2 frame))) rest)
