-- The commands that frames carry. Their numbers are those of linux/bpf.h (bpf_cmd), their fields
-- those of bpf(2); the layout of a body, and the number 256, which closes a descriptor, are this
-- project's own.
use Rattle.std.specs.Prelude.{ℕ, zero, suc, ◌+◌, ◌*◌, ◌==◌, nat_le, nat_lt, List, [], ◌∷◌, length, drop, Result, Ok, Err, if◌then◌else◌}
use Rattle.byteorder.specs.Endian.{little_number}
use Rattle.command_frames.specs.declared.command.BadFrame.{BadFrame}
use Rattle.command_frames.specs.declared.command.BadFrame.TheVariants.{TooLong, Unknown, Body}
use Rattle.command_frames.specs.Frame.{head_length}
use Rattle.words.specs.Context.{given_words}

-- a command with its fields: fd is a descriptor, kind the type of a map or of a program, and sizes
-- are in bytes; words are those of a context, without the packet's length, which is the first. Key,
-- value, slots and packet are lists of bytes
pub data Command : Type 0 where
  map_create : (kind key_size value_size max_entries flags : ℕ) → Command
  map_lookup : (fd : ℕ) (key : List ℕ) → Command
  map_update : (fd flags : ℕ) (key_and_value : List ℕ) → Command
  map_delete : (fd : ℕ) (key : List ℕ) → Command
  map_next_key : (fd : ℕ) (key : List ℕ) → Command
  prog_load : (kind : ℕ) (slots : List ℕ) → Command
  prog_test_run : (fd : ℕ) (words packet : List ℕ) → Command
  close : (fd : ℕ) → Command

-- ---- lengths in bytes

-- the length of a word: of a descriptor, a type or a size
abbrev pub word_length : ℕ
word_length = 4

-- the length of the body of MAP_CREATE: five words
abbrev pub create_body : ℕ
create_body = 20

-- the length of what is before the key and the value of MAP_UPDATE: a descriptor and eight bytes
-- of flags
abbrev pub before_key_and_value : ℕ
before_key_and_value = 12

-- the length of the context words in a test run's body: all but the first, the packet's length
abbrev pub context_length : ℕ
context_length = given_words * word_length

-- the length of what is before the packet of a test run: a descriptor and the context
abbrev pub before_packet : ℕ
before_packet = word_length + context_length

-- the length in bytes of a command's last field, if its length depends on the frame: of the key, of
-- the key and the value together (`bytes` of MAP_UPDATE), of the slots, or of the packet. It is 0
-- for MAP_CREATE and `close`, which have only numbers. A parsed command is in a frame of at most
-- `longest_frame` bytes, so this length is at most that too, as `reply_to_command` of `saving`
-- requires
abbrev pub tail_length : Command → ℕ
tail_length (map_create kind key value max flags) = 0
tail_length (map_lookup fd key) = length key
tail_length (map_update fd flags bytes) = length bytes
tail_length (map_delete fd key) = length key
tail_length (map_next_key fd key) = length key
tail_length (prog_load kind slots) = length slots
tail_length (prog_test_run fd words packet) = length packet
tail_length (close fd) = 0

-- the length of the longest frame that is read
abbrev pub longest_frame : ℕ
longest_frame = 131072

-- ---- the body

-- the little-endian number in the four bytes at an offset of the body; a body that does not have
-- them makes no command (`exactly`, `at_least`)
abbrev pub word_at : ℕ → List ℕ → ℕ
word_at at body = little_number 4 (drop at body)

-- the little-endian number in the eight bytes at an offset of the body; a body that does not have
-- them makes no command (`at_least`)
abbrev pub long_at : ℕ → List ℕ → ℕ
long_at at body = little_number 8 (drop at body)

-- the n words at the front of these bytes, in their order, each the little-endian number of four
-- bytes. The frame of a test run gives n = `given_words` of them: those of the context without the
-- first, the packet's length. The list always has n words, and a byte past the end counts as 0; but
-- a body that does not have the bytes of all of them makes no command (`at_least`)
unfoldable pub words_in : ℕ → List ℕ → List ℕ
words_in zero bytes = []
words_in (suc n) bytes = little_number 4 bytes ∷ words_in n (drop 4 bytes)

-- the command if its body has exactly n bytes; Body if not
abbrev pub exactly : ℕ → List ℕ → Command → Result Command BadFrame
exactly n body command = if length body == n then Ok command else Err Body

-- the command if its body has n bytes or more; Body if not
abbrev pub at_least : ℕ → List ℕ → Command → Result Command BadFrame
at_least n body command = if nat_le n (length body) then Ok command else Err Body

-- the command with the number n (those of bpf(2), and 256 for CLOSE), given its body, the bytes of
-- the frame after the head. Unknown if no command has this number; else Body if the command does
-- not have a body of this length
abbrev pub command_in : ℕ → List ℕ → Result Command BadFrame
command_in n body =
    if n == 0 then exactly create_body body
    (map_create (word_at 0 body) (word_at 4 body) (word_at 8 body)
    (word_at 12 body) (word_at 16 body)) else
    (if n == 1 then
    at_least word_length body (map_lookup (word_at 0 body) (drop word_length body)) else
    (if n == 2 then
    at_least before_key_and_value body
    (map_update (word_at 0 body) (long_at word_length body)
    (drop before_key_and_value body)) else
    (if n == 3 then
    at_least word_length body (map_delete (word_at 0 body) (drop word_length body)) else
    (if n == 4 then
    at_least word_length body (map_next_key (word_at 0 body) (drop word_length body)) else
    (if n == 5 then
    at_least word_length body (prog_load (word_at 0 body) (drop word_length body)) else
    (if n == 10 then
    at_least before_packet body
    (prog_test_run (word_at 0 body) (words_in given_words (drop word_length body))
    (drop before_packet body)) else
    (if n == 256 then exactly word_length body (close (word_at 0 body)) else Err Unknown)))))))

-- ---- the frame

-- the command of a frame that has a head, or why the frame carries none
abbrev pub parsed : List ℕ → Result Command BadFrame
parsed frame =
    if nat_lt longest_frame (length frame)
    then Err TooLong
    else command_in (little_number 2 (drop 2 frame)) (drop head_length frame)
