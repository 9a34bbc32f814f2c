-- The bytes of a command, from which it is parsed. The numbers of commands are those of linux/bpf.h
-- (bpf_cmd); 256, which closes a descriptor, and the layout of a body are this project's own.
use Rattle.std.specs.Prelude.{◌≡◌, ◌<◌, ◌^◌, ℕ, List, ◌++◌, length}
use Rattle.std.specs.List.{AllByRecursion, flat_map}
use Rattle.byteorder.specs.Endian.{little_bytes}
use Rattle.command_frames.specs.Command.{Command, map_create, map_lookup, map_update, map_delete, map_next_key, prog_load, prog_test_run, close}
use Rattle.words.specs.Context.{given_words}

-- the number of a command, which the head of its frame has in two bytes, after the tenant; the
-- fields of the command make no difference. It is the number in linux/bpf.h (bpf_cmd) for each
-- command but `close`. To close a descriptor is no command of bpf(2), so 256 is this project's own
abbrev pub command_code : Command → ℕ
command_code (map_create kind key value max flags) = 0
command_code (map_lookup fd key) = 1
command_code (map_update fd flags bytes) = 2
command_code (map_delete fd key) = 3
command_code (map_next_key fd key) = 4
command_code (prog_load kind slots) = 5
command_code (prog_test_run fd words packet) = 10
command_code (close fd) = 256

-- the bytes of a command's frame after the head, which has the tenant and the command's number.
-- Each number has four bytes, little-endian, except the flags of an update, which have eight. `fd`
-- is a descriptor, `kind` the type of a map or of a program. For a new map, `key` and `value` are
-- the sizes of a key and of a value in bytes, and `max` is the maximum number of entries. For a
-- look-up, a delete and a next key, `key` is the bytes of a key; for an update, `bytes` are those
-- of the key and then those of the value. `slots` are the bytes of a program. For a test run,
-- `words` are the context words without the first, which is the packet's length, and `packet` is
-- the packet's bytes
abbrev pub body_of : Command → List ℕ
body_of (map_create kind key value max flags) =
    little_bytes 4 kind
    ++
    (little_bytes 4 key ++ (little_bytes 4 value ++ (little_bytes 4 max ++ little_bytes 4 flags)))
body_of (map_lookup fd key) = little_bytes 4 fd ++ key
body_of (map_update fd flags bytes) = little_bytes 4 fd ++ (little_bytes 8 flags ++ bytes)
body_of (map_delete fd key) = little_bytes 4 fd ++ key
body_of (map_next_key fd key) = little_bytes 4 fd ++ key
body_of (prog_load kind slots) = little_bytes 4 kind ++ slots
body_of (prog_test_run fd words packet) =
    little_bytes 4 fd ++ (flat_map (little_bytes 4) words ++ packet)
body_of (close fd) = little_bytes 4 fd

-- the frame of a command to a tenant, without its length before it
abbrev pub frame_of : ℕ → Command → List ℕ
frame_of tenant c = little_bytes 2 tenant ++ (little_bytes 2 (command_code c) ++ body_of c)

-- each number of a command fits into its field in the command's frame: the flags of an update into
-- eight bytes, and any other number, such as a descriptor `fd` or each context word of a test run
-- (`words`), into four. A test run has `given_words` such words, since its frame has exactly that
-- many: the words of a context without its first, the packet's length. Nothing is required of keys,
-- values, slots and packets, which are lists of bytes. The law that a command is parsed again from
-- its frame (`parsed_again`) requires this
abbrev pub FitsFields : Command → Type 0
FitsFields (map_create kind key value max flags) =
    (kind < 2 ^ 32) × (key < 2 ^ 32) × (value < 2 ^ 32) × (max < 2 ^ 32) × (flags < 2 ^ 32)
FitsFields (map_lookup fd key) = fd < 2 ^ 32
FitsFields (map_update fd flags bytes) = (fd < 2 ^ 32) × (flags < 2 ^ 64)
FitsFields (map_delete fd key) = fd < 2 ^ 32
FitsFields (map_next_key fd key) = fd < 2 ^ 32
FitsFields (prog_load kind slots) = kind < 2 ^ 32
FitsFields (prog_test_run fd words packet) =
    (fd < 2 ^ 32) × (length words ≡ given_words) × AllByRecursion (λ word. word < 2 ^ 32) words
FitsFields (close fd) = fd < 2 ^ 32
