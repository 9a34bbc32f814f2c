-- The next key, as a map returns it. This project's own.
use Rattle.std.specs.Prelude.{ℕ, List}
use Rattle.bpf_maps.specs.declared.key_ref.KeyRef.{KeyRef}
use Rattle.bpf_maps.specs.declared.key_ref.KeyRef.TheVariants.{Short, Lent}

-- the bytes of a key that a map returns. A key of at most `LONGEST_WORD` bytes is returned by value
-- (Short), and contracts see it as its bytes. A longer one is returned as a reference to its bytes
-- in the map (Lent), which are `bytes.now`
abbrev pub key_bytes : KeyRef → List ℕ
key_bytes (Short bytes) = bytes
key_bytes (Lent bytes) = bytes.now

-- the bytes of a returned key, and its element
abbrev pub shown_entry : KeyRef × ℕ → List ℕ × ℕ
shown_entry e = (key_bytes e.0, e.1)
