-- The memory of all tenants, with loads, stores and copies. Loads and stores are those of RFC 9669,
-- section 5.1, on a little-endian machine; addresses from 2 ^ 32 on and a part for each tenant are
-- this project's own.
use Rattle.std.specs.Prelude.{ℕ, ◌+◌, ◌-◌, ◌*◌, ◌&&◌, List, length, Option, Some, None, nat_le, if◌then◌else◌, refl, take, drop, ◌++◌}
use Rattle.std.specs.Coded.{Coded, code_by, coded×, coded_ℕ, coded_list}
use Rattle.words.specs.Bytes.{number_of, low_bytes}
use Rattle.arena.specs.Bytes.{bytes_at, written_at}

-- all bytes, the number of parts, and the number of bytes of each part
pub record Memory : Type 0 where
  pub bytes : List ℕ
  pub parts : ℕ
  pub part : ℕ

-- how the logic of contracts encodes a memory: as the tuple of its fields
abbrev pub memory_code : Coded Memory
memory_code =
    code_by (List ℕ × (ℕ × ℕ)) (coded× (coded_list coded_ℕ) (coded× coded_ℕ coded_ℕ))
    (λ m. (m.bytes, (m.parts, m.part))) (λ p. record { bytes = p.0; parts = p.1.0; part = p.1.1 })
    (λ _. refl)

-- the number of bytes of the memory
abbrev pub size_of : Memory → ℕ
size_of m = length m.bytes

-- the first address of the memory, 2 ^ 32
abbrev pub base : ℕ
base = 4294967296

-- the offset from base of n bytes at an address; None if they are not in a memory of `size` bytes
abbrev pub offset_of : ℕ → ℕ → ℕ → Option ℕ
offset_of size n address =
    if nat_le base address && nat_le (address + n) (base + size)
    then Some (address - base)
    else None

-- ---- loads, stores and copies; without an offset, nothing is loaded or changed

-- the number that the n bytes at an offset make, little-endian; None if no offset is given
abbrev pub loaded : Memory → ℕ → Option ℕ → Option ℕ
loaded m n None = None
loaded m n (Some offset) = Some (number_of (bytes_at m.bytes offset n))

-- the memory with `new` written at an offset
abbrev pub with_bytes : Memory → ℕ → List ℕ → Memory
with_bytes m offset new = record {
  bytes = written_at m.bytes offset new;
  parts = m.parts;
  part = m.part;
}

-- the memory with the low n bytes of a value stored at an offset; unchanged if none is given
abbrev pub stored : Memory → ℕ → ℕ → Option ℕ → Memory
stored m n value None = m
stored m n value (Some offset) = with_bytes m offset (low_bytes n value)

-- the memory with n bytes copied from one offset to another; unchanged if one of them is not given
abbrev pub copied : Memory → ℕ → Option ℕ → Option ℕ → Memory
copied m n None to = m
copied m n (Some from) None = m
copied m n (Some from) (Some to) = with_bytes m to (bytes_at m.bytes from n)

-- ---- parts

-- the offset of part t in the memory
abbrev pub part_start : Memory → ℕ → ℕ
part_start m t = t * m.part

-- the bytes of part t
abbrev pub part_bytes : Memory → ℕ → List ℕ
part_bytes m t = bytes_at m.bytes (part_start m t) m.part

-- bytes overwritten by others from the first on; their number is unchanged, also if the others are
-- more or fewer
abbrev pub refilled : List ℕ → List ℕ → List ℕ
refilled bytes others = take (length bytes) (others ++ drop (length others) bytes)

-- the memory with `new` written over part t; its size is unchanged, however long `new` is
abbrev pub with_part : Memory → ℕ → List ℕ → Memory
with_part m t new = record {
  bytes = refilled m.bytes (written_at m.bytes (part_start m t) new);
  parts = m.parts;
  part = m.part;
}
