-- Cells, eight bytes of the stack each, and their loads and stores. Loads and stores are those of
-- RFC 9669, sections 5.1 and 5.2; that a pointer is kept whole is this project's own.
use Rattle.std.specs.Prelude.{ℕ, zero, suc, ◌+◌, ◌-◌, ◌*◌, Bool, true, false, ◌&&◌, nat_lt, nat_le}
use Rattle.std.specs.Prelude.{if◌then◌else◌, List, [], ◌∷◌, length, slice_get, Option, Some, None, option_map}
use Rattle.words.specs.declared.stack.AccessSize.{AccessSize}
use Rattle.words.specs.declared.stack.AccessSize.TheVariants.{Double}
use Rattle.words.specs.Words.{sign_extend}
use Rattle.words.specs.Bytes.{number_of, low_bytes}
use Rattle.words.specs.Stack.{bytes_of, touches}
use Rattle.tagged_model.specs.declared.value.Tagged.{Tagged}
use Rattle.tagged_model.specs.declared.value.Tagged.TheVariants.{Scalar}

-- a cell: a pointer or a map kept whole, or eight bytes by their index, each of which may be absent
pub data Cell : Type 0 where
  holds : Tagged → Cell
  bytes : (ℕ → Option ℕ) → Cell

-- the result of f on the option's value, if it has one; None if it has none, or if f gives None:
-- `Option::and_then` of Rust
abbrev pub and_then : {A B : Type 0} → Option A → (A → Option B) → Option B
and_then None f = None
and_then (Some x) f = f x

-- byte j, from 0 to 7, of a cell, which is what eight bytes of the stack hold in a run. None if the
-- byte is absent: it was not written in this run, or was lost when part of a pointer or a map kept
-- whole was overwritten. Also None if the cell keeps a pointer or a map whole (`holds`), since no
-- single byte of it can be read
abbrev pub byte_at : Cell → ℕ → Option ℕ
byte_at (holds v) j = None
byte_at (bytes b) j = b j

-- the n bytes from index p on, each given by `byte`; None if one of them is absent
unfoldable pub gathered : (ℕ → Option ℕ) → ℕ → ℕ → Option (List ℕ)
gathered byte p zero = Some []
gathered byte p (suc n) =
    and_then (byte p) (λ b. and_then (gathered byte (suc p) n) (λ bs. Some (b ∷ bs)))

-- a loaded number as a word: sign-extended (true), or zero-extended
abbrev pub widened : AccessSize → Bool → ℕ → ℕ
widened size true n = sign_extend 64 (8 * bytes_of size) n
widened size false n = n

-- the number of these bytes, little-endian, as a word: sign-extended (true), or zero-extended; None
-- without bytes
abbrev pub number_from : AccessSize → Bool → Option (List ℕ) → Option Tagged
number_from size signed o = option_map (λ bs. Scalar (widened size signed (number_of bs))) o

-- the value that a load of `size` gets from a cell, the eight bytes of a stack slot, from its byte
-- j on; None if the load is a fault. A cell may keep a pointer or a map v whole (`holds v`). Then a
-- load of a double word gets v, and its j is 0, since loads are aligned; a smaller load is a fault.
-- From a cell of bytes (`bytes`) the load gets the little-endian number of its bytes, sign-extended
-- to 64 bits if `signed` is true, else zero-extended. It is a fault if one of these bytes is
-- absent: not written in this run, or lost with a pointer or a map, of which another part was
-- overwritten
abbrev pub read_cell : Cell → ℕ → AccessSize → Bool → Option Tagged
read_cell (holds v) j Double signed = Some v
read_cell (holds v) j _ signed = None
read_cell (bytes b) j size signed = number_from size signed (gathered b j (bytes_of size))

-- the cell with these bytes written over it from its byte j on; a value kept whole is lost, and its
-- other bytes are absent
abbrev pub written_over : Cell → ℕ → List ℕ → Cell
written_over c j bs =
    bytes
    (λ k. if nat_le j k && nat_lt k (j + length bs) then slice_get bs (k - j) else byte_at c k)

-- the cell after a store of v at its byte j; None if v is a pointer or a map and fewer than eight
-- bytes are stored. An aligned double word is the whole cell
abbrev pub write_cell : Cell → ℕ → AccessSize → Tagged → Option Cell
write_cell c j size (Scalar n) = Some (written_over c j (low_bytes (bytes_of size) n))
write_cell c j Double v = Some (holds v)
write_cell c j _ v = None

-- cell c of stack slot i, after these bytes are written from byte index p of the stack on. If they
-- touch a value kept whole, it is lost, and the other bytes of the cell are absent; else the other
-- bytes of the cell do not change
abbrev pub cell_over : ℕ → Cell → ℕ → List ℕ → Cell
cell_over i c p bs =
    if touches p (length bs) i
    then bytes
    (λ j.
    if nat_le p (8 * i + j) && nat_lt (8 * i + j) (p + length bs)
    then slice_get bs (8 * i + j - p)
    else byte_at c j)
    else c
