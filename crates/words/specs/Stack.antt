-- The stack of a program, and which of its bytes an access touches. Offsets count from the stack's
-- upper end, so its bytes have offsets -512 to -1; byte indices count from its lowest byte. The
-- stack's size is that of linux/filter.h (MAX_BPF_STACK), those of loads and stores are of RFC
-- 9669, section 5.
use Rattle.std.specs.Prelude.{ℕ, ◌+◌, ◌-◌, ◌*◌, ◌/◌, ◌%◌, ◌==◌, ℤ, pos, negsuc, ◌+ℤ◌, int_le, unsigned_abs, nat_lt, Bool, true, false, ◌&&◌}
use Rattle.std.specs.List.{list_any, range_with_len}
use Rattle.words.specs.declared.stack.AccessSize.{AccessSize}
use Rattle.words.specs.declared.stack.AccessSize.TheVariants.{Byte, Half, Word, Double}

-- the size of the stack in bytes
abbrev pub stack_size : ℕ
stack_size = 512

-- the number of slots of the stack, of eight bytes each
abbrev pub stack_slots : ℕ
stack_slots = stack_size / 8

-- a test holds of at least one of the numbers of the stack's slots, 0 to 63
unfoldable pub any_slot : (ℕ → Bool) → Bool
any_slot test = list_any test (range_with_len 0 stack_slots)

-- ---- sizes of loads and stores

-- the number of bytes of an access of this size
abbrev pub bytes_of : AccessSize → ℕ
bytes_of Byte = 1
bytes_of Half = 2
bytes_of Word = 4
bytes_of Double = 8

-- whether a size is that of a double word: eight bytes, the size of a stack slot
abbrev pub is_double : AccessSize → Bool
is_double Double = true
is_double _ = false

-- ---- byte indices

-- whether the n bytes from this offset on lie in the stack: the offset is -512 or above (`negsuc m`
-- is -m - 1), and they end at 0 or below
abbrev pub is_in_stack : ℤ → ℕ → Bool
is_in_stack offset n = int_le (negsuc (stack_size - 1)) offset && int_le (offset +ℤ pos n) (pos 0)

-- the byte index of an offset in the stack: the offset plus 512, so 0 for the lowest byte (-512)
abbrev pub byte_index : ℤ → ℕ
byte_index offset = unsigned_abs (offset +ℤ pos stack_size)

-- whether an offset in the stack is a multiple of n, an access size. Its byte index is tested,
-- which is no negative number: the two differ by 512, a multiple of each access size
abbrev pub is_aligned : ℤ → ℕ → Bool
is_aligned offset n = byte_index offset % n == 0

-- whether one of the n bytes from byte index p on is in slot i of the stack. With n = 0 it holds of
-- the slot of byte p, unless p is the slot's first byte
abbrev pub touches : ℕ → ℕ → ℕ → Bool
touches p n i = nat_lt p (8 * i + 8) && nat_lt (8 * i) (p + n)
