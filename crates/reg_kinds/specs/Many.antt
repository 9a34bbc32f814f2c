-- Byte ranges of the stack that may span many slots: what a helper reads and writes. Starts count
-- from the stack's lower end; a mask has bit k for byte k of a slot. The rules are this project's
-- own.
use Rattle.std.specs.Prelude.{ℕ, ◌+◌, ◌-◌, ◌*◌, ◌^◌, ◌==◌, ℤ, min, bit_and, nat_le, Bool, false, not, if◌then◌else◌, Result, Ok, Err}
use Rattle.words.specs.Stack.{any_slot, is_in_stack, byte_index, touches}
use Rattle.reg_kinds.specs.declared.kind.Kind.{Kind}
use Rattle.reg_kinds.specs.declared.kind.Kind.TheVariants.{Unreadable}
use Rattle.reg_kinds.specs.declared.kind.Slot.{Slot}
use Rattle.reg_kinds.specs.declared.kind.Slot.TheVariants.{Bytes, Spill}
use Rattle.reg_kinds.specs.declared.facts.Facts.{Facts}
use Rattle.reg_kinds.specs.declared.reason.Reason.{Reason}
use Rattle.reg_kinds.specs.declared.reason.Reason.TheVariants.{OutsideStack, UnwrittenStack, PartOfSpill}
use Rattle.reg_kinds.specs.Kinds.{kind_at, slot_at, with_registers, with_slots}
use Rattle.reg_kinds.specs.Stack.{bytes_over}

-- the mask of the bytes of stack slot i that are among the n bytes from byte index p on; 0 if none
-- is. A difference of natural numbers is 0 if the second is greater
abbrev pub bits_in : ℕ → ℕ → ℕ → ℕ
bits_in p n i = (2 ^ (min 8 (p + n - 8 * i) - (p - 8 * i)) - 1) * 2 ^ (p - 8 * i)

-- whether a stack slot is a spill, and an access touches one of its eight bytes (`touched`). False
-- for a slot of bytes (`Bytes`), whatever its mask. If it is true of a slot, a helper may not read
-- there (`stack_input`): a spill keeps a pointer or a map (of kind k) whole, and no single byte of
-- that can be read
abbrev pub is_touched_spill : Slot → Bool → Bool
is_touched_spill (Bytes mask) touched = false
is_touched_spill (Spill k) touched = touched

-- whether at least one of the bytes that a helper reads of a stack slot may be unwritten. `bits` is
-- the mask of the bytes that it reads, and `mask` that of the bytes that are known to be written
-- (`Bytes`); bit i is for byte i of the slot, from the lowest. False for a spill, a pointer or a
-- map of kind k: all its bytes are written, and before this test `stack_input` rejects any read
-- that touches one, for the reason `PartOfSpill`
abbrev pub lacks : Slot → ℕ → Bool
lacks (Bytes mask) bits = not (bit_and mask bits == bits)
lacks (Spill k) bits = false

-- at least one of the n bytes from byte index p on is in a spill
abbrev pub touches_spill : Facts → ℕ → ℕ → Bool
touches_spill f p n = any_slot (λ i. is_touched_spill (slot_at f i) (touches p n i))

-- at least one of the n bytes from byte index p on may be unwritten
abbrev pub has_unwritten_byte : Facts → ℕ → ℕ → Bool
has_unwritten_byte f p n = any_slot (λ i. lacks (slot_at f i) (bits_in p n i))

-- a helper may read n bytes at offset x from the stack's upper end (Ok): all lie in the stack, none
-- in a spill, and each is written; or the first of these conditions that fails, as a reason
abbrev pub stack_input : Facts → ℤ → ℕ → Result (Unit {0}) Reason
stack_input f x n =
    if not (is_in_stack x n) then Err OutsideStack else
    (if touches_spill f (byte_index x) n then Err PartOfSpill else
    (if has_unwritten_byte f (byte_index x) n then Err UnwrittenStack else Ok tt))

-- the facts after a write of at least lo and at most hi bytes at offset x from the stack's upper
-- end. The first lo bytes become written. A spill that the first hi bytes touch is lost: only those
-- of its bytes that are among the first lo count as written. If lo is above hi, no write is such
abbrev pub filled : Facts → ℤ → ℕ → ℕ → Facts
filled f x lo hi =
    with_slots f
    (λ i.
    if touches (byte_index x) hi i
    then bytes_over (slot_at f i) (bits_in (byte_index x) lo i)
    else slot_at f i)

-- the facts after a write of lo to hi bytes at offset x from the stack's upper end (`filled`), or
-- OutsideStack if hi bytes there don't all lie in the stack
abbrev pub stack_filled : Facts → ℤ → ℕ → ℕ → Result Facts Reason
stack_filled f x lo hi = if is_in_stack x hi then Ok (filled f x lo hi) else Err OutsideStack

-- the kind of register r after a call with a result of kind k, which register 0 has; registers 1 to
-- 5, which a call clobbers, are unreadable, and the others keep their kinds
abbrev pub call_kind : Facts → Kind → ℕ → Kind
call_kind f k r = if r == 0 then k else (if nat_le r 5 then Unreadable else kind_at f r)

-- the facts after a call with a result of kind k: the registers by `call_kind`, the stack as in f
abbrev pub called_facts : Facts → Kind → Facts
called_facts f k = with_registers f (call_kind f k)
