-- Loads from the stack, and stores to it. Offsets count from its upper end. The rules are this
-- project's own.
use Rattle.std.specs.Prelude.{◌≡◌, ◌≢◌, ◌<◌, ℕ, ◌-◌, ◌*◌, ◌/◌, ◌%◌, ◌^◌, ◌==◌, ℤ, bit_and, bit_or, Bool}
use Rattle.std.specs.Prelude.{true, false, not, if◌then◌else◌, Result, Ok, Err, Option, Some, None}
use Rattle.words.specs.declared.stack.AccessSize.{AccessSize}
use Rattle.words.specs.Stack.{stack_slots, bytes_of, is_double, is_in_stack, byte_index, is_aligned}
use Rattle.interval.specs.Ranges.{full}
use Rattle.reg_kinds.specs.declared.kind.Kind.{Kind}
use Rattle.reg_kinds.specs.declared.kind.Kind.TheVariants.{Unreadable, Scalar}
use Rattle.reg_kinds.specs.declared.kind.Slot.{Slot}
use Rattle.reg_kinds.specs.declared.kind.Slot.TheVariants.{Bytes, Spill}
use Rattle.reg_kinds.specs.declared.facts.Facts.{Facts}
use Rattle.reg_kinds.specs.declared.reason.Reason.{Reason}
use Rattle.reg_kinds.specs.declared.reason.Reason.TheVariants.{UnreadableRegister, OutsideStack, UnalignedStack, UnwrittenStack, PartOfSpill}
use Rattle.reg_kinds.specs.Reason.{and_then_ok}
use Rattle.reg_kinds.specs.Kinds.{is_pointer, slot_at, with_slot}

-- the mask of n bytes of one stack slot, from byte index `at` on: bit k for byte k of the slot
abbrev pub byte_bits : ℕ → ℕ → ℕ
byte_bits at n = (2 ^ n - 1) * 2 ^ (at % 8)

-- the stack slot of an access at an offset from the stack's upper end, and the mask of its bytes
-- there, or the first reason against it; an aligned access is in one slot
abbrev pub touched : ℤ → AccessSize → Result (ℕ × ℕ) Reason
touched offset size =
    if not (is_in_stack offset (bytes_of size)) then Err OutsideStack else
    (if not (is_aligned offset (bytes_of size)) then Err UnalignedStack else
    Ok (byte_index offset / 8, byte_bits (byte_index offset) (bytes_of size)))

-- ---- loads

-- the kind of a load of bytes that are no spill: any number of this size; if the load extends the
-- sign (true), any 64-bit number, since negative numbers are the greatest words
abbrev pub loaded : AccessSize → Bool → Kind
loaded size true = Scalar (full 64)
loaded size false = Scalar (full (8 * bytes_of size))

-- the kind of the value that a load gets from a stack slot, or the reason to reject the load.
-- `bits` is the mask of the loaded bytes, bit j for byte j of the slot; `size` is the size of the
-- load, which extends the sign if `signed` is true. A spill is a pointer or a map of kind k, stored
-- in all eight bytes: a load of a double word gives k, a smaller one PartOfSpill. In any other slot
-- `mask` has the bytes that are written: a load gives a number (`loaded`) if all bytes of `bits`
-- are in `mask`, else UnwrittenStack
abbrev pub read_slot : Slot → ℕ → AccessSize → Bool → Result Kind Reason
read_slot (Spill k) bits size signed = if is_double size then Ok k else Err PartOfSpill
read_slot (Bytes mask) bits size signed =
    if bit_and mask bits == bits then Ok (loaded size signed) else Err UnwrittenStack

-- the kind of a load at an offset from the stack's upper end, or the first reason against it
abbrev pub stack_read : Facts → ℤ → AccessSize → Bool → Result Kind Reason
stack_read f offset size signed =
    and_then_ok (touched offset size) (λ t. read_slot (slot_at f t.0) t.1 size signed)

-- ---- stores

-- what is known of a stack slot, the first argument, after a write to it: a store of a number, or a
-- helper's write. `bits` is the mask of the bytes that are certainly written, bit k for byte k. If
-- the slot had bytes, of which those in `mask` were written, those in `mask` or `bits` are written
-- now. If it had a spill (a pointer or a map of kind k, in all eight bytes), only those in `bits`
-- count as written: the rest of the spill must not be loaded as a number
abbrev pub bytes_over : Slot → ℕ → Slot
bytes_over (Bytes mask) bits = Bytes (bit_or mask bits)
bytes_over (Spill k) bits = Bytes bits

-- slot s after a store of a value of kind k to its bytes of mask `bits`: a number makes these bytes
-- written; a pointer or a map is spilled, or PartOfSpill if fewer than eight bytes are stored.
-- `stack_write` rejects an unreadable value before
abbrev pub slot_written : Slot → ℕ → AccessSize → Kind → Result Slot Reason
slot_written s bits size k =
    if is_pointer k
    then (if is_double size then Ok (Spill k) else Err PartOfSpill)
    else Ok (bytes_over s bits)

-- the facts after a store of a value of kind k to the bytes of mask t.1 of stack slot t.0; or the
-- reason for which `slot_written` rejects the store
abbrev pub facts_written : Facts → AccessSize → Kind → ℕ × ℕ → Result Facts Reason
facts_written f size k t =
    and_then_ok (slot_written (slot_at f t.0) t.1 size k) (λ s. Ok (with_slot f t.0 s))

-- the facts after a store of a value of kind k at an offset from the stack's upper end, or the
-- first reason against it; that the value is unreadable comes before all others
abbrev pub stack_write : Facts → ℤ → AccessSize → Kind → Result Facts Reason
stack_write f offset size Unreadable = Err UnreadableRegister
stack_write f offset size k = and_then_ok (touched offset size) (facts_written f size k)

-- the stack of facts g, after a change, is that of facts f, before it: in all stack slots (None),
-- or in all but slot i (Some i), which may differ and is less than `stack_slots`. Nothing is said
-- of registers. So the verifier learns which slots an instruction may have changed (`KeepsStack` of
-- `transfer`)
abbrev pub ChangesAtMost : Option ℕ → Facts → Facts → Type 0
ChangesAtMost None f g = g.slots ≡ f.slots
ChangesAtMost (Some i) f g = (i < stack_slots) × ((k : ℕ) → k ≢ i → slot_at g k ≡ slot_at f k)
