-- Worked cases: joins, loads and stores of the stack, null tests, and the numbers of reasons.
use Rattle.std.proofs.Common.{◌≡◌, ℕ, true, false, ℤ, pos, neg_ℤ, [], ◌∷◌, map, Option, Some, None, Result, Ok, Err, refl}
use Rattle.words.specs.declared.stack.AccessSize.TheVariants.{Byte, Half, Word, Double}
use Rattle.interval.specs.Ranges.{span, constant}
use Rattle.reg_kinds.specs.declared.kind.Kind.{Kind}
use Rattle.reg_kinds.specs.declared.kind.Kind.TheVariants.{Unreadable, Scalar, Stack, Ctx, Value, MaybeValue}
use Rattle.reg_kinds.specs.declared.kind.Slot.TheVariants.{Bytes, Spill}
use Rattle.reg_kinds.specs.declared.facts.Facts.{Facts}
use Rattle.reg_kinds.specs.declared.reason.Reason.{Reason}
use Rattle.reg_kinds.specs.declared.reason.Reason.TheVariants.{JumpOutside, NoDirectValue, UnreadableRegister, OutsideStack}
use Rattle.reg_kinds.specs.declared.reason.Reason.TheVariants.{UnalignedStack, UnwrittenStack, PartOfSpill, MaybeNull, UnalignedAtomic, Memory}
use Rattle.reg_kinds.specs.Pointers.{value_span}
use Rattle.reg_kinds.specs.Kinds.{is_pointer, kind_at, slot_at, with_kind, with_slot, tabulate, entry}
use Rattle.reg_kinds.specs.Join.{kind_join, slot_join, facts_join}
use Rattle.reg_kinds.specs.Settle.{facts_settled}
use Rattle.reg_kinds.specs.Stack.{stack_read, stack_write}
use Rattle.reg_kinds.specs.Reason.{number}

-- an offset below the stack's upper end
abbrev below : ℕ → ℤ
below n = neg_ℤ (pos n)

-- the ends of a range of numbers
abbrev scalar_ends : Kind → Option (ℕ × ℕ)
scalar_ends (Scalar r) = Some (r.lo, r.hi)
scalar_ends _ = None

-- a map, and the ends of a range of offsets
abbrev value_ends : Kind → Option (ℕ × ℤ × ℤ)
value_ends (Value p) = Some (p.map, p.lo, p.hi)
value_ends _ = None

-- two look-ups in one map
abbrev lookup : Kind
lookup = MaybeValue 3 5

abbrev other_lookup : Kind
other_lookup = MaybeValue 3 9

-- ---- at the start of a program

at_entry :
    (kind_at entry 1 ≡ Ctx)
    × (kind_at entry 10 ≡ Stack (pos 0))
    × (kind_at entry 0 ≡ Unreadable)
    × (slot_at entry 63 ≡ Bytes 0)
unfolding tabulate
at_entry = (refl, refl, refl, refl)

-- ---- joins

of_slots : (slot_join (Bytes 0x0f) (Bytes 0x3c) ≡ Bytes 0x0c) × (slot_join (Spill Ctx) (Bytes 0xff) ≡ Bytes 0)
of_slots = (refl, refl)

offsets_of_both : value_ends (kind_join (Value (value_span 3 (pos 0) (pos 8))) (Value (value_span 3 (pos 4) (pos 16))))
    ≡ Some (3, pos 0, pos 16)
offsets_of_both = refl

look_ups_differ : kind_join lookup other_lookup ≡ Unreadable
look_ups_differ = refl

abbrev from_two_edges : Facts
from_two_edges = facts_join (with_kind entry 2 (Scalar (span 0 3))) (with_kind entry 2 (Scalar (span 5 9)))

numbers_of_both : (scalar_ends (kind_at from_two_edges 2) ≡ Some (0, 9)) × (kind_at from_two_edges 1 ≡ Ctx)
unfolding tabulate
numbers_of_both = (refl, refl)

-- ---- a store of two bytes

abbrev scalar_read : Result Kind Reason → Option (ℕ × ℕ)
scalar_read (Ok k) = scalar_ends k
scalar_read (Err e) = None

abbrev half_written : Facts
half_written = with_slot entry 63 (Bytes 3)

half_is_written :
    (stack_write entry (below 8) Half (Scalar (constant 7)) ≡ Ok half_written)
    × (stack_read half_written (below 8) Word false ≡ Err UnwrittenStack)
    × (scalar_read (stack_read half_written (below 8) Half false) ≡ Some (0, 0xffff))
    × (scalar_read (stack_read half_written (below 8) Half true) ≡ Some (0, 0xffff_ffff_ffff_ffff))
unfolding tabulate
half_is_written = (refl, refl, refl, refl)

-- ---- a pointer is spilled whole

abbrev spilled_pointer : Facts
spilled_pointer = with_slot entry 63 (Spill (Stack (pos 0)))

abbrev partly_overwritten : Facts
partly_overwritten = with_slot spilled_pointer 63 (Bytes 3)

pointer_is_spilled :
    (stack_write entry (below 8) Double (Stack (pos 0)) ≡ Ok spilled_pointer)
    × (stack_read spilled_pointer (below 8) Double false ≡ Ok (Stack (pos 0)))
unfolding tabulate
pointer_is_spilled = (refl, refl)

part_of_pointer :
    (stack_read spilled_pointer (below 6) Half false ≡ Err PartOfSpill)
    × (stack_write half_written (below 8) Word Ctx ≡ Err PartOfSpill)
    × (stack_write spilled_pointer (below 8) Half (Scalar (constant 0)) ≡ Ok partly_overwritten)
    × (stack_read partly_overwritten (below 6) Half false ≡ Err UnwrittenStack)
unfolding tabulate
part_of_pointer = (refl, refl, refl, refl)

-- ---- stores that are rejected: above the stack, below it, across slots; and stores at the lowest slot, and of an unreadable register

stores_out_of_place :
    (stack_write entry (pos 0) Double (Scalar (constant 1)) ≡ Err OutsideStack)
    × (stack_write entry (below 520) Double (Scalar (constant 1)) ≡ Err OutsideStack)
    × (stack_write entry (below 12) Double (Scalar (constant 1)) ≡ Err UnalignedStack)
    × (stack_write entry (below 512) Double (Scalar (constant 1)) ≡ Ok (with_slot entry 0 (Bytes 0xff)))
    × (stack_write entry (below 8) Byte Unreadable ≡ Err UnreadableRegister)
unfolding tabulate
stores_out_of_place = (refl, refl, refl, refl, refl)

-- ---- a null test settles each copy of its look-up

abbrev copies : Facts
copies = with_slot (with_kind (with_kind (with_kind entry 0 lookup) 6 lookup) 7 other_lookup) 4 (Spill lookup)

abbrev null : Facts
null = facts_settled 5 true copies

abbrev not_null : Facts
not_null = facts_settled 5 false copies

copies_of_null :
    (scalar_ends (kind_at null 0) ≡ Some (0, 0))
    × (scalar_ends (kind_at null 6) ≡ Some (0, 0))
    × (slot_at null 4 ≡ Bytes 0xff)
    × (kind_at null 7 ≡ other_lookup)
unfolding tabulate
copies_of_null = (refl, refl, refl, refl)

copies_of_a_value : (value_ends (kind_at not_null 6) ≡ Some (3, pos 0, pos 0))
    × (slot_at not_null 4 ≡ Spill (Value (value_span 3 (pos 0) (pos 0))))
unfolding tabulate
copies_of_a_value = (refl, refl)

-- ---- reasons and kinds

numbers_of_reasons :
    map number (JumpOutside ∷ NoDirectValue ∷ UnreadableRegister ∷ MaybeNull ∷ UnalignedAtomic ∷ Memory ∷ [])
    ≡ 1 ∷ 9 ∷ 20 ∷ 30 ∷ 36 ∷ 40 ∷ []
numbers_of_reasons = refl

look_up_is_a_pointer : (is_pointer (Scalar (constant 0)) ≡ false) × (is_pointer lookup ≡ true)
look_up_is_a_pointer = (refl, refl)
