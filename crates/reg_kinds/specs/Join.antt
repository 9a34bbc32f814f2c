-- The joins of kinds, stack slots and facts, for edges that merge. This project's own.
use Rattle.std.specs.Prelude.{ℕ, ◌/◌, ◌==◌, ◌&&◌, bit_and, if◌then◌else◌}
use Rattle.std.specs.Ordering.{int_eq}
use Rattle.interval.specs.Ranges.{hull}
use Rattle.reg_kinds.specs.declared.kind.Kind.{Kind}
use Rattle.reg_kinds.specs.declared.kind.Kind.TheVariants.{Unreadable, Scalar, MapRef, Stack, Ctx, Value, MaybeValue}
use Rattle.reg_kinds.specs.declared.kind.Slot.{Slot}
use Rattle.reg_kinds.specs.declared.kind.Slot.TheVariants.{Bytes, Spill}
use Rattle.reg_kinds.specs.declared.facts.Facts.{Facts}
use Rattle.reg_kinds.specs.Pointers.{offsets_hull}
use Rattle.reg_kinds.specs.Kinds.{kind_at, slot_at, facts_of}

-- the join of two kinds: what is known of a value that has the one or the other. Of two numbers it
-- has the hull of their ranges, the least range that includes both; of two pointers into values of
-- one map (`Value`), the hull of their ranges of offsets. Of two maps, two pointers into the stack,
-- two pointers to the context, or two results of look-ups before their null test (`MaybeValue`), it
-- is their kind if both are the same: the same map, the same offset, or the same map and slot of
-- the look-up. Any other two kinds have the join Unreadable: nothing is known
abbrev pub kind_join : Kind → Kind → Kind
kind_join (Scalar a) (Scalar b) = Scalar (hull a b)
kind_join (MapRef m) (MapRef n) = if m == n then MapRef m else Unreadable
kind_join (Stack x) (Stack y) = if int_eq x y then Stack x else Unreadable
kind_join Ctx Ctx = Ctx
kind_join (Value p) (Value q) = if p.map == q.map then Value (offsets_hull p q) else Unreadable
kind_join (MaybeValue m s) (MaybeValue n t) =
    if (m == n) && (s == t) then MaybeValue m s else Unreadable
kind_join _ _ = Unreadable

-- what is known of a stack slot that has a spilled value of this kind; if the kind is Unreadable,
-- no byte counts as written
abbrev pub spilled : Kind → Slot
spilled Unreadable = Bytes 0
spilled k = Spill k

-- the join of what is known of one stack slot on two edges that merge. `Bytes x` and `Bytes y` are
-- masks of the written bytes; the join has the bytes that are written on both edges. `Spill j` and
-- `Spill k`: on each edge the slot holds a pointer or a map of this kind, all eight bytes of it.
-- The join is a spill with the join of the kinds; if that is Unreadable, no byte counts as written
-- (`spilled`). A mask and a spill, in either order: no byte counts as written
abbrev pub slot_join : Slot → Slot → Slot
slot_join (Bytes x) (Bytes y) = Bytes (bit_and x y)
slot_join (Spill j) (Spill k) = spilled (kind_join j k)
slot_join _ _ = Bytes 0

-- the join of facts: of the kinds of each register, and of each stack slot
abbrev pub facts_join : Facts → Facts → Facts
facts_join a b =
    facts_of (λ r. kind_join (kind_at a r) (kind_at b r))
    (λ i. slot_join (slot_at a i) (slot_at b i))

-- the stack has eight groups of eight stack slots each, which the verifier joins one by one
abbrev pub stack_groups : ℕ
stack_groups = 8

-- the number of the group that has stack slot i
abbrev pub group_of : ℕ → ℕ
group_of i = i / 8

-- what is known of stack slot i after a join of facts b into facts a only in the group of stack
-- slots with number `group`; the slots of all other groups are as in a
abbrev pub group_joined : ℕ → Facts → Facts → ℕ → Slot
group_joined group a b i =
    if group_of i == group then slot_join (slot_at a i) (slot_at b i) else slot_at a i
