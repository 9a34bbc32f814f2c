-- Kinds of values, and facts as tables of them. The facts at program entry are the kernel's (the
-- kernel documentation of the verifier); kinds are this project's own.
use Rattle.std.specs.Prelude.{ℕ, pos, ◌==◌, if◌then◌else◌, Bool, true, false, List, map, slice_index_or, slice_set}
use Rattle.std.specs.List.{range_with_len}
use Rattle.words.specs.Stack.{stack_slots}
use Rattle.reg_kinds.specs.declared.kind.Kind.{Kind}
use Rattle.reg_kinds.specs.declared.kind.Kind.TheVariants.{Unreadable, Scalar, Stack, Ctx}
use Rattle.reg_kinds.specs.declared.kind.Slot.{Slot}
use Rattle.reg_kinds.specs.declared.kind.Slot.TheVariants.{Bytes}
use Rattle.reg_kinds.specs.declared.facts.Facts.{Facts}

-- whether a value of the kind counts as a pointer: true for a pointer, also one that may be null,
-- and for a map; false for a number, and if nothing is known. Stores test this: a value that counts
-- as a pointer may be stored into the stack only whole (else `PartOfSpill`), and into a map's value
-- not at all (`PointerStored`)
abbrev pub is_pointer : Kind → Bool
is_pointer Unreadable = false
is_pointer (Scalar r) = false
is_pointer k = true

-- ---- facts

-- the kind of register r; Unreadable past the last one
abbrev pub kind_at : Facts → ℕ → Kind
kind_at f r = slice_index_or f.registers r Unreadable

-- what is known of stack slot i; past the last one no byte is written
abbrev pub slot_at : Facts → ℕ → Slot
slot_at f i = slice_index_or f.slots i (Bytes 0)

-- the facts with kind k for register r, all else as in f
abbrev pub with_kind : Facts → ℕ → Kind → Facts
with_kind f r k = record { registers = slice_set f.registers r k; slots = f.slots }

-- the facts with s for stack slot i, all else as in f
abbrev pub with_slot : Facts → ℕ → Slot → Facts
with_slot f i s = record { registers = f.registers; slots = slice_set f.slots i s }

-- the list of f 0 to f (n - 1)
unfoldable pub tabulate : {X : Type 0} → ℕ → (ℕ → X) → List X
tabulate n f = map f (range_with_len 0 n)

-- the facts with kind k r for each register r, and the stack of f
abbrev pub with_registers : Facts → (ℕ → Kind) → Facts
with_registers f k = record { registers = tabulate 11 k; slots = f.slots }

-- the facts with s i for each stack slot i, and the registers of f
abbrev pub with_slots : Facts → (ℕ → Slot) → Facts
with_slots f s = record { registers = f.registers; slots = tabulate stack_slots s }

-- the facts with kind k r for each register r, and s i for each stack slot i
abbrev pub facts_of : (ℕ → Kind) → (ℕ → Slot) → Facts
facts_of k s = record { registers = tabulate 11 k; slots = tabulate stack_slots s }

-- the facts in which nothing is known: no register is readable, and no stack byte is written
abbrev pub nothing_known : Facts
nothing_known = facts_of (λ r. Unreadable) (λ i. Bytes 0)

-- the kind of register r at program entry: register 1 holds the context, register 10 the frame
-- pointer, and no other is readable
abbrev pub entry_kind : ℕ → Kind
entry_kind r = if r == 1 then Ctx else (if r == 10 then Stack (pos 0) else Unreadable)

-- the facts at program entry: registers of the kinds `entry_kind`, and no stack byte is written
abbrev pub entry : Facts
entry = facts_of entry_kind (λ i. Bytes 0)
