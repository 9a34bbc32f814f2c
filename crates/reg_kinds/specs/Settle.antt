-- The facts after a null test of a look-up's result. The rule is this project's own.
use Rattle.std.specs.Prelude.{ℕ, ◌==◌, pos, Bool, true, false, if◌then◌else◌}
use Rattle.interval.specs.Ranges.{constant}
use Rattle.reg_kinds.specs.declared.kind.Kind.{Kind}
use Rattle.reg_kinds.specs.declared.kind.Kind.TheVariants.{Scalar, Value, MaybeValue}
use Rattle.reg_kinds.specs.declared.kind.Slot.{Slot}
use Rattle.reg_kinds.specs.declared.kind.Slot.TheVariants.{Bytes, Spill}
use Rattle.reg_kinds.specs.declared.facts.Facts.{Facts}
use Rattle.reg_kinds.specs.Kinds.{kind_at, slot_at, facts_of}
use Rattle.reg_kinds.specs.Pointers.{value_span}

-- the kind of a register that has the result of a look-up in map m, after a null test found it null
-- (true) or not: the number 0, or a pointer to the start of a value
abbrev pub settled_value : Bool → ℕ → Kind
settled_value true m = Scalar (constant 0)
settled_value false m = Value (value_span m (pos 0) (pos 0))

-- a register's kind after a null test of the look-up at slot `site` found the result null (`null`)
-- or not; only the kinds of copies of this result change
abbrev pub kind_settled : ℕ → Bool → Kind → Kind
kind_settled site null (MaybeValue m s) = if s == site then settled_value null m else MaybeValue m s
kind_settled site null k = k

-- the stack slot with the spilled result of a look-up in map m, after a null test found it null
-- (true) or not: eight written bytes, or a pointer to the start of a value
abbrev pub settled_spill : Bool → ℕ → Slot
settled_spill true m = Bytes 0xff
settled_spill false m = Spill (Value (value_span m (pos 0) (pos 0)))

-- a stack slot after a null test of the look-up at slot `site` found the result null (`null`) or
-- not; only spilled copies of this result change
abbrev pub slot_settled : ℕ → Bool → Slot → Slot
slot_settled site null (Spill (MaybeValue m s)) =
    if s == site then settled_spill null m else Spill (MaybeValue m s)
slot_settled site null s = s

-- the facts after a null test has found that the result of the look-up at slot `site` is null
-- (true), or is not
abbrev pub facts_settled : ℕ → Bool → Facts → Facts
facts_settled site null f =
    facts_of (λ r. kind_settled site null (kind_at f r)) (λ i. slot_settled site null (slot_at f i))
