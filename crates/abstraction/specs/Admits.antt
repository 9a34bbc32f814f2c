-- When facts admit a state. This project's own.
use Rattle.std.specs.Prelude.{◌≡◌, ◌⊎◌, ℕ, ◌<◌, ◌≤◌, ◌^◌, ℤ, pos, ◌≤ℤ◌, Option, Some, None}
use Rattle.std.specs.Int.{bit_at}
use Rattle.interval.specs.declared.range.Range.{Range}
use Rattle.interval.specs.Ranges.{IsMember}
use Rattle.reg_kinds.specs.declared.kind.ValuePointer.{ValuePointer}
use Rattle.reg_kinds.specs.declared.kind.Kind.{Kind}
use Rattle.reg_kinds.specs.declared.kind.Kind.TheVariants as kind
use Rattle.reg_kinds.specs.declared.kind.Slot.{Slot}
use Rattle.reg_kinds.specs.declared.kind.Slot.TheVariants.{Bytes, Spill}
use Rattle.reg_kinds.specs.declared.facts.Facts.{Facts}
use Rattle.reg_kinds.specs.Kinds.{kind_at, slot_at}
use Rattle.tagged_model.specs.declared.value.Object.TheVariants as object
use Rattle.tagged_model.specs.declared.value.Tagged.{Tagged}
use Rattle.tagged_model.specs.declared.value.Tagged.TheVariants.{Scalar, Map, Pointer}
use Rattle.tagged_model.specs.Cells.{Cell, holds, byte_at}
use Rattle.tagged_model.specs.State.{RunState, RunMap, set_at}

-- what facts do not determine of a state: `gave`, for each site the result of the look-up there,
-- one value for all its copies; and `objects`, for each map, by its descriptor, a lower bound on
-- the number of objects that the map has had
pub record Witness : Type 0 where
  pub gave : ℕ → Tagged
  pub objects : ℕ → ℕ

-- ---- values

-- a 64-bit number in the range
abbrev pub IsScalarOf : Range → Tagged → Type 0
IsScalarOf r v = (n : ℕ) × (v ≡ Scalar n) × IsMember n r × (n < 2 ^ 64)

-- v is a pointer to an object that the map of p has had, perhaps deleted since, at an offset in the
-- range of p
abbrev pub IsValueOf : Witness → ValuePointer → Tagged → Type 0
IsValueOf witness p v =
    (number : ℕ)
    × (x : ℤ)
    × (v ≡ Pointer (object.Value p.map number) x)
    × (p.lo ≤ℤ x)
    × (x ≤ℤ p.hi)
    × (number < witness.objects p.map)

-- null, or a pointer to the start of an object that map m has had
abbrev pub IsLookup : Witness → ℕ → Tagged → Type 0
IsLookup witness m v =
    (v ≡ Scalar 0)
    ⊎ ((number : ℕ) × (v ≡ Pointer (object.Value m number) (pos 0)) × (number < witness.objects m))

-- the value is of this kind: any value if nothing is known; the result of a look-up is the one that
-- the witness gives for its site
abbrev pub IsOfKind : Witness → Kind → Tagged → Type 0
IsOfKind witness kind.Unreadable v = Unit {0}
IsOfKind witness (kind.Scalar r) v = IsScalarOf r v
IsOfKind witness (kind.MapRef m) v = v ≡ Map m
IsOfKind witness (kind.Stack x) v = v ≡ Pointer object.Stack x
IsOfKind witness kind.Ctx v = v ≡ Pointer object.Context (pos 0)
IsOfKind witness (kind.Value p) v = IsValueOf witness p v
IsOfKind witness (kind.MaybeValue m site) v = (v ≡ witness.gave site) × IsLookup witness m v

-- ---- registers: nothing is known of one that may not be read

-- the register has a value of this kind; one that may not be read may have any value, or none
-- (None)
abbrev pub HasKind : Witness → Kind → Option Tagged → Type 0
HasKind witness kind.Unreadable o = Unit {0}
HasKind witness k o = (v : Tagged) × (o ≡ Some v) × IsOfKind witness k v

-- ---- stack slots

-- the value is one that a cell, the content of a stack slot, keeps whole (the constructor `holds`
-- of `Cell`), not as bytes. False (⊥) for each number, also for null, which is 0, since a store
-- puts a number into a cell as bytes. True for each map, and for each pointer, whatever its object
-- o and its offset x. `HoldsWhole` requires this, so that the cell of a spilled result of a look-up
-- has eight zero bytes (`HoldsNull`) if the result is null
abbrev pub IsKeptWhole : Tagged → Type 0
IsKeptWhole (Scalar n) = ⊥
IsKeptWhole (Map m) = Unit {0}
IsKeptWhole (Pointer o x) = Unit {0}

-- the cell keeps a value of this kind whole
abbrev pub HoldsWhole : Witness → Kind → Cell → Type 0
HoldsWhole witness k c = (v : Tagged) × (c ≡ holds v) × IsOfKind witness k v × IsKeptWhole v

-- the kind is `MaybeValue` of a look-up that gave null, by the witness, and the cell has eight zero
-- bytes: null is a number, and a store puts a number into a cell as bytes
abbrev pub HoldsNull : Witness → Kind → Cell → Type 0
HoldsNull witness (kind.MaybeValue m site) c =
    (witness.gave site ≡ Scalar 0) × ((j : ℕ) → j < 8 → byte_at c j ≡ Some 0)
HoldsNull witness _ c = ⊥

-- the bytes of the mask, whose bit j is for byte j, are present in the cell
abbrev pub HasBytes : ℕ → Cell → Type 0
HasBytes mask c = (j : ℕ) → j < 8 → bit_at mask j ≡ 1 → (b : ℕ) × (byte_at c j ≡ Some b)

-- the cell fits what is known of its stack slot: the bytes of the mask are present; or, for a
-- spill, it keeps a value of the kind whole, or has a look-up's result that is null
abbrev pub HasSlot : Witness → Slot → Cell → Type 0
HasSlot witness (Bytes mask) c = HasBytes mask c
HasSlot witness (Spill k) c = HoldsWhole witness k c ⊎ HoldsNull witness k c

-- ---- states

-- how many values (objects of the run) a map has had: those with which the run began and those that
-- the run added, also if they were deleted since; 0 if there is no map (None)
abbrev pub objects_of : Option RunMap → ℕ
objects_of None = 0
objects_of (Some t) = t.count

-- the facts admit the state, with the results of look-ups that the witness gives, and each map has
-- had at least as many objects as the witness gives
pub record AdmitsBy (witness : Witness) (f : Facts) (s : RunState) : Type 0 where
  pub registers : (r : ℕ) → HasKind witness (kind_at f r) (s.registers r)
  pub slots : (i : ℕ) → HasSlot witness (slot_at f i) (s.cells i)
  pub objects : (m : ℕ) → witness.objects m ≤ objects_of (s.maps m)

-- the facts admit the state by some witness: the result of each look-up is one value in all copies
abbrev pub Admits : Facts → RunState → Type 0
Admits f s = (witness : Witness) × AdmitsBy witness f s

-- ---- all sites in the facts are slots below n

-- if the kind is that of a look-up, its site is a slot below n
abbrev pub IsKindBelow : ℕ → Kind → Type 0
IsKindBelow n (kind.MaybeValue m site) = site < n
IsKindBelow n k = Unit {0}

-- if the stack slot has a spilled look-up, its site is a slot below n
abbrev pub IsSlotBelow : ℕ → Slot → Type 0
IsSlotBelow n (Bytes mask) = Unit {0}
IsSlotBelow n (Spill k) = IsKindBelow n k

-- all sites in the facts are slots below n
pub record AreBelow (n : ℕ) (f : Facts) : Type 0 where
  pub registers : (r : ℕ) → IsKindBelow n (kind_at f r)
  pub slots : (i : ℕ) → IsSlotBelow n (slot_at f i)

-- the witness after a look-up in state s, at `site`, that gave v. Its numbers of objects are those
-- of s, since v may point to an object that is newer than those that the witness counted
abbrev pub witness_at : Witness → RunState → ℕ → Tagged → Witness
witness_at witness s site v = record {
  gave = set_at witness.gave site v;
  objects = λ m. objects_of (s.maps m);
}
