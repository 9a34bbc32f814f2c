-- Stores into a cell of the stack.
use Rattle.std.proofs.Common.{◌≡◌, ℕ, ◌/◌, ◌%◌, ◌==◌, ℤ, true, if◌then◌else◌, Some, Ok, Err, refl, sym, ap, subst, ◌∙◌, ⊎_elim, inl, inr}
use Rattle.std.proofs.lemmas.Bool.{cond_both, false≢true}
use Rattle.std.proofs.lemmas.Option.{none-some}
use Rattle.words.specs.declared.stack.AccessSize.{AccessSize}
use Rattle.words.specs.declared.stack.AccessSize.TheVariants.{Double}
use Rattle.words.specs.Bytes.{low_bytes}
use Rattle.words.specs.Stack.{bytes_of, is_double, byte_index}
use Rattle.reg_kinds.specs.declared.reason.Reason.TheVariants.{UnreadableRegister, PartOfSpill}
use Rattle.reg_kinds.specs.declared.kind.Kind.{Kind}
use Rattle.reg_kinds.specs.declared.kind.Kind.TheVariants as kind
use Rattle.reg_kinds.specs.declared.kind.Slot.{Slot}
use Rattle.reg_kinds.specs.declared.kind.Slot.TheVariants as slot
use Rattle.reg_kinds.specs.declared.facts.Facts.{Facts}
use Rattle.reg_kinds.specs.Reason.{and_then_ok}
use Rattle.reg_kinds.specs.Kinds.{is_pointer, slot_at, with_slot}
use Rattle.reg_kinds.specs.Stack.{byte_bits, touched, bytes_over, slot_written, facts_written, stack_write}
use Rattle.reg_kinds.specs.TableLaws.{in_written}
use Rattle.tagged_model.specs.declared.value.Tagged.{Tagged}
use Rattle.tagged_model.specs.declared.value.Tagged.TheVariants.{Scalar, Map, Pointer}
use Rattle.tagged_model.specs.Cells.{Cell, holds, and_then, written_over, write_cell}
use Rattle.tagged_model.specs.State.{RunState, with_cell, stack_store}
use Rattle.tagged_model.specs.StateInvariant.{IsInRange}
use Rattle.abstraction.specs.Admits.{Witness, IsOfKind, IsKeptWhole, HasSlot, AdmitsBy}
use Rattle.abstraction.specs.AdmitsLaws.{no_bytes}
use Rattle.abstraction.proofs.CellBytes.{AreBytes}
use Rattle.abstraction.proofs.WrittenBytes.{over_small, touched_there, both_there, zeros}
use Rattle.abstraction.proofs.StackAccesses.{refused, same_ok, given_ok, at_byte_index}

-- ---- a cell after a store

record IsWritten (witness : Witness) (t : Slot) (c : Cell) (j : ℕ) (size : AccessSize) (v : Tagged) : Type 0 where
  cell : Cell
  written : write_cell c j size v ≡ Some cell
  has : HasSlot witness t cell
  small : AreBytes cell

over_has : (witness : Witness) (t : Slot) (c : Cell) (p n x : ℕ)
    → HasSlot witness t c
    → HasSlot witness (bytes_over t (byte_bits p n)) (written_over c (p % 8) (low_bytes n x))
over_has witness (slot.Bytes mask) c p n x has = both_there mask c p n x has
over_has witness (slot.Spill k) c p n x has = touched_there c p n x

number_written : (witness : Witness) (t : Slot) (c : Cell) (p : ℕ) (size : AccessSize) (v : Tagged) (x : ℕ)
    → v ≡ Scalar x → AreBytes c
    → HasSlot witness t c
    → IsWritten witness (bytes_over t (byte_bits p (bytes_of size))) c (p % 8) size v
number_written witness t c p size v x e small has =
    let n = bytes_of size in
    record {
      cell = written_over c (p % 8) (low_bytes n x);
      written = ap (write_cell c (p % 8) size) e;
      has = over_has witness t c p n x has;
      small = over_small c (p % 8) n x small;
    }

absent : (v : Tagged) → AreBytes (holds v)
absent v i b e = absurd (none-some b e)

whole_written : (witness : Witness) (k : Kind) (c : Cell) (j : ℕ) (v : Tagged)
    → IsKeptWhole v → IsOfKind witness k v
    → IsWritten witness (slot.Spill k) c j Double v
whole_written witness k c j (Scalar n) w h = absurd w
whole_written witness k c j (Map m) w h = record {
  cell = holds (Map m);
  written = refl;
  has = inl (Map m, refl, h, tt);
  small = absent (Map m);
}
whole_written witness k c j (Pointer o x) w h = record {
  cell = holds (Pointer o x);
  written = refl;
  has = inl (Pointer o x, refl, h, tt);
  small = absent (Pointer o x);
}

null_written : (witness : Witness) (m s : ℕ) (c : Cell) (j : ℕ) (v : Tagged)
    → j ≡ 0 → v ≡ witness.gave s
    → v ≡ Scalar 0 → AreBytes c
    → IsWritten witness (slot.Spill (kind.MaybeValue m s)) c j Double v
null_written witness m s c j v z e null small =
    record {
      cell = written_over c 0 (low_bytes 8 0);
      written = ap (λ i. write_cell c i Double v) z ∙ ap (write_cell c 0 Double) null;
      has = inr (sym e ∙ null, zeros c);
      small = over_small c 0 8 0 small;
    }

pointer_written : (witness : Witness) (k : Kind) (c : Cell) (j : ℕ) (v : Tagged)
    → is_pointer k ≡ true → j ≡ 0
    → AreBytes c → IsOfKind witness k v
    → IsWritten witness (slot.Spill k) c j Double v
pointer_written witness kind.Unreadable c j v t z small h = absurd (false≢true t)
pointer_written witness (kind.Scalar r) c j v t z small h = absurd (false≢true t)
pointer_written witness (kind.Value p) c j v t z small h =
    whole_written witness (kind.Value p) c j v (subst IsKeptWhole (sym h.2) tt) h
pointer_written witness (kind.MaybeValue m s) c j v t z small h =
    ⊎_elim
    (λ null. null_written witness m s c j v z h.0 null small)
    (λ start. whole_written witness (kind.MaybeValue m s) c j v (subst IsKeptWhole (sym start.1) tt) h)
    h.1
pointer_written witness k c j v t z small h = whole_written witness k c j v (subst IsKeptWhole (sym h) tt) h

-- ---- the facts after a store

-- something is known of the value
abbrev IsKnown : Kind → Type 0
IsKnown kind.Unreadable = ⊥
IsKnown k = Unit {0}

-- if a pointer may be written, it is written whole
spill_written : (witness : Witness) (u : Slot) (c : Cell) (p : ℕ) (size : AccessSize) (k : Kind)
    (v : Tagged)
    → is_pointer k ≡ true → p % bytes_of size ≡ 0
    → AreBytes c → IsOfKind witness k v
    → (if is_double size then Ok (slot.Spill k) else Err PartOfSpill) ≡ Ok u
    → IsWritten witness u c (p % 8) size v
spill_written witness u c p Double k v t even small h e =
    subst (λ u. IsWritten witness u c (p % 8) Double v) (same_ok (slot.Spill k) u e)
    (pointer_written witness k c (p % 8) v t even small h)
spill_written witness u c p size k v t even small h e = absurd (refused PartOfSpill u e)

cell_written : (witness : Witness) (t u : Slot) (c : Cell) (p : ℕ) (size : AccessSize) (k : Kind)
    (v : Tagged)
    → IsKnown k → p % bytes_of size ≡ 0
    → AreBytes c → HasSlot witness t c
    → IsOfKind witness k v
    → slot_written t (byte_bits p (bytes_of size)) size k ≡ Ok u
    → IsWritten witness u c (p % 8) size v
cell_written witness t u c p size kind.Unreadable v known even small has h e = absurd known
cell_written witness t u c p size (kind.Scalar r) v known even small has h e =
    subst (λ u. IsWritten witness u c (p % 8) size v)
    (same_ok (bytes_over t (byte_bits p (bytes_of size))) u e)
    (number_written witness t c p size v h.0 h.1 small has)
cell_written witness t u c p size k v known even small has h e =
    spill_written witness u c p size k v refl even small h e

-- a store of an unreadable register is rejected
known_stored : (f g : Facts) (offset : ℤ) (size : AccessSize) (k : Kind)
    → stack_write f offset size k ≡ Ok g
    → IsKnown k × (and_then_ok (touched offset size) (facts_written f size k) ≡ Ok g)
known_stored f g offset size kind.Unreadable e = absurd (refused UnreadableRegister g e)
known_stored f g offset size k e = (tt, e)

-- ---- the facts and the state after a store

module _ (witness : Witness) (f : Facts) (s : RunState) (proper : IsInRange s) (admits : AdmitsBy witness f s) where
  still_admits : (i : ℕ) (t : Slot) (c : Cell)
      → HasSlot witness t c → AdmitsBy witness (with_slot f i t) (with_cell s i c)
  still_admits i t c has =
      record {
        registers = admits.registers;
        slots = in_written (HasSlot witness) f.slots s.cells i t (slot.Bytes 0) c has (no_bytes c) admits.slots;
        objects = admits.objects;
      }

  still_proper : (i : ℕ) (c : Cell) → AreBytes c → IsInRange (with_cell s i c)
  still_proper i c small =
      record {
        bytes = λ k. cond_both (k == i) c (s.cells k) AreBytes (λ _. small) (λ _. proper.bytes k);
        words = proper.words;
        count = proper.count;
        values = proper.values;
        packet = proper.packet;
      }

  -- if the facts allow a store into the stack, the machine does it, and the facts after it admit the state after it
  pub stack_stored : (g : Facts) (offset : ℤ) (size : AccessSize) (k : Kind) (v : Tagged)
      → IsOfKind witness k v → stack_write f offset size k ≡ Ok g
      → (t : RunState) × (stack_store s offset size v ≡ Some t) × AdmitsBy witness g t × IsInRange t
  stack_stored g offset size k v h e =
      let p = byte_index offset in
      let i = byte_index offset / 8 in
      let n = bytes_of size in
      let known = known_stored f g offset size k e in
      let at = at_byte_index offset size (facts_written f size k) g known.1 in
      let new = given_ok (slot_written (slot_at f i) (byte_bits p n) size k) (λ t. Ok (with_slot f i t)) g at.2 in
      let w =
      cell_written witness (slot_at f i) new.0 (s.cells i) p size k v known.0 at.1 (proper.bytes i)
      (admits.slots i) h new.1 in (
        with_cell s i w.cell,
        ap (λ o.
            and_then o
            (λ q. and_then (write_cell (s.cells (q / 8)) (q % 8) size v) (λ c. Some (with_cell s (q / 8) c))))
            at.0
            ∙ ap (λ o. and_then o (λ c. Some (with_cell s i c))) w.written,
        subst (λ g. AdmitsBy witness g (with_cell s i w.cell))
            (same_ok (with_slot f i new.0) g new.2) (still_admits i new.0 w.cell w.has),
        still_proper i w.cell w.small,
      )
