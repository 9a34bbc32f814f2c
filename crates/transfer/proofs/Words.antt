-- Facts are still well formed after a load, a store, a call and a null test.
use Rattle.std.proofs.Common.{◌≡◌, ℕ, ◌%◌, ◌<◌, ◌≤◌, ◌^◌, ◌==◌, if◌then◌else◌, ℤ, Bool, true, false, not, bit_and, Ok, Err, arith}
use Rattle.std.specs.Prelude.{nat_le}
use Rattle.std.proofs.Math.Pow.{pow_mono}
use Rattle.std.proofs.lemmas.Bool.{cond_both, eqb-true, not-false}
use Rattle.std.proofs.lemmas.Nat.{or_lt}
use Rattle.reg_kinds.specs.declared.kind.Kind.{Kind}
use Rattle.reg_kinds.specs.declared.kind.Kind.TheVariants as kind
use Rattle.reg_kinds.specs.declared.kind.Slot.{Slot}
use Rattle.reg_kinds.specs.declared.kind.Slot.TheVariants.{Bytes, Spill}
use Rattle.reg_kinds.specs.declared.facts.Facts.{Facts}
use Rattle.words.specs.declared.stack.AccessSize.{AccessSize}
use Rattle.words.specs.declared.stack.AccessSize.TheVariants.{Byte, Half, Word, Double}
use Rattle.words.specs.Stack.{bytes_of, is_double, is_in_stack, byte_index, is_aligned, touches}
use Rattle.reg_kinds.specs.declared.reason.Reason.TheVariants.{OutsideStack, UnwrittenStack, PartOfSpill}
use Rattle.reg_kinds.specs.Kinds.{is_pointer, kind_at, slot_at, with_kind, with_slot}
use Rattle.reg_kinds.specs.Stack.{byte_bits, touched, loaded, read_slot, stack_read, bytes_over, slot_written, facts_written, stack_write}
use Rattle.reg_kinds.specs.Many.{bits_in, filled, stack_filled, call_kind, called_facts}
use Rattle.reg_kinds.specs.Settle.{settled_value, kind_settled, settled_spill, slot_settled, facts_settled}
use Rattle.reg_kinds.specs.TableLaws.{in_table, in_set}
use Rattle.reg_kinds.specs.BitLaws.{bits_in_small}
use Rattle.transfer.specs.Sound.{IsKindAt, IsSlotAt, AreWellFormedAt}
use Rattle.transfer.proofs.Parts.{OkIs, then_ok}

-- `bound` is above the slots of the look-ups
module _ (bound : ℕ) where
  -- ---- one register or slot

  no_bytes : IsSlotAt bound (Bytes 0)
  no_bytes = omega arith

  -- after a register gets a kind that is well formed, the facts are still well formed
  pub kind_words : (f : Facts) (r : ℕ) (k : Kind)
      → AreWellFormedAt bound f → IsKindAt bound k
      → AreWellFormedAt bound (with_kind f r k)
  kind_words f r k h is = record {
    registers = in_set (IsKindAt bound) f.registers r k kind.Unreadable is tt h.registers;
    slots = h.slots;
  }

  slot_words : (f : Facts) (i : ℕ) (t : Slot)
      → AreWellFormedAt bound f → IsSlotAt bound t
      → AreWellFormedAt bound (with_slot f i t)
  slot_words f i t h is = record {
    registers = h.registers;
    slots = in_set (IsSlotAt bound) f.slots i t (Bytes 0) is no_bytes h.slots;
  }

  -- ---- positions of accesses

  -- the bits of an aligned access are those of one slot
  bits_small : (size : AccessSize) (p : ℕ) → p % bytes_of size ≡ 0 → byte_bits p (bytes_of size) < 256
  bits_small Byte p h = let m : 2 ^ (p % 8) ≤ 2 ^ 7 = pow_mono {i = p % 8} {j = 7} (omega arith) in omega arith
  bits_small Half p h = let m : 2 ^ (p % 8) ≤ 2 ^ 6 = pow_mono {i = p % 8} {j = 6} (omega arith) in omega arith
  bits_small Word p h = let m : 2 ^ (p % 8) ≤ 2 ^ 4 = pow_mono {i = p % 8} {j = 4} (omega arith) in omega arith
  bits_small Double p h = let m : 2 ^ (p % 8) ≤ 2 ^ 0 = pow_mono {i = p % 8} {j = 0} (omega arith) in omega arith

  abbrev AreSmall : ℕ × ℕ → Type 0
  AreSmall t = t.1 < 256

  touched_small : (offset : ℤ) (size : AccessSize) → OkIs AreSmall (touched offset size)
  touched_small offset size =
      cond_both (not (is_in_stack offset (bytes_of size))) _ _ (OkIs AreSmall) (λ _. tt)
      (λ _. cond_both (not (is_aligned offset (bytes_of size))) _ _ (OkIs AreSmall) (λ _. tt)
      (λ e.
      bits_small size (byte_index offset)
      (eqb-true (byte_index offset % bytes_of size) 0 (not-false (is_aligned offset (bytes_of size)) e))))

  -- ---- loads

  -- the kind of a number that is loaded from memory is well formed
  pub loaded_words : (size : AccessSize) (signed : Bool) → IsKindAt bound (loaded size signed)
  loaded_words size true = omega arith
  loaded_words Byte false = omega arith
  loaded_words Half false = omega arith
  loaded_words Word false = omega arith
  loaded_words Double false = omega arith

  slot_read : (t : Slot) (bits : ℕ) (size : AccessSize) (signed : Bool)
      → IsSlotAt bound t → OkIs (IsKindAt bound) (read_slot t bits size signed)
  slot_read (Spill k) bits size signed h =
      cond_both (is_double size) (Ok k) (Err PartOfSpill) (OkIs (IsKindAt bound)) (λ _. h) (λ _. tt)
  slot_read (Bytes mask) bits size signed h =
      cond_both (bit_and mask bits == bits) (Ok (loaded size signed)) (Err UnwrittenStack)
      (OkIs (IsKindAt bound)) (λ _. loaded_words size signed)
      (λ _. tt)

  -- the kind that well-formed facts predict for a load from the stack is well formed
  pub read_words : (f : Facts) (offset : ℤ) (size : AccessSize) (signed : Bool)
      → AreWellFormedAt bound f → OkIs (IsKindAt bound) (stack_read f offset size signed)
  read_words f offset size signed h =
      then_ok AreSmall (IsKindAt bound) (touched offset size)
      (λ t. read_slot (slot_at f t.0) t.1 size signed) (touched_small offset size)
      (λ t _. slot_read (slot_at f t.0) t.1 size signed (h.slots t.0))

  -- ---- stores

  over_words : (t : Slot) (bits : ℕ) → bits < 256 → IsSlotAt bound t → IsSlotAt bound (bytes_over t bits)
  over_words (Bytes mask) bits small h = or_lt 8 mask bits h small
  over_words (Spill k) bits small h = small

  written_slot : (t : Slot) (bits : ℕ) (size : AccessSize) (k : Kind)
      → bits < 256 → IsSlotAt bound t
      → IsKindAt bound k
      → OkIs (IsSlotAt bound) (slot_written t bits size k)
  written_slot t bits size k small h is =
      cond_both (is_pointer k) _ _ (OkIs (IsSlotAt bound))
      (λ _. cond_both (is_double size) (Ok (Spill k)) (Err PartOfSpill) (OkIs (IsSlotAt bound)) (λ _. is) (λ _. tt))
      (λ _. over_words t bits small h)

  module _ (f : Facts) (h : AreWellFormedAt bound f) where
    facts_words : (size : AccessSize) (k : Kind)
        → IsKindAt bound k → (t : ℕ × ℕ) → AreSmall t
        → OkIs (AreWellFormedAt bound) (facts_written f size k t)
    facts_words size k is t small =
        then_ok (IsSlotAt bound) (AreWellFormedAt bound) (slot_written (slot_at f t.0) t.1 size k)
        (λ s. Ok (with_slot f t.0 s))
        (written_slot (slot_at f t.0) t.1 size k small (h.slots t.0) is)
        (λ s. slot_words f t.0 s h)

    write_words : (offset : ℤ) (size : AccessSize) (k : Kind)
        → IsKindAt bound k → OkIs (AreWellFormedAt bound) (stack_write f offset size k)
    write_words offset size kind.Unreadable is = tt
    write_words offset size k is =
        then_ok AreSmall (AreWellFormedAt bound) (touched offset size) (facts_written f size k)
        (touched_small offset size) (facts_words size k is)

  -- after a store of a kind that is well formed into the stack, the facts are still well formed
  pub written_words : (f : Facts) (offset : ℤ) (size : AccessSize) (k : Kind)
      → AreWellFormedAt bound f → IsKindAt bound k
      → OkIs (AreWellFormedAt bound) (stack_write f offset size k)
  written_words f offset size k h is = write_words f h offset size k is

  -- ---- tests of look-ups

  value_words : (null : Bool) (m : ℕ) → IsKindAt bound (settled_value null m)
  value_words true m = omega arith
  value_words false m = tt

  spill_words : (null : Bool) (m : ℕ) → IsSlotAt bound (settled_spill null m)
  spill_words true m = omega arith
  spill_words false m = tt

  kind_settled_words : (site : ℕ) (null : Bool) (k : Kind)
      → IsKindAt bound k → IsKindAt bound (kind_settled site null k)
  kind_settled_words site null (kind.MaybeValue m s) h =
      cond_both (s == site) (settled_value null m) (kind.MaybeValue m s) (IsKindAt bound)
      (λ _. value_words null m) (λ _. h)
  kind_settled_words site null k h = h

  slot_settled_words : (site : ℕ) (null : Bool) (t : Slot)
      → IsSlotAt bound t → IsSlotAt bound (slot_settled site null t)
  slot_settled_words site null (Spill (kind.MaybeValue m s)) h =
      cond_both (s == site) (settled_spill null m) (Spill (kind.MaybeValue m s)) (IsSlotAt bound)
      (λ _. spill_words null m) (λ _. h)
  slot_settled_words site null t h = h

  -- after a null test settles a look-up, the facts are still well formed
  pub settled_words : (f : Facts) (site : ℕ) (null : Bool)
      → AreWellFormedAt bound f → AreWellFormedAt bound (facts_settled site null f)
  settled_words f site null h =
      record {
        registers = λ r.
            in_table (IsKindAt bound) (λ r. kind_settled site null (kind_at f r)) 11 r
            kind.Unreadable
            (kind_settled_words site null (kind_at f r) (h.registers r))
            tt;
        slots = λ i.
            in_table (IsSlotAt bound) (λ i. slot_settled site null (slot_at f i)) 64 i (Bytes 0)
            (slot_settled_words site null (slot_at f i) (h.slots i))
            no_bytes;
      }

  -- ---- calls

  -- after a helper writes bytes into the stack, the facts are still well formed
  pub filled_words : (f : Facts) (x : ℤ) (lo hi : ℕ)
      → AreWellFormedAt bound f → OkIs (AreWellFormedAt bound) (stack_filled f x lo hi)
  filled_words f x lo hi h =
      let over =
      λ (i : ℕ).
      if touches (byte_index x) hi i then bytes_over (slot_at f i) (bits_in (byte_index x) lo i) else slot_at f i in
      cond_both (is_in_stack x hi) (Ok (filled f x lo hi)) (Err OutsideStack) (OkIs (AreWellFormedAt bound))
      (λ _. record {
        registers = h.registers;
        slots = λ i. in_table (IsSlotAt bound) over 64 i (Bytes 0)
            (cond_both (touches (byte_index x) hi i)
            (bytes_over (slot_at f i) (bits_in (byte_index x) lo i))
            (slot_at f i) (IsSlotAt bound)
            (λ _. over_words (slot_at f i) (bits_in (byte_index x) lo i) (bits_in_small (byte_index x) lo i) (h.slots i))
            (λ _. h.slots i))
            no_bytes;
      })
      (λ _. tt)

  -- after a call that returns a kind that is well formed, the facts are still well formed
  pub called_words : (f : Facts) (k : Kind)
      → AreWellFormedAt bound f → IsKindAt bound k
      → AreWellFormedAt bound (called_facts f k)
  called_words f k h is =
      record {
        registers = λ r. in_table (IsKindAt bound) (call_kind f k) 11 r kind.Unreadable
            (cond_both (r == 0) k
            (if nat_le r 5 then kind.Unreadable else kind_at f r)
            (IsKindAt bound) (λ _. is)
            (λ _. cond_both (nat_le r 5) kind.Unreadable (kind_at f r) (IsKindAt bound) (λ _. tt) (λ _. h.registers r)))
            tt;
        slots = h.slots;
      }
