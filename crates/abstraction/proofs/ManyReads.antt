-- Reads of bytes across slots of the stack, if the facts say that these bytes are written.
use Rattle.std.proofs.Common.{◌≡◌, ℕ, zero, suc, ◌+◌, ◌*◌, ◌/◌, ◌%◌, ◌<◌, ◌≤◌, ltb, ◌==◌, bit_and, ℤ, Bool, true, false, not}
use Rattle.std.proofs.Common.{if◌then◌else◌, List, length, Some, None, Result, Ok, Err, refl, sym, subst, ◌∙◌, ⊎_elim, arith}
use Rattle.std.specs.Int.{bit_at}
use Rattle.std.proofs.lemmas.Bool.{cond-true, and_from, eqb-true, lt-ltb, cases_lt, false≢true, or_parts, not-false}
use Rattle.reg_kinds.specs.declared.kind.Slot.{Slot}
use Rattle.reg_kinds.specs.declared.kind.Slot.TheVariants as slot
use Rattle.reg_kinds.specs.declared.facts.Facts.{Facts}
use Rattle.reg_kinds.specs.declared.reason.Reason.{Reason}
use Rattle.reg_kinds.specs.declared.reason.Reason.TheVariants.{OutsideStack, UnwrittenStack, PartOfSpill}
use Rattle.reg_kinds.specs.Kinds.{slot_at}
use Rattle.words.specs.Stack.{is_in_stack, byte_index, touches}
use Rattle.words.specs.StackLaws.{in_stack, each_slot_fails}
use Rattle.reg_kinds.specs.Many.{bits_in, is_touched_spill, touches_spill, lacks, has_unwritten_byte, stack_input}
use Rattle.tagged_model.specs.Cells.{Cell, byte_at, gathered}
use Rattle.tagged_model.specs.State.{RunState, stack_byte, stack_bytes}
use Rattle.tagged_model.specs.StateInvariant.{IsInRange}
use Rattle.words.specs.Bytes.{AreBytes}
use Rattle.abstraction.specs.Admits.{Witness, HasSlot, AdmitsBy}
use Rattle.abstraction.proofs.CellBytes.{all_read}
use Rattle.abstraction.proofs.MaskBits.{bit_in, each_in_mask}
use Rattle.abstraction.proofs.StackAccesses.{refused}

-- ---- the conditions of a read

record MayRead (f : Facts) (x : ℤ) (n : ℕ) : Type 0 where
  within : is_in_stack x n ≡ true
  spills : (i : ℕ) → i < 64 → is_touched_spill (slot_at f i) (touches (byte_index x) n i) ≡ false
  there : (i : ℕ) → i < 64 → lacks (slot_at f i) (bits_in (byte_index x) n i) ≡ false

may_read : (f : Facts) (x : ℤ) (n : ℕ) → stack_input f x n ≡ Ok tt → MayRead f x n
may_read f x n e =
    let h =
    passed (is_in_stack x n)
    (touches_spill f (byte_index x) n)
    (has_unwritten_byte f (byte_index x) n)
    e in
    record {
      within = h.0;
      spills = each_slot_fails (λ i. is_touched_spill (slot_at f i) (touches (byte_index x) n i)) h.1;
      there = each_slot_fails (λ i. lacks (slot_at f i) (bits_in (byte_index x) n i)) h.2;
    }
  where
    passed : (a b c : Bool)
        → ◌≡◌ {A = Result (Unit {0}) Reason}
        (if not a then Err OutsideStack else (if b then Err PartOfSpill else (if c then Err UnwrittenStack else Ok tt)))
        (Ok tt)
        → (a ≡ true) × (b ≡ false) × (c ≡ false)
    passed true false false e = (refl, refl, refl)
    passed true false true e = absurd (refused UnwrittenStack tt e)
    passed true true c e = absurd (refused PartOfSpill tt e)
    passed false b c e = absurd (refused OutsideStack tt e)

-- if all bits of an access are set in the mask, and bit j is one of them, it is set in the mask
set_there : (mask bits j : ℕ) → not (bit_and mask bits == bits) ≡ false → bit_at bits j ≡ 1 → bit_at mask j ≡ 1
set_there mask bits j e one =
    each_in_mask mask bits j (eqb-true (bit_and mask bits) bits (not-false (bit_and mask bits == bits) e)) one

slot_there : (witness : Witness) (t : Slot) (c : Cell) (p n i j : ℕ)
    → j < 8 → p ≤ 8 * i + j
    → 8 * i + j < p + n → HasSlot witness t c
    → is_touched_spill t (touches p n i) ≡ false → lacks t (bits_in p n i) ≡ false
    → (b : ℕ) × (byte_at c j ≡ Some b)
slot_there witness (slot.Bytes mask) c p n i j few from to has s l =
    has j few (set_there mask (bits_in p n i) j l (bit_in p n i j few from to))
slot_there witness (slot.Spill k) c p n i j few from to has s l =
    absurd (false≢true (sym s
    ∙ and_from (ltb p (8 * i + 8)) (ltb (8 * i) (p + n)) (lt-ltb p (8 * i + 8) (omega arith))
    (lt-ltb (8 * i) (p + n) (omega arith))))

pub stack_read_many : (witness : Witness) (f : Facts) (s : RunState) (x : ℤ) (n : ℕ)
    → IsInRange s → AdmitsBy witness f s
    → stack_input f x n ≡ Ok tt
    → (bs : List ℕ) × (stack_bytes s x n ≡ Some bs) × (length bs ≡ n) × AreBytes bs
stack_read_many witness f s x n proper admits e =
    let may = may_read f x n e in
    let p = byte_index x in
    let within = (in_stack n x may.within).1 in
    let there : (k : ℕ) → k < n → (b : ℕ) × (stack_byte s (p + k) ≡ Some b) = λ k lt.
    let i = (p + k) / 8 in let j = (p + k) % 8 in let fits : i < 64 = omega arith in
    slot_there witness (slot_at f i) (s.cells i) p n i j (omega arith) (omega arith) (omega arith)
    (admits.slots i) (may.spills i fits) (may.there i fits) in
    let read = all_read (stack_byte s) n p (λ q b h. proper.bytes (q / 8) (q % 8) b h) there in (
      read.list,
      cond-true (is_in_stack x n) (gathered (stack_byte s) p n) None may.within ∙ read.read,
      read.count,
      read.bytes,
    )
