-- Loads from a cell of the stack.
use Rattle.std.proofs.Common.{◌≡◌, ℕ, ◌+◌, ◌/◌, ◌%◌, ◌<◌, ◌==◌, ℤ, bit_and, Bool, true, false, Some, Ok, refl, sym, ap, subst, ◌∙◌, inl, inr, arith}
use Rattle.std.proofs.lemmas.Bool.{eqb-true}
use Rattle.std.proofs.lemmas.Option.{none-some}
use Rattle.words.specs.declared.stack.AccessSize.{AccessSize}
use Rattle.words.specs.declared.stack.AccessSize.TheVariants.{Double}
use Rattle.words.specs.Bytes.{number_of}
use Rattle.words.specs.Stack.{bytes_of, byte_index}
use Rattle.words.specs.StackLaws.{in_one_slot}
use Rattle.reg_kinds.specs.declared.reason.Reason.TheVariants.{UnwrittenStack, PartOfSpill}
use Rattle.reg_kinds.specs.declared.kind.Kind.{Kind}
use Rattle.reg_kinds.specs.declared.kind.Kind.TheVariants as kind
use Rattle.reg_kinds.specs.declared.kind.Slot.{Slot}
use Rattle.reg_kinds.specs.declared.kind.Slot.TheVariants as slot
use Rattle.reg_kinds.specs.declared.facts.Facts.{Facts}
use Rattle.reg_kinds.specs.Kinds.{slot_at}
use Rattle.reg_kinds.specs.Stack.{byte_bits, loaded, read_slot, stack_read}
use Rattle.tagged_model.specs.declared.value.Tagged.{Tagged}
use Rattle.tagged_model.specs.declared.value.Tagged.TheVariants.{Scalar}
use Rattle.tagged_model.specs.Cells.{Cell, holds, bytes, and_then, byte_at, widened, number_from, read_cell}
use Rattle.tagged_model.specs.State.{RunState, stack_load}
use Rattle.tagged_model.specs.StateInvariant.{IsInRange}
use Rattle.abstraction.specs.Admits.{Witness, IsOfKind, HoldsNull, HasBytes, HasSlot, AdmitsBy}
use Rattle.abstraction.proofs.CellBytes.{AreBytes, AreRead, all_read, zeros_read}
use Rattle.abstraction.proofs.MaskBits.{in_mask}
use Rattle.abstraction.proofs.Numbers.{widened_is}
use Rattle.abstraction.proofs.StackAccesses.{refused, same_ok, chosen, at_byte_index, some_bytes}

-- ---- the value of a load of a cell

abbrev Gives : Witness → Cell → ℕ → AccessSize → Bool → Kind → Type 0
Gives witness c j size signed k = (v : Tagged) × (read_cell c j size signed ≡ Some v) × IsOfKind witness k v

bytes_give : (witness : Witness) (c : Cell) (j : ℕ) (size : AccessSize) (signed : Bool)
    → (b : ℕ) × (byte_at c (j + 0) ≡ Some b) → AreRead (byte_at c) j (bytes_of size)
    → Gives witness c j size signed (loaded size signed)
bytes_give witness (holds v) j size signed first r = absurd (none-some first.0 first.1)
bytes_give witness (bytes b) j size signed first r = (
  Scalar (widened size signed (number_of r.list)),
  ap (number_from size signed) r.read,
  widened_is witness size signed (number_of r.list) r.small,
)

written_give : (witness : Witness) (mask : ℕ) (c : Cell) (p : ℕ) (size : AccessSize) (signed : Bool)
    → AreBytes c → p % bytes_of size ≡ 0
    → HasBytes mask c
    → bit_and mask (byte_bits p (bytes_of size)) ≡ byte_bits p (bytes_of size)
    → Gives witness c (p % 8) size signed (loaded size signed)
written_give witness mask c p size signed small even has e =
    let n = bytes_of size in
    let fits = in_one_slot size p even in
    let there : (k : ℕ) → k < n → (b : ℕ) × (byte_at c (p % 8 + k) ≡ Some b) =
    λ k lt. has (p % 8 + k) (omega arith) (in_mask mask p n k lt e) in
    bytes_give witness c (p % 8) size signed (there 0 (some_bytes size)) (all_read (byte_at c) n (p % 8) small there)

-- eight zero bytes are read as 0, with a sign or without
null_read : (c : Cell) (signed : Bool)
    → ((j : ℕ) → j < 8 → byte_at c j ≡ Some 0) → read_cell c 0 Double signed ≡ Some (Scalar 0)
null_read (holds v) signed zeros = absurd (none-some 0 (zeros 0 (omega arith)))
null_read (bytes b) true zeros =
    let r = zeros_read b 8 0 (λ k lt. ap (byte_at (bytes b)) (omega arith) ∙ zeros k lt) in
    ap (number_from Double true) r.1 ∙ ap (λ n. Some (Scalar (widened Double true n))) r.2
null_read (bytes b) false zeros =
    let r = zeros_read b 8 0 (λ k lt. ap (byte_at (bytes b)) (omega arith) ∙ zeros k lt) in
    ap (number_from Double false) r.1 ∙ ap (λ n. Some (Scalar n)) r.2

null_gives : (witness : Witness) (k : Kind) (c : Cell) (j : ℕ) (signed : Bool)
    → j ≡ 0 → HoldsNull witness k c → Gives witness c j Double signed k
null_gives witness (kind.MaybeValue m s) c j signed z h = (
  Scalar 0,
  ap (λ i. read_cell c i Double signed) z ∙ null_read c signed h.1,
  (sym h.0, inl refl),
)
null_gives witness k c j signed z h = absurd h

cell_gives : (witness : Witness) (t : Slot) (c : Cell) (p : ℕ) (size : AccessSize) (signed : Bool)
    (k : Kind)
    → AreBytes c → p % bytes_of size ≡ 0
    → HasSlot witness t c
    → read_slot t (byte_bits p (bytes_of size)) size signed ≡ Ok k
    → Gives witness c (p % 8) size signed k
cell_gives witness (slot.Bytes mask) c p size signed k small even has e =
    let bits = byte_bits p (bytes_of size) in
    let h = chosen (bit_and mask bits == bits) (loaded size signed) k UnwrittenStack e in
    subst (Gives witness c (p % 8) size signed) h.1
    (written_give witness mask c p size signed small even has (eqb-true (bit_and mask bits) bits h.0))
cell_gives witness (slot.Spill l) c p Double signed k small even (inl h) e =
    (h.0, ap (λ d. read_cell d (p % 8) Double signed) h.1, subst (λ x. IsOfKind witness x h.0) (same_ok l k e) h.2)
cell_gives witness (slot.Spill l) c p Double signed k small even (inr h) e =
    subst (Gives witness c (p % 8) Double signed) (same_ok l k e) (null_gives witness l c (p % 8) signed even h)
cell_gives witness (slot.Spill l) c p size signed k small even has e = absurd (refused PartOfSpill k e)

-- ---- loads from the stack

-- if the facts allow a load from the stack, it gives a value of the kind that they predict
pub stack_gives : (witness : Witness) (f : Facts) (s : RunState) (offset : ℤ) (size : AccessSize)
    (signed : Bool) (k : Kind)
    → IsInRange s → AdmitsBy witness f s
    → stack_read f offset size signed ≡ Ok k
    → (v : Tagged) × (stack_load s offset size signed ≡ Some v) × IsOfKind witness k v
stack_gives witness f s offset size signed k proper admits e =
    let p = byte_index offset in
    let at = at_byte_index offset size (λ t. read_slot (slot_at f t.0) t.1 size signed) k e in
    let r =
    cell_gives witness (slot_at f (p / 8)) (s.cells (p / 8)) p size signed k (proper.bytes (p / 8))
    at.1 (admits.slots (p / 8)) at.2 in
    (r.0, ap (λ o. and_then o (λ q. read_cell (s.cells (q / 8)) (q % 8) size signed)) at.0 ∙ r.1, r.2)
