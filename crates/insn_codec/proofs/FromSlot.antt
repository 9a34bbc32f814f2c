-- A slot whose fields its form lists is the first slot of an instruction.
use Rattle.std.proofs.Common.{◌≡◌, ℕ, ◌+◌, ◌*◌, ◌^◌, ◌<◌, ◌≤◌, Bool, true, false, cond, ◌&&◌, ◌||◌, ltb}
use Rattle.std.proofs.Common.{leb, eqb, Option, Some, None, refl, sym, ap, ◌∙◌, arith, inl, inr, ◌⊎◌}
use Rattle.std.specs.Prelude.{IsTrue, not, FitsSigned, is_some, ◌==◌}
use Rattle.std.specs.Int.{w16, w32, cast_signed}
use Rattle.std.proofs.Math.Facts.{sfits_to_z}
use Rattle.std.proofs.lemmas.Bool.{false≢true, and_parts, cond_both, eqb-true, ltb-true, ltb-false}
use Rattle.std.proofs.lemmas.Bool.Decides.{nat_tests}
use Rattle.std.proofs.lemmas.Int.{of_z-to_z}
use Rattle.insn_set.specs.declared.slot.SlotFields.{SlotFields}
use Rattle.words.specs.declared.operator.ExtendedBits.{ExtendedBits}
use Rattle.words.specs.declared.operator.ExtendedBits.TheVariants as narrow
use Rattle.words.specs.declared.operator.AluOp.{AluOp}
use Rattle.words.specs.declared.operator.AluOp.TheVariants as op
use Rattle.words.specs.declared.stack.AccessSize.{AccessSize}
use Rattle.words.specs.declared.stack.AccessSize.TheVariants as size
use Rattle.words.specs.Stack.{is_double}
use Rattle.insn_set.specs.declared.insn.Insn.TheVariants.{Alu, Const, MapFd, MapValue}
use Rattle.insn_set.specs.declared.atomic.AtomicOp.{AtomicOp}
use Rattle.insn_codec.specs.declared.opcode.SourceBit.{SourceBit}
use Rattle.insn_codec.specs.declared.opcode.SourceBit.TheVariants as source
use Rattle.insn_codec.specs.inside.OpcodeForm.{OpcodeForm}
use Rattle.insn_codec.specs.inside.OpcodeForm as form
use Rattle.words.specs.Operate.{is_short}
use Rattle.insn_set.specs.Numbers.{opcode, alu_class, offset_bits, imm_bits}
use Rattle.insn_set.specs.Operator.{alu_number, alu_offset}
use Rattle.insn_set.specs.Load.{load_opcode}
use Rattle.insn_set.specs.Atomic.{atomic_number}
use Rattle.insn_set.specs.RowLaws.{atomic_number_is}
use Rattle.insn_set.specs.AtomicRows.{atomic_by_number}
use Rattle.words.specs.Operate.{extended_bits, kept_bits}
use Rattle.insn_codec.specs.inside.Opcodes.{opcode_of}
use Rattle.insn_codec.specs.inside.Form.{fields_allowed, is_form, one_operand, offset_listed}
use Rattle.insn_set.specs.Slot.{slot}
use Rattle.insn_set.specs.Spelling.{first, source_bit, src_field, imm_field, IsOperandUpTo, IsInsnUpTo}
use Rattle.insn_codec.proofs.ReadBack.{op_at, narrow_at, bits_at, movsx_at, load_insn, atomic_insn, wide_insn, insn_at}
use Rattle.insn_codec.specs.Spelled.{operand_at, source_number}

slot_same : (s : SlotFields) {op dst src offset imm : ℕ}
    → s.opcode ≡ op → s.dst ≡ dst
    → s.src ≡ src → s.offset ≡ offset
    → s.imm ≡ imm
    → slot op dst src offset imm ≡ s
slot_same s a b c d e = rw (← a, ← b, ← c, ← d, ← e) refl

half_fits : (n : ℕ) → n < 2 ^ 16 → FitsSigned w16 (cast_signed w16 n)
half_fits n h = sfits_to_z {w = w16} record { fits = h }

word_fits : (n : ℕ) → n < 2 ^ 32 → FitsSigned w32 (cast_signed w32 n)
word_fits n h = sfits_to_z {w = w32} record { fits = h }

offset_same : (s : SlotFields) → s.offset < 2 ^ 16 → s.offset ≡ offset_bits (cast_signed w16 s.offset)
offset_same s h = sym (of_z-to_z w16 s.offset h)

imm_same : (s : SlotFields) → s.imm < 2 ^ 32 → s.imm ≡ imm_bits (cast_signed w32 s.imm)
imm_same s h = sym (of_z-to_z w32 s.imm h)

-- the fields that a test finds to be zero
zeros : (a b : ℕ) (rest : Bool) → (eqb a 0 && eqb b 0 && rest) ≡ true → (a ≡ 0) × (b ≡ 0) × (rest ≡ true)
zeros a b rest h = grind (arith, nat_tests)

-- ---- the second operand

source_bit-operand_at : (z : SourceBit) (s : SlotFields) → source_bit (operand_at z s) ≡ source_number z
source_bit-operand_at source.Imm s = refl
source_bit-operand_at source.Reg s = refl

src_field-operand_at : (z : SourceBit) (s : SlotFields) → one_operand z s ≡ true → s.src ≡ src_field (operand_at z s)
src_field-operand_at source.Imm s h = eqb-true s.src 0 h
src_field-operand_at source.Reg s h = refl

imm_field-operand_at : (z : SourceBit) (s : SlotFields) → one_operand z s ≡ true → s.imm < 2 ^ 32 → s.imm ≡ imm_field (operand_at z s)
imm_field-operand_at source.Imm s h fits = imm_same s fits
imm_field-operand_at source.Reg s h fits = eqb-true s.imm 0 h

operand_up_to : (top : ℕ) (z : SourceBit) (s : SlotFields) → s.src ≤ top → s.imm < 2 ^ 32 → IsOperandUpTo top (operand_at z s)
operand_up_to top source.Imm s src fits = word_fits s.imm fits
operand_up_to top source.Reg s src fits = src

-- ---- operations

alu_number-op_at : (o : AluOp) (offset : ℕ) → alu_number (op_at o offset) ≡ alu_number o
alu_number-op_at op.Div offset = grind (arith, nat_tests)
alu_number-op_at op.Mod offset = grind (arith, nat_tests)
alu_number-op_at _ offset = refl

alu_offset-op_at : (wide : Bool) (o : AluOp) (z : SourceBit) (offset : ℕ)
    → IsTrue (alu_offset o == 0) → offset_listed wide o z offset ≡ true
    → offset < 8
    → offset ≡ alu_offset (op_at o offset)
alu_offset-op_at wide op.SignedDiv z offset unsigned h few = absurd (false≢true unsigned)
alu_offset-op_at wide op.SignedMod z offset unsigned h few = absurd (false≢true unsigned)
alu_offset-op_at wide op.Mov source.Imm offset unsigned h few = grind (arith, nat_tests)
alu_offset-op_at wide _ z offset unsigned h few = grind (arith, nat_tests)

-- ---- moves with sign extension

abbrev IsMovsx : Bool → AluOp → SourceBit → ℕ → Type 0
IsMovsx wide c z offset =
    (c ≡ op.Mov) × (z ≡ source.Reg) × (extended_bits (narrow_at offset) ≡ offset) × IsTrue (wide || is_short (narrow_at offset))

is_movsx : (wide : Bool) (c : AluOp) (z : SourceBit) (offset : ℕ) → offset_listed wide c z offset ≡ true → 8 ≤ offset → IsMovsx wide c z offset
is_movsx wide op.Mov source.Reg offset h many = (refl, refl, grind (arith, nat_tests), grind (arith, nat_tests))
is_movsx wide _ z offset h many = absurd (grind (arith, nat_tests))

first-movsx_at : (wide : Bool) (b : ExtendedBits) (dst src : ℕ)
    → IsTrue (wide || is_short b) → first (movsx_at wide b dst src) ≡ slot (opcode 11 1 (alu_class wide)) dst src (extended_bits b) 0
first-movsx_at true b dst src h = refl
first-movsx_at false narrow.Bits32 dst src h = absurd cc
first-movsx_at false _ dst src h = refl

movsx_up_to : (top : ℕ) (wide : Bool) (b : ExtendedBits) (dst src : ℕ) → dst ≤ top → src ≤ top → IsInsnUpTo top (movsx_at wide b dst src)
movsx_up_to top true b dst src d s = (d, s)
movsx_up_to top false narrow.Bits32 dst src d s = tt
movsx_up_to top false _ dst src d s = (d, s)

-- ---- each form

-- the fields of a slot that begins the form
pub record IsOf (f : OpcodeForm) (s : SlotFields) : Type 0 where
  -- an opcode has this form
  pub form : IsTrue (is_form f)
  -- the slot has the opcode of the form
  pub opcode : s.opcode ≡ opcode_of f
  -- each field has a value that the form lists
  pub listed : fields_allowed f s ≡ true
  -- the offset fits 16 bits
  pub offset : s.offset < 2 ^ 16
  -- the immediate fits 32 bits
  pub imm : s.imm < 2 ^ 32

first-alu : {wide : Bool} {c : AluOp} {z : SourceBit} {s : SlotFields}
    → IsOf (form.Alu wide c z) s → s.offset < 8
    → first (Alu wide (op_at c s.offset) s.dst (operand_at z s)) ≡ s
first-alu {wide} {c} {z} {s} h few =
    let parts = and_parts (one_operand z s) (offset_listed wide c z s.offset) h.listed in
    slot_same s
    (rw (alu_number-op_at c s.offset, source_bit-operand_at z s) h.opcode)
    refl (src_field-operand_at z s parts.0)
    (alu_offset-op_at wide c z s.offset h.form parts.1 few)
    (imm_field-operand_at z s parts.0 h.imm)

first-movsx : {wide : Bool} {c : AluOp} {z : SourceBit} {s : SlotFields}
    → IsOf (form.Alu wide c z) s → 8 ≤ s.offset
    → first (movsx_at wide (narrow_at s.offset) s.dst s.src) ≡ s
first-movsx {wide} {c} {z} {s} h many =
    let parts = and_parts (one_operand z s) (offset_listed wide c z s.offset) h.listed in
    let m = is_movsx wide c z s.offset parts.1 many in
    let imm : s.imm ≡ 0 = eqb-true s.imm 0 (rw m.1 at parts.0) in
    first-movsx_at wide (narrow_at s.offset) s.dst s.src m.3
    ∙ slot_same s (omega (arith, h.opcode, ap alu_number m.0, ap source_number m.1)) refl refl (sym m.2) imm

kept_bits-bits_at : (imm : ℕ) → (eqb imm 16 || eqb imm 32 || eqb imm 64) ≡ true → imm ≡ kept_bits (bits_at imm)
kept_bits-bits_at imm h = grind (arith, nat_tests)

first-load_insn : (z : AccessSize) (signed : Bool) (dst src offset : ℕ)
    → IsTrue (not (signed && is_double z)) → offset < 2 ^ 16
    → first (load_insn z signed dst src (cast_signed w16 offset)) ≡ slot (load_opcode signed z) dst src offset 0
first-load_insn size.Double true dst src offset listed h = absurd (false≢true listed)
first-load_insn _ true dst src offset listed h = rw (of_z-to_z w16 offset h) refl
first-load_insn _ _ dst src offset listed h = rw (of_z-to_z w16 offset h) refl

load_up_to : (top : ℕ) (z : AccessSize) (signed : Bool) (dst src offset : ℕ)
    → dst ≤ top → src ≤ top
    → offset < 2 ^ 16
    → IsInsnUpTo top (load_insn z signed dst src (cast_signed w16 offset))
load_up_to top size.Double true dst src offset d s h = tt
load_up_to top _ true dst src offset d s h = (d, s, half_fits offset h)
load_up_to top _ _ dst src offset d s h = (d, s, half_fits offset h)

-- an immediate by which an atomic operation is found is the number of this operation
pub atomic_of : (imm : ℕ) (o : Option AtomicOp)
    → atomic_by_number imm ≡ o → is_some o ≡ true
    → (op : AtomicOp) × (atomic_by_number imm ≡ Some op) × (imm ≡ atomic_number op)
atomic_of imm None e h = absurd cc
atomic_of imm (Some op) e h = (op, e, sym (atomic_number_is imm op e))

-- the source field of a wide load
wide_src : (src : ℕ) → leb src 2 ≡ true → (src ≡ 0) ⊎ ((src ≡ 1) ⊎ (src ≡ 2))
wide_src src h = grind (arith, nat_tests)

first-wide : {s : SlotFields} → IsOf form.Wide s → first (wide_insn s.src s 0) ≡ s
first-wide {s} h =
    let parts = and_parts (eqb s.offset 0) (leb s.src 2) h.listed in
    let none : s.offset ≡ 0 = eqb-true s.offset 0 parts.0 in
    elim (wide_src s.src parts.1) [
      | inl e ↦ ap (λ n. first (wide_insn n s 0)) e ∙ slot_same s h.opcode refl e none (omega (arith, h.imm))
      | inr (inl e) ↦ ap (λ n. first (wide_insn n s 0)) e ∙ slot_same s h.opcode refl e none (imm_same s h.imm)
      | inr (inr e) ↦ ap (λ n. first (wide_insn n s 0)) e ∙ slot_same s h.opcode refl e none (imm_same s h.imm)
    ]

wide_up_to : (top src : ℕ) (s : SlotFields) → s.dst ≤ top → s.imm < 2 ^ 32 → IsInsnUpTo top (wide_insn src s 0)
wide_up_to top src s dst h =
    cond_both (eqb src 0) (Const s.dst (s.imm + 2 ^ 32 * 0))
    (cond (eqb src 1) (MapFd s.dst (cast_signed w32 s.imm)) (MapValue s.dst (cast_signed w32 s.imm) 0))
    (λ i. IsInsnUpTo top i)
    (λ e. (dst, omega (arith, h)))
    (λ e. cond_both (eqb src 1) (MapFd s.dst (cast_signed w32 s.imm)) (MapValue s.dst (cast_signed w32 s.imm) 0) (λ i. IsInsnUpTo top i)
    (λ e. (dst, word_fits s.imm h)) (λ e. (dst, word_fits s.imm h, omega arith)))

-- the instruction that is read from a slot of a form has this slot as its first one
pub first-insn_at : (f : OpcodeForm) (s : SlotFields) → IsOf f s → first (insn_at f s 0) ≡ s
first-insn_at (form.Alu wide c z) s h =
    cond_both (ltb s.offset 8) (Alu wide (op_at c s.offset) s.dst (operand_at z s)) (movsx_at wide (narrow_at s.offset) s.dst s.src) (λ i. first i ≡ s)
    (λ e. first-alu h (ltb-true s.offset 8 e)) (λ e. first-movsx h (ltb-false s.offset 8 e))
first-insn_at (form.Neg wide) s h =
    let zero = zeros s.src s.offset (eqb s.imm 0) h.listed in
    slot_same s h.opcode refl zero.0 zero.1 (eqb-true s.imm 0 zero.2)
first-insn_at (form.End how) s h =
    let zero = zeros s.src s.offset (eqb s.imm 16 || eqb s.imm 32 || eqb s.imm 64) h.listed in
    slot_same s h.opcode refl zero.0 zero.1 (kept_bits-bits_at s.imm zero.2)
first-insn_at form.Ja s h =
    let zero = zeros s.dst s.src (eqb s.imm 0) h.listed in
    slot_same s h.opcode zero.0 zero.1 (offset_same s h.offset) (eqb-true s.imm 0 zero.2)
first-insn_at form.Jal s h =
    let zero = zeros s.dst s.src (eqb s.offset 0) h.listed in
    slot_same s h.opcode zero.0 zero.1 (eqb-true s.offset 0 zero.2) (imm_same s h.imm)
first-insn_at (form.Jump wide cond z) s h =
    slot_same s (rw (source_bit-operand_at z s) h.opcode) refl (src_field-operand_at z s h.listed) (offset_same s h.offset)
    (imm_field-operand_at z s h.listed h.imm)
first-insn_at form.Call s h =
    let zero = zeros s.dst s.src (eqb s.offset 0) h.listed in
    slot_same s h.opcode zero.0 zero.1 (eqb-true s.offset 0 zero.2) (imm_same s h.imm)
first-insn_at form.Exit s h =
    let parts = and_parts (eqb s.dst 0 && eqb s.src 0 && eqb s.offset 0) (eqb s.imm 0) h.listed in
    let zero = zeros s.dst s.src (eqb s.offset 0) parts.0 in
    slot_same s h.opcode zero.0 zero.1 (eqb-true s.offset 0 zero.2) (eqb-true s.imm 0 parts.1)
first-insn_at (form.Load z signed) s h =
    first-load_insn z signed s.dst s.src s.offset h.form h.offset ∙ slot_same s h.opcode refl refl refl (eqb-true s.imm 0 h.listed)
first-insn_at (form.Store size z) s h =
    slot_same s (rw (source_bit-operand_at z s) h.opcode) refl (src_field-operand_at z s h.listed) (offset_same s h.offset)
    (imm_field-operand_at z s h.listed h.imm)
first-insn_at (form.Atomic size) s h =
    let o = atomic_of s.imm (atomic_by_number s.imm) refl h.listed in
    ap (λ k. first (atomic_insn size k s)) o.1 ∙ slot_same s h.opcode refl refl (offset_same s h.offset) o.2
first-insn_at form.Wide s h = first-wide h

-- the numbers of the instruction that is read from a slot fit, with the bound of the slot's registers
pub insn_at_up_to : (top : ℕ) (f : OpcodeForm) (s : SlotFields) → IsOf f s → s.dst ≤ top → s.src ≤ top → IsInsnUpTo top (insn_at f s 0)
insn_at_up_to top (form.Alu wide c z) s h dst src =
    cond_both (ltb s.offset 8) (Alu wide (op_at c s.offset) s.dst (operand_at z s)) (movsx_at wide (narrow_at s.offset) s.dst s.src) (λ i. IsInsnUpTo top i)
    (λ e. (dst, operand_up_to top z s src h.imm)) (λ e. movsx_up_to top wide (narrow_at s.offset) s.dst s.src dst src)
insn_at_up_to top (form.Neg wide) s h dst src = dst
insn_at_up_to top (form.End how) s h dst src = dst
insn_at_up_to top form.Ja s h dst src = half_fits s.offset h.offset
insn_at_up_to top form.Jal s h dst src = word_fits s.imm h.imm
insn_at_up_to top (form.Jump wide cond z) s h dst src = (dst, operand_up_to top z s src h.imm, half_fits s.offset h.offset)
insn_at_up_to top form.Call s h dst src = word_fits s.imm h.imm
insn_at_up_to top form.Exit s h dst src = tt
insn_at_up_to top (form.Load z signed) s h dst src = load_up_to top z signed s.dst s.src s.offset dst src h.offset
insn_at_up_to top (form.Store size z) s h dst src = (dst, operand_up_to top z s src h.imm, half_fits s.offset h.offset)
insn_at_up_to top (form.Atomic size) s h dst src =
    let o = atomic_of s.imm (atomic_by_number s.imm) refl h.listed in
    rw o.1 (dst, src, half_fits s.offset h.offset)
insn_at_up_to top form.Wide s h dst src = wide_up_to top s.src s dst h.imm
