-- Each field of an instruction's first slot has a value that its form lists, and fits its bits.
use Rattle.std.proofs.Common.{◌≡◌, ℕ, ◌+◌, ◌^◌, ◌<◌, ◌≤◌, Bool, true, false, ◌||◌, refl, ap, arith, lit≤, lit<}
use Rattle.std.specs.Prelude.{IsTrue, FitsSigned, ℤ, is_some}
use Rattle.std.specs.Int.{w16, w32}
use Rattle.std.proofs.lemmas.Int.{ints}
use Rattle.insn_set.specs.declared.slot.SlotFields.{SlotFields}
use Rattle.words.specs.declared.operator.AluOp.{AluOp}
use Rattle.words.specs.declared.operator.AluOp.TheVariants as op
use Rattle.words.specs.declared.operator.ByteOrder.{ByteOrder}
use Rattle.words.specs.declared.operator.KeptBits.{KeptBits}
use Rattle.words.specs.declared.operator.KeptBits.TheVariants as bits
use Rattle.words.specs.declared.operator.ExtendedBits.{ExtendedBits}
use Rattle.words.specs.declared.operator.ExtendedBits.TheVariants as narrow
use Rattle.insn_set.specs.declared.atomic.AtomicOp.{AtomicOp}
use Rattle.insn_set.specs.declared.atomic.AtomicOp.TheVariants as atomic
use Rattle.insn_set.specs.declared.insn.Operand.{Operand}
use Rattle.insn_set.specs.declared.insn.Operand.TheVariants as operand
use Rattle.insn_set.specs.declared.insn.Insn.{Insn}
use Rattle.insn_set.specs.declared.insn.Insn.TheVariants.{Alu, Movsx, End, Jump, Store, Atomic}
use Rattle.insn_codec.specs.declared.opcode.SourceBit.TheVariants as source
use Rattle.insn_codec.specs.inside.OpcodeForm as form
use Rattle.words.specs.Operate.{is_short}
use Rattle.insn_set.specs.Numbers.{opcode, alu_class, jump_class, end_opcode, memory_opcode, offset_bits, imm_bits}
use Rattle.insn_set.specs.Condition.{condition_number}
use Rattle.words.specs.Operate.{extended_bits, kept_bits}
use Rattle.insn_codec.specs.inside.Form.{fields_allowed, one_operand, offset_listed}
use Rattle.insn_set.specs.Slot.{slot}
use Rattle.insn_codec.proofs.Slots.{IsSlot}
use Rattle.insn_set.specs.Spelling.{first, source_bit, src_field, imm_field, IsOperandUpTo, IsInsnUpTo}
use Rattle.insn_set.specs.Atomic.{atomic_number}
use Rattle.insn_set.specs.RowLaws.{unsigned_of, atomic_number_again}
use Rattle.insn_set.specs.Operator.{alu_number, alu_offset}
use Rattle.insn_codec.proofs.Opcodes.{source_of, form_of}

-- ---- each field has a value that the form lists

offset_listed-alu : (wide : Bool) (o : AluOp) (src : Operand) → offset_listed wide (unsigned_of o) (source_of src) (alu_offset o) ≡ true
offset_listed-alu wide op.Mov (operand.Imm n) = refl
offset_listed-alu wide op.Mov (operand.Reg r) = refl
offset_listed-alu wide _ src = refl

offset_listed-movsx : (wide : Bool) (b : ExtendedBits) → IsTrue (wide || is_short b) → offset_listed wide op.Mov source.Reg (extended_bits b) ≡ true
offset_listed-movsx wide narrow.Bits8 h = refl
offset_listed-movsx wide narrow.Bits16 h = refl
offset_listed-movsx true narrow.Bits32 h = refl
offset_listed-movsx false narrow.Bits32 h = absurd cc

one_operand-fields : (o : Operand) (op dst offset : ℕ) → one_operand (source_of o) (slot op dst (src_field o) offset (imm_field o)) ≡ true
one_operand-fields (operand.Imm n) op dst offset = refl
one_operand-fields (operand.Reg r) op dst offset = refl

bits_listed : (b : KeptBits) (op dst : ℕ) (how : ByteOrder) → fields_allowed (form.End how) (slot op dst 0 0 (kept_bits b)) ≡ true
bits_listed bits.Bits16 op dst how = refl
bits_listed _ op dst how = refl

-- each field of an instruction's first slot has a value that the instruction's form lists
pub listed-first : (i : Insn) → fields_allowed (form_of i) (first i) ≡ true
listed-first (Alu wide o dst src) =
    rw (one_operand-fields src (opcode (alu_number o) (source_bit src) (alu_class wide)) dst (alu_offset o)) (offset_listed-alu wide o src)
listed-first (Movsx m) = offset_listed-movsx m.wide m.bits m.listed
listed-first (End how width dst) = bits_listed width (end_opcode how) dst how
listed-first (Jump wide condition dst src off) =
    one_operand-fields src (opcode (condition_number condition) (source_bit src) (jump_class wide)) dst (offset_bits off)
listed-first (Store s dst src off) = one_operand-fields src (memory_opcode 3 s (2 + source_bit src)) dst (offset_bits off)
listed-first (Atomic s o dst src off) = ap is_some (atomic_number_again o)
listed-first _ = refl

-- ---- each field of the first slot fits its bits

zero_le : (n : ℕ) → 0 ≤ n
zero_le n = omega arith

alu_offset_le : (o : AluOp) → alu_offset o ≤ 1
alu_offset_le op.Add = lit≤ tt
alu_offset_le _ = lit≤ tt

extended_bits_le : (b : ExtendedBits) → extended_bits b ≤ 32
extended_bits_le narrow.Bits8 = lit≤ tt
extended_bits_le _ = lit≤ tt

kept_bits_le : (b : KeptBits) → kept_bits b ≤ 64
kept_bits_le bits.Bits16 = lit≤ tt
kept_bits_le _ = lit≤ tt

atomic_number_lt : (o : AtomicOp) → atomic_number o < 2 ^ 32
atomic_number_lt atomic.Add = lit< tt
atomic_number_lt _ = lit< tt

offset_bits_lt : (z : ℤ) → FitsSigned w16 z → offset_bits z < 2 ^ 16
offset_bits_lt z h = omega (arith, ints)

imm_bits_lt : (z : ℤ) → FitsSigned w32 z → imm_bits z < 2 ^ 32
imm_bits_lt z h = omega (arith, ints)

src_field_le : (top : ℕ) (o : Operand) → IsOperandUpTo top o → src_field o ≤ top
src_field_le top (operand.Imm n) h = zero_le top
src_field_le top (operand.Reg r) h = h

imm_field_lt : (top : ℕ) (o : Operand) → IsOperandUpTo top o → imm_field o < 2 ^ 32
imm_field_lt top (operand.Imm n) h = imm_bits_lt n h
imm_field_lt top (operand.Reg r) h = lit< tt

-- registers up to a number, and fields that fit their bits
pub record IsFront (top : ℕ) (s : SlotFields) : Type 0 where
  -- the destination register is at most `top`
  pub dst : s.dst ≤ top
  -- the source register is at most `top`
  pub src : s.src ≤ top
  -- the offset fits 16 bits
  pub offset : s.offset < 2 ^ 16
  -- the immediate fits 32 bits
  pub imm : s.imm < 2 ^ 32

-- the first slot of an instruction has the instruction's bound of registers, 2 or more, and fields that fit
pub IsFront-first : (top : ℕ) (i : Insn) → 2 ≤ top → IsInsnUpTo top i → IsFront top (first i)
IsFront-first top (Alu wide o dst src) some h = record {
  dst = h.0;
  src = src_field_le top src h.1;
  offset = omega (arith, alu_offset_le o);
  imm = imm_field_lt top src h.1;
}
IsFront-first top (Movsx m) some h = record { dst = h.0; src = h.1; offset = omega (arith, extended_bits_le m.bits); imm = lit< tt }
IsFront-first top (End how width dst) some h = record { dst = h; src = zero_le top; offset = lit< tt; imm = omega (arith, kept_bits_le width) }
IsFront-first top (Jump wide condition dst src off) some h = record {
  dst = h.0;
  src = src_field_le top src h.1;
  offset = offset_bits_lt off h.2;
  imm = imm_field_lt top src h.1;
}
IsFront-first top (Store s dst src off) some h = record {
  dst = h.0;
  src = src_field_le top src h.1;
  offset = offset_bits_lt off h.2;
  imm = imm_field_lt top src h.1;
}
IsFront-first top (Atomic s o dst src off) some h = record { dst = h.0; src = h.1; offset = offset_bits_lt off h.2; imm = atomic_number_lt o }
IsFront-first top _ some h = record { dst = omega arith; src = omega arith; offset = omega (arith, ints); imm = omega (arith, ints) }

-- with registers up to a bound of at most 15, all fields of a slot fit their bits
pub IsSlot-front : {top : ℕ} {s : SlotFields} → top ≤ 15 → IsFront top s → IsSlot s
IsSlot-front few h = record { dst = omega (arith, h.dst, few); src = omega (arith, h.src, few); offset = h.offset; imm = h.imm }
