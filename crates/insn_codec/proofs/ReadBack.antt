-- An instruction is read back from its slots.
use Rattle.std.proofs.Common.{◌≡◌, ℕ, ◌+◌, ◌*◌, ◌/◌, ◌^◌, Bool, true, false, cond, ◌&&◌, ◌||◌, ltb, Option, Some, None, refl, ap, arith}
use Rattle.std.specs.Prelude.{IsTrue, not, FitsSigned, ℤ, ◌==◌}
use Rattle.std.specs.Int.{w16, w32, cast_signed}
use Rattle.std.proofs.Props.{props}
use Rattle.std.proofs.lemmas.Int.{to_z-of_z}
use Rattle.insn_set.specs.declared.slot.SlotFields.{SlotFields}
use Rattle.words.specs.declared.operator.AluOp.{AluOp}
use Rattle.words.specs.declared.operator.AluOp.TheVariants as op
use Rattle.words.specs.declared.operator.KeptBits.{KeptBits}
use Rattle.words.specs.declared.operator.KeptBits.TheVariants as bits
use Rattle.words.specs.declared.operator.ExtendedBits.{ExtendedBits}
use Rattle.words.specs.declared.operator.ExtendedBits.TheVariants as narrow
use Rattle.words.specs.declared.stack.AccessSize.{AccessSize}
use Rattle.words.specs.declared.stack.AccessSize.TheVariants as size
use Rattle.insn_set.specs.declared.atomic.AtomicSize.{AtomicSize}
use Rattle.insn_set.specs.declared.atomic.AtomicOp.{AtomicOp}
use Rattle.insn_set.specs.declared.insn.Operand.{Operand}
use Rattle.insn_set.specs.declared.insn.Operand.TheVariants as operand
use Rattle.insn_set.specs.declared.insn.Insn.{Insn}
use Rattle.insn_set.specs.declared.insn.Insn.TheVariants.{Alu, Movsx, Neg, End, Ja, Jal, Jump, Call, Exit, Load, Store, Atomic, Const, MapFd, MapValue}
use Rattle.insn_codec.specs.inside.OpcodeForm.{OpcodeForm}
use Rattle.insn_codec.specs.inside.OpcodeForm as form
use Rattle.words.specs.Operate.{is_short}
use Rattle.words.specs.Stack.{is_double}
use Rattle.insn_codec.specs.Spelled.{operand_at}
use Rattle.insn_set.specs.Numbers.{opcode, alu_class, jump_class, memory_opcode, offset_bits, imm_bits}
use Rattle.insn_set.specs.Condition.{condition_number}
use Rattle.words.specs.Operate.{extended_bits, kept_bits}
use Rattle.insn_set.specs.RowLaws.{unsigned_of, atomic_number_again}
use Rattle.insn_set.specs.Operator.{alu_number, alu_offset}
use Rattle.insn_set.specs.AtomicRows.{atomic_by_number}
use Rattle.insn_set.specs.Slot.{slot}
use Rattle.insn_set.specs.Spelling.{first, source_bit, src_field, imm_field, IsOperand, IsInsn}
use Rattle.insn_codec.proofs.Opcodes.{source_of, form_of}

-- ---- reading back

abbrev pub op_at : AluOp → ℕ → AluOp
op_at op.Div offset = cond (offset == 0) op.Div op.SignedDiv
op_at op.Mod offset = cond (offset == 0) op.Mod op.SignedMod
op_at o offset = o

abbrev pub narrow_at : ℕ → ExtendedBits
narrow_at offset = cond (offset == 8) narrow.Bits8 (cond (offset == 16) narrow.Bits16 narrow.Bits32)

abbrev pub bits_at : ℕ → KeptBits
bits_at imm = cond (imm == 16) bits.Bits16 (cond (imm == 32) bits.Bits32 bits.Bits64)

abbrev pub movsx_at : Bool → ExtendedBits → ℕ → ℕ → Insn
movsx_at true b dst src = Movsx (record { wide = true; bits = b; dst = dst; src = src; listed = refl })
movsx_at false narrow.Bits8 dst src = Movsx (record { wide = false; bits = narrow.Bits8; dst = dst; src = src; listed = refl })
movsx_at false narrow.Bits16 dst src = Movsx (record { wide = false; bits = narrow.Bits16; dst = dst; src = src; listed = refl })
movsx_at false narrow.Bits32 dst src = Exit

abbrev pub load_insn : AccessSize → Bool → ℕ → ℕ → ℤ → Insn
load_insn z false dst src off = Load (record { size = z; signed = false; dst = dst; src = src; off = off; listed = refl })
load_insn size.Byte true dst src off = Load (record { size = size.Byte; signed = true; dst = dst; src = src; off = off; listed = refl })
load_insn size.Half true dst src off = Load (record { size = size.Half; signed = true; dst = dst; src = src; off = off; listed = refl })
load_insn size.Word true dst src off = Load (record { size = size.Word; signed = true; dst = dst; src = src; off = off; listed = refl })
load_insn size.Double true dst src off = Exit

abbrev pub wide_insn : ℕ → SlotFields → ℕ → Insn
wide_insn src s next =
    cond (src == 0) (Const s.dst (s.imm + 2 ^ 32 * next)) (cond (src == 1) (MapFd s.dst (cast_signed w32 s.imm)) (MapValue s.dst (cast_signed w32 s.imm) next))

abbrev pub atomic_insn : AtomicSize → Option AtomicOp → SlotFields → Insn
atomic_insn z None s = Exit
atomic_insn z (Some o) s = Atomic z o s.dst s.src (cast_signed w16 s.offset)

-- the instruction of a form's slot, and of the number in a second slot
abbrev pub insn_at : OpcodeForm → SlotFields → ℕ → Insn
insn_at (form.Alu wide c z) s next = cond (ltb s.offset 8) (Alu wide (op_at c s.offset) s.dst (operand_at z s)) (movsx_at wide (narrow_at s.offset) s.dst s.src)
insn_at (form.Neg wide) s next = Neg wide s.dst
insn_at (form.End how) s next = End how (bits_at s.imm) s.dst
insn_at form.Ja s next = Ja (cast_signed w16 s.offset)
insn_at form.Jal s next = Jal (cast_signed w32 s.imm)
insn_at (form.Jump wide c z) s next = Jump wide c s.dst (operand_at z s) (cast_signed w16 s.offset)
insn_at form.Call s next = Call (cast_signed w32 s.imm)
insn_at form.Exit s next = Exit
insn_at (form.Load z signed) s next = load_insn z signed s.dst s.src (cast_signed w16 s.offset)
insn_at (form.Store z y) s next = Store z s.dst (operand_at y s) (cast_signed w16 s.offset)
insn_at (form.Atomic z) s next = atomic_insn z (atomic_by_number s.imm) s
insn_at form.Wide s next = wide_insn s.src s next

abbrev pub next : Insn → ℕ
next (Const dst value) = value / 2 ^ 32
next (MapValue dst fd off) = off
next _ = 0

offset_again : (z : ℤ) → FitsSigned w16 z → cast_signed w16 (offset_bits z) ≡ z
offset_again z h = to_z-of_z w16 z h

imm_again : (z : ℤ) → FitsSigned w32 z → cast_signed w32 (imm_bits z) ≡ z
imm_again z h = to_z-of_z w32 z h

operand_again : (o : Operand) (op dst offset : ℕ) → IsOperand o → operand_at (source_of o) (slot op dst (src_field o) offset (imm_field o)) ≡ o
operand_again (operand.Imm n) op dst offset h = ap operand.Imm (imm_again n h)
operand_again (operand.Reg r) op dst offset h = refl

op_again : (o : AluOp) → op_at (unsigned_of o) (alu_offset o) ≡ o
op_again op.Add = refl
op_again _ = refl

alu_offset_below : (o : AluOp) → ltb (alu_offset o) 8 ≡ true
alu_offset_below op.Add = refl
alu_offset_below _ = refl

-- the bits that a conversion keeps are read back from their number
pub bits_again : (b : KeptBits) → bits_at (kept_bits b) ≡ b
bits_again bits.Bits16 = refl
bits_again _ = refl

IsTrue-prop : (b : Bool) → IsProp (IsTrue b)
IsTrue-prop b = hlevel props

movsx_same : (wide : Bool) (b : ExtendedBits) (dst src : ℕ) (p q : IsTrue (wide || is_short b))
    → Movsx (record { wide = wide; bits = b; dst = dst; src = src; listed = p }) ≡ Movsx (record { wide = wide; bits = b; dst = dst; src = src; listed = q })
movsx_same wide b dst src p q =
    ap (λ (h : IsTrue (wide || is_short b)). Movsx (record { wide = wide; bits = b; dst = dst; src = src; listed = h })) (IsTrue-prop (wide || is_short b) p q)

-- a move with sign extension is read back from the number of bits in its offset
pub movsx_again : (wide : Bool) (b : ExtendedBits) (dst src : ℕ) (h : IsTrue (wide || is_short b)) (other : Insn)
    → cond (ltb (extended_bits b) 8) other (movsx_at wide (narrow_at (extended_bits b)) dst src)
    ≡ Movsx (record { wide = wide; bits = b; dst = dst; src = src; listed = h })
movsx_again false narrow.Bits32 dst src h other = absurd cc
movsx_again true narrow.Bits32 dst src h other = movsx_same true narrow.Bits32 dst src refl h
movsx_again wide b dst src h other = movsx_same wide b dst src refl h

load_same : (z : AccessSize) (signed : Bool) (dst src : ℕ) (off : ℤ) (p q : IsTrue (not (signed && is_double z)))
    → Load (record { size = z; signed = signed; dst = dst; src = src; off = off; listed = p })
    ≡ Load (record { size = z; signed = signed; dst = dst; src = src; off = off; listed = q })
load_same z signed dst src off p q =
    ap (λ (h : IsTrue (not (signed && is_double z))). Load (record { size = z; signed = signed; dst = dst; src = src; off = off; listed = h }))
    (IsTrue-prop (not (signed && is_double z)) p q)

-- a load is read back from its size, its sign, its registers and its offset
pub load_again : (z : AccessSize) (signed : Bool) (dst src : ℕ) (off : ℤ) (h : IsTrue (not (signed && is_double z)))
    → load_insn z signed dst src off ≡ Load (record { size = z; signed = signed; dst = dst; src = src; off = off; listed = h })
load_again size.Double true dst src off h = absurd cc
load_again z true dst src off h = load_same z true dst src off refl h
load_again z _ dst src off h = load_same z false dst src off refl h

-- an instruction is read back from its form, its first slot and the number in its second
pub insn_at-first : (i : Insn) → IsInsn i → insn_at (form_of i) (first i) (next i) ≡ i
insn_at-first (Alu wide o dst src) h =
    rw (alu_offset_below o, op_again o, operand_again src (opcode (alu_number o) (source_bit src) (alu_class wide)) dst (alu_offset o) h.1) refl
insn_at-first (Movsx m) h = movsx_again m.wide m.bits m.dst m.src m.listed (Alu m.wide (op_at op.Mov (extended_bits m.bits)) m.dst (operand.Reg m.src))
insn_at-first (Neg wide dst) h = refl
insn_at-first (End how width dst) h = rw (bits_again width) refl
insn_at-first (Ja off) h = ap Ja (offset_again off h)
insn_at-first (Jal off) h = ap Jal (imm_again off h)
insn_at-first (Jump wide condition dst src off) h =
    rw (operand_again src (opcode (condition_number condition) (source_bit src) (jump_class wide)) dst (offset_bits off) h.1, offset_again off h.2) refl
insn_at-first (Call id) h = ap Call (imm_again id h)
insn_at-first Exit h = refl
insn_at-first (Load l) h = rw (offset_again l.off h.2) (load_again l.size l.signed l.dst l.src l.off l.listed)
insn_at-first (Store s dst src off) h = rw (operand_again src (memory_opcode 3 s (2 + source_bit src)) dst (offset_bits off) h.1, offset_again off h.2) refl
insn_at-first (Atomic z o dst src off) h = rw (atomic_number_again o, offset_again off h.2) refl
insn_at-first (Const dst value) h = ap (Const dst) (omega arith)
insn_at-first (MapFd dst fd) h = ap (MapFd dst) (imm_again fd h.1)
insn_at-first (MapValue dst fd off) h = ap (λ (z : ℤ). MapValue dst z off) (imm_again fd h.1)
