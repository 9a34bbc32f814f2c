-- The form of each opcode, and of each instruction's first slot.
use Rattle.std.proofs.Common.{◌≡◌, true, false, Some, refl, sym, ap, ◌∙◌}
use Rattle.std.specs.Prelude.{IsTrue, ◌==◌}
use Rattle.std.proofs.lemmas.Bool.{false≢true}
use Rattle.words.specs.declared.operator.AluOp.{AluOp}
use Rattle.words.specs.declared.operator.AluOp.TheVariants as op
use Rattle.words.specs.declared.operator.ByteOrder.TheVariants.{Little}
use Rattle.words.specs.declared.operator.Condition.TheVariants as conditions
use Rattle.words.specs.declared.stack.AccessSize.TheVariants as size
use Rattle.insn_set.specs.declared.atomic.AtomicSize.TheVariants as atomic_size
use Rattle.insn_set.specs.declared.insn.Operand.{Operand}
use Rattle.insn_set.specs.declared.insn.Operand.TheVariants as operand
use Rattle.insn_set.specs.declared.insn.Insn.{Insn}
use Rattle.insn_set.specs.declared.insn.Insn.TheVariants.{Alu, Movsx, Neg, End, Ja, Jal, Jump, Call, Exit, Load, Store, Atomic, Const, MapFd, MapValue}
use Rattle.insn_codec.specs.declared.opcode.SourceBit.{SourceBit}
use Rattle.insn_codec.specs.declared.opcode.SourceBit.TheVariants as source
use Rattle.insn_codec.specs.inside.OpcodeForm.{OpcodeForm}
use Rattle.insn_codec.specs.inside.OpcodeForm as form
use Rattle.insn_set.specs.Operator.{alu_number, alu_offset}
use Rattle.insn_set.specs.RowLaws.{unsigned_of}
use Rattle.insn_codec.specs.Spelled.{source_number, is_opcode}
use Rattle.insn_codec.specs.inside.Opcodes.{opcode_of}
use Rattle.insn_codec.specs.inside.Form.{form_at, is_form}
use Rattle.insn_set.specs.Spelling.{first, source_bit}

-- ---- the form of an instruction

abbrev pub source_of : Operand → SourceBit
source_of (operand.Imm n) = source.Imm
source_of (operand.Reg r) = source.Reg

abbrev pub form_of : Insn → OpcodeForm
form_of (Alu wide o dst src) = form.Alu wide (unsigned_of o) (source_of src)
form_of (Movsx m) = form.Alu m.wide op.Mov source.Reg
form_of (Neg wide dst) = form.Neg wide
form_of (End how width dst) = form.End how
form_of (Ja off) = form.Ja
form_of (Jal off) = form.Jal
form_of (Jump wide condition dst src off) = form.Jump wide condition (source_of src)
form_of (Call id) = form.Call
form_of Exit = form.Exit
form_of (Load l) = form.Load l.size l.signed
form_of (Store s dst src off) = form.Store s (source_of src)
form_of (Atomic size o dst src off) = form.Atomic size
form_of (Const dst value) = form.Wide
form_of (MapFd dst fd) = form.Wide
form_of (MapValue dst fd off) = form.Wide

-- ---- the form of an opcode

-- the opcode of a form has that form, and is one of the table
known : (f : OpcodeForm) → IsTrue (is_form f) → (form_at (opcode_of f) ≡ Some f) × (is_opcode (opcode_of f) ≡ true)
unfolding form_at is_opcode
known (form.Alu true op.SignedDiv _) h = absurd (false≢true h)
known (form.Alu true op.SignedMod _) h = absurd (false≢true h)
known (form.Alu false op.SignedDiv _) h = absurd (false≢true h)
known (form.Alu false op.SignedMod _) h = absurd (false≢true h)
known (form.Alu _ _ source.Imm) h = (refl, refl)
known (form.Neg true) h = (refl, refl)
known (form.End Little) h = (refl, refl)
known (form.Jump true conditions.Equal source.Imm) h = (refl, refl)
known (form.Jump false conditions.Equal source.Imm) h = (refl, refl)
known (form.Jump _ _ source.Imm) h = (refl, refl)
known (form.Load size.Double true) h = absurd (false≢true h)
known (form.Load _ true) h = (refl, refl)
known (form.Load _ false) h = (refl, refl)
known (form.Store size.Word source.Imm) h = (refl, refl)
known (form.Store _ source.Imm) h = (refl, refl)
known (form.Atomic atomic_size.Word) h = (refl, refl)
known _ h = (refl, refl)

-- the opcode of a form has this form
pub form_at-opcode_of : (f : OpcodeForm) → IsTrue (is_form f) → form_at (opcode_of f) ≡ Some f
form_at-opcode_of f h = (known f h).0

-- the opcode of a form is in the table of opcodes
pub is_opcode-opcode_of : (f : OpcodeForm) → IsTrue (is_form f) → is_opcode (opcode_of f) ≡ true
is_opcode-opcode_of f h = (known f h).1

-- ---- an instruction's first slot is of its form

-- of the operators with one opcode, the unsigned one has offset 0
pub unsigned : (o : AluOp) → IsTrue (alu_offset (unsigned_of o) == 0)
unsigned op.Add = refl
unsigned _ = refl

-- the form of an instruction is one that an opcode has
pub is_form-form_of : (i : Insn) → IsTrue (is_form (form_of i))
is_form-form_of (Alu wide o dst src) = unsigned o
is_form-form_of (Load l) = l.listed
is_form-form_of _ = refl

-- an operator has the code of the unsigned one with the same opcode
pub alu_number-unsigned_of : (o : AluOp) → alu_number (unsigned_of o) ≡ alu_number o
alu_number-unsigned_of op.Add = refl
alu_number-unsigned_of _ = refl

source_number-source_of : (o : Operand) → source_number (source_of o) ≡ source_bit o
source_number-source_of (operand.Imm n) = refl
source_number-source_of (operand.Reg r) = refl

-- the opcode of an instruction's form is that of its first slot
pub opcode_of-form_of : (i : Insn) → opcode_of (form_of i) ≡ (first i).opcode
opcode_of-form_of (Alu wide o dst src) = rw (alu_number-unsigned_of o, source_number-source_of src) refl
opcode_of-form_of (Jump wide condition dst src off) = rw (source_number-source_of src) refl
opcode_of-form_of (Store s dst src off) = rw (source_number-source_of src) refl
opcode_of-form_of _ = refl

-- the opcode of an instruction's first slot has the form of the instruction
pub form_at-first : (i : Insn) → form_at (first i).opcode ≡ Some (form_of i)
form_at-first i = ap form_at (sym (opcode_of-form_of i)) ∙ form_at-opcode_of (form_of i) (is_form-form_of i)
