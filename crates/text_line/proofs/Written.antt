-- The written form of instructions.
use Rattle.std.proofs.Common.{◌≡◌, ℕ, zero, suc, Bool, true, false, ◌&&◌, ◌||◌, not, ℤ, pos, negsuc, Option, Some, None, option_map, IsTrue, refl, sym, ap, ◌∙◌}
use Rattle.std.proofs.Props.{props}
use Rattle.std.proofs.lemmas.Option.{same_Some}
use Rattle.insn_set.specs.declared.insn.Operand.{Operand}
use Rattle.insn_set.specs.declared.insn.Operand.TheVariants as operand
use Rattle.insn_set.specs.declared.insn.Insn.{Insn}
use Rattle.insn_set.specs.declared.insn.Insn.TheVariants.{Alu, Movsx, Neg, End, Ja, Jal, Jump, Call, Exit, Load, Store, Atomic, Const, MapFd, MapValue}
use Rattle.words.specs.Operate.{is_short}
use Rattle.words.specs.Stack.{is_double}
use Rattle.text_line.specs.declared.form.Number.{Number}
use Rattle.text_line.specs.declared.form.SourceOperand.{SourceOperand}
use Rattle.text_line.specs.declared.form.SourceOperand.TheVariants as source
use Rattle.text_line.specs.declared.form.JumpTarget.{JumpTarget}
use Rattle.text_line.specs.declared.form.JumpTarget.TheVariants as target
use Rattle.text_line.specs.declared.form.Operation.TheVariants as operation
use Rattle.text_line.specs.declared.form.Access.TheVariants as access
use Rattle.text_line.specs.declared.form.WideValue.TheVariants as value
use Rattle.text_line.specs.declared.form.Form.{Form}
use Rattle.text_line.specs.declared.form.Form.TheVariants as form
use Rattle.text_line.specs.Written.{number_of, source_of, written}
use Rattle.text_line.specs.Law.{OneInsn}

-- ---- an instruction is read back from its written form

integer : Bool → Option ℕ → ℤ
integer negative None = pos 0
integer false (Some n) = pos n
integer true (Some zero) = pos 0
integer true (Some (suc n)) = negsuc n

integer_of : Number → ℤ
unfolding integer
integer_of n = integer n.negative n.magnitude

integer_again : (z : ℤ) → integer_of (number_of z) ≡ z
unfolding integer integer_of
integer_again (pos n) = refl
integer_again (negsuc n) = refl

operand_of : SourceOperand → Operand
operand_of (source.Number n) = operand.Imm (integer_of n)
operand_of (source.Reg r) = operand.Reg r

operand_again : (o : Operand) → operand_of (source_of o) ≡ o
unfolding operand_of
operand_again (operand.Imm z) = ap (λ (n : ℤ). operand.Imm n) (integer_again z)
operand_again (operand.Reg r) = refl

target_of : JumpTarget → ℤ
target_of (target.Number n) = integer_of n
target_of target.Label = pos 0

-- a value that is made from a test that holds
checked : (b : Bool) → (IsTrue b → Insn) → Option Insn
checked true f = Some (f refl)
checked false f = None

IsTrue-prop : (b : Bool) → IsProp (IsTrue b)
IsTrue-prop b = hlevel props

checked_again : (b : Bool) (f : IsTrue b → Insn) (h : IsTrue b) → checked b f ≡ Some (f h)
unfolding checked
checked_again true f h = ap (λ (h : IsTrue true). Some (f h)) (IsTrue-prop true refl h)
checked_again false f h = absurd cc

insn_of : Form → Option Insn
insn_of (form.Operation wide dst (operation.Binary op src)) = Some (Alu wide op dst (operand_of src))
insn_of (form.Operation wide dst (operation.SignExtend from src)) =
    checked (wide || is_short from) (λ h. Movsx (record { wide = wide; bits = from; dst = dst; src = src; listed = h }))
insn_of (form.Operation wide dst operation.Neg) = Some (Neg wide dst)
insn_of (form.Operation wide dst (operation.End how bits)) = Some (End how bits dst)
insn_of (form.Jump false to) = Some (Ja (target_of to))
insn_of (form.Jump true to) = Some (Jal (target_of to))
insn_of (form.Branch wide cond dst src to) = Some (Jump wide cond dst (operand_of src) (target_of to))
insn_of (form.Access (access.Load size signed dst) at) =
    checked (not (signed && is_double size))
    (λ h.
    Load (record { size = size; signed = signed; dst = dst; src = at.base; off = integer_of at.offset; listed = h }))
insn_of (form.Access (access.Store size src) at) = Some (Store size at.base (operand_of src) (integer_of at.offset))
insn_of (form.Access (access.Atomic size op src) at) = Some (Atomic size op at.base src (integer_of at.offset))
insn_of (form.WideLoad dst (value.Number n)) = option_map (λ n. Const dst n) n
insn_of (form.WideLoad dst (value.MapFd fd)) = Some (MapFd dst (integer_of fd))
insn_of (form.WideLoad dst (value.MapValue fd off)) = option_map (λ n. MapValue dst (integer_of fd) n) off
insn_of (form.Call id) = Some (Call (integer_of id))
insn_of form.Exit = Some Exit

insn_again : (i : Insn) → insn_of (written i) ≡ Some i
unfolding insn_of target_of
insn_again (Alu wide op dst src) = rw (operand_again src) refl
insn_again (Movsx m) =
    checked_again (m.wide || is_short m.bits)
    (λ h. Movsx (record { wide = m.wide; bits = m.bits; dst = m.dst; src = m.src; listed = h }))
    m.listed
insn_again (Ja off) = rw (integer_again off) refl
insn_again (Jal off) = rw (integer_again off) refl
insn_again (Jump wide cond dst src off) = rw (operand_again src, integer_again off) refl
insn_again (Call id) = rw (integer_again id) refl
insn_again (Load l) =
    rw (integer_again l.off)
    (checked_again (not (l.signed && is_double l.size))
    (λ h. Load (record { size = l.size; signed = l.signed; dst = l.dst; src = l.src; off = l.off; listed = h }))
    l.listed)
insn_again (Store size dst src off) = rw (operand_again src, integer_again off) refl
insn_again (Atomic size op dst src off) = rw (integer_again off) refl
insn_again (MapFd dst fd) = rw (integer_again fd) refl
insn_again (MapValue dst fd off) = rw (integer_again fd) refl
insn_again _ = refl

-- instructions with the same written form are the same
pub one_insn : OneInsn
one_insn = λ a b e. same_Some a b (sym (insn_again a) ∙ ap insn_of e ∙ insn_again b)
