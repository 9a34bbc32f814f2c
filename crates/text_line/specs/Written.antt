-- The text of an instruction. This project's own.
use Rattle.std.specs.Prelude.{ℕ, suc, true, false, ℤ, pos, negsuc, List, [], ◌∷◌, Option, Some, None}
use Rattle.std.specs.List.{flat_map}
use Rattle.std.specs.Fmt.{decimal}
use Rattle.insn_set.specs.declared.insn.Operand.{Operand}
use Rattle.insn_set.specs.declared.insn.Operand.TheVariants.{Imm, Reg}
use Rattle.insn_set.specs.declared.insn.Insn.{Insn}
use Rattle.insn_set.specs.declared.insn.Insn.TheVariants.{Alu, Movsx, Neg, End, Ja, Jal, Jump, Call, Exit, Load, Store, Atomic, Const, MapFd, MapValue}
use Rattle.text_line.specs.declared.form.Number.{Number}
use Rattle.text_line.specs.declared.form.SourceOperand.{SourceOperand}
use Rattle.text_line.specs.declared.form.SourceOperand.TheVariants as source
use Rattle.text_line.specs.declared.form.JumpTarget.TheVariants as target
use Rattle.text_line.specs.declared.form.Operation.TheVariants as operation
use Rattle.text_line.specs.declared.form.Access.TheVariants as access
use Rattle.text_line.specs.declared.form.Address.{Address}
use Rattle.text_line.specs.declared.form.WideValue.TheVariants as value
use Rattle.text_line.specs.declared.form.Form.{Form}
use Rattle.text_line.specs.declared.form.Form.TheVariants as form
use Rattle.text_line.specs.Token.{Token, name, number, symbol}
use Rattle.text_line.specs.Form.{TokenLayout, layout}

-- an integer as the number that is written for it, with a minus (`negative`) only if it is less
-- than 0. `pos n` is n, and `negsuc n` is -(n + 1), with the magnitude n + 1. `Number` has an
-- option as its magnitude, since a number that is read from a text may be 2 ^ 64 or more (None);
-- for an integer it is always `Some`
abbrev pub number_of : ℤ → Number
number_of (pos n) = record { negative = false; magnitude = Some n }
number_of (negsuc n) = record { negative = true; magnitude = Some (suc n) }

-- the second operand of an operation or a comparison, or the value that a store writes, as a part
-- of a line: a constant z as its number, with a minus if it is negative, or a register as its
-- number r. Which name of the register the line has, as `r1` for its 64 bits or `w1` for its low
-- 32, is not in this part: that depends on the form of the whole line
abbrev pub source_of : Operand → SourceOperand
source_of (Imm z) = source.Number (number_of z)
source_of (Reg r) = source.Reg r

-- the address at this offset from a base register, as it is written
abbrev pub address_of : ℕ → ℤ → Address
address_of base off = record { base = base; offset = number_of off }

-- the form of the line that is printed for an instruction. `wide` is true if registers are named
-- `r0` to `r10`, false if they are named `w0` to `w10`, for their low 32 bits. A byte-order
-- conversion names an `r` register (true), however many bits it keeps (`bits`). A second operand is
-- a constant or a register (`source_of`). An integer is written as a sign and a magnitude
-- (`number_of`). The target of a jump is a number, the distance `off` in slots from the next slot,
-- and never a label; the Boolean of `form.Jump` is true for `gotol`, false for `goto`. A load, a
-- store and an atomic operation have an address (`address_of`): the base register, `src` of a load
-- and `dst` of the others, and an offset in bytes. The last three equations are of wide loads: a
-- constant n, and an offset `off` in a map's value, are `Some`. None, which no instruction has, is
-- a number of 2 ^ 64 or more in a line that is read
abbrev pub written : Insn → Form
written (Alu wide op dst src) = form.Operation wide dst (operation.Binary op (source_of src))
written (Movsx m) = form.Operation m.wide m.dst (operation.SignExtend m.bits m.src)
written (Neg wide dst) = form.Operation wide dst operation.Neg
written (End how bits dst) = form.Operation true dst (operation.End how bits)
written (Ja off) = form.Jump false (target.Number (number_of off))
written (Jal off) = form.Jump true (target.Number (number_of off))
written (Jump wide cond dst src off) =
    form.Branch wide cond dst (source_of src) (target.Number (number_of off))
written (Call id) = form.Call (number_of id)
written Exit = form.Exit
written (Load l) = form.Access (access.Load l.size l.signed l.dst) (address_of l.src l.off)
written (Store size dst src off) =
    form.Access (access.Store size (source_of src)) (address_of dst off)
written (Atomic size op dst src off) = form.Access (access.Atomic size op src) (address_of dst off)
written (Const dst n) = form.WideLoad dst (value.Number (Some n))
written (MapFd dst fd) = form.WideLoad dst (value.MapFd (number_of fd))
written (MapValue dst fd off) = form.WideLoad dst (value.MapValue (number_of fd) (Some off))

-- the bytes that are printed for a token of a line: for a name n or a symbol s, these bytes
-- themselves; for a number with a value n (Some), its decimal digits. A number without a value
-- (None) is 2 ^ 64 or more: a text may have one, but no printed line has, so its bytes ([]) do not
-- matter
abbrev pub lexeme : Token → List ℕ
lexeme (name n) = n
lexeme (number (Some n)) = decimal n
lexeme (number None) = []
lexeme (symbol s) = s

-- the bytes that are printed for one item of a layout, the list of a line's tokens (`Some`) and of
-- the single spaces between them (None): those of the token (`lexeme`), or one space, the byte 32
abbrev pub piece : Option Token → List ℕ
piece (Some t) = lexeme t
piece None = 32 ∷ []

-- the text of a layout: the bytes of its items, in order
abbrev pub laid_out : TokenLayout → List ℕ
laid_out pieces = flat_map piece pieces

-- the line of an instruction as it is printed, without a line feed; its jump names no label
unfoldable pub printed_insn : Insn → List ℕ
printed_insn insn = laid_out (layout (written insn) [])
