-- The forms of a line: the table of the grammar, for reading and for printing. It is this project's
-- own.
use Rattle.std.specs.Prelude.{ℕ, ◌≤◌, Bool, true, false, ◌&&◌, ◌||◌, not, IsTrue, List, [], ◌∷◌, codes, Option, Some, None}
use Rattle.words.specs.Operate.{is_short}
use Rattle.insn_set.specs.Operator.{alu_symbol}
use Rattle.insn_set.specs.Conversion.{order_name, extension_name}
use Rattle.insn_set.specs.Load.{size_name}
use Rattle.insn_set.specs.Condition.{condition_symbol}
use Rattle.insn_set.specs.Atomic.{access_size, atomic_symbol}
use Rattle.words.specs.Stack.{is_double}
use Rattle.text_line.specs.declared.form.Number.{Number}
use Rattle.text_line.specs.declared.form.SourceOperand.{SourceOperand}
use Rattle.text_line.specs.declared.form.SourceOperand.TheVariants as source
use Rattle.text_line.specs.declared.form.JumpTarget.{JumpTarget}
use Rattle.text_line.specs.declared.form.JumpTarget.TheVariants as target
use Rattle.text_line.specs.declared.form.Operation.{Operation}
use Rattle.text_line.specs.declared.form.Operation.TheVariants as operation
use Rattle.text_line.specs.declared.form.Access.{Access}
use Rattle.text_line.specs.declared.form.Access.TheVariants as access
use Rattle.text_line.specs.declared.form.Address.{Address}
use Rattle.text_line.specs.declared.form.WideValue.{WideValue}
use Rattle.text_line.specs.declared.form.WideValue.TheVariants as value
use Rattle.text_line.specs.declared.form.Form.{Form}
use Rattle.text_line.specs.declared.form.Form.TheVariants as form
use Rattle.text_line.specs.Token.{Token, name, number, symbol}
use Rattle.text_line.specs.Names.{register_name, sign_name, jump_name}

-- A line is laid out as tokens and single spaces (`None`), as it is printed. On reading, any blanks
-- may be between tokens.
abbrev pub TokenLayout : Type 0
TokenLayout = List (Option Token)

-- the single space between two tokens
abbrev pub space : Option Token
space = None

-- the token of a name, in a layout
abbrev pub word : List ℕ → Option Token
word n = Some (name n)

-- the token of a symbol, in a layout
abbrev pub sign : List ℕ → Option Token
sign s = Some (symbol s)

-- the token of a register's name, in a layout (None is a space): the name of its 64 bits if
-- wide, else of its low half
abbrev pub reg : Bool → ℕ → Option Token
reg wide r = word (register_name wide r)

-- Each part of a line is laid out before `rest`, the layout of what follows it.

-- the rest, after a minus if `true`
abbrev pub minus : Bool → TokenLayout → TokenLayout
minus true rest = sign (codes "-") ∷ rest
minus false rest = rest

-- a number, after a minus if it has one, and then the rest
abbrev pub constant : Number → TokenLayout → TokenLayout
constant n rest = minus n.negative (Some (number n.magnitude) ∷ rest)

-- a constant, or a register: its 64 bits if wide, else its low half; and then the rest
abbrev pub operand_layout : Bool → SourceOperand → TokenLayout → TokenLayout
operand_layout wide (source.Number n) rest = constant n rest
operand_layout wide (source.Reg r) rest = reg wide r ∷ rest

-- the tokens of the target of a jump, which ends a line: an offset in slots from the next slot,
-- always after its sign, + or -, or the name `label`. An offset does not use `label`. In a layout
-- `Some` is a token, and None a space; `sign` gives a symbol as `Some`, and `word` a name
abbrev pub destination : JumpTarget → List ℕ → TokenLayout
destination (target.Number n) label = sign (sign_name n.negative) ∷ Some (number n.magnitude) ∷ []
destination target.Label label = word label ∷ []

-- a memory operand, as *(u32 *)(r6 + 0), and then the rest; `size` is the name of its size, as u32
abbrev pub address : List ℕ → Address → TokenLayout → TokenLayout
address size at rest =
    sign (codes "*") ∷ sign (codes "(") ∷ word size ∷ space ∷ sign (codes "*") ∷ sign (codes ")")
    ∷ sign (codes "(") ∷ reg true at.base ∷ space ∷ sign (sign_name at.offset.negative) ∷ space
    ∷ Some (number at.offset.magnitude) ∷ sign (codes ")") ∷ rest

-- what follows the destination register `dst` of an operation; a negation and a byte-order
-- conversion name it again. Registers are of 64 bits (r) if wide, else their low half (w).
abbrev pub operation_layout : Bool → ℕ → Operation → TokenLayout
operation_layout wide dst (operation.Binary op src) =
    sign (alu_symbol op) ∷ space ∷ operand_layout wide src []
operation_layout wide dst (operation.SignExtend from src) =
    sign (codes "=") ∷ space ∷ sign (codes "(") ∷ word (extension_name from) ∷ sign (codes ")")
    ∷ reg wide src ∷ []
operation_layout wide dst operation.Neg =
    sign (codes "=") ∷ space ∷ sign (codes "-") ∷ reg wide dst ∷ []
operation_layout wide dst (operation.End how bits) =
    sign (codes "=") ∷ space ∷ word (order_name how bits) ∷ space ∷ reg wide dst ∷ []

-- the tokens and spaces of the value that a wide load puts into its register, and then `rest`,
-- those of what follows the value on the line: a space and `ll`. A number n is one token, as `5`. A
-- map is `map_fd` and its descriptor fd, as `map_fd 3`. A byte of a map's value is `map_value`, the
-- map's descriptor, `+` and the byte's offset `off`, as `map_value 3 + 4`. A descriptor has a minus
-- if it is negative. In the list `Some` is a token, and None the space between two (`word`, `sign`
-- and `space` give them). n and `off` are options too: a text may have a number from 2 ^ 64 on, and
-- then they are None; no instruction has such a value, so none is printed
abbrev pub value_layout : WideValue → TokenLayout → TokenLayout
value_layout (value.Number n) rest = Some (number n) ∷ rest
value_layout (value.MapFd fd) rest = word (codes "map_fd") ∷ space ∷ constant fd rest
value_layout (value.MapValue fd off) rest =
    word (codes "map_value") ∷ space
    ∷ constant fd (space ∷ sign (codes "+") ∷ space ∷ Some (number off) ∷ rest)

-- the tokens and spaces of the line of a form, in the order in which they are printed: the table of
-- the grammar. On reading, spaces are ignored (`tokens_of`). `label` is the name of the label to
-- which the form jumps; a form without a jump, or with a jump by a number of slots, does not use
-- it. `wide`: registers are r0 to r10 (64 bits), else w0 to w10 (low 32 bits); accesses and wide
-- loads have only r (`reg true`). `long`: the jump is `gotol`, else `goto`. `at`: the base register
-- and the byte offset of an access. `signed`: the size of a load has an s, as s32, else a u, as
-- u32; that of a store or an atomic operation has a u (false). An atomic operation begins with
-- `lock`, and a wide load ends with `ll`. `word` is the token of a name, `sign` that of a symbol,
-- as `=`. The last argument of `operand_layout`, `address`, `value_layout` and `constant` is the
-- layout of what follows that operand on the line, [] if nothing does
abbrev pub layout : Form → List ℕ → TokenLayout
layout (form.Operation wide dst o) label = reg wide dst ∷ space ∷ operation_layout wide dst o
layout (form.Jump long to) label = word (jump_name long) ∷ space ∷ destination to label
layout (form.Branch wide cond dst src to) label =
    word (codes "if") ∷ space ∷ reg wide dst ∷ space ∷ sign (condition_symbol cond) ∷ space
    ∷ operand_layout wide src (space ∷ word (codes "goto") ∷ space ∷ destination to label)
layout (form.Access (access.Load size signed dst) at) label =
    reg true dst ∷ space ∷ sign (codes "=") ∷ space ∷ address (size_name signed size) at []
layout (form.Access (access.Store size src) at) label =
    address (size_name false size) at
    (space ∷ sign (codes "=") ∷ space ∷ operand_layout true src [])
layout (form.Access (access.Atomic size op src) at) label =
    word (codes "lock") ∷ space
    ∷ address (size_name false (access_size size)) at
    (space ∷ sign (atomic_symbol op) ∷ space ∷ reg true src ∷ [])
layout (form.WideLoad dst v) label =
    reg true dst ∷ space ∷ sign (codes "=") ∷ space
    ∷ value_layout v (space ∷ word (codes "ll") ∷ [])
layout (form.Call id) label = word (codes "call") ∷ space ∷ constant id []
layout form.Exit label = word (codes "exit") ∷ []

-- the tokens of a layout, in order, without its spaces: an element of a layout is a token t
-- (`Some t`) or a single space (None). A line that is read is compared with these tokens, since its
-- blanks may differ from the spaces with which a line is printed
abbrev pub tokens_of : TokenLayout → List Token
tokens_of [] = []
tokens_of (None ∷ rest) = tokens_of rest
tokens_of (Some t ∷ rest) = t ∷ tokens_of rest

-- a line can have this source operand, except for the range of a constant: a register r is 0 to 10.
-- Nothing is required of a constant n, as a text may have one that is too large; `form_fits`
-- requires that it fits a signed field of 32 bits
abbrev pub IsSource : SourceOperand → Type 0
IsSource (source.Number n) = Unit {0}
IsSource (source.Reg r) = r ≤ 10

-- the operation can be that of an instruction on a register of 64 bits (`wide`) or 32: a source
-- register is 0 to 10; a sign extension is from fewer bits than the register has; a byte-order
-- conversion is of 64 bits. Nothing is required of a negation, which has no source.
abbrev pub IsOperation : Bool → Operation → Type 0
IsOperation wide (operation.Binary op src) = IsSource src
IsOperation wide (operation.SignExtend from src) = (src ≤ 10) × IsTrue (wide || is_short from)
IsOperation wide operation.Neg = Unit {0}
IsOperation wide (operation.End how bits) = IsTrue wide

-- a line can have this load, store or atomic operation; that its address has a base register of 0
-- to 10 is required by `IsForm`. Load: the register `dst` that it writes is 0 to 10, and it does
-- not load a double word with sign extension (`signed`), which no instruction does (RFC 9669,
-- section 5.2). Store: a stored register is 0 to 10; of a stored constant nothing is required here,
-- only by `form_fits`. Atomic: the register `src`, its operand, is 0 to 10
abbrev pub IsAccess : Access → Type 0
IsAccess (access.Load size signed dst) = (dst ≤ 10) × IsTrue (not (signed && is_double size))
IsAccess (access.Store size src) = IsSource src
IsAccess (access.Atomic size op src) = src ≤ 10

-- a line can have this form, except for the ranges of its numbers, which `form_fits` requires. Each
-- register is 0 to 10: the destination or first operand `dst`, a source, and the base of an
-- address. If an operation has registers of 32 bits, as `w1` (`wide` is false), it is neither a
-- sign extension from 32 bits nor a byte-order conversion, which has only names such as `r1`
-- (`IsOperation`). A load of a double word has no sign extension (`IsAccess`). An unconditional
-- jump, a call and an exit (`_`) have no register, so nothing is required of them.
abbrev pub IsForm : Form → Type 0
IsForm (form.Operation wide dst o) = (dst ≤ 10) × IsOperation wide o
IsForm (form.Branch wide cond dst src to) = (dst ≤ 10) × IsSource src
IsForm (form.Access a at) = (at.base ≤ 10) × IsAccess a
IsForm (form.WideLoad dst v) = dst ≤ 10
IsForm _ = Unit {0}

-- whether the target of a jump is a label; else it is a number, of slots from the next slot on
abbrev pub to_label : JumpTarget → Bool
to_label (target.Number n) = false
to_label target.Label = true

-- whether a line of this form names a label: the form is a jump (`Jump`) or a conditional jump
-- (`Branch`), and its target is a label, not a number of slots. False for every other form, since
-- none has a target. If true, the line has the name of the label next to its form, and the
-- assembler requires that some line of the text defines this label; if false, the name is empty
abbrev pub names_label : Form → Bool
names_label (form.Jump long to) = to_label to
names_label (form.Branch wide cond dst src to) = to_label to
names_label _ = false

-- the number of slots of the instruction of a line of this form: two for a wide load, one for any
-- other instruction (RFC 9669, section 3.2)
abbrev pub form_slots : Form → ℕ
form_slots (form.WideLoad dst v) = 2
form_slots _ = 1
