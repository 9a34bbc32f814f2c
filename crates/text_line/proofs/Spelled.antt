-- Completeness of the parser: the spelling of a line is read as this line.
use Rattle.std.proofs.Common.{◌≡◌, ℕ, suc, ◌≤◌, Bool, true, false, List, [], ◌∷◌, Option, Some, None, refl, sym, ap, arith}
use Rattle.std.specs.Prelude.{codes, IsTrue, ◌&&◌, not}
use Rattle.std.specs.Str.{bytes_eq}
use Rattle.std.proofs.lemmas.Bool.{eq-eqb, false≢true}
use Rattle.words.specs.declared.operator.AluOp.{AluOp}
use Rattle.words.specs.declared.operator.AluOp.TheVariants.{Add, Mov}
use Rattle.words.specs.declared.operator.Condition.{Condition}
use Rattle.words.specs.declared.operator.ByteOrder.{ByteOrder}
use Rattle.words.specs.declared.operator.ByteOrder.TheVariants.{Little, Big, Swap}
use Rattle.words.specs.declared.operator.KeptBits.{KeptBits}
use Rattle.words.specs.declared.operator.KeptBits.TheVariants as bits
use Rattle.words.specs.declared.stack.AccessSize.{AccessSize}
use Rattle.insn_set.specs.declared.atomic.AtomicSize.{AtomicSize}
use Rattle.insn_set.specs.declared.atomic.AtomicSize.TheVariants as atomic_size
use Rattle.insn_set.specs.declared.atomic.AtomicOp.{AtomicOp}
use Rattle.insn_set.specs.Operator.{alu_symbol}
use Rattle.insn_set.specs.Conversion.{order_name, extension_name}
use Rattle.insn_set.specs.Load.{size_name}
use Rattle.insn_set.specs.Condition.{condition_symbol}
use Rattle.insn_set.specs.Atomic.{access_size, atomic_symbol}
use Rattle.insn_set.specs.Table.{named}
use Rattle.insn_set.specs.RowLaws.{alu_symbol_again, order_name_again, extension_name_again, size_name_again, condition_symbol_again, atomic_symbol_again}
use Rattle.words.specs.Stack.{is_double}
use Rattle.text_line.specs.declared.form.SourceOperand.{SourceOperand}
use Rattle.text_line.specs.declared.form.SourceOperand.TheVariants as source
use Rattle.text_line.specs.declared.form.JumpTarget.{JumpTarget}
use Rattle.text_line.specs.declared.form.JumpTarget.TheVariants as target
use Rattle.text_line.specs.declared.form.Operation.{Operation}
use Rattle.text_line.specs.declared.form.Operation.TheVariants as operation
use Rattle.text_line.specs.declared.form.Access.TheVariants as access
use Rattle.text_line.specs.declared.form.Address.{Address}
use Rattle.text_line.specs.declared.form.WideValue.{WideValue}
use Rattle.text_line.specs.declared.form.WideValue.TheVariants as value
use Rattle.text_line.specs.declared.form.Form.{Form}
use Rattle.text_line.specs.declared.form.Form.TheVariants as form
use Rattle.text_line.specs.Token.{Token, name, number, symbol}
use Rattle.text_line.specs.Names.{register_name, sign_name}
use Rattle.text_line.specs.Form.{TokenLayout, layout, operation_layout, value_layout, sign, word, space, tokens_of, reg, minus}
use Rattle.text_line.specs.Form.{to_label, operand_layout, destination, address, IsForm, IsOperation, IsSource, names_label}
use Rattle.text_line.specs.Line.{Line, blank, label, code, line_tokens, IsWellFormed, NoLabel}
use Rattle.text_line.specs.inside.Reading.{registers, after_symbol, after_word, leading_register, leading_constant, leading_signed_number}
use Rattle.text_line.specs.inside.Reading.{leading_operand, parsed_destination, leading_address, leading_wide_value, atomic_size_of, parsed_binary}
use Rattle.text_line.specs.inside.Reading.{parsed_sign_extension, parsed_in_place, parsed_unary, parsed_operation, parsed_load, parsed_store}
use Rattle.text_line.specs.inside.Reading.{parsed_atomic, parsed_wide_load, parsed_loaded, parsed_assigned, parsed_branch, parsed_form, parsed_label, line_of}

-- ---- names: a last line with `_` is checked in each case that is left

size_of_access : (z : AtomicSize) → atomic_size_of false (access_size z) ≡ Some z
size_of_access atomic_size.Word = refl
size_of_access _ = refl

pattern abbrev pub above_ten : ℕ → ℕ
above_ten r = suc (suc (suc (suc (suc (suc (suc (suc (suc (suc (suc r))))))))))

named_register : (wide : Bool) (r : ℕ) → r ≤ 10 → named registers (register_name wide r) ≡ Some (wide, r)
named_register true (above_ten r) fits = absurd (omega arith)
named_register false (above_ten r) fits = absurd (omega arith)
named_register _ _ fits = refl

-- ---- parts of a line

register_read : (wide : Bool) (r : ℕ) (ts : List Token)
    → r ≤ 10 → leading_register wide (name (register_name wide r) ∷ ts) ≡ Some (r, ts)
unfolding leading_register
register_read true r ts fits = rw (named_register true r fits) refl
register_read false r ts fits = rw (named_register false r fits) refl

constant_read : (negative : Bool) (m : Option ℕ) (rest : TokenLayout)
    → leading_constant (tokens_of (minus negative (Some (number m) ∷ rest)))
    ≡ Some (record { negative = negative; magnitude = m }, tokens_of rest)
unfolding leading_constant after_symbol
constant_read true m rest = refl
constant_read false m rest = refl

signed_read : (negative : Bool) (m : Option ℕ) (ts : List Token)
    → leading_signed_number (symbol (sign_name negative) ∷ number m ∷ ts)
    ≡ Some (record { negative = negative; magnitude = m }, ts)
unfolding leading_signed_number after_symbol
signed_read true m ts = refl
signed_read false m ts = refl

-- a number is no register
constant_no_register : (wide negative : Bool) (m : Option ℕ) (rest : TokenLayout)
    → leading_register wide (tokens_of (minus negative (Some (number m) ∷ rest))) ≡ None
unfolding leading_register
constant_no_register wide true m rest = refl
constant_no_register wide false m rest = refl

operand_read : (wide : Bool) (s : SourceOperand) (rest : TokenLayout)
    → IsSource s
    → leading_operand wide (tokens_of (operand_layout wide s rest)) ≡ Some (s, tokens_of rest)
unfolding leading_operand
operand_read wide (source.Reg r) rest fits = rw (register_read wide r (tokens_of rest) fits) refl
operand_read wide (source.Number n) rest fits =
    rw (constant_no_register wide n.negative n.magnitude rest, constant_read n.negative n.magnitude rest) refl

signed_name : (n : List ℕ) (ts : List Token) → leading_signed_number (name n ∷ ts) ≡ None
unfolding leading_signed_number after_symbol
signed_name n ts = refl

abbrev destination_made : JumpTarget → List ℕ → JumpTarget × List ℕ
destination_made to n = (to, n)

destination_read : (to : JumpTarget) (n : List ℕ)
    → NoLabel (to_label to) n → parsed_destination (tokens_of (destination to n)) ≡ Some (to, n)
unfolding parsed_destination
destination_read (target.Number m) n none =
    rw (signed_read m.negative m.magnitude [])
    (ap (λ (l : List ℕ). Some (destination_made (target.Number m) l)) (sym none))
destination_read target.Label n none = rw (signed_name n []) refl

address_read : (signed : Bool) (s : AccessSize) (at : Address) (rest : TokenLayout)
    → IsTrue (not (signed && is_double s)) → at.base ≤ 10
    → leading_address (tokens_of (address (size_name signed s) at rest)) ≡ Some (((signed, s), at), tokens_of rest)
unfolding leading_address after_symbol
address_read signed s at rest listed fits =
    rw (
      size_name_again signed s listed,
      register_read true at.base
          (symbol (sign_name at.offset.negative) ∷ number at.offset.magnitude ∷ symbol (codes ")") ∷ tokens_of rest)
          fits,
      signed_read at.offset.negative at.offset.magnitude (symbol (codes ")") ∷ tokens_of rest),
    )
    refl

value_read : (v : WideValue) (rest : TokenLayout)
    → leading_wide_value (tokens_of (value_layout v rest)) ≡ Some (v, tokens_of rest)
unfolding leading_wide_value after_symbol after_word
value_read (value.Number n) rest = refl
value_read (value.MapFd fd) rest = rw (constant_read fd.negative fd.magnitude rest) refl
value_read (value.MapValue fd off) rest =
    rw (constant_read fd.negative fd.magnitude (space ∷ sign (codes "+") ∷ space ∷ Some (number off) ∷ rest)) refl

-- ---- operations

-- what begins no operand
no_binary_parenthesis : (wide : Bool) (ts : List Token) → parsed_binary wide Mov (symbol (codes "(") ∷ ts) ≡ None
unfolding parsed_binary leading_operand leading_register leading_constant after_symbol
no_binary_parenthesis wide ts = refl

no_binary_minus : (wide : Bool) (n : List ℕ) (ts : List Token)
    → parsed_binary wide Mov (symbol (codes "-") ∷ name n ∷ ts) ≡ None
unfolding parsed_binary leading_operand leading_register leading_constant after_symbol
no_binary_minus wide n ts = refl

no_binary_order : (how : ByteOrder) (b : KeptBits) (ts : List Token)
    → parsed_binary true Mov (name (order_name how b) ∷ ts) ≡ None
unfolding parsed_binary leading_operand leading_register leading_constant after_symbol
no_binary_order Little bits.Bits16 ts = refl
no_binary_order Big bits.Bits16 ts = refl
no_binary_order Swap bits.Bits16 ts = refl
no_binary_order _ _ ts = refl

in_place_read : (wide : Bool) (dst : ℕ) (o : Operation)
    → dst ≤ 10 → parsed_in_place wide dst o (name (register_name wide dst) ∷ []) ≡ Some o
unfolding parsed_in_place
in_place_read wide dst o fits = rw (register_read wide dst [] fits, eq-eqb dst dst refl) refl

unary_read : (wide : Bool) (dst : ℕ) (ts : List Token) {o : Operation}
    → dst ≤ 10 → parsed_binary wide Mov ts ≡ None
    → parsed_unary wide dst ts ≡ Some o
    → parsed_assigned (name (register_name wide dst) ∷ symbol (codes "=") ∷ ts) ≡ Some (form.Operation wide dst o)
unfolding parsed_assigned parsed_operation
unary_read wide dst ts fits none some = rw (named_register wide dst fits, none, some) refl

operation_read : (wide : Bool) (dst : ℕ) (o : Operation)
    → dst ≤ 10 → IsOperation wide o
    → parsed_assigned (name (register_name wide dst) ∷ tokens_of (operation_layout wide dst o))
    ≡ Some (form.Operation wide dst o)
unfolding parsed_assigned parsed_operation parsed_binary parsed_unary parsed_sign_extension after_symbol
operation_read wide dst (operation.Binary op src) fits h =
    rw (named_register wide dst fits, alu_symbol_again op, operand_read wide src [] h) refl
operation_read wide dst (operation.SignExtend from src) fits h =
    unary_read wide dst _ fits
    (no_binary_parenthesis wide (name (extension_name from) ∷ symbol (codes ")") ∷ name (register_name wide src) ∷ []))
    (rw (extension_name_again from, register_read wide src [] h.0, h.1) refl)
operation_read wide dst operation.Neg fits h =
    unary_read wide dst _ fits (no_binary_minus wide (register_name wide dst) [])
    (in_place_read wide dst operation.Neg fits)
operation_read true dst (operation.End how b) fits h =
    unary_read true dst _ fits
    (no_binary_order how b (name (register_name true dst) ∷ []))
    (rw (order_name_again how b) (in_place_read true dst (operation.End how b) fits))
operation_read false dst (operation.End how b) fits h = absurd (false≢true h)

-- ---- accesses and wide loads

loaded_read : (dst : ℕ) (ts : List Token) {f : Form}
    → dst ≤ 10 → parsed_operation true Mov dst ts ≡ None
    → parsed_loaded dst ts ≡ Some f
    → parsed_assigned (name (register_name true dst) ∷ symbol (codes "=") ∷ ts) ≡ Some f
unfolding parsed_assigned
loaded_read dst ts fits none some = rw (named_register true dst fits, none, some) refl

-- a memory operand is no operation, and no value of a wide load
no_operation_address : (dst : ℕ) (size : List ℕ) (at : Address)
    → parsed_operation true Mov dst (tokens_of (address size at [])) ≡ None
unfolding parsed_operation parsed_binary parsed_unary leading_operand leading_register leading_constant after_symbol
no_operation_address dst size at = refl

load_read : (size : AccessSize) (signed : Bool) (dst : ℕ) (at : Address)
    → at.base ≤ 10 → IsTrue (not (signed && is_double size))
    → parsed_loaded dst (tokens_of (address (size_name signed size) at []))
    ≡ Some (form.Access (access.Load size signed dst) at)
unfolding parsed_wide_load leading_wide_value parsed_load after_symbol after_word
load_read size signed dst at fits listed = rw (address_read signed size at [] listed fits) refl

store_read : (size : AccessSize) (src : SourceOperand) (at : Address)
    → at.base ≤ 10 → IsSource src
    → parsed_store (tokens_of (layout (form.Access (access.Store size src) at) []))
    ≡ Some (form.Access (access.Store size src) at)
unfolding parsed_store after_symbol
store_read size src at fits s =
    rw (
      address_read false size at (space ∷ sign (codes "=") ∷ space ∷ operand_layout true src []) refl fits,
      operand_read true src [] s,
    )
    refl

atomic_read : (z : AtomicSize) (op : AtomicOp) (src : ℕ) (at : Address)
    → at.base ≤ 10 → src ≤ 10
    → parsed_atomic (tokens_of (address (size_name false (access_size z)) at
    (space ∷ sign (atomic_symbol op) ∷ space ∷ reg true src ∷ [])))
    ≡ Some (form.Access (access.Atomic z op src) at)
unfolding parsed_atomic
atomic_read z op src at fits src_fits =
    rw (
      address_read false (access_size z) at (space ∷ sign (atomic_symbol op) ∷ space ∷ reg true src ∷ []) refl fits,
      size_of_access z,
      atomic_symbol_again op,
      register_read true src [] src_fits,
    )
    refl

no_operation_value : (dst : ℕ) (v : WideValue)
    → parsed_operation true Mov dst (tokens_of (value_layout v (space ∷ word (codes "ll") ∷ []))) ≡ None
unfolding parsed_operation parsed_binary parsed_unary leading_operand leading_register leading_constant after_symbol
no_operation_value dst (value.Number n) = refl
no_operation_value dst _ = refl

wide_load_read : (dst : ℕ) (v : WideValue)
    → parsed_loaded dst (tokens_of (value_layout v (space ∷ word (codes "ll") ∷ []))) ≡ Some (form.WideLoad dst v)
unfolding parsed_wide_load after_word
wide_load_read dst v = rw (value_read v (space ∷ word (codes "ll") ∷ [])) refl

-- ---- jumps

branch_read : (wide : Bool) (c : Condition) (dst : ℕ) (src : SourceOperand) (to : JumpTarget) (n : List ℕ)
    → dst ≤ 10 → IsSource src
    → NoLabel (to_label to) n
    → parsed_branch (name (register_name wide dst)
    ∷ symbol (condition_symbol c)
    ∷ tokens_of (operand_layout wide src (space ∷ word (codes "goto") ∷ space ∷ destination to n)))
    ≡ Some (form.Branch wide c dst src to, n)
unfolding parsed_branch after_word
branch_read wide c dst src to n fits s none =
    rw (
      named_register wide dst fits,
      condition_symbol_again c,
      operand_read wide src (space ∷ word (codes "goto") ∷ space ∷ destination to n) s,
      destination_read to n none,
    )
    refl

-- ---- whole lines

alu_no_colon : (op : AluOp) → bytes_eq (alu_symbol op) (codes ":") ≡ false
alu_no_colon Add = refl
alu_no_colon _ = refl

no_colon : (wide : Bool) (dst : ℕ) (o : Operation)
    → after_symbol (codes ":") (tokens_of (operation_layout wide dst o)) ≡ None
unfolding after_symbol
no_colon wide dst (operation.Binary op src) = rw (alu_no_colon op) refl
no_colon wide dst _ = refl

no_label_constant : (w : List ℕ) (negative : Bool) (m : Option ℕ)
    → parsed_label (name w ∷ tokens_of (minus negative (Some (number m) ∷ []))) ≡ None
unfolding parsed_label after_symbol
no_label_constant w true m = refl
no_label_constant w false m = refl

no_label_sign : (w : List ℕ) (negative : Bool) (ts : List Token)
    → parsed_label (name w ∷ symbol (sign_name negative) ∷ ts) ≡ None
unfolding parsed_label after_symbol
no_label_sign w true ts = refl
no_label_sign w false ts = refl

no_label_destination : (w : List ℕ) (to : JumpTarget) (n : List ℕ)
    → parsed_label (name w ∷ tokens_of (destination to n)) ≡ None
unfolding parsed_label after_symbol
no_label_destination w (target.Number m) n = no_label_sign w m.negative (number m.magnitude ∷ [])
no_label_destination w target.Label n = refl

-- an assignment to a register
line_from_register : (wide : Bool) (r : ℕ) (ts : List Token) {f : Form} {n : List ℕ}
    → after_symbol (codes ":") ts ≡ None → n ≡ []
    → parsed_assigned (name (register_name wide r) ∷ ts) ≡ Some f
    → line_of (name (register_name wide r) ∷ ts) ≡ Some (code f n)
unfolding line_of parsed_label parsed_form after_word
line_from_register true r ts colon none e = rw (colon, e, none) refl
line_from_register false r ts colon none e = rw (colon, e, none) refl

code_read : (f : Form) (n : List ℕ)
    → IsForm f → NoLabel (names_label f) n
    → line_of (tokens_of (layout f n)) ≡ Some (code f n)
unfolding line_of parsed_label parsed_form parsed_assigned after_symbol after_word
code_read (form.Operation wide dst o) n fits none =
    line_from_register wide dst (tokens_of (operation_layout wide dst o)) (no_colon wide dst o) none
    (operation_read wide dst o fits.0 fits.1)
code_read (form.Jump false to) n fits none =
    rw (no_label_destination (codes "goto") to n, destination_read to n none) refl
code_read (form.Jump true to) n fits none =
    rw (no_label_destination (codes "gotol") to n, destination_read to n none) refl
code_read (form.Branch wide c dst src to) n fits none = rw (branch_read wide c dst src to n fits.0 fits.1 none) refl
code_read (form.Access (access.Load size signed dst) at) n fits none =
    line_from_register true dst
    (symbol (codes "=") ∷ tokens_of (address (size_name signed size) at []))
    refl none
    (loaded_read dst _ fits.1.0
    (no_operation_address dst (size_name signed size) at)
    (load_read size signed dst at fits.0 fits.1.1))
code_read (form.Access (access.Store size src) at) n fits none = rw (store_read size src at fits.0 fits.1, none) refl
code_read (form.Access (access.Atomic z op src) at) n fits none = rw (atomic_read z op src at fits.0 fits.1, none) refl
code_read (form.WideLoad dst v) n fits none =
    line_from_register true dst
    (symbol (codes "=") ∷ tokens_of (value_layout v (space ∷ word (codes "ll") ∷ [])))
    refl none
    (loaded_read dst _ fits (no_operation_value dst v) (wide_load_read dst v))
code_read (form.Call id) n fits none =
    rw (no_label_constant (codes "call") id.negative id.magnitude, constant_read id.negative id.magnitude [], none) refl
code_read form.Exit n fits none = rw none refl

-- the spelling of a well-formed line is read as this line
pub line_read : (line : Line) → IsWellFormed line → line_of (line_tokens line) ≡ Some line
unfolding line_of parsed_label after_symbol
line_read blank h = refl
line_read (label n) h = refl
line_read (code f n) h = code_read f n h.0 h.1
