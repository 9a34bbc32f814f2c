-- The printed text of an instruction is read as this instruction.
use Rattle.std.proofs.Common.{◌≡◌, ◌≤◌, ◌<◌, ◌^◌, ℕ, Bool, true, false, cond, [], ◌∷◌, codes, Option, Some, None, refl, sym, arith, lit<}
use Rattle.std.proofs.lemmas.Bool.{false≢true, and_parts, leb-true}
use Rattle.words.specs.declared.operator.AluOp.{AluOp}
use Rattle.words.specs.declared.operator.AluOp.TheVariants.{Add}
use Rattle.words.specs.declared.operator.Condition.{Condition}
use Rattle.words.specs.declared.operator.Condition.TheVariants.{Equal}
use Rattle.words.specs.declared.operator.ByteOrder.{ByteOrder}
use Rattle.words.specs.declared.operator.ByteOrder.TheVariants.{Little, Big, Swap}
use Rattle.words.specs.declared.operator.KeptBits.{KeptBits}
use Rattle.words.specs.declared.operator.KeptBits.TheVariants as bits
use Rattle.words.specs.declared.operator.ExtendedBits.{ExtendedBits}
use Rattle.words.specs.declared.operator.ExtendedBits.TheVariants as narrow
use Rattle.words.specs.declared.stack.AccessSize.{AccessSize}
use Rattle.words.specs.declared.stack.AccessSize.TheVariants as size
use Rattle.insn_set.specs.declared.atomic.AtomicOp.{AtomicOp}
use Rattle.insn_set.specs.declared.atomic.AtomicOp.TheVariants as atomic
use Rattle.insn_set.specs.declared.insn.Operand.{Operand}
use Rattle.insn_set.specs.declared.insn.Operand.TheVariants.{Imm, Reg}
use Rattle.insn_set.specs.declared.insn.Insn.{Insn}
use Rattle.insn_set.specs.declared.insn.Insn.TheVariants.{Alu, Movsx, Neg, End, Jump, Load, Store, Atomic, Const, MapFd, MapValue}
use Rattle.insn_set.specs.Spelling.{IsInsn, IsOperand}
use Rattle.insn_set.specs.Operator.{alu_symbol}
use Rattle.insn_set.specs.Conversion.{order_name, extension_name}
use Rattle.insn_set.specs.Load.{size_name}
use Rattle.insn_set.specs.Condition.{condition_symbol}
use Rattle.insn_set.specs.Atomic.{access_size, atomic_symbol}
use Rattle.text_line.specs.declared.form.Number.{Number}
use Rattle.text_line.specs.declared.form.SourceOperand.{SourceOperand}
use Rattle.text_line.specs.declared.form.SourceOperand.TheVariants as source
use Rattle.text_line.specs.declared.form.JumpTarget.{JumpTarget}
use Rattle.text_line.specs.declared.form.JumpTarget.TheVariants as target
use Rattle.text_line.specs.declared.form.Operation.{Operation}
use Rattle.text_line.specs.declared.form.Operation.TheVariants as operation
use Rattle.text_line.specs.declared.form.Access.TheVariants as access
use Rattle.text_line.specs.declared.form.Address.{Address}
use Rattle.text_line.specs.declared.form.WideValue.{WideValue}
use Rattle.text_line.specs.declared.form.WideValue.TheVariants as value
use Rattle.text_line.specs.declared.form.Form.{Form}
use Rattle.text_line.specs.declared.form.Form.TheVariants as form
use Rattle.text_line.specs.Names.{register_name, sign_name}
use Rattle.text_line.specs.Form.{TokenLayout, layout, operation_layout, value_layout, sign, word, reg, space, minus, constant}
use Rattle.text_line.specs.Form.{operand_layout, destination, address, IsSource, IsOperation, IsForm, to_label, names_label}
use Rattle.text_line.specs.Ranges.{is_at_most, imm_fits, offset_fits, next_imm_fits, source_fits, target_fits, form_fits}
use Rattle.text_line.specs.Token.{number}
use Rattle.text_line.specs.Written.{source_of, written, printed_insn}
use Rattle.text_line.specs.Law.{IsPrinted, IsWrittenInRange}
use Rattle.text_line.proofs.Fronts.{is_long_name}
use Rattle.text_line.proofs.Layouts.{IsApart, is_sign, ends_word, ends_sign, laid_tokens, laid_ascii, laid_one_line}
use Rattle.text_line.proofs.Grammar.{no_label}
use Rattle.text_line.proofs.Spelled.{above_ten}

-- ---- names

alu_sign : (op : AluOp) → is_sign (alu_symbol op) ≡ true
alu_sign Add = refl
alu_sign _ = refl

condition_sign : (c : Condition) → is_sign (condition_symbol c) ≡ true
condition_sign Equal = refl
condition_sign _ = refl

atomic_sign : (op : AtomicOp) → is_sign (atomic_symbol op) ≡ true
atomic_sign atomic.Add = refl
atomic_sign _ = refl

sign_sign : (negative : Bool) → is_sign (sign_name negative) ≡ true
sign_sign true = refl
sign_sign false = refl

order_word : (how : ByteOrder) (b : KeptBits) → is_long_name (order_name how b) ≡ true
order_word Little bits.Bits16 = refl
order_word Big bits.Bits16 = refl
order_word Swap bits.Bits16 = refl
order_word _ _ = refl

narrow_word : (b : ExtendedBits) → is_long_name (extension_name b) ≡ true
narrow_word narrow.Bits8 = refl
narrow_word _ = refl

size_word : (signed : Bool) (s : AccessSize) → is_long_name (size_name signed s) ≡ true
size_word false size.Byte = refl
size_word true size.Byte = refl
size_word _ _ = refl

register_word : (wide : Bool) (r : ℕ) → r ≤ 10 → is_long_name (register_name wide r) ≡ true
register_word true (above_ten r) fits = absurd (omega arith)
register_word false (above_ten r) fits = absurd (omega arith)
register_word _ _ fits = refl

-- ---- parts of a line

-- the rest of the layout is apart and prolongs no word
abbrev Follows : TokenLayout → Type 0
Follows rest = (ends_word rest ≡ true) × IsApart rest

-- a number that is at most `most`
number_apart : (most : ℕ) (n : Option ℕ) (rest : TokenLayout)
    → most < 2 ^ 64 → is_at_most most n ≡ true
    → Follows rest
    → IsApart (Some (number n) ∷ rest)
number_apart most None rest small fits h = absurd (false≢true fits)
number_apart most (Some n) rest small fits h = (omega (arith, leb-true n most fits), h.0, h.1)

imm_apart : (negative : Bool) (n : Option ℕ) (rest : TokenLayout)
    → is_at_most (cond negative 2147483648 2147483647) n ≡ true
    → Follows rest
    → IsApart (Some (number n) ∷ rest)
imm_apart true n rest fits h = number_apart 2147483648 n rest (lit< tt) fits h
imm_apart false n rest fits h = number_apart 2147483647 n rest (lit< tt) fits h

offset_apart : (negative : Bool) (n : Option ℕ) (rest : TokenLayout)
    → is_at_most (cond negative 32768 32767) n ≡ true
    → Follows rest
    → IsApart (Some (number n) ∷ rest)
offset_apart true n rest fits h = number_apart 32768 n rest (lit< tt) fits h
offset_apart false n rest fits h = number_apart 32767 n rest (lit< tt) fits h

minus_apart : (negative : Bool) (l : TokenLayout) → ends_sign l ≡ true → IsApart l → IsApart (minus negative l)
minus_apart true l ends h = (refl, ends, h)
minus_apart false l ends h = h

constant_apart : (n : Number) (rest : TokenLayout) → imm_fits n ≡ true → Follows rest → IsApart (constant n rest)
constant_apart n rest fits h =
    minus_apart n.negative (Some (number n.magnitude) ∷ rest) refl (imm_apart n.negative n.magnitude rest fits h)

operand_apart : (wide : Bool) (src : SourceOperand) (rest : TokenLayout)
    → IsSource src → source_fits src ≡ true
    → Follows rest
    → IsApart (operand_layout wide src rest)
operand_apart wide (source.Number n) rest s fits h = constant_apart n rest fits h
operand_apart wide (source.Reg r) rest s fits h = (register_word wide r s, h.0, h.1)

-- with its number in range, and no label
destination_apart : (long : Bool) (to : JumpTarget)
    → target_fits long to ≡ true → to_label to ≡ false → IsApart (destination to [])
destination_apart true (target.Number n) fits none = (
  sign_sign n.negative,
  refl,
  imm_apart n.negative n.magnitude [] fits (refl, tt),
)
destination_apart false (target.Number n) fits none = (
  sign_sign n.negative,
  refl,
  offset_apart n.negative n.magnitude [] fits (refl, tt),
)
destination_apart long target.Label fits none = absurd (false≢true (sym none))

address_apart : (signed : Bool) (s : AccessSize) (at : Address) (rest : TokenLayout)
    → at.base ≤ 10 → offset_fits at.offset ≡ true
    → ends_sign rest ≡ true → IsApart rest
    → IsApart (address (size_name signed s) at rest)
address_apart signed s at rest base fits ends h =
    let digits : IsApart (Some (number at.offset.magnitude) ∷ sign (codes ")") ∷ rest) =
    offset_apart at.offset.negative at.offset.magnitude (sign (codes ")") ∷ rest) fits (refl, (refl, ends, h)) in (
      refl,
      refl,
      (
        refl,
        refl,
        (
          size_word signed s,
          refl,
          (
            refl,
            refl,
            (
              refl,
              refl,
              (refl, refl, (register_word true at.base base, refl, (sign_sign at.offset.negative, refl, digits))),
            ),
          ),
        ),
      ),
    )

-- ---- forms: registers up to 10, and numbers in range

operation_apart : (wide : Bool) (dst : ℕ) (o : Operation)
    → dst ≤ 10 → IsOperation wide o
    → form_fits (form.Operation wide dst o) ≡ true
    → IsApart (operation_layout wide dst o)
operation_apart wide dst (operation.Binary op src) d h fits = (
  alu_sign op,
  refl,
  operand_apart wide src [] h fits (refl, tt),
)
operation_apart wide dst (operation.SignExtend from src) d h fits = (
  refl,
  refl,
  (refl, refl, (narrow_word from, refl, (refl, refl, (register_word wide src h.0, refl, tt)))),
)
operation_apart wide dst operation.Neg d h fits = (refl, refl, (refl, refl, (register_word wide dst d, refl, tt)))
operation_apart wide dst (operation.End how bits) d h fits = (
  refl,
  refl,
  (order_word how bits, refl, (register_word wide dst d, refl, tt)),
)

-- a constant is below 2 ^ 64
abbrev IsShortForm : Form → Type 0
IsShortForm (form.WideLoad dst (value.Number (Some n))) = n < 2 ^ 64
IsShortForm _ = Unit {0}

value_apart : (dst : ℕ) (v : WideValue) (rest : TokenLayout)
    → IsShortForm (form.WideLoad dst v) → form_fits (form.WideLoad dst v) ≡ true
    → Follows rest
    → IsApart (value_layout v rest)
value_apart dst (value.Number None) rest k fits h = absurd (false≢true fits)
value_apart dst (value.Number (Some n)) rest k fits h = (k, h.0, h.1)
value_apart dst (value.MapFd fd) rest k fits h = (refl, refl, constant_apart fd rest fits h)
value_apart dst (value.MapValue fd off) rest k fits h =
    let both = and_parts (imm_fits fd) (next_imm_fits off) fits in (
      refl,
      refl,
      constant_apart fd
          (space ∷ sign (codes "+") ∷ space ∷ Some (number off) ∷ rest)
          both.0
          (refl, (refl, refl, number_apart 4294967295 off rest (lit< tt) both.1 h)),
    )

form_apart : (f : Form) → IsForm f → IsShortForm f → form_fits f ≡ true → names_label f ≡ false → IsApart (layout f [])
form_apart (form.Operation wide dst o) h k fits none = (
  register_word wide dst h.0,
  refl,
  operation_apart wide dst o h.0 h.1 fits,
)
form_apart (form.Jump true to) h k fits none = (refl, refl, destination_apart true to fits none)
form_apart (form.Jump false to) h k fits none = (refl, refl, destination_apart false to fits none)
form_apart (form.Branch wide cond dst src to) h k fits none =
    let both = and_parts (source_fits src) (target_fits false to) fits in (
      refl,
      refl,
      (
        register_word wide dst h.0,
        refl,
        (
          condition_sign cond,
          refl,
          operand_apart wide src
              (space ∷ word (codes "goto") ∷ space ∷ destination to [])
              h.1 both.0
              (refl, (refl, refl, destination_apart false to both.1 none)),
        ),
      ),
    )
form_apart (form.Access (access.Load size signed dst) at) h k fits none = (
  register_word true dst h.1.0,
  refl,
  (refl, refl, address_apart signed size at [] h.0 fits refl tt),
)
form_apart (form.Access (access.Store size src) at) h k fits none =
    let both = and_parts (source_fits src) (offset_fits at.offset) fits in
    address_apart false size at
    (space ∷ sign (codes "=") ∷ space ∷ operand_layout true src [])
    h.0 both.1 refl
    (refl, refl, operand_apart true src [] h.1 both.0 (refl, tt))
form_apart (form.Access (access.Atomic size op src) at) h k fits none = (
  refl,
  refl,
  address_apart false (access_size size) at
      (space ∷ sign (atomic_symbol op) ∷ space ∷ reg true src ∷ [])
      h.0 fits refl
      (atomic_sign op, refl, (register_word true src h.1, refl, tt)),
)
form_apart (form.WideLoad dst v) h k fits none = (
  register_word true dst h,
  refl,
  (refl, refl, value_apart dst v (space ∷ word (codes "ll") ∷ []) k fits (refl, (refl, refl, tt))),
)
form_apart (form.Call id) h k fits none = (refl, refl, constant_apart id [] fits (refl, tt))
form_apart form.Exit h k fits none = (refl, refl, tt)

-- ---- instructions

is_source : (src : Operand) → IsOperand src → IsSource (source_of src)
is_source (Imm z) h = tt
is_source (Reg r) h = h

is_form : (i : Insn) → IsInsn i → IsForm (written i)
is_form (Alu wide op dst src) h = (h.0, is_source src h.1)
is_form (Movsx m) h = (h.0, (h.1, m.listed))
is_form (Neg wide dst) h = (h, tt)
is_form (End how bits dst) h = (h, refl)
is_form (Jump wide condition dst src off) h = (h.0, is_source src h.1)
is_form (Load l) h = (h.1, (h.0, l.listed))
is_form (Store size dst src off) h = (h.0, is_source src h.1)
is_form (Atomic size op dst src off) h = (h.0, h.1)
is_form (Const dst n) h = h.0
is_form (MapFd dst fd) h = h.0
is_form (MapValue dst fd off) h = h.0
is_form _ h = tt

is_short_form : (i : Insn) → IsInsn i → IsShortForm (written i)
is_short_form (Const dst n) h = h.1
is_short_form _ h = tt

-- an instruction that is written in range is printed as one line, which is read as this instruction
pub printed : (i : Insn) → IsInsn i → IsWrittenInRange i → IsPrinted i
unfolding printed_insn
printed i h range =
    let apart = form_apart (written i) (is_form i h) (is_short_form i h) range.fits range.no_label in
    let l : TokenLayout = layout (written i) [] in
    record {
      one_line = laid_one_line l apart;
      read = ((is_form i h, no_label (names_label (written i))), (laid_ascii l apart, laid_tokens l apart));
    }
