-- How the tokens of a line are read, from the left: `None` if they do not have the form. This
-- project's own.
use Rattle.std.specs.Prelude.{ℕ, ◌==◌, Bool, true, false, ◌||◌, ◌&&◌, List, [], ◌∷◌, codes, Option, Some, None, option_and_then, option_map, not, if◌then◌else◌}
use Rattle.std.specs.Str.{bytes_eq}
use Rattle.words.specs.declared.operator.AluOp.{AluOp}
use Rattle.words.specs.declared.operator.AluOp.TheVariants.{Mov}
use Rattle.words.specs.declared.stack.AccessSize.{AccessSize}
use Rattle.words.specs.declared.stack.AccessSize.TheVariants as size
use Rattle.insn_set.specs.declared.atomic.AtomicSize.{AtomicSize}
use Rattle.insn_set.specs.declared.atomic.AtomicSize.TheVariants as atomic_size
use Rattle.insn_set.specs.Table.{named}
use Rattle.insn_set.specs.OperatorRows.{alu_by_symbol}
use Rattle.insn_set.specs.ConversionRows.{order_by_name, extension_by_name}
use Rattle.insn_set.specs.LoadRows.{load_by_name}
use Rattle.insn_set.specs.ConditionRows.{condition_by_symbol}
use Rattle.insn_set.specs.AtomicRows.{atomic_by_symbol}
use Rattle.text_line.specs.declared.form.Number.{Number}
use Rattle.text_line.specs.declared.form.SourceOperand.{SourceOperand}
use Rattle.text_line.specs.declared.form.SourceOperand.TheVariants as source
use Rattle.text_line.specs.declared.form.Operation.{Operation}
use Rattle.text_line.specs.declared.form.Operation.TheVariants as operation
use Rattle.text_line.specs.declared.form.Access.TheVariants as access
use Rattle.text_line.specs.declared.form.WideValue.{WideValue}
use Rattle.text_line.specs.declared.form.WideValue.TheVariants as value
use Rattle.text_line.specs.declared.form.Form.{Form}
use Rattle.text_line.specs.declared.form.Form.TheVariants as form
use Rattle.text_line.specs.declared.form.Address.{Address}
use Rattle.text_line.specs.Line.{Line, blank, label, code as Code}
use Rattle.words.specs.Operate.{is_short}
use Rattle.text_line.specs.declared.form.JumpTarget.{JumpTarget}
use Rattle.text_line.specs.declared.form.JumpTarget.TheVariants as target
use Rattle.std.specs.Borrow.{Bor}
use Rattle.text_line.specs.declared.token.Token.{Token as CodeToken}
use Rattle.text_line.specs.inside.Shown.{shown_tokens}
use Rattle.text_line.specs.Token.{Token, name, number, symbol}

-- `f` applied to the value of `o`; `None` if `o` has no value
infixl 10 ◌>>=◌
abbrev pub ◌>>=◌ : {A B : Type 0} → Option A → (A → Option B) → Option B
o >>= f = option_and_then f o

-- a choice by an option: x if it has no value (None), else f applied to its value. By it a parser
-- tries two alternatives: the option is what the first makes of the tokens, and f makes the result
-- from that; if the tokens do not fit the first (None), the result is x, that of the second
abbrev pub match_option : {A B : Type 0} → Option A → B → (A → B) → B
match_option None x f = x
match_option (Some y) x f = f y

-- whether two Booleans are equal
abbrev pub bool_eq : Bool → Bool → Bool
bool_eq true b = b
bool_eq false b = not b

-- the tokens of a result of the code, as definitions have them; `None` if the result is `None`
abbrev pub seen : Option (Bor (List CodeToken)) → Option (List Token)
seen o = option_map (λ rest. shown_tokens rest.now) o

-- what the code has read at the front of the tokens, and the tokens after it, as definitions have
-- them; `None` if it has read nothing
abbrev pub seen_pair : {A : Type 0} → Option (A × Bor (List CodeToken)) → Option (A × List Token)
seen_pair o = option_map (λ p. (p.0, shown_tokens p.1.now)) o

-- the bytes of a name or a symbol that the code has read, and the tokens after it, as definitions
-- have them; `None` if it has read none
abbrev pub seen_token : Option (Bor (List ℕ) × Bor (List CodeToken)) → Option (List ℕ × List Token)
seen_token o = option_map (λ p. (p.0.now, shown_tokens p.1.now)) o

-- what the code has read, and the name of the label that it names, empty if it names none; `None`
-- if the code has read nothing
abbrev pub seen_destination : {A : Type 0} → Option (A × Bor (List ℕ)) → Option (A × List ℕ)
seen_destination o = option_map (λ p. (p.0, p.1.now)) o

-- ---- the names

-- each name of a register: whether it names all 64 bits (`true`) or the low 32, and the register
abbrev pub registers : List (List ℕ × (Bool × ℕ))
registers =
    (codes "r0", (true, 0)) ∷ (codes "r1", (true, 1)) ∷ (codes "r2", (true, 2))
    ∷ (codes "r3", (true, 3)) ∷ (codes "r4", (true, 4)) ∷ (codes "r5", (true, 5))
    ∷ (codes "r6", (true, 6)) ∷ (codes "r7", (true, 7)) ∷ (codes "r8", (true, 8))
    ∷ (codes "r9", (true, 9)) ∷ (codes "r10", (true, 10))
    ∷ (codes "w0", (false, 0)) ∷ (codes "w1", (false, 1)) ∷ (codes "w2", (false, 2))
    ∷ (codes "w3", (false, 3)) ∷ (codes "w4", (false, 4)) ∷ (codes "w5", (false, 5))
    ∷ (codes "w6", (false, 6)) ∷ (codes "w7", (false, 7)) ∷ (codes "w8", (false, 8))
    ∷ (codes "w9", (false, 9)) ∷ (codes "w10", (false, 10)) ∷ []

-- ---- one token

-- the bytes t of the first token, if it is a symbol, as `+=` or `(`, and the tokens ts after it;
-- `None` if the first token is a name or a number, or if the list is empty
abbrev pub leading_symbol : List Token → Option (List ℕ × List Token)
leading_symbol [] = None
leading_symbol (name n ∷ ts) = None
leading_symbol (number v ∷ ts) = None
leading_symbol (symbol t ∷ ts) = Some (t, ts)

-- the bytes n of the first token, if it is a name, and the tokens ts after it; `None` if the first
-- token is a number or a symbol, or if there are no tokens. Names are words as `goto` or `u32`,
-- registers as `r1`, and labels
abbrev pub leading_name : List Token → Option (List ℕ × List Token)
leading_name [] = None
leading_name (name n ∷ ts) = Some (n, ts)
leading_name (number v ∷ ts) = None
leading_name (symbol t ∷ ts) = None

-- the value v of the first token, if that is a number, and the tokens after it. The result is
-- `None` if there are no tokens, or if the first one is a name or a symbol; a minus or a plus is a
-- symbol, so the tokens of `-5` give `None`. The value is itself an option: v is `None` if the
-- number is 2 ^ 64 or more
abbrev pub leading_number : List Token → Option (Option ℕ × List Token)
leading_number [] = None
leading_number (name n ∷ ts) = None
leading_number (number v ∷ ts) = Some (v, ts)
leading_number (symbol t ∷ ts) = None

-- the tokens after this symbol, if it is the first; `None` if it is not
unfoldable pub after_symbol : List ℕ → List Token → Option (List Token)
after_symbol expected ts =
    leading_symbol ts >>= λ s. if bytes_eq s.0 expected then Some s.1 else None

-- the tokens after this name, if it is the first; `None` if it is not
unfoldable pub after_word : List ℕ → List Token → Option (List Token)
after_word expected ts = leading_name ts >>= λ n. if bytes_eq n.0 expected then Some n.1 else None

-- ---- parts of a line, and the tokens after them

-- a register: r (64 bits) if wide, else w (the low 32); `None` if the first token is no such name
unfoldable pub leading_register : Bool → List Token → Option (ℕ × List Token)
leading_register wide ts = do
  n ← leading_name ts
  r ← named registers n.0
  if bool_eq r.0 wide then Some (r.1, n.1) else None

-- the number with this sign, from the magnitude that was read, and the tokens after it; `None` if
-- no magnitude was read
abbrev pub number_from : Bool → Option (Option ℕ × List Token) → Option (Number × List Token)
number_from negative o = option_map (λ v. (record { negative = negative; magnitude = v.0 }, v.1)) o

-- the number with which the tokens begin, after a minus or without a sign, and the tokens after it;
-- `None` if the tokens begin with no number
unfoldable pub leading_constant : List Token → Option (Number × List Token)
leading_constant ts =
    match_option (after_symbol (codes "-") ts) (number_from false (leading_number ts))
    (λ rest. number_from true (leading_number rest))

-- a number after its sign, + or -; `None` of a number without a sign
unfoldable pub leading_signed_number : List Token → Option (Number × List Token)
leading_signed_number ts =
    match_option (after_symbol (codes "+") ts)
    (after_symbol (codes "-") ts >>= λ rest. number_from true (leading_number rest))
    (λ rest. number_from false (leading_number rest))

-- a register, r (64 bits) if wide, else w (the low 32), or a constant
unfoldable pub leading_operand : Bool → List Token → Option (SourceOperand × List Token)
leading_operand wide ts =
    match_option (leading_register wide ts)
    (option_map (λ n. (source.Number n.0, n.1)) (leading_constant ts))
    (λ r. Some (source.Reg r.0, r.1))

-- whether the list is empty: of the tokens after those that were read, that the line ends there
-- (`at_end`); of all tokens of a line, that the line is blank (`line_of`)
abbrev pub is_ended : List Token → Bool
is_ended [] = true
is_ended (t ∷ ts) = false

-- `x`, which was read, if no token is left; else `None`
abbrev pub at_end : {A : Type 0} → A → List Token → Option A
at_end x ts = if is_ended ts then Some x else None

-- the target of a jump, a signed number or a label, and the label's name, empty for a number;
-- `None` if the tokens begin with neither, or more tokens follow
unfoldable pub parsed_destination : List Token → Option (JumpTarget × List ℕ)
parsed_destination ts =
    match_option (leading_signed_number ts)
    (leading_name ts >>= λ n. at_end (target.Label, n.0) n.1)
    (λ n. at_end (target.Number n.0, []) n.1)

-- a memory operand, as *(u32 *)(r6 + 0): whether its size is signed, the size, and the address
unfoldable pub leading_address : List Token → Option (((Bool × AccessSize) × Address) × List Token)
leading_address ts = do
  ts ← after_symbol (codes "*") ts
  ts ← after_symbol (codes "(") ts
  n ← leading_name ts
  s ← load_by_name n.0
  ts ← after_symbol (codes "*") n.1
  ts ← after_symbol (codes ")") ts
  ts ← after_symbol (codes "(") ts
  r ← leading_register true ts
  o ← leading_signed_number r.1
  ts ← after_symbol (codes ")") o.1
  Some ((s, record { base = r.0; offset = o.0 }), ts)

-- an address in a map's value, from the tokens after `map_value`: a descriptor, + and an offset;
-- and the tokens after it; `None` if the tokens don't begin so
abbrev pub leading_map_value : List Token → Option (WideValue × List Token)
leading_map_value ts = do
  n ← leading_constant ts
  ts ← after_symbol (codes "+") n.1
  off ← leading_number ts
  Some (value.MapValue n.0 off.0, off.1)

-- the value of a wide load: after `map_fd` a map, after `map_value` an address in a map's value,
-- else a number. The `ll` that ends the line is not read here.
unfoldable pub leading_wide_value : List Token → Option (WideValue × List Token)
leading_wide_value ts =
    match_option (after_word (codes "map_fd") ts)
    (match_option (after_word (codes "map_value") ts)
    (leading_number ts >>= λ n. Some (value.Number n.0, n.1)) (λ rest. leading_map_value rest))
    (λ rest. leading_constant rest >>= λ n. Some (value.MapFd n.0, n.1))

-- the size of an atomic operation whose memory operand has this size; `None` if it is signed
-- (`true`) or below 4 bytes (RFC 9669, section 5.3)
abbrev pub atomic_size_of : Bool → AccessSize → Option AtomicSize
atomic_size_of false size.Word = Some atomic_size.Word
atomic_size_of false size.Double = Some atomic_size.Double
atomic_size_of _ _ = None

-- ---- operations

-- an operator of two operands or a move, from the tokens after its symbol, which are its source: a
-- constant, or a register, r if wide, else w
unfoldable pub parsed_binary : Bool → AluOp → List Token → Option Operation
parsed_binary wide op ts =
    leading_operand wide ts >>= λ src. at_end (operation.Binary op src.0) src.1

-- a move with sign extension, from the tokens after `(`, as s16)r2: of an r register if wide, else
-- of a w register. `None` also if a w register is extended from 32 bits, which are all that it has
unfoldable pub parsed_sign_extension : Bool → List Token → Option Operation
parsed_sign_extension wide ts = do
  n ← leading_name ts
  from ← extension_by_name n.0
  ts ← after_symbol (codes ")") n.1
  src ← leading_register wide ts
  if wide || is_short from then at_end (operation.SignExtend from src.0) src.1 else None

-- the operation `o`, if the tokens are its destination again, register dst (an r register if wide,
-- else a w register), and no token follows; else None
unfoldable pub parsed_in_place : Bool → ℕ → Operation → List Token → Option Operation
parsed_in_place wide dst o ts =
    leading_register wide ts >>= λ r. if r.0 == dst then at_end o r.1 else None

-- a byte-order conversion of the r register dst, from the tokens after `=`: its name, and dst again
abbrev pub parsed_end : ℕ → List Token → Option Operation
parsed_end dst ts = do
  n ← leading_name ts
  o ← order_by_name n.0
  parsed_in_place true dst (operation.End o.0 o.1) n.1

-- an operation of one operand, from the tokens after `=`: a move with sign extension begins with
-- `(`, a negation with `-`; any other is a byte-order conversion, which only an r register (wide)
-- has
unfoldable pub parsed_unary : Bool → ℕ → List Token → Option Operation
parsed_unary wide dst ts =
    match_option (after_symbol (codes "(") ts)
    (match_option (after_symbol (codes "-") ts) (if wide then parsed_end dst ts else None)
    (λ rest. parsed_in_place wide dst operation.Neg rest))
    (λ rest. parsed_sign_extension wide rest)

-- whether the operator is a move, whose symbol is `=`
abbrev pub is_move : AluOp → Bool
is_move Mov = true
is_move _ = false

-- an operation on dst, an r register if wide, else w, from the tokens after the symbol of its
-- operator: one of two operands or, after `=`, the symbol of a move, one of one operand; None if
-- they are neither
unfoldable pub parsed_operation : Bool → AluOp → ℕ → List Token → Option Operation
parsed_operation wide op dst ts =
    match_option (parsed_binary wide op ts) (if is_move op then parsed_unary wide dst ts else None)
    (λ o. Some o)

-- ---- forms

-- a load into dst, from the tokens after `=`: a memory operand, whose size may be signed
unfoldable pub parsed_load : ℕ → List Token → Option Form
parsed_load dst ts = do
  (((signed, size), at), ts) ← leading_address ts
  at_end (form.Access (access.Load size signed dst) at) ts

-- a store: a memory operand, `=`, and a constant or an r register; `None` if the tokens are
-- anything else, or the size is signed
unfoldable pub parsed_store : List Token → Option Form
parsed_store ts = do
  (((signed, size), at), ts) ← leading_address ts
  ts ← after_symbol (codes "=") ts
  (src, ts) ← leading_operand true ts
  if signed then None else at_end (form.Access (access.Store size src) at) ts

-- an atomic operation, from the tokens after `lock`: a memory operand of 4 or 8 bytes, not signed,
-- the operation's symbol, and an r register
unfoldable pub parsed_atomic : List Token → Option Form
parsed_atomic ts = do
  (((signed, size), at), ts) ← leading_address ts
  size ← atomic_size_of signed size
  (s, ts) ← leading_symbol ts
  op ← atomic_by_symbol s
  (src, ts) ← leading_register true ts
  at_end (form.Access (access.Atomic size op src) at) ts

-- a load of a 64-bit value into dst, from the tokens after `=`: the value, and `ll`
unfoldable pub parsed_wide_load : ℕ → List Token → Option Form
parsed_wide_load dst ts = do
  v ← leading_wide_value ts
  ts ← after_word (codes "ll") v.1
  at_end (form.WideLoad dst v.0) ts

-- a wide load or a load into dst, from the tokens after `=`
abbrev pub parsed_loaded : ℕ → List Token → Option Form
parsed_loaded dst ts = match_option (parsed_wide_load dst ts) (parsed_load dst ts) (λ f. Some f)

-- a line that begins with its destination register: an operation on it, or, with `=` and an r
-- register, a load into it; `None` if the tokens are no such line
unfoldable pub parsed_assigned : List Token → Option Form
parsed_assigned ts = do
  n ← leading_name ts
  r ← named registers n.0
  s ← leading_symbol n.1
  op ← alu_by_symbol s.0
  match_option (parsed_operation r.0 op r.1 s.1)
      (if r.0 && is_move op then parsed_loaded r.1 s.1 else None)
      (λ o. Some (form.Operation r.0 r.1 o))

-- a jump, a long one if `true`, from the tokens after its first word, and the name of its label,
-- empty if it names none
abbrev pub parsed_jump : Bool → List Token → Option (Form × List ℕ)
parsed_jump long ts = option_map (λ to. (form.Jump long to.0, to.1)) (parsed_destination ts)

-- a conditional jump, from the tokens after `if`, and the name of its label, empty if it names none
unfoldable pub parsed_branch : List Token → Option (Form × List ℕ)
parsed_branch ts = do
  n ← leading_name ts
  r ← named registers n.0
  s ← leading_symbol n.1
  c ← condition_by_symbol s.0
  src ← leading_operand r.0 s.1
  ts ← after_word (codes "goto") src.1
  to ← parsed_destination ts
  Some (form.Branch r.0 c r.1 src.0 to.0, to.1)

-- a call, from the tokens after `call`
abbrev pub parsed_call : List Token → Option Form
parsed_call ts = leading_constant ts >>= λ n. at_end (form.Call n.0) n.1

-- a form that names no label, with the empty name; `None` if there is no form
abbrev pub without_label : Option Form → Option (Form × List ℕ)
without_label o = option_map (λ f. (f, [])) o

-- the form of the instruction that the tokens are, and the name of its label, empty if it names
-- none; `None` if the tokens are no instruction. An instruction without one of the six words (`if`
-- to `lock`) in front begins with its destination register, or is a store.
unfoldable pub parsed_form : List Token → Option (Form × List ℕ)
parsed_form ts =
    match_option (after_word (codes "if") ts)
    (match_option (after_word (codes "goto") ts)
    (match_option (after_word (codes "gotol") ts)
    (match_option (after_word (codes "call") ts)
    (match_option (after_word (codes "exit") ts)
    (match_option (after_word (codes "lock") ts)
    (match_option (parsed_assigned ts) (without_label (parsed_store ts)) (λ f. Some (f, [])))
    (λ rest. without_label (parsed_atomic rest)))
    (λ rest. at_end (form.Exit, []) rest))
    (λ rest. without_label (parsed_call rest)))
    (λ rest. parsed_jump true rest))
    (λ rest. parsed_jump false rest))
    (λ rest. parsed_branch rest)

-- the name of the label that the line defines: the name before `:`, with which the line ends
unfoldable pub parsed_label : List Token → Option (List ℕ)
parsed_label ts = do
  n ← leading_name ts
  rest ← after_symbol (codes ":") n.1
  at_end n.0 rest

-- the line of the tokens; `None` if they have none of the forms
unfoldable pub line_of : List Token → Option Line
line_of ts =
    if is_ended ts then Some blank
    else
    (match_option (parsed_label ts) (option_map (λ f. Code f.0 f.1) (parsed_form ts))
    (λ n. Some (label n)))
