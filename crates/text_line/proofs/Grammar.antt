-- Soundness of the parser: the tokens of a line that is read are the line's spelling.
use Rattle.std.proofs.Common.{◌≡◌, ℕ, ◌≤◌, Bool, true, false, cond, List, [], ◌∷◌, Option, Some}
use Rattle.std.proofs.Common.{None, refl, ap, ◌∙◌, ◌⊎◌, inl, inr, subst, sym, eqb, leb, option_map}
use Rattle.std.specs.Prelude.{codes, IsTrue, ◌||◌, ◌&&◌, not}
use Rattle.std.specs.Str.{bytes_eq}
use Rattle.std.proofs.lemmas.Slice.Eq.{bytes_eq-Decides}
use Rattle.std.proofs.lemmas.Bool.{false≢true, and_parts, eqb-true, leb-true}
use Rattle.std.proofs.lemmas.Option.{none-some, same_Some, cond_some, option_and_then_some}
use Rattle.words.specs.declared.operator.AluOp.{AluOp}
use Rattle.words.specs.declared.operator.AluOp.TheVariants.{Mov}
use Rattle.words.specs.declared.stack.AccessSize.{AccessSize}
use Rattle.words.specs.declared.stack.AccessSize.TheVariants as size
use Rattle.insn_set.specs.declared.atomic.AtomicSize.{AtomicSize}
use Rattle.insn_set.specs.declared.atomic.AtomicSize.TheVariants as atomic_size
use Rattle.words.specs.Operate.{is_short}
use Rattle.insn_set.specs.Atomic.{access_size, atomic_symbol}
use Rattle.insn_set.specs.Operator.{alu_symbol}
use Rattle.insn_set.specs.Load.{size_name}
use Rattle.insn_set.specs.RowLaws.{alu_symbol_is, order_name_is, extension_name_is, size_name_is, size_listed, condition_symbol_is, atomic_symbol_is}
use Rattle.insn_set.specs.Table.{named}
use Rattle.insn_set.specs.TableLaws.{found_named, name_of}
use Rattle.insn_set.specs.OperatorRows.{alu_by_symbol}
use Rattle.insn_set.specs.ConversionRows.{order_by_name, extension_by_name}
use Rattle.insn_set.specs.LoadRows.{load_by_name}
use Rattle.insn_set.specs.ConditionRows.{condition_by_symbol}
use Rattle.insn_set.specs.AtomicRows.{atomic_by_symbol}
use Rattle.words.specs.Stack.{is_double}
use Rattle.text_line.specs.declared.form.Number.{Number}
use Rattle.text_line.specs.declared.form.SourceOperand.{SourceOperand}
use Rattle.text_line.specs.declared.form.JumpTarget.{JumpTarget}
use Rattle.text_line.specs.declared.form.Operation.{Operation}
use Rattle.text_line.specs.declared.form.Operation.TheVariants as operation
use Rattle.text_line.specs.declared.form.WideValue.{WideValue}
use Rattle.text_line.specs.declared.form.Form.{Form}
use Rattle.text_line.specs.declared.form.Form.TheVariants as form
use Rattle.text_line.specs.declared.form.Address.{Address}
use Rattle.text_line.specs.Token.{Token, name, number, symbol}
use Rattle.text_line.specs.Names.{register_name, sign_name, jump_name}
use Rattle.text_line.specs.Form.{TokenLayout, layout, operation_layout, value_layout, sign, word, space, tokens_of, reg}
use Rattle.text_line.specs.Form.{to_label, constant, operand_layout, destination, address, IsForm, IsOperation, IsSource, names_label}
use Rattle.text_line.specs.Line.{Line, blank, label, line_tokens, IsWellFormed, NoLabel}
use Rattle.text_line.specs.inside.Reading.{registers, leading_symbol, leading_name, leading_number, after_symbol, after_word}
use Rattle.text_line.specs.inside.Reading.{leading_register, number_from, leading_constant, leading_signed_number, leading_operand}
use Rattle.text_line.specs.inside.Reading.{parsed_destination, leading_address, leading_wide_value, atomic_size_of, at_end, match_option}
use Rattle.text_line.specs.inside.Reading.{parsed_binary, parsed_sign_extension, parsed_in_place, parsed_end, parsed_unary, is_move}
use Rattle.text_line.specs.inside.Reading.{parsed_operation, parsed_load, parsed_store, parsed_atomic, parsed_wide_load, parsed_loaded}
use Rattle.text_line.specs.inside.Reading.{parsed_assigned, parsed_jump, parsed_branch, parsed_call, without_label, parsed_form, parsed_label, line_of, bool_eq}
use Rattle.text_line.specs.inside.Reading.{◌>>=◌}

-- ---- options and tests that have a value

map_some : {A B : Type 0} (o : Option A) (f : A → B) (y : B)
    → option_map f o ≡ Some y → (x : A) × (o ≡ Some x) × (f x ≡ y)
map_some None f y e = absurd (none-some y e)
map_some (Some x) f y e = (x, refl, same_Some (f x) y e)

either : {A B : Type 0} (o : Option A) (d : Option B) (f : A → Option B) (y : B)
    → match_option o d f ≡ Some y → (d ≡ Some y) ⊎ ((x : A) × (o ≡ Some x) × (f x ≡ Some y))
either None d f y e = inl e
either (Some x) d f y e = inr (x, refl, e)

if_true : {A : Type 0} (b : Bool) (o : Option A) (y : A) → cond b o None ≡ Some y → (b ≡ true) × (o ≡ Some y)
if_true true o y e = (refl, e)
if_true false o y e = absurd (none-some y e)

if_false : {A : Type 0} (b : Bool) (o : Option A) (y : A) → cond b None o ≡ Some y → (b ≡ false) × (o ≡ Some y)
if_false true o y e = absurd (none-some y e)
if_false false o y e = (refl, e)

-- ---- names

is_eq : (x y : List ℕ) → bytes_eq x y ≡ true → x ≡ y
is_eq x y e = (bytes_eq-Decides x y).0 e

register_is : (n : List ℕ) (r : Bool × ℕ) → named registers n ≡ Some r → (n ≡ register_name r.0 r.1) × (r.1 ≤ 10)
register_is n r e = (
  sym (name_of (λ r. register_name r.0 r.1) registers n r refl e),
  leb-true r.1 10 (found_named (λ _ r. leb r.1 10) registers n r refl e),
)

-- ---- tokens: the list begins with the token that is read first, and reading continues after it

symbol_then : {B P : Type 0} (ts : List Token) (k : List ℕ × List Token → Option B) (y : B)
    → (leading_symbol ts >>= k) ≡ Some y
    → ((s : List ℕ) (rest : List Token) → ts ≡ symbol s ∷ rest → k (s, rest) ≡ Some y → P)
    → P
symbol_then (symbol s ∷ ts) k y e then = then s ts refl e
symbol_then _ k y e then = absurd (none-some y e)

name_then : {B P : Type 0} (ts : List Token) (k : List ℕ × List Token → Option B) (y : B)
    → (leading_name ts >>= k) ≡ Some y
    → ((n : List ℕ) (rest : List Token) → ts ≡ name n ∷ rest → k (n, rest) ≡ Some y → P)
    → P
name_then (name n ∷ ts) k y e then = then n ts refl e
name_then _ k y e then = absurd (none-some y e)

number_then : {B P : Type 0} (ts : List Token) (k : Option ℕ × List Token → Option B) (y : B)
    → (leading_number ts >>= k) ≡ Some y
    → ((v : Option ℕ) (rest : List Token) → ts ≡ number v ∷ rest → k (v, rest) ≡ Some y → P)
    → P
number_then (number v ∷ ts) k y e then = then v ts refl e
number_then _ k y e then = absurd (none-some y e)

after_symbol_is : (s : List ℕ) (ts rest : List Token) → after_symbol s ts ≡ Some rest → ts ≡ symbol s ∷ rest
unfolding after_symbol
after_symbol_is s ts rest e =
    symbol_then ts _ rest e (λ t us is e.
    let (same, end) = cond_some (bytes_eq t s) us rest e in
    is ∙ ap (λ t. symbol t ∷ us) (is_eq t s same) ∙ ap (λ l. symbol s ∷ l) end)

after_word_is : (w : List ℕ) (ts rest : List Token) → after_word w ts ≡ Some rest → ts ≡ name w ∷ rest
unfolding after_word
after_word_is w ts rest e =
    name_then ts _ rest e (λ n us is e.
    let (same, end) = cond_some (bytes_eq n w) us rest e in
    is ∙ ap (λ n. name n ∷ us) (is_eq n w same) ∙ ap (λ l. name w ∷ l) end)

after_symbol_then : {B P : Type 0} (s : List ℕ) (ts : List Token) (k : List Token → Option B) (y : B)
    → (after_symbol s ts >>= k) ≡ Some y
    → ((rest : List Token) → ts ≡ symbol s ∷ rest → k rest ≡ Some y → P)
    → P
after_symbol_then s ts k y e then =
    option_and_then_some k (after_symbol s ts) y e (λ rest found. then rest (after_symbol_is s ts rest found))

after_word_then : {B P : Type 0} (w : List ℕ) (ts : List Token) (k : List Token → Option B) (y : B)
    → (after_word w ts >>= k) ≡ Some y
    → ((rest : List Token) → ts ≡ name w ∷ rest → k rest ≡ Some y → P)
    → P
after_word_then w ts k y e then =
    option_and_then_some k (after_word w ts) y e (λ rest found. then rest (after_word_is w ts rest found))

-- a property holds after an optional symbol if it holds with the symbol and without it
symbol_or : {B : Type 0} (P : List Token → Type 0) (s : List ℕ) (ts : List Token) (d : Option B)
    (k : List Token → Option B) (y : B)
    → match_option (after_symbol s ts) d k ≡ Some y
    → ((rest : List Token) → k rest ≡ Some y → P (symbol s ∷ rest))
    → (d ≡ Some y → P ts)
    → P ts
symbol_or P s ts d k y e behind without = elim (either (after_symbol s ts) d k y e) [
  | inl e ↦ without e
  | inr (rest, found, e) ↦ subst P (sym (after_symbol_is s ts rest found)) (behind rest e)
]

word_or : {B : Type 0} (P : List Token → Type 0) (w : List ℕ) (ts : List Token) (d : Option B)
    (k : List Token → Option B) (y : B)
    → match_option (after_word w ts) d k ≡ Some y
    → ((rest : List Token) → k rest ≡ Some y → P (name w ∷ rest))
    → (d ≡ Some y → P ts)
    → P ts
word_or P w ts d k y e behind without = elim (either (after_word w ts) d k y e) [
  | inl e ↦ without e
  | inr (rest, found, e) ↦ subst P (sym (after_word_is w ts rest found)) (behind rest e)
]

end_is : {A : Type 0} (ts : List Token) (x y : A) → at_end x ts ≡ Some y → (ts ≡ []) × (x ≡ y)
end_is [] x y e = (refl, same_Some x y e)
end_is (t ∷ ts) x y e = absurd (none-some y e)

same_width : (a b : Bool) → bool_eq a b ≡ true → a ≡ b
same_width true b e = sym e
same_width false true e = e
same_width false false e = refl

-- ---- parts of a line: the tokens are the part and what follows it

abbrev RegisterRead : Bool → List Token → ℕ × List Token → Type 0
RegisterRead wide ts p = (ts ≡ name (register_name wide p.0) ∷ p.1) × (p.0 ≤ 10)

register_read : (wide : Bool) (ts : List Token) (p : ℕ × List Token)
    → leading_register wide ts ≡ Some p → RegisterRead wide ts p
unfolding leading_register
register_read wide ts p e =
    name_then ts _ p e (λ n us is e.
    option_and_then_some _ (named registers n) p e (λ r found e.
    let (width, same) = cond_some (bool_eq r.0 wide) (r.1, us) p e in
    let (named, bound) = register_is n r found in
    subst (RegisterRead wide ts) same (cc (same_width r.0 wide width), bound)))

number_read : (negative : Bool) (ts : List Token) (p : Number × List Token)
    → number_from negative (leading_number ts) ≡ Some p
    → (p.0.negative ≡ negative) × (ts ≡ number p.0.magnitude ∷ p.1)
number_read negative (number v ∷ ts) p e =
    subst (λ p. (p.0.negative ≡ negative) × (number v ∷ ts ≡ number p.0.magnitude ∷ p.1)) (same_Some _ p e) (refl, refl)
number_read negative _ p e = absurd (none-some p e)

constant_read : (ts : List Token) (p : Number × List Token)
    → leading_constant ts ≡ Some p
    → (rest : TokenLayout) → tokens_of rest ≡ p.1
    → ts ≡ tokens_of (constant p.0 rest)
unfolding leading_constant
constant_read ts p e rest after = elim (either (after_symbol (codes "-") ts) _ _ p e) [
  | inl e ↦ let (sign, is) = number_read false ts p e in rw (sign, after) is
  | inr (us, found, e) ↦ let (sign, is) =
      number_read true us p e in rw (sign, after)
      (after_symbol_is (codes "-") ts us found ∙ ap (λ l. symbol (codes "-") ∷ l) is)
]

signed_number_read : (ts : List Token) (p : Number × List Token)
    → leading_signed_number ts ≡ Some p
    → ts ≡ symbol (sign_name p.0.negative) ∷ number p.0.magnitude ∷ p.1
unfolding leading_signed_number
signed_number_read ts p e = elim (either (after_symbol (codes "+") ts) _ _ p e) [
  | inl e ↦
      after_symbol_then (codes "-") ts _ p e (λ us minus e.
      let (sign, is) = number_read true us p e in
      minus
      ∙ ap (λ l. symbol (codes "-") ∷ l) is
      ∙ ap (λ b. symbol (sign_name b) ∷ number p.0.magnitude ∷ p.1) (sym sign))
  | inr (us, found, e) ↦ let (sign, is) =
      number_read false us p e in rw sign
      (after_symbol_is (codes "+") ts us found ∙ ap (λ l. symbol (codes "+") ∷ l) is)
]

abbrev OperandRead : Bool → List Token → SourceOperand × List Token → Type 0
OperandRead wide ts p =
    ((rest : TokenLayout) → tokens_of rest ≡ p.1 → ts ≡ tokens_of (operand_layout wide p.0 rest)) × IsSource p.0

operand_read : (wide : Bool) (ts : List Token) (p : SourceOperand × List Token)
    → leading_operand wide ts ≡ Some p → OperandRead wide ts p
unfolding leading_operand
operand_read wide ts p e = elim (either (leading_register wide ts) _ _ p e) [
  | inl e ↦ let (n, found, same) =
      map_some (leading_constant ts) _ p e in subst (OperandRead wide ts) same (constant_read ts n found, tt)
  | inr (r, found, e) ↦
      let (is, bound) = register_read wide ts r found in
      subst (OperandRead wide ts) (same_Some _ p e)
      ((λ rest after. is ∙ ap (λ l. name (register_name wide r.0) ∷ l) (sym after)), bound)
]

abbrev DestinationRead : List Token → JumpTarget × List ℕ → Type 0
DestinationRead ts p = (ts ≡ tokens_of (destination p.0 p.1)) × NoLabel (to_label p.0) p.1

destination_read : (ts : List Token) (p : JumpTarget × List ℕ) → parsed_destination ts ≡ Some p → DestinationRead ts p
unfolding parsed_destination
destination_read ts p e = elim (either (leading_signed_number ts) _ _ p e) [
  | inl e ↦
      name_then ts _ p e (λ n us is e.
      let (end, same) = end_is us _ p e in
      subst (DestinationRead ts) same (is ∙ ap (λ l. name n ∷ l) end, tt))
  | inr (n, found, e) ↦
      let (end, same) = end_is n.1 _ p e in
      subst (DestinationRead ts) same
      (signed_number_read ts n found ∙ ap (λ l. symbol (sign_name n.0.negative) ∷ number n.0.magnitude ∷ l) end, refl)
]

abbrev AddressRead : List Token → ((Bool × AccessSize) × Address) × List Token → Type 0
AddressRead ts p =
    ((rest : TokenLayout) → tokens_of rest ≡ p.1 → ts ≡ tokens_of (address (size_name p.0.0.0 p.0.0.1) p.0.1 rest))
    × (p.0.1.base ≤ 10) × IsTrue (not (p.0.0.0 && is_double p.0.0.1))

address_read : (ts : List Token) (p : ((Bool × AccessSize) × Address) × List Token)
    → leading_address ts ≡ Some p → AddressRead ts p
unfolding leading_address
address_read ts p e =
    after_symbol_then (codes "*") ts _ p e (λ a is_a e.
    after_symbol_then (codes "(") a _ p e (λ b is_b e.
    name_then b _ p e (λ n c is_n e.
    option_and_then_some _ (load_by_name n) p e (λ s found e.
    after_symbol_then (codes "*") c _ p e (λ d is_c e.
    after_symbol_then (codes ")") d _ p e (λ f is_d e.
    after_symbol_then (codes "(") f _ p e (λ g is_f e.
    option_and_then_some _ (leading_register true g) p e (λ r read e.
    option_and_then_some _ (leading_signed_number r.1) p e (λ o signed e.
    after_symbol_then (codes ")") o.1 _ p e (λ h is_o e.
    let (is_g, bound) = register_read true g r read in
    let is_size = size_name_is n s found in
    let is_r = signed_number_read r.1 o signed in
    subst (AddressRead ts) (same_Some _ p e) ((λ rest after. cc), bound, size_listed n s found)))))))))))

abbrev ValueRead : List Token → WideValue × List Token → Type 0
ValueRead ts p = (rest : TokenLayout) → tokens_of rest ≡ p.1 → ts ≡ tokens_of (value_layout p.0 rest)

wide_value_read : (ts : List Token) (p : WideValue × List Token) → leading_wide_value ts ≡ Some p → ValueRead ts p
unfolding leading_wide_value
wide_value_read ts p e =
    let P : List Token → Type 0 = λ ts. ValueRead ts p in
    word_or P (codes "map_fd") ts _ _ p e (λ us e.
    option_and_then_some _ (leading_constant us) p e (λ n found e.
    subst (ValueRead (name (codes "map_fd") ∷ us)) (same_Some _ p e)
    (λ rest after. ap (λ l. name (codes "map_fd") ∷ l) (constant_read us n found rest after))))
    (λ e.
    word_or P (codes "map_value") ts _ _ p e (λ us e.
    option_and_then_some _ (leading_constant us) p e (λ n found e.
    after_symbol_then (codes "+") n.1 _ p e (λ a is_n e.
    number_then a _ p e (λ off b is_a e.
    subst (ValueRead (name (codes "map_value") ∷ us)) (same_Some _ p e)
    (λ rest after.
    ap (λ l. name (codes "map_value") ∷ l)
    (constant_read us n found (space ∷ sign (codes "+") ∷ space ∷ Some (number off) ∷ rest) cc))))))
    (λ e.
    number_then ts _ p e (λ v us is e. subst (ValueRead ts) (same_Some _ p e) (λ rest after. cc))))

-- ---- operations

-- the tokens after the destination spell the operation
abbrev Operated : Bool → ℕ → List Token → Operation → Type 0
Operated wide dst ts o = (ts ≡ tokens_of (operation_layout wide dst o)) × IsOperation wide o

binary_is : (wide : Bool) (op : AluOp) (dst : ℕ) (ts : List Token) (o : Operation)
    → parsed_binary wide op ts ≡ Some o → Operated wide dst (symbol (alu_symbol op) ∷ ts) o
unfolding parsed_binary
binary_is wide op dst ts o e =
    option_and_then_some _ (leading_operand wide ts) o e (λ src found e.
    let (end, same) = end_is src.1 _ o e in
    let (is, source) = operand_read wide ts src found in
    subst (Operated wide dst (symbol (alu_symbol op) ∷ ts)) same
    (ap (λ l. symbol (alu_symbol op) ∷ l) (is [] (sym end)), source))

sign_extension_is : (wide : Bool) (dst : ℕ) (ts : List Token) (o : Operation)
    → parsed_sign_extension wide ts ≡ Some o
    → Operated wide dst (symbol (codes "=") ∷ symbol (codes "(") ∷ ts) o
unfolding parsed_sign_extension
sign_extension_is wide dst ts o e =
    name_then ts _ o e (λ n a is_n e.
    option_and_then_some _ (extension_by_name n) o e (λ from found_from e.
    let is_from = extension_name_is n from found_from in
    after_symbol_then (codes ")") a _ o e (λ b is_a e.
    option_and_then_some _ (leading_register wide b) o e (λ src found e.
    let (listed, e) = if_true (wide || is_short from) _ o e in
    let (end, same) = end_is src.1 _ o e in
    let (is_src, bound) = register_read wide b src found in
    subst (Operated wide dst (symbol (codes "=") ∷ symbol (codes "(") ∷ ts)) same (cc, (bound, listed))))))

-- the destination again
in_place_is : (wide : Bool) (dst : ℕ) (ts : List Token) (made o : Operation)
    → parsed_in_place wide dst made ts ≡ Some o
    → (ts ≡ name (register_name wide dst) ∷ []) × (made ≡ o)
unfolding parsed_in_place
in_place_is wide dst ts made o e =
    option_and_then_some _ (leading_register wide ts) o e (λ r found e.
    let (again, e) = if_true (eqb r.0 dst) _ o e in
    let (end, same) = end_is r.1 _ o e in
    let (is_r, _) = register_read wide ts r found in
    (cc (eqb-true r.0 dst again), same))

end_operation_is : (dst : ℕ) (ts : List Token) (o : Operation)
    → parsed_end dst ts ≡ Some o → Operated true dst (symbol (codes "=") ∷ ts) o
end_operation_is dst ts o e =
    name_then ts _ o e (λ n a is_n e.
    option_and_then_some _ (order_by_name n) o e (λ order found e.
    let is_order = order_name_is n order found in
    let (is, same) = in_place_is true dst a _ o e in
    subst (Operated true dst (symbol (codes "=") ∷ ts)) same (cc, refl)))

unary_is : (wide : Bool) (dst : ℕ) (ts : List Token) (o : Operation)
    → parsed_unary wide dst ts ≡ Some o → Operated wide dst (symbol (codes "=") ∷ ts) o
unfolding parsed_unary
unary_is wide dst ts o e =
    let P : List Token → Type 0 = λ ts. Operated wide dst (symbol (codes "=") ∷ ts) o in
    symbol_or P (codes "(") ts _ _ o e (λ rest e. sign_extension_is wide dst rest o e) (λ e.
    symbol_or P (codes "-") ts _ _ o e (λ rest e.
    let (is, same) = in_place_is wide dst rest operation.Neg o e in
    subst (Operated wide dst (symbol (codes "=") ∷ symbol (codes "-") ∷ rest)) same
    (ap (λ l. symbol (codes "=") ∷ symbol (codes "-") ∷ l) is, tt))
    (λ e.
    let (is_wide, e) = if_true wide _ o e in
    rw is_wide (end_operation_is dst ts o e)))

move_name : (op : AluOp) → is_move op ≡ true → alu_symbol op ≡ codes "="
move_name Mov e = refl
move_name _ e = absurd (false≢true e)

operation_is : (wide : Bool) (op : AluOp) (dst : ℕ) (ts : List Token) (o : Operation)
    → parsed_operation wide op dst ts ≡ Some o → Operated wide dst (symbol (alu_symbol op) ∷ ts) o
unfolding parsed_operation
operation_is wide op dst ts o e = elim (either (parsed_binary wide op ts) _ _ o e) [
  | inr (p, found, e) ↦ binary_is wide op dst ts o (found ∙ e)
  | inl e ↦ let (moves, e) = if_true (is_move op) _ o e in rw (move_name op moves) (unary_is wide dst ts o e)
]

-- ---- forms

-- the tokens spell the form, and the form is well formed
abbrev Spelled : List Token → Form → Type 0
Spelled ts f = (ts ≡ tokens_of (layout f [])) × IsForm f

-- the same with the label that it names
abbrev Whole : List Token → Form × List ℕ → Type 0
Whole ts f = (ts ≡ tokens_of (layout f.0 f.1)) × IsForm f.0 × NoLabel (names_label f.0) f.1

-- a register, `=` and more
abbrev assigned : ℕ → List Token → List Token
assigned dst ts = name (register_name true dst) ∷ symbol (codes "=") ∷ ts

call_is : (ts : List Token) (f : Form) → parsed_call ts ≡ Some f → Spelled (name (codes "call") ∷ ts) f
call_is ts f e =
    option_and_then_some _ (leading_constant ts) f e (λ n found e.
    let (end, same) = end_is n.1 _ f e in
    subst (Spelled (name (codes "call") ∷ ts)) same
    (ap (λ l. name (codes "call") ∷ l) (constant_read ts n found [] (sym end)), tt))

load_is : (dst : ℕ) (ts : List Token) (f : Form) → dst ≤ 10 → parsed_load dst ts ≡ Some f → Spelled (assigned dst ts) f
unfolding parsed_load
load_is dst ts f fits e =
    option_and_then_some _ (leading_address ts) f e (λ a found e.
    let (end, same) = end_is a.1 _ f e in
    let (is, bound, listed) = address_read ts a found in
    subst (Spelled (assigned dst ts)) same (ap (assigned dst) (is [] (sym end)), (bound, (fits, listed))))

store_is : (ts : List Token) (f : Form) → parsed_store ts ≡ Some f → Spelled ts f
unfolding parsed_store
store_is ts f e =
    option_and_then_some _ (leading_address ts) f e (λ a found e.
    after_symbol_then (codes "=") a.1 _ f e (λ b is_b e.
    option_and_then_some _ (leading_operand true b) f e (λ src read e.
    let (unsigned, e) = if_false a.0.0.0 _ f e in
    let (end, same) = end_is src.1 _ f e in
    let (is, bound, _) = address_read ts a found in
    let (is_src, source) = operand_read true b src read in
    let rest : TokenLayout = space ∷ sign (codes "=") ∷ space ∷ operand_layout true src.0 [] in
    let after : tokens_of rest ≡ a.1 = sym (is_b ∙ ap (λ l. symbol (codes "=") ∷ l) (is_src [] (sym end))) in
    subst (Spelled ts) same (
      is rest after ∙ ap (λ signed. tokens_of (address (size_name signed a.0.0.1) a.0.1 rest)) unsigned,
      (bound, source),
    ))))

-- the size that is written is that of the operation's load and store
atomic_size_is : (signed : Bool) (s : AccessSize) (z : AtomicSize)
    → atomic_size_of signed s ≡ Some z → size_name signed s ≡ size_name false (access_size z)
atomic_size_is false size.Word z e = ap (λ z. size_name false (access_size z)) (same_Some atomic_size.Word z e)
atomic_size_is false size.Double z e = ap (λ z. size_name false (access_size z)) (same_Some atomic_size.Double z e)
atomic_size_is _ _ z e = absurd (none-some z e)

atomic_is : (ts : List Token) (f : Form) → parsed_atomic ts ≡ Some f → Spelled (name (codes "lock") ∷ ts) f
unfolding parsed_atomic
atomic_is ts f e =
    option_and_then_some _ (leading_address ts) f e (λ a found e.
    option_and_then_some _ (atomic_size_of a.0.0.0 a.0.0.1) f e (λ z is_z e.
    symbol_then a.1 _ f e (λ s b is_a e.
    option_and_then_some _ (atomic_by_symbol s) f e (λ op found_op e.
    let is_op = atomic_symbol_is s op found_op in
    option_and_then_some _ (leading_register true b) f e (λ src read e.
    let (end, same) = end_is src.1 _ f e in
    let (is, bound, _) = address_read ts a found in
    let (is_src, src_bound) = register_read true b src read in
    let rest : TokenLayout = space ∷ sign (atomic_symbol op) ∷ space ∷ reg true src.0 ∷ [] in
    let after : tokens_of rest ≡ a.1 = cc in
    let size = ap (λ n. tokens_of (address n a.0.1 rest)) (atomic_size_is a.0.0.0 a.0.0.1 z is_z) in
    subst (Spelled (name (codes "lock") ∷ ts)) same
    (ap (λ l. name (codes "lock") ∷ l) (is rest after ∙ size), (bound, src_bound)))))))

branch_is : (ts : List Token) (f : Form × List ℕ) → parsed_branch ts ≡ Some f → Whole (name (codes "if") ∷ ts) f
unfolding parsed_branch
branch_is ts f e =
    name_then ts _ f e (λ n a is_n e.
    option_and_then_some _ (named registers n) f e (λ r found e.
    symbol_then a _ f e (λ s b is_s e.
    option_and_then_some _ (condition_by_symbol s) f e (λ c found_c e.
    let is_c = condition_symbol_is s c found_c in
    option_and_then_some _ (leading_operand r.0 b) f e (λ src read e.
    after_word_then (codes "goto") src.1 _ f e (λ g is_g e.
    option_and_then_some _ (parsed_destination g) f e (λ to leads e.
    let (is_r, bound) = register_is n r found in
    let (is_src, source) = operand_read r.0 b src read in
    let (is_to, labelled) = destination_read g to leads in
    let rest : TokenLayout = space ∷ word (codes "goto") ∷ space ∷ destination to.0 to.1 in
    let is_b = is_src rest cc in
    subst (Whole (name (codes "if") ∷ ts)) (same_Some _ f e) (cc, (bound, source), labelled))))))))

wide_load_is : (dst : ℕ) (ts : List Token) (f : Form)
    → dst ≤ 10 → parsed_wide_load dst ts ≡ Some f → Spelled (assigned dst ts) f
unfolding parsed_wide_load
wide_load_is dst ts f fits e =
    option_and_then_some _ (leading_wide_value ts) f e (λ v found e.
    after_word_then (codes "ll") v.1 _ f e (λ a is_v e.
    let (end, same) = end_is a _ f e in
    subst (Spelled (assigned dst ts)) same
    (ap (assigned dst) (wide_value_read ts v found (space ∷ word (codes "ll") ∷ []) cc), fits)))

loaded_is : (dst : ℕ) (ts : List Token) (f : Form)
    → dst ≤ 10 → parsed_loaded dst ts ≡ Some f → Spelled (assigned dst ts) f
loaded_is dst ts f fits e = elim (either (parsed_wide_load dst ts) _ _ f e) [
  | inr (g, found, e) ↦ wide_load_is dst ts f fits (found ∙ e)
  | inl e ↦ load_is dst ts f fits e
]

-- after the register and the operator
operated_is : (wide : Bool) (dst : ℕ) (op : AluOp) (ts : List Token) (f : Form)
    → dst ≤ 10
    → match_option (parsed_operation wide op dst ts)
    (cond (wide && is_move op) (parsed_loaded dst ts) None)
    (λ o. Some (form.Operation wide dst o))
    ≡ Some f
    → Spelled (name (register_name wide dst) ∷ symbol (alu_symbol op) ∷ ts) f
operated_is wide dst op ts f fits e = elim (either (parsed_operation wide op dst ts) _ _ f e) [
  | inr (o, found, e) ↦
      let (is, listed) = operation_is wide op dst ts o found in
      subst (Spelled (name (register_name wide dst) ∷ symbol (alu_symbol op) ∷ ts))
      (same_Some _ f e)
      (ap (λ l. name (register_name wide dst) ∷ l) is, (fits, listed))
  | inl e ↦
      let (both, e) = if_true (wide && is_move op) _ f e in
      let (is_wide, moves) = and_parts wide (is_move op) both in
      rw (is_wide, move_name op moves) (loaded_is dst ts f fits e)
]

assigned_is : (ts : List Token) (f : Form) → parsed_assigned ts ≡ Some f → Spelled ts f
unfolding parsed_assigned
assigned_is ts f e =
    name_then ts _ f e (λ n a is_n e.
    option_and_then_some _ (named registers n) f e (λ r found e.
    symbol_then a _ f e (λ s b is_a e.
    option_and_then_some _ (alu_by_symbol s) f e (λ op found_op e.
    let (is_r, bound) = register_is n r found in
    let is_op = alu_symbol_is s op found_op in
    let whole : name (register_name r.0 r.1) ∷ symbol (alu_symbol op) ∷ b ≡ ts = cc in
    subst (λ l. Spelled l f) whole (operated_is r.0 r.1 op b f bound e)))))

jump_is : (long : Bool) (ts : List Token) (f : Form × List ℕ)
    → parsed_jump long ts ≡ Some f → Whole (name (jump_name long) ∷ ts) f
jump_is long ts f e =
    let (to, found, same) = map_some (parsed_destination ts) _ f e in
    let (is, labelled) = destination_read ts to found in
    subst (Whole (name (jump_name long) ∷ ts)) same (ap (λ l. name (jump_name long) ∷ l) is, tt, labelled)

-- forms without a jump name no label
pub no_label : (b : Bool) → NoLabel b []
no_label true = tt
no_label false = refl

plain : (ts : List Token) (o : Option Form) (f : Form × List ℕ)
    → without_label o ≡ Some f → ((g : Form) → o ≡ Some g → Spelled ts g)
    → Whole ts f
plain ts o f e is =
    let (g, found, same) = map_some o _ f e in
    let (tokens, listed) = is g found in
    subst (Whole ts) same (tokens, listed, no_label (names_label g))

form_is : (ts : List Token) (f : Form × List ℕ) → parsed_form ts ≡ Some f → Whole ts f
unfolding parsed_form
form_is ts f e =
    let P : List Token → Type 0 = λ ts. Whole ts f in
    word_or P (codes "if") ts _ _ f e (λ rest e. branch_is rest f e) (λ e.
    word_or P (codes "goto") ts _ _ f e (λ rest e. jump_is false rest f e) (λ e.
    word_or P (codes "gotol") ts _ _ f e (λ rest e. jump_is true rest f e) (λ e.
    word_or P (codes "call") ts _ _ f e
    (λ rest e. plain (name (codes "call") ∷ rest) (parsed_call rest) f e (call_is rest)) (λ e.
    word_or P (codes "exit") ts _ _ f e (λ rest e. exit_is rest f e) (λ e.
    word_or P (codes "lock") ts _ _ f e
    (λ rest e.
    plain (name (codes "lock") ∷ rest) (parsed_atomic rest) f e (atomic_is rest)) (λ e.
    elim (either (parsed_assigned ts) _ _ f e) [
      | inr (g, found, e) ↦ plain ts (parsed_assigned ts) f (ap without_label found ∙ e) (assigned_is ts)
      | inl e ↦ plain ts (parsed_store ts) f e (store_is ts)
    ]))))))
  where
    exit_is : (rest : List Token) (f : Form × List ℕ)
        → at_end (form.Exit, []) rest ≡ Some f → Whole (name (codes "exit") ∷ rest) f
    exit_is rest f e =
        let (end, same) = end_is rest _ f e in
        subst (Whole (name (codes "exit") ∷ rest)) same (ap (λ l. name (codes "exit") ∷ l) end, tt, refl)

label_is : (ts : List Token) (n : List ℕ) → parsed_label ts ≡ Some n → ts ≡ line_tokens (label n)
unfolding parsed_label
label_is ts n e =
    name_then ts _ n e (λ m a is_m e.
    after_symbol_then (codes ":") a _ n e (λ b is_a e.
    let (end, same) = end_is b _ n e in
    subst (λ n. ts ≡ line_tokens (label n)) same cc))

-- the tokens of a line that is read are its spelling, and the line is well formed
pub line_is : (ts : List Token) (line : Line) → line_of ts ≡ Some line → (ts ≡ line_tokens line) × IsWellFormed line
unfolding line_of
line_is [] line e = subst (λ line. ([] ≡ line_tokens line) × IsWellFormed line) (same_Some blank line e) (refl, tt)
line_is (t ∷ ts) line e = elim (either (parsed_label (t ∷ ts)) _ _ line e) [
  | inr (n, found, e) ↦ subst
      (λ line. (t ∷ ts ≡ line_tokens line) × IsWellFormed line)
      (same_Some (label n) line e) (label_is (t ∷ ts) n found, tt)
  | inl e ↦
      let (f, found, same) = map_some (parsed_form (t ∷ ts)) _ line e in
      let (is, form, labelled) = form_is (t ∷ ts) f found in
      subst (λ line. (t ∷ ts ≡ line_tokens line) × IsWellFormed line) same (is, (form, labelled))
]
