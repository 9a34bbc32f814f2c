-- A number and a symbol are those of the row that is found by them, for each family that has a
-- table. This project's own. No contract cites these laws, so they are not part of what has to be
-- trusted.
use Rattle.std.specs.Prelude.{ℕ, Bool, true, false, List, IsTrue, not, ◌&&◌}
use Rattle.std.proofs.Common.{◌≡◌, Some, refl}
use Rattle.std.proofs.lemmas.Bool.{false≢true}
use Rattle.words.specs.declared.operator.AluOp.{AluOp}
use Rattle.words.specs.declared.operator.AluOp.TheVariants as op
use Rattle.words.specs.declared.operator.Condition.{Condition}
use Rattle.words.specs.declared.operator.Condition.TheVariants.{Equal}
use Rattle.words.specs.declared.operator.ByteOrder.{ByteOrder}
use Rattle.words.specs.declared.operator.ByteOrder.TheVariants.{Little, Big, Swap}
use Rattle.words.specs.declared.operator.KeptBits.{KeptBits}
use Rattle.words.specs.declared.operator.KeptBits.TheVariants.{Bits16}
use Rattle.words.specs.declared.operator.ExtendedBits.{ExtendedBits}
use Rattle.words.specs.declared.operator.ExtendedBits.TheVariants as narrow
use Rattle.words.specs.declared.stack.AccessSize.{AccessSize}
use Rattle.words.specs.declared.stack.AccessSize.TheVariants.{Byte, Double}
use Rattle.words.specs.Stack.{is_double}
use Rattle.insn_set.specs.declared.atomic.AtomicOp.{AtomicOp}
use Rattle.insn_set.specs.declared.atomic.AtomicOp.TheVariants.{Add}
use Rattle.insn_set.specs.Atomic.{atomic_number, atomic_symbol}
use Rattle.insn_set.specs.AtomicRows.{atomic_rows, atomic_by_number, atomic_by_symbol}
use Rattle.insn_set.specs.Condition.{condition_number, condition_symbol}
use Rattle.insn_set.specs.ConditionRows.{condition_rows, condition_by_number, condition_by_symbol}
use Rattle.insn_set.specs.Operator.{alu_number, alu_symbol}
use Rattle.insn_set.specs.OperatorRows.{alu_rows, alu_by_number, alu_by_symbol}
use Rattle.insn_set.specs.Load.{load_opcode, size_name}
use Rattle.insn_set.specs.LoadRows.{load_rows, load_by_opcode, load_by_name}
use Rattle.insn_set.specs.Conversion.{order_name, extension_name}
use Rattle.insn_set.specs.ConversionRows.{orders, order_by_name, extensions, extension_by_name}
use Rattle.insn_set.specs.TableLaws.{found_number, found_symbol, number_of, symbol_of, name_of}

-- ---- atomic operations

-- an atomic operation is found by its immediate
pub atomic_number_again : (op : AtomicOp) → atomic_by_number (atomic_number op) ≡ Some op
atomic_number_again Add = refl
atomic_number_again _ = refl

-- an atomic operation is found by its symbol
pub atomic_symbol_again : (op : AtomicOp) → atomic_by_symbol (atomic_symbol op) ≡ Some op
atomic_symbol_again Add = refl
atomic_symbol_again _ = refl

-- the atomic operation that is found by an immediate has this immediate
pub atomic_number_is : (n : ℕ) (op : AtomicOp) → atomic_by_number n ≡ Some op → atomic_number op ≡ n
atomic_number_is n op e = number_of atomic_number atomic_rows n op refl e

-- the atomic operation that is found by a symbol has this symbol
pub atomic_symbol_is : (s : List ℕ) (op : AtomicOp)
    → atomic_by_symbol s ≡ Some op
    → atomic_symbol op ≡ s
atomic_symbol_is s op e = symbol_of atomic_symbol atomic_rows s op refl e

-- ---- conditions

-- a condition is found by its code
pub condition_number_again : (c : Condition) → condition_by_number (condition_number c) ≡ Some c
condition_number_again Equal = refl
condition_number_again _ = refl

-- a condition is found by its symbol
pub condition_symbol_again : (c : Condition) → condition_by_symbol (condition_symbol c) ≡ Some c
condition_symbol_again Equal = refl
condition_symbol_again _ = refl

-- the condition that is found by a code has this code
pub condition_number_is : (n : ℕ) (c : Condition)
    → condition_by_number n ≡ Some c
    → condition_number c ≡ n
condition_number_is n c e = number_of condition_number condition_rows n c refl e

-- the condition that is found by a symbol has this symbol
pub condition_symbol_is : (s : List ℕ) (c : Condition)
    → condition_by_symbol s ≡ Some c
    → condition_symbol c ≡ s
condition_symbol_is s c e = symbol_of condition_symbol condition_rows s c refl e

-- ---- operators: of two with one code, the unsigned one is found

-- the operator with this operator's code and the offset field 0: the unsigned one if two have the
-- code, else the operator itself
abbrev pub unsigned_of : AluOp → AluOp
unsigned_of op.SignedDiv = op.Div
unsigned_of op.SignedMod = op.Mod
unsigned_of o = o

-- by the code of an operator, the unsigned operator with this code is found
pub alu_number_again : (o : AluOp) → alu_by_number (alu_number o) ≡ Some (unsigned_of o)
alu_number_again op.Add = refl
alu_number_again _ = refl

-- an operator is found by its symbol
pub alu_symbol_again : (o : AluOp) → alu_by_symbol (alu_symbol o) ≡ Some o
alu_symbol_again op.Add = refl
alu_symbol_again _ = refl

-- the operator that is found by a code has this code
pub alu_number_is : (n : ℕ) (o : AluOp) → alu_by_number n ≡ Some o → alu_number o ≡ n
alu_number_is n o e = number_of alu_number alu_rows n o refl e

-- the operator that is found by a symbol has this symbol
pub alu_symbol_is : (s : List ℕ) (o : AluOp) → alu_by_symbol s ≡ Some o → alu_symbol o ≡ s
alu_symbol_is s o e = symbol_of alu_symbol alu_rows s o refl e

-- ---- loads: a double word has no sign extension

-- a load is found by its opcode; no load is a double word with sign extension
pub load_opcode_again : (signed : Bool) (s : AccessSize)
    → IsTrue (not (signed && is_double s))
    → load_by_opcode (load_opcode signed s) ≡ Some (signed, s)
load_opcode_again true Double h = absurd (false≢true h)
load_opcode_again false Byte h = refl
load_opcode_again _ _ h = refl

-- the size of a load, and whether it extends the sign, are found by its name; no load is a double
-- word with sign extension
pub size_name_again : (signed : Bool) (s : AccessSize)
    → IsTrue (not (signed && is_double s))
    → load_by_name (size_name signed s) ≡ Some (signed, s)
size_name_again true Double h = absurd (false≢true h)
size_name_again false Byte h = refl
size_name_again _ _ h = refl

-- the load that is found by an opcode has this opcode
pub load_opcode_is : (n : ℕ) (l : Bool × AccessSize)
    → load_by_opcode n ≡ Some l
    → load_opcode l.0 l.1 ≡ n
load_opcode_is n l e = number_of (λ l. load_opcode l.0 l.1) load_rows n l refl e

-- a load that is found by an opcode is no double word with sign extension
pub load_listed : (n : ℕ) (l : Bool × AccessSize)
    → load_by_opcode n ≡ Some l
    → IsTrue (not (l.0 && is_double l.1))
load_listed n l e = found_number (λ l _. not (l.0 && is_double l.1)) load_rows n l refl e

-- a size that is found by a name is no double word with sign extension
pub size_listed : (s : List ℕ) (l : Bool × AccessSize)
    → load_by_name s ≡ Some l
    → IsTrue (not (l.0 && is_double l.1))
size_listed s l e = found_symbol (λ l _. not (l.0 && is_double l.1)) load_rows s l refl e

-- the size that is found by a name has this name
pub size_name_is : (s : List ℕ) (l : Bool × AccessSize)
    → load_by_name s ≡ Some l
    → size_name l.0 l.1 ≡ s
size_name_is s l e = symbol_of (λ l. size_name l.0 l.1) load_rows s l refl e

-- ---- byte-order conversions and sign extensions

-- a byte-order conversion is found by its name
pub order_name_again : (how : ByteOrder) (b : KeptBits)
    → order_by_name (order_name how b) ≡ Some (how, b)
order_name_again Little Bits16 = refl
order_name_again Big Bits16 = refl
order_name_again Swap Bits16 = refl
order_name_again _ _ = refl

-- the byte-order conversion that is found by a name has this name
pub order_name_is : (s : List ℕ) (o : ByteOrder × KeptBits)
    → order_by_name s ≡ Some o
    → order_name o.0 o.1 ≡ s
order_name_is s o e = name_of (λ o. order_name o.0 o.1) orders s o refl e

-- a sign extension is found by its name
pub extension_name_again : (b : ExtendedBits) → extension_by_name (extension_name b) ≡ Some b
extension_name_again narrow.Bits8 = refl
extension_name_again _ = refl

-- the sign extension that is found by a name has this name
pub extension_name_is : (s : List ℕ) (b : ExtendedBits)
    → extension_by_name s ≡ Some b → extension_name b ≡ s
extension_name_is s b e = name_of extension_name extensions s b refl e
