-- The number, the symbol and the operator of an atomic operation, and the number of bytes that it
-- changes: RFC 9669, section 5.3. The symbols are this project's own.
use Rattle.std.specs.Prelude.{ℕ, Bool, List, codes}
use Rattle.words.specs.declared.operator.AluOp.TheVariants.{Add, Or, And, Xor}
use Rattle.words.specs.declared.operator.Operator.{Operator}
use Rattle.words.specs.declared.operator.Operator.TheVariants.{Binary}
use Rattle.words.specs.declared.stack.AccessSize.{AccessSize}
use Rattle.words.specs.declared.stack.AccessSize.TheVariants.{Word, Double}
use Rattle.words.specs.Stack.{is_double}
use Rattle.insn_set.specs.declared.atomic.AtomicSize.{AtomicSize}
use Rattle.insn_set.specs.declared.atomic.AtomicSize.TheVariants as size
use Rattle.insn_set.specs.declared.atomic.AtomicOp.{AtomicOp}
use Rattle.insn_set.specs.declared.atomic.AtomicOp.TheVariants as atomic

-- the immediate that names an atomic operation: its bits 4 to 7 are those of the opcode of the same
-- operator on registers, the others are 0
abbrev pub atomic_number : AtomicOp → ℕ
atomic_number atomic.Add = 0x00
atomic_number atomic.Or = 0x40
atomic_number atomic.And = 0x50
atomic_number atomic.Xor = 0xa0

-- the symbol of an atomic operation in a line of text, that of the operator on registers
abbrev pub atomic_symbol : AtomicOp → List ℕ
atomic_symbol atomic.Add = codes "+="
atomic_symbol atomic.Or = codes "|="
atomic_symbol atomic.And = codes "&="
atomic_symbol atomic.Xor = codes "^="

-- the operator that combines the bytes in memory with the register
abbrev pub atomic_operator : AtomicOp → Operator
atomic_operator atomic.Add = Binary Add
atomic_operator atomic.Or = Binary Or
atomic_operator atomic.And = Binary And
atomic_operator atomic.Xor = Binary Xor

-- the access size of the load and the store of an atomic operation
abbrev pub access_size : AtomicSize → AccessSize
access_size size.Word = Word
access_size size.Double = Double

-- whether an atomic operation of this size works on 64 bits
abbrev pub is_wide_atomic : AtomicSize → Bool
is_wide_atomic z = is_double (access_size z)
