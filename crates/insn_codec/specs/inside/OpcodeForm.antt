-- What an opcode determines of its instruction: RFC 9669, sections 4 and 5. That it is one list is
-- this project's own.
use Rattle.std.specs.Prelude.{Bool}
use Rattle.words.specs.declared.operator.AluOp.{AluOp}
use Rattle.words.specs.declared.operator.ByteOrder.{ByteOrder}
use Rattle.words.specs.declared.operator.Condition.{Condition}
use Rattle.words.specs.declared.stack.AccessSize.{AccessSize}
use Rattle.insn_set.specs.declared.atomic.AtomicSize.{AtomicSize}
use Rattle.insn_codec.specs.declared.opcode.SourceBit.{SourceBit}

-- Alu: an operation on two operands, with whether it is of 64 bits, its operator (of two with one
-- opcode, the unsigned one), and which field has the second operand. Neg: a negation, with whether
-- it is of 64 bits. End: a byte-order conversion. Ja, Jal: jumps of class JMP and JMP32 without a
-- condition. Jump: a conditional one, with whether it compares 64 bits, its condition, and which
-- field has the second operand. Load: with its size, and whether it extends the sign. Store: with
-- its size, and which field has the stored operand. Atomic: with its size. Wide: a wide load
pub data OpcodeForm : Type 0 where
  Alu : Bool → AluOp → SourceBit → OpcodeForm
  Neg : Bool → OpcodeForm
  End : ByteOrder → OpcodeForm
  Ja : OpcodeForm
  Jal : OpcodeForm
  Jump : Bool → Condition → SourceBit → OpcodeForm
  Call : OpcodeForm
  Exit : OpcodeForm
  Load : AccessSize → Bool → OpcodeForm
  Store : AccessSize → SourceBit → OpcodeForm
  Atomic : AtomicSize → OpcodeForm
  Wide : OpcodeForm
