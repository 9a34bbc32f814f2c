-- The slots of a program are bytes, eight for each slot.
use Rattle.std.proofs.Common.{ℕ, zero, suc, ◌+◌, ◌*◌, ◌/◌, ◌%◌, ◌^◌, ◌<◌, ◌≤◌, Bool, true, false, List, [], ◌∷◌, ◌++◌, arith, lit≤, lit<}
use Rattle.std.specs.Int.{byte_at}
use Rattle.std.specs.List.{AllByRecursion}
use Rattle.hex.specs.Hex.{IsBytes}
use Rattle.words.specs.declared.operator.AluOp.{AluOp}
use Rattle.words.specs.declared.operator.AluOp.TheVariants.{Add}
use Rattle.words.specs.declared.operator.ByteOrder.{ByteOrder}
use Rattle.words.specs.declared.operator.ByteOrder.TheVariants.{Little}
use Rattle.words.specs.declared.stack.AccessSize.{AccessSize}
use Rattle.words.specs.declared.stack.AccessSize.TheVariants as size
use Rattle.insn_set.specs.declared.insn.Operand.{Operand}
use Rattle.insn_set.specs.declared.insn.Operand.TheVariants.{Imm, Reg}
use Rattle.insn_set.specs.declared.insn.Insn.{Insn}
use Rattle.insn_set.specs.declared.insn.Insn.TheVariants.{Alu, Movsx, Neg, End, Jump, Load, Store, Atomic, Const, MapFd, MapValue}
use Rattle.insn_set.specs.declared.slot.SlotFields.{SlotFields}
use Rattle.insn_set.specs.Slot.{slot, slot_bytes}
use Rattle.insn_set.specs.Atomic.{access_size}
use Rattle.insn_set.specs.Numbers.{opcode, alu_class, end_opcode, size_number, load_mode, memory_opcode}
use Rattle.insn_set.specs.Operator.{alu_number}
use Rattle.insn_set.specs.Spelling.{source_bit, src_field, first, spelling, IsInsn, IsOperand}
use Rattle.insn_set.specs.Program.{program_bytes, slot_count, IsProgram}
use Rattle.insn_set.specs.SpellingLaws.{condition_number_le, alu_class_le, jump_class_le, length-program_bytes}
use Rattle.bpf_text.specs.HexText.{hex_text, IsHexText}
use Rattle.bpf_text.proofs.HexLaw.{hex_text_is_read}

abbrev AreBytes : List ℕ → Type 0
AreBytes bytes = AllByRecursion (λ b. b < 256) bytes

are_bytes-append : (xs ys : List ℕ) → AreBytes xs → AreBytes ys → AreBytes (xs ++ ys)
are_bytes-append [] ys h k = k
are_bytes-append (x ∷ xs) ys h k = (h.0, are_bytes-append xs ys h.1 k)

is_bytes : (bytes : List ℕ) → AreBytes bytes → IsBytes bytes
is_bytes [] h i = lit< tt
is_bytes (b ∷ bytes) h zero = h.0
is_bytes (b ∷ bytes) h (suc i) = is_bytes bytes h.1 i

rest_small : (n : ℕ) → n % 256 < 256
rest_small n = omega arith

byte_small : (i n : ℕ) → byte_at i n < 256
byte_small zero n = rest_small n
byte_small (suc i) n = rest_small (n / 256 ^ suc i)

-- an opcode and two registers
record IsSmall (s : SlotFields) : Type 0 where
  opcode : s.opcode < 256
  dst : s.dst ≤ 10
  src : s.src ≤ 10

slot_are_bytes : (s : SlotFields) → IsSmall s → AreBytes (slot_bytes s)
slot_are_bytes s small =
    let registers : 16 * s.src + s.dst < 256 = omega (arith, small.dst, small.src) in (
      small.opcode,
      (
        registers,
        (
          byte_small 0 s.offset,
          (
            byte_small 1 s.offset,
            (byte_small 0 s.imm, (byte_small 1 s.imm, (byte_small 2 s.imm, (byte_small 3 s.imm, tt)))),
          ),
        ),
      ),
    )

opcode_small : (code source class : ℕ) → code ≤ 13 → source ≤ 1 → class ≤ 7 → opcode code source class < 256
opcode_small code source class a b c = omega arith

alu_code : (op : AluOp) → alu_number op ≤ 13
alu_code Add = lit≤ tt
alu_code _ = lit≤ tt

source_small : (src : Operand) → source_bit src ≤ 1
source_small (Imm n) = lit≤ tt
source_small (Reg r) = lit≤ tt

src_small : (src : Operand) → IsOperand src → src_field src ≤ 10
src_small (Imm n) h = lit≤ tt
src_small (Reg r) h = h

end_small : (how : ByteOrder) → end_opcode how < 256
end_small Little = lit< tt
end_small _ = lit< tt

size_small : (s : AccessSize) → size_number s ≤ 3
size_small size.Byte = lit≤ tt
size_small _ = lit≤ tt

mode_small : (signed : Bool) → load_mode signed ≤ 6
mode_small true = lit≤ tt
mode_small false = lit≤ tt

memory_small : (mode class : ℕ) (s : AccessSize) → mode ≤ 6 → class ≤ 3 → memory_opcode mode s class < 256
memory_small mode class s a b = omega (arith, size_small s)

first_small : (i : Insn) → IsInsn i → IsSmall (first i)
first_small (Alu wide op dst src) h = record {
  opcode = opcode_small _ _ _ (alu_code op) (source_small src) (alu_class_le wide);
  dst = h.0;
  src = src_small src h.1;
}
first_small (Movsx m) h = record {
  opcode = opcode_small 11 1 (alu_class m.wide) (lit≤ tt) (lit≤ tt) (alu_class_le m.wide);
  dst = h.0;
  src = h.1;
}
first_small (Neg wide dst) h = record {
  opcode = opcode_small 8 0 (alu_class wide) (lit≤ tt) (lit≤ tt) (alu_class_le wide);
  dst = h;
  src = lit≤ tt;
}
first_small (End how width dst) h = record { opcode = end_small how; dst = h; src = lit≤ tt }
first_small (Jump wide cond dst src off) h = record {
  opcode = opcode_small _ _ _ (condition_number_le cond) (source_small src) (jump_class_le wide);
  dst = h.0;
  src = src_small src h.1;
}
first_small (Load l) h = record {
  opcode = memory_small (load_mode l.signed) 1 l.size (mode_small l.signed) (lit≤ tt);
  dst = h.0;
  src = h.1;
}
first_small (Store s dst src off) h = record {
  opcode = memory_small 3 (2 + source_bit src) s (lit≤ tt) (omega (arith, source_small src));
  dst = h.0;
  src = src_small src h.1;
}
first_small (Atomic size op dst src off) h = record {
  opcode = memory_small 6 3 (access_size size) (lit≤ tt) (lit≤ tt);
  dst = h.0;
  src = h.1;
}
first_small (Const dst value) h = record { opcode = lit< tt; dst = h.0; src = lit≤ tt }
first_small (MapFd dst fd) h = record { opcode = lit< tt; dst = h.0; src = lit≤ tt }
first_small (MapValue dst fd off) h = record { opcode = lit< tt; dst = h.0; src = lit≤ tt }
first_small _ h = record { opcode = lit< tt; dst = lit≤ tt; src = lit≤ tt }

none_small : (imm : ℕ) → IsSmall (slot 0 0 0 0 imm)
none_small imm = record { opcode = lit< tt; dst = lit≤ tt; src = lit≤ tt }

spelling_are_bytes : (i : Insn) → IsInsn i → AreBytes (spelling i)
unfolding spelling
spelling_are_bytes (Const dst value) h =
    are_bytes-append (slot_bytes (first (Const dst value)))
    (slot_bytes (slot 0 0 0 0 (value / 2 ^ 32)))
    (slot_are_bytes (first (Const dst value)) (first_small (Const dst value) h))
    (slot_are_bytes (slot 0 0 0 0 (value / 2 ^ 32)) (none_small (value / 2 ^ 32)))
spelling_are_bytes (MapFd dst fd) h =
    are_bytes-append (slot_bytes (first (MapFd dst fd))) (slot_bytes (slot 0 0 0 0 0))
    (slot_are_bytes (first (MapFd dst fd)) (first_small (MapFd dst fd) h))
    (slot_are_bytes (slot 0 0 0 0 0) (none_small 0))
spelling_are_bytes (MapValue dst fd off) h =
    are_bytes-append (slot_bytes (first (MapValue dst fd off))) (slot_bytes (slot 0 0 0 0 off))
    (slot_are_bytes (first (MapValue dst fd off)) (first_small (MapValue dst fd off) h))
    (slot_are_bytes (slot 0 0 0 0 off) (none_small off))
spelling_are_bytes i h = slot_are_bytes (first i) (first_small i h)

program_are_bytes : (insns : List Insn) → AllByRecursion IsInsn insns → IsBytes (program_bytes insns)
program_are_bytes insns each = is_bytes (program_bytes insns) (bytes_of insns each)
  where
    bytes_of : (insns : List Insn) → AllByRecursion IsInsn insns → AreBytes (program_bytes insns)
    bytes_of [] each = tt
    bytes_of (i ∷ insns) each =
        are_bytes-append (spelling i) (program_bytes insns) (spelling_are_bytes i each.0) (bytes_of insns each.1)

-- the slots of the hex lines of a program are its slots
pub hex_lines_is : (insns : List Insn)
    → IsProgram insns → IsHexText (hex_text (program_bytes insns)) (program_bytes insns)
hex_lines_is insns program =
    hex_text_is_read (slot_count insns) (program_bytes insns) (program_are_bytes insns program.each)
    (length-program_bytes insns) program.some program.room
