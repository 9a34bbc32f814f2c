-- The numbers of RFC 9669, sections 3.3 (classes), 4 (arithmetic, byte order, jumps) and 5 (loads,
-- stores): an opcode is a sum of three of them.
use Rattle.std.specs.Prelude.{ℕ, ◌+◌, ◌*◌, Bool, true, false, ℤ}
use Rattle.std.specs.Int.{w16, w32, cast_unsigned}
use Rattle.words.specs.declared.operator.ByteOrder.{ByteOrder}
use Rattle.words.specs.declared.operator.ByteOrder.TheVariants.{Little, Big, Swap}
use Rattle.words.specs.declared.stack.AccessSize.{AccessSize}
use Rattle.words.specs.declared.stack.AccessSize.TheVariants as size

-- the opcode of an arithmetic instruction or a jump, section 4: four bits of code, one of source (1
-- if the second operand is a register), three of class. A byte-order conversion, whose source bit
-- has another meaning, has its opcode by `end_opcode`
abbrev pub opcode : ℕ → ℕ → ℕ → ℕ
opcode code source class = 16 * code + 8 * source + class

-- the class of an arithmetic instruction, section 3.3: ALU64 if it works on 64 bits (`true`), ALU
-- if on 32
abbrev pub alu_class : Bool → ℕ
alu_class true = 7
alu_class false = 4

-- the class of a conditional jump, section 3.3: JMP if it compares 64 bits (`true`), JMP32 if 32
abbrev pub jump_class : Bool → ℕ
jump_class true = 5
jump_class false = 6

-- section 5: the code of a size in an opcode, two bits
abbrev pub size_number : AccessSize → ℕ
size_number size.Word = 0
size_number size.Half = 1
size_number size.Byte = 2
size_number size.Double = 3

-- the opcode of a byte-order conversion, section 4.2, whose code is 13: to little-endian class ALU
-- and source bit 0, to big-endian class ALU and 1, for a swap class ALU64 and 0
abbrev pub end_opcode : ByteOrder → ℕ
end_opcode Little = opcode 13 0 4
end_opcode Big = opcode 13 1 4
end_opcode Swap = opcode 13 0 7

-- the mode of a load, section 5: MEM, or MEMSX if it extends the sign (`true`)
abbrev pub load_mode : Bool → ℕ
load_mode false = 3
load_mode true = 4

-- the opcode of a load, a store or an atomic operation, section 5: three bits of mode, two of size,
-- three of class
abbrev pub memory_opcode : ℕ → AccessSize → ℕ → ℕ
memory_opcode mode s class = 32 * mode + 8 * size_number s + class

-- the 16 bits of a signed offset, in two's complement (section 3.1)
abbrev pub offset_bits : ℤ → ℕ
offset_bits z = cast_unsigned w16 z

-- the 32 bits of a signed immediate, in two's complement (section 3.1)
abbrev pub imm_bits : ℤ → ℕ
imm_bits z = cast_unsigned w32 z
