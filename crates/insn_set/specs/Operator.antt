-- The code, the offset and the symbol of an operator with two operands: RFC 9669, section 4.1, the
-- table of codes. The symbols are this project's own.
use Rattle.std.specs.Prelude.{ℕ, List, codes}
use Rattle.words.specs.declared.operator.AluOp.{AluOp}
use Rattle.words.specs.declared.operator.AluOp.TheVariants.{Add, Sub, Mul, Div, SignedDiv, Or, And, ShiftLeft}
use Rattle.words.specs.declared.operator.AluOp.TheVariants.{ShiftRight, Mod, SignedMod, Xor, Mov, SignedShiftRight}

-- the code of an operator, the upper four bits of its opcode; signed division and remainder have
-- that of the unsigned ones
abbrev pub alu_number : AluOp → ℕ
alu_number Add = 0
alu_number Sub = 1
alu_number Mul = 2
alu_number Div = 3
alu_number SignedDiv = 3
alu_number Or = 4
alu_number And = 5
alu_number ShiftLeft = 6
alu_number ShiftRight = 7
alu_number Mod = 9
alu_number SignedMod = 9
alu_number Xor = 10
alu_number Mov = 11
alu_number SignedShiftRight = 12

-- the offset field that selects an operator among those of its code: 1 for signed division and
-- remainder, else 0
abbrev pub alu_offset : AluOp → ℕ
alu_offset SignedDiv = 1
alu_offset SignedMod = 1
alu_offset _ = 0

-- the symbol of an operator in a line of text
abbrev pub alu_symbol : AluOp → List ℕ
alu_symbol Add = codes "+="
alu_symbol Sub = codes "-="
alu_symbol Mul = codes "*="
alu_symbol Div = codes "/="
alu_symbol SignedDiv = codes "s/="
alu_symbol Or = codes "|="
alu_symbol And = codes "&="
alu_symbol ShiftLeft = codes "<<="
alu_symbol ShiftRight = codes ">>="
alu_symbol Mod = codes "%="
alu_symbol SignedMod = codes "s%="
alu_symbol Xor = codes "^="
alu_symbol Mov = codes "="
alu_symbol SignedShiftRight = codes "s>>="
