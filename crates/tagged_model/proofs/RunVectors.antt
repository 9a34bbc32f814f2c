-- Worked cases of runs: the results of small programs, and the instructions at which they fault (RFC 9669, sections 4 and
-- 5). The comments spell the programs; each ends with `exit`, unless it says otherwise.
use Rattle.std.proofs.Common.{◌≡◌, ℕ, ℤ, pos, neg_ℤ, true, false, List, [], ◌∷◌, ◌++◌, map, None, refl}
use Rattle.words.specs.declared.operator.AluOp.TheVariants.{Add, Sub, Div, SignedDiv, Mod, SignedMod, Mov, ShiftLeft, ShiftRight}
use Rattle.words.specs.declared.operator.ByteOrder.TheVariants.{Big}
use Rattle.words.specs.declared.operator.KeptBits.TheVariants.{Bits16}
use Rattle.words.specs.declared.operator.Condition.TheVariants.{Equal, NotEqual}
use Rattle.words.specs.declared.stack.AccessSize.{AccessSize}
use Rattle.words.specs.declared.stack.AccessSize.TheVariants.{Byte, Half, Word, Double}
use Rattle.insn_set.specs.declared.insn.Operand.TheVariants.{Imm, Reg}
use Rattle.insn_set.specs.declared.insn.Insn.{Insn}
use Rattle.insn_set.specs.declared.insn.Insn.TheVariants.{Alu, End, Ja, Jump, Exit, Load, Store, Const}
use Rattle.insn_set.specs.Program.{begins_at}
use Rattle.tagged_model.specs.declared.value.Outcome.{Outcome}
use Rattle.tagged_model.specs.declared.value.Outcome.TheVariants.{Value, Fault}
use Rattle.tagged_model.specs.Cells.{gathered}
use Rattle.tagged_model.specs.Step.{MapsByDescriptor, run, start_of_run, result_of}

-- -n
abbrev pub minus : ℕ → ℤ
minus n = neg_ℤ (pos n)

-- the context of a packet with this many bytes
abbrev pub context : ℕ → List ℕ
context len = len ∷ 0 ∷ 0 ∷ 0 ∷ 0 ∷ 0 ∷ 0 ∷ 0 ∷ 0 ∷ 0 ∷ 0 ∷ []

-- a run that is given no map
abbrev no_maps : MapsByDescriptor
no_maps m = None

-- the result of a program on an empty packet
abbrev answer : List Insn → Outcome
answer code = result_of code no_maps (context 0) []

-- programs without their `exit`, and their results on an empty packet
abbrev AreAnswers : List (List Insn × Outcome) → Type 0
AreAnswers rows =
    map (λ (row : List Insn × Outcome). answer (row.0 ++ (Exit ∷ []))) rows
    ≡ map (λ (row : List Insn × Outcome). row.1) rows

-- dst = n, and dst = src
abbrev pub set : ℕ → ℤ → Insn
set dst n = Alu true Mov dst (Imm n)

abbrev pub copy : ℕ → ℕ → Insn
copy dst src = Alu true Mov dst (Reg src)

-- dst = *(size *)(src + off)
abbrev pub get : AccessSize → ℕ → ℕ → ℤ → Insn
get size dst src off = Load (record { size = size; signed = false; dst = dst; src = src; off = off; listed = refl })

-- *(size *)(dst + off) = n, and *(size *)(dst + off) = src
abbrev pub put : AccessSize → ℕ → ℤ → ℤ → Insn
put size dst off n = Store size dst (Imm n) off

abbrev pub put_register : AccessSize → ℕ → ℤ → ℕ → Insn
put_register size dst off src = Store size dst (Reg src) off

-- ---- operators

operators : AreAnswers (
    -- quotient by zero: r0 = 7; r1 = 0; r0 /= r1
    (set 0 (pos 7) ∷ set 1 (pos 0) ∷ Alu true Div 0 (Reg 1) ∷ [], Value 0)
    -- least divided by minus one: r0 = 0x8000000000000000 ll; r1 = -1; r0 s/= r1; r0 >>= 32
    ∷ (
      Const 0 0x8000_0000_0000_0000
          ∷ set 1 (minus 1)
          ∷ Alu true SignedDiv 0 (Reg 1)
          ∷ Alu true ShiftRight 0 (Imm (pos 32))
          ∷ [],
      Value 2147483648,
    )
    -- least modulo minus one: r0 = 0x8000000000000000 ll; r1 = -1; r0 s%= r1
    ∷ (Const 0 0x8000_0000_0000_0000 ∷ set 1 (minus 1) ∷ Alu true SignedMod 0 (Reg 1) ∷ [], Value 0)
    -- upper half of low remainder: r0 = 0xffffffff00000007 ll; r1 = 0; w0 %= w1; r0 >>= 32
    ∷ (
      Const 0 0xffff_ffff_0000_0007
          ∷ set 1 (pos 0)
          ∷ Alu false Mod 0 (Reg 1)
          ∷ Alu true ShiftRight 0 (Imm (pos 32))
          ∷ [],
      Value 0,
    )
    -- low remainder by zero: r0 = 0xffffffff00000007 ll; r1 = 0; w0 %= w1
    ∷ (Const 0 0xffff_ffff_0000_0007 ∷ set 1 (pos 0) ∷ Alu false Mod 0 (Reg 1) ∷ [], Value 7)
    -- shift by the width: r0 = 5; r1 = 64; r0 <<= r1
    ∷ (set 0 (pos 5) ∷ set 1 (pos 64) ∷ Alu true ShiftLeft 0 (Reg 1) ∷ [], Value 5)
    -- division is unsigned: r0 = -1; r0 /= 2; r0 >>= 32
    ∷ (set 0 (minus 1) ∷ Alu true Div 0 (Imm (pos 2)) ∷ Alu true ShiftRight 0 (Imm (pos 32)) ∷ [], Value 2147483647)
    -- big endian: r0 = 287454020; r0 = be16 r0
    ∷ (set 0 (pos 287454020) ∷ End Big Bits16 0 ∷ [], Value 17459)
    ∷ [])
unfolding run begins_at gathered
operators = refl

-- ---- the stack

stack : AreAnswers (
    -- half stored and loaded: *(u16 *)(r10 - 8) = 7; r0 = *(u16 *)(r10 - 8)
    (put Half 10 (minus 8) (pos 7) ∷ get Half 0 10 (minus 8) ∷ [], Value 7)
    -- pointer spilled and filled: *(u64 *)(r10 - 8) = r10; r1 = *(u64 *)(r10 - 8); *(u64 *)(r1 - 16) = 9; r0 = *(u64 *)(r10 - 16)
    ∷ (
      put_register Double 10 (minus 8) 10
          ∷ get Double 1 10 (minus 8)
          ∷ put Double 1 (minus 16) (pos 9)
          ∷ get Double 0 10 (minus 16)
          ∷ [],
      Value 9,
    )
    -- half stored over pointer: *(u64 *)(r10 - 8) = r10; *(u16 *)(r10 - 8) = 7; r0 = *(u16 *)(r10 - 8)
    ∷ (put_register Double 10 (minus 8) 10 ∷ put Half 10 (minus 8) (pos 7) ∷ get Half 0 10 (minus 8) ∷ [], Value 7)
    -- pointer moved far: r2 = r10; r2 += 536870912; r0 = 0
    ∷ (copy 2 10 ∷ Alu true Add 2 (Imm (pos 536870912)) ∷ set 0 (pos 0) ∷ [], Value 0)
    -- store through moved pointer: r2 = r10; r2 -= 8; *(u64 *)(r2 + 0) = 1; r0 = 0
    ∷ (copy 2 10 ∷ Alu true Sub 2 (Imm (pos 8)) ∷ put Double 2 (pos 0) (pos 1) ∷ set 0 (pos 0) ∷ [], Value 0)
    ∷ [])
unfolding run begins_at gathered
stack = refl

-- ---- jumps, which count from the next slot

-- r1 = *(u32 *)(r1 + 0); if r1 == 0 goto +2; r0 = 1; exit; r0 = 0; exit
abbrev whether_empty : List Insn
whether_empty =
    get Word 1 1 (pos 0) ∷ Jump true Equal 1 (Imm (pos 0)) (pos 2) ∷ set 0 (pos 1) ∷ Exit ∷ set 0 (pos 0) ∷ Exit ∷ []

empty_or_not :
    (answer whether_empty ≡ Value 0) × (result_of whether_empty no_maps (context 3) (1 ∷ 2 ∷ 3 ∷ []) ≡ Value 1)
unfolding run begins_at gathered
empty_or_not = (refl, refl)

-- r0 = 2; r0 -= 1; if r0 != 0 goto -2; exit: six steps, of four slots
abbrev twice : List Insn
twice = set 0 (pos 2) ∷ Alu true Sub 0 (Imm (pos 1)) ∷ Jump true NotEqual 0 (Imm (pos 0)) (minus 2) ∷ Exit ∷ []

-- one step fewer is too few, and so are as many as slots
six_steps :
    ((run twice 6 (start_of_run no_maps (context 0) [])).outcome ≡ Value 0)
    × ((run twice 5 (start_of_run no_maps (context 0) [])).outcome ≡ Fault)
    × (answer twice ≡ Fault)
unfolding run begins_at gathered
six_steps = (refl, refl, refl)

-- ---- faults of registers

faults_of_registers : AreAnswers (
    -- pointer returned: r0 = r10
    (copy 0 10 ∷ [], Fault)
    -- pointer cut: w0 = w10
    ∷ (Alu false Mov 0 (Reg 10) ∷ [], Fault)
    -- low half of pointer: w2 = w10; r0 = 0
    ∷ (Alu false Mov 2 (Reg 10) ∷ set 0 (pos 0) ∷ [], Fault)
    -- absent register read: r0 = r3; r0 = 0
    ∷ (copy 0 3 ∷ set 0 (pos 0) ∷ [], Fault)
    -- pointer moved too far: r2 = r10; r2 += 536870913; r0 = 0
    ∷ (copy 2 10 ∷ Alu true Add 2 (Imm (pos 536870913)) ∷ set 0 (pos 0) ∷ [], Fault)
    -- pointers compared: if r10 == r1 goto +0; r0 = 0
    ∷ (Jump true Equal 10 (Reg 1) (pos 0) ∷ set 0 (pos 0) ∷ [], Fault)
    ∷ [])
unfolding run begins_at gathered
faults_of_registers = refl

-- goto -1, and no exit
endless_loop : answer (Ja (minus 1) ∷ []) ≡ Fault
unfolding run begins_at gathered
endless_loop = refl

-- ---- faults of memory

faults_of_memory : AreAnswers (
    -- absent bytes read: *(u16 *)(r10 - 8) = 7; r0 = *(u32 *)(r10 - 8)
    (put Half 10 (minus 8) (pos 7) ∷ get Word 0 10 (minus 8) ∷ [], Fault)
    -- overwritten pointer read: *(u64 *)(r10 - 8) = r10; *(u16 *)(r10 - 8) = 0; r0 = *(u16 *)(r10 - 6)
    ∷ (put_register Double 10 (minus 8) 10 ∷ put Half 10 (minus 8) (pos 0) ∷ get Half 0 10 (minus 6) ∷ [], Fault)
    -- overwritten pointer filled: *(u64 *)(r10 - 8) = r10; *(u16 *)(r10 - 8) = 0; r2 = *(u64 *)(r10 - 8); r0 = 0
    ∷ (
      put_register Double 10 (minus 8) 10
          ∷ put Half 10 (minus 8) (pos 0)
          ∷ get Double 2 10 (minus 8)
          ∷ set 0 (pos 0)
          ∷ [],
      Fault,
    )
    -- part of pointer stored: *(u32 *)(r10 - 8) = r10; r0 = 0
    ∷ (put_register Word 10 (minus 8) 10 ∷ set 0 (pos 0) ∷ [], Fault)
    -- part of pointer read: *(u64 *)(r10 - 8) = r10; r0 = *(u16 *)(r10 - 6)
    ∷ (put_register Double 10 (minus 8) 10 ∷ get Half 0 10 (minus 6) ∷ [], Fault)
    -- load through number: r3 = 0; r3 = *(u64 *)(r3 + 0); r0 = 0
    ∷ (set 3 (pos 0) ∷ get Double 3 3 (pos 0) ∷ set 0 (pos 0) ∷ [], Fault)
    -- store above the stack: *(u64 *)(r10 + 0) = 1; r0 = 0
    ∷ (put Double 10 (pos 0) (pos 1) ∷ set 0 (pos 0) ∷ [], Fault)
    -- store below the stack: *(u64 *)(r10 - 520) = 1; r0 = 0
    ∷ (put Double 10 (minus 520) (pos 1) ∷ set 0 (pos 0) ∷ [], Fault)
    -- store not aligned: *(u64 *)(r10 - 12) = 1; r0 = 0
    ∷ (put Double 10 (minus 12) (pos 1) ∷ set 0 (pos 0) ∷ [], Fault)
    -- load after the context: r3 = *(u32 *)(r1 + 44); r0 = 0
    ∷ (get Word 3 1 (pos 44) ∷ set 0 (pos 0) ∷ [], Fault)
    -- byte of the context: r3 = *(u8 *)(r1 + 0); r0 = 0
    ∷ (get Byte 3 1 (pos 0) ∷ set 0 (pos 0) ∷ [], Fault)
    -- store into the context: *(u32 *)(r1 + 8) = 1; r0 = 0
    ∷ (put Word 1 (pos 8) (pos 1) ∷ set 0 (pos 0) ∷ [], Fault)
    ∷ [])
unfolding run begins_at gathered
faults_of_memory = refl
