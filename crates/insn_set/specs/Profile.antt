-- The properties of an instruction that no register value affects: a table with a row for each. RFC
-- 9669, section 4 (arithmetic and jumps) and section 5 (loads, stores, atomic operations); that it
-- is one table is this project's own.
use Rattle.std.specs.Prelude.{ℕ, Option, Some, None}
use Rattle.insn_set.specs.declared.insn.Operand.{Operand}
use Rattle.insn_set.specs.declared.insn.Operand.TheVariants.{Imm, Reg}
use Rattle.words.specs.declared.operator.AluOp.{AluOp}
use Rattle.words.specs.declared.operator.AluOp.TheVariants.{Mov}
use Rattle.insn_set.specs.declared.insn.Insn.{Insn}
use Rattle.insn_set.specs.View.{View, Access, WideValue, binary, unary, jump, branch, access, wide_load}
use Rattle.insn_set.specs.View.{call, exit, loads, stores, changes, immediate, map_ref, value_ref, view}
use Rattle.insn_set.specs.declared.profile.Successors.{Successors}
use Rattle.insn_set.specs.declared.profile.Successors.TheVariants as to
use Rattle.insn_set.specs.declared.profile.Reference.{Reference}
use Rattle.insn_set.specs.declared.profile.Reference.TheVariants as names
use Rattle.insn_set.specs.declared.profile.Profile.{Profile}

-- the row of an instruction with these fields: the registers of its first and its second operand,
-- if it reads them; the register that it writes; its successors; what it names; the number of its
-- slots
abbrev pub row : Option ℕ → Option ℕ → Option ℕ → Successors → Reference → ℕ → Profile
row first second written successors reference slots =
    record {
      first_read = first;
      second_read = second;
      written = written;
      successors = successors;
      reference = reference;
      slots = slots;
    }

-- the register r of an operand; None if the operand is a constant (`Imm`). For the second operand
-- of an operation or a comparison, and for the value that a store writes
abbrev pub register_of : Operand → Option ℕ
register_of (Imm n) = None
register_of (Reg r) = Some r

-- the register of an operation's first operand, its destination; None for a move, which does not
-- read it (section 4.1)
abbrev pub first_operand : AluOp → ℕ → Option ℕ
first_operand Mov dst = None
first_operand op dst = Some dst

-- what a wide load names, by what it loads into its register. A number n names nothing. A map is
-- named by its descriptor `fd`. The address of a byte in the first value of a map names this map,
-- by its descriptor `fd`, and the byte, by its offset `off` in the value
abbrev pub reference_of : WideValue → Reference
reference_of (immediate n) = names.Nothing
reference_of (map_ref fd) = names.Map fd
reference_of (value_ref fd off) = names.Value fd off

-- the source register of an access, whose value a store (`stores`) writes to memory, and an atomic
-- operation (`changes`) combines with the bytes in memory. None for a load (`loads`), and for a
-- store of a constant: `register_of` is None if the operand src is one. `profile_of` has it in the
-- profile of the access, as the register of the second operand (`second_read`)
abbrev pub stored_register : Access → Option ℕ
stored_register (loads size signed dst) = None
stored_register (stores size src) = register_of src
stored_register (changes size op src) = Some src

-- the register that an access writes: for a load (`loads`) its destination dst; None for a store
-- (`stores`) and for an atomic operation (`changes`), which write only to memory. Atomic operations
-- that fetch the old value, and so would write a register, are no instructions here
abbrev pub loaded_register : Access → Option ℕ
loaded_register (loads size signed dst) = Some dst
loaded_register (stores size src) = None
loaded_register (changes size op src) = None

-- the row of an instruction, by its group (`View`). The arguments of `row` are in this order: the
-- register that the instruction reads as its first operand, that of the second, the register that
-- it writes, its successors, what it names, and the number of its slots. None is no register. An
-- operator of two operands (`binary`) reads its destination dst as the first, but a move does not
-- read it (`first_operand`). A conditional jump (`branch`) also reads dst as the first. Each of the
-- two reads src as the second, unless it is a constant (`register_of`). The distance `off` of a
-- jump is in slots from the next instruction. An operator of one operand (`unary`) reads its source
-- as the first. An access reads its base register as the first, and as the second the register that
-- is the source of a store or an atomic operation (`stored_register`). Of accesses only a load
-- writes a register (`loaded_register`): an `Insn` has no atomic operation that fetches the old
-- value. A wide load (`wide_load`) reads no register and has two slots. It names the map that it
-- loads, or the map and the byte whose address it loads, and with a number nothing
-- (`reference_of`). A call reads its helper's arguments and changes registers 0 to 5. A row has too
-- few fields for these registers, so the row of a call has only the helper's number. An exit reads
-- register 0, the result
abbrev pub profile_of : View → Profile
profile_of (binary wide op dst src) =
    row (first_operand op dst) (register_of src) (Some dst) to.Next names.Nothing 1
profile_of (unary wide op dst src) = row (Some src) None (Some dst) to.Next names.Nothing 1
profile_of (jump off) = row None None None (to.Jump off) names.Nothing 1
profile_of (branch wide cond dst src off) =
    row (Some dst) (register_of src) None (to.NextOrJump off) names.Nothing 1
profile_of (access what base off) =
    row (Some base) (stored_register what) (loaded_register what) to.Next names.Nothing 1
profile_of (wide_load dst value) = row None None (Some dst) to.Next (reference_of value) 2
profile_of (call id) = row None None None to.Next (names.Helper id) 1
profile_of exit = row (Some 0) None None to.Nothing names.Nothing 1

-- the row of an instruction: what it reads, writes and names, its successors, and the number of its
-- slots
abbrev pub profile : Insn → Profile
profile i = profile_of (view i)
