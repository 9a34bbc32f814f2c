-- The successors of an instruction: the next one, or a jump's target (RFC 9669, section 4.3); the
-- register that the instruction writes; and the map that it names. All are read from its row of the
-- table.
use Rattle.std.specs.Prelude.{ℕ, ℤ, pos, negsuc, Option, Some, None, ◌+◌, ◌+ℤ◌, ◌==◌, length, Bool, true, false, if◌then◌else◌}
use Rattle.insn_set.specs.declared.insn.Insn.{Insn}
use Rattle.insn_set.specs.declared.profile.Successors.{Successors}
use Rattle.insn_set.specs.declared.profile.Successors.TheVariants.{Next, Jump, NextOrJump, Nothing}
use Rattle.insn_set.specs.declared.profile.Reference.{Reference}
use Rattle.insn_set.specs.declared.profile.Reference.TheVariants as names
use Rattle.insn_set.specs.Profile.{profile}
use Rattle.insn_set.specs.Spelling.{slots}

-- the slot that an integer names: for a jump, the sum of the jump's slot, 1, and the jump's
-- distance. `pos n` is n, so it names slot n. Whether the program has this slot is not tested here.
-- The integer `negsuc n` is -(n + 1), which is below slot 0 and names no slot: None
abbrev pub slot_of_integer : ℤ → Option ℕ
slot_of_integer (pos n) = Some n
slot_of_integer (negsuc n) = None

-- ---- the targets of the edges

-- the slot of the next instruction, for an instruction at this slot
abbrev pub falls_to : Insn → ℕ → ℕ
falls_to i at = at + length (slots i)

-- the distance of an instruction's jump, in slots from the next instruction to the target, by the
-- instruction's successors: `off` for a jump without a condition (`Jump`) and for one with a
-- condition (`NextOrJump`). For an instruction that does not jump it is 0, which means nothing: one
-- that only the next instruction follows (`Next`), and the exit (`Nothing`)
abbrev pub offset_by : Successors → ℤ
offset_by Next = pos 0
offset_by (Jump off) = off
offset_by (NextOrJump off) = off
offset_by Nothing = pos 0

-- the distance of an instruction's jump, in slots from the next one; 0 if it has none
abbrev pub jump_offset : Insn → ℤ
jump_offset i = offset_by (profile i).successors

-- the slot to which an instruction at this slot jumps: at its distance from the slot after this
-- one; None below slot 0. It is meant for jumps: of any other instruction the distance is 0
abbrev pub jumps_to : Insn → ℕ → Option ℕ
jumps_to i at = slot_of_integer (pos (at + 1) +ℤ jump_offset i)

-- whether control may pass from an instruction to the next one, by the successors of the
-- instruction: true if the next one is the only successor (`Next`), and for a conditional jump
-- (`NextOrJump`); false for a jump without a condition (`Jump`) and for an exit (`Nothing`). The
-- distance `off` of a jump makes no difference
abbrev pub falls_by : Successors → Bool
falls_by Next = true
falls_by (Jump off) = false
falls_by (NextOrJump off) = true
falls_by Nothing = false

-- whether control may pass from this instruction to the next one
abbrev pub falls : Insn → Bool
falls i = falls_by (profile i).successors

-- whether control may pass from an instruction with these successors to the target of a jump: true
-- for a jump without a condition (`Jump`) or with one (`NextOrJump`), at any distance `off`; false
-- for an instruction after which control passes only to the next one (`Next`), and for the exit
-- (`Nothing`). For an instruction: `jumps`
abbrev pub jumps_by : Successors → Bool
jumps_by Next = false
jumps_by (Jump off) = true
jumps_by (NextOrJump off) = true
jumps_by Nothing = false

-- whether control may pass from this instruction to a jump's target
abbrev pub jumps : Insn → Bool
jumps i = jumps_by (profile i).successors

-- the slot to which an instruction at this slot jumps; None if there is no jump, or the target is
-- below slot 0
abbrev pub target_by : Successors → ℕ → Option ℕ
target_by next at = if jumps_by next then slot_of_integer (pos (at + 1) +ℤ offset_by next) else None

-- the slot to which this instruction jumps from this slot; None if it has no jump, or the target is
-- below slot 0
abbrev pub jump_target : Insn → ℕ → Option ℕ
jump_target i at = target_by (profile i).successors at

-- ---- what it writes and names

-- the register that an instruction writes; None if it writes none, as an atomic operation does (one
-- that fetches is no instruction here). A call has None too: its profile does not have the
-- registers that it changes, 0 to 5
abbrev pub written_register : Insn → Option ℕ
written_register i = (profile i).written

-- the option has a number, and it is i: the slot to which a jump leads, or the register that an
-- instruction writes. False for None: the slot would be below 0, or no register is written
abbrev pub is_number : Option ℕ → ℕ → Bool
is_number None i = false
is_number (Some n) i = n == i

-- the descriptor in a reference, that is, in what an instruction names outside its registers.
-- `Nothing` and a helper (`Helper`, with its number id) have none: the result is None. A map
-- (`Map`) has its own, and a byte of a map's first value (`Value`) has that of the map, next to the
-- byte's offset
abbrev pub descriptor_by : Reference → Option ℕ
descriptor_by names.Nothing = None
descriptor_by (names.Helper id) = None
descriptor_by (names.Map fd) = Some fd
descriptor_by (names.Value fd off) = Some fd

-- the descriptor of the map that an instruction names, or in whose first value it names a byte;
-- None if it names neither
abbrev pub descriptor : Insn → Option ℕ
descriptor i = descriptor_by (profile i).reference
