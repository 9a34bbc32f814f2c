-- The shape of a program: the edges of its instructions, which of them can be reached, and what is
-- wrong with one whatever the registers hold. The rules and their order are this project's own.
use Rattle.std.specs.Prelude.{ℕ, zero, suc, ◌==◌, Bool, true, false, not, ◌&&◌, ◌||◌, nat_lt, nat_le, List, [], ◌∷◌, Option, Some, None, is_some, if◌then◌else◌}
use Rattle.std.specs.Option.{option_map_or}
use Rattle.insn_set.specs.declared.insn.Insn.{Insn}
use Rattle.insn_set.specs.declared.profile.Reference.{Reference}
use Rattle.insn_set.specs.declared.profile.Reference.TheVariants as names
use Rattle.insn_set.specs.Profile.{profile}
use Rattle.insn_set.specs.Program.{begins_at, slot_count}
use Rattle.reg_kinds.specs.declared.reason.Reason.{Reason}
use Rattle.reg_kinds.specs.declared.reason.Reason.TheVariants.{JumpOutside, JumpBackward, FallsOff, Unreachable, UnknownHelper}
use Rattle.reg_kinds.specs.declared.reason.Reason.TheVariants.{FramePointerWritten, DescriptorNotOpen, DescriptorNotMap, NoDirectValue}
use Rattle.tagged_model.specs.declared.shape.Named.{Named}
use Rattle.tagged_model.specs.declared.shape.Target.{Target}
use Rattle.tagged_model.specs.declared.shape.Target.TheVariants as target
use Rattle.tagged_model.specs.Named.{target_of, shapes_named}
use Rattle.tagged_model.specs.Table.{has_direct_value}
use Rattle.tagged_model.specs.Helpers.{helper_of}
use Rattle.insn_set.specs.Flow.{is_number, falls_to, jumps_to, falls, jumps, written_register, descriptor}

-- ---- the edges of an instruction

-- an instruction begins at slot n
abbrev pub is_first_slot : List Insn → ℕ → Bool
is_first_slot code n = is_some (begins_at code n)

-- the falling edge of an instruction at slot n leads to slot i
abbrev pub falls_into : Insn → ℕ → ℕ → Bool
falls_into insn n i = falls insn && falls_to insn n == i

-- the jumping edge of an instruction at slot n leads to slot i; a jump to the same or an earlier
-- slot is no edge
abbrev pub jumps_into : Insn → ℕ → ℕ → Bool
jumps_into insn n i = jumps insn && is_number (jumps_to insn n) i && nat_lt n i

-- an edge of the instruction at slot n, falling or jumping, leads to slot i; false if no
-- instruction begins at slot n (None). A jump to slot n or an earlier one is a fault of the
-- program, and no edge, so all edges lead to later slots
abbrev pub leads_into : Option Insn → ℕ → ℕ → Bool
leads_into None n i = false
leads_into (Some insn) n i = falls_into insn n i || jumps_into insn n i

-- ---- reachable slots: slot 0, and those to which an edge leads from a reachable slot

-- i is slot 0, or an edge leads to it from a reachable slot below n
unfoldable pub reached_from : List Insn → ℕ → ℕ → Bool
reached_from code i zero = i == 0
reached_from code i (suc n) =
    reached_from code i n || (reached_from code n n && leads_into (begins_at code n) n i)

-- slot i can be reached; edges lead to later slots, so all that lead to it are from slots below i
abbrev pub is_reachable : List Insn → ℕ → Bool
is_reachable code i = reached_from code i i

-- ---- the faults of an instruction

-- whether what an instruction names is an unknown helper: a helper of which the number `id` is none
-- of 1, 2, 3 and 26, the numbers of `known_helpers`. A call of one is the fault `UnknownHelper`.
-- False for an instruction that names nothing, a map, or a byte of a map's value
abbrev pub names_unknown_helper : Reference → Bool
names_unknown_helper names.Nothing = false
names_unknown_helper (names.Helper id) = not (is_some (helper_of id))
names_unknown_helper (names.Map fd) = false
names_unknown_helper (names.Value fd off) = false

-- the instruction calls an unknown helper
abbrev pub calls_unknown : Insn → Bool
calls_unknown i = names_unknown_helper (profile i).reference

-- whether the object that an open descriptor names is a map, of any shape; false for a program,
-- which no instruction may name (`is_not_map`)
abbrev pub is_map : Target → Bool
is_map (target.Map shape) = true
is_map target.Program = false

-- an instruction names a descriptor, and it is not open
abbrev pub is_not_open : List Named → Option ℕ → Bool
is_not_open named None = false
is_not_open named (Some fd) = not (is_some (target_of named fd))

-- an instruction names a descriptor, and it is open, but its object is no map; one that is not open
-- is another fault
abbrev pub is_not_map : List Named → Option ℕ → Bool
is_not_map named None = false
is_not_map named (Some fd) = not (option_map_or is_map (target_of named fd) true)

-- an instruction loads a value of a map directly, without a call, and the map has none at this
-- offset; a descriptor that names no map is another fault
abbrev pub lacks_direct_value : List Named → Reference → Bool
lacks_direct_value named names.Nothing = false
lacks_direct_value named (names.Helper id) = false
lacks_direct_value named (names.Map fd) = false
lacks_direct_value named (names.Value fd off) =
    not (option_map_or (λ shape. has_direct_value shape off) (shapes_named named fd) true)

-- the instruction loads a value directly, without a call, that the map does not have
abbrev pub lacks_value : List Named → Insn → Bool
lacks_value named i = lacks_direct_value named (profile i).reference

-- no instruction begins at the target of a jump; a target below slot 0 is None
abbrev pub leads_outside : List Insn → Option ℕ → Bool
leads_outside code None = true
leads_outside code (Some n) = not (is_first_slot code n)

-- whether the target of a jump at slot `at` is `at` itself or an earlier slot: such a jump is
-- rejected (JumpBackward). None is a target below slot 0, which is earlier too, but `shape_reason`
-- has rejected it before, as JumpOutside
abbrev pub leads_backward : Option ℕ → ℕ → Bool
leads_backward None at = true
leads_backward (Some n) at = nat_le n at

-- the reason of the first true condition in a list of conditions with their reasons; None if none
-- is true. So an instruction that breaks several rules has one reason (`shape_reason`)
abbrev pub first_reason : List (Bool × Reason) → Option Reason
first_reason [] = None
first_reason (line ∷ lines) = if line.0 then Some line.1 else first_reason lines

-- the first fault of instruction i at slot `at`; None if it has none. Register 10 is the frame
-- pointer
abbrev pub shape_reason : List Insn → List Named → Insn → ℕ → Option Reason
shape_reason code named i at = first_reason (
    (jumps i && leads_outside code (jumps_to i at), JumpOutside)
    ∷ (jumps i && leads_backward (jumps_to i at) at, JumpBackward)
    ∷ (falls i && nat_le (slot_count code) (falls_to i at), FallsOff)
    ∷ (not (is_reachable code at), Unreachable)
    ∷ (calls_unknown i, UnknownHelper)
    ∷ (is_number (written_register i) 10, FramePointerWritten)
    ∷ (is_not_open named (descriptor i), DescriptorNotOpen)
    ∷ (is_not_map named (descriptor i), DescriptorNotMap)
    ∷ (lacks_value named i, NoDirectValue)
    ∷ [])

-- the first fault of the instruction at a slot; None if it has none, or no instruction begins there
abbrev pub shape_reason_at : List Insn → List Named → ℕ → Option Insn → Option Reason
shape_reason_at code named at None = None
shape_reason_at code named at (Some i) = shape_reason code named i at

-- the first fault of the shape at a slot of a program; None if there is none, or no instruction
-- begins there
unfoldable pub structure_fault : List Insn → List Named → ℕ → Option Reason
structure_fault code named at = shape_reason_at code named at (begins_at code at)
