-- The reasons for which the transfer function rejects an instruction. This project's own.
use Rattle.std.specs.Prelude.{◌≡◌, ℕ, false, None, Some, Err}
use Rattle.insn_set.specs.declared.insn.Insn.{Insn}
use Rattle.insn_set.specs.declared.profile.Reference.{Reference}
use Rattle.insn_set.specs.declared.profile.Reference.TheVariants as names
use Rattle.insn_set.specs.View.{View, view}
use Rattle.insn_set.specs.Profile.{profile_of}
use Rattle.reg_kinds.specs.declared.facts.Facts.{Facts}
use Rattle.reg_kinds.specs.declared.reason.Reason.{Reason}
use Rattle.reg_kinds.specs.declared.reason.Reason.TheVariants.{JumpOutside, JumpBackward, FallsOff, Unreachable, UnknownHelper}
use Rattle.reg_kinds.specs.declared.reason.Reason.TheVariants.{FramePointerWritten, DescriptorNotOpen, DescriptorNotMap, NoDirectValue, Memory}
use Rattle.tagged_model.specs.Helpers.{helper_of}
use Rattle.tagged_model.specs.declared.shape.MapShape.{MapShape}
use Rattle.tagged_model.specs.Named.{Shapes}
use Rattle.tagged_model.specs.Table.{has_direct_value}
use Rattle.transfer.specs.Effects.{effect}

-- a reason from the kinds of the operands: not from the shape of the program, and not from memory
abbrev pub IsSafetyReason : Reason → Type 0
IsSafetyReason JumpOutside = ⊥
IsSafetyReason JumpBackward = ⊥
IsSafetyReason FallsOff = ⊥
IsSafetyReason Unreachable = ⊥
IsSafetyReason UnknownHelper = ⊥
IsSafetyReason FramePointerWritten = ⊥
IsSafetyReason DescriptorNotOpen = ⊥
IsSafetyReason DescriptorNotMap = ⊥
IsSafetyReason NoDirectValue = ⊥
IsSafetyReason Memory = ⊥
IsSafetyReason reason = Unit {0}

-- an instruction calls a helper by a number `id` that no helper has; the argument is what the
-- instruction names. The helpers are those of `known_helpers`: map look-up, update and delete, and
-- the load of packet bytes. This is false if the instruction names nothing, a map, or a byte of a
-- map's first value, since it is no call then. An instruction is rejected for UnknownHelper only if
-- this is true (`IsReasonFor`)
abbrev pub IsUnknownHelper : Reference → Type 0
IsUnknownHelper names.Nothing = ⊥
IsUnknownHelper (names.Helper id) = helper_of id ≡ None
IsUnknownHelper (names.Map fd) = ⊥
IsUnknownHelper (names.Value fd off) = ⊥

-- the instruction names a map, or a value of one, by a descriptor that has no shape
abbrev pub IsUnshapedMap : Shapes → Reference → Type 0
IsUnshapedMap shapes names.Nothing = ⊥
IsUnshapedMap shapes (names.Helper id) = ⊥
IsUnshapedMap shapes (names.Map fd) = shapes fd ≡ None
IsUnshapedMap shapes (names.Value fd off) = shapes fd ≡ None

-- the instruction names a direct value that its map does not have
abbrev pub IsNoValue : Shapes → Reference → Type 0
IsNoValue shapes names.Nothing = ⊥
IsNoValue shapes (names.Helper id) = ⊥
IsNoValue shapes (names.Map fd) = ⊥
IsNoValue shapes (names.Value fd off) =
    (shape : MapShape) × (shapes fd ≡ Some shape) × (has_direct_value shape off ≡ false)

-- an instruction of this group (`View` of `insn_set`) may be rejected for this reason: it names an
-- unknown helper, a descriptor without a shape, or a direct value that its map does not have, as
-- the reason says; or the reason is one of safety (`IsSafetyReason`)
abbrev pub IsReasonFor : Shapes → View → Reason → Type 0
IsReasonFor shapes v UnknownHelper = IsUnknownHelper (profile_of v).reference
IsReasonFor shapes v DescriptorNotMap = IsUnshapedMap shapes (profile_of v).reference
IsReasonFor shapes v NoDirectValue = IsNoValue shapes (profile_of v).reference
IsReasonFor shapes v reason = IsSafetyReason reason

-- the instruction may be rejected for this reason: the reason is one of a program's shape, and
-- applies to the instruction, or it is from the kinds of the operands
abbrev pub IsReasonOf : Shapes → Insn → Reason → Type 0
IsReasonOf shapes i reason = IsReasonFor shapes (view i) reason

-- an instruction is rejected only for a reason that applies to it
abbrev pub TransferReasons : Type 0
TransferReasons =
    (shapes : Shapes) (at : ℕ) (i : Insn) (f : Facts) (reason : Reason)
    → effect shapes at i f ≡ Err reason
    → IsReasonOf shapes i reason
