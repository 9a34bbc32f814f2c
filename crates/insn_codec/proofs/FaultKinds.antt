-- The bytes have at most one fault at their front, and none if an instruction begins there.
use Rattle.std.proofs.Common.{◌≡◌, ℕ, ◌≤◌, List, ◌++◌, length, take, drop, Some, refl, sym, ap, ◌∙◌, arith, subst, inl, inr}
use Rattle.std.specs.Prelude.{slice_index}
use Rattle.std.specs.List.{flat_map}
use Rattle.std.proofs.lemmas.Bool.Decides.{nat_tests}
use Rattle.std.proofs.lemmas.List.{take-append-drop, length-take}
use Rattle.std.proofs.Math.Seq.{take-append_seam}
use Rattle.insn_set.specs.declared.insn.Operand.{Operand}
use Rattle.insn_set.specs.declared.insn.Operand.TheVariants.{Imm, Reg}
use Rattle.insn_set.specs.declared.insn.Insn.{Insn}
use Rattle.insn_set.specs.declared.insn.Insn.TheVariants.{Alu, Jump, Store}
use Rattle.insn_codec.specs.declared.fault.CodecFault.{CodecFault}
use Rattle.insn_codec.specs.declared.fault.FaultKind.{FaultKind}
use Rattle.insn_codec.specs.declared.fault.FaultKind.TheVariants.{Opcode, Reserved, Register, SecondSlot, Ragged, Empty, TooLong, Memory}
use Rattle.insn_set.specs.Slot.{slot_bytes}
use Rattle.insn_set.specs.Spelling.{first, second, spelling, IsOperandUpTo, IsInsnUpTo, Begins}
use Rattle.insn_codec.specs.Fault.{HasFirstSlot, HasInsn, HasOpcode, HasFault}
use Rattle.insn_codec.specs.ProgramFault.{length_fault, IsProgramFault}
use Rattle.insn_codec.proofs.Slots.{whole_of_begins}
use Rattle.insn_codec.proofs.KnownOpcodes.{known_first}

-- ---- implications between the premises

first_slot_long : (top : ℕ) (bytes : List ℕ) → HasFirstSlot top bytes → 8 ≤ length bytes
first_slot_long top bytes h = omega (arith, ap length h.2, length-take 8 bytes)

first_slot_opcode : (top : ℕ) (bytes : List ℕ) → HasFirstSlot top bytes → HasOpcode bytes
first_slot_opcode top bytes h =
    let whole : bytes ≡ slot_bytes (first h.0) ++ drop 8 bytes = sym (take-append-drop 8 bytes) ∙ ap (λ (x : List ℕ). x ++ drop 8 bytes) h.2 in
    known_first h.0 bytes (ap (λ (x : List ℕ). slice_index x 0) whole)

more_operands : (o : Operand) → IsOperandUpTo 10 o → IsOperandUpTo 15 o
more_operands (Imm n) h = h
more_operands (Reg r) h = omega arith

more_insns : (i : Insn) → IsInsnUpTo 10 i → IsInsnUpTo 15 i
more_insns (Alu wide op dst src) h = (omega (arith, h.0), more_operands src h.1)
more_insns (Jump wide cond dst src off) h = (omega (arith, h.0), more_operands src h.1, h.2)
more_insns (Store s dst src off) h = (omega (arith, h.0), more_operands src h.1, h.2)
more_insns _ h = grind arith

more_first_slots : (bytes : List ℕ) → HasFirstSlot 10 bytes → HasFirstSlot 15 bytes
more_first_slots bytes h = (h.0, more_insns h.0 h.1, h.2)

begins_first : (i : Insn) (bytes : List ℕ) → Begins i bytes → take 8 bytes ≡ slot_bytes (first i)
begins_first i bytes h =
    ap (take 8) (whole_of_begins i (first i) (second i) bytes refl h)
    ∙ take-append_seam (slot_bytes (first i)) (flat_map slot_bytes (second i) ++ drop (length (spelling i)) bytes)

insn_first_slot : (bytes : List ℕ) → HasInsn bytes → HasFirstSlot 10 bytes
insn_first_slot bytes h = (h.0, h.1, begins_first h.0 bytes h.2)

-- ---- one fault at most

pub insn_has_no_fault : (bytes : List ℕ) (kind : FaultKind) → HasInsn bytes → HasFault bytes kind → ⊥
insn_has_no_fault bytes Ragged has fault = omega (arith, first_slot_long 10 bytes (insn_first_slot bytes has))
insn_has_no_fault bytes Opcode has fault = fault.1 (first_slot_opcode 10 bytes (insn_first_slot bytes has))
insn_has_no_fault bytes Reserved has fault = fault.2 (more_first_slots bytes (insn_first_slot bytes has))
insn_has_no_fault bytes Register has fault = fault.1 (insn_first_slot bytes has)
insn_has_no_fault bytes SecondSlot has fault = fault.1 has
insn_has_no_fault bytes _ has fault = fault

not_ragged : (top : ℕ) (bytes : List ℕ) → HasFault bytes Ragged → HasFirstSlot top bytes → ⊥
not_ragged top bytes short has = omega (arith, first_slot_long top bytes has)

-- bytes have at most one fault at their front
pub one_kind : (bytes : List ℕ) (a b : FaultKind) → HasFault bytes a → HasFault bytes b → a ≡ b
one_kind bytes Ragged Ragged x y = refl
one_kind bytes Ragged Opcode x y = absurd (omega (arith, x, y.0))
one_kind bytes Ragged Reserved x y = absurd (omega (arith, x, y.0))
one_kind bytes Ragged Register x y = absurd (not_ragged 15 bytes x y.0)
one_kind bytes Ragged SecondSlot x y = absurd (not_ragged 10 bytes x y.0)
one_kind bytes Opcode Ragged x y = absurd (omega (arith, x.0, y))
one_kind bytes Opcode Opcode x y = refl
one_kind bytes Opcode Reserved x y = absurd (x.1 y.1)
one_kind bytes Opcode Register x y = absurd (x.1 (first_slot_opcode 15 bytes y.0))
one_kind bytes Opcode SecondSlot x y = absurd (x.1 (first_slot_opcode 10 bytes y.0))
one_kind bytes Reserved Ragged x y = absurd (omega (arith, x.0, y))
one_kind bytes Reserved Opcode x y = absurd (y.1 x.1)
one_kind bytes Reserved Reserved x y = refl
one_kind bytes Reserved Register x y = absurd (x.2 y.0)
one_kind bytes Reserved SecondSlot x y = absurd (x.2 (more_first_slots bytes y.0))
one_kind bytes Register Ragged x y = absurd (not_ragged 15 bytes y x.0)
one_kind bytes Register Opcode x y = absurd (y.1 (first_slot_opcode 15 bytes x.0))
one_kind bytes Register Reserved x y = absurd (y.2 x.0)
one_kind bytes Register Register x y = refl
one_kind bytes Register SecondSlot x y = absurd (x.1 y.0)
one_kind bytes SecondSlot Ragged x y = absurd (not_ragged 10 bytes y x.0)
one_kind bytes SecondSlot Opcode x y = absurd (y.1 (first_slot_opcode 10 bytes x.0))
one_kind bytes SecondSlot Reserved x y = absurd (y.2 (more_first_slots bytes x.0))
one_kind bytes SecondSlot Register x y = absurd (y.1 x.0)
one_kind bytes SecondSlot SecondSlot x y = refl
one_kind bytes Empty b x y = absurd x
one_kind bytes TooLong b x y = absurd x
one_kind bytes Memory b x y = absurd x
one_kind bytes a Empty x y = absurd y
one_kind bytes a TooLong x y = absurd y
one_kind bytes a Memory x y = absurd y

-- ---- no fault is `Memory`

not_length : (len : ℕ) (fault : CodecFault) → length_fault len ≡ Some fault → fault.kind ≡ Memory → ⊥
not_length len fault e memory = grind (arith, nat_tests)

not_at_front : (bytes : List ℕ) (kind : FaultKind) → kind ≡ Memory → HasFault bytes kind → ⊥
not_at_front bytes kind e h = subst (HasFault bytes) e h

-- the fault of bytes that are no program is never Memory
pub not_memory : (bytes : List ℕ) (fault : CodecFault) → IsProgramFault bytes fault → fault.kind ≡ Memory → ⊥
not_memory bytes fault (inl of_length) memory = not_length (length bytes) fault of_length memory
not_memory bytes fault (inr after) memory = not_at_front after.rest fault.kind memory after.kind
