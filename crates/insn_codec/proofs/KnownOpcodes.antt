-- The opcodes with a form are those that instructions' spellings begin with.
use Rattle.std.proofs.Common.{◌≡◌, ℕ, ◌<◌, ◌^◌, Bool, true, List, Option, Some, None, refl, sym, ap, ◌∙◌, lit≤, lit<}
use Rattle.std.specs.Prelude.{◌==◌, ◌&&◌, IsTrue}
use Rattle.std.specs.List.{slice_index}
use Rattle.std.proofs.lemmas.Bool.{agree_below_at, and_parts, eqb-true}
use Rattle.std.proofs.lemmas.Option.{none-some}
use Rattle.insn_set.specs.declared.slot.SlotFields.{SlotFields}
use Rattle.insn_set.specs.declared.insn.Insn.{Insn}
use Rattle.insn_codec.specs.declared.opcode.SourceBit.TheVariants as source
use Rattle.words.specs.declared.operator.AluOp.TheVariants as op
use Rattle.insn_codec.specs.inside.OpcodeForm.{OpcodeForm}
use Rattle.insn_codec.specs.inside.OpcodeForm as form
use Rattle.insn_set.specs.Slot.{slot}
use Rattle.insn_set.specs.Slot.{slot_of}
use Rattle.insn_set.specs.Spelling.{first, spelling, IsInsn}
use Rattle.insn_codec.specs.Fault.{HasOpcode}
use Rattle.insn_codec.specs.inside.Opcodes.{opcode_of}
use Rattle.insn_codec.specs.inside.Form.{form_at, fields_allowed, is_form}
use Rattle.insn_codec.proofs.Opcodes.{form_of, form_at-first, opcode_of-form_of, is_form-form_of}
use Rattle.insn_codec.proofs.ReadBack.{insn_at}
use Rattle.insn_codec.proofs.FromSlot.{IsOf, first-insn_at, insn_at_up_to}

-- ---- an instruction of each form

-- the immediate of a slot whose other fields are zero: a byte-order conversion keeps bits
abbrev plain_imm : OpcodeForm → ℕ
plain_imm (form.End how) = 16
plain_imm _ = 0

plain_imm_lt : (f : OpcodeForm) → plain_imm f < 2 ^ 32
plain_imm_lt (form.End how) = lit< tt
plain_imm_lt _ = lit< tt

abbrev plain_slot : OpcodeForm → SlotFields
plain_slot f = slot (opcode_of f) 0 0 0 (plain_imm f)

plain_listed : (f : OpcodeForm) → fields_allowed f (plain_slot f) ≡ true
plain_listed (form.Alu wide op.Add source.Imm) = refl
plain_listed (form.Alu wide _ source.Imm) = refl
plain_listed (form.Jump wide condition source.Imm) = refl
plain_listed (form.Store size source.Imm) = refl
plain_listed _ = refl

an_instruction : (f : OpcodeForm) → IsTrue (is_form f) → (i : Insn) × IsInsn i × ((first i).opcode ≡ opcode_of f)
an_instruction f h =
    let s = plain_slot f in
    let of : IsOf f s = record { form = h; opcode = refl; listed = plain_listed f; offset = lit< tt; imm = plain_imm_lt f } in
    (insn_at f s 0, insn_at_up_to 10 f s of (lit≤ tt) (lit≤ tt), ap (λ (t : SlotFields). t.opcode) (first-insn_at f s of))

-- ---- the form at an opcode has that opcode: a table of 256

abbrev has_opcode : Option OpcodeForm → ℕ → Bool
has_opcode None b = true
has_opcode (Some f) b = opcode_of f == b && is_form f

table : (b : ℕ) → b < 256 → has_opcode (form_at b) b ≡ true
unfolding form_at
table b h = agree_below_at (λ n. has_opcode (form_at n) n) (λ n. true) 256 b refl h

has_form : (b : ℕ) (f : OpcodeForm) → b < 256 → form_at b ≡ Some f → (opcode_of f ≡ b) × IsTrue (is_form f)
has_form b f h e =
    let parts = and_parts (opcode_of f == b) (is_form f) (sym (ap (λ (o : Option OpcodeForm). has_opcode o b) e) ∙ table b h) in
    (eqb-true (opcode_of f) b parts.0, parts.1)

-- the form of a slot's opcode, a byte, is a form of opcodes, and has this opcode
pub form_of_slot : (f : OpcodeForm) (s : SlotFields) → s.opcode < 256 → form_at s.opcode ≡ Some f → (opcode_of f ≡ s.opcode) × IsTrue (is_form f)
form_of_slot f s byte e = has_form s.opcode f byte e

-- each opcode with a form is an instruction's
pub of_an_instruction : (b : ℕ) (f : OpcodeForm) → b < 256 → form_at b ≡ Some f → (i : Insn) × IsInsn i × ((first i).opcode ≡ b)
of_an_instruction b f byte at =
    let has = has_form b f byte at in
    let i = an_instruction f has.1 in
    (i.0, i.1, i.2 ∙ has.0)

-- ---- the first byte of a spelling

first_byte : (i : Insn) → slice_index (spelling i) 0 ≡ (first i).opcode
unfolding spelling
first_byte i = refl

-- the opcode of the slot in the first eight bytes is the first byte
pub opcode-slot_of : (bytes : List ℕ) → (slot_of bytes).opcode ≡ slice_index bytes 0
unfolding slot_of
opcode-slot_of bytes = refl

-- an opcode with a form is known
pub known : (bytes : List ℕ) (f : OpcodeForm) → slice_index bytes 0 < 256 → form_at (slot_of bytes).opcode ≡ Some f → HasOpcode bytes
known bytes f byte is =
    let i = of_an_instruction (slice_index bytes 0) f byte (ap form_at (sym (opcode-slot_of bytes)) ∙ is) in
    (i.0, i.1, sym i.2 ∙ sym (first_byte i.0))

-- an opcode without a form is not known
pub unknown : (bytes : List ℕ) → form_at (slot_of bytes).opcode ≡ None → HasOpcode bytes → ⊥
unknown bytes none has =
    let at : (slot_of bytes).opcode ≡ (first has.0).opcode = opcode-slot_of bytes ∙ has.2 ∙ first_byte has.0 in
    none-some (form_of has.0) (sym none ∙ ap form_at at ∙ form_at-first has.0)

-- the opcode of an instruction is known, also if its registers are out of range
pub known_first : (i : Insn) (bytes : List ℕ) → slice_index bytes 0 ≡ (first i).opcode → HasOpcode bytes
known_first i bytes at =
    let j = an_instruction (form_of i) (is_form-form_of i) in
    (j.0, j.1, at ∙ sym (opcode_of-form_of i) ∙ sym j.2 ∙ sym (first_byte j.0))
