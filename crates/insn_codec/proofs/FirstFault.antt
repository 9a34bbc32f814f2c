-- The fault that the code finds is the fault of the grammar.
use Rattle.std.proofs.Common.{◌≡◌, ℕ, ◌<◌, ◌≤◌, true, false, cond, ◌&&◌, ltb, leb, List, ◌++◌}
use Rattle.std.proofs.Common.{length, drop, Option, Some, None, refl, sym, ap, subst, ◌∙◌, arith, lit≤}
use Rattle.std.proofs.lemmas.Bool.{both_ways, cond_both, and_parts, le-leb, leb-true, ltb-true, ltb-false}
use Rattle.std.proofs.lemmas.Bool.Decides.{nat_tests}
use Rattle.std.proofs.lemmas.List.{take-append-drop}
use Rattle.std.proofs.lemmas.Option.{none-some, same_Some}
use Rattle.insn_set.specs.declared.slot.SlotFields.{SlotFields}
use Rattle.insn_codec.specs.declared.fault.FaultKind.{FaultKind}
use Rattle.insn_codec.specs.declared.fault.FaultKind.TheVariants.{Opcode, Reserved, Register, SecondSlot, Ragged}
use Rattle.insn_codec.specs.inside.OpcodeForm.{OpcodeForm}
use Rattle.insn_codec.specs.inside.OpcodeForm as form
use Rattle.insn_codec.specs.inside.Form.{form_at, fields_allowed}
use Rattle.insn_codec.specs.inside.FirstFault.{second_fault, fault_in_form, fault_by_form, first_fault}
use Rattle.insn_set.specs.Slot.{slot_bytes}
use Rattle.insn_set.specs.Slot.{slot_of}
use Rattle.insn_set.specs.Spelling.{first}
use Rattle.insn_codec.specs.Fault.{HasFirstSlot, HasInsn, HasFault}
use Rattle.insn_codec.proofs.Slots.{IsBytes, slot_of-append, slot_bytes-slot_of, IsSlot-slot_of}
use Rattle.insn_codec.proofs.Opcodes.{form_of, form_at-first}
use Rattle.insn_codec.proofs.Fields.{IsFront-first, IsSlot-front, listed-first}
use Rattle.insn_codec.proofs.ReadBack.{insn_at}
use Rattle.insn_codec.proofs.FromSlot.{IsOf, first-insn_at, insn_at_up_to}
use Rattle.insn_codec.proofs.KnownOpcodes.{known, unknown, form_of_slot, opcode-slot_of}
use Rattle.insn_codec.proofs.PrefixFree.{no_fault}

-- the slot that was read is the instruction's first one
read_slot : (top : ℕ) (bytes : List ℕ) → 2 ≤ top → top ≤ 15 → (h : HasFirstSlot top bytes) → slot_of bytes ≡ first h.0
read_slot top bytes some few h =
    let whole : bytes ≡ slot_bytes (first h.0) ++ drop 8 bytes = sym (take-append-drop 8 bytes) ∙ ap (λ (x : List ℕ). x ++ drop 8 bytes) h.2 in
    ap slot_of whole ∙ slot_of-append (drop 8 bytes) (IsSlot-front few (IsFront-first top h.0 some h.1))

-- bytes of known opcode, read as a slot
record IsRead (bytes : List ℕ) (f : OpcodeForm) : Type 0 where
  fits : IsBytes bytes
  long : 8 ≤ length bytes
  form : form_at (slot_of bytes).opcode ≡ Some f

not_listed : {bytes : List ℕ} {f : OpcodeForm} → IsRead bytes f → fields_allowed f (slot_of bytes) ≡ false → HasFirstSlot 15 bytes → ⊥
not_listed {bytes} {f} r unlisted h =
    let s = read_slot 15 bytes (lit≤ tt) (lit≤ tt) h in
    let f-is : f ≡ form_of h.0 = same_Some f (form_of h.0) (sym r.form ∙ ap (λ (x : SlotFields). form_at x.opcode) s ∙ form_at-first h.0) in
    both_ways (fields_allowed f (slot_of bytes)) unlisted
    (ap (λ (g : OpcodeForm). fields_allowed g (slot_of bytes)) f-is ∙ ap (fields_allowed (form_of h.0)) s ∙ listed-first h.0)

byte_opcode : (bytes : List ℕ) → IsBytes bytes → (slot_of bytes).opcode < 256
byte_opcode bytes fits = omega (arith, fits 0, opcode-slot_of bytes)

has_first_slot : {bytes : List ℕ} {f : OpcodeForm} (top : ℕ)
    → IsRead bytes f → fields_allowed f (slot_of bytes) ≡ true
    → (slot_of bytes).dst ≤ top → (slot_of bytes).src ≤ top
    → HasFirstSlot top bytes
has_first_slot {bytes} {f} top r ok dst src =
    let fields = IsSlot-slot_of bytes r.fits r.long in
    let has = form_of_slot f (slot_of bytes) (byte_opcode bytes r.fits) r.form in
    let is_of : IsOf f (slot_of bytes) = record { form = has.1; opcode = sym has.0; listed = ok; offset = fields.offset; imm = fields.imm } in (
      insn_at f (slot_of bytes) 0,
      insn_at_up_to top f (slot_of bytes) is_of dst src,
      sym (slot_bytes-slot_of bytes r.fits r.long) ∙ ap slot_bytes (sym (first-insn_at f (slot_of bytes) is_of)),
    )

no_register : (bytes : List ℕ) → (leb (slot_of bytes).dst 10 && leb (slot_of bytes).src 10) ≡ false → HasFirstSlot 10 bytes → ⊥
no_register bytes many h =
    let s = read_slot 10 bytes (lit≤ tt) (lit≤ tt) h in
    let r = IsFront-first 10 h.0 (lit≤ tt) h.1 in
    grind (arith, nat_tests, many, r.dst, r.src, ap (λ (x : SlotFields). x.dst) s, ap (λ (x : SlotFields). x.src) s)

-- ---- by the tests of the code, from the last one back

second_kind : (f : OpcodeForm) (src : ℕ) (rest : List ℕ) (kind : FaultKind) → second_fault f src rest ≡ Some kind → SecondSlot ≡ kind
second_kind form.Wide src rest kind e = grind (arith, nat_tests)
second_kind _ src rest kind e = absurd cc

-- the fault that is found is a fault of the bytes
abbrev IsRight : List ℕ → Option FaultKind → Type 0
IsRight bytes found = (kind : FaultKind) → found ≡ Some kind → HasFault bytes kind

seen : (bytes : List ℕ) (found : FaultKind) → HasFault bytes found → IsRight bytes (Some found)
seen bytes found h kind e = subst (HasFault bytes) (same_Some found kind e) h

by_register : {bytes : List ℕ} {f : OpcodeForm}
    → IsRead bytes f → fields_allowed f (slot_of bytes) ≡ true
    → (HasInsn bytes → ⊥)
    → IsRight bytes (cond (leb (slot_of bytes).dst 10 && leb (slot_of bytes).src 10) (second_fault f (slot_of bytes).src (drop 8 bytes)) (Some Register))
by_register {bytes} {f} r ok none =
    let s = slot_of bytes in
    let fields = IsSlot-slot_of bytes r.fits r.long in
    cond_both (leb s.dst 10 && leb s.src 10) (second_fault f s.src (drop 8 bytes)) (Some Register) (IsRight bytes)
    (λ few kind e.
    let parts = and_parts (leb s.dst 10) (leb s.src 10) few in
    subst (HasFault bytes) (second_kind f s.src (drop 8 bytes) kind e) (has_first_slot 10 r ok (leb-true _ _ parts.0) (leb-true _ _ parts.1), none))
    (λ many. seen bytes Register (has_first_slot 15 r ok (omega (arith, fields.dst)) (omega (arith, fields.src)), no_register bytes many))

by_form : {bytes : List ℕ} {f : OpcodeForm} → IsRead bytes f → (HasInsn bytes → ⊥) → IsRight bytes (fault_in_form f (slot_of bytes) (drop 8 bytes))
unfolding fault_in_form
by_form {bytes} {f} r none =
    let s = slot_of bytes in
    cond_both (fields_allowed f s) (cond (leb s.dst 10 && leb s.src 10) (second_fault f s.src (drop 8 bytes)) (Some Register)) (Some Reserved) (IsRight bytes)
    (λ ok. by_register r ok none) (λ unlisted. seen bytes Reserved (r.long, known bytes f (r.fits 0) r.form, not_listed r unlisted))

by_opcode : (bytes : List ℕ)
    → IsBytes bytes → 8 ≤ length bytes
    → (HasInsn bytes → ⊥)
    → (o : Option OpcodeForm) → form_at (slot_of bytes).opcode ≡ o
    → IsRight bytes (fault_by_form o (slot_of bytes) (drop 8 bytes))
by_opcode bytes fits long none None is = seen bytes Opcode (long, unknown bytes is)
by_opcode bytes fits long none (Some f) is = by_form (record { fits = fits; long = long; form = is }) none

-- the fault that the code finds at the front of bytes is the fault of the grammar
pub has_fault : (bytes : List ℕ) (kind : FaultKind) → IsBytes bytes → first_fault bytes ≡ Some kind → HasFault bytes kind
unfolding first_fault
has_fault bytes kind fits e =
    let none : HasInsn bytes → ⊥ = λ (h : HasInsn bytes). none-some kind (sym (no_fault h.0 bytes h.1 h.2) ∙ e) in
    cond_both (ltb (length bytes) 8) (Some Ragged) (fault_by_form (form_at (slot_of bytes).opcode) (slot_of bytes) (drop 8 bytes)) (IsRight bytes)
    (λ short. seen bytes Ragged (ltb-true _ _ short)) (λ long. by_opcode bytes fits (ltb-false _ _ long) none (form_at (slot_of bytes).opcode) refl) kind e

-- if the first slot has valid fields, the fault is that of the second slot
pub fault_by_second : (f : OpcodeForm) (s t : SlotFields) (rest : List ℕ) (kind : FaultKind)
    → s ≡ t → fields_allowed f s ≡ true
    → s.dst ≤ 10 → s.src ≤ 10
    → second_fault f t.src rest ≡ Some kind
    → fault_in_form f t rest ≡ Some kind
unfolding fault_in_form
fault_by_second f s t rest kind same ok dst src second =
    let ok-t : fields_allowed f t ≡ true = ap (fields_allowed f) (sym same) ∙ ok in
    let dst-t : leb t.dst 10 ≡ true = ap (λ (x : SlotFields). leb x.dst 10) (sym same) ∙ le-leb _ _ dst in
    let src-t : leb t.src 10 ≡ true = ap (λ (x : SlotFields). leb x.src 10) (sym same) ∙ le-leb _ _ src in
    rw (ok-t, dst-t, src-t) second
