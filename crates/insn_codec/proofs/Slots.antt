-- The fields of a slot and its eight bytes.
use Rattle.std.proofs.Common.{◌≡◌, ℕ, ◌+◌, ◌*◌, ◌/◌, ◌%◌, ◌^◌, ◌<◌, ◌≤◌, List, [], ◌∷◌, ◌++◌, length, get_or, take}
use Rattle.std.proofs.Common.{drop, map, Option, Some, None, refl, sym, ap, ◌∙◌, append_assoc, arith, inl, inr}
use Rattle.std.specs.Int.{w16, w32, from_le_bytes, to_le_bytes}
use Rattle.std.specs.List.{flat_map}
use Rattle.std.specs.Option.{option_to_list}
use Rattle.std.proofs.lemmas.Bool.{cases_lt}
use Rattle.std.proofs.lemmas.List.{take-append-drop, length-append, length-take, get_or-drop, get_or-take, get_or_past}
use Rattle.std.proofs.lemmas.Nat.{le_bytes_2, le_bytes_4, from_le_bytes-to_le_bytes_2, from_le_bytes-to_le_bytes_4}
use Rattle.std.proofs.Math.Seq.{take-add}
use Rattle.insn_set.specs.declared.slot.SlotFields.{SlotFields}
use Rattle.insn_set.specs.declared.insn.Insn.{Insn}
use Rattle.insn_set.specs.declared.slot.RawSlot.{RawSlot}
use Rattle.insn_set.specs.Slot.{fields, slot_bytes}
use Rattle.insn_codec.specs.inside.Code.{IsSecond}
use Rattle.insn_set.specs.Slot.{slot_of}
use Rattle.insn_set.specs.Spelling.{first, second, slots, spelling, Begins}

abbrev pub IsBytes : List ℕ → Type 0
IsBytes bytes = (i : ℕ) → get_or bytes i 0 < 256

-- a list of bytes without its first n is a list of bytes
pub IsBytes-drop : (n : ℕ) (bytes : List ℕ) → IsBytes bytes → IsBytes (drop n bytes)
IsBytes-drop n bytes h i = rw get_or-drop (h (n + i))

-- the first n of a list of bytes are a list of bytes
pub IsBytes-take : (n : ℕ) (bytes : List ℕ) → IsBytes bytes → IsBytes (take n bytes)
IsBytes-take n bytes h i =
    elim (cases_lt i n) [
      | inl lt ↦ rw (get_or-take n bytes i 0 lt) (h i)
      | inr le ↦ rw (get_or_past (take n bytes) i 0 (omega (arith, length-take n bytes))) (omega arith)
    ]

-- the fields after the opcode fit their bits
pub record IsSlot (s : SlotFields) : Type 0 where
  -- the destination register fits four bits
  pub dst : s.dst < 16
  -- the source register fits four bits
  pub src : s.src < 16
  -- the offset fits 16 bits
  pub offset : s.offset < 2 ^ 16
  -- the immediate fits 32 bits
  pub imm : s.imm < 2 ^ 32

-- the fields that are read from the bytes of a slot are the slot's
pub slot_of-append : {s : SlotFields} (rest : List ℕ) → IsSlot s → slot_of (slot_bytes s ++ rest) ≡ s
unfolding slot_of
slot_of-append {s} rest h =
    let low : (16 * s.src + s.dst) % 16 ≡ s.dst = omega arith in
    let high : (16 * s.src + s.dst) / 16 ≡ s.src = omega arith in
    rw (low, high, from_le_bytes-to_le_bytes_2 s.offset h.offset, from_le_bytes-to_le_bytes_4 s.imm h.imm) refl

-- the bytes of the slot that was read are the bytes at the front
pub slot_bytes-slot_of : (bytes : List ℕ) → IsBytes bytes → 8 ≤ length bytes → slot_bytes (slot_of bytes) ≡ take 8 bytes
unfolding slot_of
slot_bytes-slot_of (a ∷ b ∷ c ∷ d ∷ e ∷ f ∷ g ∷ h ∷ rest) fits long =
    let bytes : List ℕ = a ∷ b ∷ c ∷ d ∷ e ∷ f ∷ g ∷ h ∷ rest in
    let registers : 16 * (b / 16) + b % 16 ≡ b = omega arith in
    let offset : to_le_bytes w16 (from_le_bytes w16 (c ∷ d ∷ [])) ≡ c ∷ d ∷ [] =
    le_bytes_2 (c ∷ d ∷ []) _ refl (IsBytes-take 2 (drop 2 bytes) (IsBytes-drop 2 bytes fits)) refl in
    let imm : to_le_bytes w32 (from_le_bytes w32 (e ∷ f ∷ g ∷ h ∷ [])) ≡ e ∷ f ∷ g ∷ h ∷ [] =
    le_bytes_4 (e ∷ f ∷ g ∷ h ∷ []) _ refl (IsBytes-take 4 (drop 4 bytes) (IsBytes-drop 4 bytes fits)) refl in
    ap (λ (r : ℕ). a ∷ r ∷ (to_le_bytes w16 (from_le_bytes w16 (c ∷ d ∷ [])) ++ to_le_bytes w32 (from_le_bytes w32 (e ∷ f ∷ g ∷ h ∷ [])))) registers
    ∙ ap (λ (x : List ℕ). a ∷ b ∷ (x ++ to_le_bytes w32 (from_le_bytes w32 (e ∷ f ∷ g ∷ h ∷ [])))) offset
    ∙ ap (λ (x : List ℕ). a ∷ b ∷ c ∷ d ∷ x) imm
slot_bytes-slot_of _ fits long = absurd (omega arith)

-- the fields that are read fit their bits
pub IsSlot-slot_of : (bytes : List ℕ) → IsBytes bytes → 8 ≤ length bytes → IsSlot (slot_of bytes)
unfolding slot_of
IsSlot-slot_of bytes fits long = record {
  dst = omega arith;
  src = omega (arith, fits 1);
  offset = omega (arith, fits 2, fits 3);
  imm = omega (arith, fits 4, fits 5, fits 6, fits 7);
}

-- the bytes begin with one slot, or with two
one_slot : (ss : List SlotFields) (bytes : List ℕ)
    → IsBytes bytes → 8 ≤ length bytes
    → ss ≡ slot_of bytes ∷ []
    → take (length (flat_map slot_bytes ss)) bytes ≡ flat_map slot_bytes ss
one_slot ss bytes fits long e = rw (e, slot_bytes-slot_of bytes fits long) refl

two_slots : (ss : List SlotFields) (bytes : List ℕ)
    → IsBytes bytes → 8 ≤ length bytes
    → 8 ≤ length (drop 8 bytes)
    → ss ≡ slot_of bytes ∷ slot_of (drop 8 bytes) ∷ []
    → take (length (flat_map slot_bytes ss)) bytes ≡ flat_map slot_bytes ss
two_slots ss bytes fits long more e =
    let first = slot_bytes-slot_of bytes fits long in
    let second = slot_bytes-slot_of (drop 8 bytes) (IsBytes-drop 8 bytes fits) more in
    rw e (take-add 8 8 bytes ∙ sym (ap (λ (x : List ℕ). x ++ take 8 (drop 8 bytes)) first) ∙ sym (ap (λ (x : List ℕ). slot_bytes (slot_of bytes) ++ x) second))

-- if the one slot of an instruction is that of the first eight bytes, the bytes begin with the instruction
pub begins_one : (i : Insn) (bytes : List ℕ) → IsBytes bytes → 8 ≤ length bytes → slots i ≡ slot_of bytes ∷ [] → Begins i bytes
unfolding spelling
begins_one i bytes fits long e = one_slot (slots i) bytes fits long e

-- if the two slots of an instruction are those of the first sixteen bytes, the bytes begin with the instruction
pub begins_two : (i : Insn) (bytes rest : List ℕ)
    → IsBytes bytes → 8 ≤ length bytes
    → rest ≡ drop 8 bytes → 8 ≤ length rest
    → slots i ≡ slot_of bytes ∷ slot_of rest ∷ []
    → Begins i bytes
unfolding spelling
begins_two i bytes rest fits long rest-is long_rest slots-is =
    let more : 8 ≤ length (drop 8 bytes) = rw rest-is at long_rest in
    let e : slots i ≡ slot_of bytes ∷ slot_of (drop 8 bytes) ∷ [] = rw rest-is at slots-is in
    two_slots (slots i) bytes fits long more e

-- the bytes begin with the slots that were read of them
pub begins_read : (i : Insn) (s : RawSlot) (t : Option RawSlot) (bytes rest : List ℕ)
    → IsBytes bytes → 8 ≤ length bytes
    → rest ≡ drop 8 bytes → fields s ≡ slot_of bytes
    → IsSecond rest t
    → slots i ≡ map fields (s ∷ option_to_list t)
    → Begins i bytes
begins_read i s None bytes rest fits long rest-is first second read =
    begins_one i bytes fits long (read ∙ ap (λ (x : SlotFields). x ∷ []) first)
begins_read i s (Some t) bytes rest fits long rest-is first second read =
    begins_two i bytes rest fits long rest-is second.0
    (read ∙ ap (λ (x : SlotFields). x ∷ fields t ∷ []) first ∙ ap (λ (x : SlotFields). slot_of bytes ∷ x ∷ []) second.1)

-- conversely, if the bytes are those of a slot and a rest
slot_before : {s : SlotFields} {bytes : List ℕ} (rest : List ℕ) → IsSlot s → bytes ≡ slot_bytes s ++ rest → (slot_of bytes ≡ s) × (8 ≤ length bytes)
slot_before {s} rest fits whole = (ap slot_of whole ∙ slot_of-append rest fits, omega (arith, ap length whole, length-append (slot_bytes s) rest))

-- bytes that begin with an instruction are those of its first slot, those of its other slots, and a rest
pub whole_of_begins : (i : Insn) (s : SlotFields) (others : List SlotFields) (bytes : List ℕ)
    → slots i ≡ s ∷ others → Begins i bytes
    → bytes ≡ slot_bytes s ++ (flat_map slot_bytes others ++ drop (length (spelling i)) bytes)
unfolding spelling
whole_of_begins i s others bytes e h =
    let rest = drop (length (spelling i)) bytes in
    sym (take-append-drop (length (spelling i)) bytes)
    ∙ ap (λ (x : List ℕ). x ++ rest) (h ∙ ap (flat_map slot_bytes) e)
    ∙ append_assoc (slot_bytes s) (flat_map slot_bytes others) rest

-- bytes that begin with an instruction are at least eight, and the first eight are its first slot
pub first_of_begins : {s : SlotFields} (i : Insn) (others : List SlotFields) (bytes : List ℕ)
    → IsSlot s → slots i ≡ s ∷ others
    → Begins i bytes
    → (slot_of bytes ≡ s) × (8 ≤ length bytes)
first_of_begins {s} i others bytes fits e h =
    slot_before (flat_map slot_bytes others ++ drop (length (spelling i)) bytes) fits (whole_of_begins i s others bytes e h)

-- bytes that begin with an instruction of two slots have the second one in the next eight bytes
pub second_of_begins : {t : SlotFields} (i : Insn) (s : SlotFields) (bytes : List ℕ)
    → IsSlot t → slots i ≡ s ∷ t ∷ []
    → Begins i bytes
    → (slot_of (drop 8 bytes) ≡ t) × (8 ≤ length (drop 8 bytes))
second_of_begins {t} i s bytes fits e h = slot_before (drop (length (spelling i)) bytes) fits (ap (drop 8) (whole_of_begins i s (t ∷ []) bytes e h))

-- the spelling is that of a first slot and, if there is one, of a second
pub spelled_by : (i : Insn) (s : RawSlot) (next : Option RawSlot)
    → map fields (s ∷ option_to_list next) ≡ slots i
    → spelling i ≡ slot_bytes (fields s) ++ flat_map slot_bytes (map fields (option_to_list next))
unfolding spelling
spelled_by i s next slots-are = ap (flat_map slot_bytes) (sym slots-are)
