-- The slots that are written are the spelling.
use Rattle.std.proofs.Common.{◌≡◌, ℕ, List, [], ◌∷◌, ◌++◌, length, map, drop, Option, None, Some, ap, sym, ◌∙◌, append-nil, arith}
use Rattle.std.proofs.lemmas.List.{drop_all}
use Rattle.std.specs.Option.{option_to_list}
use Rattle.insn_set.specs.declared.slot.RawSlot.{RawSlot}
use Rattle.insn_set.specs.declared.slot.SlotFields.{SlotFields}
use Rattle.insn_set.specs.Slot.{slot_bytes, fields}
use Rattle.insn_set.specs.Spelling.{first, spelling}
use Rattle.insn_codec.proofs.Slots.{spelled_by}
use Rattle.insn_codec.proofs.writing.encode.Goals as goal

one : (c : goal.After-out-in-None-1) → spelling c.args.insn.now ≡ slot_bytes (fields c.first-first.result)
one c =
    spelled_by c.args.insn.now c.first-first.result None
    (ap (λ (x : SlotFields). x ∷ []) c.first-first.ensures
    ∙ ap (λ (ss : List SlotFields). first c.args.insn.now ∷ ss)
    (sym (c.second.ensures ∙ ap (λ (t : Option RawSlot). map fields (option_to_list t)) c.in-None.is)))

two : (c : goal.After-out-in-Some-2-1) → spelling c.args.insn.now ≡ slot_bytes (fields c.first-first.result) ++ slot_bytes (fields c.in-Some.next)
two c =
    spelled_by c.args.insn.now c.first-first.result (Some c.in-Some.next)
    (ap (λ (x : SlotFields). x ∷ fields c.in-Some.next ∷ []) c.first-first.ensures
    ∙ ap (λ (ss : List SlotFields). first c.args.insn.now ∷ ss)
    (sym (c.second.ensures ∙ ap (λ (t : Option RawSlot). map fields (option_to_list t)) c.in-Some.is)))

pub returns-in-None-clause-length : goal.returns-in-None-clause-length
returns-in-None-clause-length c = sym (ap length (one c))

pub returns-in-None-clause-bytes : goal.returns-in-None-clause-bytes
returns-in-None-clause-bytes c =
    let written : c.copy_from_slice.new.self ≡ spelling c.args.insn.now = c.copy_from_slice.ensures.after ∙ c.bytes.ensures ∙ sym (one c) in
    ap (λ (x : List ℕ). x ++ c.split_at_mut-front.result.1.now) written ∙ ap (λ (x : List ℕ). spelling c.args.insn.now ++ x) c.split_at_mut-front.ensures.back

pub returns-in-Some-clause-length : goal.returns-in-Some-clause-length
returns-in-Some-clause-length c = sym (ap length (two c))

pub returns-in-Some-clause-bytes : goal.returns-in-Some-clause-bytes
returns-in-Some-clause-bytes c =
    let first : c.copy_from_slice.new.self ≡ slot_bytes (fields c.first-first.result) = c.copy_from_slice.ensures.after ∙ c.bytes.ensures in
    let last : c.copy_from_slice-in-Some.new.self ≡ slot_bytes (fields c.in-Some.next) = c.copy_from_slice-in-Some.ensures.after ∙ c.bytes-in-Some.ensures in
    let nothing : drop 16 c.args.out.now ≡ [] = drop_all 16 c.args.out.now (omega arith) in
    ap (λ (x : List ℕ). x ++ c.copy_from_slice-in-Some.new.self) first
    ∙ ap (λ (x : List ℕ). slot_bytes (fields c.first-first.result) ++ x) last
    ∙ sym (two c)
    ∙ sym (append-nil (spelling c.args.insn.now))
    ∙ ap (λ (x : List ℕ). spelling c.args.insn.now ++ x) (sym nothing)
