-- `call`: the helper with the number `id` is that of the branch of the `match` (`of_helper`), so the contract of the branch's function
-- is about it: the result represents that of the machine's call (`Followed`), and nothing changes if a word names nothing. Only
-- a deletion keeps an element apart: look-ups and loads change no map, and an update keeps none apart (`updates_apart`).
use Rattle.std.proofs.Common.{◌≡◌, Some, Option, option_map, ℤ, refl, sym, ap, subst, ◌∙◌, w32, SFits, to_z, of_z}
use Rattle.std.specs.Prelude.{slice_index, unwrap_or}
use Rattle.std.proofs.lemmas.Int.{to_z-of_z}
use Rattle.std.proofs.lemmas.Option.{same_Some}
use Rattle.tagged_model.specs.declared.helper.Helper.{Helper}
use Rattle.tagged_model.specs.declared.helper.Helper.TheVariants.{LookUp, Update, Delete, LoadBytes}
use Rattle.tagged_model.specs.Helpers.{helper_of}
use Rattle.bpf_helpers.specs.inside.Flat.{key_word, UpdatesNamed, DeletesNamed, LoadsAt}
use Rattle.bpf_helpers.proofs.SameApart.{updates_apart}
use Rattle.bpf_helpers.proofs.Followed.{look_up_follows, update_follows, delete_follows, load_follows}
use Rattle.bpf_helpers.proofs.calls.call.Goals as goal
use Rattle.bpf_helpers.specs.States.{answers, call_state}

-- a number names one function
of_helper : (P : Helper → Type 0) (h : Helper) {id : ℤ} {found : Option Helper} {field : Helper}
    → SFits w32 id → found ≡ helper_of (to_z w32 (of_z w32 id))
    → found ≡ Some field → field ≡ h
    → P h
    → (helper : Helper) → helper_of id ≡ Some helper
    → P helper
of_helper P h {id} {field = field} fits by is seen holds helper known =
    subst P (sym seen ∙ same_Some field helper (sym is ∙ by ∙ ap helper_of (to_z-of_z w32 id fits) ∙ known)) holds

pub returns-in-Some-LookUp-clause-follows : goal.returns-in-Some-LookUp-clause-follows
returns-in-Some-LookUp-clause-follows c =
    of_helper _ LookUp c.ranges.id c.known_helper.ensures c.in-Some-LookUp.is c.in-Some-LookUp.field-0-is
    (look_up_follows c.returns_keep_simulation.ensures c.call_premises.ensures c.args.words.now
    c.look_up.result _ c.look_up.ensures.value)

pub returns-in-Some-LookUp-clause-unnamed : goal.returns-in-Some-LookUp-clause-unnamed
returns-in-Some-LookUp-clause-unnamed c =
    let here = call_state c.args.tenant c.args.bind.now c.args.packet.now c.args.arena.now c.args.maps.now in
    of_helper _ LookUp c.ranges.id c.known_helper.ensures c.in-Some-LookUp.is c.in-Some-LookUp.field-0-is
    (λ nothing. (c.look_up.ensures.value ∙ ap (λ o. unwrap_or (option_map (key_word here) o) 0) nothing, refl, refl))

pub returns-in-Some-Update-clause-follows : goal.returns-in-Some-Update-clause-follows
returns-in-Some-Update-clause-follows c =
    of_helper _ Update c.ranges.id c.known_helper.ensures c.in-Some-Update.is c.in-Some-Update.field-0-is
    (update_follows c.returns_keep_simulation.ensures c.call_premises.ensures c.args.words.now
    (answers c.update.result c.update.new.arena c.update.new.maps)
    _ c.update.ensures.updated)

pub returns-in-Some-Update-clause-unnamed : goal.returns-in-Some-Update-clause-unnamed
returns-in-Some-Update-clause-unnamed c =
    let here = call_state c.args.tenant c.args.bind.now c.args.packet.now c.args.arena.now c.args.maps.now in
    of_helper _ Update c.ranges.id c.known_helper.ensures c.in-Some-Update.is c.in-Some-Update.field-0-is
    (λ nothing.
    subst (λ o.
    UpdatesNamed here o (slice_index c.args.words.now 3) (answers c.update.result c.update.new.arena c.update.new.maps))
    nothing c.update.ensures.updated)

pub returns-in-Some-Delete-clause-follows : goal.returns-in-Some-Delete-clause-follows
returns-in-Some-Delete-clause-follows c =
    of_helper _ Delete c.ranges.id c.known_helper.ensures c.in-Some-Delete.is c.in-Some-Delete.field-0-is
    (delete_follows c.returns_keep_simulation.ensures c.call_premises.ensures c.args.words.now
    c.delete.result c.delete.new.maps _ c.delete.ensures.deleted)

pub returns-in-Some-Delete-clause-unnamed : goal.returns-in-Some-Delete-clause-unnamed
returns-in-Some-Delete-clause-unnamed c =
    of_helper _ Delete c.ranges.id c.known_helper.ensures c.in-Some-Delete.is c.in-Some-Delete.field-0-is
    (λ nothing.
    let deleted =
    subst (λ o. DeletesNamed c.args.maps.now o c.delete.result c.delete.new.maps) nothing c.delete.ensures.deleted in
    (deleted.0, refl, deleted.1))

pub returns-in-Some-LoadBytes-clause-follows : goal.returns-in-Some-LoadBytes-clause-follows
returns-in-Some-LoadBytes-clause-follows c =
    of_helper _ LoadBytes c.ranges.id c.known_helper.ensures c.in-Some-LoadBytes.is c.in-Some-LoadBytes.field-0-is
    (load_follows c.returns_keep_simulation.ensures c.call_premises.ensures c.args.words.now
    c.load_bytes.result c.load_bytes.new.arena _ (c.load_bytes.ensures.loaded c.args.maps.now))

pub returns-in-Some-LoadBytes-clause-unnamed : goal.returns-in-Some-LoadBytes-clause-unnamed
returns-in-Some-LoadBytes-clause-unnamed c =
    let here = call_state c.args.tenant c.args.bind.now c.args.packet.now c.args.arena.now c.args.maps.now in
    of_helper _ LoadBytes c.ranges.id c.known_helper.ensures c.in-Some-LoadBytes.is c.in-Some-LoadBytes.field-0-is
    (λ nothing.
    let loaded =
    subst (λ o.
    LoadsAt here (slice_index c.args.words.now 1) (slice_index c.args.words.now 3) o
    c.load_bytes.result c.load_bytes.new.arena)
    nothing (c.load_bytes.ensures.loaded c.args.maps.now) in
    (loaded.0, loaded.1, refl))

pub returns-in-Some-LookUp-clause-apart : goal.returns-in-Some-LookUp-clause-apart
returns-in-Some-LookUp-clause-apart c =
    of_helper _ LookUp c.ranges.id c.known_helper.ensures c.in-Some-LookUp.is c.in-Some-LookUp.field-0-is
    (λ kept key. refl)

pub returns-in-Some-Update-clause-apart : goal.returns-in-Some-Update-clause-apart
returns-in-Some-Update-clause-apart c =
    of_helper _ Update c.ranges.id c.known_helper.ensures c.in-Some-Update.is c.in-Some-Update.field-0-is
    (λ kept.
    updates_apart (call_state c.args.tenant c.args.bind.now c.args.packet.now c.args.arena.now c.args.maps.now)
    _ _
    (answers c.update.result c.update.new.arena c.update.new.maps)
    c.update.ensures.updated)

pub returns-in-Some-Delete-clause-apart : goal.returns-in-Some-Delete-clause-apart
returns-in-Some-Delete-clause-apart c =
    of_helper _ Delete c.ranges.id c.known_helper.ensures c.in-Some-Delete.is c.in-Some-Delete.field-0-is
    (λ kept. absurd (kept refl))

pub returns-in-Some-LoadBytes-clause-apart : goal.returns-in-Some-LoadBytes-clause-apart
returns-in-Some-LoadBytes-clause-apart c =
    of_helper _ LoadBytes c.ranges.id c.known_helper.ensures c.in-Some-LoadBytes.is c.in-Some-LoadBytes.field-0-is
    (λ kept key. refl)
