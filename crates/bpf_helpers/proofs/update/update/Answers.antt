-- `update`: if the words name no map, no key or no value in the part, as `bound` or `traced_offset` finds, the result is the word of an
-- error, and nothing changes; else they name the key and the value of which the contract of `put` speaks (`pair_found`).
use Rattle.std.proofs.Common.{refl, sym, ap, subst, ◌∙◌}
use Rattle.tagged_model.specs.declared.shape.MapShape.{MapShape}
use Rattle.bpf_helpers.specs.inside.Flat.{call_of, UpdatesNamed}
use Rattle.bpf_helpers.proofs.Words.{no_map, no_key, key_found, no_pair, no_value, pair_found}
use Rattle.bpf_helpers.proofs.update.update.Goals as goal
use Rattle.bpf_helpers.specs.States.{answers}

pub returns-in_default-clause-updated : goal.returns-in_default-clause-updated
returns-in_default-clause-updated c =
    let call_state = call_of c.args.caller c.args.arena.now c.args.maps.now in
    let none = no_map call_state c.args.map c.args.at.key (sym c.bound.ensures.value ∙ c.in_default.is) in
    subst (λ o. UpdatesNamed call_state o c.args.flags (answers c.fault_word.result call_state.memory call_state.maps))
    (sym (no_pair call_state c.args.map c.args.at.key c.args.at.value none))
    (c.fault_word.ensures, refl, refl)

pub returns-in_default-traced_offset-clause-updated : goal.returns-in_default-traced_offset-clause-updated
returns-in_default-traced_offset-clause-updated c =
    let call_state = call_of c.args.caller c.args.arena.now c.args.maps.now in
    let none =
    no_key call_state c.args.map c.args.at.key (sym c.in-Some.ensures.value)
    (ap (λ (s : MapShape). s.key_size) c.shape-shape.ensures)
    (sym c.in_default-traced_offset.is ∙ c.traced_offset.ensures.value) in
    subst (λ o.
    UpdatesNamed call_state o c.args.flags (answers c.fault_word-in_default-traced_offset.result call_state.memory call_state.maps))
    (sym (no_pair call_state c.args.map c.args.at.key c.args.at.value none))
    (c.fault_word-in_default-traced_offset.ensures, refl, refl)

pub returns-in_default-traced_offset-2-clause-updated : goal.returns-in_default-traced_offset-2-clause-updated
returns-in_default-traced_offset-2-clause-updated c =
    let call_state = call_of c.args.caller c.args.arena.now c.args.maps.now in
    let there =
    key_found call_state c.args.map c.args.at.key (sym c.in-Some.ensures.value)
    (ap (λ (s : MapShape). s.key_size) c.shape-shape.ensures)
    c.in-Some-traced_offset.ensures.value in
    let none =
    no_value call_state c.args.map c.args.at.key c.args.at.value there
    (ap (λ (s : MapShape). s.value_size) c.shape-shape.ensures)
    (sym c.in_default-traced_offset-2.is ∙ c.traced_offset-2.ensures.value) in
    subst (λ o.
    UpdatesNamed call_state o c.args.flags (answers c.fault_word-in_default-traced_offset-2.result call_state.memory call_state.maps))
    (sym none)
    (c.fault_word-in_default-traced_offset-2.ensures, refl, refl)

pub returns-clause-updated : goal.returns-clause-updated
returns-clause-updated c =
    let call_state = call_of c.args.caller c.args.arena.now c.args.maps.now in
    let there =
    key_found call_state c.args.map c.args.at.key (sym c.in-Some.ensures.value)
    (ap (λ (s : MapShape). s.key_size) c.shape-shape.ensures)
    c.in-Some-traced_offset.ensures.value in
    let both =
    pair_found call_state c.args.map c.args.at.key c.args.at.value there
    (ap (λ (s : MapShape). s.value_size) c.shape-shape.ensures)
    c.in-Some-traced_offset-2.ensures.value in
    subst (λ o. UpdatesNamed call_state o c.args.flags (answers c.put.result c.put.new.arena c.put.new.maps))
    (sym both) c.put.ensures.updated
