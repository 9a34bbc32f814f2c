-- `delete`: if the words name a map and a key in the part (`key_there`), word and maps are those of `remove`; if `bound` or
-- `traced_offset` returns `None`, they name no key (`no_map`, `no_key`), the word of `Invalid` is returned, and no map changes.
use Rattle.std.proofs.Common.{Ok, Err, refl, sym, ap, subst, ◌∙◌}
use Rattle.tagged_model.specs.declared.shape.MapShape.{MapShape}
use Rattle.bpf_helpers.specs.inside.Flat.{call_of, DeletesNamed}
use Rattle.bpf_helpers.proofs.Words.{no_map, no_key, key_there}
use Rattle.bpf_helpers.proofs.delete.delete.Goals as goal

pub returns-in-Ok-clause-deleted : goal.returns-in-Ok-clause-deleted
returns-in-Ok-clause-deleted c =
    let size = ap (λ (s : MapShape). s.key_size) c.shape-size.ensures in
    let there =
    key_there (call_of c.args.caller c.args.arena.now c.args.maps.now) c.args.map c.args.key
    (sym c.in-Some.ensures.value) size c.in-Some-traced_offset.at
    c.in-Some-traced_offset.ensures.value c.part-part.ensures.bytes
    c.in-Some-traced_offset.ensures.within in
    subst (λ o. DeletesNamed c.args.maps.now o 0 c.remove.new.self) (sym there)
    (record { outcome = Ok tt; removed = c.in-Ok.ensures.removed; rest = c.in-Ok.ensures.rest; word_is = refl })

pub returns-in-Err-clause-deleted : goal.returns-in-Err-clause-deleted
returns-in-Err-clause-deleted c =
    let size = ap (λ (s : MapShape). s.key_size) c.shape-size.ensures in
    let there =
    key_there (call_of c.args.caller c.args.arena.now c.args.maps.now) c.args.map c.args.key
    (sym c.in-Some.ensures.value) size c.in-Some-traced_offset.at
    c.in-Some-traced_offset.ensures.value c.part-part.ensures.bytes
    c.in-Some-traced_offset.ensures.within in
    subst (λ o. DeletesNamed c.args.maps.now o c.fault_word-in-Err.result c.remove.new.self) (sym there)
    (record {
      outcome = Err c.in-Err.fault;
      removed = c.in-Err.ensures.removed;
      rest = c.in-Err.ensures.rest;
      word_is = c.fault_word-in-Err.ensures;
    })

pub returns-in_default-clause-deleted : goal.returns-in_default-clause-deleted
returns-in_default-clause-deleted c =
    let none =
    no_map (call_of c.args.caller c.args.arena.now c.args.maps.now) c.args.map c.args.key
    (sym c.bound.ensures.value ∙ c.in_default.is) in
    subst (λ o. DeletesNamed c.args.maps.now o c.fault_word.result c.args.maps.now) (sym none) (c.fault_word.ensures, refl)

pub returns-in_default-traced_offset-clause-deleted : goal.returns-in_default-traced_offset-clause-deleted
returns-in_default-traced_offset-clause-deleted c =
    let size = ap (λ (s : MapShape). s.key_size) c.shape-size.ensures in
    let none =
    no_key (call_of c.args.caller c.args.arena.now c.args.maps.now) c.args.map c.args.key
    (sym c.in-Some.ensures.value) size
    (sym c.in_default-traced_offset.is ∙ c.traced_offset.ensures.value) in
    subst (λ o. DeletesNamed c.args.maps.now o c.fault_word-in_default-traced_offset.result c.args.maps.now)
    (sym none) (c.fault_word-in_default-traced_offset.ensures, refl)
