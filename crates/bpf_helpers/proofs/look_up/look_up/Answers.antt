-- `look_up`: if the words name no map or no key in the part (`no_map`, `no_key`), the result 0 is that of the definition; else it is the
-- address that `address_of` of `Maps` returns, and this is the word of the key's value (`address_word`).
use Rattle.std.proofs.Common.{◌+◌, option_map, slice_range, sym, ap, ◌∙◌, arith}
use Rattle.std.specs.Prelude.{unwrap_or}
use Rattle.tagged_model.specs.declared.shape.MapShape.{MapShape}
use Rattle.tagged_model.specs.Table.{look_up}
use Rattle.bpf_maps.specs.KeyTable.{table_of}
use Rattle.bpf_maps.specs.Live.{keys_at}
use Rattle.bpf_helpers.specs.inside.Flat.{call_of, key_word}
use Rattle.bpf_helpers.proofs.Words.{no_map, no_key, key_there}
use Rattle.bpf_helpers.proofs.Addresses.{address_word}
use Rattle.bpf_helpers.proofs.look_up.look_up.Goals as goal

pub returns-in_default-clause-value : goal.returns-in_default-clause-value
returns-in_default-clause-value c =
    let call_state = call_of c.args.caller c.args.arena.now c.args.maps.now in
    sym (ap (λ o. unwrap_or (option_map (key_word call_state) o) 0)
    (no_map call_state c.args.map c.args.key (sym c.bound.ensures.value ∙ c.in_default.is)))

pub returns-clause-value : goal.returns-clause-value
returns-clause-value c =
    let call_state = call_of c.args.caller c.args.arena.now c.args.maps.now in
    let k = c.in-Some.map in
    let at = c.in-Some-traced_offset.at in
    let n = c.shape-size.result.key_size in
    let part = c.part-part.result.now in
    let size = ap (λ (s : MapShape). s.key_size) c.shape-size.ensures in
    let o = look_up (table_of (keys_at call_state.maps k)) (slice_range part at (at + n)) in
    let there =
    key_there call_state c.args.map c.args.key (sym c.in-Some.ensures.value) size at
    c.in-Some-traced_offset.ensures.value c.part-part.ensures.bytes
    c.in-Some-traced_offset.ensures.within in
    let low = c.address.ensures.room in
    let bound = c.memory_is_its_parts.ensures.bound in
    c.address_of.ensures.address
    ∙ address_word call_state k c.address.result o c.address.ensures.value (omega arith) c.address_of.ensures.inside
    ∙ sym (ap (λ o. unwrap_or (option_map (key_word call_state) o) 0) there)

pub returns-in_default-traced_offset-clause-value : goal.returns-in_default-traced_offset-clause-value
returns-in_default-traced_offset-clause-value c =
    let call_state = call_of c.args.caller c.args.arena.now c.args.maps.now in
    let size = ap (λ (s : MapShape). s.key_size) c.shape-size.ensures in
    sym (ap (λ o. unwrap_or (option_map (key_word call_state) o) 0)
    (no_key call_state c.args.map c.args.key (sym c.in-Some.ensures.value) size
    (sym c.in_default-traced_offset.is ∙ c.traced_offset.ensures.value)))
