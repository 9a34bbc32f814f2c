-- `next_key` of `Tenant`: the reply is the machine's, by cases: the contract of `key_after` and the law `calls_refine_values` give the next
-- key or none; a key that is not empty and has another size is invalid.
use Rattle.std.proofs.Common.{◌≡◌, length, Some, None, sym, ap, subst, ◌∙◌}
use Rattle.bpf_maps.specs.KeyRef.{key_bytes}
use Rattle.bpf_maps.specs.Live.{shape_at}
use Rattle.tagged_model.specs.declared.shape.MapShape.{MapShape}
use Rattle.tenant.specs.Kept.{KeptTenant, state_in}
use Rattle.tenant.specs.Machine.{gives_or_no_entry, given_next}
use Rattle.tenant.proofs.LookUps.{other_size}
use Rattle.tenant.proofs.Named.{map_in_state}
use Rattle.tenant.proofs.NextKeys.{next_is, refused_key}
use Rattle.tenant.proofs.tenant.Tenant.next_key.Goals as goal

pub returns-in-Some-clause-answer : goal.returns-in-Some-clause-answer
returns-in-Some-clause-answer c = λ part.
    let key = c.args.key.now in
    subst (λ (k : KeptTenant).
    gives_or_no_entry (state_in part k) (Some (key_bytes c.in-Some.following))
    ≡ given_next (state_in part k) c.args.fd key)
    c.self.view_is
    (next_is c.calls_refine_values.ensures.bytes part key
    (map_in_state c.self.view_is c.in_ok-map.ensures.found)
    (ap (λ (s : MapShape). s.key_size) c.shape-size.ensures)
    c.is_empty.ensures c.else-not-is_empty.either c.in-Some.ensures.given)

pub returns-in-None-clause-answer : goal.returns-in-None-clause-answer
returns-in-None-clause-answer c = λ part.
    let key = c.args.key.now in
    subst (λ (k : KeptTenant). gives_or_no_entry (state_in part k) None ≡ given_next (state_in part k) c.args.fd key)
    c.self.view_is
    (next_is c.calls_refine_values.ensures.bytes part key
    (map_in_state c.self.view_is c.in_ok-map.ensures.found)
    (ap (λ (s : MapShape). s.key_size) c.shape-size.ensures)
    c.is_empty.ensures c.else-not-is_empty.either c.in-None.ensures.given)

pub returns-then-key-size-clause-answer : goal.returns-then-key-size-clause-answer
returns-then-key-size-clause-answer c = λ part.
    let k = c.args.self.now in
    let key = c.args.key.now in
    let shape : c.shape-size.result ≡ shape_at k.live c.in_ok-map.map =
    c.shape-size.ensures ∙ ap (λ (x : KeptTenant). shape_at x.live c.in_ok-map.map) c.self.view_is in
    refused_key part key c.in_ok-map.ensures.found (sym c.is_empty.ensures ∙ c.if-not-is_empty.true)
    (other_size (length key) c.if-key-size.true (ap (λ (s : MapShape). s.key_size) shape))
