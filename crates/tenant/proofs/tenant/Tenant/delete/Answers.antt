-- `delete` of `Tenant`: reply and state are the machine's, and the tenant is still well formed, by cases of the contract of `remove`; after
-- a removal `end_run` frees the element. By the laws `calls_refine_values` and `live_maps_refine_values` the map of values changes as that
-- of elements does. The machine rejects a key of another size too.
use Rattle.std.proofs.Common.{◌≡◌, length, Ok, Err, sym, ap, ◌∙◌}
use Rattle.bpf_maps.specs.Live.{shape_at}
use Rattle.tagged_model.specs.declared.shape.MapShape.{MapShape}
use Rattle.tagged_model.specs.Table.{removal}
use Rattle.tenant.specs.declared.errno.Errno.{Errno}
use Rattle.tenant.specs.Kept.{KeptTenant, state_in}
use Rattle.tenant.specs.Machine.{refuses, element_taken_out, element_deleted}
use Rattle.tenant.proofs.LookUps.{on_map_is, has_size, other_size}
use Rattle.tenant.proofs.Named.{map_in_state}
use Rattle.tenant.proofs.StillKept.{kept_in, with_live}
use Rattle.tenant.proofs.Deletes.{IsRemoved, IsEnded, unremoved_kept, removed_kept, delete_refused, deleted}
use Rattle.tenant.proofs.tenant.Tenant.delete.Goals as goal

-- ---- the map rejects the deletion

module _ (c : goal.After-of_map) where
  not_removed :
      IsRemoved (kept_in c.self.inside) c.remove.new.self c.args.fd c.in_ok-map.map c.args.key.now (Err c.in-Err.fault)
  not_removed = let e = c.in-Err.ensures in record {
    found = map_in_state c.self.view_is c.in_ok-map.ensures.found;
    size = c.if-key-shape.false ∙ ap (λ (s : MapShape). s.key_size) c.shape.ensures;
    removed = e.removed;
    rest = e.rest;
    refused = e.refused;
  }

pub invariant_of-self : goal.invariant_of-self
invariant_of-self c = unremoved_kept c.self.invariant (not_removed c)

pub returns-in-Err-clause-answer : goal.returns-in-Err-clause-answer
returns-in-Err-clause-answer c = λ part.
    ap (λ (errno : Errno). refuses errno (state_in part (with_live (kept_in c.self.inside) c.remove.new.self)))
    c.of_map.ensures.errno
    ∙ delete_refused c.live_maps_refine_values.ensures c.calls_refine_values.ensures.bytes part (not_removed c)
    ∙ ap (λ (old : KeptTenant). element_deleted (state_in part old) c.args.fd c.args.key.now) c.self.view_is

-- ---- the key is removed

module _ (c : goal.After-end_run) where
  removed : IsRemoved (kept_in c.self.inside) c.remove.new.self c.args.fd c.in_ok-map.map c.args.key.now (Ok tt)
  removed = let e = c.in_default.ensures in record {
    found = map_in_state c.self.view_is c.in_ok-map.ensures.found;
    size = c.if-key-shape.false ∙ ap (λ (s : MapShape). s.key_size) c.shape.ensures;
    removed = e.removed;
    rest = e.rest;
    refused = e.refused;
  }

  ended : IsEnded c.in_ok-map.map c.remove.new.self c.end_run.new.self
  ended = let e = c.end_run.ensures in record { ended = e.ended; rest = e.rest; refused = e.refused }

pub invariant_of-self-2 : goal.invariant_of-self-2
invariant_of-self-2 c = removed_kept c.self.invariant (removed c) (ended c)

pub returns-clause-answer : goal.returns-clause-answer
returns-clause-answer c = λ part.
    deleted c.live_maps_refine_values.ensures c.calls_refine_values.ensures.bytes part (removed c) (ended c)
    ∙ ap (λ (old : KeptTenant). element_deleted (state_in part old) c.args.fd c.args.key.now) c.self.view_is

-- ---- a key of another size

pub returns-then-key-shape-clause-answer : goal.returns-then-key-shape-clause-answer
returns-then-key-shape-clause-answer c = λ part.
    let k = c.args.self.now in
    let key = c.args.key.now in
    let shape : c.shape.result ≡ shape_at k.live c.in_ok-map.map =
    c.shape.ensures ∙ ap (λ (x : KeptTenant). shape_at x.live c.in_ok-map.map) c.self.view_is in
    sym (on_map_is part (has_size key)
    (λ p t. element_taken_out (state_in part k) p t key (removal t key))
    c.in_ok-map.ensures.found
    (other_size (length key) c.if-key-shape.true (ap (λ (s : MapShape). s.key_size) shape)))
