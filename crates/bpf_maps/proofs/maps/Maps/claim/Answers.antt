-- `claim` of `Maps`: the handle's map is in the slab under the key of the handle (`is_under`), and the claim in it changes only its table
-- of keys, of which shape and soundness are kept (`change`); so the invariant holds, and the clauses are those of that claim.
use Rattle.std.proofs.Common.{◌<◌, IfOk, subst, ◌∙◌}
use Rattle.bpf_maps.specs.KeyTable.{KeyTable}
use Rattle.bpf_maps.proofs.ByHandle.{has_key}
use Rattle.bpf_maps.proofs.Changes.{seen_of, is_under, live_under}
use Rattle.bpf_maps.proofs.KeyChanges.{IsKeyChange, keys_before, keys_after, keys_whole, only_keys}
use Rattle.bpf_maps.proofs.Along.{claims_shape, claims_along}
use Rattle.bpf_maps.proofs.maps.Maps.claim.Goals as goal
use Rattle.bpf_maps.proofs.maps.Maps.claim.Goals.{After-claim}

pub key-at-requires : goal.key-at-requires
key-at-requires c = has_key c.self.inside c.self.view_is c.map.view_is c.requires.live

pub claim-requires : goal.claim-requires
claim-requires c =
    let here =
    live_under (is_under c.self.view_is c.self.invariant c.map.view_is c.key-at.ensures
    c.index_mut-stored.ensures.value) in
    record { size = c.requires.size ∙ seen_of (λ l. l.keys.shape.key_size) here }

-- the table of the map changes
change : (c : After-claim)
    → IsKeyChange c.self.inside c.args.self.now c.map.inside.handle c.args.map c.key-at.result
    c.index_mut-stored.result.now c.claim.new.self
change c = record {
  under = is_under c.self.view_is c.self.invariant c.map.view_is c.key-at.ensures c.index_mut-stored.ensures.value;
  shape = claims_shape _ c.args.key.now _ _ c.claim.result c.claim.ensures.claimed;
  sound = c.claim.ensures.sound;
}

pub invariant_of-self : goal.invariant_of-self
invariant_of-self c = keys_whole (change (goal.at.invariant_of-self c).After-claim)

pub returns-clause-claimed : goal.returns-clause-claimed
returns-clause-claimed c =
    let d = change (goal.at.returns-clause-claimed c).After-claim in
    claims_along c.args.key.now c.args.flags c.claim.result (keys_before d) (keys_after d) c.claim.ensures.claimed

pub returns-clause-within : goal.returns-clause-within
returns-clause-within c =
    subst (λ (t : KeyTable). IfOk c.claim.result (λ p. p < t.shape.max_entries))
    (keys_after (change (goal.at.returns-clause-within c).After-claim))
    c.claim.ensures.within

pub returns-clause-rest : goal.returns-clause-rest
returns-clause-rest c = only_keys (change (goal.at.returns-clause-rest c).After-claim)
