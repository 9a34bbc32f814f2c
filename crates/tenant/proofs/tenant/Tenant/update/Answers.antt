-- `update`: the reply and the state are the machine's, in three cases: the claim is rejected, it gives an element, or the size is wrong.
-- A claim follows the verdict on the update by the contract of `claim`, and leaves the tenant well formed; then the value is in the element
-- of its key by the contracts of `value_at` and `write_at`. Laws of the live maps and of values lead from elements to values.
use Rattle.std.proofs.Common.{◌≡◌, ℕ, ◌+◌, List, [], length, Ok, Err, sym, ap, ap₂, ◌∙◌}
use Rattle.bpf_maps.specs.InPart.{IsValueAt, with_value}
use Rattle.words.specs.Bytes.{written_at}
use Rattle.tagged_model.specs.declared.shape.MapShape.{MapShape}
use Rattle.tenant.specs.declared.errno.Errno.{Errno}
use Rattle.tenant.specs.Kept.{KeptTenant, state_in}
use Rattle.tenant.specs.Machine.{gives, refuses, element_updated}
use Rattle.bpf_maps.specs.Live.{shape_at}
use Rattle.tenant.proofs.LookUps.{on_map_is, other_size}
use Rattle.tenant.proofs.Named.{map_in_state}
use Rattle.tenant.proofs.StillKept.{kept_in, with_live}
use Rattle.tenant.proofs.Updates.{IsClaimed, claimed_by, still_claimed, value_fits, updated_at, update_refused, has_sizes, value_of, put_of}
use Rattle.tenant.proofs.tenant.Tenant.update.Goals as goal

-- ---- the claim is rejected

module _ (c : goal.After-of_map) where
  not_claimed : IsClaimed (kept_in c.self.inside) c.claim.new.self c.args.fd c.in_ok-map.map c.args.flags
      c.args.key_and_value.now (Err c.in-Err.fault)
  not_claimed =
      let e = c.in-Err.ensures in
      claimed_by (map_in_state c.self.view_is c.in_ok-map.ensures.found) c.shape-shape.ensures
      c.if-key_and_value-key_size.false c.split_at.ensures.front
      e.claimed e.rest e.refused

pub invariant_of-self : goal.invariant_of-self
invariant_of-self c = still_claimed c.self.invariant (not_claimed c)

pub returns-in-Err-clause-answer : goal.returns-in-Err-clause-answer
returns-in-Err-clause-answer c =
    let part = c.args.part.now in
    let is =
    update_refused c.live_maps_refine_values.ensures c.calls_refine_values.ensures.bytes part (not_claimed c) in
    ap (λ (errno : Errno). refuses errno (state_in part (with_live (kept_in c.self.inside) c.claim.new.self)))
    c.of_map.ensures.errno
    ∙ is
    ∙ ap (λ (old : KeptTenant). element_updated (state_in part old) c.args.fd c.args.flags c.args.key_and_value.now)
    c.self.view_is

-- ---- the claim gives an element

module _ (c : goal.After-slice_known-2-1) where
  claimed : IsClaimed (kept_in c.self.inside) c.claim.new.self c.args.fd c.in_ok-map.map c.args.flags
      c.args.key_and_value.now (Ok c.in-Ok.element)
  claimed =
      let e = c.in-Ok.ensures in
      claimed_by (map_in_state c.self.view_is c.in_ok-map.ensures.found) c.shape-shape.ensures
      c.if-key_and_value-key_size.false c.split_at.ensures.front
      e.claimed e.rest e.refused

pub invariant_of-self-2 : goal.invariant_of-self-2
invariant_of-self-2 c = still_claimed c.self.invariant (claimed c)

pub returns-clause-answer : goal.returns-clause-answer
returns-clause-answer c =
    let k = kept_in c.self.inside in
    let part = c.args.part.now in
    let t = c.claim.new.self in
    let m = c.in_ok-map.map in
    let p = c.in-Ok.element in
    let e = c.in-Ok.ensures in
    let bytes = c.args.key_and_value.now in
    let value = value_of (shape_at k.live m) bytes in
    let value_is : c.split_at.result.1.now ≡ value =
    c.split_at.ensures.back ∙ ap (λ (s : MapShape). value_of s bytes) c.shape-shape.ensures in
    let at : IsValueAt part t m p value = record {
      whole = c.requires;
      laid = c.maps_are_laid.ensures.laid;
      sound = c.maps_are_laid.ensures.sound;
      live = e.rest.live;
      within = e.within;
      size = value_fits (claimed c);
    } in
    let later : c.write_at.new.part ≡ with_value part t m p value =
    c.write_at.ensures ∙ ap₂ (written_at part) c.value_at-start.ensures.offset value_is in
    ap (λ (ps : List ℕ). gives [] (state_in ps (with_live k t))) later
    ∙ updated_at c.live_maps_refine_values.ensures c.values_are_written.ensures
    c.calls_refine_values.ensures.bytes part (claimed c)
    at
    ∙ ap (λ (old : KeptTenant). element_updated (state_in part old) c.args.fd c.args.flags bytes) c.self.view_is

-- ---- bytes of another size

pub returns-then-key_and_value-key_size-clause-answer : goal.returns-then-key_and_value-key_size-clause-answer
returns-then-key_and_value-key_size-clause-answer c =
    let k = c.args.self.now in
    let part = c.args.part.now in
    let bytes = c.args.key_and_value.now in
    let shape : c.shape-shape.result ≡ shape_at k.live c.in_ok-map.map =
    c.shape-shape.ensures ∙ ap (λ (x : KeptTenant). shape_at x.live c.in_ok-map.map) c.self.view_is in
    sym (on_map_is part (has_sizes bytes) (put_of (state_in part k) c.args.flags bytes)
    c.in_ok-map.ensures.found
    (other_size (length bytes) c.if-key_and_value-key_size.true
    (ap (λ (s : MapShape). s.key_size + s.value_size) shape)))
