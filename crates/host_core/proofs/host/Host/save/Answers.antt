-- `save` of `Host`: the tenant's record and its part of the arena, which exists by the host's invariant, represent its state, so what
-- `save_part` returns is from that state. A tenant that is not served has no state, and its save no parts.
use Rattle.std.proofs.Common.{◌≡◌, List, ℕ, length, Option, Some, IfOk, sym, ap, subst, ◌∙◌, arith}
use Rattle.std.specs.Prelude.{slice_get, option_map}
use Rattle.std.proofs.lemmas.Bool.{ltb-true, ltb-false}
use Rattle.saving.specs.Recorded.{RecordedTenant, tenant_state}
use Rattle.saving.specs.SaveParts.{parts, frames_of}
use Rattle.host_core.proofs.Heads.{no_state}
use Rattle.host_core.proofs.Tenants.{slice_get_in, states_length, states_are, saved_there, saved_nowhere}
use Rattle.host_core.proofs.host.Host.save.Goals as goal

pub part-requires : goal.part-requires
part-requires c =
    let found = c.in-Some.ensures.lookup in
    omega (
      arith,
      ltb-true c.args.tenant (length c.deref.result.now) (sym found.0),
      ap length c.deref.ensures.value,
      c.self.invariant,
    )

pub returns : goal.returns
returns c =
    let t = c.args.tenant in
    let ks = c.self.inside.tenants.items in
    let k = c.in-Some.kept.now in
    let at = c.in-Some.ensures.lookup in
    let found : slice_get ks t ≡ Some k =
    subst (λ (xs : List RecordedTenant). slice_get xs t ≡ Some k) c.deref.ensures.value
    (slice_get_in c.deref.result.now t k (ltb-true t (length c.deref.result.now) (sym at.0)) at.1) in
    let whole = c.part.ensures.length ∙ c.self.invariant.2 in
    let is =
    ap (λ (bytes : List ℕ). option_map (frames_of t) (slice_get (parts (tenant_state bytes k) k.births) c.args.part))
    c.part.ensures.bytes
    ∙ saved_there c.self.inside.arena ks c.args.self.now t c.args.part k c.self.view_is found in
    subst (λ (x : Option (List ℕ)). IfOk c.save_part.result (λ saved. option_map (λ frames. frames.items) saved ≡ x))
    is (c.save_part.ensures whole)

pub returns-in_default : goal.returns-in_default
returns-in_default c =
    let few = ltb-false c.args.tenant (length c.deref.result.now) (sym c.in_default.ensures.lookup.0) in
    let many = states_length c.self.inside.arena 0 c.self.inside.tenants.items in
    sym (saved_nowhere c.args.self.now c.args.tenant c.args.part
    (no_state c.args.self.now.states c.args.tenant
    (omega (
      arith,
      few,
      many,
      ap length (states_are c.self.inside.arena c.self.inside.tenants.items c.args.self.now c.self.view_is),
      ap length c.deref.ensures.value,
    ))))
