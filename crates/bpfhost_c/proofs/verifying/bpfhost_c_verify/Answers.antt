-- `bpfhost_c_verify`: what is written is the log that `log_in` returns. It is that of the slots with the tenant's objects, since the
-- session is the handle's, and the conversion keeps the tenant's number.
use Rattle.std.proofs.Common.{rules, ◌≡◌, ℕ, List, slice_get, string_bytes, subst}
use Rattle.host_core.specs.State.{TenantState}
use Rattle.host_core.specs.Targets.{targets_if_served}
use Rattle.log_core.specs.Slots.{IsLogOfSlots}
use Rattle.bpfhost_c.specs.Calls.{states}
use Rattle.bpfhost_c.proofs.Rooms.{of_ok}
use Rattle.bpfhost_c.proofs.verifying.bpfhost_c_verify.Goals as goal

pub returns-in-Ok-clause-done : goal.returns-in-Ok-clause-done
returns-in-Ok-clause-done c = λ done.
    let slots = c.args.slots.now in
    let style = c.in-Some-style_of.style in
    let logged = c.in-Ok.field-0 in
    let same : c.deref.result.now.host.states ≡ states c.args.handle.now.session = search rules in
    let number : c.from.result ≡ c.args.tenant = search rules in
    let log =
    subst (λ (all : List TenantState).
    IsLogOfSlots slots (targets_if_served (slice_get all c.args.tenant)) style logged.is_accepted
    (string_bytes logged.text))
    same
    (subst
    (λ (n : ℕ).
    IsLogOfSlots slots
    (targets_if_served (slice_get c.deref.result.now.host.states n))
    style logged.is_accepted (string_bytes logged.text))
    number
    (of_ok _ _ _ c.in-Ok.is c.log_in-log.ensures)) in
    (string_bytes logged.text, (style, search rules, log), search rules, search rules)
