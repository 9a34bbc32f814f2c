-- `log_in`: `targets` returns the objects that the tenant's descriptors name, and `log_of_slots` the log of the slots with them.
use Rattle.std.proofs.Common.{List, IfOk, string_bytes, subst, ◌∙◌}
use Rattle.tagged_model.specs.declared.shape.Named.{Named}
use Rattle.log_core.specs.Slots.{IsLogOfSlots}
use Rattle.bpfhost_c.proofs.verifying.log_in.Goals as goal

pub returns : goal.returns
returns c =
    subst (λ (named : List Named).
    IfOk c.log_of_slots.result
    (λ log. IsLogOfSlots c.args.slots.now named c.args.style log.is_accepted (string_bytes log.text)))
    (c.deref.ensures.value ∙ c.in_ok-named.ensures) c.log_of_slots.ensures
