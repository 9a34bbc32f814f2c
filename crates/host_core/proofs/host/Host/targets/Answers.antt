-- `targets` of `Host`: by the contract of `kept` the record that it finds represents the tenant's state, whose descriptors the record's
-- `targets` lists; if it finds none, the tenant has no state, and the list is empty.
use Rattle.std.proofs.Common.{◌∙◌}
use Rattle.std.proofs.lemmas.Result.{IfOk-weaker}
use Rattle.host_core.specs.Targets.{targets_if_served}
use Rattle.host_core.proofs.Tenants.{of_kept, of_none}
use Rattle.host_core.proofs.host.Host.targets.Goals as goal

pub returns-in-Some : goal.returns-in-Some
returns-in-Some c =
    IfOk-weaker c.targets.result _ _
    (λ named is. is c.kept.ensures.0 ∙ of_kept targets_if_served c.kept.ensures.0 c.kept.ensures.1 c.in-Some.is)
    c.targets.ensures

pub returns-in-None : goal.returns-in-None
returns-in-None c = c.new.ensures.items ∙ of_none targets_if_served c.kept.ensures.0 c.kept.ensures.1 c.in-None.is
