-- `targets`: the list has the open descriptors before this one, each with what the verifier is given of its object, for any part.
use Rattle.std.proofs.Common.{◌≡◌, ◌-◌, ℕ, List, take}
use Rattle.fd_table.specs.Table.{first_descriptor}
use Rattle.tenant.specs.Kept.{state_in}
use Rattle.tenant.specs.Machine.{targets_from}
use Rattle.tenant.proofs.tenant.Tenant.targets.Given as goal

abbrev pub invariant-loop-fd : goal.invariant-loop-fd
invariant-loop-fd l =
    (part : List ℕ)
    → l.found.items
    ≡ targets_from (state_in part l.self) first_descriptor (take (l.fd - first_descriptor) l.self.objects)
