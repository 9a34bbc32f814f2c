-- Before each turn of the loop of `open_count` the count is the number of open descriptors among those so far, and at most the number of
-- these.
use Rattle.std.proofs.Common.{◌≡◌, ◌-◌, ◌≤◌, take}
use Rattle.bpf_maps.specs.Sum.{total}
use Rattle.fd_table.specs.Table.{first_descriptor}
use Rattle.tenant.proofs.tenant.Tenant.open_count.Given as goal

abbrev pub invariant-loop-fd : goal.invariant-loop-fd
invariant-loop-fd l = record {
  count : l.count ≡ total (λ o. 1) (take (l.fd - first_descriptor) l.self.objects);
  few : l.count ≤ l.fd - first_descriptor;
}
