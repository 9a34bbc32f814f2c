-- Before each turn of the loop of `program_count` the count is the number of programs among the objects of the descriptors so far, and at
-- most the number of these.
use Rattle.std.proofs.Common.{◌≡◌, ◌-◌, ◌≤◌, take}
use Rattle.bpf_maps.specs.Sum.{total}
use Rattle.fd_table.specs.Table.{first_descriptor}
use Rattle.tenant.specs.Counts.{one_program}
use Rattle.tenant.proofs.tenant.Tenant.program_count.Given as goal

abbrev pub invariant-loop-fd : goal.invariant-loop-fd
invariant-loop-fd l = record {
  count : l.count ≡ total (one_program) (take (l.fd - first_descriptor) l.self.objects);
  few : l.count ≤ l.fd - first_descriptor;
}
