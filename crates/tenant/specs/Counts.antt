-- How much a tenant has. This project's own.
use Rattle.std.specs.Prelude.{ℕ, length, false, Option, Some, None}
use Rattle.bpf_maps.specs.Sum.{total}
use Rattle.tenant.specs.declared.counts.Counts.{Counts}
use Rattle.tenant.specs.declared.object.OpenObject.{OpenObject}
use Rattle.tenant.specs.declared.object.OpenObject.TheVariants as object
use Rattle.tenant.specs.State.{TenantState, maps_area}

-- 1 for an open object that is a program, 0 for one that is a map. The sum over what a tenant's
-- descriptors name is the number of those that name a program (`programs` in `counts_of`)
abbrev pub one_program : OpenObject → ℕ
one_program (object.Map handle) = 0
one_program (object.Program l) = 1

-- how many maps are live, how many keys they have together, and how many bytes their areas have;
-- how many descriptors name a program, and how many are open; whether memory was ever refused
abbrev pub counts_of : TenantState → Counts
counts_of s = record {
  maps = total (λ t. 1) s.maps;
  entries = total (λ t. length t.entries) s.maps;
  value_bytes = maps_area s.maps;
  programs = total one_program s.objects;
  descriptors = total (λ o. 1) s.objects;
  memory_refused = s.refused;
}

-- the counts of a tenant; of one that is not served (None) all are 0, and `memory_refused` is false
abbrev pub counts_if_served : Option TenantState → Counts
counts_if_served (Some s) = counts_of s
counts_if_served None = record {
  maps = 0;
  entries = 0;
  value_bytes = 0;
  programs = 0;
  descriptors = 0;
  memory_refused = false;
}
