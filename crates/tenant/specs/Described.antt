-- What a descriptor of a tenant names. The numbers of the map types are those of bpf(2),
-- BPF_MAP_TYPE_HASH and BPF_MAP_TYPE_ARRAY; the others are this project's own.
use Rattle.std.specs.Prelude.{ℕ, List, length, Option, Some, None}
use Rattle.std.specs.Option.{option_map_or}
use Rattle.fd_table.specs.Table.{named}
use Rattle.insn_set.specs.declared.insn.Insn.{Insn}
use Rattle.insn_set.specs.Program.{slot_count}
use Rattle.tagged_model.specs.declared.shape.MapKind.{MapKind}
use Rattle.tagged_model.specs.declared.shape.MapKind.TheVariants.{Hash, Array}
use Rattle.tenant.specs.declared.described.Described.{Described}
use Rattle.tenant.specs.declared.object.OpenObject.{OpenObject}
use Rattle.tenant.specs.declared.object.OpenObject.TheVariants as object
use Rattle.tenant.specs.State.{Map, TenantState, live}

-- the number that bpf(2) has for a kind of maps, hash or array: the type of a map
abbrev pub type_number : MapKind → ℕ
type_number Hash = 1
type_number Array = 2

-- the description of a descriptor at which nothing is open
abbrev pub nothing_there : Described
nothing_there = record {
  kind = 0;
  map_type = 0;
  key_size = 0;
  value_size = 0;
  max_entries = 0;
  entries = 0;
  slots = 0;
}

-- the description of a map: its shape, and how many keys it has
abbrev pub described_map : Map → Described
described_map t = record {
  kind = 1;
  map_type = type_number t.shape.kind;
  key_size = t.shape.key_size;
  value_size = t.shape.value_size;
  max_entries = t.shape.max_entries;
  entries = length t.entries;
  slots = 0;
}

-- the description of a program: how many slots its instructions take
abbrev pub described_program : List Insn → Described
described_program insns = record {
  kind = 2;
  map_type = 0;
  key_size = 0;
  value_size = 0;
  max_entries = 0;
  entries = 0;
  slots = slot_count insns;
}

-- the description of what a descriptor names: nothing, a map by its handle, or a program; no tenant
-- has a descriptor of a handle without a map
abbrev pub described_object : TenantState → Option OpenObject → Described
described_object s None = nothing_there
described_object s (Some (object.Map handle)) =
    option_map_or described_map (live s handle) nothing_there
described_object s (Some (object.Program l)) = described_program l.insns

-- the description of what a descriptor names in this state
abbrev pub described : TenantState → ℕ → Described
described s fd = described_object s (named s.objects fd)

-- the description of what descriptor fd of a tenant in this state names, which `Host::describe`
-- returns; that of nothing for a tenant that is not served (None), which has nothing open
abbrev pub described_if_served : Option TenantState → ℕ → Described
described_if_served (Some s) fd = described s fd
described_if_served None fd = nothing_there
