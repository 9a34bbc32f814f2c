-- A map of either kind. The kinds are those of bpf(2), BPF_MAP_TYPE_ARRAY and BPF_MAP_TYPE_HASH.
use Rattle.bpf_maps.specs.declared.bpf_map.BpfMap.{BpfMap}
use Rattle.bpf_maps.specs.declared.bpf_map.BpfMap.TheVariants.{Array, Hash}
use Rattle.bpf_maps.specs.KeyTable.{KeyTable}

-- the table of keys of a map, an array or a hash map: its shape, its keys in order, each with its
-- element, and the elements that are kept apart. Contracts see a map of either kind as such a table
-- t, so both equations only take t out of its variant
abbrev pub keys_in : BpfMap → KeyTable
keys_in (Array t) = t
keys_in (Hash t) = t
