-- What the words of a call name: a map of the run, and bytes in the tenant's part. The arguments of
-- helpers are the kernel's (linux/bpf.h, bpf_func_id), EINVAL is an error of bpf(2), and EFAULT one
-- of errno(3). Which words name what is this project's own, and so is the result if they name
-- nothing: no accepted program makes such a call.
use Rattle.std.specs.Prelude.{◌≡◌, ℕ, ◌+◌, ◌-◌, ◌==◌, ◌&&◌, nat_le, if◌then◌else◌, List, slice_get, slice_index, Option, Some, None, IsSome, option_map}
use Rattle.words.specs.Bytes.{bytes_at}
use Rattle.tagged_model.specs.declared.fault.MapFault.TheVariants.{Invalid}
use Rattle.tagged_model.specs.declared.helper.Helper.{Helper}
use Rattle.tagged_model.specs.declared.helper.Helper.TheVariants.{LookUp, Update, Delete, LoadBytes}
use Rattle.tagged_model.specs.Cells.{and_then}
use Rattle.tagged_model.specs.Helpers.{negative, errno, outside}
use Rattle.arena.specs.Memory.{Memory, base, part_start}
use Rattle.bpf_maps.specs.Live.{shape_at}
use Rattle.bpf_helpers.specs.States.{CallState}

-- the handle of the map that word w names: `bind` has the handles of the run's maps, and i + 1
-- names the map of index i; None for 0, or if `bind` has no such index
abbrev pub bound_map : List ℕ → ℕ → Option ℕ
bound_map bind w = if w == 0 then None else slice_get bind (w - 1)

-- ---- bytes at an address

-- the offset of n bytes at an address, in a part of this size that begins at `start`; None if they
-- don't lie in it
abbrev pub part_offset : ℕ → ℕ → ℕ → ℕ → Option ℕ
part_offset start part n address =
    if nat_le (base + start) address && nat_le (address + n) (base + start + part)
    then Some (address - (base + start)) else None

-- the offset of n bytes at an address, in part t; None if they don't lie in it
abbrev pub named_offset : Memory → ℕ → ℕ → ℕ → Option ℕ
named_offset memory t n address = part_offset (part_start memory t) memory.part n address

-- the n bytes at an address, if they lie in part t
abbrev pub part_input : Memory → ℕ → ℕ → ℕ → Option (List ℕ)
part_input memory t n address =
    and_then (named_offset memory t n address) (λ at.
    Some (bytes_at memory.bytes (part_start memory t + at) n))

-- the bytes at an address, as many as a key of the map of handle k has, if they lie in the part
abbrev pub key_input : CallState → ℕ → ℕ → Option (List ℕ)
key_input call_state k address =
    part_input call_state.memory call_state.tenant (shape_at call_state.maps k).key_size address

-- the bytes at an address, as many as a value of the map of handle k has, if they lie in the part
abbrev pub value_input : CallState → ℕ → ℕ → Option (List ℕ)
value_input call_state k address =
    part_input call_state.memory call_state.tenant (shape_at call_state.maps k).value_size address

-- ---- a map with a key, and with a value

-- the handle of a map, and the bytes of a key
pub record NamedKey : Type 0 where
  pub map : ℕ
  pub key : List ℕ

-- the handle of a map, and the bytes of a key and of a value
pub record NamedPair : Type 0 where
  pub map : ℕ
  pub key : List ℕ
  pub value : List ℕ

-- the handle k with the bytes of the key at an address, if these lie in the part
abbrev pub key_at : CallState → ℕ → ℕ → Option NamedKey
key_at call_state key k =
    option_map (λ bs. let n : NamedKey = record { map = k; key = bs } in n)
    (key_input call_state k key)

-- the handle and the key of `named`, with the bytes of the value at an address, if these lie in the
-- part
abbrev pub pair_at : CallState → ℕ → NamedKey → Option NamedPair
pair_at call_state value named =
    option_map
    (λ vs. let n : NamedPair = record { map = named.map; key = named.key; value = vs } in n)
    (value_input call_state named.map value)

-- the map and the key that the words `map` and `key` of a look-up or a deletion name; None if `map`
-- names no map, or the bytes of the key don't lie in the part
abbrev pub key_named : CallState → ℕ → ℕ → Option NamedKey
key_named call_state map key = and_then (bound_map call_state.bind map) (key_at call_state key)

-- the map, the key and the value that the words of an update name; None if `map` names no map, or
-- the bytes of the key or of the value don't lie in the part
abbrev pub pair_named : CallState → ℕ → ℕ → ℕ → Option NamedPair
pair_named call_state map key value =
    and_then (key_named call_state map key) (pair_at call_state value)

-- ---- words that name nothing

-- a word of the helper's arguments names no map, or bytes outside the part
abbrev pub NamesNothing : CallState → List ℕ → Helper → Type 0
NamesNothing call_state words LookUp =
    key_named call_state (slice_index words 0) (slice_index words 1) ≡ None
NamesNothing call_state words Update =
    pair_named call_state (slice_index words 0) (slice_index words 1) (slice_index words 2) ≡ None
NamesNothing call_state words Delete =
    key_named call_state (slice_index words 0) (slice_index words 1) ≡ None
NamesNothing call_state words LoadBytes =
    named_offset call_state.memory call_state.tenant (slice_index words 3) (slice_index words 2)
    ≡ None

-- the words of a helper's arguments name all that it needs: a map and a key, of an update also a
-- value, and of a load of packet bytes the bytes of the part to which it writes
abbrev pub NamesAll : CallState → List ℕ → Helper → Type 0
NamesAll call_state words LookUp =
    IsSome (key_named call_state (slice_index words 0) (slice_index words 1))
NamesAll call_state words Update =
    IsSome (pair_named call_state (slice_index words 0) (slice_index words 1) (slice_index words 2))
NamesAll call_state words Delete =
    IsSome (key_named call_state (slice_index words 0) (slice_index words 1))
NamesAll call_state words LoadBytes =
    IsSome
    (named_offset call_state.memory call_state.tenant (slice_index words 3) (slice_index words 2))

-- a helper that a run calls by `call_in_run`: a look-up, or an update or a load of bytes with words
-- that name all that the helper needs
abbrev pub IsInRun : CallState → List ℕ → Helper → Type 0
IsInRun call_state words LookUp = Unit {0}
IsInRun call_state words Update = NamesAll call_state words Update
IsInRun call_state words Delete = ⊥
IsInRun call_state words LoadBytes = NamesAll call_state words LoadBytes

-- the result of a call whose words name nothing: null for a look-up, EINVAL, negated, for an update
-- or a deletion, and EFAULT, negated, for a load of bytes
abbrev pub unnamed_result : Helper → ℕ
unnamed_result LookUp = 0
unnamed_result Update = negative (errno Invalid)
unnamed_result Delete = negative (errno Invalid)
unnamed_result LoadBytes = negative outside
