-- The shapes that a map may have. The limits are this project's own; kinds and fields are those of
-- bpf(2), BPF_MAP_CREATE.
use Rattle.std.specs.Prelude.{ℕ, ◌+◌, ◌*◌, ◌/◌, ◌==◌, Bool, ◌&&◌, nat_le, if◌then◌else◌, Option, Some, None}
use Rattle.tagged_model.specs.declared.shape.MapKind.{MapKind}
use Rattle.tagged_model.specs.declared.shape.MapKind.TheVariants.{Hash, Array}
use Rattle.tagged_model.specs.declared.shape.ShapeFault.{ShapeFault}
use Rattle.tagged_model.specs.declared.shape.ShapeFault.TheVariants.{Invalid, TooBig}

-- the length of the longest key of a hash map, in bytes
abbrev pub longest_key : ℕ
longest_key = 512

-- the length of the longest value, in bytes
abbrev pub longest_value : ℕ
longest_value = 4096

-- the most entries that a map may have
abbrev pub most_entries : ℕ
most_entries = 4096

-- the size of the largest area, in bytes
abbrev pub largest_area : ℕ
largest_area = 65536

-- whether n is from low to high, both included
abbrev pub is_from_to : ℕ → ℕ → ℕ → Bool
is_from_to low high n = nat_le low n && nat_le n high

-- whether a map of this kind may have keys of so many bytes; those of an array have four
abbrev pub has_key : MapKind → ℕ → Bool
has_key Array key = key == 4
has_key Hash key = is_from_to 1 longest_key key

-- the number of bytes of `max` values of `value` bytes, each rounded up to a multiple of eight
abbrev pub area : ℕ → ℕ → ℕ
area value max = max * ((value + 7) / 8 * 8)

-- whether each field is within its limits and no flag is set; `key` and `value` are sizes in bytes
abbrev pub is_valid : MapKind → ℕ → ℕ → ℕ → ℕ → Bool
is_valid kind key value max flags =
    has_key kind key && is_from_to 1 longest_value value && is_from_to 1 most_entries max
    && (flags == 0)

-- whether `max` values of `value` bytes fit into the largest area
abbrev pub fits : ℕ → ℕ → Bool
fits value max = nat_le (area value max) largest_area

-- whether a map may have this kind, these sizes of keys and values in bytes, and so many entries
abbrev pub is_shape : MapKind → ℕ → ℕ → ℕ → Bool
is_shape kind key value max = is_valid kind key value max 0 && fits value max

-- why no map may have these fields and flags: Invalid, or else TooBig; None if a map may have them
abbrev pub shape_fault : MapKind → ℕ → ℕ → ℕ → ℕ → Option ShapeFault
shape_fault kind key value max flags =
    if is_valid kind key value max flags
    then (if fits value max then None else Some TooBig)
    else Some Invalid
