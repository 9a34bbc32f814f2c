-- Hash maps that are no longer live. This project's own.
use Rattle.std.specs.Prelude.{◌≡◌, ℕ, ◌≤◌, Option, Some, None}
use Rattle.tagged_model.specs.declared.shape.MapShape.{MapShape}
use Rattle.bpf_maps.specs.KeyTable.{KeyTable}

-- a map is given (not None), and it has this shape's `key_size` and `max_entries`
abbrev pub IsLike : MapShape → Option KeyTable → Type 0
IsLike shape None = ⊥
IsLike shape (Some t) =
    (t.shape.key_size ≡ shape.key_size) × (t.shape.max_entries ≡ shape.max_entries)

-- a map is given (not None), and its `max_entries` is n or more
abbrev pub HasEntries : ℕ → Option KeyTable → Type 0
HasEntries n None = ⊥
HasEntries n (Some t) = n ≤ t.shape.max_entries
