-- The limits of a tenant's maps. This project's own.
use Rattle.std.specs.Prelude.{ℕ}

-- the most live maps of a tenant
abbrev pub most_maps : ℕ
most_maps = 16

-- the most bytes that the areas of a tenant's live maps may take together
abbrev pub most_bytes : ℕ
most_bytes = 262144
