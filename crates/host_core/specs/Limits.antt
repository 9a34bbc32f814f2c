-- The limits of a host. This project's own.
use Rattle.std.specs.Prelude.{ℕ}

-- the most tenants of a host
abbrev pub most_tenants : ℕ
most_tenants = 64

-- the greatest limit on the frames of one call of `serve`
abbrev pub most_frames : ℕ
most_frames = 16777216
