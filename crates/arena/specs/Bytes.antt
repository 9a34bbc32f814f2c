-- Bytes of a list, and the sizes of loads and stores (RFC 9669, section 5).
use Rattle.std.specs.Prelude.{◌≡◌, ℕ, ◌⊎◌}
pub use Rattle.words.specs.Bytes.{bytes_at, written_at}

-- how many bytes a load or a store moves (RFC 9669, section 5)
abbrev pub IsSize : ℕ → Type 0
IsSize n = (n ≡ 1) ⊎ ((n ≡ 2) ⊎ ((n ≡ 4) ⊎ (n ≡ 8)))
