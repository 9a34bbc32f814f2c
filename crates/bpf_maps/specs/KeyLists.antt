-- Keys with their elements, as contracts see those of a hash map's index. This project's own.
use Rattle.std.specs.Prelude.{ℕ, List, map}

-- the entries es, with each key replaced by the bytes that it represents, which `bytes` gives
abbrev pub shown_by : {K : Type 0} → (K → List ℕ) → List (K × ℕ) → List (List ℕ × ℕ)
shown_by bytes es = map (λ e. (bytes e.0, e.1)) es

-- keys of `size` bytes each, in the order in which they were added, each with its element, which is
-- less than `bound`
pub record SizedKeys : Type 0 where
  pub size : ℕ
  pub bound : ℕ
  pub entries : List (List ℕ × ℕ)
