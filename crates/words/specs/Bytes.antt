-- Numbers and their bytes, in little-endian order (RFC 9669, section 5, on a little-endian
-- machine).
use Rattle.std.specs.Prelude.{ℕ, zero, suc, ◌+◌, ◌*◌, ◌/◌, ◌%◌, ◌<◌, List, [], ◌∷◌, ◌++◌, length, take, drop}
use Rattle.std.specs.List.{All}

-- each number of the list is below 256
abbrev pub AreBytes : List ℕ → Type 0
AreBytes bs = All (λ b. b < 256) bs

-- the number that these bytes represent in little-endian order: the first byte is the lowest, and
-- each next one counts 256 times as much. 0 for the empty list. A load reads this number
abbrev pub number_of : List ℕ → ℕ
number_of [] = 0
number_of (b ∷ bs) = b + 256 * number_of bs

-- the low n bytes of x, the lowest first. A store of x writes them
abbrev pub low_bytes : ℕ → ℕ → List ℕ
low_bytes zero x = []
low_bytes (suc n) x = x % 256 ∷ low_bytes n (x / 256)

-- the n bytes of a list from an offset on; fewer if the list ends before
abbrev pub bytes_at : List ℕ → ℕ → ℕ → List ℕ
bytes_at bytes offset n = take n (drop offset bytes)

-- the list in which the bytes `new` replace as many bytes, from an offset on
abbrev pub written_at : List ℕ → ℕ → List ℕ → List ℕ
written_at bytes offset new = take offset bytes ++ (new ++ drop (offset + length new) bytes)
