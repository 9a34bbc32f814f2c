-- Numbers of two and four bytes, the lowest first.
use Rattle.std.proofs.Common.{◌≡◌, ℕ, ◌<◌, ◌^◌, List, ◌++◌, length, get_or, arith, inr}
use Rattle.std.specs.Int.{w32, from_le_bytes}
use Rattle.std.proofs.lemmas.Nat.{le_bytes_4}
use Rattle.byteorder.specs.Endian.{little_number, little_bytes}
use Rattle.command_frames.specs.Frame.{IsPartial}

-- the encoding of a number that was read gives the same bytes
pub bytes_of_number : (bytes : List ℕ)
    → length bytes ≡ 4 → ((i : ℕ) → get_or bytes i 0 < 256)
    → little_bytes 4 (little_number 4 bytes) ≡ bytes
bytes_of_number bytes four fits =
    let same : little_number 4 bytes ≡ from_le_bytes w32 bytes = omega arith in
    le_bytes_4 bytes (little_number 4 bytes) four fits same

-- the number that is read from an encoding is the same
pub number_of_bytes : (n : ℕ) (rest : List ℕ) → n < 2 ^ 32 → little_number 4 (little_bytes 4 n ++ rest) ≡ n
number_of_bytes n rest small = omega arith

-- a length, followed by fewer bytes, is not a whole frame
pub partial_after : (n : ℕ) (rest : List ℕ) → n < 2 ^ 32 → length rest < n → IsPartial (little_bytes 4 n ++ rest)
partial_after n rest small few = inr (omega (arith, number_of_bytes n rest small))
