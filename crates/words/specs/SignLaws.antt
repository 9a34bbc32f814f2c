-- Laws of words read as signed numbers, and of signed numbers as words, of the definitions of
-- `Words`, proved here for the proofs of the crates above. This project's own. No contract cites
-- them, so they are not part of what has to be trusted.
use Rattle.std.proofs.Common.{◌≡◌, ℕ, ◌<◌, ◌≤◌, ◌^◌, ℤ, pos, negsuc, ◌-ℤ◌, arith}
use Rattle.std.specs.Prelude.{nat_lt}
use Rattle.std.proofs.lemmas.Bool.{lt-ltb, le-ltb, cond-true, cond-false}
use Rattle.words.specs.Words.{signed, unsigned}

-- a word below 2 ^ 63, read as a signed number, is itself
pub signed_low : (n : ℕ) → n < 2 ^ 63 → signed 64 n ≡ pos n
signed_low n h = cond-true (nat_lt n (2 ^ 63)) (pos n) (pos n -ℤ pos (2 ^ 64)) (lt-ltb n (2 ^ 63) h)

-- a word from 2 ^ 63 on, read as a signed number, is 2 ^ 64 less
pub signed_high : (n : ℕ) → 2 ^ 63 ≤ n → signed 64 n ≡ pos n -ℤ pos (2 ^ 64)
signed_high n h =
    cond-false (nat_lt n (2 ^ 63)) (pos n) (pos n -ℤ pos (2 ^ 64)) (le-ltb n (2 ^ 63) h)

-- `unsigned 64 z`, which is z modulo 2 ^ 64, is less than 2 ^ 64 for each integer z, from 0 on
-- (`pos m`) or negative (`negsuc m`), also if 64 bits can't represent z. For `widened_is` of
-- `abstraction`: a number that a load has sign-extended is a word of 64 bits
pub unsigned_small : (z : ℤ) → unsigned 64 z < 2 ^ 64
unsigned_small (pos m) = omega arith
unsigned_small (negsuc m) = omega arith
