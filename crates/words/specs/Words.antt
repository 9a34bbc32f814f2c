-- What the operators mean, on whole numbers below 2 ^ n (RFC 9669, sections 4.1 and 4.2). One
-- equation for each.
use Rattle.std.specs.Prelude.{ℕ, suc, ◌+◌, ◌-◌, ◌*◌, ◌/◌, ◌%◌, ◌^◌, ◌==◌, nat_lt, if◌then◌else◌, ℤ, pos, negsuc, ◌+ℤ◌, ◌-ℤ◌, ◌*ℤ◌, int_div}
use Rattle.std.specs.Int.{Width, int_shr, swap_bytes}

-- ---- signed numbers

-- the signed number that a, below 2 ^ n, is in two's complement
abbrev pub signed : ℕ → ℕ → ℤ
signed n a = if nat_lt a (2 ^ (n - 1)) then pos a else pos a -ℤ pos (2 ^ n)

-- the number below 2 ^ n that differs from z by a multiple of 2 ^ n; `negsuc m` is -m - 1
abbrev pub unsigned : ℕ → ℤ → ℕ
unsigned n (pos m) = m % 2 ^ n
unsigned n (negsuc m) = 2 ^ n - suc (m % 2 ^ n)

-- ---- sums and products, modulo 2 ^ n

-- a + b, modulo 2 ^ n
abbrev pub add : ℕ → ℕ → ℕ → ℕ
add n a b = (a + b) % 2 ^ n

-- a - b, modulo 2 ^ n, for b below 2 ^ n. First 2 ^ n is added, since a difference of whole numbers
-- is never below 0
abbrev pub subtract : ℕ → ℕ → ℕ → ℕ
subtract n a b = (a + (2 ^ n - b)) % 2 ^ n

-- a plus an offset, modulo 2 ^ 64
abbrev pub plus_offset : ℕ → ℤ → ℕ
plus_offset a off = unsigned 64 (pos a +ℤ off)

-- a times b, modulo 2 ^ n
abbrev pub multiply : ℕ → ℕ → ℕ → ℕ
multiply n a b = (a * b) % 2 ^ n

-- a negated, modulo 2 ^ n: 2 ^ n less a, but 0 for 0
abbrev pub negate : ℕ → ℕ → ℕ
negate n a = (2 ^ n - a) % 2 ^ n

-- ---- quotients, and the remainders that go with them

-- the unsigned quotient of a by b, 0 if b is 0. It is at most a, so it is not reduced modulo 2 ^ n
abbrev pub divide : ℕ → ℕ → ℕ
divide a b = if b == 0 then 0 else a / b

-- the unsigned remainder of a by b, a if b is 0. It is at most a, so it needs no n
abbrev pub remainder : ℕ → ℕ → ℕ
remainder a b = if b == 0 then a else a % b

-- the signed quotient of a by b, rounded toward zero (`int_div`), 0 if b is 0. The least number
-- divided by -1 is 2 ^ (n - 1), which `unsigned` makes the least number again
abbrev pub signed_divide : ℕ → ℕ → ℕ → ℕ
signed_divide n a b = if b == 0 then 0 else unsigned n (int_div (signed n a) (signed n b))

-- what the signed quotient of a by b leaves: a less b times this quotient; a if b is 0
abbrev pub signed_remainder : ℕ → ℕ → ℕ → ℕ
signed_remainder n a b =
    if b == 0 then a else unsigned n (signed n a -ℤ signed n b *ℤ int_div (signed n a) (signed n b))

-- ---- shifts, by the second operand modulo n

-- a times 2 ^ (b % n), modulo 2 ^ n
abbrev pub shift_left : ℕ → ℕ → ℕ → ℕ
shift_left n a b = (a * 2 ^ (b % n)) % 2 ^ n

-- a, unsigned, divided by 2 ^ (b % n), rounded down
abbrev pub shift_right : ℕ → ℕ → ℕ → ℕ
shift_right n a b = a / 2 ^ (b % n)

-- a, read as a signed number of n bits, divided by 2 ^ (b % n), rounded down (`int_shr`), and
-- written as a word of n bits
abbrev pub signed_shift_right : ℕ → ℕ → ℕ → ℕ
signed_shift_right n a b = unsigned n (int_shr (signed n a) (b % n))

-- ---- the low bits of a word

-- the low k bits of a, read as a signed number of k bits and written as a word of n bits
abbrev pub sign_extend : ℕ → ℕ → ℕ → ℕ
sign_extend n k a = unsigned n (signed k (a % 2 ^ k))

-- the low k bits of a
abbrev pub low : ℕ → ℕ → ℕ
low k a = a % 2 ^ k

-- the low k bits of a with their bytes in reverse order, as if written little-endian and read
-- big-endian; w is the width of k bits, which `swap_bytes` requires
abbrev pub reversed : Width → ℕ → ℕ → ℕ
reversed w k a = swap_bytes w (a % 2 ^ k)
