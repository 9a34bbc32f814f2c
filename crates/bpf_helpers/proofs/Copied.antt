-- The memory after a copy within it.
use Rattle.std.proofs.Common.{◌≡◌, ℕ, ◌+◌, ◌≤◌, Some, ap, ◌∙◌}
use Rattle.words.specs.Bytes.{bytes_at}
use Rattle.arena.specs.Memory.{Memory, base, size_of, offset_of, with_bytes, copied}
use Rattle.arena.specs.PartLaws.{offset_is}

-- a copy writes the n bytes from one offset of the memory at another
pub copied_is : (m : Memory) (n from to p q : ℕ)
    → from ≡ base + p → to ≡ base + q
    → p + n ≤ size_of m → q + n ≤ size_of m
    → copied m n (offset_of (size_of m) n from) (offset_of (size_of m) n to) ≡ with_bytes m q (bytes_at m.bytes p n)
copied_is m n from to p q e f h g =
    ap (λ o. copied m n o (offset_of (size_of m) n to)) (offset_is (size_of m) n p from e h)
    ∙ ap (λ o. copied m n (Some p) o) (offset_is (size_of m) n q to f g)
