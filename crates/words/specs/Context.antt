-- The context of a program: words, of which the first is the packet's length, as in __sk_buff
-- (linux/bpf.h).
use Rattle.std.specs.Prelude.{ℕ}

-- how many 32-bit words of the context the caller of a test run gives: all but the first (this
-- project's own)
abbrev pub given_words : ℕ
given_words = 10
