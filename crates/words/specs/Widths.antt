-- The number of bits that an operator or a condition reads: wide ones read whole words, the others
-- low halves. The widths are those of the classes of RFC 9669, section 3.3.
use Rattle.std.specs.Prelude.{ℕ, Bool, true, false}

-- the width of an operation in bits: 64 if it is wide (`true`), else 32
abbrev pub width : Bool → ℕ
width true = 64
width false = 32
