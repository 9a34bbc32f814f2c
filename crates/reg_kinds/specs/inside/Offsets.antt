-- In each range of offsets that is defined, the low end is at most the high end. This project's
-- own.
use Rattle.std.specs.Prelude.{ℤ, ◌≤ℤ◌}
use Rattle.std.specs.Int.{int_min, int_max}
use Rattle.std.proofs.Common.{arith}
use Rattle.std.proofs.lemmas.Int.{ints, clamps}
use Rattle.reg_kinds.specs.declared.kind.ValuePointer.{ValuePointer}

-- lo is at most the greater of lo and hi, the high end that `value_span` gives
pub at_most_max : (lo hi : ℤ) → lo ≤ℤ int_max lo hi
at_most_max lo hi = omega (arith, ints, clamps)

-- the range of offsets that includes those of p and q has its ends in order
pub offsets_ordered : (p q : ValuePointer) → int_min p.lo q.lo ≤ℤ int_max p.hi q.hi
offsets_ordered p q = omega (arith, ints, clamps, p.ordered, q.ordered)
