-- In each range that is defined, the low end is at most the high end. This project's own.
use Rattle.std.proofs.Common.{ℕ, ◌≤◌, arith}
use Rattle.std.specs.Prelude.{min, max}
use Rattle.interval.specs.declared.range.Range.{Range}

-- the ends of the range `span lo hi`, which are lo and max lo hi, are in order
pub at_most_max : (lo hi : ℕ) → lo ≤ max lo hi
at_most_max lo hi = omega arith

-- a number is at most itself, so the ends of the range `constant v` are in order
pub at_most_itself : (v : ℕ) → v ≤ v
at_most_itself v = omega arith

-- the ends of `full` are in order
pub at_least_zero : (v : ℕ) → 0 ≤ v
at_least_zero v = omega arith

-- the ends of `hull` are in order
pub hull_ordered : (a b : Range) → min a.lo b.lo ≤ max a.hi b.hi
hull_ordered a b = omega (arith, a.ordered, b.ordered)
