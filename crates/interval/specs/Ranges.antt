-- Ranges of numbers, their members and their join. This project's own.
use Rattle.std.specs.Prelude.{ℕ, ◌-◌, ◌^◌, ◌≤◌, ◌==◌, min, max, Bool}
use Rattle.interval.specs.declared.range.Range.{Range}
use Rattle.interval.specs.inside.Ordered.{at_most_max, at_most_itself, at_least_zero, hull_ordered}

-- x is a member of r
pub record IsMember (x : ℕ) (r : Range) : Type 0 where
  pub from : r.lo ≤ x
  pub to : x ≤ r.hi

-- the numbers from lo to hi, or only lo if hi is below it, so that each two numbers give a range
abbrev pub span : ℕ → ℕ → Range
span lo hi = record { lo = lo; hi = max lo hi; ordered = at_most_max lo hi }

-- the range of only v
abbrev pub constant : ℕ → Range
constant v = record { lo = v; hi = v; ordered = at_most_itself v }

-- whether there is exactly one member
abbrev pub is_constant : Range → Bool
is_constant r = r.lo == r.hi

-- all numbers of n bits
abbrev pub full : ℕ → Range
full n = record { lo = 0; hi = 2 ^ n - 1; ordered = at_least_zero (2 ^ n - 1) }

-- the join of two ranges: from the lesser low end to the greater high end
abbrev pub hull : Range → Range → Range
hull a b = record { lo = min a.lo b.lo; hi = max a.hi b.hi; ordered = hull_ordered a b }
