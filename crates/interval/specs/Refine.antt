-- How a conditional jump refines the ranges of its operands on each of its two edges. None: the
-- edge can't be taken. The comparisons are those of RFC 9669, section 4.3; the refinement is this
-- project's own.
use Rattle.std.specs.Prelude.{ℕ, ◌+◌, ◌-◌, ◌^◌, ◌==◌, min, max, nat_lt, nat_le, ◌&&◌, if◌then◌else◌, Option, Some, None}
use Rattle.std.specs.Option.{option_map}
use Rattle.interval.specs.declared.range.Range.{Range}
use Rattle.words.specs.declared.operator.Condition.{Condition}
use Rattle.words.specs.declared.operator.Condition.TheVariants.{Equal, NotEqual, Above, AboveOrEqual, Below, BelowOrEqual}
use Rattle.words.specs.declared.operator.Condition.TheVariants.{SignedAbove, SignedAboveOrEqual, SignedBelow, SignedBelowOrEqual, CommonBit}
use Rattle.interval.specs.Ranges.{span, is_constant, IsMember}

-- the ranges of the first and the second operand
abbrev pub RangePair : Type 0
RangePair = Range × Range

-- the ranges of the two operands on an edge, exchanged. `edges` does this, since it refines
-- `a below b` as `b above a`, and `a above or equal b` as `b at most a`. None, an edge that can't
-- be taken, is not changed
abbrev pub swapped : Option RangePair → Option RangePair
swapped None = None
swapped (Some p) = Some (p.1, p.0)

-- r without v, if v is one of its ends; None if no member is left; else r itself, as a number
-- between the ends can't be taken out of a range
abbrev pub except : Range → ℕ → Option Range
except r v =
    if (r.lo == v) && (r.hi == v) then None else
    (if r.lo == v then Some (span (r.lo + 1) r.hi) else
    (if r.hi == v then Some (span r.lo (r.hi - 1)) else Some r))

-- ---- one refinement for each comparison

-- the edge on which the operands are equal: both are in the intersection of the ranges, and None if
-- it is empty
abbrev pub if_equal : Range → Range → Option RangePair
if_equal a b =
    let lo = max a.lo b.lo in
    let hi = min a.hi b.hi in
    if nat_le lo hi then Some (span lo hi, span lo hi) else None

-- the ranges on the edge on which the operands differ: if one range has only one member, and this
-- is an end of the other range, the other loses it; None if it is the only member of both
abbrev pub if_different : Range → Range → Option RangePair
if_different a b =
    if is_constant b then option_map (λ r. (r, b)) (except a b.lo) else
    (if is_constant a then option_map (λ r. (a, r)) (except b a.lo) else Some (a, b))

-- the edge on which the first operand is above the second: the first is above the least member of
-- b, the second below the greatest of a; None if no member of a is above one of b
abbrev pub if_above : Range → Range → Option RangePair
if_above a b =
    if nat_le a.hi b.lo
    then None
    else Some (span (max a.lo (b.lo + 1)) a.hi, span b.lo (min b.hi (a.hi - 1)))

-- the edge on which the first operand is at most the second: the first is at most the greatest
-- member of b, the second at least the least of a; None if all members of a are above those of b
abbrev pub if_at_most : Range → Range → Option RangePair
if_at_most a b =
    if nat_lt b.hi a.lo then None else Some (span a.lo (min a.hi b.hi), span (max a.lo b.lo) b.hi)

-- ---- both edges: if the comparison holds, and if it fails

-- the ranges on the edge on which the comparison holds, and on the one on which it fails
abbrev pub EdgePairs : Type 0
EdgePairs = Option RangePair × Option RangePair

-- on both edges the operands keep their ranges
abbrev pub unchanged : Range → Range → EdgePairs
unchanged a b = (Some (a, b), Some (a, b))

-- the ranges on both edges, first of the edge on which the comparison holds, for operands of no
-- more bits than it reads; signed comparisons and the test of a common bit refine nothing
abbrev pub edges : Condition → Range → Range → EdgePairs
edges Equal a b = (if_equal a b, if_different a b)
edges NotEqual a b = (if_different a b, if_equal a b)
edges Above a b = (if_above a b, if_at_most a b)
edges BelowOrEqual a b = (if_at_most a b, if_above a b)
edges Below a b = (swapped (if_above b a), swapped (if_at_most b a))
edges AboveOrEqual a b = (swapped (if_at_most b a), swapped (if_above b a))
edges SignedAbove a b = unchanged a b
edges SignedAboveOrEqual a b = unchanged a b
edges SignedBelow a b = unchanged a b
edges SignedBelowOrEqual a b = unchanged a b
edges CommonBit a b = unchanged a b

-- the ranges on both edges of a comparison on n bits, first of the edge on which it holds. It reads
-- only the low n bits, so ranges with greater members are not changed
abbrev pub refined : ℕ → Condition → Range → Range → EdgePairs
refined n condition a b =
    if nat_lt a.hi (2 ^ n) && nat_lt b.hi (2 ^ n) then edges condition a b else unchanged a b

-- two values are in the ranges that the operands of a comparison have on one of its edges: x, the
-- value of the first operand, is a member of the first range, y, the value of the second, of the
-- second range. False on an edge that can't be taken (None). The refinement is sound if this holds
-- of the edge that the comparison of x and y takes
abbrev pub IsPairOn : Option RangePair → ℕ → ℕ → Type 0
IsPairOn None x y = ⊥
IsPairOn (Some p) x y = IsMember x p.0 × IsMember y p.1
