-- Laws of the definitions, for all ranges of words. This project's own.
use Rattle.std.specs.Prelude.{◌≡◌, ℕ, ◌^◌, ◌<◌, IsTrue, IsFalse, Option, Some, None}
use Rattle.interval.specs.declared.range.Range.{Range}
use Rattle.words.specs.declared.operator.Operator.{Operator}
use Rattle.words.specs.declared.operator.Condition.{Condition}
use Rattle.words.specs.Operate.{operate}
use Rattle.words.specs.Compare.{compares}
use Rattle.interval.specs.Ranges.{IsMember, hull}
use Rattle.interval.specs.Table.{range_of}
use Rattle.interval.specs.Refine.{RangePair, refined, IsPairOn}

-- the members of r are words, below 2 ^ 64
abbrev pub IsOfWords : Range → Type 0
IsOfWords r = r.hi < 2 ^ 64

-- the result of an operator on n bits for members x and y of two ranges of words is a member of the
-- range that the table (`range_of`) gives for these ranges
abbrev pub ResultsAreMembers : ℕ → Type 0
ResultsAreMembers n =
    (op : Operator) (a b : Range) (x y : ℕ)
    → IsOfWords a
    → IsOfWords b
    → IsMember x a
    → IsMember y b
    → IsMember (operate n op x y) (range_of n op a b)

-- the range that the table (`range_of`) gives for ranges of words is a range of words, on n bits
abbrev pub ResultsAreWords : ℕ → Type 0
ResultsAreWords n =
    (op : Operator) (a b : Range) → IsOfWords a → IsOfWords b → IsOfWords (range_of n op a b)

-- two members that take an edge of a comparison on n bits are members of the ranges on it: of the
-- first edge if the comparison holds, of the second if it fails
abbrev pub EdgesKeepMembers : ℕ → Type 0
EdgesKeepMembers n =
    (condition : Condition) (a b : Range) (x y : ℕ)
    → IsOfWords a
    → IsOfWords b
    → IsMember x a
    → IsMember y b →
    (IsTrue (compares n condition x y) → IsPairOn (refined n condition a b).0 x y)
    × (IsFalse (compares n condition x y) → IsPairOn (refined n condition a b).1 x y)

-- the ranges of both operands on an edge of a comparison are of words: all members are less than
-- 2 ^ 64 (`IsOfWords`), which is required of ranges in facts. An edge that can't be taken (None)
-- has no ranges, so this holds
abbrev pub IsPairOfWords : Option RangePair → Type 0
IsPairOfWords None = Unit {0}
IsPairOfWords (Some p) = IsOfWords p.0 × IsOfWords p.1

-- a comparison on n bits refines two ranges of words to ranges of words, on each of its edges
abbrev pub EdgesAreWords : ℕ → Type 0
EdgesAreWords n =
    (condition : Condition) (a b : Range)
    → IsOfWords a
    → IsOfWords b
    → IsPairOfWords (refined n condition a b).0 × IsPairOfWords (refined n condition a b).1

-- the hull of two ranges includes the members of both
abbrev pub HullHoldsBoth : Type 0
HullHoldsBoth =
    (a b : Range) (x : ℕ)
    → (IsMember x a → IsMember x (hull a b)) × (IsMember x b → IsMember x (hull a b))

-- a range c that includes the members of both ranges includes those of their hull
abbrev pub HullIsLeast : Type 0
HullIsLeast =
    (a b c : Range)
    → ((x : ℕ) → IsMember x a → IsMember x c)
    → ((x : ℕ) → IsMember x b → IsMember x c) →
    (x : ℕ) → IsMember x (hull a b) → IsMember x c

-- the hull is commutative
abbrev pub HullCommutes : Type 0
HullCommutes = (a b : Range) → hull a b ≡ hull b a

-- the hull is associative
abbrev pub HullAssociates : Type 0
HullAssociates = (a b c : Range) → hull (hull a b) c ≡ hull a (hull b c)
