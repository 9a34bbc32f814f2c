-- Worked cases: rows of the table of ranges, and of the edges of comparisons.
use Rattle.std.proofs.Common.{◌≡◌, ℕ, Option, Some, None, List, [], ◌∷◌, map, refl}
use Rattle.std.specs.Option.{option_map}
use Rattle.words.specs.declared.operator.KeptBits.TheVariants.{Bits64}
use Rattle.words.specs.declared.operator.ExtendedBits.TheVariants.{Bits8}
use Rattle.words.specs.declared.operator.ByteOrder.TheVariants.{Big}
use Rattle.words.specs.declared.operator.AluOp.TheVariants.{Add, Sub, Mul, Div, SignedDiv, Or, And, ShiftLeft}
use Rattle.words.specs.declared.operator.AluOp.TheVariants.{ShiftRight, Mod, SignedMod, Xor, Mov, SignedShiftRight}
use Rattle.words.specs.declared.operator.Operator.{Operator}
use Rattle.words.specs.declared.operator.Operator.TheVariants.{Binary, Neg, SignExtend, End}
use Rattle.words.specs.declared.operator.Condition.{Condition}
use Rattle.words.specs.declared.operator.Condition.TheVariants.{Equal, NotEqual, Above, AboveOrEqual, Below, BelowOrEqual, SignedAbove, CommonBit}
use Rattle.interval.specs.declared.range.Range.{Range}
use Rattle.interval.specs.Ranges.{span, constant, full, hull}
use Rattle.interval.specs.Table.{range_of}
use Rattle.interval.specs.Refine.{RangePair, refined}

-- ---- the table of ranges: on how many bits, an operator, two operands, and the range of its results

abbrev Row : Type 0
Row = ℕ × Operator × Range × Range × Range

abbrev AreRows : List Row → Type 0
AreRows rows = map (λ (row : Row). range_of row.0 row.1 row.2 row.3) rows ≡ map (λ (row : Row). row.4) rows

sums_and_differences : AreRows (
    (64, Binary Add, span 0 7, span 250 255, span 250 262)
    ∷ (32, Binary Add, constant 0xffff_ffff, span 1 2, span 0 1)
    ∷ (32, Binary Add, span 0 0x1_0000_0000, constant 1, full 32)
    ∷ (64, Binary Sub, span 5 9, span 1 3, span 2 8)
    ∷ (64, Binary Sub, span 0 3, constant 1, full 64)
    ∷ (64, Binary Sub, span 0 1, span 2 3, span 0xffff_ffff_ffff_fffd 0xffff_ffff_ffff_ffff)
    ∷ [])
sums_and_differences = refl

-- a quotient by 0 is 0, and a remainder by 0 the dividend
products_quotients_and_remainders : AreRows (
    (64, Binary Mul, span 2 3, span 4 5, span 8 15)
    ∷ (32, Binary Mul, span 2 0x1_0000, span 4 0x1_0000, full 32)
    ∷ (64, Binary Div, span 10 20, span 2 5, span 2 10)
    ∷ (64, Binary Div, span 10 20, span 0 3, span 0 20)
    ∷ (64, Binary SignedDiv, span 10 20, constant 2, full 64)
    ∷ (64, Binary Mod, span 10 20, span 1 8, span 0 7)
    ∷ (64, Binary Mod, span 3 5, span 8 9, span 0 5)
    ∷ (64, Binary Mod, span 10 20, span 0 8, span 0 20)
    ∷ (32, Binary SignedMod, span 10 20, constant 2, full 32)
    ∷ [])
products_quotients_and_remainders = refl

bitwise : AreRows (
    (64, Binary And, span 3 12, span 5 9, span 0 9)
    ∷ (64, Binary Or, span 4 5, span 1 8, span 4 15)
    ∷ (64, Binary Xor, span 4 5, span 1 8, span 0 15)
    ∷ [])
unfolding lib.Count.count_leading_zeros
bitwise = refl

-- the distance is taken modulo the width; the range of a distance that is not constant is not used
shifts : AreRows (
    (64, Binary ShiftLeft, span 1 3, constant 4, span 16 48)
    ∷ (64, Binary ShiftLeft, span 1 3, constant 68, span 16 48)
    ∷ (32, Binary ShiftLeft, span 1 3, constant 31, full 32)
    ∷ (64, Binary ShiftLeft, constant 1, span 1 2, full 64)
    ∷ (64, Binary ShiftRight, span 16 48, constant 4, span 1 3)
    ∷ (64, Binary ShiftRight, span 16 48, span 1 2, span 0 48)
    ∷ (32, Binary SignedShiftRight, span 16 0x7fff_ffff, constant 4, span 1 0x07ff_ffff)
    ∷ (32, Binary SignedShiftRight, span 16 0x8000_0000, constant 4, full 32)
    ∷ [])
shifts = refl

moves : AreRows (
    (64, Binary Mov, span 1 2, span 3 9, span 3 9)
    ∷ (32, Binary Mov, span 1 2, span 3 0x1_0000_0000, full 32)
    ∷ (32, Binary Mov, span 3 9, constant 0x1_0000_0001, constant 1)
    ∷ (64, SignExtend Bits8, constant 0, span 3 127, span 3 127)
    ∷ (64, SignExtend Bits8, constant 0, span 3 128, full 64)
    ∷ [])
moves = refl

-- the second operand is not read; a byte order reads all 64 bits of the first, whatever the width
of_one_operand : AreRows (
    (64, Neg, span 1 2, constant 0, full 64)
    ∷ (64, End Big Bits64, span 0 9, constant 0, full 64)
    ∷ (64, End Big Bits64, constant 0x1_0000_0001, span 3 9, constant 0x0100_0000_0100_0000)
    ∷ (32, End Big Bits64, constant 0x1_0000_0001, span 3 9, constant 0x0100_0000_0100_0000)
    ∷ [])
of_one_operand = refl

-- ---- the join, by its ends

abbrev ends : Range → ℕ × ℕ
ends r = (r.lo, r.hi)

hull_of_ranges : ends (hull (span 1 4) (span 3 9)) ≡ (1, 9)
hull_of_ranges = refl

-- ---- both edges of a jump: the number of bits, a condition, two operands, and their ranges if it holds and if it does not

-- the ends of both ranges; None on an edge that can't be taken
abbrev Edge : Type 0
Edge = Option ((ℕ × ℕ) × (ℕ × ℕ))

abbrev on_edge : Option RangePair → Edge
on_edge = option_map (λ p. (ends p.0, ends p.1))

abbrev EdgeRow : Type 0
EdgeRow = ℕ × Condition × Range × Range × Edge × Edge

abbrev AreEdgeRows : List EdgeRow → Type 0
AreEdgeRows rows =
    map {B = Edge × Edge}
    (λ (row : EdgeRow). let edges = refined row.0 row.1 row.2 row.3 in (on_edge edges.0, on_edge edges.1))
    rows
    ≡ map (λ (row : EdgeRow). (row.4, row.5)) rows

edges_that_are_seen : AreEdgeRows (
    (64, Equal, constant 0, constant 1, None, Some ((0, 0), (1, 1)))
    ∷ (64, NotEqual, span 0 3, constant 3, Some ((0, 2), (3, 3)), Some ((3, 3), (3, 3)))
    ∷ (64, Above, span 0 255, constant 7, Some ((8, 255), (7, 7)), Some ((0, 7), (7, 7)))
    ∷ (64, AboveOrEqual, span 0 255, constant 7, Some ((7, 255), (7, 7)), Some ((0, 6), (7, 7)))
    ∷ (64, Below, span 0 255, constant 7, Some ((0, 6), (7, 7)), Some ((7, 255), (7, 7)))
    ∷ (64, BelowOrEqual, span 0 255, constant 7, Some ((0, 7), (7, 7)), Some ((8, 255), (7, 7)))
    ∷ (32, Below, span 0 255, constant 7, Some ((0, 6), (7, 7)), Some ((7, 255), (7, 7)))
    ∷ [])
edges_that_are_seen = refl

-- low halves of greater numbers, signs and common bits give no new range
edges_that_tell_nothing : AreEdgeRows ((
  32,
  Below,
  span 0 255,
  constant 0x1_0000_0007,
  Some ((0, 255), (0x1_0000_0007, 0x1_0000_0007)),
  Some ((0, 255), (0x1_0000_0007, 0x1_0000_0007)),
)
    ∷ (64, SignedAbove, span 0 255, constant 7, Some ((0, 255), (7, 7)), Some ((0, 255), (7, 7)))
    ∷ (64, CommonBit, span 0 255, constant 0, Some ((0, 255), (0, 0)), Some ((0, 255), (0, 0)))
    ∷ [])
edges_that_tell_nothing = refl
