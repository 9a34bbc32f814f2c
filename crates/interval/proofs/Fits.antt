-- The table's ranges are ranges of words.
use Rattle.std.proofs.Common.{ℕ, ◌+◌, ◌-◌, ◌*◌, ◌%◌, ◌^◌, ◌<◌, ◌≤◌, nat_lt, nat_le, if◌then◌else◌, max, arith}
use Rattle.std.proofs.Math.Nat.{pow-le-pow_right, div-le_self}
use Rattle.std.proofs.lemmas.Bool.{cond_both, ltb-true, leb-true}
use Rattle.std.proofs.lemmas.Nat.{pow_pos, shr_le, mul-le}
use Rattle.std.proofs.Math.Nat.{mul-le-mul_right}
use Rattle.interval.specs.declared.range.Range.{Range}
use Rattle.words.specs.declared.operator.KeptBits.{KeptBits}
use Rattle.words.specs.declared.operator.KeptBits.TheVariants as bits
use Rattle.words.specs.declared.operator.ByteOrder.{ByteOrder}
use Rattle.words.specs.declared.operator.Operator.{Operator}
use Rattle.words.specs.declared.operator.AluOp.{AluOp}
use Rattle.words.specs.declared.operator.AluOp.TheVariants.{Add, Sub, Mul, Div, SignedDiv, Or, And, ShiftLeft}
use Rattle.words.specs.declared.operator.AluOp.TheVariants.{ShiftRight, Mod, SignedMod, Xor, Mov, SignedShiftRight}
use Rattle.words.specs.declared.operator.Operator.TheVariants.{Binary, Neg, SignExtend, End}
use Rattle.words.specs.Operate.{kept_bits, extended_bits, combined, byte_order}
use Rattle.interval.specs.Ranges.{IsMember, span, full, constant, is_constant}
use Rattle.interval.specs.Table.{sum_range, difference_range, product_range, quotient_range, remainder_range, most_with_digits, binary_digits}
use Rattle.interval.specs.Table.{scaled_range, shift_right_range, alu_range, general_range, are_constants, result_range, operand_range, range_of}
use Rattle.interval.proofs.Sound.{general_range_sound, byte_order_below}

span_below : (p lo hi : ℕ) → lo < p → hi < p → (span lo hi).hi < p
span_below p lo hi h k = omega arith

full_below : (n : ℕ) → (full n).hi < 2 ^ n
full_below n = omega (arith, pow_pos n)

-- ---- a row with a condition

if_lt : (p m n : ℕ) (r s : Range) → (m < n → r.hi < p) → s.hi < p → (if nat_lt m n then r else s).hi < p
if_lt p m n r s f g = cond_both (nat_lt m n) r s (λ q. q.hi < p) (λ t. f (ltb-true m n t)) (λ _. g)

if_le : (p m n : ℕ) (r s : Range) → (m ≤ n → r.hi < p) → s.hi < p → (if nat_le m n then r else s).hi < p
if_le p m n r s f g = cond_both (nat_le m n) r s (λ q. q.hi < p) (λ t. f (leb-true m n t)) (λ _. g)

if_constant : (p : ℕ) (b r s : Range) → r.hi < p → s.hi < p → (if is_constant b then r else s).hi < p
if_constant p b r s f g = cond_both (is_constant b) r s (λ q. q.hi < p) (λ _. f) (λ _. g)

-- ---- the rows

sum_fits : (n : ℕ) (a b : Range) → a.hi < 2 ^ n → b.hi < 2 ^ n → (sum_range n a b).hi < 2 ^ n
sum_fits n a b p q =
    if_lt (2 ^ n) (a.hi + b.hi) (2 ^ n) _ _
    (λ (t : a.hi + b.hi < 2 ^ n). span_below _ _ _ (omega (arith, a.ordered, b.ordered)) t)
    (if_le (2 ^ n) (2 ^ n) (a.lo + b.lo) _ _
    (λ (t : 2 ^ n ≤ a.lo + b.lo). span_below _ _ _ (omega (arith, a.ordered, b.ordered)) (omega arith))
    (full_below n))

difference_fits : (n : ℕ) (a b : Range) → a.hi < 2 ^ n → b.hi < 2 ^ n → (difference_range n a b).hi < 2 ^ n
difference_fits n a b p q =
    if_le (2 ^ n) b.hi a.lo _ _ (λ (t : b.hi ≤ a.lo). span_below _ _ _ (omega (arith, a.ordered)) (omega arith))
    (if_lt (2 ^ n) a.hi b.lo _ _
    (λ (t : a.hi < b.lo). span_below _ _ _ (omega (arith, a.ordered, b.ordered)) (omega (arith, a.ordered, b.ordered)))
    (full_below n))

product_fits : (n : ℕ) (a b : Range) → (product_range n a b).hi < 2 ^ n
product_fits n a b =
    if_lt (2 ^ n) (a.hi * b.hi) (2 ^ n) _ _
    (λ (t : a.hi * b.hi < 2 ^ n). span_below _ _ _ (omega (arith, mul-le a.lo b.lo a.hi b.hi a.ordered b.ordered)) t)
    (full_below n)

quotient_fits : (p : ℕ) (a b : Range) → a.hi < p → (quotient_range a b).hi < p
quotient_fits p a b h =
    if_le p 1 b.lo _ _
    (λ _. span_below _ _ _ (omega (arith, div-le_self a.lo b.hi, a.ordered)) (omega (arith, div-le_self a.hi b.lo)))
    (span_below _ _ _ (omega arith) h)

remainder_fits : (p : ℕ) (a b : Range) → a.hi < p → (remainder_range a b).hi < p
remainder_fits p a b h =
    if_le p 1 b.lo _ _ (λ _. span_below _ _ _ (omega arith) (omega arith)) (span_below _ _ _ (omega arith) h)

digits_below : (a b : Range) → most_with_digits a b < 2 ^ 64
digits_below a b =
    let some : 0 < 2 = omega arith in
    let few : binary_digits (max a.hi b.hi) ≤ 64 = omega arith in
    let most : 2 ^ binary_digits (max a.hi b.hi) ≤ 2 ^ 64 = pow-le-pow_right some few in
    omega (arith, pow_pos (binary_digits (max a.hi b.hi)))

scaled_fits : (n k : ℕ) (a : Range) → (scaled_range n a k).hi < 2 ^ n
scaled_fits n k a =
    if_lt (2 ^ n) (a.hi * 2 ^ k) (2 ^ n) _ _
    (λ (t : a.hi * 2 ^ k < 2 ^ n). span_below _ _ _ (omega (arith, mul-le-mul_right (2 ^ k) a.ordered)) t)
    (full_below n)

shift_right_fits : (n p : ℕ) (a b : Range) → a.hi < p → (shift_right_range n a b).hi < p
shift_right_fits n p a b h =
    if_constant p b _ _
    (span_below _ _ _ (omega (arith, shr_le a.lo (b.lo % n), a.ordered)) (omega (arith, shr_le a.hi (b.lo % n))))
    (span_below _ _ _ (omega arith) h)

-- ---- all operators

kept_below : (kept : KeptBits) → (full (kept_bits kept)).hi < 2 ^ 64
kept_below bits.Bits16 = omega arith
kept_below bits.Bits32 = omega arith
kept_below bits.Bits64 = omega arith

alu_range_fits : (n : ℕ) (op : AluOp) (a b : Range)
    → 2 ^ n ≤ 2 ^ 64 → a.hi < 2 ^ n
    → b.hi < 2 ^ n
    → (alu_range n op a b).hi < 2 ^ 64
alu_range_fits n Add a b w p q = omega (arith, sum_fits n a b p q)
alu_range_fits n Sub a b w p q = omega (arith, difference_fits n a b p q)
alu_range_fits n Mul a b w p q = omega (arith, product_fits n a b)
alu_range_fits n Div a b w p q = quotient_fits (2 ^ 64) a b (omega arith)
alu_range_fits n SignedDiv a b w p q = omega (arith, full_below n)
alu_range_fits n Or a b w p q = span_below _ _ _ (omega (arith, a.ordered, b.ordered)) (digits_below a b)
alu_range_fits n And a b w p q = span_below _ _ _ (omega arith) (omega arith)
alu_range_fits n ShiftLeft a b w p q =
    if_constant (2 ^ 64) b _ _ (omega (arith, scaled_fits n (b.lo % n) a)) (omega (arith, full_below n))
alu_range_fits n ShiftRight a b w p q = shift_right_fits n (2 ^ 64) a b (omega arith)
alu_range_fits n Mod a b w p q = remainder_fits (2 ^ 64) a b (omega arith)
alu_range_fits n SignedMod a b w p q = omega (arith, full_below n)
alu_range_fits n Xor a b w p q = span_below _ _ _ (omega arith) (digits_below a b)
alu_range_fits n Mov a b w p q = omega arith
alu_range_fits n SignedShiftRight a b w p q =
    if_lt (2 ^ 64) a.hi (2 ^ (n - 1)) _ _
    (λ _. shift_right_fits n (2 ^ 64) a b (omega arith))
    (omega (arith, full_below n))

general_range_fits : (n : ℕ) (op : Operator) (a b : Range)
    → 2 ^ n ≤ 2 ^ 64 → a.hi < 2 ^ n
    → b.hi < 2 ^ n
    → (general_range n op a b).hi < 2 ^ 64
general_range_fits n (Binary op) a b w p q = alu_range_fits n op a b w p q
general_range_fits n Neg a b w p q = omega (arith, full_below n)
general_range_fits n (SignExtend from) a b w p q =
    if_lt (2 ^ 64) b.hi (2 ^ (extended_bits from - 1)) _ _ (λ _. omega arith) (omega (arith, full_below n))
general_range_fits n (End how kept) a b w p q = kept_below kept

end_fits : (how : ByteOrder) (kept : KeptBits) (v : ℕ) → byte_order how kept v < 2 ^ 64
end_fits how bits.Bits16 v = omega (arith, byte_order_below how bits.Bits16 v)
end_fits how bits.Bits32 v = omega (arith, byte_order_below how bits.Bits32 v)
end_fits how bits.Bits64 v = byte_order_below how bits.Bits64 v

-- the result of the low ends is one of the results
lowest : (r : Range) → IsMember r.lo r
lowest r = record { from = omega arith; to = r.ordered }

result_fits : (n : ℕ) (op : Operator) (a b : Range)
    → 2 ^ n ≤ 2 ^ 64 → a.hi < 2 ^ n
    → b.hi < 2 ^ n
    → (result_range n op a b).hi < 2 ^ 64
result_fits n op a b w p q =
    let some : IsMember (combined n op a.lo b.lo) (general_range n op a b) =
    general_range_sound n op a b a.lo b.lo w p q (lowest a) (lowest b) in
    cond_both (are_constants op a b) (constant (combined n op a.lo b.lo)) (general_range n op a b) (λ r. r.hi < 2 ^ 64)
    (λ _. omega (arith, some.to, general_range_fits n op a b w p q))
    (λ _. general_range_fits n op a b w p q)

-- if the ranges that an operator on n bits reads are of n bits, the table's range is one of words
pub table_fits : (n : ℕ) (op : Operator) (a b : Range)
    → 2 ^ n ≤ 2 ^ 64 → (operand_range n a).hi < 2 ^ n
    → (operand_range n b).hi < 2 ^ n
    → (range_of n op a b).hi < 2 ^ 64
table_fits n (End how kept) a b w p q =
    cond_both (is_constant a) (constant (combined n (End how kept) a.lo b.lo))
    (full (kept_bits kept)) (λ r. r.hi < 2 ^ 64)
    (λ _. end_fits how kept a.lo)
    (λ _. kept_below kept)
table_fits n op a b w p q = result_fits n op (operand_range n a) (operand_range n b) w p q
