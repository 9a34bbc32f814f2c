-- Soundness of the table: a range in it includes the result of the operator on all members of its operands.
use Rattle.std.proofs.Common.{◌≡◌, ℕ, ◌%◌, ◌^◌, ◌<◌, ◌≤◌, if◌then◌else◌, true, nat_lt, ap, ap₂, sym, subst, arith, ◌&&◌}
use Rattle.std.proofs.lemmas.Bool.{cond_both, and_parts, ltb-true}
use Rattle.std.proofs.Math.Nat.{mod-eq_of_lt}
use Rattle.std.proofs.lemmas.Nat.{pow_pos}
use Rattle.std.specs.Prelude.{◌-ℤ◌, ◌*ℤ◌, int_div}
use Rattle.std.specs.Int.{w16, w32, w64, swap_bytes}
use Rattle.interval.specs.declared.range.Range.{Range}
use Rattle.words.specs.declared.operator.KeptBits.{KeptBits}
use Rattle.words.specs.declared.operator.KeptBits.TheVariants as bits
use Rattle.words.specs.declared.operator.ByteOrder.{ByteOrder}
use Rattle.words.specs.declared.operator.ByteOrder.TheVariants.{Little, Big, Swap}
use Rattle.words.specs.declared.operator.Operator.{Operator}
use Rattle.words.specs.declared.operator.AluOp.{AluOp}
use Rattle.words.specs.declared.operator.AluOp.TheVariants.{Add, Sub, Mul, Div, SignedDiv, Or, And, ShiftLeft}
use Rattle.words.specs.declared.operator.AluOp.TheVariants.{ShiftRight, Mod, SignedMod, Xor, Mov, SignedShiftRight}
use Rattle.words.specs.declared.operator.Operator.TheVariants.{Binary, Neg, SignExtend, End}
use Rattle.words.specs.Words.{signed, unsigned, negate, signed_divide, signed_remainder, sign_extend}
use Rattle.words.specs.Operate.{operand_bits, alu_result, combined, operate, byte_order, reversed_bytes, kept_bits, extended_bits}
use Rattle.interval.specs.Ranges.{IsMember, constant, is_constant, full}
use Rattle.interval.specs.Table.{are_constants, alu_range, are_alu_constants, general_range, result_range, range_modulo, operand_range, range_of}
use Rattle.interval.proofs.Members.{in_full, in_constant, only_member, where_lt, where_constant}
use Rattle.interval.proofs.Numbers.{below_pow}
use Rattle.interval.proofs.SoundSums.{sum_sound, difference_sound, product_sound, quotient_sound, remainder_sound, by_divisor}
use Rattle.interval.proofs.SoundBits.{and_sound, or_sound, xor_sound, shift_left_sound}
use Rattle.interval.proofs.SoundBits.{shift_right_sound, signed_shift_right_sound, sign_extend_sound, unsigned_below}

-- ---- byte order

swapped_below_16 : (v : ℕ) → swap_bytes w16 v < 2 ^ 16
swapped_below_16 v = omega arith

swapped_below_32 : (v : ℕ) → swap_bytes w32 v < 2 ^ 32
swapped_below_32 v = omega arith

swapped_below_64 : (v : ℕ) → swap_bytes w64 v < 2 ^ 64
swapped_below_64 v = omega arith

reversed_below : (kept : KeptBits) (a : ℕ) → reversed_bytes kept a < 2 ^ kept_bits kept
reversed_below bits.Bits16 a = swapped_below_16 (a % 2 ^ 16)
reversed_below bits.Bits32 a = swapped_below_32 (a % 2 ^ 32)
reversed_below bits.Bits64 a = swapped_below_64 (a % 2 ^ 64)

-- the result of a byte-order conversion fits the bits that it keeps
pub byte_order_below : (how : ByteOrder) (kept : KeptBits) (a : ℕ) → byte_order how kept a < 2 ^ kept_bits kept
byte_order_below Little kept a = below_pow (kept_bits kept) a
byte_order_below Big kept a = reversed_below kept a
byte_order_below Swap kept a = reversed_below kept a

-- ---- the table on operands below 2 ^ n

signed_divide_sound : (n x y : ℕ) → IsMember (signed_divide n x y) (full n)
signed_divide_sound n x y =
    by_divisor y 0 (unsigned n (int_div (signed n x) (signed n y))) (full n)
    (λ _. in_full n _ (pow_pos n)) (λ _. in_full n _ (unsigned_below n _))

signed_remainder_sound : (n x y : ℕ) → x < 2 ^ n → IsMember (signed_remainder n x y) (full n)
signed_remainder_sound n x y h =
    by_divisor y x
    (unsigned n (signed n x -ℤ signed n y *ℤ int_div (signed n x) (signed n y)))
    (full n) (λ _. in_full n _ h) (λ _. in_full n _ (unsigned_below n _))

alu_range_sound : (n : ℕ) (op : AluOp) (a b : Range) (x y : ℕ)
    → 2 ^ n ≤ 2 ^ 64 → a.hi < 2 ^ n
    → b.hi < 2 ^ n → IsMember x a
    → IsMember y b
    → IsMember (alu_result n op x y) (alu_range n op a b)
alu_range_sound n Add a b x y w p q h k = sum_sound n a b x y p q h k
alu_range_sound n Sub a b x y w p q h k = difference_sound n a b x y p q h k
alu_range_sound n Mul a b x y w p q h k = product_sound n a b x y h k
alu_range_sound n Div a b x y w p q h k = quotient_sound a b x y h k
alu_range_sound n SignedDiv a b x y w p q h k = signed_divide_sound n x y
alu_range_sound n Or a b x y w p q h k = or_sound a b x y (omega arith) (omega arith) h k
alu_range_sound n And a b x y w p q h k = and_sound a b x y h k
alu_range_sound n ShiftLeft a b x y w p q h k = shift_left_sound n a b x y h k
alu_range_sound n ShiftRight a b x y w p q h k = shift_right_sound n a b x y h k
alu_range_sound n Mod a b x y w p q h k = remainder_sound a b x y h k
alu_range_sound n SignedMod a b x y w p q h k = signed_remainder_sound n x y (omega arith)
alu_range_sound n Xor a b x y w p q h k = xor_sound a b x y (omega arith) (omega arith) h k
alu_range_sound n Mov a b x y w p q h k = k
alu_range_sound n SignedShiftRight a b x y w p q h k = signed_shift_right_sound n a b x y p h k

-- the range of an operator by the ends of its operands' ranges, which are of n bits, includes each result
pub general_range_sound : (n : ℕ) (op : Operator) (a b : Range) (x y : ℕ)
    → 2 ^ n ≤ 2 ^ 64 → a.hi < 2 ^ n
    → b.hi < 2 ^ n → IsMember x a
    → IsMember y b
    → IsMember (combined n op x y) (general_range n op a b)
general_range_sound n (Binary op) a b x y w p q h k = alu_range_sound n op a b x y w p q h k
general_range_sound n Neg a b x y w p q h k = in_full n _ (below_pow n _)
general_range_sound n (SignExtend from) a b x y w p q h k = sign_extend_sound n (extended_bits from) b y q k
general_range_sound n (End how kept) a b x y w p q h k = in_full (kept_bits kept) _ (byte_order_below how kept x)

-- the members of constant ranges are the constants
both : (n : ℕ) (f : ℕ → ℕ → ℕ) (a b : Range) (x y : ℕ)
    → IsMember x a → IsMember y b
    → (is_constant a && is_constant b) ≡ true
    → f x y ≡ f a.lo b.lo
both n f a b x y h k t =
    let parts = and_parts (is_constant a) (is_constant b) t in
    ap₂ f (only_member a x parts.0 h) (only_member b y parts.1 k)

alu_constants_agree : (n : ℕ) (op : AluOp) (a b : Range) (x y : ℕ)
    → IsMember x a → IsMember y b
    → are_alu_constants op a b ≡ true
    → alu_result n op x y ≡ alu_result n op a.lo b.lo
alu_constants_agree n Mov a b x y h k t = only_member b y t k
alu_constants_agree n op a b x y h k t = both n (alu_result n op) a b x y h k t

constants_agree : (n : ℕ) (op : Operator) (a b : Range) (x y : ℕ)
    → IsMember x a → IsMember y b
    → are_constants op a b ≡ true
    → combined n op x y ≡ combined n op a.lo b.lo
constants_agree n (Binary op) a b x y h k t = alu_constants_agree n op a b x y h k t
constants_agree n Neg a b x y h k t = ap (negate n) (only_member a x t h)
constants_agree n (SignExtend from) a b x y h k t = ap (sign_extend n (extended_bits from)) (only_member b y t k)
constants_agree n (End how kept) a b x y h k t = ap (byte_order how kept) (only_member a x t h)

in_result : (n : ℕ) (op : Operator) (a b : Range) (x y : ℕ)
    → IsMember x a → IsMember y b
    → IsMember (combined n op x y) (general_range n op a b)
    → IsMember (combined n op x y) (result_range n op a b)
in_result n op a b x y h k s =
    cond_both (are_constants op a b) (constant (combined n op a.lo b.lo)) (general_range n op a b)
    (λ q. IsMember (combined n op x y) q)
    (λ t. in_constant _ _ (constants_agree n op a b x y h k t))
    (λ _. s)

result_sound : (n : ℕ) (op : Operator) (a b : Range) (x y : ℕ)
    → 2 ^ n ≤ 2 ^ 64 → a.hi < 2 ^ n
    → b.hi < 2 ^ n → IsMember x a
    → IsMember y b
    → IsMember (combined n op x y) (result_range n op a b)
result_sound n op a b x y w p q h k = in_result n op a b x y h k (general_range_sound n op a b x y w p q h k)

-- ---- the table on words

-- the operand that an operator on n bits reads is a member of the range that it reads, and this range is below 2 ^ n
pub record Sees (n : ℕ) (r : Range) (x : ℕ) : Type 0 where
  -- the operand that the operator reads is a member of the range that it reads
  pub member : IsMember (operand_bits n x) (operand_range n r)
  -- the range that the operator reads is of n bits
  pub below : (operand_range n r).hi < 2 ^ n

-- the table's range includes the result for two members, if the operator reads both as `Sees` requires
pub table_sound : (n : ℕ) (op : Operator) (a b : Range) (x y : ℕ)
    → 2 ^ n ≤ 2 ^ 64 → IsMember x a
    → IsMember y b → Sees n a x
    → Sees n b y
    → IsMember (operate n op x y) (range_of n op a b)
table_sound n (End how kept) a b x y w h k s r =
    in_result n (End how kept) a b x y h k (in_full (kept_bits kept) _ (byte_order_below how kept x))
table_sound n op a b x y w h k s r =
    result_sound n op (operand_range n a) (operand_range n b) (operand_bits n x) (operand_bits n y)
    w s.below r.below s.member r.member

-- an operator on 64 bits reads the whole word of a member, which is in the range that it reads, one of 64 bits
pub sees_64 : (r : Range) (x : ℕ) → r.hi < 2 ^ 64 → IsMember x r → Sees 64 r x
sees_64 r x p h = record { member = h; below = p }

-- the range of the low halves of a range is of 32 bits
pub cut_below : (r : Range) → (range_modulo 32 r).hi < 2 ^ 32
cut_below r =
    cond_both (nat_lt r.hi (2 ^ 32)) r
    (if is_constant r then constant (r.lo % 2 ^ 32) else full 32)
    (λ q. q.hi < 2 ^ 32) (λ t. ltb-true r.hi (2 ^ 32) t)
    (λ _.
    cond_both (is_constant r) (constant (r.lo % 2 ^ 32)) (full 32) (λ q. q.hi < 2 ^ 32)
    (λ _. below_pow 32 r.lo) (λ _. omega arith))

cut_member : (r : Range) (x : ℕ) → IsMember x r → IsMember (x % 2 ^ 32) (range_modulo 32 r)
cut_member r x h =
    where_lt r.hi (2 ^ 32) r (if is_constant r then constant (r.lo % 2 ^ 32) else full 32) (x % 2 ^ 32)
    (λ small. let same : x % 2 ^ 32 ≡ x = mod-eq_of_lt (omega arith) in subst (λ v. IsMember v r) (sym same) h)
    (λ _.
    where_constant r (constant (r.lo % 2 ^ 32)) (full 32) (x % 2 ^ 32) x h
    (λ e. in_constant _ _ (ap (λ v. v % 2 ^ 32) e)) (in_full 32 _ (below_pow 32 x)))

-- an operator on 32 bits reads a member's low half, which is in the range that it reads, one of 32 bits
pub sees_32 : (r : Range) (x : ℕ) → IsMember x r → Sees 32 r x
sees_32 r x h = record { member = cut_member r x h; below = cut_below r }
