-- Worked cases: the results of the equations on numbers of RFC 9669's rules, and the byte indices of accesses in a stack of 512 bytes.
use Rattle.std.proofs.Common.{◌≡◌, pos, neg_ℤ, true, false, refl}
use Rattle.words.specs.declared.operator.KeptBits.TheVariants.{Bits16, Bits32, Bits64}
use Rattle.words.specs.declared.operator.ExtendedBits.TheVariants as narrow
use Rattle.words.specs.declared.operator.ByteOrder.TheVariants.{Little, Big, Swap}
use Rattle.words.specs.declared.operator.AluOp.TheVariants.{Add, Sub, Mul, Div, SignedDiv, Or, And, ShiftLeft}
use Rattle.words.specs.declared.operator.AluOp.TheVariants.{ShiftRight, Mod, SignedMod, Xor, Mov, SignedShiftRight}
use Rattle.words.specs.declared.operator.Operator.TheVariants.{Binary, Neg, SignExtend}
use Rattle.words.specs.declared.operator.Condition.TheVariants.{Equal, NotEqual, Above, AboveOrEqual, Below, BelowOrEqual}
use Rattle.words.specs.declared.operator.Condition.TheVariants.{SignedAbove, SignedAboveOrEqual, SignedBelow, SignedBelowOrEqual, CommonBit}
use Rattle.words.specs.Operate.{operate, byte_order}
use Rattle.words.specs.Compare.{compares}
use Rattle.words.specs.Stack.{is_in_stack, byte_index, is_aligned, touches}

-- ---- words of 64 bits (RFC 9669, sections 4.1 to 4.3)

divide_by_zero : operate 64 (Binary Div) 7 0 ≡ 0
divide_by_zero = refl

remainder_by_zero : operate 64 (Binary Mod) 7 0 ≡ 7
remainder_by_zero = refl

signed_divide_by_zero : operate 64 (Binary SignedDiv) 0xffff_ffff_ffff_fff9 0 ≡ 0
signed_divide_by_zero = refl

signed_remainder_by_zero : operate 64 (Binary SignedMod) 0xffff_ffff_ffff_fff9 0 ≡ 0xffff_ffff_ffff_fff9
signed_remainder_by_zero = refl

divide_unsigned : operate 64 (Binary Div) 0xffff_ffff_ffff_ffff 2 ≡ 0x7fff_ffff_ffff_ffff
divide_unsigned = refl

least_divided_by_minus_one : operate 64 (Binary SignedDiv) 0x8000_0000_0000_0000 0xffff_ffff_ffff_ffff ≡ 0x8000_0000_0000_0000
least_divided_by_minus_one = refl

least_modulo_minus_one : operate 64 (Binary SignedMod) 0x8000_0000_0000_0000 0xffff_ffff_ffff_ffff ≡ 0
least_modulo_minus_one = refl

signed_quotient_rounds_toward_zero : operate 64 (Binary SignedDiv) 7 0xffff_ffff_ffff_fffe ≡ 0xffff_ffff_ffff_fffd
signed_quotient_rounds_toward_zero = refl

signed_remainder_as_the_dividend : operate 64 (Binary SignedMod) 0xffff_ffff_ffff_fff9 2 ≡ 0xffff_ffff_ffff_ffff
signed_remainder_as_the_dividend = refl

difference_wraps : operate 64 (Binary Sub) 0 1 ≡ 0xffff_ffff_ffff_ffff
difference_wraps = refl

shift_left_modulo_64 : operate 64 (Binary ShiftLeft) 5 64 ≡ 5
shift_left_modulo_64 = refl

shift_right_modulo_64 : operate 64 (Binary ShiftRight) 0x8000_0000_0000_0000 127 ≡ 1
shift_right_modulo_64 = refl

signed_shift_copies_the_sign : operate 64 (Binary SignedShiftRight) 0x8000_0000_0000_0000 63 ≡ 0xffff_ffff_ffff_ffff
signed_shift_copies_the_sign = refl

sum_wraps : operate 64 (Binary Add) 0xffff_ffff_ffff_ffff 2 ≡ 1
sum_wraps = refl

product_wraps : operate 64 (Binary Mul) 0x1_0000_0001 0x1_0000_0003 ≡ 0x4_0000_0003
product_wraps = refl

common_digits : operate 64 (Binary And) 0xf0f0_1234_0000_000c 0x0ff0_4321_0000_000a ≡ 0xf0_0220_0000_0008
common_digits = refl

digits_of_either : operate 64 (Binary Or) 0xf0f0_1234_0000_000c 0x0ff0_4321_0000_000a ≡ 0xfff0_5335_0000_000e
digits_of_either = refl

digits_of_one : operate 64 (Binary Xor) 0xf0f0_1234_0000_000c 0x0ff0_4321_0000_000a ≡ 0xff00_5115_0000_0006
digits_of_one = refl

remainder_unsigned : operate 64 (Binary Mod) 0xffff_ffff_ffff_ffff 10 ≡ 5
remainder_unsigned = refl

shift_right_brings_zeros : operate 64 (Binary ShiftRight) 0x8000_0000_0000_0000 4 ≡ 0x0800_0000_0000_0000
shift_right_brings_zeros = refl

signed_shift_of_a_number : operate 64 (Binary SignedShiftRight) 0x4000_0000_0000_0000 66 ≡ 0x1000_0000_0000_0000
signed_shift_of_a_number = refl

negation : operate 64 Neg 1 0 ≡ 0xffff_ffff_ffff_ffff
negation = refl

move : operate 64 (Binary Mov) 7 0xffff_ffff_0000_0001 ≡ 0xffff_ffff_0000_0001
move = refl

sign_of_a_word : operate 64 (SignExtend narrow.Bits32) 0 0x8000_0000 ≡ 0xffff_ffff_8000_0000
sign_of_a_word = refl

no_sign_in_a_half : operate 64 (SignExtend narrow.Bits16) 0 0xffff_7fff ≡ 0x7fff
no_sign_in_a_half = refl

sign_of_a_byte : operate 64 (SignExtend narrow.Bits8) 0 0x80 ≡ 0xffff_ffff_ffff_ff80
sign_of_a_byte = refl

big_endian_16 : byte_order Big Bits16 287454020 ≡ 17459
big_endian_16 = refl

big_endian_32 : byte_order Big Bits32 0x1122_3344_5566_7788 ≡ 0x8877_6655
big_endian_32 = refl

big_endian_64 : byte_order Big Bits64 0x1122_3344_5566_7788 ≡ 0x8877_6655_4433_2211
big_endian_64 = refl

little_endian_16 : byte_order Little Bits16 0x1122_3344_5566_7788 ≡ 0x7788
little_endian_16 = refl

little_endian_64 : byte_order Little Bits64 0x1122_3344_5566_7788 ≡ 0x1122_3344_5566_7788
little_endian_64 = refl

swap_16 : byte_order Swap Bits16 0x1122_3344_5566_7788 ≡ 0x8877
swap_16 = refl

swap_64 : byte_order Swap Bits64 0x1122_3344_5566_7788 ≡ 0x8877_6655_4433_2211
swap_64 = refl

swap_32 : byte_order Swap Bits32 0x1122_3344_5566_7788 ≡ 0x8877_6655
swap_32 = refl

little_endian_32 : byte_order Little Bits32 0x1122_3344_5566_7788 ≡ 0x5566_7788
little_endian_32 = refl

zero_above_minus_one : compares 64 SignedAbove 0 0xffff_ffff_ffff_ffff ≡ true
zero_above_minus_one = refl

zero_not_above_all_ones : compares 64 Above 0 0xffff_ffff_ffff_ffff ≡ false
zero_not_above_all_ones = refl

five_equals_five : compares 64 Equal 5 5 ≡ true
five_equals_five = refl

upper_halves_count : compares 64 Equal 0x1_0000_0005 5 ≡ false
upper_halves_count = refl

five_is_not_another : compares 64 NotEqual 5 5 ≡ false
five_is_not_another = refl

two_above_one : compares 64 Above 2 1 ≡ true
two_above_one = refl

five_at_least_five : compares 64 AboveOrEqual 5 5 ≡ true
five_at_least_five = refl

zero_not_at_least_all_ones : compares 64 AboveOrEqual 0 0xffff_ffff_ffff_ffff ≡ false
zero_not_at_least_all_ones = refl

zero_below_all_ones : compares 64 Below 0 0xffff_ffff_ffff_ffff ≡ true
zero_below_all_ones = refl

five_not_below_five : compares 64 Below 5 5 ≡ false
five_not_below_five = refl

five_at_most_five : compares 64 BelowOrEqual 5 5 ≡ true
five_at_most_five = refl

all_ones_not_at_most_zero : compares 64 BelowOrEqual 0xffff_ffff_ffff_ffff 0 ≡ false
all_ones_not_at_most_zero = refl

minus_one_at_least_itself : compares 64 SignedAboveOrEqual 0xffff_ffff_ffff_ffff 0xffff_ffff_ffff_ffff ≡ true
minus_one_at_least_itself = refl

minus_one_not_at_least_zero : compares 64 SignedAboveOrEqual 0xffff_ffff_ffff_ffff 0 ≡ false
minus_one_not_at_least_zero = refl

minus_one_is_below_zero : compares 64 SignedBelow 0xffff_ffff_ffff_ffff 0 ≡ true
minus_one_is_below_zero = refl

zero_not_below_minus_one : compares 64 SignedBelow 0 0xffff_ffff_ffff_ffff ≡ false
zero_not_below_minus_one = refl

minus_one_at_most_zero : compares 64 SignedBelowOrEqual 0xffff_ffff_ffff_ffff 0 ≡ true
minus_one_at_most_zero = refl

zero_not_at_most_minus_one : compares 64 SignedBelowOrEqual 0 0xffff_ffff_ffff_ffff ≡ false
zero_not_at_most_minus_one = refl

six_and_nine_do_not_meet : compares 64 CommonBit 6 9 ≡ false
six_and_nine_do_not_meet = refl

six_and_three_meet : compares 64 CommonBit 6 3 ≡ true
six_and_three_meet = refl

-- ---- words of 32 bits, on low halves, with zeros above

low_remainder_by_zero : operate 32 (Binary Mod) 0xffff_ffff_0000_0007 0 ≡ 7
low_remainder_by_zero = refl

low_difference_wraps : operate 32 (Binary Sub) 0 1 ≡ 0xffff_ffff
low_difference_wraps = refl

low_least_divided_by_minus_one : operate 32 (Binary SignedDiv) 0x8000_0000 0xffff_ffff ≡ 0x8000_0000
low_least_divided_by_minus_one = refl

low_least_modulo_minus_one : operate 32 (Binary SignedMod) 0x8000_0000 0xffff_ffff ≡ 0
low_least_modulo_minus_one = refl

shift_left_modulo_32 : operate 32 (Binary ShiftLeft) 1 33 ≡ 2
shift_left_modulo_32 = refl

low_signed_shift_copies_the_sign : operate 32 (Binary SignedShiftRight) 0x8000_0000 31 ≡ 0xffff_ffff
low_signed_shift_copies_the_sign = refl

low_negation : operate 32 Neg 1 0 ≡ 0xffff_ffff
low_negation = refl

sign_of_a_half : operate 32 (SignExtend narrow.Bits16) 0 0x8000 ≡ 0xffff_8000
sign_of_a_half = refl

low_halves_equal : compares 32 Equal 0x1_0000_0005 5 ≡ true
low_halves_equal = refl

minus_one_below_zero : compares 32 SignedBelow 0xffff_ffff 0 ≡ true
minus_one_below_zero = refl

low_sum_wraps : operate 32 (Binary Add) 0xffff_ffff_ffff_ffff 0x1_0000_0002 ≡ 1
low_sum_wraps = refl

low_product_wraps : operate 32 (Binary Mul) 0x5_0001_0001 0x7_0001_0003 ≡ 0x4_0003
low_product_wraps = refl

low_quotient : operate 32 (Binary Div) 0x5_ffff_fffe 2 ≡ 0x7fff_ffff
low_quotient = refl

low_remainder : operate 32 (Binary Mod) 0x5_ffff_ffff 10 ≡ 5
low_remainder = refl

low_signed_quotient : operate 32 (Binary SignedDiv) 0xffff_fff9 2 ≡ 0xffff_fffd
low_signed_quotient = refl

low_signed_remainder : operate 32 (Binary SignedMod) 0xffff_fff9 2 ≡ 0xffff_ffff
low_signed_remainder = refl

low_common_digits : operate 32 (Binary And) 0xf0f0_1234_0000_000c 0x0ff0_4321_0000_000a ≡ 8
low_common_digits = refl

low_digits_of_either : operate 32 (Binary Or) 0xf0f0_1234_0000_000c 0x0ff0_4321_0000_000a ≡ 0xe
low_digits_of_either = refl

low_digits_of_one : operate 32 (Binary Xor) 0xf0f0_1234_0000_000c 0x0ff0_4321_0000_000a ≡ 6
low_digits_of_one = refl

low_shift_right_brings_zeros : operate 32 (Binary ShiftRight) 0x1_8000_0000 33 ≡ 0x4000_0000
low_shift_right_brings_zeros = refl

low_move : operate 32 (Binary Mov) 7 0xffff_ffff_0000_0001 ≡ 1
low_move = refl

low_sign_of_a_byte : operate 32 (SignExtend narrow.Bits8) 0 0x80 ≡ 0xffff_ff80
low_sign_of_a_byte = refl

low_halves_differ : compares 32 NotEqual 0x1_0000_0005 6 ≡ true
low_halves_differ = refl

low_halves_do_not_differ : compares 32 NotEqual 0x1_0000_0005 5 ≡ false
low_halves_do_not_differ = refl

low_half_not_above : compares 32 Above 0x1_0000_0001 2 ≡ false
low_half_not_above = refl

low_half_at_least : compares 32 AboveOrEqual 1 0x1_0000_0001 ≡ true
low_half_at_least = refl

low_half_below : compares 32 Below 0x1_0000_0001 2 ≡ true
low_half_below = refl

low_half_at_most : compares 32 BelowOrEqual 0x1_0000_0002 2 ≡ true
low_half_at_most = refl

low_zero_above_minus_one : compares 32 SignedAbove 0 0xffff_ffff ≡ true
low_zero_above_minus_one = refl

low_minus_one_not_at_least_zero : compares 32 SignedAboveOrEqual 0xffff_ffff 0 ≡ false
low_minus_one_not_at_least_zero = refl

low_minus_one_at_most_zero : compares 32 SignedBelowOrEqual 0xffff_ffff 0 ≡ true
low_minus_one_at_most_zero = refl

upper_digits_do_not_meet : compares 32 CommonBit 0x1_0000_0006 0x1_0000_0009 ≡ false
upper_digits_do_not_meet = refl

low_digits_meet : compares 32 CommonBit 0x1_0000_0006 3 ≡ true
low_digits_meet = refl

-- ---- the stack (linux/filter.h)

lowest_byte : byte_index (neg_ℤ (pos 512)) ≡ 0
lowest_byte = refl

whole_stack : is_in_stack (neg_ℤ (pos 512)) 512 ≡ true
whole_stack = refl

past_the_upper_end : is_in_stack (neg_ℤ (pos 4)) 8 ≡ false
past_the_upper_end = refl

below_the_lowest_byte : is_in_stack (neg_ℤ (pos 513)) 1 ≡ false
below_the_lowest_byte = refl

aligned_to_four : is_aligned (neg_ℤ (pos 12)) 4 ≡ true
aligned_to_four = refl

not_aligned_to_eight : is_aligned (neg_ℤ (pos 12)) 8 ≡ false
not_aligned_to_eight = refl

last_byte_of_a_slot : touches 7 2 0 ≡ true
last_byte_of_a_slot = refl

first_byte_of_the_next : touches 7 2 1 ≡ true
first_byte_of_the_next = refl

next_slot_alone : touches 8 8 0 ≡ false
next_slot_alone = refl
