-- The table of ranges, as the code computes it.
use Rattle.std.proofs.Common.{◌≡◌, ℕ, ◌^◌, ◌<◌, ◌≤◌, true, false, refl, sym, ap, ap₂, subst, ◌∙◌, arith}
use Rattle.std.proofs.Math.Nat.{mod-eq_of_lt}
use Rattle.std.proofs.lemmas.Bool.{cond-true, cond-false}
use Rattle.interval.specs.declared.range.Range.{Range}
use Rattle.words.specs.declared.operator.KeptBits.{KeptBits}
use Rattle.words.specs.declared.operator.ByteOrder.{ByteOrder}
use Rattle.words.specs.declared.operator.Operator.{Operator}
use Rattle.words.specs.declared.operator.Operator.TheVariants.{Binary, Neg, SignExtend, End}
use Rattle.words.specs.Operate.{combined, operate}
use Rattle.interval.specs.Ranges.{IsMember, constant}
use Rattle.interval.specs.Table.{are_constants, general_range, result_range, operand_range, range_of}
use Rattle.interval.proofs.Sound.{Sees, table_sound, sees_64, sees_32}

from_constants : (n : ℕ) (op : Operator) (a b r : Range) (v : ℕ)
    → are_constants op a b ≡ true → v ≡ combined n op a.lo b.lo
    → r ≡ constant v
    → r ≡ result_range n op a b
from_constants n op a b r v t e f =
    f
    ∙ (ap constant e
    ∙ sym (cond-true (are_constants op a b) (constant (combined n op a.lo b.lo)) (general_range n op a b) t))

from_spread : (n : ℕ) (op : Operator) (a b r : Range)
    → are_constants op a b ≡ false → r ≡ general_range n op a b
    → r ≡ result_range n op a b
from_spread n op a b r t f =
    f ∙ sym (cond-false (are_constants op a b) (constant (combined n op a.lo b.lo)) (general_range n op a b) t)

-- r is the range in the table, and includes the result of every two members
pub record IsRange (n : ℕ) (op : Operator) (a b r : Range) : Type 0 where
  -- r is the table's range
  pub exact : r ≡ range_of n op a b
  -- r includes the operator's result for every two members
  pub sound : (x y : ℕ) → IsMember x a → IsMember y b → IsMember (operate n op x y) r

by_table : (n : ℕ) (op : Operator) (a b r : Range)
    → r ≡ range_of n op a b → 2 ^ n ≤ 2 ^ 64
    → ((x : ℕ) → IsMember x a → Sees n a x) → ((y : ℕ) → IsMember y b → Sees n b y)
    → IsRange n op a b r
by_table n op a b r e w f g = record {
  exact = e;
  sound = λ x y h k. subst (IsMember (operate n op x y)) (sym e) (table_sound n op a b x y w h k (f x h) (g y k));
}

-- ---- on 64 bits an operator reads the whole word

wide_range : (op : Operator) (a b : Range) → result_range 64 op a b ≡ range_of 64 op a b
wide_range (Binary op) a b = refl
wide_range Neg a b = refl
wide_range (SignExtend from) a b = refl
wide_range (End how kept) a b = refl

wide_result : (op : Operator) (x y : ℕ) → operate 64 op x y ≡ combined 64 op x y
wide_result (Binary op) x y = refl
wide_result Neg x y = refl
wide_result (SignExtend from) x y = refl
wide_result (End how kept) x y = refl

module _ (op : Operator) (a b r : Range) (first : a.hi < 2 ^ 64) (second : b.hi < 2 ^ 64) where
  wide : r ≡ result_range 64 op a b → IsRange 64 op a b r
  wide e = by_table 64 op a b r (e ∙ wide_range op a b) (omega arith) (λ x. sees_64 a x first) (λ y. sees_64 b y second)

  -- on 64 bits, if the operands that are read are constants, the constant of their result is the table's range
  pub wide_constants : (v : ℕ)
      → are_constants op a b ≡ true → v ≡ operate 64 op a.lo b.lo
      → r ≡ constant v
      → IsRange 64 op a b r
  wide_constants v t e f = wide (from_constants 64 op a b r v t (e ∙ wide_result op a.lo b.lo) f)

  -- on 64 bits, if an operand that is read is no constant, the range by the operands' ends is the table's
  pub wide_spread : are_constants op a b ≡ false → r ≡ general_range 64 op a b → IsRange 64 op a b r
  wide_spread t f = wide (from_spread 64 op a b r t f)

-- ---- on 32 bits it reads the low halves, except for a byte-order conversion

abbrev pub IsNoEnd : Operator → Type 0
IsNoEnd op = (how : ByteOrder) (kept : KeptBits) → op ≡ End how kept → ⊥

narrow_range : (op : Operator) (a b : Range)
    → IsNoEnd op → result_range 32 op (operand_range 32 a) (operand_range 32 b) ≡ range_of 32 op a b
narrow_range (End how kept) a b f = absurd (f how kept refl)
narrow_range op a b f = refl

narrow_result : (op : Operator) (x y : ℕ)
    → IsNoEnd op → x < 2 ^ 32 → y < 2 ^ 32 → operate 32 op x y ≡ combined 32 op x y
narrow_result (End how kept) x y f p q = absurd (f how kept refl)
narrow_result op x y f p q = ap₂ (combined 32 op) (mod-eq_of_lt p) (mod-eq_of_lt q)

-- a and b are the low halves of ranges u and v
module _ (op : Operator) (u v a b r : Range) (no_end : IsNoEnd op) (first : a ≡ operand_range 32 u)
    (second : b ≡ operand_range 32 v) where
  narrow : r ≡ result_range 32 op a b → IsRange 32 op u v r
  narrow e =
      by_table 32 op u v r
      (e ∙ ap₂ (result_range 32 op) first second ∙ narrow_range op u v no_end)
      (omega arith) (sees_32 u) (sees_32 v)

  -- on 32 bits, if the low halves that are read are constants, the constant of their result is the table's range
  pub narrow_constants : (value : ℕ)
      → a.lo < 2 ^ 32 → b.lo < 2 ^ 32
      → are_constants op a b ≡ true → value ≡ operate 32 op a.lo b.lo
      → r ≡ constant value
      → IsRange 32 op u v r
  narrow_constants value p q t e f =
      narrow (from_constants 32 op a b r value t (e ∙ narrow_result op a.lo b.lo no_end p q) f)

  -- on 32 bits, if a low half that is read is no constant, the range by the low halves' ends is the table's
  pub narrow_spread : are_constants op a b ≡ false → r ≡ general_range 32 op a b → IsRange 32 op u v r
  narrow_spread t f = narrow (from_spread 32 op a b r t f)
