-- An access that the facts permit lies in the stack, in one slot.
use Rattle.std.proofs.Common.{◌≡◌, ℕ, ◌/◌, ◌%◌, ◌<◌, ◌&&◌, not, ℤ, Bool, true, false, if◌then◌else◌, Result, Ok, Err, Some, None, refl, arith}
use Rattle.std.proofs.lemmas.Bool.{cond-true, and_from, eqb-true}
use Rattle.reg_kinds.specs.declared.reason.Reason.{Reason}
use Rattle.reg_kinds.specs.declared.reason.Reason.TheVariants.{OutsideStack, UnalignedStack}
use Rattle.words.specs.declared.stack.AccessSize.{AccessSize}
use Rattle.words.specs.declared.stack.AccessSize.TheVariants.{Byte, Half, Word, Double}
use Rattle.words.specs.Stack.{bytes_of, is_in_stack, byte_index, is_aligned}
use Rattle.reg_kinds.specs.Reason.{and_then_ok}
use Rattle.reg_kinds.specs.Stack.{byte_bits, touched}
use Rattle.tagged_model.specs.State.{access_start}

-- ---- results

-- a result is not both a reason and a value
pub refused : {A : Type 0} (r : Reason) (y : A) → Err r ≡ Ok y → ⊥
refused r y e = cc

-- equal results have equal values
pub same_ok : {A : Type 0} (x y : A) → ◌≡◌ {A = Result A Reason} (Ok x) (Ok y) → x ≡ y
same_ok x y e = cc

-- a result after a test is Ok only if the test holds
pub chosen : {A : Type 0} (b : Bool) (x y : A) (r : Reason) → (if b then Ok x else Err r) ≡ Ok y → (b ≡ true) × (x ≡ y)
chosen true x y r e = (refl, same_ok x y e)
chosen false x y r e = absurd (refused r y e)

-- if two steps in sequence are Ok, so is each of them
pub given_ok : {A B : Type 0} (r : Result A Reason) (f : A → Result B Reason) (y : B)
    → and_then_ok r f ≡ Ok y → (x : A) × (r ≡ Ok x) × (f x ≡ Ok y)
given_ok (Ok x) f y e = (x, refl, e)
given_ok (Err r) f y e = absurd (refused r y e)

-- ---- byte indices

after_tests : {B : Type 0} (a b : Bool) (t : ℕ × ℕ) (f : ℕ × ℕ → Result B Reason) (y : B)
    → and_then_ok (if not a then Err OutsideStack else (if not b then Err UnalignedStack else Ok t)) f ≡ Ok y
    → (a ≡ true) × (b ≡ true) × (f t ≡ Ok y)
after_tests true true t f y e = (refl, refl, e)
after_tests true false t f y e = absurd (refused UnalignedStack y e)
after_tests false b t f y e = absurd (refused OutsideStack y e)

-- the byte index of an access that is permitted, its alignment, and the result of what follows
pub at_byte_index : {B : Type 0} (offset : ℤ) (size : AccessSize) (f : ℕ × ℕ → Result B Reason) (y : B)
    → and_then_ok (touched offset size) f ≡ Ok y
    → (access_start offset size ≡ Some (byte_index offset))
    × (byte_index offset % bytes_of size ≡ 0)
    × (f (byte_index offset / 8, byte_bits (byte_index offset) (bytes_of size)) ≡ Ok y)
at_byte_index offset size f y e =
    let n = bytes_of size in
    let p = byte_index offset in
    let h = after_tests (is_in_stack offset n) (is_aligned offset n) (p / 8, byte_bits p n) f y e in (
      cond-true (is_in_stack offset n && is_aligned offset n) (Some p) None
          (and_from (is_in_stack offset n) (is_aligned offset n) h.0 h.1),
      eqb-true (p % n) 0 h.1,
      h.2,
    )

-- each access has a byte
pub some_bytes : (size : AccessSize) → 0 < bytes_of size
some_bytes Byte = omega arith
some_bytes Half = omega arith
some_bytes Word = omega arith
some_bytes Double = omega arith
