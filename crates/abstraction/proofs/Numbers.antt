-- The numbers that loads give are words of the predicted kind.
use Rattle.std.proofs.Common.{ℕ, ◌-◌, ◌*◌, ◌%◌, ◌^◌, ◌<◌, ◌≤◌, Bool, true, false, refl, arith}
use Rattle.words.specs.declared.stack.AccessSize.{AccessSize}
use Rattle.words.specs.declared.stack.AccessSize.TheVariants.{Byte, Half, Word, Double}
use Rattle.words.specs.Words.{signed}
use Rattle.words.specs.SignLaws.{unsigned_small}
use Rattle.words.specs.Stack.{bytes_of}
use Rattle.interval.specs.Ranges.{full}
use Rattle.reg_kinds.specs.Stack.{loaded}
use Rattle.tagged_model.specs.declared.value.Tagged.TheVariants.{Scalar}
use Rattle.tagged_model.specs.Cells.{widened}
use Rattle.abstraction.specs.Admits.{Witness, IsOfKind, IsScalarOf}

in_full : (x y w : ℕ) → x < y → y ≤ w → (0 ≤ x) × (x ≤ y - 1) × (x < w)
in_full x y w h g = (omega arith, omega arith, omega arith)

-- a number of k bits, at most 64, is a value of the kind of all such numbers
pub full_scalar : (k x : ℕ) → x < 2 ^ k → 2 ^ k ≤ 2 ^ 64 → IsScalarOf (full k) (Scalar x)
full_scalar k x h g = let p = in_full x (2 ^ k) (2 ^ 64) h g in (x, refl, record { from = p.0; to = p.1 }, p.2)

-- a number of this many bytes, sign-extended or zero-extended
pub widened_is : (witness : Witness) (size : AccessSize) (signed : Bool) (x : ℕ)
    → x < 256 ^ bytes_of size
    → IsOfKind witness (loaded size signed) (Scalar (widened size signed x))
widened_is witness size true x h =
    full_scalar 64 (widened size true x)
    (unsigned_small (signed (8 * bytes_of size) (x % 2 ^ (8 * bytes_of size))))
    (omega arith)
widened_is witness Byte false x h = full_scalar 8 x h (omega arith)
widened_is witness Half false x h = full_scalar 16 x h (omega arith)
widened_is witness Word false x h = full_scalar 32 x h (omega arith)
widened_is witness Double false x h = full_scalar 64 x h (omega arith)
