-- The hull includes both ranges and is the least range that does; it is commutative and associative.
use Rattle.std.proofs.Common.{◌≡◌, ℕ, arith}
use Rattle.std.proofs.Math.Nat.{le_refl}
use Rattle.interval.specs.declared.range.Range.{Range}
use Rattle.interval.specs.Ranges.{IsMember, hull}
use Rattle.interval.proofs.Ranges.{same_range}

-- the hull of two ranges includes the members of both
pub hull_holds : (a b : Range) (x : ℕ) → (IsMember x a → IsMember x (hull a b)) × (IsMember x b → IsMember x (hull a b))
hull_holds a b x = (
  (λ (h : IsMember x a). record { from = omega (arith, h.from); to = omega (arith, h.to) }),
  (λ (h : IsMember x b). record { from = omega (arith, h.from); to = omega (arith, h.to) }),
)

pub hull_is_least : (a b c : Range)
    → ((x : ℕ) → IsMember x a → IsMember x c) → ((x : ℕ) → IsMember x b → IsMember x c)
    → (x : ℕ) → IsMember x (hull a b)
    → IsMember x c
hull_is_least a b c of_a of_b x h =
    let low_a = of_a a.lo (record { from = le_refl a.lo; to = a.ordered }) in
    let high_a = of_a a.hi (record { from = a.ordered; to = le_refl a.hi }) in
    let low_b = of_b b.lo (record { from = le_refl b.lo; to = b.ordered }) in
    let high_b = of_b b.hi (record { from = b.ordered; to = le_refl b.hi }) in
    record { from = omega (arith, h.from, low_a.from, low_b.from); to = omega (arith, h.to, high_a.to, high_b.to) }

-- the hull is commutative
pub hull_commutes : (a b : Range) → hull a b ≡ hull b a
hull_commutes a b = same_range (hull a b) (hull b a) (omega arith) (omega arith)

-- the hull is associative
pub hull_associates : (a b c : Range) → hull (hull a b) c ≡ hull a (hull b c)
hull_associates a b c = same_range (hull (hull a b) c) (hull a (hull b c)) (omega arith) (omega arith)
