-- A second join with the same kind or slot changes nothing.
use Rattle.std.proofs.Common.{◌≡◌, ℕ, ◌≤◌, ◌==◌, ◌&&◌, bit_and, refl, ap, ap₂, subst, ◌∙◌, arith}
use Rattle.std.proofs.Props.{props}
use Rattle.std.proofs.lemmas.Bool.{cond-true}
use Rattle.std.proofs.lemmas.Int.{ints, clamps}
use Rattle.std.proofs.lemmas.Nat.{and_assoc}
use Rattle.std.specs.Int.Bits.{and_zero_l, and_self}
use Rattle.std.specs.Ordering.{int_eq}
use Rattle.interval.specs.declared.range.Range.{Range}
use Rattle.interval.specs.Ranges.{hull}
use Rattle.reg_kinds.specs.declared.kind.ValuePointer.{ValuePointer}
use Rattle.reg_kinds.specs.declared.kind.Kind.{Kind}
use Rattle.reg_kinds.specs.declared.kind.Kind.TheVariants.{Unreadable, Scalar, MapRef, Stack, Ctx, Value, MaybeValue}
use Rattle.reg_kinds.specs.declared.kind.Slot.TheVariants.{Bytes, Spill}
use Rattle.reg_kinds.specs.Pointers.{offsets_hull}
use Rattle.reg_kinds.specs.Join.{kind_join, spilled}
use Rattle.reg_kinds.specs.Laws.{KindsAssociate, SlotsAbsorb}
use Rattle.reg_kinds.proofs.FactLaws.{first_spilled}
use Rattle.reg_kinds.proofs.JoinedByTest.{number_test, offset_test}
use Rattle.reg_kinds.proofs.PointerLemmas.{same_pointer}

-- ---- a kind, joined with itself

abbrev made : (lo hi : ℕ) → lo ≤ hi → Range
made lo hi h = record { lo = lo; hi = hi; ordered = h }

order_prop : (x y : ℕ) → IsProp (x ≤ y)
order_prop x y = hlevel props

same_range : (lo hi lo' hi' : ℕ) (p : lo ≤ hi) (q : lo' ≤ hi') → lo ≡ lo' → hi ≡ hi' → made lo hi p ≡ made lo' hi' q
same_range lo hi lo' hi' p q e f =
    let same : (h : lo ≤ hi) → made lo hi p ≡ made lo hi h = λ h. ap (made lo hi) (order_prop lo hi p h) in
    let moved : (h : lo' ≤ hi) → made lo hi p ≡ made lo' hi h =
    subst (λ (x : ℕ). (h : x ≤ hi) → made lo hi p ≡ made x hi h) e same in
    subst (λ (y : ℕ). (h : lo' ≤ y) → made lo hi p ≡ made lo' y h) f moved q

-- the hull of a range and a range that it includes
pub hull_holds : (a b : Range) → a.lo ≤ b.lo → b.hi ≤ a.hi → hull a b ≡ a
hull_holds a b low high =
    same_range (hull a b).lo (hull a b).hi a.lo a.hi (hull a b).ordered a.ordered
    (omega (arith, low)) (omega (arith, high))

hull_itself : (a : Range) → hull a a ≡ a
hull_itself a =
    same_range (hull a a).lo (hull a a).hi a.lo a.hi (hull a a).ordered a.ordered (omega arith) (omega arith)

-- the hull of a pointer's offsets with themselves is the pointer
pub offsets_itself : (p : ValuePointer) → offsets_hull p p ≡ p
offsets_itself p = same_pointer (offsets_hull p p) p refl (omega (arith, ints, clamps)) (omega (arith, ints, clamps))

-- the join of a kind with itself is the kind
pub kinds_itself : (k : Kind) → kind_join k k ≡ k
kinds_itself Unreadable = refl
kinds_itself (Scalar a) = ap Scalar (hull_itself a)
kinds_itself (MapRef m) = cond-true (m == m) (MapRef m) Unreadable (number_test.laws.refl m)
kinds_itself (Stack x) = cond-true (int_eq x x) (Stack x) Unreadable (offset_test.laws.refl x)
kinds_itself Ctx = refl
kinds_itself (Value p) =
    cond-true (p.map == p.map) (Value (offsets_hull p p)) Unreadable (number_test.laws.refl p.map)
    ∙ ap Value (offsets_itself p)
kinds_itself (MaybeValue m s) =
    cond-true ((m == m) && (s == s)) (MaybeValue m s) Unreadable
    (ap₂ (◌&&◌) (number_test.laws.refl m) (number_test.laws.refl s))

-- ---- slots

-- a second join with the same slot changes nothing
pub slots_absorb : KindsAssociate → SlotsAbsorb
slots_absorb h (Bytes x) (Bytes y) = ap Bytes (and_assoc y x y ∙ ap (bit_and x) (and_self y))
slots_absorb h (Bytes x) (Spill k) = refl
slots_absorb h (Spill j) (Bytes y) = ap Bytes (and_zero_l y)
slots_absorb h (Spill j) (Spill k) =
    first_spilled (kind_join j k) k
    ∙ ap spilled (h j k k ∙ ap (kind_join j) (kinds_itself k))
