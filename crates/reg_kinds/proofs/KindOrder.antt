-- The join of kinds is commutative.
use Rattle.std.proofs.Common.{◌≡◌, ℕ, refl, ap}
use Rattle.interval.specs.Laws.{HullCommutes}
use Rattle.reg_kinds.specs.declared.kind.Kind.{Kind}
use Rattle.reg_kinds.specs.declared.kind.Kind.TheVariants.{Unreadable, Scalar, MapRef, Stack, Ctx, Value, MaybeValue}
use Rattle.reg_kinds.specs.Pointers.{offsets_hull}
use Rattle.reg_kinds.specs.Join.{kind_join}
use Rattle.reg_kinds.proofs.JoinedByTest.{joined_commutes, number_test, offset_test, pair_test, map_test, hull_turned}

-- the join of kinds is commutative, if the hull of ranges is
pub kinds_commute : HullCommutes → (j k : Kind) → kind_join j k ≡ kind_join k j
kinds_commute h Unreadable Unreadable = refl
kinds_commute h (Scalar a) (Scalar b) = ap Scalar (h a b)
kinds_commute h (MapRef m) (MapRef n) = joined_commutes MapRef number_test (λ x y. x) (λ x y e. ap MapRef e) m n
kinds_commute h (Stack x) (Stack y) = joined_commutes Stack offset_test (λ x y. x) (λ x y e. ap Stack e) x y
kinds_commute h Ctx Ctx = refl
kinds_commute h (Value p) (Value q) =
    joined_commutes Value map_test offsets_hull (λ x y e. ap Value (hull_turned x y e)) p q
kinds_commute h (MaybeValue m s) (MaybeValue n t) =
    joined_commutes (λ (p : ℕ × ℕ). MaybeValue p.0 p.1) pair_test (λ x y. x)
    (λ x y e. ap (λ (p : ℕ × ℕ). MaybeValue p.0 p.1) e)
    (m, s) (n, t)
kinds_commute h _ _ = refl
