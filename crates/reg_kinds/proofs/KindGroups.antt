-- The join of kinds is associative.
use Rattle.std.proofs.Common.{◌≡◌, ℕ, Bool, true, not, ◌==◌, ◌&&◌, refl, sym, ap, ◌∙◌}
use Rattle.std.proofs.lemmas.Bool.{cond_both}
use Rattle.std.specs.Ordering.{int_eq}
use Rattle.interval.specs.Ranges.{hull}
use Rattle.interval.specs.Laws.{HullCommutes, HullAssociates}
use Rattle.reg_kinds.specs.declared.kind.Kind.{Kind}
use Rattle.reg_kinds.specs.declared.kind.Kind.TheVariants.{Unreadable, Scalar, MapRef, Stack, Ctx, Value, MaybeValue}
use Rattle.reg_kinds.specs.Pointers.{offsets_hull}
use Rattle.reg_kinds.specs.Join.{kind_join}
use Rattle.reg_kinds.proofs.JoinedByTest.{joined_associates, number_test, offset_test, pair_test, map_test, hull_regrouped}
use Rattle.reg_kinds.proofs.KindOrder.{kinds_commute}

abbrev constructor_of : Kind → ℕ
constructor_of Unreadable = 0
constructor_of (Scalar a) = 1
constructor_of (MapRef m) = 2
constructor_of (Stack x) = 3
constructor_of Ctx = 4
constructor_of (Value p) = 5
constructor_of (MaybeValue m s) = 6

abbrev differ : Kind → Kind → Bool
differ i j = not (constructor_of i == constructor_of j)

-- the join of a kind with that of what may not be read is the latter
pub nothing_last : (i : Kind) → kind_join i Unreadable ≡ Unreadable
nothing_last Unreadable = refl
nothing_last _ = refl

-- the join of kinds with different constructors is unreadable
different : (i j : Kind) → differ i j ≡ true → kind_join i j ≡ Unreadable
different Unreadable j d = refl
different (Scalar a) (Scalar b) d = absurd (cc)
different (MapRef m) (MapRef n) d = absurd (cc)
different (Stack x) (Stack y) d = absurd (cc)
different Ctx Ctx d = absurd (cc)
different (Value p) (Value q) d = absurd (cc)
different (MaybeValue m s) (MaybeValue n t) d = absurd (cc)
different _ _ d = refl

-- if i and j have different constructors, the join of i with a join of j is unreadable
different_from_join : (i j k : Kind) → differ i j ≡ true → kind_join i (kind_join j k) ≡ Unreadable
different_from_join i (Scalar a) (Scalar b) d = different i (Scalar (hull a b)) d
different_from_join i (MapRef m) (MapRef n) d =
    cond_both (m == n) (MapRef m) Unreadable (λ x. kind_join i x ≡ Unreadable)
    (λ _. different i (MapRef m) d) (λ _. nothing_last i)
different_from_join i (Stack x) (Stack y) d =
    cond_both (int_eq x y) (Stack x) Unreadable (λ x. kind_join i x ≡ Unreadable)
    (λ _. different i (Stack x) d) (λ _. nothing_last i)
different_from_join i Ctx Ctx d = different i Ctx d
different_from_join i (Value p) (Value q) d =
    cond_both (p.map == q.map) (Value (offsets_hull p q)) Unreadable
    (λ x. kind_join i x ≡ Unreadable) (λ _. different i (Value (offsets_hull p q)) d)
    (λ _. nothing_last i)
different_from_join i (MaybeValue m s) (MaybeValue n t) d =
    cond_both ((m == n) && (s == t)) (MaybeValue m s) Unreadable (λ x. kind_join i x ≡ Unreadable)
    (λ _. different i (MaybeValue m s) d) (λ _. nothing_last i)
different_from_join i _ _ d = nothing_last i

first_differs : (i j k : Kind) → differ i j ≡ true → kind_join (kind_join i j) k ≡ kind_join i (kind_join j k)
first_differs i j k d = ap (λ x. kind_join x k) (different i j d) ∙ sym (different_from_join i j k d)

-- the same for the other order of the three kinds, by commutativity
last_differs : HullCommutes
    → (i j k : Kind) → differ k j ≡ true
    → kind_join (kind_join i j) k ≡ kind_join i (kind_join j k)
last_differs h i j k d =
    kinds_commute h (kind_join i j) k
    ∙ (ap (kind_join k) (kinds_commute h i j)
    ∙ (sym (first_differs k j i d) ∙ (kinds_commute h (kind_join k j) i ∙ ap (kind_join i) (kinds_commute h k j))))

-- the join of kinds is associative, if the hull of ranges is commutative and associative
pub kinds_associate : HullCommutes
    → HullAssociates
    → (i j k : Kind) → kind_join (kind_join i j) k ≡ kind_join i (kind_join j k)
kinds_associate h g Unreadable j k = refl
kinds_associate h g (Scalar a) (Scalar b) (Scalar c) = ap Scalar (g a b c)
kinds_associate h g (Scalar a) (Scalar b) k = last_differs h (Scalar a) (Scalar b) k refl
kinds_associate h g (MapRef l) (MapRef m) (MapRef n) =
    joined_associates MapRef number_test (λ x y. x) (λ x y. refl) (λ x. refl) (λ x. refl)
    (λ x y z. refl) (λ x y z. refl) (λ x y z. refl) l m
    n
kinds_associate h g (MapRef l) (MapRef m) k = last_differs h (MapRef l) (MapRef m) k refl
kinds_associate h g (Stack x) (Stack y) (Stack z) =
    joined_associates Stack offset_test (λ x y. x) (λ x y. refl) (λ x. refl) (λ x. refl)
    (λ x y z. refl) (λ x y z. refl) (λ x y z. refl) x y
    z
kinds_associate h g (Stack x) (Stack y) k = last_differs h (Stack x) (Stack y) k refl
kinds_associate h g Ctx Ctx Ctx = refl
kinds_associate h g Ctx Ctx k = last_differs h Ctx Ctx k refl
kinds_associate h g (Value p) (Value q) (Value r) =
    joined_associates Value map_test offsets_hull (λ x y. refl) (λ x. refl) (λ x. refl)
    (λ x y z. refl) (λ x y z. refl) (λ x y z. ap Value (hull_regrouped x y z))
    p q r
kinds_associate h g (Value p) (Value q) k = last_differs h (Value p) (Value q) k refl
kinds_associate h g (MaybeValue l s) (MaybeValue m t) (MaybeValue n u) =
    joined_associates (λ (p : ℕ × ℕ). MaybeValue p.0 p.1) pair_test (λ x y. x) (λ x y. refl)
    (λ x. refl) (λ x. refl) (λ x y z. refl) (λ x y z. refl)
    (λ x y z. refl) (l, s) (m, t) (n, u)
kinds_associate h g (MaybeValue l s) (MaybeValue m t) k = last_differs h (MaybeValue l s) (MaybeValue m t) k refl
kinds_associate h g i j k = first_differs i j k refl
