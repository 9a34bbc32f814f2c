-- Kinds that have a join only if a test of their contents holds.
use Rattle.std.proofs.Common.{◌≡◌, ℕ, ℤ, Bool, true, false, ◌==◌, ◌&&◌, if◌then◌else◌, refl, sym, ap, ap₂, ◌∙◌, inl, inr, arith}
use Rattle.std.proofs.lemmas.Bool.{cond-true, cond-false, cases_Bool, and_parts, eqb-true}
use Rattle.std.proofs.lemmas.Bool.Decides.{Decides-int_eq}
use Rattle.std.proofs.lemmas.Cmp.{int_eq_equiv, nat_eq_equiv}
use Rattle.std.proofs.lemmas.Int.{ints, clamps}
use Rattle.std.specs.Cmp.{IsEquivalence}
use Rattle.std.specs.Ordering.{int_eq}
use Rattle.reg_kinds.specs.declared.kind.ValuePointer.{ValuePointer}
use Rattle.reg_kinds.specs.declared.kind.Kind.{Kind}
use Rattle.reg_kinds.specs.declared.kind.Kind.TheVariants.{Unreadable}
use Rattle.reg_kinds.specs.Pointers.{offsets_hull}
use Rattle.reg_kinds.specs.Join.{kind_join}
use Rattle.reg_kinds.proofs.PointerLemmas.{same_pointer}

-- a test that is an equivalence, and the relation that it implies
pub record Test (X : Type 0) (Same : X → X → Type 0) : Type 0 where
  -- the test
  pub test : X → X → Bool
  -- the test is an equivalence
  pub laws : IsEquivalence test
  -- elements that pass the test are related
  pub tells : (x y : X) → test x y ≡ true → Same x y

abbrev pub joined : {X : Type 0} → (X → Kind) → (X → X → Bool) → (X → X → X) → X → X → Kind
joined C test merge x y = if test x y then C (merge x y) else Unreadable

-- a join by a test is commutative, if the merge of related elements is
pub joined_commutes : {X : Type 0} {Same : X → X → Type 0} (C : X → Kind) (by : Test X Same)
    (merge : X → X → X)
    → ((x y : X) → Same x y → C (merge x y) ≡ C (merge y x))
    → (x y : X) → joined C by.test merge x y ≡ joined C by.test merge y x
joined_commutes C by merge m x y =
    elim (cases_Bool (by.test x y)) [
      | inl t ↦ cond-true (by.test x y) (C (merge x y)) Unreadable t
          ∙ (m x y (by.tells x y t) ∙ sym (cond-true (by.test y x) (C (merge y x)) Unreadable (by.laws.symm y x ∙ t)))
      | inr t ↦ cond-false (by.test x y) (C (merge x y)) Unreadable t
          ∙ sym (cond-false (by.test y x) (C (merge y x)) Unreadable (by.laws.symm y x ∙ t))
    ]

module _ {X : Type 0} {Same : X → X → Type 0} (C : X → Kind) (by : Test X Same) (merge : X → X → X) where
  yes : (x y : X) → by.test x y ≡ true → joined C by.test merge x y ≡ C (merge x y)
  yes x y t = cond-true (by.test x y) (C (merge x y)) Unreadable t

  no : (x y : X) → by.test x y ≡ false → joined C by.test merge x y ≡ Unreadable
  no x y t = cond-false (by.test x y) (C (merge x y)) Unreadable t

  module _
      (kj : (x y : X) → kind_join (C x) (C y) ≡ joined C by.test merge x y)
      (ul : (z : X) → kind_join Unreadable (C z) ≡ Unreadable)
      (ur : (x : X) → kind_join (C x) Unreadable ≡ Unreadable)
      (ml : (x y z : X) → by.test (merge x y) z ≡ by.test x z)
      (mr : (x y z : X) → by.test x (merge y z) ≡ by.test x y) where
    -- the join of the first two with a third
    left_yes : (x y z : X)
        → by.test x y ≡ true
        → kind_join (joined C by.test merge x y) (C z) ≡ joined C by.test merge (merge x y) z
    left_yes x y z t = ap (λ i. kind_join i (C z)) (yes x y t) ∙ kj (merge x y) z

    left_no : (x y z : X) → by.test x y ≡ false → kind_join (joined C by.test merge x y) (C z) ≡ Unreadable
    left_no x y z t = ap (λ i. kind_join i (C z)) (no x y t) ∙ ul z

    right_yes : (x y z : X)
        → by.test y z ≡ true
        → kind_join (C x) (joined C by.test merge y z) ≡ joined C by.test merge x (merge y z)
    right_yes x y z t = ap (kind_join (C x)) (yes y z t) ∙ kj x (merge y z)

    right_no : (x y z : X) → by.test y z ≡ false → kind_join (C x) (joined C by.test merge y z) ≡ Unreadable
    right_no x y z t = ap (kind_join (C x)) (no y z t) ∙ ur x

    both_ways : (x y z : X)
        → C (merge (merge x y) z) ≡ C (merge x (merge y z))
        → kind_join (joined C by.test merge x y) (C z) ≡ kind_join (C x) (joined C by.test merge y z)
    both_ways x y z m =
        elim (cases_Bool (by.test x y)) [
          | inl t ↦ elim (cases_Bool (by.test y z)) [
            | inl u ↦ left_yes x y z t
                ∙ (yes (merge x y) z (ml x y z ∙ (by.laws.congr x y z t ∙ u))
                ∙ (m ∙ sym (right_yes x y z u ∙ yes x (merge y z) (mr x y z ∙ t))))
            | inr u ↦ left_yes x y z t
                ∙ (no (merge x y) z (ml x y z ∙ (by.laws.congr x y z t ∙ u)) ∙ sym (right_no x y z u))
          ]
          | inr t ↦ elim (cases_Bool (by.test y z)) [
            | inl u ↦ left_no x y z t ∙ sym (right_yes x y z u ∙ no x (merge y z) (mr x y z ∙ t))
            | inr u ↦ left_no x y z t ∙ sym (right_no x y z u)
          ]
        ]

-- a join by a test is associative, if the merge is and does not change the test
pub joined_associates : {X : Type 0} {Same : X → X → Type 0} (C : X → Kind) (by : Test X Same)
    (merge : X → X → X)
    → ((x y : X) → kind_join (C x) (C y) ≡ joined C by.test merge x y)
    → ((z : X) → kind_join Unreadable (C z) ≡ Unreadable)
    → ((x : X) → kind_join (C x) Unreadable ≡ Unreadable)
    → ((x y z : X) → by.test (merge x y) z ≡ by.test x z)
    → ((x y z : X) → by.test x (merge y z) ≡ by.test x y)
    → ((x y z : X) → C (merge (merge x y) z) ≡ C (merge x (merge y z)))
    → (x y z : X)
    → kind_join (joined C by.test merge x y) (C z) ≡ kind_join (C x) (joined C by.test merge y z)
joined_associates C by merge kj ul ur ml mr ma x y z = both_ways C by merge kj ul ur ml mr x y z (ma x y z)

-- ---- the tests of the kinds

abbrev pub number_test : Test ℕ (λ x y. x ≡ y)
number_test = record { test = λ x y. x == y; laws = nat_eq_equiv; tells = eqb-true }

abbrev pub offset_test : Test ℤ (λ x y. x ≡ y)
offset_test = record { test = int_eq; laws = int_eq_equiv; tells = λ x y. (Decides-int_eq x y).0 }

abbrev pub same_pair : ℕ × ℕ → ℕ × ℕ → Bool
same_pair p q = (p.0 == q.0) && (p.1 == q.1)

-- pairs that pass the test are equal
pub same_pair_tells : (p q : ℕ × ℕ) → same_pair p q ≡ true → p ≡ q
same_pair_tells p q t =
    let parts = and_parts (p.0 == q.0) (p.1 == q.1) t in
    ap₂ (λ (x y : ℕ). let r : ℕ × ℕ = (x, y) in r) (eqb-true p.0 q.0 parts.0) (eqb-true p.1 q.1 parts.1)

-- the test of pairs is an equivalence
pub same_pair_laws : IsEquivalence same_pair
same_pair_laws =
    record {
      refl = λ p. ap₂ (λ a b. a && b) (nat_eq_equiv.refl p.0) (nat_eq_equiv.refl p.1);
      symm = λ p q. ap₂ (λ a b. a && b) (nat_eq_equiv.symm p.0 q.0) (nat_eq_equiv.symm p.1 q.1);
      congr = λ p q r t. ap (λ x. same_pair x r) (same_pair_tells p q t);
    }

abbrev pub pair_test : Test (ℕ × ℕ) (λ p q. p ≡ q)
pair_test = record { test = same_pair; laws = same_pair_laws; tells = same_pair_tells }

abbrev pub map_test : Test ValuePointer (λ p q. p.map ≡ q.map)
map_test =
    record {
      test = λ p q. p.map == q.map;
      laws = record {
        refl = λ p. nat_eq_equiv.refl p.map;
        symm = λ p q. nat_eq_equiv.symm p.map q.map;
        congr = λ p q r. nat_eq_equiv.congr p.map q.map r.map;
      };
      tells = λ p q. eqb-true p.map q.map;
    }

-- ---- the hull of offsets

-- the hull of the offsets of two pointers into values of one map is commutative
pub hull_turned : (p q : ValuePointer) → p.map ≡ q.map → offsets_hull p q ≡ offsets_hull q p
hull_turned p q e =
    same_pointer (offsets_hull p q) (offsets_hull q p) e (omega (arith, ints, clamps)) (omega (arith, ints, clamps))

-- the hull of the offsets of pointers into values is associative
pub hull_regrouped : (p q r : ValuePointer) → offsets_hull (offsets_hull p q) r ≡ offsets_hull p (offsets_hull q r)
hull_regrouped p q r =
    same_pointer (offsets_hull (offsets_hull p q) r) (offsets_hull p (offsets_hull q r)) refl
    (omega (arith, ints, clamps)) (omega (arith, ints, clamps))
