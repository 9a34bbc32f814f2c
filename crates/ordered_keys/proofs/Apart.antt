-- Entries of equal keys have the same index: those of a table, and those that are left when one is taken out.
use Rattle.std.proofs.Common.{◌≡◌, ◌≢◌, ℕ, zero, suc, ◌+◌, ◌-◌, ◌<◌, ◌⊎◌, inl, inr, Bool, true, false, List}
use Rattle.std.proofs.Common.{[], ◌∷◌, ◌++◌, length, take, Some, None, slice_get, refl, sym, ap, ◌∙◌, arith}
use Rattle.std.specs.Cmp.{IsEquivalence}
use Rattle.std.specs.List.{IsDistinct, swap_remove}
use Rattle.std.specs.Map.{lookup, keys_of}
use Rattle.std.proofs.lemmas.Option.{none-some, same_Some}
use Rattle.ordered_keys.specs.inside.Ordered.{AreApart}
use Rattle.ordered_keys.proofs.Ordered.{one_index, passes_none}
use Rattle.ordered_keys.proofs.Links.{decided}
use Rattle.ordered_keys.proofs.Tables.{swapped_other, swapped_here, swapped_within}

module _ {K : Type 0} (eq : K → K → Bool) (laws : IsEquivalence eq) where
  -- a key is equal to any two keys only if they are equal
  sole : (k x y : K) → eq k x ≡ true → eq k y ≡ true → eq x y ≡ true
  sole k x y a b = sym (laws.congr k x y a) ∙ b

  -- if all keys of a table are distinct, no two of its entries have equal keys
  pub apart_in_table : (es : List (K × ℕ)) → IsDistinct eq (keys_of es) → AreApart eq es
  apart_in_table es d i j a b at_i at_j same =
      one_index eq (eq a.0) (sole a.0) es d i j a b at_i at_j (laws.refl a.0) same

  -- the index that the entry at index j of the rest had
  module _ (es : List (K × ℕ)) (i : ℕ) (d : K × ℕ) (at : slice_get es i ≡ Some d) (apart : AreApart eq es) where
    abbrev rest : List (K × ℕ)
    rest = swap_remove es i d

    abbrev last : ℕ
    last = length es - 1

    from : (j : ℕ) (e : K × ℕ)
        → slice_get rest j ≡ Some e
        → ((j ≡ i) × (slice_get es last ≡ Some e)) ⊎ ((j ≢ i) × (slice_get es j ≡ Some e))
    from j e e_at = by (decided j i)
      where
        l : j < last
        l = swapped_within es i d at j e e_at

        by : (j ≡ i) ⊎ (j ≢ i) → ((j ≡ i) × (slice_get es last ≡ Some e)) ⊎ ((j ≢ i) × (slice_get es j ≡ Some e))
        by (inl same) =
            let here : slice_get rest i ≡ Some e = ap (slice_get rest) (sym same) ∙ e_at in
            inl (same, sym (swapped_here es i d at (swapped_within es i d at i e here)) ∙ here)
        by (inr ne) = inr (ne, sym (swapped_other es i d at j ne l) ∙ e_at)

    -- if no two entries have equal keys, no two do after an entry is taken out
    pub apart_left : AreApart eq rest
    apart_left j k a b at_j at_k same = elim (from j a at_j) [
      | inl p ↦ elim (from k b at_k) [
        | inl q ↦ p.0 ∙ sym q.0
        | inr q ↦ absurd
            (let e = apart last k a b p.1 q.1 same in let l = swapped_within es i d at k b at_k in omega arith)
      ]
      | inr p ↦ elim (from k b at_k) [
        | inl q ↦ absurd
            (let e = apart j last a b p.1 q.1 same in let l = swapped_within es i d at j a at_j in omega arith)
        | inr q ↦ apart j k a b p.1 q.1 same
      ]
    ]

-- an entry of the front of a list
front : {X : Type 0} (xs : List X) (n i : ℕ) (x : X)
    → slice_get (take n xs) i ≡ Some x → (slice_get xs i ≡ Some x) × (i < n)
front {X} [] n i x h = absurd (none-some x (ap (λ (l : List X). slice_get l i) (sym (take_nil n)) ∙ h))
  where
    take_nil : {X : Type 0} (n : ℕ) → let e : List X = [] in take n e ≡ e
    take_nil zero = refl
    take_nil (suc n) = refl
front (y ∷ xs) zero i x h = absurd (none-some x h)
front (y ∷ xs) (suc n) zero x h = (h, omega arith)
front (y ∷ xs) (suc n) (suc i) x h = let r = front xs n i x h in (r.0, let l = r.1 in omega arith)

-- a key is not among the keys before it
pub absent_before : {K : Type 0} (eq : K → K → Bool) (es : List (K × ℕ))
    → AreApart eq es
    → (at : ℕ) (e : K × ℕ) → slice_get es at ≡ Some e
    → lookup (eq e.0) (take at es) ≡ None
absent_before {K} eq es apart at e e_at =
    passes_none (eq e.0) (take at es) (λ i a i_at. by i a (front es at i a i_at) (eq e.0 a.0) refl)
  where
    by : (i : ℕ) (a : K × ℕ) → (slice_get es i ≡ Some a) × (i < at) → (b : Bool) → eq e.0 a.0 ≡ b → b ≡ false
    by i a f true t = absurd (let same = apart at i e a e_at f.0 t in let l = f.1 in omega arith)
    by i a f false t = refl

-- one entry more of the front of a list
pub take_next : {X : Type 0} (xs : List X) (n : ℕ) (x : X)
    → slice_get xs n ≡ Some x → take n xs ++ x ∷ [] ≡ take (n + 1) xs
take_next {X} [] n x h = absurd (none-some x h)
take_next {X} (y ∷ xs) zero x h = ap (λ (z : X). z ∷ []) (sym (same_Some y x h))
take_next {X} (y ∷ xs) (suc n) x h =
    ap (λ (zs : List X). y ∷ zs) (take_next xs n x h)
    ∙ ap (λ (m : ℕ). take m (y ∷ xs)) (let e : suc (n + 1) ≡ suc n + 1 = omega arith in e)
