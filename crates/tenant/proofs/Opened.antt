-- An entry that is filled, and a descriptor that is opened.
use Rattle.std.proofs.Common.{◌≡◌, ◌≢◌, ℕ, zero, suc, [], ◌∷◌, ◌+◌, ◌-◌, ◌<◌, true, false, List, length, set, get_or}
use Rattle.std.proofs.Common.{Option, Some, None, refl, sym, ap, ◌∙◌, inl, inr, arith, get_or-set_same, get_or-set_other}
use Rattle.std.specs.Prelude.{◌⊎◌, is_none, position, option_map}
use Rattle.std.proofs.lemmas.Bool.{cases_eq}
use Rattle.std.proofs.lemmas.Option.{none-some, same_Some}
use Rattle.std.proofs.lemmas.List.Quantifiers.{position-Some}
use Rattle.fd_table.specs.Table.{first_descriptor, lowest, with_open}
use Rattle.bpf_maps.specs.Sum.{total}
use Rattle.tenant.proofs.Sums.{total-set}

-- an element that is present after one is put is the new one, or was present at the same index before
pub set_cases : {A : Type 0} (xs : List (Option A)) (n i : ℕ) (x y : A)
    → n < length xs → get_or (set xs n (Some x)) i None ≡ Some y
    → ((i ≡ n) × (y ≡ x)) ⊎ ((i ≢ n) × (get_or xs i None ≡ Some y))
set_cases xs n i x y within there = by_index (cases_eq i n)
  where
    by_index : (i ≡ n) ⊎ (i ≡ n → ⊥) → ((i ≡ n) × (y ≡ x)) ⊎ ((i ≢ n) × (get_or xs i None ≡ Some y))
    by_index (inl same) =
        inl (
          same,
          same_Some y x
              (sym (sym (get_or-set_same xs n (Some x) None within)
              ∙ ap (λ (j : ℕ). get_or (set xs n (Some x)) j None) (sym same)
              ∙ there)),
        )
    by_index (inr other) = inr (other, sym (get_or-set_other xs n i (Some x) None other) ∙ there)

-- the element at an index that is not set is not changed
pub set_there : {A : Type 0} (xs : List (Option A)) (n i : ℕ) (x : Option A)
    → i ≢ n → get_or (set xs n x) i None ≡ get_or xs i None
set_there xs n i x other = get_or-set_other xs n i x None other

-- the index of an entry that is freed has no element
pub unset_here : {A : Type 0} (xs : List (Option A)) (n : ℕ) → get_or (set xs n None) n None ≡ None
unset_here [] n = refl
unset_here (x ∷ xs) zero = refl
unset_here (x ∷ xs) (suc n) = unset_here xs n

-- an element that is present after an entry is freed is at another index, and was present before
pub unset_cases : {A : Type 0} (xs : List (Option A)) (n i : ℕ) (y : A)
    → get_or (set xs n None) i None ≡ Some y → (i ≢ n) × (get_or xs i None ≡ Some y)
unset_cases xs n i y there = by_index (cases_eq i n)
  where
    by_index : (i ≡ n) ⊎ (i ≡ n → ⊥) → (i ≢ n) × (get_or xs i None ≡ Some y)
    by_index (inl same) =
        absurd (none-some y (sym (unset_here xs n) ∙ ap (λ (j : ℕ). get_or (set xs n None) j None) (sym same) ∙ there))
    by_index (inr other) = (other, sym (get_or-set_other xs n i None None other) ∙ there)

is_free : {A : Type 0} (o : Option A) → is_none o ≡ true → o ≡ None
is_free None e = refl
is_free (Some x) e = absurd (let wrong : false ≡ true = e in cc wrong)

-- the entry of the lowest free index is free
pub index_free : {A : Type 0} (xs : List (Option A)) (n : ℕ)
    → position is_none xs ≡ Some n → (n < length xs) × (get_or xs n None ≡ None)
index_free xs n e =
    let (within, free, lower) = position-Some is_none xs n None e in (within, is_free (get_or xs n None) free)

-- the lowest free descriptor is free
pub descriptor_free : {A : Type 0} (xs : List (Option A)) (fd : ℕ)
    → lowest xs ≡ Some fd
    → (fd - first_descriptor < length xs) × (get_or xs (fd - first_descriptor) None ≡ None)
descriptor_free xs fd e = by_position (position is_none xs) refl e
  where
    index_of : (n : ℕ) → Some (3 + n) ≡ Some fd → n ≡ fd - 3
    index_of n e = let same = same_Some (3 + n) fd e in omega arith

    by_position : (o : Option ℕ)
        → position is_none xs ≡ o
        → option_map (λ index. first_descriptor + index) o ≡ Some fd
        → (fd - first_descriptor < length xs) × (get_or xs (fd - first_descriptor) None ≡ None)
    by_position None p e = absurd (none-some fd e)
    by_position (Some n) p e =
        let same : n ≡ fd - first_descriptor = index_of n e in
        let (within, free) = index_free xs n p in
        (omega (arith, within, same), ap (λ (m : ℕ). get_or xs m None) (sym same) ∙ free)

-- after an object is opened at the lowest free descriptor the sum is greater by its number
pub opened_sum : {A : Type 0} (f : A → ℕ) (xs : List (Option A)) (fd : ℕ) (x : A)
    → lowest xs ≡ Some fd → total f (with_open xs fd x) ≡ total f xs + f x
opened_sum f xs fd x e =
    let (within, free) = descriptor_free xs fd e in total-set f xs (fd - first_descriptor) x within free

-- if a descriptor is free, some descriptor is the lowest free one
pub some_lowest : {A : Type 0} (xs : List (Option A)) → is_none (lowest xs) ≡ false → (fd : ℕ) × (lowest xs ≡ Some fd)
some_lowest xs e = by_option (lowest xs) refl e
  where
    by_option : (o : Option ℕ) → lowest xs ≡ o → is_none o ≡ false → (fd : ℕ) × (lowest xs ≡ Some fd)
    by_option None l e = absurd (let wrong : true ≡ false = e in cc wrong)
    by_option (Some fd) l e = (fd, l)
