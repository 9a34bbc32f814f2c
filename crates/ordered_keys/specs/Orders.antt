-- Elements and keys in an order. This project's own.
use Rattle.std.specs.Prelude.{◌≡◌, ℕ, ◌+◌, Bool, true, nat_eq, if◌then◌else◌, List, [], ◌∷◌, Option, Some, None, is_some, refl}
use Rattle.std.specs.Borrow.{Bor}
use Rattle.std.specs.Coded.{Coded, code_by, coded×, coded_list, coded_ℕ}
use Rattle.std.specs.Map.{lookup}

-- ---- elements

-- the number of times that a list has an element
abbrev pub occurrences : ℕ → List ℕ → ℕ
occurrences p [] = 0
occurrences p (x ∷ xs) = (if nat_eq p x then 1 else 0) + occurrences p xs

-- an `ElementOrder` as contracts see it: its elements, the first one first, and the bound, which is
-- greater than each of them
pub record Order : Type 0 where
  pub bound : ℕ
  pub elements : List ℕ

-- the first element in a list of elements of a map, with which a walk over its keys begins; None if
-- the list is empty
abbrev pub first_element : List ℕ → Option ℕ
first_element [] = None
first_element (x ∷ xs) = Some x

-- the element that follows p; None after the last one, and if the list does not have p
abbrev pub following : ℕ → List ℕ → Option ℕ
following p [] = None
following p (x ∷ xs) = if nat_eq p x then first_element xs else following p xs

-- the list without the first p, if it has p; the other elements keep their order
abbrev pub taken_out : ℕ → List ℕ → List ℕ
taken_out p [] = []
taken_out p (x ∷ xs) = if nat_eq p x then xs else x ∷ taken_out p xs

-- ---- keys

-- keys in an order, each with its element, which is less than a bound
pub record BoundedKeys (K : Type 0) : Type 0 where
  pub bound : ℕ
  pub entries : List (K × ℕ)

-- a bound and entries as one record
abbrev pub bounded_keys : {K : Type 0} → ℕ → List (K × ℕ) → BoundedKeys K
bounded_keys bound es = record { bound = bound; entries = es }

-- how values of `BoundedKeys` are coded, from how keys are: as the pair of the two fields. A
-- `Model` has this as `coded`, and proofs distinguish values by their codes
abbrev pub bounded_keys_code : {K : Type 0} → Coded K → Coded (BoundedKeys K)
bounded_keys_code {K} k =
    code_by (ℕ × List (K × ℕ)) (coded× coded_ℕ (coded_list (coded× k coded_ℕ)))
    (λ b. (b.bound, b.entries)) (λ p. bounded_keys p.0 p.1) (λ _. refl)

module _ {K : Type 0} where
  -- the key of the first entry, if there is one
  abbrev pub first_key_of : List (K × ℕ) → Option K
  first_key_of [] = None
  first_key_of (e ∷ es) = Some e.0

  module _ (test : K → Bool) where
    -- the key that follows the first one that passes the test; None if that is the last, or if none
    -- passes
    abbrev pub key_after_match : List (K × ℕ) → Option K
    key_after_match [] = None
    key_after_match (e ∷ es) = if test e.0 then first_key_of es else key_after_match es

    -- the key that follows the first one that passes the test, or the first key if none passes;
    -- None if no key follows, or there is no key
    abbrev pub key_following : List (K × ℕ) → Option K
    key_following es = if is_some (lookup test es) then key_after_match es else first_key_of es

  -- a borrowed key, with its element
  abbrev pub lent_entry : Bor K × ℕ → K × ℕ
  lent_entry e = (e.0.now, e.1)

  -- the first entry, if there is one
  abbrev pub first_entry : List (K × ℕ) → Option (K × ℕ)
  first_entry [] = None
  first_entry (e ∷ es) = Some e

  -- the entry after the one with element p; None if that is the last, or if no entry has p
  abbrev pub entry_after_element : ℕ → List (K × ℕ) → Option (K × ℕ)
  entry_after_element p [] = None
  entry_after_element p (e ∷ es) = if nat_eq p e.1 then first_entry es else entry_after_element p es

  -- the entry after the one with a given element, or the first entry if no element is given
  abbrev pub next_entry : Option ℕ → List (K × ℕ) → Option (K × ℕ)
  next_entry None es = first_entry es
  next_entry (Some p) es = entry_after_element p es
