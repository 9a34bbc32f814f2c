-- A table of keys in any order, and the order of their elements. This project's own.
use Rattle.std.specs.Prelude.{◌≡◌, ℕ, ◌+◌, ◌*◌, ◌<◌, ◌≤◌, ◌^◌, Bool, true, false, nat_eq, List, [], ◌∷◌, ◌++◌}
use Rattle.std.specs.Prelude.{length, Option, Some, None, option_map, slice_get, slice_index_or, option_to_list}
use Rattle.indexmap.specs.IndexMap.{IndexMap, index_map_len, spare}
use Rattle.ordered_keys.specs.Orders.{Order, occurrences, first_element, following}
use Rattle.ordered_keys.specs.inside.Links.{AreWithin}

-- the element of a list that follows p, or the first one if p is not given (None); None if no
-- element follows p, if the list does not have p, or if the list is empty. By this a save goes over
-- a hash map's keys: the list has their elements, in the order of the keys
abbrev pub next_of_elements : Option ℕ → List ℕ → Option ℕ
next_of_elements None ps = first_element ps
next_of_elements (Some p) ps = following p ps

module _ {K : Type 0} where
  -- the entry of element p: that of the table's entries `es` at the index which `indices` has for
  -- p, or at 0 if it has none; None if there is no entry
  abbrev pub entry_of : List (K × ℕ) → List ℕ → ℕ → Option (K × ℕ)
  entry_of es indices p = slice_get es (slice_index_or indices p 0)

  -- whether an entry is present, and has element p
  abbrev pub is_entry_of : ℕ → Option (K × ℕ) → Bool
  is_entry_of p None = false
  is_entry_of p (Some e) = nat_eq e.1 p

  -- the key of an element; None if no element is given, or it has no entry
  abbrev pub key_of : List (K × ℕ) → List ℕ → Option ℕ → Option K
  key_of es indices None = None
  key_of es indices (Some p) = option_map (λ e. e.0) (entry_of es indices p)

  -- the entries of these elements, in order; an element without an entry is left out
  abbrev pub in_order : List (K × ℕ) → List ℕ → List ℕ → List (K × ℕ)
  in_order es indices [] = []
  in_order es indices (p ∷ ps) = option_to_list (entry_of es indices p) ++ in_order es indices ps

  -- each of these elements has an entry, which has this element
  abbrev pub HaveEntries : List (K × ℕ) → List ℕ → List ℕ → Type 0
  HaveEntries es indices [] = Unit {0}
  HaveEntries es indices (p ∷ ps) =
      ((k : K) × (entry_of es indices p ≡ Some (k, p))) × HaveEntries es indices ps

  -- each element of the order is that of one entry, and each entry's element is in the order;
  -- `indices` has the index of the entry of each. The bound is a number of 32 bits
  pub record IsIndexed (es : List (K × ℕ)) (indices : List ℕ) (order : Order) : Type 0 where
    pub long : length indices ≡ order.bound
    pub small : order.bound < 2 ^ 32
    pub many : length es ≡ length order.elements
    pub few : length order.elements ≤ order.bound
    pub within : AreWithin order.bound order.elements
    pub placed : HaveEntries es indices order.elements
    pub listed : (i : ℕ) (e : K × ℕ)
        → slice_get es i ≡ Some e
        → (occurrences e.1 order.elements ≡ 1) × (slice_index_or indices e.1 0 ≡ i)

-- no two entries have equal keys: entries of equal keys have the same index
abbrev pub AreApart : {K : Type 0} → (K → K → Bool) → List (K × ℕ) → Type 0
AreApart {K} eq es =
    (i j : ℕ) (a b : K × ℕ)
    → slice_get es i ≡ Some a
    → slice_get es j ≡ Some b
    → eq a.0 b.0 ≡ true
    → i ≡ j

-- the table has room for `bound` entries without an allocation, if those that it has are counted
abbrev pub HasAllRows : {K S : Type 0} → ℕ → IndexMap K ℕ S → Type 0
HasAllRows bound table = bound ≤ index_map_len table + spare table

-- the table, the indices and the order agree, and the table has room for the entries of all
-- elements less than the bound. The buffer is empty, `rows` being the number of entries in it, and
-- has room for `capacity` entries, at least half as many as the bound
pub record IsWhole {K S : Type 0} (table : IndexMap K ℕ S) (indices : List ℕ) (order : Order)
    (rows capacity : ℕ) : Type 0 where
  pub indexed : IsIndexed table.entries indices order
  pub room : HasAllRows order.bound table
  pub empty : rows ≡ 0
  pub buffer : order.bound ≤ 2 * capacity
