-- From calls on the fields of a map to the calls of the map.
use Rattle.std.proofs.Common.{◌≡◌, ℕ, ◌+◌, ◌<◌, ◌≤◌, ◌==◌, Bool, true, false, List, Option, Some, None, Result, Ok}
use Rattle.std.proofs.Common.{IfSome, refl, sym, subst, nat_lt, nat_le, if◌then◌else◌, arith}
use Rattle.std.proofs.lemmas.Bool.{ltb-true}
use Rattle.std.specs.Map.{values_of}
use Rattle.tagged_model.specs.declared.shape.MapKind.{MapKind}
use Rattle.tagged_model.specs.declared.shape.MapKind.TheVariants.{Hash, Array}
use Rattle.tagged_model.specs.declared.shape.MapShape.{MapShape}
use Rattle.tagged_model.specs.declared.fault.MapFault.{MapFault}
use Rattle.tagged_model.specs.declared.fault.MapFault.TheVariants.{NoEntry, TooBig, Exists, Invalid}
use Rattle.tagged_model.specs.Table.{look_up, is_full, of_absent, of_found, verdict, removal, removal_of, Refused, Present, New, no_exist, exist}
use Rattle.bpf_maps.specs.KeyTable.{KeyTable, table_of, occurrences, IsSound, IsFree, with_entry, Claims, Removes}
use Rattle.bpf_maps.proofs.Counts.{in_use}

-- two tables of one shape are equal if their entries and the elements that are kept apart are
pub same_table : (s : MapShape) {es fs : List (List ℕ × ℕ)} {ks ls : List ℕ}
    → es ≡ fs → ks ≡ ls
    → (let t : KeyTable = record { shape = s; entries = es; kept = ks } in t)
    ≡ (let t : KeyTable = record { shape = s; entries = fs; kept = ls } in t)
same_table s e k i = record { shape = s; entries = e i; kept = k i }

-- ---- a delete from a hash map

-- a delete from the fields of a hash map is a delete from the table that contracts see, with the same result
pub removes : (key : List ℕ) (old seen new : KeyTable) (o : Option ℕ) (answer : Result (Unit {0}) MapFault)
    → old ≡ seen → old.shape.kind ≡ Hash
    → look_up (table_of old) key ≡ o
    → Removes (removal_of Hash o) key old answer new
    → Removes (removal (table_of seen) key) key seen answer new
removes key old seen new o answer v k e h =
    subst (λ (t : KeyTable). Removes (removal (table_of t) key) key t answer new) v
    (subst (λ (d : MapKind). Removes (removal_of d (look_up (table_of old) key)) key old answer new) (sym k)
    (subst (λ (p : Option ℕ). Removes (removal_of Hash p) key old answer new) (sym e) h))

-- ---- a new key of a hash map

-- if a hash map is not full, the claim of an absent key may return any free element, which the key then has
pub claims_new : (key : List ℕ) (old seen new : KeyTable) (p : ℕ)
    → old ≡ seen → is_full (table_of old) ≡ false
    → IsFree old p → new ≡ with_entry old key p
    → Claims (of_absent Hash (is_full (table_of seen)) 0) key seen (Ok p) new
claims_new key old seen new p v room free h =
    subst (λ (t : KeyTable). Claims (of_absent Hash (is_full (table_of t)) 0) key t (Ok p) new) v
    (subst (λ (b : Bool). Claims (of_absent Hash b 0) key old (Ok p) new) (sym room) (free, h))

-- ---- the element of a present key is less than `max_entries`

absent_not : (d : MapKind) (full : Bool) (flags k : ℕ) → of_absent d full flags ≡ Present k → ⊥
absent_not Array full flags k q = cc
absent_not Hash full flags k q = by (flags == exist) full q
  where
    by : (a b : Bool) → (if a then Refused NoEntry else (if b then Refused TooBig else New)) ≡ Present k → ⊥
    by true b r = cc
    by false true r = cc
    by false false r = cc

present_is : (t : KeyTable) (flags k : ℕ) (o : Option ℕ) → of_found (table_of t) flags o ≡ Present k → o ≡ Some k
present_is t flags k None g = absurd (absent_not t.shape.kind (is_full (table_of t)) flags k g)
present_is t flags k (Some j) g = by (flags == no_exist) g
  where
    by : (a : Bool) → (if a then Refused Exists else Present j) ≡ Present k → Some j ≡ Some k
    by true q = cc
    by false q = cc

-- if the verdict on an update is a present element, the look-up of the key finds this element
pub present_found : (t : KeyTable) (key : List ℕ) (flags k : ℕ)
    → verdict (table_of t) key flags ≡ Present k → look_up (table_of t) key ≡ Some k
present_found t key flags k h = by (nat_le flags exist) h
  where
    by : (a : Bool)
        → (if a then of_found (table_of t) flags (look_up (table_of t) key) else Refused Invalid) ≡ Present k
        → look_up (table_of t) key ≡ Some k
    by true g = present_is t flags k (look_up (table_of t) key) g
    by false g = cc

-- an element in use is less than `max_entries`
pub element_below : (t : KeyTable) (key : List ℕ) (p : ℕ)
    → IsSound t → look_up (table_of t) key ≡ Some p → p < t.shape.max_entries
element_below t key p h e = by (nat_lt p t.shape.max_entries) refl (h.once p)
  where
    by : (b : Bool)
        → nat_lt p t.shape.max_entries ≡ b
        → occurrences p (values_of t.entries) + occurrences p t.kept ≤ (if b then 1 else 0)
        → p < t.shape.max_entries
    by true q l = ltb-true p t.shape.max_entries q
    by false q l = let u = in_use p key t.entries e in absurd (omega arith)

-- an element that a look-up finds is less than `max_entries`
pub found_within : (t : KeyTable) (key : List ℕ) (o : Option ℕ)
    → IsSound t → o ≡ look_up (table_of t) key
    → IfSome o (λ p. p < t.shape.max_entries)
found_within t key None h e = tt
found_within t key (Some p) h e = element_below t key p h (sym e)
