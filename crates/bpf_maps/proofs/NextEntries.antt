-- The entry that follows the one at an element.
use Rattle.std.proofs.Common.{◌≡◌, ℕ, zero, suc, ◌+◌, ◌<◌, ◌≤◌, ◌⊎◌, inl, inr, Bool, true, false, List, [], ◌∷◌, Option, Some, None}
use Rattle.std.proofs.Common.{option_map, IfSome, refl, sym, ap, ◌∙◌, nat_eq, nat_lt, if◌then◌else◌, true≢false, arith, eqb-true, eq-eqb}
use Rattle.std.specs.Map.{values_of}
use Rattle.std.specs.Option.{option_map_or}
use Rattle.std.proofs.lemmas.Bool.{cases_lt, lt-ltb, le-ltb}
use Rattle.std.proofs.lemmas.Option.{none-some, same_Some}
use Rattle.ordered_keys.specs.Orders.{first_entry, entry_after_element, next_entry}
use Rattle.tagged_model.specs.declared.shape.MapKind.{MapKind}
use Rattle.tagged_model.specs.declared.shape.MapKind.TheVariants.{Array}
use Rattle.tagged_model.specs.Table.{index_key, indexed, new_entries}
use Rattle.bpf_maps.specs.KeyLists.{shown_by}
use Rattle.bpf_maps.specs.KeyRef.{key_bytes, shown_entry}
use Rattle.bpf_maps.specs.KeyTable.{KeyTable, IsSound, occurrences, new_keys}
use Rattle.bpf_maps.specs.declared.key_ref.KeyRef.{KeyRef}
use Rattle.bpf_maps.proofs.Indices.{itself}
use Rattle.bpf_maps.proofs.Values.{used_in_entries}

-- ---- keys that are kept as numbers

module _ {K : Type 0} (bytes : K → List ℕ) where
  abbrev shown_one : K × ℕ → List ℕ × ℕ
  shown_one e = (bytes e.0, e.1)

  first_shown : (es : List (K × ℕ)) → first_entry (shown_by bytes es) ≡ option_map shown_one (first_entry es)
  first_shown [] = refl
  first_shown (e ∷ es) = refl

  behind_shown : (p : ℕ) (es : List (K × ℕ))
      → entry_after_element p (shown_by bytes es) ≡ option_map shown_one (entry_after_element p es)
  behind_shown p [] = refl
  behind_shown p (e ∷ es) = by (nat_eq p e.1) (first_shown es) (behind_shown p es)
    where
      by : (b : Bool)
          → first_entry (shown_by bytes es) ≡ option_map shown_one (first_entry es)
          → entry_after_element p (shown_by bytes es) ≡ option_map shown_one (entry_after_element p es)
          → (if b then first_entry (shown_by bytes es) else entry_after_element p (shown_by bytes es))
          ≡ option_map shown_one (if b then first_entry es else entry_after_element p es)
      by true f r = f
      by false f r = r

  -- the next entry of keys that are kept as numbers represents the next entry of keys as bytes
  pub next_shown : (element : Option ℕ) (es : List (K × ℕ))
      → next_entry element (shown_by bytes es) ≡ option_map shown_one (next_entry element es)
  next_shown None es = first_shown es
  next_shown (Some p) es = behind_shown p es

-- ---- the indices of an array

abbrev placed : ℕ → Option (List ℕ × ℕ)
placed i = Some (index_key i, i)

-- the entry of an index that is less than n
abbrev pub index_entry : ℕ → ℕ → Option (List ℕ × ℕ)
index_entry i n = if nat_lt i n then placed i else None

first_index : (first n : ℕ) → first_entry (indexed itself first n) ≡ index_entry first (first + n)
unfolding indexed
first_index first zero =
    let e : nat_lt first (first + 0) ≡ false = le-ltb first (first + 0) (omega arith) in
    ap (λ (b : Bool). if b then placed first else None) (sym e)
first_index first (suc n) =
    let e : nat_lt first (first + suc n) ≡ true = lt-ltb first (first + suc n) (omega arith) in
    ap (λ (b : Bool). if b then placed first else None) (sym e)

behind_index : (p first n : ℕ) → first ≤ p → entry_after_element p (indexed itself first n) ≡ index_entry (p + 1) (first + n)
unfolding indexed
behind_index p first zero le =
    let e : nat_lt (p + 1) (first + 0) ≡ false = le-ltb (p + 1) (first + 0) (omega (arith, le)) in
    ap (λ (b : Bool). if b then placed (p + 1) else None) (sym e)
behind_index p first (suc n) le = by (nat_eq p first) refl (behind_index p (first + 1) n)
  where
    end : first + 1 + n ≡ first + suc n
    end = omega arith

    above : nat_eq p first ≡ false → first + 1 ≤ p
    above e = by_lt (cases_lt first p)
      where
        by_lt : (first < p) ⊎ (p ≤ first) → first + 1 ≤ p
        by_lt (inl lt) = omega (arith, lt)
        by_lt (inr ge) =
            let same : p ≡ first = omega (arith, le, ge) in absurd (true≢false (sym (eq-eqb p first same) ∙ e))

    by : (b : Bool)
        → nat_eq p first ≡ b
        → (first + 1 ≤ p → entry_after_element p (indexed itself (first + 1) n) ≡ index_entry (p + 1) (first + 1 + n))
        → (if b then first_entry (indexed itself (first + 1) n) else entry_after_element p (indexed itself (first + 1) n))
        ≡ index_entry (p + 1) (first + suc n)
    by true e r =
        let same : p ≡ first = eqb-true p first e in
        let next : first + 1 ≡ p + 1 = omega (arith, same) in
        first_index (first + 1) n
        ∙ ap (index_entry (first + 1)) end
        ∙ ap (λ (i : ℕ). index_entry i (first + suc n)) next
    by false e r = r (above e) ∙ ap (index_entry (p + 1)) end

-- the next entry in an array is that of the next index, or of index 0 if no element is given
pub next_index : (element : Option ℕ) (n : ℕ)
    → next_entry element (indexed itself 0 n) ≡ index_entry (option_map_or (λ p. p + 1) element 0) n
next_index None n = let none : 0 + n ≡ n = omega arith in first_index 0 n ∙ ap (index_entry 0) none
next_index (Some p) n =
    let none : 0 + n ≡ n = omega arith in behind_index p 0 n (omega arith) ∙ ap (index_entry (p + 1)) none

-- an index that is not in range has no entry
pub no_index : (i n : ℕ) → n ≤ i → index_entry i n ≡ None
no_index i n past = ap (λ (b : Bool). if b then placed i else None) (le-ltb i n past)

-- the entry of an index in range has the index's key, and the index for its element
pub some_index : (i n : ℕ) (key : List ℕ) → i < n → key ≡ index_key i → index_entry i n ≡ Some (key, i)
some_index i n key below is =
    ap (λ (b : Bool). if b then placed i else None) (lt-ltb i n below)
    ∙ ap (λ (k : List ℕ). let o : Option (List ℕ × ℕ) = Some (k, i) in o) (sym is)

-- an array has the entries of its indices
pub array_entries : (t : KeyTable)
    → t ≡ new_keys t.shape → t.shape.kind ≡ Array
    → t.entries ≡ indexed itself 0 t.shape.max_entries
array_entries t whole kind =
    ap (λ (u : KeyTable). u.entries) whole ∙ ap (λ (k : MapKind). new_entries itself k t.shape.max_entries) kind

-- ---- the element of an entry is within the map

counted : (p q n : ℕ) → p ≡ q → 1 ≤ (if nat_eq p q then 1 else 0) + n
counted p q n e = let b : nat_eq p q ≡ true = eq-eqb p q e in grind arith

more : (b : Bool) (m : ℕ) → 1 ≤ m → 1 ≤ (if b then 1 else 0) + m
more true m le = omega arith
more false m le = omega (arith, le)

first_occurs : (es : List (List ℕ × ℕ)) (e : List ℕ × ℕ) → first_entry es ≡ Some e → 1 ≤ occurrences e.1 (values_of es)
first_occurs [] e is = absurd (none-some e is)
first_occurs (x ∷ es) e is =
    counted e.1 x.1 (occurrences e.1 (values_of es)) (ap (λ (y : List ℕ × ℕ). y.1) (sym (same_Some x e is)))

behind_occurs : (p : ℕ) (es : List (List ℕ × ℕ)) (e : List ℕ × ℕ)
    → entry_after_element p es ≡ Some e → 1 ≤ occurrences e.1 (values_of es)
behind_occurs p [] e is = absurd (none-some e is)
behind_occurs p (x ∷ es) e is =
    more (nat_eq e.1 x.1) (occurrences e.1 (values_of es))
    (by (nat_eq p x.1) is (first_occurs es e) (behind_occurs p es e))
  where
    by : (b : Bool)
        → (if b then first_entry es else entry_after_element p es) ≡ Some e
        → (first_entry es ≡ Some e → 1 ≤ occurrences e.1 (values_of es))
        → (entry_after_element p es ≡ Some e → 1 ≤ occurrences e.1 (values_of es))
        → 1 ≤ occurrences e.1 (values_of es)
    by true is f r = f is
    by false is f r = r is

next_occurs : (element : Option ℕ) (es : List (List ℕ × ℕ)) (e : List ℕ × ℕ)
    → next_entry element es ≡ Some e → 1 ≤ occurrences e.1 (values_of es)
next_occurs None es e is = first_occurs es e is
next_occurs (Some p) es e is = behind_occurs p es e is

-- the element of the next entry is less than `max_entries`
pub next_within : (t : KeyTable) (element : Option ℕ) (o : Option (KeyRef × ℕ))
    → IsSound t
    → option_map shown_entry o ≡ next_entry element t.entries
    → IfSome o (λ e. e.1 < t.shape.max_entries)
next_within t element None sound is = tt
next_within t element (Some e) sound is =
    used_in_entries t e.1 sound (next_occurs element t.entries (key_bytes e.0, e.1) (sym is))
