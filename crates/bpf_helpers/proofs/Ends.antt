-- The maps of a run at its start and its end.
use Rattle.std.proofs.Common.{◌≡◌, ◌⊎◌, inl, inr, ℕ, zero, suc, ◌+◌, ◌<◌, ◌≤◌, nat_eq, nat_lt, Bool, true, false}
use Rattle.std.proofs.Common.{if◌then◌else◌, List, [], ◌∷◌, map, length, refl, sym, ap, subst, ◌∙◌, ⊎_elim, arith, eq-eqb}
use Rattle.std.specs.Prelude.{slice_index, slice_index_or}
use Rattle.std.specs.Map.{values_of}
use Rattle.std.proofs.lemmas.Bool.{cond-true, ltb-true}
use Rattle.words.specs.Bytes.{bytes_at}
use Rattle.tagged_model.specs.Table.{Table, with_values}
use Rattle.tagged_model.specs.Step.{numbered}
use Rattle.tagged_model.specs.StateInvariant.{KeysHaveObjects}
use Rattle.arena.specs.Memory.{base}
use Rattle.bpf_maps.specs.KeyTable.{KeyTable, table_of, occurrences, IsSound}
use Rattle.bpf_maps.specs.Live.{LiveMaps, keys_at, offset_at}
use Rattle.bpf_helpers.specs.Layout.{Layout}
use Rattle.bpf_helpers.specs.Stands.{HasObject, stored_maps}
use Rattle.bpf_helpers.specs.inside.Laws.{MapsBegin, MapsEnd}

-- ---- numbers in order

module _ {A : Type 0} where
  owned_from : (n count : ℕ) (es : List (List ℕ × A)) → n + length es ≤ count → KeysHaveObjects count (numbered n es)
  unfolding numbered
  owned_from n count [] h = tt
  owned_from n count (e ∷ es) h = (omega arith, owned_from (n + 1) count es (omega arith))

module _ (value : ℕ → List ℕ) where
  abbrev valued : List (List ℕ × ℕ) → List (List ℕ × List ℕ)
  valued es = map (λ e. (e.0, value e.1)) es

  valued_long : (es : List (List ℕ × ℕ)) → length (valued es) ≡ length es
  valued_long [] = refl
  valued_long (e ∷ es) = ap suc (valued_long es)

  -- the object with a number is in the element of its key
  numbered_back : (element : ℕ → ℕ) (n : ℕ) (es : List (List ℕ × ℕ))
      → ((i : ℕ) → i < length es → element (n + i) ≡ slice_index (values_of es) i)
      → es ≡ map (λ e. let pair : List ℕ × ℕ = (e.0, element e.1) in pair) (numbered n (valued es))
  unfolding numbered
  numbered_back element n [] h = refl
  numbered_back element n (e ∷ es) h =
      let here : element n ≡ e.1 = ap element (omega arith) ∙ h 0 (omega arith) in
      ap (λ (fs : List (List ℕ × ℕ)). e ∷ fs)
      (numbered_back element (n + 1) es (λ i lt. ap element (omega arith) ∙ h (suc i) (omega arith)))
      ∙ ap (λ (p : ℕ).
      let head : List ℕ × ℕ = (e.0, p) in
      head ∷ map (λ e. let pair : List ℕ × ℕ = (e.0, element e.1) in pair) (numbered (n + 1) (valued es)))
      (sym here)

  value_of : (es : List (List ℕ × ℕ)) (i : ℕ)
      → i < length es
      → slice_index_or (values_of (valued es)) i [] ≡ value (slice_index (values_of es) i)
  value_of [] i lt = absurd (omega arith)
  value_of (e ∷ es) zero lt = refl
  value_of (e ∷ es) (suc i) lt = value_of es i (omega arith)

-- ---- each element occurs once

length_values : (es : List (List ℕ × ℕ)) → length (values_of es) ≡ length es
length_values [] = refl
length_values (e ∷ es) = ap suc (length_values es)

at_least_one : (x : ℕ) (xs : List ℕ) (i : ℕ) → i < length xs → slice_index xs i ≡ x → 1 ≤ occurrences x xs
at_least_one x [] i lt e = absurd (omega arith)
at_least_one x (y ∷ ys) zero lt e =
    let one : ◌≡◌ {A = ℕ} (if nat_eq x y then 1 else 0) 1 = cond-true (nat_eq x y) 1 0 (eq-eqb x y (sym e)) in
    omega arith
at_least_one x (y ∷ ys) (suc i) lt e = let rest = at_least_one x ys i (omega arith) e in omega arith

at_most_one : (xs : List ℕ) (i j : ℕ)
    → i < length xs → j < length xs
    → ((x : ℕ) → occurrences x xs ≤ 1) → slice_index xs i ≡ slice_index xs j
    → i ≡ j
at_most_one [] i j lt few once e = absurd (omega arith)
at_most_one (x ∷ xs) zero zero lt few once e = refl
at_most_one (x ∷ xs) zero (suc j) lt few once e =
    let rest = at_least_one x xs j (omega arith) (sym e) in
    let one : ◌≡◌ {A = ℕ} (if nat_eq x x then 1 else 0) 1 = cond-true (nat_eq x x) 1 0 (eq-eqb x x refl) in
    let most = once x in absurd (omega arith)
at_most_one (x ∷ xs) (suc i) zero lt few once e =
    let rest = at_least_one x xs i (omega arith) e in
    let one : ◌≡◌ {A = ℕ} (if nat_eq x x then 1 else 0) 1 = cond-true (nat_eq x x) 1 0 (eq-eqb x x refl) in
    let most = once x in absurd (omega arith)
at_most_one (x ∷ xs) (suc i) (suc j) lt few once e =
    ap suc (at_most_one xs i j (omega arith) (omega arith) (λ y. let most = once y in omega arith) e)

one_or_none : (b : Bool) → ◌≡◌ {A = ℕ} (if b then 1 else 0) 1 ⊎ ◌≡◌ {A = ℕ} (if b then 1 else 0) 0
one_or_none true = inl refl
one_or_none false = inr refl

only_within : (n : ℕ) (b : Bool) → 1 ≤ n → n ≤ (if b then 1 else 0) → b ≡ true
only_within n true h g = refl
only_within n false h g = absurd (omega arith)

-- ---- the beginning

module _ (l : Layout) (start : ℕ) (memory : List ℕ) (tenant : LiveMaps) (k m : ℕ)
    (value : ℕ → List ℕ) (key_table : KeyTable) (is : keys_at tenant k ≡ key_table)
    (sound : IsSound key_table)
    (bytes : (p : ℕ)
    → p < key_table.shape.max_entries
    → bytes_at memory (start + offset_at tenant k p) key_table.shape.value_size ≡ value p)
    (addresses : (number : ℕ)
    → number < length key_table.entries
    → l.object_at m number ≡ base + (start + offset_at tenant k (slice_index (values_of key_table.entries) number)))
  where
    within : (number : ℕ) → number < length (valued value key_table.entries) → number < length key_table.entries
    within number lt = let long = valued_long value key_table.entries in omega arith

    in_values : (number : ℕ)
        → number < length (valued value key_table.entries)
        → number < length (values_of key_table.entries)
    in_values number lt =
        let long = valued_long value key_table.entries in let same = length_values key_table.entries in omega arith

    once : (x : ℕ) → occurrences x (values_of key_table.entries) ≤ 1
    once x =
        ⊎_elim (λ e. let most = sound.once x in omega arith)
        (λ e. let most = sound.once x in omega arith)
        (one_or_none (nat_lt x key_table.shape.max_entries))

    used : (number : ℕ)
        → number < length key_table.entries
        → 1 ≤ occurrences (slice_index (values_of key_table.entries) number) (values_of key_table.entries)
    used number lt =
        at_least_one (slice_index (values_of key_table.entries) number) (values_of key_table.entries)
        number
        (let same = length_values key_table.entries in omega arith)
        refl

    in_range : (number : ℕ)
        → number < length key_table.entries
        → slice_index (values_of key_table.entries) number < key_table.shape.max_entries
    in_range number lt =
        let p = slice_index (values_of key_table.entries) number in
        let some = used number lt in
        ltb-true p key_table.shape.max_entries
        (only_within (occurrences p (values_of key_table.entries) + occurrences p key_table.kept)
        (nat_lt p key_table.shape.max_entries) (omega arith)
        (sound.once p))

    object : (number : ℕ)
        → number < length key_table.entries
        → HasObject (stored_maps start memory tenant) k
        (slice_index (values_of key_table.entries) number) (l.object_at m number)
        (slice_index_or (values_of (valued value key_table.entries)) number [])
    object number lt = record {
      within =
          subst (λ (x : KeyTable). slice_index (values_of key_table.entries) number < x.shape.max_entries)
          (sym is) (in_range number lt);
      in_use =
          subst (λ (x : KeyTable).
          1
          ≤ occurrences (slice_index (values_of key_table.entries) number) (values_of x.entries)
          + occurrences (slice_index (values_of key_table.entries) number) x.kept)
          (sym is) (let some = used number lt in omega arith);
      address = addresses number lt;
      bytes =
          ap (λ (x : KeyTable).
          bytes_at memory
          (start + offset_at tenant k (slice_index (values_of key_table.entries) number))
          x.shape.value_size)
          is
          ∙ bytes (slice_index (values_of key_table.entries) number) (in_range number lt)
          ∙ sym (value_of value key_table.entries number lt);
    }

-- at the start of a run a live map represents the map whose objects are numbered in the order of the keys
pub maps_begin : MapsBegin
maps_begin l start memory tenant k m value live sound none bytes counts addresses =
    let key_table = keys_at tenant k in
    record {
      live = live;
      element = λ number. slice_index (values_of key_table.entries) number;
      table =
          ap (λ (es : List (List ℕ × ℕ)).
          let t : Table ℕ = record { shape = key_table.shape; entries = es; deleted = length key_table.kept } in t)
          (numbered_back value
          (λ number. slice_index (values_of key_table.entries) number)
          0 key_table.entries
          (λ i lt. ap (slice_index (values_of key_table.entries)) (omega arith)));
      owns = owned_from 0 (length (valued value key_table.entries)) (valued value key_table.entries) (omega arith);
      counted = counts ∙ sym (valued_long value key_table.entries);
      objects = λ number lt.
          object l start memory tenant k m value key_table refl sound bytes addresses number
          (within l start memory tenant k m value key_table refl sound bytes addresses number lt);
      apart = λ a b lt few e.
          at_most_one (values_of key_table.entries) a b
          (in_values l start memory tenant k m value key_table refl sound bytes addresses a lt)
          (in_values l start memory tenant k m value key_table refl sound bytes addresses b few)
          (once l start memory tenant k m value key_table refl sound bytes addresses)
          e;
    }

-- ---- the end

values_same : (value : ℕ → List ℕ) (element : ℕ → ℕ) (values : ℕ → List ℕ) (count : ℕ)
    (es : List (List ℕ × ℕ))
    → KeysHaveObjects count es
    → ((number : ℕ) → number < count → value (element number) ≡ values number)
    → valued value (map (λ e. let pair : List ℕ × ℕ = (e.0, element e.1) in pair) es) ≡ valued values es
values_same value element values count [] owns same = refl
values_same value element values count (e ∷ es) owns same =
    ap (λ (v : List ℕ).
    let head : List ℕ × List ℕ = (e.0, v) in
    head ∷ valued value (map (λ e. let pair : List ℕ × ℕ = (e.0, element e.1) in pair) es))
    (same e.1 owns.0)
    ∙ ap (λ (fs : List (List ℕ × List ℕ)). (e.0, values e.1) ∷ fs)
    (values_same value element values count es owns.1 same)

-- at the end of a run the live map has the same pairs as the tagged machine's map
pub maps_end : MapsEnd
maps_end l start memory old new k m t value h ended bytes =
    ap (λ (x : KeyTable). with_values value (table_of x)) ended
    ∙ ap (λ (x : Table ℕ).
    let y : Table (List ℕ) = record { shape = x.shape; entries = valued value x.entries; deleted = 0 } in y)
    h.table
    ∙ ap (λ (es : List (List ℕ × List ℕ)).
    let y : Table (List ℕ) = record { shape = t.table.shape; entries = es; deleted = 0 } in y)
    (values_same value h.element t.values t.count t.table.entries h.owns
    (λ number lt. let o = h.objects number lt in bytes (h.element number) o.within ∙ o.bytes))
