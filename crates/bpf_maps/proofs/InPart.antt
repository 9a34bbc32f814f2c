-- Live maps with the bytes of their values, as writes and calls change them.
use Rattle.std.proofs.Common.{◌≡◌, ◌≢◌, ◌⊎◌, ℕ, ◌+◌, ◌<◌, ◌≤◌, ◌==◌, Bool, if◌then◌else◌, List, [], ◌∷◌, length}
use Rattle.std.proofs.Common.{take, drop, IsSome, Result, Ok, Err, refl, sym, ap, ◌∙◌, ⊎_elim, arith, length-append}
use Rattle.std.specs.Map.{values_of}
use Rattle.std.proofs.lemmas.Bool.{cases_Bool, eqb-true, eqb-false}
use Rattle.std.proofs.lemmas.List.{take_all}
use Rattle.tagged_model.specs.declared.fault.MapFault.{MapFault}
use Rattle.tagged_model.specs.Table as map
use Rattle.tagged_model.specs.MapLaws.{CallsRefineValues, MapVerdictsMatchLookUps}
use Rattle.bpf_maps.specs.declared.part.TheConstants.{STACK_AND_CONTEXT}
use Rattle.bpf_maps.specs.KeyTable.{KeyTable, table_of, occurrences, IsFree, Claims, with_entry, with_kept, after_run}
use Rattle.bpf_maps.specs.Live.{LiveMaps, live_at, live_or, keys_at, shape_at, offset_at, value_in, map_in, LiesInPart, IsLaid, SameAreas}
use Rattle.bpf_maps.specs.InPart.{IsValueAt, with_value, ValueIsWritten, updated, RefinesValues}
use Rattle.bpf_maps.proofs.Counts.{times-append, values_of-append}
use Rattle.bpf_maps.specs.LiveLaws.{laid_inside}
use Rattle.bpf_maps.proofs.Slots.{live_is, value_stays}
use Rattle.bpf_maps.proofs.Values.{written, table_written, agreeing_tables, used_in_entries}
use Rattle.bpf_maps.proofs.Written.{length_same, front_same, before_same, after_same, own}

-- ---- the addresses of values

apart_at : (t : LiveMaps)
    → IsLaid t → (k p j q : ℕ) → IsSome (live_at t k)
    → IsSome (live_at t j) → p < (shape_at t k).max_entries
    → q < (shape_at t j).max_entries → (k ≡ j → p ≢ q)
    → (offset_at t k p + (shape_at t k).value_size ≤ offset_at t j q)
    ⊎ (offset_at t j q + (shape_at t j).value_size ≤ offset_at t k p)
apart_at t laid k p j q live other lt below differ =
    laid.apart k p j q (live_or (live_at t k)) (live_or (live_at t j)) (live_is t k live)
    (live_is t j other) lt below differ

-- ---- a value is written

module _ (part : List ℕ) (t : LiveMaps) (k p : ℕ) (bytes : List ℕ) (is : IsValueAt part t k p bytes) where
  abbrev start : ℕ
  start = offset_at t k p

  abbrev later : List ℕ
  later = with_value part t k p bytes

  inside : LiesInPart start (shape_at t k).value_size
  inside = laid_inside t is.laid k p is.live is.within

  room : start + length bytes ≤ length part
  room = let within = inside.within in let size = is.size in let whole = is.whole in omega arith

  here : value_in later t k p ≡ bytes
  here =
      let size = is.size in
      let first : start + 0 ≡ start = omega arith in
      ap (λ (n : ℕ). take (shape_at t k).value_size (drop n later)) (sym first)
      ∙ own part bytes start (length bytes) refl room 0 (shape_at t k).value_size (omega arith)
      ∙ take_all (shape_at t k).value_size bytes (omega arith)

  elsewhere : (j q : ℕ)
      → IsSome (live_at t j) → q < (shape_at t j).max_entries
      → (j ≡ k → q ≢ p)
      → value_in later t j q ≡ value_in part t j q
  elsewhere j q live lt differ =
      let size = is.size in
      ⊎_elim
      (λ below. before_same part bytes start (length bytes) refl room (offset_at t j q) (shape_at t j).value_size below)
      (λ above.
      after_same part bytes start (length bytes) refl room (offset_at t j q) (shape_at t j).value_size (omega arith))
      (apart_at t is.laid j q k p live is.live lt is.within differ)

  -- each value in use of this map
  each : (q : ℕ)
      → 1 ≤ occurrences q (values_of (keys_at t k).entries)
      → value_in later t k q ≡ written (value_in part t k) p bytes q
  each q used = ⊎_elim
      (λ b.
      ap (value_in later t k) (eqb-true q p b)
      ∙ here
      ∙ sym (ap (λ (c : Bool). if c then bytes else value_in part t k q) b))
      (λ b.
      elsewhere k q is.live (used_in_entries (keys_at t k) q (is.sound k is.live) used) (λ _. eqb-false q p b)
      ∙ sym (ap (λ (c : Bool). if c then bytes else value_in part t k q) b))
      (cases_Bool (q == p))

  pub value_is_written : ValueIsWritten part t k p bytes
  value_is_written = record {
    here = here;
    elsewhere = elsewhere;
    key = λ key found.
        agreeing_tables (value_in later t k) (written (value_in part t k) p bytes) (keys_at t k) each
        ∙ table_written (value_in part t k) (keys_at t k) key p bytes (is.sound k is.live) found;
    others = λ other differ live.
        agreeing_tables (value_in later t other) (value_in part t other) (keys_at t other)
        (λ q used.
        elsewhere other q live
        (used_in_entries (keys_at t other) q (is.sound other live) used)
        (λ same. absurd (differ same)));
    front = let behind = inside.behind in front_same part bytes start (length bytes) refl room STACK_AND_CONTEXT behind;
    size = length_same part bytes start (length bytes) refl room ∙ is.whole;
  }

-- a value that is written is that of the element and of its key, and no other value changes
pub value_written : (part : List ℕ) (t : LiveMaps) (k p : ℕ) (bytes : List ℕ)
    → IsValueAt part t k p bytes → ValueIsWritten part t k p bytes
value_written = value_is_written

-- ---- the keys of a map change, and its area does not

module _ (along : CallsRefineValues ℕ (List ℕ)) (tell : MapVerdictsMatchLookUps ℕ) (part : List ℕ)
    (old new : LiveMaps) (k : ℕ) (areas : SameAreas old new) (live : IsSome (live_at new k)) where
  abbrev value : ℕ → List ℕ
  value = value_in part old k

  -- the values are at the same addresses as before
  moved : (t : KeyTable) → map.with_values (value_in part new k) (table_of t) ≡ map.with_values value (table_of t)
  moved t = agreeing_tables (value_in part new k) value t (λ p used. value_stays old new k areas live part p)

  same : keys_at new k ≡ keys_at old k → map_in part new k ≡ map_in part old k
  same keys = ap (λ (t : KeyTable). map.with_values (value_in part new k) (table_of t)) keys ∙ moved (keys_at old k)

  one_deleted : (t : KeyTable) (key : List ℕ) (element : ℕ)
      → table_of (with_kept t key element) ≡ map.with_deleted (table_of t) key
  one_deleted t key element =
      ap (λ (n : ℕ).
      let m : map.Table ℕ = record { shape = t.shape; entries = map.without key t.entries; deleted = n } in m)
      (length-append t.kept (element ∷ []))

  delete : (key : List ℕ) (element : ℕ)
      → keys_at new k ≡ with_kept (keys_at old k) key element
      → map_in part new k ≡ map.with_deleted (map_in part old k) key
  delete key element keys =
      ap (λ (t : KeyTable). map.with_values (value_in part new k) (table_of t)) keys
      ∙ moved (with_kept (keys_at old k) key element)
      ∙ ap (map.with_values value) (one_deleted (keys_at old k) key element)
      ∙ along.delete value (table_of (keys_at old k)) key

  end : keys_at new k ≡ after_run (keys_at old k) → map_in part new k ≡ map.after_run (map_in part old k)
  end keys =
      ap (λ (t : KeyTable). map.with_values (value_in part new k) (table_of t)) keys
      ∙ moved (after_run (keys_at old k))
      ∙ along.end value (table_of (keys_at old k))

  -- ---- a claim and the write of its value

  module _ (flags p : ℕ) (key bytes : List ℕ) (is : IsValueAt part new k p bytes) where
    abbrev after : List ℕ
    after = with_value part new k p bytes

    present : map.verdict (table_of (keys_at old k)) key flags ≡ map.Present p
        → keys_at new k ≡ keys_at old k
        → map_in after new k ≡ map.with_object (map_in part old k) key bytes
    present v keys =
        (value_is_written part new k p bytes is).key key
        (ap (λ (t : KeyTable). map.look_up (table_of t) key) keys
        ∙ tell.present (table_of (keys_at old k)) key flags p v)
        ∙ ap (λ (t : map.Table (List ℕ)). map.with_object t key bytes) (same keys)

    -- no value of a key is in a free element
    others_stay : IsFree (keys_at old k) p
        → keys_at new k ≡ with_entry (keys_at old k) key p
        → (q : ℕ) → 1 ≤ occurrences q (values_of (keys_at old k).entries)
        → value_in after new k q ≡ value q
    others_stay free keys q used =
        elsewhere part new k p bytes is k q live
        (used_in_entries (keys_at new k) q (is.sound k live) still)
        (λ _. differ)
        ∙ value_stays old new k areas live part q
      where
        still : 1 ≤ occurrences q (values_of (keys_at new k).entries)
        still =
            let es = (keys_at old k).entries in
            let more =
            ap (λ (t : KeyTable). occurrences q (values_of t.entries)) keys
            ∙ ap (occurrences q) (values_of-append es ((key, p) ∷ []))
            ∙ times-append q (values_of es) (p ∷ []) in
            omega arith

        differ : q ≢ p
        differ e =
            let none = free.entries in
            let there = ap (λ (n : ℕ). occurrences n (values_of (keys_at old k).entries)) e in
            omega arith

    new_key : IsFree (keys_at old k) p
        → keys_at new k ≡ with_entry (keys_at old k) key p
        → map_in after new k ≡ map.with_new (map_in part old k) key bytes
    new_key free keys =
        ap (λ (t : KeyTable). map.with_values (value_in after new k) (table_of t)) keys
        ∙ along.update (value_in after new k) (table_of (keys_at old k)) key p
        ∙ ap (map.with_new (map.with_values (value_in after new k) (table_of (keys_at old k))) key)
        (here part new k p bytes is)
        ∙ ap (λ (t : map.Table (List ℕ)). map.with_new t key bytes)
        (agreeing_tables (value_in after new k) value (keys_at old k) (others_stay free keys))

    by_verdict : (v : map.Verdict ℕ)
        → map.verdict (table_of (keys_at old k)) key flags ≡ v
        → Claims v key (keys_at old k) (Ok p) (keys_at new k)
        → map_in after new k ≡ updated (map.verdict_with value v) (map_in part old k) key bytes
    by_verdict (map.Refused fault) v claims = absurd (no_fault claims.0)
      where
        no_fault : ◌≡◌ {A = Result ℕ MapFault} (Ok p) (Err fault) → ⊥
        no_fault e = cc
    by_verdict (map.Present q) v claims =
        present (v ∙ ap (λ (n : ℕ). map.Present n) (sym (same_element claims.0))) claims.1
      where
        same_element : ◌≡◌ {A = Result ℕ MapFault} (Ok p) (Ok q) → p ≡ q
        same_element e = cc
    by_verdict map.New v claims = new_key claims.0 claims.1

    update : Claims (map.verdict (table_of (keys_at old k)) key flags) key (keys_at old k) (Ok p) (keys_at new k)
        → map_in after new k ≡ updated (map.verdict (map_in part old k) key flags) (map_in part old k) key bytes
    update claims =
        by_verdict (map.verdict (table_of (keys_at old k)) key flags) refl claims
        ∙ ap (λ v. updated v (map_in part old k) key bytes)
        (sym (along.verdict value (table_of (keys_at old k)) key flags))

-- if the areas are not changed, the map of values changes as the map of elements does
pub goes_along : CallsRefineValues ℕ (List ℕ)
    → MapVerdictsMatchLookUps ℕ
    → (part : List ℕ) (old new : LiveMaps) (k : ℕ) → SameAreas old new
    → IsSome (live_at new k)
    → RefinesValues part old new k
goes_along along tell part old new k areas live = record {
  same = same along tell part old new k areas live;
  delete = delete along tell part old new k areas live;
  end = end along tell part old new k areas live;
  update = update along tell part old new k areas live;
}
