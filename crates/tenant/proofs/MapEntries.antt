-- A live map in the state, and its entries in order.
use Rattle.std.proofs.Common.{◌≡◌, ℕ, ◌+◌, ◌≤◌, Bool, true, false, List, [], ◌∷◌, map, length, Option, Some, None, IsSome}
use Rattle.std.proofs.Common.{is_some, option_map, refl, sym, ap, subst, ◌∙◌, nat_eq, nat_lt, if◌then◌else◌, true≢false, arith}
use Rattle.std.specs.Map.{values_of}
use Rattle.bpf_maps.specs.Limits.{most_maps}
use Rattle.bpf_maps.specs.Live.{LiveMap, LiveMaps, AreSound, live_at, live_or, keys_at, value_in, map_in}
use Rattle.bpf_maps.specs.KeyTable.{IsSound, occurrences}
use Rattle.ordered_keys.specs.Orders.{first_entry, entry_after_element, next_entry}
use Rattle.tenant.specs.Entry.{numbered_entries}
use Rattle.tenant.specs.Kept.{KeptTenant, AreHeld, state_in}
use Rattle.tenant.specs.State.{Map, live}
use Rattle.tenant.proofs.AtHandles.{map_there, live_is as lives}
use Rattle.tenant.proofs.LookUps.{live_is}

-- a live map is in the state
pub live_in_state : (part : List ℕ) (k : KeptTenant)
    → AreHeld k.live
    → (handle : ℕ) → IsSome (live_at k.live handle)
    → live (state_in part k) handle ≡ Some (map_in part k.live handle)
live_in_state part k held handle some =
    live_is part k handle (held.within handle some) ∙ map_there part k.live handle some

-- a map that is not live is not in the state
pub gone_in_state : (part : List ℕ) (k : KeptTenant)
    → length k.live.maps ≡ most_maps
    → (handle : ℕ) → is_some (live_at k.live handle) ≡ false
    → live (state_in part k) handle ≡ None
gone_in_state part k long handle none = by (live (state_in part k) handle) refl
  where
    by : (o : Option Map) → live (state_in part k) handle ≡ o → live (state_in part k) handle ≡ None
    by None e = e
    by (Some t) e = absurd (true≢false (sym (ap is_some e) ∙ lives part k.live long handle ∙ none))

-- ---- entries with other keys and the same elements

module _ {K : Type 0} {J : Type 0} (f : K × ℕ → J) where
  abbrev moved : K × ℕ → J × ℕ
  moved e = (f e, e.1)

  first_moved : (es : List (K × ℕ)) → first_entry (map moved es) ≡ option_map moved (first_entry es)
  first_moved [] = refl
  first_moved (e ∷ es) = refl

  behind_moved : (p : ℕ) (es : List (K × ℕ)) → entry_after_element p (map moved es) ≡ option_map moved (entry_after_element p es)
  behind_moved p [] = refl
  behind_moved p (e ∷ es) = by (nat_eq p e.1) (first_moved es) (behind_moved p es)
    where
      by : (b : Bool)
          → first_entry (map moved es) ≡ option_map moved (first_entry es)
          → entry_after_element p (map moved es) ≡ option_map moved (entry_after_element p es)
          → (if b then first_entry (map moved es) else entry_after_element p (map moved es))
          ≡ option_map moved (if b then first_entry es else entry_after_element p es)
      by true g r = g
      by false g r = r

  -- the next of the entries with other keys is the next entry with its other key
  pub next_moved : (element : Option ℕ) (es : List (K × ℕ))
      → next_entry element (map moved es) ≡ option_map moved (next_entry element es)
  next_moved None es = first_moved es
  next_moved (Some p) es = behind_moved p es

  -- the entries with other keys have the same elements
  pub elements_moved : (es : List (K × ℕ)) → values_of (map moved es) ≡ values_of es
  elements_moved [] = refl
  elements_moved (e ∷ es) = ap (λ (ps : List ℕ). e.1 ∷ ps) (elements_moved es)

-- ---- the entries of a map

abbrev with_value : List ℕ → LiveMaps → ℕ → List ℕ × ℕ → List ℕ × List ℕ
with_value part t k e = (e.0, value_in part t k e.1)

-- the next numbered entry of a map is the next one of its table of keys, with its value
pub next_numbered : (part : List ℕ) (t : LiveMaps) (k : ℕ) (element : Option ℕ)
    → next_entry element (numbered_entries part t k)
    ≡ option_map (λ (e : List ℕ × ℕ). (with_value part t k e, e.1)) (next_entry element (keys_at t k).entries)
next_numbered part t k element = next_moved (with_value part t k) element (keys_at t k).entries

at_most_one : (b : Bool) (n m : ℕ) → n + m ≤ (if b then 1 else 0) → n ≤ 1
at_most_one true n m le = omega (arith, le)
at_most_one false n m le = omega (arith, le)

numbered_once_live : (part : List ℕ) (t : LiveMaps) (k : ℕ)
    → IsSound (keys_at t k)
    → (p : ℕ) → occurrences p (values_of (numbered_entries part t k)) ≤ 1
numbered_once_live part t k sound p =
    subst (λ (ps : List ℕ). occurrences p ps ≤ 1) (sym (elements_moved (with_value part t k) (keys_at t k).entries))
    (at_most_one (nat_lt p (keys_at t k).shape.max_entries)
    (occurrences p (values_of (keys_at t k).entries)) (occurrences p (keys_at t k).kept)
    (sound.once p))

-- a map that is not live has no entries
no_entries : (l : Option LiveMap) → is_some l ≡ false → (live_or l).keys.entries ≡ []
no_entries None none = refl
no_entries (Some l) none = absurd (true≢false none)

none_follows : (element : Option ℕ) → next_entry {K = List ℕ} element [] ≡ None
none_follows None = refl
none_follows (Some p) = refl

-- a map that is not live has no next entry
pub none_numbered : (part : List ℕ) (t : LiveMaps) (k : ℕ) (element : Option ℕ)
    → is_some (live_at t k) ≡ false → None ≡ next_entry element (numbered_entries part t k)
none_numbered part t k element none =
    sym (next_numbered part t k element
    ∙ ap (λ (es : List (List ℕ × ℕ)).
    option_map (λ (e : List ℕ × ℕ). (with_value part t k e, e.1)) (next_entry element es))
    (no_entries (live_at t k) none)
    ∙ ap (option_map (λ (e : List ℕ × ℕ). (with_value part t k e, e.1))) (none_follows element))

-- if tables of keys are sound, no element is twice among the entries of a map
pub numbered_once : (part : List ℕ) (t : LiveMaps) (k : ℕ)
    → AreSound t
    → (p : ℕ) → occurrences p (values_of (numbered_entries part t k)) ≤ 1
numbered_once part t k sound p = by (live_at t k) refl
  where
    by : (o : Option LiveMap) → live_at t k ≡ o → occurrences p (values_of (numbered_entries part t k)) ≤ 1
    by None none =
        subst (λ (ps : List ℕ). occurrences p ps ≤ 1)
        (sym (elements_moved (with_value part t k) (keys_at t k).entries
        ∙ ap values_of (no_entries (live_at t k) (ap is_some none))))
        (omega arith)
    by (Some l) some = numbered_once_live part t k (sound k (ap is_some some)) p
