-- Live maps that keep their keys and the values of these keys.
use Rattle.std.proofs.Common.{◌≡◌, ℕ, ◌<◌, List, Option, Some, None, IsSome, is_some, option_map, refl, sym, ap, subst, ◌∙◌}
use Rattle.tagged_model.specs.Table.{with_values}
use Rattle.bpf_maps.specs.KeyTable.{KeyTable, table_of, IsSound}
use Rattle.bpf_maps.specs.Live.{LiveMap, LiveMaps, live_at, live_or, no_live, keys_at, value_in}
use Rattle.bpf_maps.specs.Live.{map_in, SameValues, KeepsMap, MapWithoutArea, without_area, without_area_at}
use Rattle.bpf_maps.proofs.Values.{agreeing_tables, used_in_entries}

-- ---- a map without its area

abbrev held_keys : Option MapWithoutArea → KeyTable
held_keys None = no_live.keys
held_keys (Some h) = h.keys

keys_held : (o : Option LiveMap) → (live_or o).keys ≡ held_keys (option_map without_area o)
keys_held None = refl
keys_held (Some l) = refl

-- a live map without its area is present if and only if the live map is
pub some_held : (o : Option LiveMap) → is_some (option_map without_area o) ≡ is_some o
some_held None = refl
some_held (Some l) = refl

module _ (old new : LiveMaps) (k : ℕ) (same : without_area_at new k ≡ without_area_at old k) where
  held_live : IsSome (live_at old k) → IsSome (live_at new k)
  held_live live = sym (some_held (live_at new k)) ∙ ap is_some same ∙ some_held (live_at old k) ∙ live

  same_keys : keys_at new k ≡ keys_at old k
  same_keys = keys_held (live_at new k) ∙ ap held_keys same ∙ sym (keys_held (live_at old k))

-- ---- with the values

module _ (old new : LiveMaps) (bytes later : List ℕ) (k : ℕ)
    (values : SameValues old bytes new later)
    (sound : IsSome (live_at old k) → IsSound (keys_at old k)) where
  kept : keys_at new k ≡ keys_at old k
      → IsSome (live_at old k) → IsSome (live_at new k)
      → map_in later new k ≡ map_in bytes old k
  kept keys was is =
      ap (λ (q : KeyTable). with_values (value_in later new k) (table_of q)) keys
      ∙ agreeing_tables (value_in later new k) (value_in bytes old k) (keys_at old k)
      (λ p used.
      values k p was is
      (subst (λ (q : KeyTable). p < q.shape.max_entries) (sym keys)
      (used_in_entries (keys_at old k) p (sound was) used)))

  -- a live map that is not changed, with values that are not changed, still has the same keys and values
  pub keeps_live : live_at new k ≡ live_at old k → KeepsMap k old bytes new later
  keeps_live same live = (
    ap is_some same ∙ live,
    kept (ap (λ (o : Option LiveMap). (live_or o).keys) same) live (ap is_some same ∙ live),
  )

  -- a live map of which only the area moves, with values that are not changed, has the same keys and values
  pub keeps_held : without_area_at new k ≡ without_area_at old k → KeepsMap k old bytes new later
  keeps_held same live = (
    held_live old new k same live,
    kept (same_keys old new k same) live (held_live old new k same live),
  )

  -- the elements of the keys are the same
  pub keeps_keys : IsSome (live_at new k) → keys_at new k ≡ keys_at old k → KeepsMap k old bytes new later
  keeps_keys is keys live = (is, kept keys live is)
