-- A call that changes the keys of one map and nothing else.
use Rattle.std.proofs.Common.{◌≡◌, ℕ, refl, sym, ap, subst, is_some}
use Rattle.bpf_maps.specs.declared.bpf_map.BpfMap.{BpfMap}
use Rattle.bpf_maps.specs.declared.stored_map.StoredMap.{StoredMap}
use Rattle.bpf_maps.specs.declared.maps.Maps.TheInside.{Inside}
use Rattle.bpf_maps.specs.KeyTable.{IsSound}
use Rattle.bpf_maps.specs.BpfMap.{keys_in}
use Rattle.bpf_maps.specs.Live.{LiveMaps, keys_at, OnlyKeysChange}
use Rattle.bpf_maps.specs.InMaps.{as_live_maps, IsWellFormedMaps}
use Rattle.bpf_maps.proofs.Changes.{with_stored, seen_of, IsUnder, IsChange, placed_under, live_old, live_new}
use Rattle.bpf_maps.proofs.Changes.{others_stay, areas_stay, whole_stays, laid_stays, room_stays, part_stays}

-- the map with another table of keys
abbrev pub with_map : StoredMap → BpfMap → StoredMap
with_map e map = record { map = map; start = e.start; stride = e.stride; elements = e.elements; holds = e.holds }

-- the map of `handle`, which is under `key`, has another table
pub record IsKeyChange (a : Inside) (t : LiveMaps) (handle map key : ℕ) (old : StoredMap)
    (table : BpfMap) : Type 0 where
  -- the old map is in the slab under the key of the handle
  pub under : IsUnder a t handle map key old
  -- the new table has the shape of the old one
  pub shape : (keys_in table).shape ≡ (keys_in old.map).shape
  -- the new table is sound
  pub sound : IsSound (keys_in table)

module _ {a : Inside} {t : LiveMaps} {handle map key : ℕ} {old : StoredMap} {table : BpfMap}
    (c : IsKeyChange a t handle map key old table) where
  abbrev after : Inside
  after = with_stored a key (with_map old table)

  change : IsChange a t handle map key old (with_map old table)
  change = record {
    under = c.under;
    start = refl;
    stride = refl;
    elements = refl;
    shape = c.shape;
    held = (placed_under c.under).held;
    sound = c.sound;
  }

  -- before the change, the live map of the handle has the old table of keys
  pub keys_before : keys_in old.map ≡ keys_at t map
  keys_before = sym (seen_of (λ l. l.keys) (live_old change))

  -- after the change, the live map of the handle has the new table of keys
  pub keys_after : keys_in table ≡ keys_at (as_live_maps after) map
  keys_after = sym (seen_of (λ l. l.keys) (live_new change))

  -- the invariant of the live maps holds with the new table of keys
  pub keys_whole : IsWellFormedMaps after
  keys_whole = whole_stays change

  -- only the map of the handle has changed, and only in its keys and their elements
  pub only_keys : OnlyKeysChange map t (as_live_maps after)
  only_keys = record {
    live = ap is_some (live_new change);
    holds = part_stays change (λ l. l.holds) refl;
    shape = part_stays change (λ l. l.keys.shape) c.shape;
    sound = subst IsSound keys_after c.sound;
    others = others_stay change;
    areas = areas_stay change;
    room = room_stays change;
    laid = laid_stays change;
    refused = ap (λ (u : LiveMaps). u.refused) c.under.view;
  }
