-- The maps of a run in other bytes, or after one of them changed.
use Rattle.std.proofs.Common.{◌≡◌, ◌≢◌, ℕ, ◌+◌, ◌<◌, ◌≤◌, ◌==◌, eqb, List, length, slice_get, Option, Some, refl, sym, ap, subst, ◌∙◌, ⊎_elim, arith}
use Rattle.std.specs.Prelude.{slice_index}
use Rattle.std.specs.Option.{IsSome}
use Rattle.std.specs.Map.{values_of}
use Rattle.std.proofs.lemmas.Bool.{cond_both, eqb-true, eqb-false, cases_Bool}
use Rattle.std.proofs.lemmas.Option.{same_Some, slice_get_within}
use Rattle.words.specs.Bytes.{bytes_at}
use Rattle.tagged_model.specs.State.{RunState, RunMap, set_at}
use Rattle.arena.specs.Memory.{base, part_start}
use Rattle.bpf_maps.specs.KeyTable.{KeyTable, table_of, occurrences}
use Rattle.bpf_maps.specs.Live.{LiveMaps, LiveMap, live_at, live_or, keys_at, shape_at, offset, offset_at, OnlyKeysChange}
use Rattle.bpf_maps.specs.Laws.{AreasKeepElements}
use Rattle.bpf_helpers.specs.Layout.{Layout}
use Rattle.bpf_helpers.specs.Stands.{HasObject, HasMap, MapsStandFor, StoredMaps, KeepsUnboundValues, Simulates, stored_maps}
use Rattle.bpf_helpers.specs.States.{Environment, FlatState, with_held}

-- the maps of different descriptors have different handles
pub other_key : {env : Environment} {l : Layout} {stored : StoredMaps} {maps : ℕ → Option RunMap}
    → MapsStandFor env l stored maps
    → (i m j n : ℕ) → slice_get env.descriptors i ≡ Some m
    → slice_get env.descriptors j ≡ Some n → n ≢ m
    → slice_index env.bind j ≢ slice_index env.bind i
other_key {env} has i m j n named e differ same =
    let count = has.count in
    let a = slice_get_within env.descriptors j n e in
    let b = slice_get_within env.descriptors i m named in
    let one : j ≡ i = has.keys j i (omega arith) (omega arith) same in
    differ (same_Some n m (sym e ∙ ap (λ (x : ℕ). slice_get env.descriptors x) one ∙ named))

-- the map has the same elements, at the same addresses
map_moved : {l : Layout} {start : ℕ} {memory : List ℕ} {old new : LiveMaps} {k m : ℕ} {t : RunMap}
    → keys_at new k ≡ keys_at old k
    → ((p : ℕ) → offset_at new k p ≡ offset_at old k p)
    → IsSome (live_at new k)
    → HasMap l (stored_maps start memory old) k m t
    → HasMap l (stored_maps start memory new) k m t
map_moved {start = start} {memory = memory} {old = old} {new = new} {k = k} key_table offsets live h = record {
  live = live;
  element = h.element;
  table = ap table_of key_table ∙ h.table;
  owns = h.owns;
  counted = h.counted;
  objects = λ number lt.
      let o = h.objects number lt in
      record {
        within = subst (λ (x : KeyTable). h.element number < x.shape.max_entries) (sym key_table) o.within;
        in_use =
            subst (λ (x : KeyTable).
            1 ≤ occurrences (h.element number) (values_of x.entries) + occurrences (h.element number) x.kept)
            (sym key_table) o.in_use;
        address = o.address ∙ ap (λ (a : ℕ). base + (start + a)) (sym (offsets (h.element number)));
        bytes =
            ap (λ (a : ℕ). bytes_at memory (start + a) (shape_at new k).value_size) (offsets (h.element number))
            ∙ ap (λ (x : KeyTable). bytes_at memory (start + offset_at old k (h.element number)) x.shape.value_size)
            key_table
            ∙ o.bytes;
      };
  apart = h.apart;
}

live_keys : (old new : LiveMaps) (k : ℕ) → live_at new k ≡ live_at old k → keys_at new k ≡ keys_at old k
live_keys old new k e = ap (λ (o : Option LiveMap). (live_or o).keys) e

live_offsets : (old new : LiveMaps) (k p : ℕ) → live_at new k ≡ live_at old k → offset_at new k p ≡ offset_at old k p
live_offsets old new k p e = ap (λ (o : Option LiveMap). offset (live_or o) p) e

-- if the element of each object has a new value, the live map represents the map with these values
pub other_bytes : {l : Layout} {start : ℕ} {before after : List ℕ} {tenant : LiveMaps} {k m : ℕ}
    {t : RunMap} {values : ℕ → List ℕ} (h : HasMap l (stored_maps start before tenant) k m t)
    → ((number : ℕ) → number < t.count
    → HasObject (stored_maps start after tenant) k (h.element number) (l.object_at m number) (values number))
    → HasMap l (stored_maps start after tenant) k m (record t { values = values })
other_bytes h objects = record {
  live = h.live;
  element = h.element;
  table = h.table;
  owns = h.owns;
  counted = h.counted;
  objects = objects;
  apart = h.apart;
}

-- only the map of handle k changes, and its elements have the same addresses
module _ {old new : LiveMaps} {k : ℕ} (rest : OnlyKeysChange k old new) where
  -- if only the map of one handle changes, that of another handle represents the same map as before
  pub other_moved : {l : Layout} {start : ℕ} {memory : List ℕ} {j n : ℕ} {u : RunMap}
      → j ≢ k
      → HasMap l (stored_maps start memory old) j n u
      → HasMap l (stored_maps start memory new) j n u
  other_moved {j = j} differ h =
      map_moved (live_keys old new j (rest.others j differ))
      (λ p. live_offsets old new j p (rest.others j differ))
      (subst IsSome (sym (rest.others j differ)) h.live) h

  -- if no key of the live maps changes, they represent the same maps of the run as before
  pub maps_moved : AreasKeepElements
      → keys_at new k ≡ keys_at old k
      → {env : Environment} {l : Layout} {start : ℕ} {memory : List ℕ} {maps : ℕ → Option RunMap}
      → MapsStandFor env l (stored_maps start memory old) maps
      → MapsStandFor env l (stored_maps start memory new) maps
  maps_moved keep key_table {env} {l} {start} {memory} has = record {
    count = has.count;
    each = λ i m e. let g = has.each i m e in (
      g.0,
      g.1,
      ⊎_elim
          (λ b. let same : slice_index env.bind i ≡ k = eqb-true (slice_index env.bind i) k b in
          subst (λ (j : ℕ). HasMap l (stored_maps start memory new) j m g.0) (sym same)
          (map_moved key_table (λ p. keep old new k p rest.areas rest.live) rest.live
          (subst (λ (j : ℕ). HasMap l (stored_maps start memory old) j m g.0) same g.2)))
          (λ b. other_moved (eqb-false (slice_index env.bind i) k b) g.2)
          (cases_Bool (eqb (slice_index env.bind i) k)),
    );
    listed = has.listed;
    keys = has.keys;
    names = has.names;
    laid = rest.laid;
  }

-- if a map of the run is set to itself, the live maps represent the same maps as before
pub maps_again : {env : Environment} {l : Layout} {stored : StoredMaps} {maps : ℕ → Option RunMap}
    (m : ℕ) {t : RunMap}
    → maps m ≡ Some t → MapsStandFor env l stored maps
    → MapsStandFor env l stored (set_at maps m (Some t))
maps_again {env} {l} {stored} {maps} m {t} is has = record {
  count = has.count;
  each = λ i n e. let g = has.each i n e in
      cond_both (n == m) (Some t) (maps n)
      (λ o. (u : RunMap) × (o ≡ Some u) × HasMap l stored (slice_index env.bind i) n u)
      (λ b. (g.0, sym is ∙ ap maps (sym (eqb-true n m b)) ∙ g.1, g.2))
      (λ _. g);
  listed = has.listed;
  keys = has.keys;
  names = has.names;
  laid = has.laid;
}

-- one map is replaced
module _ {env : Environment} {l : Layout} {start : ℕ} {memory : List ℕ} {old new : LiveMaps}
    {maps : ℕ → Option RunMap} (i m : ℕ) {t : RunMap}
    (has : MapsStandFor env l (stored_maps start memory old) maps)
    (named : slice_get env.descriptors i ≡ Some m)
    (rest : OnlyKeysChange (slice_index env.bind i) old new)
    (own : HasMap l (stored_maps start memory new) (slice_index env.bind i) m t) where
  -- if the only live map that changes represents a new map of the run, the live maps represent the run's maps with it
  pub map_replaced : MapsStandFor env l (stored_maps start memory new) (set_at maps m (Some t))
  map_replaced = record {
    count = has.count;
    each = λ j n e. let g = has.each j n e in
        cond_both (n == m) (Some t) (maps n)
        (λ o. (v : RunMap) × (o ≡ Some v) × HasMap l (stored_maps start memory new) (slice_index env.bind j) n v)
        (λ b.
        let same : m ≡ n = sym (eqb-true n m b) in
        let one : i ≡ j = has.names i j m named (e ∙ ap (λ (x : ℕ). Some x) (sym same)) in (
          t,
          refl,
          subst (λ (x : ℕ). HasMap l (stored_maps start memory new) (slice_index env.bind x) n t) one
              (subst (λ (x : ℕ). HasMap l (stored_maps start memory new) (slice_index env.bind i) x t) same own),
        ))
        (λ b. (g.0, g.1, other_moved rest (other_key has i m j n named e (eqb-false n m b)) g.2));
    listed = has.listed;
    keys = has.keys;
    names = has.names;
    laid = rest.laid;
  }

-- ---- a call that changes one map of the run

-- if only one bound map changes, the values of maps that are not bound are those in the old bytes
pub others_moved : (bind : List ℕ) (start : ℕ) (old memory : List ℕ) (tenant new : LiveMaps) (i : ℕ)
    → i < length bind
    → ((other : ℕ) → other ≢ slice_index bind i → live_at new other ≡ live_at tenant other)
    → KeepsUnboundValues bind old (stored_maps start memory tenant)
    → KeepsUnboundValues bind old (stored_maps start memory new)
others_moved bind start old memory tenant new i within others has key p away =
    subst (λ (o : Option LiveMap).
    IsSome o
    → p < (live_or o).keys.shape.max_entries
    → bytes_at memory (start + offset (live_or o) p) (live_or o).keys.shape.value_size
    ≡ bytes_at old (start + offset (live_or o) p) (live_or o).keys.shape.value_size)
    (sym (others key (λ same. away i within (sym same))))
    (λ live lt. has key p away live lt)

-- words and bytes represent a state with other maps, if the call writes no value
pub maps_stand : {env : Environment} {l : Layout} {flat : FlatState} {s : RunState}
    → Simulates env l flat s
    → (i m : ℕ) → slice_get env.descriptors i ≡ Some m
    → (new : LiveMaps) → OnlyKeysChange (slice_index env.bind i) flat.maps new
    → (maps : ℕ → Option RunMap)
    → MapsStandFor env l (stored_maps (part_start env.memory env.tenant) flat.memory.bytes new) maps
    → Simulates env l (with_held flat flat.memory new) (record s { maps = maps })
maps_stand {env} {flat = flat} stands i m named new rest maps stand = record {
  slot = stands.slot;
  count = stands.count;
  packet = stands.packet;
  changed = stands.changed;
  front = stands.front;
  values = stands.values;
  stack = stands.stack;
  words = stands.words;
  context = stands.context;
  maps = stand;
  elsewhere =
      let count = stands.maps.count in
      let fits = slice_get_within env.descriptors i m named in
      others_moved env.bind (part_start env.memory env.tenant) env.memory.bytes flat.memory.bytes
      flat.maps new i (omega arith) rest.others stands.elsewhere;
}
