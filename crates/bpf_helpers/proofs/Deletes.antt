-- After a deletion the words, bytes and live maps represent the state after the machine's deletion.
use Rattle.std.proofs.Common.{◌≡◌, ℕ, ◌+◌, ◌<◌, List, [], ◌∷◌, length-append, slice_get, Some, Result, Ok, Err, refl, sym, ap, subst, ◌∙◌, arith}
use Rattle.std.specs.Prelude.{slice_index}
use Rattle.std.specs.Map.{values_of}
use Rattle.std.specs.Result.{result_map_both}
use Rattle.std.proofs.lemmas.Option.{same_Some}
use Rattle.words.specs.Bytes.{bytes_at}
use Rattle.tagged_model.specs.declared.fault.MapFault.{MapFault}
use Rattle.tagged_model.specs.declared.shape.MapShape.{MapShape}
use Rattle.tagged_model.specs.Table.{Table, look_up, removal, without, with_values, with_deleted}
use Rattle.tagged_model.specs.State.{RunState, RunMap, set_at, with_map}
use Rattle.tagged_model.specs.Helpers.{taken_out, removed, without_key}
use Rattle.tagged_model.specs.StateLaws.{owns_without}
use Rattle.arena.specs.Memory.{base, part_start}
use Rattle.bpf_maps.specs.KeyTable.{KeyTable, table_of, occurrences, with_kept, Removes}
use Rattle.bpf_maps.specs.Live.{LiveMaps, keys_at, shape_at, offset_at, OnlyKeysChange}
use Rattle.bpf_helpers.specs.inside.Below.{LawsBelow}
use Rattle.bpf_helpers.specs.Layout.{Layout}
use Rattle.bpf_helpers.specs.Stands.{HasObject, HasMap, MapsStandFor, Simulates, stored_maps}
use Rattle.bpf_helpers.specs.inside.Flat.{removal_word, Deletes}
use Rattle.bpf_helpers.specs.inside.Laws.{DeletesKeepSimulation}
use Rattle.bpf_helpers.proofs.Verdicts.{removal_found}
use Rattle.bpf_helpers.proofs.Moved.{maps_moved, maps_again, map_replaced, maps_stand}
use Rattle.bpf_helpers.specs.States.{Environment, FlatState, with_held}

table_kept : (t : KeyTable) (key : List ℕ) (p : ℕ) → table_of (with_kept t key p) ≡ with_deleted (table_of t) key
table_kept t key p =
    ap (λ (n : ℕ). let m : Table ℕ = record { shape = t.shape; entries = without key t.entries; deleted = n } in m)
    (length-append t.kept (p ∷ []))

-- ---- the map without the key

module _ (below : LawsBelow) (l : Layout) (start : ℕ) (memory : List ℕ) (old new : LiveMaps)
    (k m : ℕ) (t : RunMap) (key : List ℕ) (p : ℕ)
    (h : HasMap l (stored_maps start memory old) k m t)
    (found : look_up (table_of (keys_at old k)) key ≡ Some p)
    (key_table : keys_at new k ≡ with_kept (keys_at old k) key p)
    (rest : OnlyKeysChange k old new) where
  uses : (q : ℕ)
      → occurrences q (values_of (keys_at new k).entries) + occurrences q (keys_at new k).kept
      ≡ occurrences q (values_of (keys_at old k).entries) + occurrences q (keys_at old k).kept
  uses q =
      ap (λ (x : KeyTable). occurrences q (values_of x.entries) + occurrences q x.kept) key_table
      ∙ below.deletes (keys_at old k) key p q found

  table_after : table_of (keys_at new k) ≡ with_values h.element (with_deleted t.table key)
  table_after =
      ap table_of key_table
      ∙ table_kept (keys_at old k) key p
      ∙ ap (λ (x : Table ℕ). with_deleted x key) h.table
      ∙ sym (below.along.delete h.element t.table key)

  object_after : (number : ℕ)
      → number < t.count
      → HasObject (stored_maps start memory new) k (h.element number) (l.object_at m number) (t.values number)
  object_after number lt =
      let o = h.objects number lt in
      let off = below.areas old new k (h.element number) rest.areas rest.live in
      record {
        within = subst (λ (s : MapShape). h.element number < s.max_entries) (sym rest.shape) o.within;
        in_use = let used = o.in_use in let same = uses (h.element number) in omega arith;
        address = o.address ∙ ap (λ (a : ℕ). base + (start + a)) (sym off);
        bytes =
            ap (λ (a : ℕ). bytes_at memory (start + a) (shape_at new k).value_size) off
            ∙ ap (λ (s : MapShape). bytes_at memory (start + offset_at old k (h.element number)) s.value_size)
            rest.shape
            ∙ o.bytes;
      }

  -- after the element of the key is kept apart, the live map represents the run's map without the key
  pub map_without : HasMap l (stored_maps start memory new) k m (without_key t key)
  map_without = record {
    live = rest.live;
    element = h.element;
    table = table_after;
    owns = owns_without t.count key t.table.entries h.owns;
    counted = h.counted;
    objects = object_after;
    apart = h.apart;
  }

-- ---- by the result

module _ (below : LawsBelow) (env : Environment) (l : Layout) (flat : FlatState) (s : RunState)
    (i m : ℕ) (map : RunMap) (key : List ℕ) (word : ℕ) (new : LiveMaps)
    (stands : Simulates env l flat s)
    (named : slice_get env.descriptors i ≡ Some m)
    (is : s.maps m ≡ Some map)
    (d : Deletes flat.maps (record { map = slice_index env.bind i; key = key }) word new) where
  abbrev k : ℕ
  k = slice_index env.bind i

  Done : Result ℕ MapFault → Type 0
  Done r =
      (word ≡ (taken_out map key r).answer)
      × Simulates env l (with_held flat flat.memory new) (with_map s m (taken_out map key r).map)

  has : HasMap l (stored_maps (part_start env.memory env.tenant) flat.memory.bytes flat.maps) k m map
  has =
      let g = stands.maps.each i m named in
      subst (HasMap l (stored_maps (part_start env.memory env.tenant) flat.memory.bytes flat.maps) k m)
      (same_Some g.0 map (sym g.1 ∙ is)) g.2

  with_maps : (u : RunMap)
      → MapsStandFor env l
      (stored_maps (part_start env.memory env.tenant) flat.memory.bytes new)
      (set_at s.maps m (Some u))
      → Simulates env l (with_held flat flat.memory new) (with_map s m u)
  with_maps u maps = maps_stand stands i m named new d.rest (set_at s.maps m (Some u)) maps

  done : (r : Result ℕ MapFault)
      → removal map.table key ≡ r
      → Removes (result_map_both has.element (λ fault. fault) r) key (keys_at flat.maps k) d.outcome (keys_at new k)
      → Done r
  unfolding Done
  done (Err fault) e c = (
    d.word_is ∙ ap removal_word c.0,
    with_maps map (maps_again m is (maps_moved d.rest below.areas c.1 stands.maps)),
  )
  done (Ok number) e c =
      let there : look_up (table_of (keys_at flat.maps k)) key ≡ Some (has.element number) =
      removal_found (table_of (keys_at flat.maps k)).shape.kind
      (look_up (table_of (keys_at flat.maps k)) key) (has.element number)
      (ap (λ (x : Table ℕ). removal x key) has.table
      ∙ below.along.removal has.element map.table key
      ∙ ap (result_map_both has.element (λ fault. fault)) e) in (
        d.word_is ∙ ap removal_word c.0,
        with_maps (without_key map key)
            (map_replaced i m stands.maps named d.rest
            (map_without below l (part_start env.memory env.tenant) flat.memory.bytes flat.maps new
            k m map key (has.element number) has there c.1 d.rest)),
      )

  -- a deletion returns what the tagged one does, and words and bytes represent the state after it
  pub delete_stands : (word ≡ (removed map key).answer)
      × Simulates env l (with_held flat flat.memory new) (with_map s m (removed map key).map)
  unfolding Done
  delete_stands =
      let same : removal (table_of (keys_at flat.maps k)) key
      ≡ result_map_both has.element (λ fault. fault) (removal map.table key) =
      ap (λ (x : Table ℕ). removal x key) has.table ∙ below.along.removal has.element map.table key in
      done (removal map.table key) refl
      (subst (λ r. Removes r key (keys_at flat.maps k) d.outcome (keys_at new k)) same d.removed)

pub deletes_keep_simulation : LawsBelow → DeletesKeepSimulation
deletes_keep_simulation below env l flat s i m map key word new stands named is d =
    delete_stands below env l flat s i m map key word new stands named is d
