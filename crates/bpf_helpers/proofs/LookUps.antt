-- A look-up on words and bytes has a result that represents the machine's.
use Rattle.std.proofs.Common.{◌≡◌, ℕ, ◌-◌, ◌*◌, ◌<◌, ◌==◌, List, map, length, slice_get, Option, Some, None, option_map, refl, sym, ap, subst, ◌∙◌, arith}
use Rattle.std.specs.Prelude.{slice_index}
use Rattle.std.proofs.lemmas.Bool.{cond-false, ne_eqb}
use Rattle.std.proofs.lemmas.Int.{ints}
use Rattle.std.proofs.lemmas.Option.{none-some, same_Some, slice_get-get_or, slice_get_within}
use Rattle.tagged_model.specs.declared.helper.Helper.TheVariants.{LookUp}
use Rattle.tagged_model.specs.declared.shape.MapShape.{MapShape}
use Rattle.tagged_model.specs.declared.value.Tagged.{Tagged}
use Rattle.tagged_model.specs.declared.value.Tagged.TheVariants.{Scalar, Map, Pointer}
use Rattle.tagged_model.specs.Table.{Table, look_up}
use Rattle.tagged_model.specs.Cells.{and_then}
use Rattle.tagged_model.specs.State.{RunState, RunMap, input}
use Rattle.tagged_model.specs.Helpers.{GivenMap, map_given, argument, map_argument, looked_up, called, returns}
use Rattle.tagged_model.specs.StateLaws.{found_owned}
use Rattle.arena.specs.Memory.{part_start}
use Rattle.bpf_maps.specs.KeyTable.{table_of}
use Rattle.bpf_maps.specs.Live.{keys_at, shape_at}
use Rattle.bpf_maps.specs.Laws.{CallsRefineValues}
use Rattle.bpf_helpers.specs.Layout.{Layout, IsWord}
use Rattle.bpf_helpers.specs.Stands.{IsRoom, HasMap, Simulates, stored_maps}
use Rattle.bpf_helpers.specs.Named.{bound_map, part_input, NamedKey, key_named}
use Rattle.bpf_helpers.specs.inside.Flat.{value_word, key_word, flat_look_up}
use Rattle.bpf_helpers.specs.inside.Laws.{GivesWord, LookUpsFollow}
use Rattle.bpf_helpers.proofs.Many.{also_some}
use Rattle.bpf_helpers.proofs.Asked.{asks_key}
use Rattle.bpf_helpers.proofs.Inputs.{input_there}
use Rattle.bpf_helpers.proofs.Words.{key_is}
use Rattle.bpf_helpers.specs.States.{Environment, FlatState, call_in}

-- ---- arguments

is_map : (v : Tagged) (m : ℕ) → map_given v ≡ Some m → v ≡ Map m
is_map (Map n) m e = ap (λ (k : ℕ). Map k) (same_Some n m e)
is_map (Scalar n) m e = absurd (none-some m e)
is_map (Pointer o x) m e = absurd (none-some m e)

-- the map in a register is this one
pub record IsGiven (s : RunState) (r : ℕ) (g : GivenMap) : Type 0 where
  -- the register holds the map of this descriptor
  pub register : s.registers r ≡ Some (Map g.descriptor)
  -- the run has this map under the descriptor
  pub there : s.maps g.descriptor ≡ Some g.map

-- the map that an argument gives is the one in the register
pub is_given : (s : RunState) (r : ℕ) (g : GivenMap) → map_argument s r ≡ Some g → IsGiven s r g
is_given s r g e =
    let a =
    also_some (argument s r map_given)
    (λ m. and_then (s.maps m) (λ map. Some (record { descriptor = m; map = map })))
    g e in
    let b = also_some (s.registers r) map_given a.0 a.1 in
    let c = also_some (s.maps a.0) (λ map. Some (record { descriptor = a.0; map = map })) g a.2 in
    let same = same_Some (record { descriptor = a.0; map = c.0 }) g c.2 in
    subst (IsGiven s r) same (record { register = b.1 ∙ ap (λ (v : Tagged). Some v) (is_map b.0 a.0 b.2); there = c.1 })

module _ (env : Environment) (l : Layout) (flat : FlatState) (s : RunState)
    (room : IsRoom env.memory env.tenant) (stands : Simulates env l flat s) where
  -- the map that a word names, and the live map that represents it
  pub record IsBound (w m : ℕ) (map : RunMap) : Type 0 where
    -- the index of the map among those of the run
    pub index : ℕ
    -- the index is one of a bound map
    pub within : index < length env.bind
    -- the descriptor of this index is that of the map
    pub named : slice_get env.descriptors index ≡ Some m
    -- the word names the handle of this index
    pub bound : bound_map env.bind w ≡ Some (slice_index env.bind index)
    -- the live map of this handle represents the map
    pub has : HasMap l
        (stored_maps (part_start env.memory env.tenant) flat.memory.bytes flat.maps)
        (slice_index env.bind index) m map

  -- the word of a map names the handle of the live map that represents it
  pub map_bound : (w m : ℕ) (map : RunMap) → IsWord env l (Map m) w → s.maps m ≡ Some map → IsBound w m map
  map_bound w m map h e =
      let i = w - 1 in
      let some = h.0 in
      let g = stands.maps.each i m h.1 in
      let same : g.0 ≡ map = same_Some g.0 map (sym g.1 ∙ e) in
      let count = stands.maps.count in
      let fits = slice_get_within env.descriptors i m h.1 in
      record {
        index = i;
        within = omega arith;
        named = h.1;
        bound =
            cond-false (w == 0) None (slice_get env.bind i) (ne_eqb w 0 (λ z. omega arith))
            ∙ slice_get-get_or env.bind i 0 (omega arith);
        has =
            subst (HasMap l
            (stored_maps (part_start env.memory env.tenant) flat.memory.bytes flat.maps)
            (slice_index env.bind i) m)
            same g.2;
      }

  -- ---- the result

  module _ (along : CallsRefineValues ℕ ℕ) (m key : ℕ) (map : RunMap)
      (has : HasMap l (stored_maps (part_start env.memory env.tenant) flat.memory.bytes flat.maps) key m map) where
    shape_same : shape_at flat.maps key ≡ map.table.shape
    shape_same = ap (λ (x : Table ℕ). x.shape) has.table

    found_element : (bytes : List ℕ)
        → look_up (table_of (keys_at flat.maps key)) bytes ≡ option_map has.element (look_up map.table bytes)
    found_element bytes = ap (λ (x : Table ℕ). look_up x bytes) has.table ∙ along.found has.element map.table bytes

    found_word : (o : Option ℕ)
        → ((number : ℕ) → o ≡ Some number → number < map.count)
        → IsWord env l (looked_up m o) (value_word (call_in env flat) key (option_map has.element o))
    found_word None owned = refl
    found_word (Some number) owned =
        let lt = owned number refl in
        let address = (has.objects number lt).address in
        let counted = has.counted in
        let begin : part_start flat.memory env.tenant ≡ part_start env.memory env.tenant =
        ap (λ (n : ℕ). env.tenant * n) stands.changed.part in
        (omega (arith, ints), refl, omega arith)

    pub look_up_follows : (bytes : List ℕ)
        → IsWord env l (looked_up m (look_up map.table bytes))
        (value_word (call_in env flat) key (look_up (table_of (keys_at flat.maps key)) bytes))
    look_up_follows bytes =
        subst (λ (o : Option ℕ).
        IsWord env l (looked_up m (look_up map.table bytes)) (value_word (call_in env flat) key o))
        (sym (found_element bytes))
        (found_word (look_up map.table bytes)
        (λ number e. found_owned map.count bytes map.table.entries number has.owns e))

  given_word : (map key : ℕ) (v : Tagged) {n : NamedKey}
      → key_named (call_in env flat) map key ≡ Some n
      → IsWord env l v (key_word (call_in env flat) n)
      → GivesWord env l (flat_look_up (call_in env flat) map key) (Some v)
  given_word map key v named is =
      subst (λ o. GivesWord env l (option_map (key_word (call_in env flat)) o) (Some v)) (sym named) is

  -- a look-up on words has a result that represents the result of the tagged machine's look-up
  pub follows : CallsRefineValues ℕ ℕ
      → (u : RunState) → called LookUp s ≡ Some u
      → (v : Tagged)
      × (u ≡ returns s v)
      × GivesWord env l
      (flat_look_up (call_in env flat) (slice_index flat.registers 1) (slice_index flat.registers 2))
      (Some v)
  follows along u e =
      let a = asks_key s u (λ g key. returns s (looked_up g.descriptor (look_up g.map.table key))) e in
      let g = a.given in
      let given = is_given s 1 g a.map in
      let c = also_some (s.registers 2) (λ p. input s p g.map.table.shape.key_size) a.key a.bytes in
      let bound =
      map_bound (slice_index flat.registers 1) g.descriptor g.map
      (stands.values 1 (Map g.descriptor) (omega arith) given.register)
      given.there in
      let key = slice_index env.bind bound.index in
      let size : (shape_at flat.maps key).key_size ≡ g.map.table.shape.key_size =
      ap (λ (x : MapShape). x.key_size) (shape_same along g.descriptor key g.map bound.has) in
      let read =
      input_there env l flat s room stands c.0 (slice_index flat.registers 2)
      g.map.table.shape.key_size a.key (stands.values 2 c.0 (omega arith) c.1)
      c.2 in
      let named =
      key_is (call_in env flat) (slice_index flat.registers 1) (slice_index flat.registers 2)
      bound.bound a.key
      (ap (λ (n : ℕ). part_input flat.memory env.tenant n (slice_index flat.registers 2)) size ∙ read) in (
        looked_up g.descriptor (look_up g.map.table a.key),
        sym a.leads,
        given_word (slice_index flat.registers 1) (slice_index flat.registers 2)
            (looked_up g.descriptor (look_up g.map.table a.key)) named
            (look_up_follows along g.descriptor key g.map bound.has a.key),
      )

pub look_ups_follow : CallsRefineValues ℕ ℕ → LookUpsFollow
look_ups_follow along env l flat s u room stands e = follows env l flat s room stands along u e
