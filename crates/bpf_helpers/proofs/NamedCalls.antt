-- If the machine's call of a helper has a result, the words of its arguments name all that the helper needs.
use Rattle.std.proofs.Common.{◌≡◌, ℕ, List, Some, refl, sym, ap, subst, ◌∙◌, arith}
use Rattle.std.specs.Prelude.{slice_index}
use Rattle.std.specs.Option.{IsSome}
use Rattle.arena.specs.Apart.{WritesStayInside}
use Rattle.tagged_model.specs.declared.helper.Helper.TheVariants.{LookUp, Update, Delete, LoadBytes}
use Rattle.tagged_model.specs.declared.shape.MapShape.{MapShape}
use Rattle.tagged_model.specs.Table.{look_up}
use Rattle.tagged_model.specs.State.{RunState, input}
use Rattle.tagged_model.specs.Helpers.{GivenMap, map_argument, argument, looked_up, replies, returns, removed, called}
use Rattle.bpf_maps.specs.Live.{shape_at}
use Rattle.bpf_helpers.specs.Layout.{Layout}
use Rattle.bpf_helpers.specs.Stands.{IsRoom, Simulates}
use Rattle.bpf_helpers.specs.Named.{named_offset, key_named, NamesAll}
use Rattle.bpf_helpers.specs.Calls.{AreArguments, CallsNameAll}
use Rattle.bpf_helpers.specs.States.{Environment, FlatState, call_in}
use Rattle.bpf_helpers.proofs.Asked.{asks_key, asks_update}
use Rattle.bpf_helpers.proofs.Words.{pair_is}
use Rattle.bpf_helpers.proofs.Loads.{load_stands}
use Rattle.bpf_helpers.proofs.Followed.{map_there, map_shape, bytes_there, key_is_named}

module _ (env : Environment) (l : Layout) (flat : FlatState) (s : RunState)
    (room : IsRoom env.memory env.tenant) (stands : Simulates env l flat s) (words : List ℕ)
    (args : AreArguments words flat.registers) where
  -- the words name the map of handle k, which has the shape of the machine's map g, with this key
  record KeyThere (g : GivenMap) (key : List ℕ) : Type 0 where
    k : ℕ
    shape : shape_at flat.maps k ≡ g.map.table.shape
    named : key_named (call_in env flat) (slice_index words 0) (slice_index words 1) ≡ Some (record { map = k; key = key })

  -- so they do if register 1 has a map of the machine, and register 2 a pointer to the bytes of a key
  key_there : (g : GivenMap) (key : List ℕ) → map_argument s 1 ≡ Some g
      → argument s 2 (λ p. input s p g.map.table.shape.key_size) ≡ Some key → KeyThere g key
  key_there g key first second =
      let m = map_there env l flat s room stands words args g first in
      let k = slice_index env.bind m.index in
      let shape = map_shape env l flat s room stands words args m in
      let read =
      bytes_there env l flat s room stands words args 1 g.map.table.shape.key_size (shape_at flat.maps k).key_size key
      (omega arith) (ap (λ (x : MapShape). x.key_size) shape) second in
      record { k = k; shape = shape; named = key_is_named env l flat s room stands words args m key read.0 }

  look_up_named : (u : RunState) → called LookUp s ≡ Some u → NamesAll (call_in env flat) words LookUp
  look_up_named u e =
      let a = asks_key s u (λ g key. returns s (looked_up g.descriptor (look_up g.map.table key))) e in
      subst IsSome (sym (key_there a.given a.key a.map a.bytes).named) refl

  delete_named : (u : RunState) → called Delete s ≡ Some u → NamesAll (call_in env flat) words Delete
  delete_named u e =
      let a = asks_key s u (λ g key. replies s g.descriptor (removed g.map key)) e in
      subst IsSome (sym (key_there a.given a.key a.map a.bytes).named) refl

  update_named : (u : RunState) → called Update s ≡ Some u → NamesAll (call_in env flat) words Update
  update_named u e =
      let a = asks_update s u e in
      let there = key_there a.asked.given a.asked.key a.map a.key in
      let shape = a.asked.given.map.table.shape in
      let read =
      bytes_there env l flat s room stands words args 2 shape.value_size (shape_at flat.maps there.k).value_size
      a.asked.value (omega arith) (ap (λ (x : MapShape). x.value_size) there.shape) a.value in
      let named =
      pair_is (call_in env flat) (slice_index words 0) (slice_index words 1) (slice_index words 2) there.named
      a.asked.value read.0 in
      subst IsSome (sym named) refl

  load_named : WritesStayInside
      → (u : RunState) → called LoadBytes s ≡ Some u → NamesAll (call_in env flat) words LoadBytes
  load_named writes u e =
      let count = ap (λ (n : ℕ). named_offset flat.memory env.tenant n (slice_index words 2)) (args 3 (omega arith)) in
      let to =
      ap (λ (w : ℕ). named_offset flat.memory env.tenant (slice_index flat.registers 4) w) (args 2 (omega arith)) in
      subst IsSome (sym (count ∙ to ∙ (load_stands env l flat s room stands writes u e).offset_is)) refl

-- each helper's words name all that it needs
pub calls_name_all : WritesStayInside → CallsNameAll
calls_name_all writes env l flat s u words LookUp room stands args e = look_up_named env l flat s room stands words args u e
calls_name_all writes env l flat s u words Update room stands args e = update_named env l flat s room stands words args u e
calls_name_all writes env l flat s u words Delete room stands args e = delete_named env l flat s room stands words args u e
calls_name_all writes env l flat s u words LoadBytes room stands args e =
    load_named env l flat s room stands words args writes u e
