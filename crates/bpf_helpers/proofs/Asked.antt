-- If the machine's call of a helper has a result, its arguments give a map, a key and, of an update, a value and flags.
use Rattle.std.proofs.Common.{◌≡◌, ℕ, List, Some}
use Rattle.std.proofs.lemmas.Option.{same_Some}
use Rattle.tagged_model.specs.declared.helper.Helper.TheVariants.{Update}
use Rattle.tagged_model.specs.Cells.{and_then}
use Rattle.tagged_model.specs.State.{RunState, input}
use Rattle.tagged_model.specs.Helpers.{GivenMap, map_argument, argument, number_given, replies, updated, called}
use Rattle.bpf_helpers.specs.inside.Laws.{TaggedUpdate, update_reply}
use Rattle.bpf_helpers.proofs.Many.{also_some}

module _ (s u : RunState) where
  -- a call that takes a map and a key, and leads from the state s to u
  pub record AsksKey (next : GivenMap → List ℕ → RunState) : Type 0 where
    -- the map, with its descriptor
    pub given : GivenMap
    -- the bytes of the key
    pub key : List ℕ
    -- register 1 has the map
    pub map : map_argument s 1 ≡ Some given
    -- register 2 points to these bytes
    pub bytes : argument s 2 (λ p. input s p given.map.table.shape.key_size) ≡ Some key
    -- the state after the call is `next` of both
    pub leads : next given key ≡ u

  -- if the call has a result, and takes a map and a key only, registers 1 and 2 give them
  pub asks_key : (next : GivenMap → List ℕ → RunState)
      → and_then (map_argument s 1) (λ g.
      and_then (argument s 2 (λ p. input s p g.map.table.shape.key_size)) (λ key. Some (next g key)))
      ≡ Some u
      → AsksKey next
  asks_key next e =
      let a =
      also_some (map_argument s 1)
      (λ g. and_then (argument s 2 (λ p. input s p g.map.table.shape.key_size)) (λ key. Some (next g key)))
      u e in
      let b =
      also_some (argument s 2 (λ p. input s p a.0.map.table.shape.key_size)) (λ key. Some (next a.0 key)) u a.2 in
      record { given = a.0; key = b.0; map = a.1; bytes = b.1; leads = same_Some (next a.0 b.0) u b.2 }

  -- a call of the update, which leads from the state s to u
  pub record AsksUpdate : Type 0 where
    -- its map, key, value and flags
    pub asked : TaggedUpdate
    -- register 1 has the map
    pub map : map_argument s 1 ≡ Some asked.given
    -- register 2 points to the bytes of the key
    pub key : argument s 2 (λ p. input s p asked.given.map.table.shape.key_size) ≡ Some asked.key
    -- register 3 points to the bytes of the value
    pub value : argument s 3 (λ p. input s p asked.given.map.table.shape.value_size) ≡ Some asked.value
    -- register 4 has the flags
    pub flags : argument s 4 number_given ≡ Some asked.flags
    -- the state after the call has the reply and the map of this update
    pub leads : replies s asked.given.descriptor (update_reply asked) ≡ u

  -- if the call of the update has a result, registers 1 to 4 give its map, key, value and flags
  pub asks_update : called Update s ≡ Some u → AsksUpdate
  asks_update e =
      let a =
      also_some (map_argument s 1)
      (λ g.
      and_then (argument s 2 (λ p. input s p g.map.table.shape.key_size))
      (λ key.
      and_then (argument s 3 (λ p. input s p g.map.table.shape.value_size))
      (λ value.
      and_then (argument s 4 number_given) (λ flags. Some (replies s g.descriptor (updated g.map key value flags))))))
      u e in
      let g = a.0 in
      let b =
      also_some (argument s 2 (λ p. input s p g.map.table.shape.key_size))
      (λ key.
      and_then (argument s 3 (λ p. input s p g.map.table.shape.value_size))
      (λ value.
      and_then (argument s 4 number_given) (λ flags. Some (replies s g.descriptor (updated g.map key value flags)))))
      u a.2 in
      let c =
      also_some (argument s 3 (λ p. input s p g.map.table.shape.value_size))
      (λ value.
      and_then (argument s 4 number_given) (λ flags. Some (replies s g.descriptor (updated g.map b.0 value flags))))
      u b.2 in
      let d =
      also_some (argument s 4 number_given)
      (λ flags. Some (replies s g.descriptor (updated g.map b.0 c.0 flags)))
      u c.2 in
      let asked : TaggedUpdate = record { given = g; key = b.0; value = c.0; flags = d.0 } in
      record {
        asked = asked;
        map = a.1;
        key = b.1;
        value = c.1;
        flags = d.1;
        leads = same_Some (replies s g.descriptor (update_reply asked)) u d.2;
      }
