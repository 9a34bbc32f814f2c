-- A call on words and bytes simulates the machine's call.
use Rattle.std.proofs.Common.{◌≡◌, ◌≢◌, ℕ, ◌+◌, ◌-◌, ◌*◌, ◌<◌, ◌≤◌, ◌&&◌, eqb, leb, List, length, Option, Some, None, refl, sym, ap, subst, ◌∙◌, ⊎_elim, arith}
use Rattle.std.specs.Prelude.{slice_index, unwrap_or}
use Rattle.std.proofs.lemmas.Bool.{and_parts, leb-true, eqb-true, eqb-false, cases_Bool}
use Rattle.std.proofs.lemmas.Option.{same_Some, cond_some}
use Rattle.words.specs.Bytes.{bytes_at}
use Rattle.words.specs.ByteLaws.{length-bytes_at}
use Rattle.tagged_model.specs.declared.helper.Helper.{Helper}
use Rattle.tagged_model.specs.declared.helper.Helper.TheVariants.{LookUp, Update, Delete, LoadBytes}
use Rattle.tagged_model.specs.declared.shape.MapShape.{MapShape}
use Rattle.tagged_model.specs.declared.value.Tagged.{Tagged}
use Rattle.tagged_model.specs.declared.value.Tagged.TheVariants.{Scalar, Map}
use Rattle.tagged_model.specs.Table.{Table}
use Rattle.tagged_model.specs.State.{RunState, with_map, input}
use Rattle.tagged_model.specs.Helpers.{GivenMap, map_argument, argument, number_given, replies, returns, removed, packet_bytes, packet_result, called}
use Rattle.arena.specs.Memory.{Memory, base, part_start, with_bytes}
use Rattle.arena.specs.PartLaws.{part_within}
use Rattle.bpf_helpers.specs.inside.Below.{LawsBelow}
use Rattle.bpf_maps.specs.Live.{LiveMaps, LiveMap, live_or, shape_at, references_at, OnlyKeysChange}
use Rattle.bpf_maps.specs.LiveLaws.{same_areas}
use Rattle.bpf_helpers.specs.Layout.{Layout, IsWord}
use Rattle.bpf_helpers.specs.Stands.{IsRoom, Simulates}
use Rattle.bpf_helpers.specs.Named.{part_offset, part_input, named_offset, key_named, NamedPair, pair_named}
use Rattle.bpf_helpers.specs.inside.Flat.{flat_look_up, Updates, UpdatesNamed, Deletes, DeletesNamed, LoadsAt}
use Rattle.bpf_helpers.specs.Calls.{AreArguments, Extends, ResultFollows, CallFollows}
use Rattle.bpf_helpers.specs.inside.Laws.{GivesWord, ReturnsKeepSimulation, TaggedUpdate, update_reply}
use Rattle.bpf_helpers.proofs.Many.{also_some}
use Rattle.bpf_helpers.proofs.Asked.{asks_key, asks_update}
use Rattle.bpf_helpers.proofs.Inputs.{input_there}
use Rattle.bpf_helpers.proofs.Words.{key_is, pair_is}
use Rattle.bpf_helpers.proofs.LookUps.{is_given, IsBound, map_bound, look_ups_follow}
use Rattle.bpf_helpers.proofs.Loads.{number_word, load_stands}
use Rattle.bpf_helpers.proofs.Wider.{extends_itself}
use Rattle.bpf_helpers.proofs.Updates.{updates_keep_simulation}
use Rattle.bpf_helpers.proofs.Deletes.{deletes_keep_simulation}
use Rattle.bpf_helpers.specs.States.{CallState, CallResult, Environment, FlatState, answers, call_in, with_result, with_held, with_memory}

-- if only the keys of one map change, each map has as many holds as before
same_holds : (old new : LiveMaps) (k : ℕ) → OnlyKeysChange k old new → (key : ℕ) → references_at new key ≡ references_at old key
same_holds old new k rest key =
    ⊎_elim
    (λ b.
    let same : k ≡ key = sym (eqb-true key k b) in subst (λ (x : ℕ). references_at new x ≡ references_at old x) same rest.holds)
    (λ b. ap (λ (o : Option LiveMap). (live_or o).holds) (rest.others key (eqb-false key k b)))
    (cases_Bool (eqb key k))

-- the input has as many bytes as were requested
input_long : (memory : Memory) (t n w : ℕ) (bs : List ℕ)
    → part_start memory t + memory.part ≤ length memory.bytes
    → part_input memory t n w ≡ Some bs
    → length bs ≡ n
input_long memory t n w bs fits e =
    let a =
    also_some (part_offset (part_start memory t) memory.part n w)
    (λ p. Some (bytes_at memory.bytes (part_start memory t + p) n))
    bs e in
    let start = part_start memory t in
    let c = cond_some (leb (base + start) w && leb (w + n) (base + start + memory.part)) (w - (base + start)) a.0 a.1 in
    let p = and_parts (leb (base + start) w) (leb (w + n) (base + start + memory.part)) c.0 in
    let from : base + start ≤ w = leb-true (base + start) w p.0 in
    let to : w + n ≤ base + start + memory.part = leb-true (w + n) (base + start + memory.part) p.1 in
    let offset : w - (base + start) ≡ a.0 = c.1 in
    ap length (sym (same_Some (bytes_at memory.bytes (part_start memory t + a.0) n) bs a.2))
    ∙ length-bytes_at memory.bytes (part_start memory t + a.0) n (omega arith)

module _ (env : Environment) (l : Layout) (flat : FlatState) (s : RunState)
    (room : IsRoom env.memory env.tenant) (stands : Simulates env l flat s) (words : List ℕ)
    (args : AreArguments words flat.registers) where
  part_fits : part_start flat.memory env.tenant + flat.memory.part ≤ length flat.memory.bytes
  part_fits =
      let within = part_within env.memory env.tenant room.is_part in
      let begin : part_start flat.memory env.tenant ≡ part_start env.memory env.tenant =
      ap (λ (n : ℕ). env.tenant * n) stands.changed.part in
      let size = stands.changed.size in
      let part = stands.changed.part in
      omega arith

  -- the map in register 1
  abbrev IsMap : GivenMap → Type 0
  IsMap g = IsBound env l flat s room stands (slice_index words 0) g.descriptor g.map

  -- if register 1 has a map, the first word names the handle of the live map that represents it
  pub map_there : (g : GivenMap) → map_argument s 1 ≡ Some g → IsMap g
  map_there g e =
      let given = is_given s 1 g e in
      let word : IsWord env l (Map g.descriptor) (slice_index words 0) =
      subst (IsWord env l (Map g.descriptor)) (sym (args 0 (omega arith)))
      (stands.values 1 (Map g.descriptor) (omega arith) given.register) in
      map_bound env l flat s room stands (slice_index words 0) g.descriptor g.map word given.there

  -- the live map has the shape of the map in register 1
  pub map_shape : {g : GivenMap} (m : IsMap g) → shape_at flat.maps (slice_index env.bind m.index) ≡ g.map.table.shape
  map_shape m = ap (λ (x : Table ℕ). x.shape) m.has.table

  -- the bytes at the address in another register lie in the part, at the word's address
  pub bytes_there : (i n size : ℕ) (bs : List ℕ)
      → i < 5 → size ≡ n
      → argument s (i + 1) (λ p. input s p n) ≡ Some bs
      → (part_input flat.memory env.tenant size (slice_index words i) ≡ Some bs) × (length bs ≡ n)
  bytes_there i n size bs lt same e =
      let a = also_some (s.registers (i + 1)) (λ p. input s p n) bs e in
      let read =
      input_there env l flat s room stands a.0 (slice_index flat.registers (i + 1)) n bs
      (stands.values (i + 1) a.0 (omega arith) a.1) a.2 in (
        ap (λ (k : ℕ). part_input flat.memory env.tenant k (slice_index words i)) same
            ∙ ap (λ (w : ℕ). part_input flat.memory env.tenant n w) (args i lt)
            ∙ read,
        input_long flat.memory env.tenant n (slice_index flat.registers (i + 1)) bs part_fits read,
      )

  -- a key of the map in register 1, at the address in register 2
  pub key_is_named : {g : GivenMap} (m : IsMap g) (key : List ℕ)
      → part_input flat.memory env.tenant
      (shape_at flat.maps (slice_index env.bind m.index)).key_size
      (slice_index words 1)
      ≡ Some key
      → key_named (call_in env flat) (slice_index words 0) (slice_index words 1)
      ≡ Some (record { map = slice_index env.bind m.index; key = key })
  key_is_named m key e = key_is (call_in env flat) (slice_index words 0) (slice_index words 1) m.bound key e

  other_key : (index key : ℕ)
      → index < length env.bind
      → ((i : ℕ) → i < length env.bind → slice_index env.bind i ≢ key)
      → key ≢ slice_index env.bind index
  other_key index key lt away same = away index lt (sym same)

  -- a call that changes only the keys of one bound map
  changes_keys : (m : ℕ)
      → m < length env.bind
      → (answer : CallResult) → OnlyKeysChange (slice_index env.bind m) flat.maps answer.maps
      → (layout : Layout) → Extends l layout
      → (u : RunState) → Simulates env layout (with_result flat answer) u
      → ResultFollows env l flat u answer
  changes_keys m within answer rest layout more u after = record {
    layout = layout;
    extends = more;
    stands = after;
    others = λ key away. rest.others key (other_key m key within away);
    areas = rest.areas;
    holds = same_holds flat.maps answer.maps (slice_index env.bind m) rest;
    flag = rest.refused;
  }

  -- a call that does not change the maps
  leaves_maps : (word : ℕ) (after : Memory) (u : RunState)
      → Simulates env l (with_result flat (answers word after flat.maps)) u
      → ResultFollows env l flat u (answers word after flat.maps)
  leaves_maps word after u stands = record {
    layout = l;
    extends = extends_itself l;
    stands = stands;
    others = λ key away. refl;
    areas = same_areas flat.maps;
    holds = λ key. refl;
    flag = refl;
  }

  module _ (returned : ReturnsKeepSimulation) (below : LawsBelow) where
    look_up_followed : (word : ℕ) (u : RunState)
        → word ≡ unwrap_or (flat_look_up (call_in env flat) (slice_index words 0) (slice_index words 1)) 0
        → called LookUp s ≡ Some u
        → ResultFollows env l flat u (answers word flat.memory flat.maps)
    look_up_followed word u seen e =
        let f = look_ups_follow below.along env l flat s u room stands e in
        let same : flat_look_up (call_in env flat) (slice_index words 0) (slice_index words 1)
        ≡ flat_look_up (call_in env flat) (slice_index flat.registers 1) (slice_index flat.registers 2) =
        ap (λ (w : ℕ). flat_look_up (call_in env flat) w (slice_index words 1)) (args 0 (omega arith))
        ∙ ap (λ (w : ℕ). flat_look_up (call_in env flat) (slice_index flat.registers 1) w) (args 1 (omega arith)) in
        by f.0 f.1
        (flat_look_up (call_in env flat) (slice_index words 0) (slice_index words 1))
        seen
        (subst (λ x. GivesWord env l x (Some f.0)) (sym same) f.2)
      where
        by : (v : Tagged)
            → u ≡ returns s v → (x : Option ℕ) → word ≡ unwrap_or x 0
            → GivesWord env l x (Some v)
            → ResultFollows env l flat u (answers word flat.memory flat.maps)
        by v after None f g = absurd g
        by v after (Some w) f g =
            leaves_maps word flat.memory u
            (subst (λ (x : RunState). Simulates env l (with_result flat (answers word flat.memory flat.maps)) x)
            (sym after)
            (returned env l flat s v word stands (subst (IsWord env l v) (sym f) g)))

    update_followed : (reply : CallResult) (u : RunState)
        → UpdatesNamed (call_in env flat)
        (pair_named (call_in env flat) (slice_index words 0) (slice_index words 1) (slice_index words 2))
        (slice_index words 3) reply
        → called Update s ≡ Some u
        → ResultFollows env l flat u reply
    update_followed reply u seen e =
        let a = asks_update s u e in
        subst (λ (x : RunState). ResultFollows env l flat x reply) a.leads
        (update_by reply seen a.asked a.map a.key a.value a.flags (map_there a.asked.given a.map))
      where
        update_by : (reply : CallResult)
            → UpdatesNamed (call_in env flat)
            (pair_named (call_in env flat) (slice_index words 0) (slice_index words 1) (slice_index words 2))
            (slice_index words 3) reply
            → (asked : TaggedUpdate) → map_argument s 1 ≡ Some asked.given
            → argument s 2 (λ p. input s p asked.given.map.table.shape.key_size) ≡ Some asked.key
            → argument s 3 (λ p. input s p asked.given.map.table.shape.value_size) ≡ Some asked.value
            → argument s 4 number_given ≡ Some asked.flags
            → IsMap asked.given
            → ResultFollows env l flat (replies s asked.given.descriptor (update_reply asked)) reply
        update_by reply seen asked first second third fourth m =
            let g = asked.given in
            let key = asked.key in
            let value = asked.value in
            let flags = asked.flags in
            let k = slice_index env.bind m.index in
            let keys =
            bytes_there 1 g.map.table.shape.key_size (shape_at flat.maps k).key_size key
            (omega arith) (ap (λ (x : MapShape). x.key_size) (map_shape m))
            second in
            let values =
            bytes_there 2 g.map.table.shape.value_size (shape_at flat.maps k).value_size value
            (omega arith)
            (ap (λ (x : MapShape). x.value_size) (map_shape m))
            third in
            let pair : NamedPair = record { map = k; key = key; value = value } in
            let is =
            pair_is (call_in env flat) (slice_index words 0) (slice_index words 1)
            (slice_index words 2) (key_is_named m key keys.0) value
            values.0 in
            let r : Updates (call_in env flat) pair (slice_index words 3) reply =
            subst (λ o. UpdatesNamed (call_in env flat) o (slice_index words 3) reply) is seen in
            let flags_are : slice_index words 3 ≡ flags =
            args 3 (omega arith) ∙ number_word env l flat s room stands 4 flags (omega arith) fourth in
            let st =
            updates_keep_simulation below env l flat s m.index asked reply room stands m.named
            (is_given s 1 g first).there values.1
            (subst (λ (f : ℕ). Updates (call_in env flat) pair f reply) flags_are r) in
            let gave = update_reply asked in
            changes_keys m.index m.within reply r.rest st.layout st.extends (replies s g.descriptor gave)
            (returned env st.layout (with_held flat reply.memory reply.maps)
            (with_map s g.descriptor gave.map) (Scalar gave.answer)
            reply.word st.stands st.answer_is)

    delete_followed : (word : ℕ) (new : LiveMaps) (u : RunState)
        → DeletesNamed flat.maps (key_named (call_in env flat) (slice_index words 0) (slice_index words 1)) word new
        → called Delete s ≡ Some u
        → ResultFollows env l flat u (answers word flat.memory new)
    delete_followed word new u seen e =
        let a = asks_key s u (λ g key. replies s g.descriptor (removed g.map key)) e in
        let g = a.given in
        let m = map_there g a.map in
        let k = slice_index env.bind m.index in
        let keys =
        bytes_there 1 g.map.table.shape.key_size (shape_at flat.maps k).key_size a.key (omega arith)
        (ap (λ (x : MapShape). x.key_size) (map_shape m)) a.bytes in
        let r : Deletes flat.maps (record { map = k; key = a.key }) word new =
        subst (λ o. DeletesNamed flat.maps o word new) (key_is_named m a.key keys.0) seen in
        let st =
        deletes_keep_simulation below env l flat s m.index g.descriptor g.map a.key word new stands
        m.named (is_given s 1 g a.map).there r in
        let gave = removed g.map a.key in
        changes_keys m.index m.within (answers word flat.memory new) r.rest l (extends_itself l) u
        (subst (λ (x : RunState). Simulates env l (with_result flat (answers word flat.memory new)) x)
        a.leads
        (returned env l (with_held flat flat.memory new) (with_map s g.descriptor gave.map)
        (Scalar gave.answer) word st.1 st.0))

    load_followed : (word : ℕ) (after : Memory) (u : RunState)
        → LoadsAt (call_in env flat) (slice_index words 1) (slice_index words 3)
        (named_offset flat.memory env.tenant (slice_index words 3) (slice_index words 2))
        word after
        → called LoadBytes s ≡ Some u
        → ResultFollows env l flat u (answers word after flat.maps)
    load_followed word after u seen e =
        let st = load_stands env l flat s room stands below.writes u e in
        let offset = args 1 (omega arith) in
        let to = args 2 (omega arith) in
        let count = args 3 (omega arith) in
        let same = stands.packet in
        let offset_is : named_offset flat.memory env.tenant (slice_index words 3) (slice_index words 2) ≡ Some st.offset =
        ap (λ (n : ℕ). named_offset flat.memory env.tenant n (slice_index words 2)) count
        ∙ ap (λ (w : ℕ). named_offset flat.memory env.tenant (slice_index flat.registers 4) w) to
        ∙ st.offset_is in
        let r : (word ≡ packet_result env.packet (slice_index words 1) (slice_index words 3))
        × (after
        ≡ with_bytes flat.memory (part_start flat.memory env.tenant + st.offset)
        (packet_bytes env.packet (slice_index words 1) (slice_index words 3))) =
        subst (λ o. LoadsAt (call_in env flat) (slice_index words 1) (slice_index words 3) o word after)
        offset_is seen in
        let bytes : packet_bytes env.packet (slice_index words 1) (slice_index words 3)
        ≡ packet_bytes s.packet (slice_index flat.registers 2) (slice_index flat.registers 4) =
        ap (λ (x : List ℕ). packet_bytes x (slice_index words 1) (slice_index words 3)) (sym same)
        ∙ ap (λ (x : ℕ). packet_bytes s.packet x (slice_index words 3)) offset
        ∙ ap (λ (x : ℕ). packet_bytes s.packet (slice_index flat.registers 2) x) count in
        let gives : packet_result env.packet (slice_index words 1) (slice_index words 3)
        ≡ packet_result s.packet (slice_index flat.registers 2) (slice_index flat.registers 4) =
        ap (λ (x : List ℕ). packet_result x (slice_index words 1) (slice_index words 3)) (sym same)
        ∙ ap (λ (x : ℕ). packet_result s.packet x (slice_index words 3)) offset
        ∙ ap (λ (x : ℕ). packet_result s.packet (slice_index flat.registers 2) x) count in
        let answer = packet_result s.packet (slice_index flat.registers 2) (slice_index flat.registers 4) in
        let written =
        with_bytes flat.memory (part_start flat.memory env.tenant + st.offset)
        (packet_bytes s.packet (slice_index flat.registers 2) (slice_index flat.registers 4)) in
        let memory_is : after ≡ written =
        r.1 ∙ ap (λ (x : List ℕ). with_bytes flat.memory (part_start flat.memory env.tenant + st.offset) x) bytes in
        leaves_maps word after u
        (subst (λ (x : RunState). Simulates env l (with_result flat (answers word after flat.maps)) x) (sym st.is)
        (subst (λ (n : Memory).
        Simulates env l (with_result flat (answers word n flat.maps)) (returns st.written (Scalar answer)))
        (sym memory_is)
        (returned env l (with_memory flat written) st.written (Scalar answer) word st.stands (r.0 ∙ gives))))

-- ---- the inputs of a call

-- a law of calls in an environment and a state holds for all inputs of a call that are those of such an environment and state
module _ (Seen : CallState → Type 0) (reply : CallState → CallResult) (words : List ℕ)
    (helper : Helper)
    (follows : (env : Environment) (l : Layout) (flat : FlatState) (s : RunState)
    → IsRoom env.memory env.tenant → Simulates env l flat s
    → AreArguments words flat.registers → (u : RunState) → Seen (call_in env flat)
    → called helper s ≡ Some u
    → ResultFollows env l flat u (reply (call_in env flat))) where
  follows_at : (call_state : CallState) → Seen call_state → CallFollows call_state words helper (reply call_state)
  follows_at call_state seen env l flat s u found room stands args goes =
      subst (λ (x : CallState). ResultFollows env l flat u (reply x)) found
      (follows env l flat s room stands args u (subst Seen (sym found) seen) goes)

module _ (returned : ReturnsKeepSimulation) (below : LawsBelow) (words : List ℕ) where
  pub look_up_follows : (word : ℕ) (call_state : CallState)
      → word ≡ unwrap_or (flat_look_up call_state (slice_index words 0) (slice_index words 1)) 0
      → CallFollows call_state words LookUp (answers word call_state.memory call_state.maps)
  look_up_follows word =
      follows_at (λ x. word ≡ unwrap_or (flat_look_up x (slice_index words 0) (slice_index words 1)) 0)
      (λ x. answers word x.memory x.maps) words LookUp
      (λ env l flat s room stands args u seen goes.
      look_up_followed env l flat s room stands words args returned below word u seen goes)

  -- an update of what its words name simulates the tagged machine's update
  pub update_follows : (reply : CallResult) (call_state : CallState)
      → UpdatesNamed call_state
      (pair_named call_state (slice_index words 0) (slice_index words 1) (slice_index words 2))
      (slice_index words 3) reply
      → CallFollows call_state words Update reply
  update_follows reply =
      follows_at (λ x.
      UpdatesNamed x
      (pair_named x (slice_index words 0) (slice_index words 1) (slice_index words 2))
      (slice_index words 3) reply)
      (λ _. reply) words Update
      (λ env l flat s room stands args u seen goes.
      update_followed env l flat s room stands words args returned below reply u seen goes)

  -- a deletion of what its words name simulates the tagged machine's deletion
  pub delete_follows : (word : ℕ) (new : LiveMaps) (call_state : CallState)
      → DeletesNamed call_state.maps (key_named call_state (slice_index words 0) (slice_index words 1)) word new
      → CallFollows call_state words Delete (answers word call_state.memory new)
  delete_follows word new =
      follows_at (λ x. DeletesNamed x.maps (key_named x (slice_index words 0) (slice_index words 1)) word new)
      (λ x. answers word x.memory new) words Delete
      (λ env l flat s room stands args u seen goes.
      delete_followed env l flat s room stands words args returned below word new u seen goes)

  -- a load of packet bytes to what its words name simulates the tagged machine's load
  pub load_follows : (word : ℕ) (after : Memory) (call_state : CallState)
      → LoadsAt call_state (slice_index words 1) (slice_index words 3)
      (named_offset call_state.memory call_state.tenant (slice_index words 3) (slice_index words 2))
      word after
      → CallFollows call_state words LoadBytes (answers word after call_state.maps)
  load_follows word after =
      follows_at (λ x.
      LoadsAt x (slice_index words 1) (slice_index words 3)
      (named_offset x.memory x.tenant (slice_index words 3) (slice_index words 2))
      word after)
      (λ x. answers word after x.maps) words LoadBytes
      (λ env l flat s room stands args u seen goes.
      load_followed env l flat s room stands words args returned below word after u seen goes)
