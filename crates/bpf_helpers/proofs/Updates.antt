-- After an update the words, bytes and live maps represent the state after the machine's update.
use Rattle.std.proofs.Common.{◌≡◌, ◌≢◌, inl, inr, ℕ, ◌+◌, ◌*◌, ◌<◌, ◌≤◌, ◌==◌, leb, pos, List, ◌++◌, length, drop}
use Rattle.std.proofs.Common.{slice_get, Some, None, Result, Ok, Err, refl, sym, ap, subst, ◌∙◌, ⊎_elim, arith}
use Rattle.std.specs.Prelude.{slice_index}
use Rattle.std.specs.Option.{IsSome}
use Rattle.std.proofs.lemmas.Bool.{cond_both, cond-true, eqb-true, eqb-false, le-leb}
use Rattle.std.proofs.lemmas.Int.{ints}
use Rattle.std.proofs.lemmas.Option.{same_Some, slice_get_within}
use Rattle.std.proofs.lemmas.List.{length-take, length-drop, drop_all, append-nil}
use Rattle.words.specs.Bytes.{bytes_at, written_at}
use Rattle.words.specs.ByteLaws.{bytes_stay, bytes_written}
use Rattle.tagged_model.specs.declared.fault.MapFault.{MapFault}
use Rattle.tagged_model.specs.declared.value.Object.TheVariants as object
use Rattle.tagged_model.specs.declared.value.Tagged.TheVariants.{Pointer}
use Rattle.tagged_model.specs.Table.{Table, Verdict, Refused, Present, New, verdict, verdict_with}
use Rattle.tagged_model.specs.Cells.{and_then}
use Rattle.tagged_model.specs.State.{RunState, RunMap, set_at, with_value, with_map, value_written, output}
use Rattle.tagged_model.specs.Helpers.{put, with_object}
use Rattle.tagged_model.specs.StateLaws.{found_owned}
use Rattle.arena.specs.Memory.{Memory as Bytes, base, part_start, with_bytes}
use Rattle.bpf_maps.specs.KeyTable.{table_of, IsFree, with_entry, Claims}
use Rattle.bpf_maps.specs.Live.{live_at, keys_at, shape_at, offset_at}
use Rattle.bpf_helpers.specs.inside.Below.{LawsBelow}
use Rattle.bpf_helpers.specs.Layout.{Layout, IsWord}
use Rattle.bpf_helpers.specs.Stands.{stack_top, IsRoom, HasMap, MapsStandFor, Simulates, stored_maps}
use Rattle.bpf_maps.specs.declared.part.TheConstants.{PART}
use Rattle.bpf_helpers.specs.Named.{part_offset, named_offset, NamedPair}
use Rattle.bpf_helpers.specs.inside.Flat.{Updates, claim_word, with_claimed}
use Rattle.bpf_maps.specs.LiveLaws.{laid_inside}
use Rattle.bpf_helpers.proofs.Inputs.{part_offset_is, memory_long, start_same}
use Rattle.bpf_helpers.proofs.Outputs.{changed_after, cell_kept, words_kept, laid_apart, outputs_keep_simulation}
use Rattle.bpf_helpers.specs.Calls.{Extends}
use Rattle.bpf_helpers.specs.inside.Laws.{UpdateKeepsSimulation, UpdatesKeepSimulation}
use Rattle.bpf_helpers.proofs.Verdicts.{present_found}
use Rattle.bpf_helpers.proofs.Moved.{other_key, other_bytes, other_moved, maps_moved, maps_again, others_moved, maps_stand}
use Rattle.bpf_helpers.proofs.Wider.{extends_itself, extended, extends, word_more, cell_more, map_extended}
use Rattle.bpf_helpers.proofs.Added.{map_with_new}
use Rattle.bpf_helpers.specs.States.{CallResult, Environment, FlatState, call_in, with_held, with_memory}

written_whole : (old new : List ℕ) → length old ≡ length new → written_at old 0 new ≡ new
written_whole old new e = ap (λ (x : List ℕ). new ++ x) (drop_all (0 + length new) old (omega arith)) ∙ append-nil new

module _ (below : LawsBelow) (env : Environment) (l : Layout) (flat : FlatState) (s : RunState)
    (i m : ℕ) (map : RunMap) (key value : List ℕ) (flags : ℕ) (reply : CallResult)
    (room : IsRoom env.memory env.tenant) (stands : Simulates env l flat s)
    (named : slice_get env.descriptors i ≡ Some m)
    (is : s.maps m ≡ Some map)
    (size : length value ≡ map.table.shape.value_size)
    (u : Updates (call_in env flat) (record { map = slice_index env.bind i; key = key; value = value }) flags reply)
  where
    abbrev pair : NamedPair
    pair = record { map = slice_index env.bind i; key = key; value = value }

    abbrev k : ℕ
    k = slice_index env.bind i

    index_within : i < length env.bind
    index_within = let count = stands.maps.count in let fits = slice_get_within env.descriptors i m named in omega arith

    -- the simulation after an update with this verdict
    record Done (v : Verdict ℕ) : Type 0 where
      layout : Layout
      more : Extends l layout
      answer : reply.word ≡ (put map key value v).answer
      standing : Simulates env layout (with_held flat reply.memory reply.maps) (with_map s m (put map key value v).map)

    has : HasMap l (stored_maps (part_start env.memory env.tenant) flat.memory.bytes flat.maps) k m map
    has =
        let g = stands.maps.each i m named in
        subst (HasMap l (stored_maps (part_start env.memory env.tenant) flat.memory.bytes flat.maps) k m)
        (same_Some g.0 map (sym g.1 ∙ is)) g.2

    value_size_is : (shape_at flat.maps k).value_size ≡ length value
    value_size_is = ap (λ (x : Table ℕ). x.shape.value_size) has.table ∙ sym size

    -- nothing has changed
    unchanged : keys_at reply.maps k ≡ keys_at flat.maps k
        → reply.memory ≡ flat.memory
        → Simulates env l (with_held flat reply.memory reply.maps) (with_map s m map)
    unchanged key_table same =
        subst (λ (n : Bytes). Simulates env l (with_held flat n reply.maps) (with_map s m map)) (sym same)
        (maps_stand stands i m named reply.maps u.rest (set_at s.maps m (Some map))
        (maps_again m is (maps_moved u.rest below.areas key_table stands.maps)))

    refused_stands : (fault : MapFault)
        → u.claim ≡ Err fault → keys_at reply.maps k ≡ keys_at flat.maps k
        → Done (Refused fault)
    refused_stands fault seen key_table = record {
      layout = l;
      more = extends_itself l;
      answer = u.word_is ∙ ap claim_word seen;
      standing = unchanged key_table (u.memory_is ∙ ap (with_claimed (call_in env flat) pair) seen);
    }

    moved : (x : RunState) (n : Bytes)
        → keys_at reply.maps k ≡ keys_at flat.maps k → Simulates env l (with_memory flat n) x
        → Simulates env l (with_held flat n reply.maps) x
    moved x n key_table st =
        maps_stand st i m named reply.maps u.rest x.maps (maps_moved u.rest below.areas key_table st.maps)

    long_memory : part_start env.memory env.tenant + PART ≤ length flat.memory.bytes
    long_memory = memory_long env l flat s room stands

    begins : part_start flat.memory env.tenant ≡ part_start env.memory env.tenant
    begins = start_same env l flat s room stands

    -- ---- a present key

    -- the value is written at the offset of its address
    at_offset : (off w : ℕ) (x : RunState)
        → named_offset flat.memory env.tenant (length value) w ≡ Some off
        → (q : ℕ)
        × (named_offset flat.memory env.tenant (length value) w ≡ Some q)
        × Simulates env l (with_memory flat (with_bytes flat.memory (part_start flat.memory env.tenant + q) value)) x
        → Simulates env l (with_memory flat (with_bytes flat.memory (part_start flat.memory env.tenant + off) value)) x
    at_offset off w x named written =
        subst (λ (q : ℕ).
        Simulates env l (with_memory flat (with_bytes flat.memory (part_start flat.memory env.tenant + q) value)) x)
        (same_Some written.0 off (sym written.1 ∙ named)) written.2

    present_stands : (number : ℕ)
        → u.claim ≡ Ok (has.element number) → keys_at reply.maps k ≡ keys_at flat.maps k
        → number < map.count
        → Done (Present number)
    present_stands number seen key_table lt =
        let start = part_start env.memory env.tenant in
        let o = has.objects number lt in
        let off = offset_at flat.maps k (has.element number) in
        let v = map.values number in
        let inside = laid_inside flat.maps stands.maps.laid k (has.element number) has.live o.within in
        let within = inside.within in
        let large = long_memory in
        let sized = value_size_is in
        let is_long : length (bytes_at flat.memory.bytes (start + off) (shape_at flat.maps k).value_size) ≡ length v =
        ap length o.bytes in
        let whole : length v ≡ length value =
        omega (
          arith,
          length-take (shape_at flat.maps k).value_size (drop (start + off) flat.memory.bytes),
          length-drop (start + off) flat.memory.bytes,
        ) in
        let now = written_whole v value whole in
        let w = l.object_at m number in
        let counted = has.counted in
        let word_is : IsWord env l (Pointer (object.Value m number) (pos 0)) w =
        (omega (arith, ints), refl, omega arith) in
        let fits : 0 + length value ≤ length v = omega arith in
        let writes_value : value_written v (pos 0) value ≡ Some value =
        cond-true (leb (0 + length value) (length v)) (Some (written_at v 0 value)) None
        (le-leb (0 + length value) (length v) fits)
        ∙ ap (λ (x : List ℕ). Some x) now in
        let out :
        output s (Pointer (object.Value m number) (pos 0)) value ≡ Some (with_map s m (with_value map number value)) =
        ap (λ o.
        and_then o
        (λ map.
        and_then (value_written (map.values number) (pos 0) value)
        (λ x. Some (with_map s m (with_value map number x)))))
        is
        ∙ ap (λ o. and_then o (λ x. Some (with_map s m (with_value map number x)))) writes_value in
        let address = o.address in
        let begin = begins in
        let part = stands.changed.part in
        let large_part = room.room in
        let at_off : part_offset (part_start flat.memory env.tenant) flat.memory.part (length value) w ≡ Some off =
        part_offset_is (part_start flat.memory env.tenant) flat.memory.part (length value) w off
        (omega arith) (omega arith) in
        let memory_is : reply.memory ≡ with_bytes flat.memory (part_start flat.memory env.tenant + off) value =
        u.memory_is ∙ ap (with_claimed (call_in env flat) pair) seen in
        record {
          layout = l;
          more = extends_itself l;
          answer = u.word_is ∙ ap claim_word seen;
          standing =
              subst (λ (n : Bytes).
              Simulates env l (with_held flat n reply.maps) (with_map s m (with_value map number value)))
              (sym memory_is)
              (moved (with_map s m (with_value map number value))
              (with_bytes flat.memory (part_start flat.memory env.tenant + off) value)
              key_table
              (at_offset off w (with_map s m (with_value map number value)) at_off
              (outputs_keep_simulation below.writes env l flat s
              (with_map s m (with_value map number value)) (Pointer (object.Value m number) (pos 0))
              w value room stands word_is out)));
        }

    -- ---- a new key

    module _ (p : ℕ) (seen : u.claim ≡ Ok p) (free : IsFree (keys_at flat.maps k) p)
        (key_table : keys_at reply.maps k ≡ with_entry (keys_at flat.maps k) key p) where
      abbrev begin : ℕ
      begin = part_start env.memory env.tenant

      abbrev off : ℕ
      off = offset_at flat.maps (slice_index env.bind i) p

      abbrev bytes : List ℕ
      bytes =
          written_at flat.memory.bytes
          (part_start env.memory env.tenant + offset_at flat.maps (slice_index env.bind i) p)
          value

      abbrev wider : Layout
      wider = extended l m (base + (part_start env.memory env.tenant + offset_at flat.maps (slice_index env.bind i) p))

      within : off + length value ≤ PART
      within =
          let inside = (laid_inside flat.maps stands.maps.laid k p has.live free.within).within in
          let sized = value_size_is in
          omega arith

      behind : 576 ≤ off
      behind = (laid_inside flat.maps stands.maps.laid k p has.live free.within).behind

      room_there : begin + off + length value ≤ length flat.memory.bytes
      room_there = let a = within in let b = long_memory in omega arith

      -- the value of another element of any map is not changed
      element_kept : (j q : ℕ)
          → IsSome (live_at flat.maps j) → q < (shape_at flat.maps j).max_entries
          → (j ≡ k → q ≢ p)
          → bytes_at bytes (begin + offset_at flat.maps j q) (shape_at flat.maps j).value_size
          ≡ bytes_at flat.memory.bytes (begin + offset_at flat.maps j q) (shape_at flat.maps j).value_size
      element_kept j q live lt differ =
          let a = room_there in
          let b = (laid_inside flat.maps stands.maps.laid j q live lt).within in
          let large = long_memory in
          let sized = value_size_is in
          bytes_stay flat.memory.bytes value (begin + off) (begin + offset_at flat.maps j q)
          (shape_at flat.maps j).value_size (omega arith)
          (⊎_elim (λ below. inl (omega arith)) (λ above. inr (omega arith))
          (laid_apart flat.maps stands.maps.laid j q k p live has.live lt free.within differ))

      value_there : bytes_at bytes (begin + off) (shape_at flat.maps k).value_size ≡ value
      value_there =
          let a = room_there in
          ap (bytes_at bytes (begin + off)) value_size_is
          ∙ bytes_written flat.memory.bytes value (begin + off) (omega arith)

      own : HasMap wider (stored_maps begin bytes reply.maps) k m (with_object map key value)
      own =
          map_with_new l begin flat.memory.bytes bytes flat.maps reply.maps k m map key value p has
          free key_table u.rest.live
          (λ q. below.areas flat.maps reply.maps k q u.rest.areas u.rest.live)
          (λ q lt differ. element_kept k q has.live lt (λ _. differ))
          value_there below.along

      other : (j n : ℕ) (v : RunMap)
          → slice_get env.descriptors j ≡ Some n → n ≢ m
          → HasMap l (stored_maps begin flat.memory.bytes flat.maps) (slice_index env.bind j) n v
          → HasMap wider (stored_maps begin bytes reply.maps) (slice_index env.bind j) n v
      other j n v e differ h =
          let key_differs = other_key stands.maps i m j n named e differ in
          map_extended l begin bytes reply.maps m (base + (begin + off)) (slice_index env.bind j) n v differ
          (other_moved u.rest key_differs
          (other_bytes h
          (λ number lt.
          let o = h.objects number lt in
          record {
            within = o.within;
            in_use = o.in_use;
            address = o.address;
            bytes =
                element_kept (slice_index env.bind j) (h.element number) h.live o.within
                (λ same. absurd (key_differs same))
                ∙ o.bytes;
          })))

      maps_after :
          MapsStandFor env wider (stored_maps begin bytes reply.maps)
          (set_at s.maps m (Some (with_object map key value)))
      maps_after = record {
        count = stands.maps.count;
        each = λ j n e. let g = stands.maps.each j n e in
            cond_both (n == m) (Some (with_object map key value)) (s.maps n)
            (λ o.
            (v : RunMap)
            × (o ≡ Some v)
            × HasMap wider (stored_maps begin bytes reply.maps) (slice_index env.bind j) n v)
            (λ b.
            let same : m ≡ n = sym (eqb-true n m b) in
            let one : i ≡ j = stands.maps.names i j m named (e ∙ ap (λ (x : ℕ). Some x) (sym same)) in (
              with_object map key value,
              refl,
              subst (λ (x : ℕ).
                  HasMap wider (stored_maps begin bytes reply.maps) (slice_index env.bind x) n
                  (with_object map key value))
                  one
                  (subst (λ (x : ℕ). HasMap wider (stored_maps begin bytes reply.maps) k x (with_object map key value))
                  same own),
            ))
            (λ b. (g.0, g.1, other j n g.0 e (eqb-false n m b) g.2));
        listed = λ n number.
            cond_both (n == m) (l.counts m + 1) (l.counts n)
            (λ c. number < c → (j : ℕ) × (slice_get env.descriptors j ≡ Some n))
            (λ b _. (i, named ∙ ap (λ (x : ℕ). Some x) (sym (eqb-true n m b))))
            (λ _ lt. stands.maps.listed n number lt);
        keys = stands.maps.keys;
        names = stands.maps.names;
        laid = u.rest.laid;
      }

      new_stands : Done New
      new_stands =
          let more = extends l m (base + (begin + off)) in
          let a = room_there in let b = within in let c = behind in let d = long_memory in
          let memory_is : reply.memory ≡ with_bytes flat.memory (begin + off) value =
          u.memory_is
          ∙ ap (with_claimed (call_in env flat) pair) seen
          ∙ ap (λ (x : ℕ). with_bytes flat.memory (x + off) value) begins in
          record {
            layout = wider;
            more = more;
            answer = u.word_is ∙ ap claim_word seen;
            standing =
                subst (λ (n : Bytes).
                Simulates env wider (with_held flat n reply.maps) (with_map s m (with_object map key value)))
                (sym memory_is) (record {
                  slot = stands.slot;
                  count = stands.count;
                  packet = stands.packet;
                  changed = changed_after below.writes env l flat s room stands off value b;
                  front = stands.front;
                  values = λ r v lt e.
                      word_more l wider more env v (slice_index flat.registers r) (stands.values r v lt e);
                  stack = λ x lt.
                      cell_more l wider more env bytes (begin + 8 * x) (s.cells x)
                      (cell_kept env l flat.memory.bytes value (begin + off) (omega arith) (begin + 8 * x)
                      (s.cells x) (inl (omega arith)) (stands.stack x lt));
                  words = stands.words;
                  context =
                      words_kept env l flat.memory.bytes value (begin + off) (omega arith)
                      (stack_top env.memory env.tenant) s.words (inl (omega arith))
                      stands.context;
                  maps = maps_after;
                  elsewhere =
                      others_moved env.bind (part_start env.memory env.tenant) env.memory.bytes bytes
                      flat.maps reply.maps i index_within u.rest.others
                      (λ other q away live lt.
                      element_kept other q live lt (λ same. absurd (away i index_within (sym same)))
                      ∙ stands.elsewhere other q away live lt);
                });
          }

    -- ---- by the verdict

    new_done : (answer : Result ℕ MapFault)
        → u.claim ≡ answer
        → Claims New key (keys_at flat.maps k) answer (keys_at reply.maps k)
        → Done New
    new_done (Ok p) e c = new_stands p e c.0 c.1
    new_done (Err fault) e c = absurd c

    done : (v : Verdict ℕ)
        → verdict map.table key flags ≡ v
        → Claims (verdict_with has.element v) key (keys_at flat.maps k) u.claim (keys_at reply.maps k)
        → Done v
    done (Refused fault) e c = refused_stands fault c.0 c.1
    done (Present number) e c =
        present_stands number c.0 c.1
        (found_owned map.count key map.table.entries number has.owns (present_found map.table key flags number e))
    done New e c = new_done u.claim refl c

    update_stands : UpdateKeepsSimulation env l flat s
        (record { given = record { descriptor = m; map = map }; key = key; value = value; flags = flags })
        reply
    update_stands =
        let same :
        verdict (table_of (keys_at flat.maps k)) key flags ≡ verdict_with has.element (verdict map.table key flags) =
        ap (λ (x : Table ℕ). verdict x key flags) has.table ∙ below.along.verdict has.element map.table key flags in
        let d =
        done (verdict map.table key flags) refl
        (subst (λ v. Claims v key (keys_at flat.maps k) u.claim (keys_at reply.maps k)) same u.claimed) in
        record { layout = d.layout; extends = d.more; answer_is = d.answer; stands = d.standing }

pub updates_keep_simulation : LawsBelow → UpdatesKeepSimulation
updates_keep_simulation below env l flat s i asked reply room stands named is size u =
    update_stands below env l flat s i asked.given.descriptor asked.given.map asked.key asked.value
    asked.flags reply room stands named is size u
