-- After a write through a pointer the words and bytes represent the state after it.
use Rattle.std.proofs.Common.{◌≡◌, ◌≢◌, ◌⊎◌, inl, inr, ℕ, ◌+◌, ◌*◌, ◌<◌, ◌≤◌, ◌==◌, leb, ℤ, pos, negsuc, ◌+ℤ◌, List}
use Rattle.std.proofs.Common.{length, drop, slice_get, Option, Some, None, refl, sym, ap, subst, ◌∙◌, ⊎_elim, arith}
use Rattle.std.specs.Prelude.{slice_index}
use Rattle.std.specs.Option.{IsSome}
use Rattle.std.proofs.lemmas.Bool.{cond_both, eqb-true, eqb-false, leb-true, false≢true}
use Rattle.std.proofs.lemmas.Int.{ints}
use Rattle.std.proofs.lemmas.Option.{none-some, same_Some, cond_some, slice_get_within}
use Rattle.std.proofs.lemmas.List.{length-take}
use Rattle.words.specs.Bytes.{number_of, bytes_at, written_at}
use Rattle.words.specs.ByteLaws.{written_out, length-written_at, bytes_stay, over_within}
use Rattle.words.specs.Stack.{is_in_stack, byte_index}
use Rattle.words.specs.StackLaws.{in_stack}
use Rattle.tagged_model.specs.declared.value.Object.TheVariants as object
use Rattle.tagged_model.specs.declared.value.Tagged.{Tagged}
use Rattle.tagged_model.specs.declared.value.Tagged.TheVariants.{Pointer}
use Rattle.tagged_model.specs.Cells.{Cell, and_then, cell_over}
use Rattle.tagged_model.specs.State.{RunState, RunMap, set_at, with_cells, with_value, with_map, stack_written, value_written, object_written, output}
use Rattle.arena.specs.Memory.{base, part_start, with_bytes}
use Rattle.arena.specs.Apart.{IsPart, WritesStayInside}
use Rattle.bpf_maps.specs.declared.part.TheConstants.{PART}
use Rattle.bpf_maps.specs.Live.{LiveMaps, LiveMap, live_at, live_or, shape_at, offset, offset_at, LiesInPart, IsLaid}
use Rattle.bpf_helpers.specs.Layout.{Layout, IsWord, HasCell, HasStack, HasWords}
use Rattle.bpf_helpers.specs.Stands.{stack_top, IsRoom, IsOnlyChanged, HasObject, HasMap, MapsStandFor, KeepsUnboundValues, Simulates, stored_maps}
use Rattle.bpf_helpers.specs.Named.{named_offset}
use Rattle.bpf_helpers.specs.inside.Laws.{OutputsKeepSimulation}
use Rattle.bpf_helpers.proofs.Many.{also_some, bytes_over}
use Rattle.bpf_helpers.proofs.Moved.{other_key, other_bytes}
use Rattle.bpf_maps.specs.LiveLaws.{laid_inside}
use Rattle.bpf_helpers.proofs.Inputs.{part_offset_is, start_same, memory_long}
use Rattle.bpf_helpers.specs.States.{Environment, FlatState, with_memory}

-- ---- bytes outside the write are not changed

module _ (env : Environment) (l : Layout) (memory new : List ℕ) (from : ℕ)
    (fits : from + length new ≤ length memory) where
  abbrev IsApart : ℕ → ℕ → Type 0
  IsApart offset n = (offset + n ≤ from) ⊎ (from + length new ≤ offset)

  -- after bytes are written outside a cell, the memory has the same cell
  pub cell_kept : (at : ℕ) (c : Cell)
      → IsApart at 8 → HasCell env l memory at c
      → HasCell env l (written_at memory from new) at c
  cell_kept at c away has =
      record {
        present = λ j b few e.
            written_out memory new from (at + j) (omega arith) (apart j few away) ∙ has.present j b few e;
        whole = λ v e.
            subst (λ (list : List ℕ). IsWord env l v (number_of list))
            (sym (bytes_stay memory new from at 8 fits away)) (has.whole v e);
      }
    where
      apart : (j : ℕ) → j < 8 → IsApart at 8 → (at + j < from) ⊎ (from + length new ≤ at + j)
      apart j few (inl below) = inl (omega arith)
      apart j few (inr above) = inr (omega arith)

  -- after bytes are written outside the context, the memory has the same context words
  pub words_kept : (at : ℕ) (words : List ℕ)
      → IsApart at 44 → HasWords memory at words
      → HasWords (written_at memory from new) at words
  words_kept at words away has k lt =
      ap number_of (bytes_stay memory new from (at + 4 * k) 4 fits (apart away)) ∙ has k lt
    where
      apart : IsApart at 44 → IsApart (at + 4 * k) 4
      apart (inl below) = inl (omega arith)
      apart (inr above) = inr (omega arith)

  object_kept : (start : ℕ) (tenant : LiveMaps) (key m number : ℕ) (value : List ℕ) (element : ℕ)
      → IsApart (start + offset_at tenant key element) (shape_at tenant key).value_size
      → HasObject (stored_maps start memory tenant) key element (l.object_at m number) value
      → HasObject (stored_maps start (written_at memory from new) tenant) key element (l.object_at m number) value
  object_kept start tenant key m number value element away has =
      record {
        within = has.within;
        in_use = has.in_use;
        address = has.address;
        bytes =
            bytes_stay memory new from (start + offset_at tenant key element)
            (shape_at tenant key).value_size fits away
            ∙ has.bytes;
      }

-- ---- the values of maps are disjoint

module _ (tenant : LiveMaps) (laid : IsLaid tenant) where
  -- the values of different elements of live maps do not overlap
  pub laid_apart : (k p j q : ℕ)
      → IsSome (live_at tenant k) → IsSome (live_at tenant j)
      → p < (shape_at tenant k).max_entries → q < (shape_at tenant j).max_entries
      → (k ≡ j → p ≢ q)
      → (offset_at tenant k p + (shape_at tenant k).value_size ≤ offset_at tenant j q)
      ⊎ (offset_at tenant j q + (shape_at tenant j).value_size ≤ offset_at tenant k p)
  laid_apart k p j q live there lt few differ = by (live_at tenant k) (live_at tenant j) refl refl live there lt few
    where
      by : (o u : Option LiveMap)
          → live_at tenant k ≡ o → live_at tenant j ≡ u
          → IsSome o → IsSome u
          → p < (live_or o).keys.shape.max_entries → q < (live_or u).keys.shape.max_entries
          → (offset (live_or o) p + (live_or o).keys.shape.value_size ≤ offset (live_or u) q)
          ⊎ (offset (live_or u) q + (live_or u).keys.shape.value_size ≤ offset (live_or o) p)
      by None u e f some too lt few = absurd (false≢true some)
      by (Some a) None e f some too lt few = absurd (false≢true too)
      by (Some a) (Some b) e f some too lt few = laid.apart k p j q a b e f lt few differ

-- ---- maps

module _ (env : Environment) (l : Layout) (start : ℕ) (memory new : List ℕ) (tenant : LiveMaps)
    (maps : ℕ → Option RunMap)
    (has : MapsStandFor env l (stored_maps start memory tenant) maps)
    (long : start + PART ≤ length memory) where
  -- the bytes are written in the stack, before all values
  maps_behind : (q : ℕ)
      → q + length new ≤ 512
      → MapsStandFor env l (stored_maps start (written_at memory (start + q) new) tenant) maps
  maps_behind q low = record {
    count = has.count;
    each = each;
    listed = has.listed;
    keys = has.keys;
    names = has.names;
    laid = has.laid;
  }
    where
      one : (key m : ℕ) (t : RunMap)
          → HasMap l (stored_maps start memory tenant) key m t
          → HasMap l (stored_maps start (written_at memory (start + q) new) tenant) key m t
      one key m t h =
          other_bytes h
          (λ number lt.
          let o = h.objects number lt in
          let is = laid_inside tenant has.laid key (h.element number) h.live o.within in
          let within = is.within in let behind = is.behind in
          object_kept env l memory new (start + q) (omega arith) start tenant key m number
          (t.values number) (h.element number) (inr (omega arith))
          o)

      each : (i m : ℕ)
          → slice_get env.descriptors i ≡ Some m
          → (t : RunMap)
          × (maps m ≡ Some t)
          × HasMap l (stored_maps start (written_at memory (start + q) new) tenant) (slice_index env.bind i) m t
      each i m e = let g = has.each i m e in (g.0, g.1, one (slice_index env.bind i) m g.0 g.2)

  -- the bytes are written in an object
  module _ (m number : ℕ) (t : RunMap) (is : maps m ≡ Some t) (i : ℕ)
      (at : slice_get env.descriptors i ≡ Some m)
      (h : HasMap l (stored_maps start memory tenant) (slice_index env.bind i) m t)
      (lt : number < t.count) (y : ℕ)
      (room : y + length new ≤ (shape_at tenant (slice_index env.bind i)).value_size) where
    abbrev key : ℕ
    key = slice_index env.bind i

    abbrev off : ℕ
    off = offset_at tenant (slice_index env.bind i) (h.element number)

    abbrev size : ℕ
    size = (shape_at tenant (slice_index env.bind i)).value_size

    inside : LiesInPart off size
    inside = laid_inside tenant has.laid key (h.element number) h.live (h.objects number lt).within

    fits : start + (off + y) + length new ≤ length memory
    fits = let within = inside.within in omega arith

    abbrev after : List ℕ
    after = written_at memory (start + (off + y)) new

    value_after : HasObject (stored_maps start after tenant) key (h.element number) (l.object_at m number)
        (written_at (t.values number) y new)
    value_after =
        let o = h.objects number lt in
        let within = inside.within in
        let at : start + (off + y) ≡ start + off + y = omega arith in
        record {
          within = o.within;
          in_use = o.in_use;
          address = o.address;
          bytes =
              ap (λ (a : ℕ). bytes_at (written_at memory a new) (start + off) size) at
              ∙ over_within memory new (start + off) size y (omega arith) room
              ∙ ap (λ (v : List ℕ). written_at v y new) o.bytes;
        }

    -- the value of another element is not changed
    other_after : (other n k : ℕ) (value : List ℕ) (p : ℕ)
        → IsSome (live_at tenant other) → (other ≡ key → p ≢ h.element number)
        → HasObject (stored_maps start memory tenant) other p (l.object_at n k) value
        → HasObject (stored_maps start after tenant) other p (l.object_at n k) value
    other_after other n k value p live differ o =
        let q = laid_inside tenant has.laid other p live o.within in
        let within = q.within in
        let mine = inside.within in
        object_kept env l memory new (start + (off + y)) fits start tenant other n k value p
        (⊎_elim (λ below. inl (omega arith)) (λ above. inr (omega arith))
        (laid_apart tenant has.laid other p key (h.element number) live h.live o.within
        (h.objects number lt).within differ))
        o

    own_after :
        HasMap l (stored_maps start after tenant) key m (with_value t number (written_at (t.values number) y new))
    own_after =
        other_bytes h
        (λ k few.
        cond_both (k == number) (written_at (t.values number) y new) (t.values k)
        (λ v. HasObject (stored_maps start after tenant) key (h.element k) (l.object_at m k) v)
        (λ e.
        let same : number ≡ k = sym (eqb-true k number e) in
        subst (λ x.
        HasObject (stored_maps start after tenant) key (h.element x) (l.object_at m x)
        (written_at (t.values number) y new))
        same value_after)
        (λ e.
        other_after key m k (t.values k) (h.element k) h.live
        (λ _ same. eqb-false k number e (h.apart k number few lt same))
        (h.objects k few)))

    others_after : (j n : ℕ) (u : RunMap)
        → slice_get env.descriptors j ≡ Some n → n ≢ m
        → HasMap l (stored_maps start memory tenant) (slice_index env.bind j) n u
        → HasMap l (stored_maps start after tenant) (slice_index env.bind j) n u
    others_after j n u e differ g =
        other_bytes g
        (λ k few.
        other_after (slice_index env.bind j) n k (u.values k) (g.element k) g.live
        (λ same. absurd (other_key has i m j n at e differ same))
        (g.objects k few))

    maps_over : MapsStandFor env l (stored_maps start after tenant)
        (set_at maps m (Some (with_value t number (written_at (t.values number) y new))))
    maps_over = record {
      count = has.count;
      each = each;
      listed = has.listed;
      keys = has.keys;
      names = has.names;
      laid = has.laid;
    }
      where
        each : (j n : ℕ)
            → slice_get env.descriptors j ≡ Some n
            → (u : RunMap)
            × (set_at maps m (Some (with_value t number (written_at (t.values number) y new))) n ≡ Some u)
            × HasMap l (stored_maps start after tenant) (slice_index env.bind j) n u
        each j n e =
            cond_both (n == m)
            (Some (with_value t number (written_at (t.values number) y new)))
            (maps n)
            (λ o. (u : RunMap) × (o ≡ Some u) × HasMap l (stored_maps start after tenant) (slice_index env.bind j) n u)
            (λ b.
            let same : m ≡ n = sym (eqb-true n m b) in
            let one : i ≡ j = has.names i j m at (e ∙ ap (λ (x : ℕ). Some x) (sym same)) in (
              with_value t number (written_at (t.values number) y new),
              refl,
              subst (λ (x : ℕ).
                  HasMap l (stored_maps start after tenant) (slice_index env.bind x) n
                  (with_value t number (written_at (t.values number) y new)))
                  one
                  (subst (λ (x : ℕ).
                  HasMap l (stored_maps start after tenant) key x
                  (with_value t number (written_at (t.values number) y new)))
                  same own_after),
            ))
            (λ b. let g = has.each j n e in (g.0, g.1, others_after j n g.0 e (eqb-false n m b) g.2))

-- ---- the maps that the run does not name

module _ (bind : List ℕ) (start : ℕ) (old memory new : List ℕ) (tenant : LiveMaps)
    (laid : IsLaid tenant) (long : start + PART ≤ length memory)
    (has : KeepsUnboundValues bind old (stored_maps start memory tenant)) where
  others_behind : (q : ℕ)
      → q + length new ≤ 512
      → KeepsUnboundValues bind old (stored_maps start (written_at memory (start + q) new) tenant)
  others_behind q low key p away live lt =
      let is = laid_inside tenant laid key p live lt in
      let within = is.within in let behind = is.behind in
      bytes_stay memory new (start + q) (start + offset_at tenant key p)
      (shape_at tenant key).value_size (omega arith) (inr (omega arith))
      ∙ has key p away live lt

  -- if bytes are written in a value of a bound map, the values of maps that are not bound are those in the old bytes
  pub others_over : (i at y : ℕ)
      → i < length bind
      → IsSome (live_at tenant (slice_index bind i))
      → at < (shape_at tenant (slice_index bind i)).max_entries
      → y + length new ≤ (shape_at tenant (slice_index bind i)).value_size
      → KeepsUnboundValues bind old
      (stored_maps start (written_at memory (start + (offset_at tenant (slice_index bind i) at + y)) new) tenant)
  others_over i at y within live lt room key p away there few =
      let is = laid_inside tenant laid key p there few in
      let mine = laid_inside tenant laid (slice_index bind i) at live lt in
      let a = is.within in let b = mine.within in
      bytes_stay memory new
      (start + (offset_at tenant (slice_index bind i) at + y))
      (start + offset_at tenant key p) (shape_at tenant key).value_size
      (omega arith)
      (⊎_elim (λ below. inl (omega arith)) (λ above. inr (omega arith))
      (laid_apart tenant laid key p (slice_index bind i) at there live few lt
      (λ same. absurd (away i within (sym same)))))
      ∙ has key p away there few

-- ---- states

module _ (writes : WritesStayInside) (env : Environment) (l : Layout) (flat : FlatState)
    (s : RunState) (room : IsRoom env.memory env.tenant) (stands : Simulates env l flat s) where
  -- after bytes are written in the part, the memory has changed at most in the part
  pub changed_after : (q : ℕ) (new : List ℕ)
      → q + length new ≤ PART
      → IsOnlyChanged env.memory env.tenant (with_bytes flat.memory (part_start env.memory env.tenant + q) new)
  changed_after q new h =
      let large = room.room in
      let start = start_same env l flat s room stands in
      let part = stands.changed.part in
      let all : flat.memory.parts * flat.memory.part ≡ env.memory.parts * env.memory.part =
      ap (λ (n : ℕ). n * flat.memory.part) stands.changed.parts
      ∙ ap (λ (n : ℕ). env.memory.parts * n) stands.changed.part in
      let few = stands.changed.parts in
      let one = room.is_part.1 in
      let long = memory_long env l flat s room stands in
      let is : IsPart flat.memory env.tenant = (stands.changed.size ∙ room.is_part.0 ∙ sym all, omega arith) in
      record {
        size =
            length-written_at flat.memory.bytes new (part_start env.memory env.tenant + q) (omega arith)
            ∙ stands.changed.size;
        parts = stands.changed.parts;
        part = stands.changed.part;
        others = λ u differ.
            writes flat.memory env.tenant u (part_start env.memory env.tenant + q) new is
            (omega arith) (omega arith) differ
            ∙ stands.changed.others u differ;
      }

  -- if the stack's bytes have the new cells, the memory with them represents the state with these cells
  pub stack_stands : (q : ℕ) (new : List ℕ) (cells : ℕ → Cell)
      → q + length new ≤ 512
      → HasStack env l
      (written_at flat.memory.bytes (part_start env.memory env.tenant + q) new)
      (part_start env.memory env.tenant) cells
      → Simulates env l
      (with_memory flat (with_bytes flat.memory (part_start env.memory env.tenant + q) new))
      (with_cells s cells)
  stack_stands q new cells low stack =
      let start = part_start env.memory env.tenant in
      let long = memory_long env l flat s room stands in
      record {
        slot = stands.slot;
        count = stands.count;
        packet = stands.packet;
        changed = changed_after q new (omega arith);
        front = stands.front;
        values = stands.values;
        stack = stack;
        words = stands.words;
        context =
            words_kept env l flat.memory.bytes new (start + q) (omega arith)
            (stack_top env.memory env.tenant) s.words (inr (omega arith))
            stands.context;
        maps = maps_behind env l start flat.memory.bytes new flat.maps s.maps stands.maps long q low;
        elsewhere =
            others_behind env.bind start env.memory.bytes flat.memory.bytes new flat.maps
            stands.maps.laid long stands.elsewhere q low;
      }

  -- the offset of the write, and the simulation after it
  Written : ℕ → List ℕ → RunState → Type 0
  Written w bs u =
      (q : ℕ)
      × (named_offset flat.memory env.tenant (length bs) w ≡ Some q)
      × Simulates env l (with_memory flat (with_bytes flat.memory (part_start flat.memory env.tenant + q) bs)) u

  written : (w q : ℕ) (bs : List ℕ) (u : RunState)
      → w ≡ base + (part_start env.memory env.tenant + q)
      → q + length bs ≤ PART
      → Simulates env l (with_memory flat (with_bytes flat.memory (part_start env.memory env.tenant + q) bs)) u
      → Written w bs u
  unfolding Written
  written w q bs u e fits after =
      let part = stands.changed.part in let large = room.room in (
        q,
        part_offset_is (part_start flat.memory env.tenant) flat.memory.part (length bs) w q
            (e ∙ ap (λ (a : ℕ). base + (a + q)) (sym (start_same env l flat s room stands)))
            (omega arith),
        subst (λ (a : ℕ). Simulates env l (with_memory flat (with_bytes flat.memory (a + q) bs)) u)
            (sym (start_same env l flat s room stands)) after,
      )

  stack_output : (x : ℤ) (w : ℕ) (bs : List ℕ) (u : RunState)
      → pos w ≡ pos l.front +ℤ x → stack_written s x bs ≡ Some u → Written w bs u
  stack_output x w bs u h e =
      let start = part_start env.memory env.tenant in
      let c =
      cond_some (is_in_stack x (length bs)) (with_cells s (λ i. cell_over i (s.cells i) (byte_index x) bs)) u e in
      let is = in_stack (length bs) x c.0 in
      let value = is.0 in
      let within = is.1 in
      let front = stands.front in
      let long = memory_long env l flat s room stands in
      let cells = bytes_over env l flat.memory.bytes start s u x bs stands.stack (omega arith) e in
      written w (byte_index x) bs u (omega (arith, ints)) (omega arith)
      (subst (λ (v : RunState).
      HasStack env l (written_at flat.memory.bytes (start + byte_index x) bs) start v.cells
      → Simulates env l (with_memory flat (with_bytes flat.memory (start + byte_index x) bs)) v)
      c.1
      (stack_stands (byte_index x) bs (λ i. cell_over i (s.cells i) (byte_index x) bs) within) cells)

  object_output : (m number : ℕ) (x : ℤ) (w : ℕ) (bs : List ℕ) (u : RunState)
      → pos w ≡ pos (l.object_at m number) +ℤ x → number < l.counts m
      → object_written s m number x bs ≡ Some u
      → Written w bs u
  object_output m number (negsuc y) w bs u h placed e =
      let a =
      also_some (s.maps m)
      (λ map.
      and_then (value_written (map.values number) (negsuc y) bs)
      (λ value. Some (with_map s m (with_value map number value))))
      u e in
      absurd (none-some u a.2)
  object_output m number (pos y) w bs u h placed e =
      let start = part_start env.memory env.tenant in
      let listed = stands.maps.listed m number placed in
      let i = listed.0 in
      let g = stands.maps.each i m listed.1 in
      let key = slice_index env.bind i in
      let a =
      also_some (s.maps m)
      (λ map.
      and_then (value_written (map.values number) (pos y) bs)
      (λ value. Some (with_map s m (with_value map number value))))
      u e in
      let same : a.0 ≡ g.0 = same_Some a.0 g.0 (sym a.1 ∙ g.1) in
      let got : and_then (value_written (g.0.values number) (pos y) bs)
      (λ value. Some (with_map s m (with_value g.0 number value)))
      ≡ Some u =
      ap (λ (map : RunMap).
      and_then (value_written (map.values number) (pos y) bs)
      (λ value. Some (with_map s m (with_value map number value))))
      (sym same)
      ∙ a.2 in
      let b =
      also_some (value_written (g.0.values number) (pos y) bs)
      (λ value. Some (with_map s m (with_value g.0 number value)))
      u got in
      let c =
      cond_some (leb (y + length bs) (length (g.0.values number))) (written_at (g.0.values number) y bs) b.0 b.1 in
      let few : y + length bs ≤ length (g.0.values number) =
      leb-true (y + length bs) (length (g.0.values number)) c.0 in
      let counted = g.2.counted in
      let lt : number < g.0.count = omega arith in
      let o = g.2.objects number lt in
      let off = offset_at flat.maps key (g.2.element number) in
      let size = (shape_at flat.maps key).value_size in
      let is : length (bytes_at flat.memory.bytes (start + off) size) ≡ length (g.0.values number) =
      ap length o.bytes in
      let least = length-take size (drop (start + off) flat.memory.bytes) in
      let small : y + length bs ≤ size = omega arith in
      let inside = laid_inside flat.maps stands.maps.laid key (g.2.element number) g.2.live o.within in
      let within = inside.within in
      let behind = inside.behind in
      let address = o.address in
      let long = memory_long env l flat s room stands in
      let now = with_map s m (with_value g.0 number (written_at (g.0.values number) y bs)) in
      let state : now ≡ u = ap (λ (v : List ℕ). with_map s m (with_value g.0 number v)) c.1 ∙ same_Some _ u b.2 in
      written w (off + y) bs u (omega (arith, ints)) (omega arith)
      (subst (λ (v : RunState). Simulates env l (with_memory flat (with_bytes flat.memory (start + (off + y)) bs)) v)
      state
      (record {
        slot = stands.slot;
        count = stands.count;
        packet = stands.packet;
        changed = changed_after (off + y) bs (omega arith);
        front = stands.front;
        values = stands.values;
        stack = λ k few.
            cell_kept env l flat.memory.bytes bs (start + (off + y)) (omega arith) (start + 8 * k)
            (s.cells k) (inl (omega arith)) (stands.stack k few);
        words = stands.words;
        context =
            words_kept env l flat.memory.bytes bs (start + (off + y)) (omega arith)
            (stack_top env.memory env.tenant) s.words (inl (omega arith))
            stands.context;
        maps =
            maps_over env l start flat.memory.bytes bs flat.maps s.maps stands.maps long m number
            g.0 g.1 i listed.1 g.2 lt y small;
        elsewhere =
            let count = stands.maps.count in
            let fits = slice_get_within env.descriptors i m listed.1 in
            others_over env.bind start env.memory.bytes flat.memory.bytes bs flat.maps
            stands.maps.laid long stands.elsewhere i (g.2.element number)
            y (omega arith) g.2.live o.within small;
      }))

  output_written : (p : Tagged) (w : ℕ) (bs : List ℕ) (u : RunState)
      → IsWord env l p w → output s p bs ≡ Some u → Written w bs u
  output_written (Pointer object.Stack x) w bs u h e = stack_output x w bs u h.0 e
  output_written (Pointer (object.Value m number) x) w bs u h e = object_output m number x w bs u h.0 h.2 e
  output_written p w bs u h e = absurd (none-some u e)

  -- if bytes of a value are written, they lie in the part, and the memory with them represents the state after it
  pub object_overwritten : (m number : ℕ) (x : ℤ) (w : ℕ) (bs : List ℕ) (u : RunState)
      → pos w ≡ pos (l.object_at m number) +ℤ x → number < l.counts m
      → object_written s m number x bs ≡ Some u
      → (q : ℕ)
      × (named_offset flat.memory env.tenant (length bs) w ≡ Some q)
      × Simulates env l (with_memory flat (with_bytes flat.memory (part_start flat.memory env.tenant + q) bs)) u
  unfolding Written
  object_overwritten m number x w bs u h placed e = object_output m number x w bs u h placed e

pub outputs_keep_simulation : WritesStayInside → OutputsKeepSimulation
unfolding Written
outputs_keep_simulation writes env l flat s u p w bs room stands h e =
    output_written writes env l flat s room stands p w bs u h e
