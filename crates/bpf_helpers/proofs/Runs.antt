-- Start and end of a run on words, bytes and live maps.
use Rattle.std.proofs.Common.{◌≡◌, ℕ, zero, suc, ◌+◌, ◌*◌, ◌<◌, ◌≤◌, ◌==◌, eqb, pos, Bool, true, false, cond, if◌then◌else◌}
use Rattle.std.proofs.Common.{List, [], ◌∷◌, length, slice_get, Option, Some, None, option_map, refl, sym, ap, subst, ◌∙◌, arith}
use Rattle.std.specs.Prelude.{slice_index}
use Rattle.std.specs.Option.{IsSome}
use Rattle.std.specs.Map.{values_of}
use Rattle.std.proofs.lemmas.Bool.{eqb-true, eqb-false}
use Rattle.std.proofs.lemmas.Int.{ints}
use Rattle.std.proofs.lemmas.Option.{none-some, same_Some, slice_get_within}
use Rattle.words.specs.Bytes.{bytes_at}
use Rattle.words.specs.ByteLaws.{bytes_within}
use Rattle.tagged_model.specs.declared.shape.MapShape.{MapShape}
use Rattle.tagged_model.specs.declared.value.Object.TheVariants as object
use Rattle.tagged_model.specs.declared.value.Tagged.{Tagged}
use Rattle.tagged_model.specs.declared.value.Tagged.TheVariants.{Pointer}
use Rattle.tagged_model.specs.Cells.{holds, bytes}
use Rattle.tagged_model.specs.State.{RunState}
use Rattle.tagged_model.specs.Step.{MapsByDescriptor, begins_with, start_of_run, map_at_start, map_after_run}
use Rattle.arena.specs.Memory.{Memory, base, size_of, part_start, part_bytes}
use Rattle.arena.specs.PartLaws.{part_within}
use Rattle.bpf_maps.specs.declared.part.TheConstants.{PART}
use Rattle.bpf_maps.specs.KeyTable.{KeyTable, after_run}
use Rattle.bpf_maps.specs.Live.{LiveMaps, live_at, keys_at, shape_at, offset_at, value_in, map_in, SameAreas}
use Rattle.bpf_maps.specs.Laws.{AreasKeepElements}
use Rattle.bpf_helpers.specs.Layout.{Layout, IsWord}
use Rattle.bpf_helpers.specs.Stands.{stack_top, IsRoom, HasMap, Simulates, stored_maps}
use Rattle.bpf_helpers.specs.Runs.{AreReady, HasContext, AreFirst, RunsBegin, RunsEnd, OthersStay, first_state}
use Rattle.bpf_maps.specs.LiveLaws.{laid_inside}
use Rattle.bpf_helpers.proofs.Ends.{maps_begin, maps_end}
use Rattle.bpf_helpers.specs.States.{Environment, FlatState}

-- ---- the position of a descriptor

-- the first position of a descriptor in a list
index_in : List ℕ → ℕ → Option ℕ
index_in [] m = None
index_in (x ∷ xs) m = if x == m then Some 0 else option_map suc (index_in xs m)

some_suc : (o : Option ℕ) (i : ℕ) → option_map suc o ≡ Some i → (j : ℕ) × (o ≡ Some j) × (suc j ≡ i)
some_suc None i e = absurd (none-some i e)
some_suc (Some j) i e = (j, refl, same_Some (suc j) i e)

index_is_there : (xs : List ℕ) (m i : ℕ) → index_in xs m ≡ Some i → slice_get xs i ≡ Some m
unfolding index_in
index_is_there [] m i e = absurd (none-some i e)
index_is_there (x ∷ xs) m i e = by (index_is_there xs m) (eqb x m) refl e
  where
    by : ((j : ℕ) → index_in xs m ≡ Some j → slice_get xs j ≡ Some m)
        → (b : Bool) → eqb x m ≡ b
        → cond b (Some 0) (option_map suc (index_in xs m)) ≡ Some i
        → slice_get (x ∷ xs) i ≡ Some m
    by rest true t e = ap (slice_get (x ∷ xs)) (sym (same_Some 0 i e)) ∙ ap (λ (y : ℕ). Some y) (eqb-true x m t)
    by rest false t e = let r = some_suc (index_in xs m) i e in ap (slice_get (x ∷ xs)) (sym r.2) ∙ rest r.0 r.1

has_index : (xs : List ℕ) (m i : ℕ) → slice_get xs i ≡ Some m → (j : ℕ) × (index_in xs m ≡ Some j)
unfolding index_in
has_index [] m i e = absurd (none-some m e)
has_index (x ∷ xs) m i e = by (has_index xs m) (eqb x m) refl i e
  where
    by : ((i : ℕ) → slice_get xs i ≡ Some m → (j : ℕ) × (index_in xs m ≡ Some j))
        → (b : Bool) → eqb x m ≡ b → (i : ℕ) → slice_get (x ∷ xs) i ≡ Some m
        → (j : ℕ) × (cond b (Some 0) (option_map suc (index_in xs m)) ≡ Some j)
    by rest true t i e = (0, refl)
    by rest false t zero e = absurd (eqb-false x m t (same_Some x m e))
    by rest false t (suc i) e = let r = rest i e in (suc r.0, ap (option_map suc) r.1)

-- ---- the values of a part

module _ (old : Memory) (t : ℕ) (room : IsRoom old t) (memory : Memory)
    (size : size_of memory ≡ size_of old) (parts : memory.part ≡ old.part) where
  -- the n bytes at an offset of the part are those at this offset from its start in the memory
  pub in_part : (off n : ℕ)
      → off + n ≤ PART
      → bytes_at (part_bytes memory t) off n ≡ bytes_at memory.bytes (part_start old t + off) n
  in_part off n fits =
      let large = room.room in
      let start : part_start memory t ≡ part_start old t = ap (λ (k : ℕ). t * k) parts in
      bytes_within memory.bytes (part_start memory t) memory.part off n (omega arith)
      ∙ ap (λ (p : ℕ). bytes_at memory.bytes (p + off) n) start

-- ---- the beginning

module _ (env : Environment) (memory : Memory) (registers : List ℕ) (maps : MapsByDescriptor)
    (words : List ℕ) (room : IsRoom env.memory env.tenant)
    (context : HasContext env.memory env.tenant words memory)
    (first : AreFirst env.memory env.tenant registers)
    (ready : AreReady env)
    (given : (i m : ℕ)
    → slice_get env.descriptors i ≡ Some m
    → maps m ≡ Some (map_in (part_bytes env.memory env.tenant) env.maps (slice_index env.bind i))) where
  -- the number of objects of a map is the number of its keys
  count_at : Option ℕ → ℕ
  count_at None = 0
  count_at (Some i) = length (keys_at env.maps (slice_index env.bind i)).entries

  object_at : Option ℕ → ℕ → ℕ
  object_at None number = 0
  object_at (Some i) number =
      base
      + (part_start env.memory env.tenant
      + offset_at env.maps (slice_index env.bind i)
      (slice_index (values_of (keys_at env.maps (slice_index env.bind i)).entries) number))

  layout : Layout
  layout = record {
    front = base + stack_top env.memory env.tenant;
    object_at = λ m number. object_at (index_in env.descriptors m) number;
    counts = λ m. count_at (index_in env.descriptors m);
  }

  -- a value lies after the context, and is not changed
  value_stays : (k p : ℕ)
      → IsSome (live_at env.maps k) → p < (shape_at env.maps k).max_entries
      → bytes_at memory.bytes
      (part_start env.memory env.tenant + offset_at env.maps k p)
      (shape_at env.maps k).value_size
      ≡ bytes_at env.memory.bytes
      (part_start env.memory env.tenant + offset_at env.maps k p)
      (shape_at env.maps k).value_size
  value_stays k p live lt =
      let is = laid_inside env.maps ready.laid k p live lt in
      let behind = is.behind in
      let within = is.within in
      let fits = part_within env.memory env.tenant room.is_part in
      let large = room.room in
      context.behind (part_start env.memory env.tenant + offset_at env.maps k p)
      (shape_at env.maps k).value_size (omega arith) (omega arith)

  value_there : (k p : ℕ)
      → IsSome (live_at env.maps k) → p < (shape_at env.maps k).max_entries
      → bytes_at memory.bytes
      (part_start env.memory env.tenant + offset_at env.maps k p)
      (shape_at env.maps k).value_size
      ≡ value_in (part_bytes env.memory env.tenant) env.maps k p
  value_there k p live lt =
      let within = (laid_inside env.maps ready.laid k p live lt).within in
      value_stays k p live lt
      ∙ sym (in_part env.memory env.tenant room env.memory refl refl (offset_at env.maps k p)
      (shape_at env.maps k).value_size (omega arith))

  index_within : (i m : ℕ) → slice_get env.descriptors i ≡ Some m → i < length env.bind
  index_within i m e = let fits = slice_get_within env.descriptors i m e in let count = ready.count in omega arith

  -- a descriptor in the list has its position as its first position
  index_is : (i m : ℕ) → slice_get env.descriptors i ≡ Some m → index_in env.descriptors m ≡ Some i
  index_is i m e =
      let r = has_index env.descriptors m i e in
      let same : r.0 ≡ i = ready.names r.0 i m (index_is_there env.descriptors m r.0 r.1) e in
      r.1 ∙ ap (λ (x : ℕ). Some x) same

  map_begins : (i m : ℕ)
      → slice_get env.descriptors i ≡ Some m
      → HasMap layout
      (stored_maps (part_start env.memory env.tenant) memory.bytes env.maps)
      (slice_index env.bind i) m
      (map_at_start (map_in (part_bytes env.memory env.tenant) env.maps (slice_index env.bind i)))
  unfolding layout count_at object_at
  map_begins i m e =
      let lt = index_within i m e in
      let k = slice_index env.bind i in
      maps_begin layout (part_start env.memory env.tenant) memory.bytes env.maps k m
      (value_in (part_bytes env.memory env.tenant) env.maps k)
      (ready.live i lt) (ready.sound i lt) (ready.free i lt)
      (λ p few. value_there k p (ready.live i lt) few)
      (ap count_at (index_is i m e))
      (λ number few. ap (λ (o : Option ℕ). object_at o number) (index_is i m e))

  listed : (m number : ℕ) → number < layout.counts m → (i : ℕ) × (slice_get env.descriptors i ≡ Some m)
  unfolding layout count_at
  listed m number = by (index_in env.descriptors m) refl
    where
      by : (o : Option ℕ)
          → index_in env.descriptors m ≡ o → number < count_at o
          → (i : ℕ) × (slice_get env.descriptors i ≡ Some m)
      by None e lt = absurd (omega arith)
      by (Some i) e lt = (i, index_is_there env.descriptors m i e)

  context_first : IsWord env layout (Pointer object.Context (pos 0)) (base + stack_top env.memory env.tenant)
  unfolding layout
  context_first = (omega (arith, ints), refl, tt)

  stack_first : IsWord env layout (Pointer object.Stack (pos 0)) (base + stack_top env.memory env.tenant)
  unfolding layout
  stack_first = (omega (arith, ints), refl, tt)

  first_words : (r : ℕ) (v : Tagged) → r < 11 → begins_with r ≡ Some v → IsWord env layout v (slice_index registers r)
  first_words r v lt e = context_word context_first stack_first (eqb r 1) refl e
    where
      stack_word : IsWord env layout (Pointer object.Stack (pos 0)) (base + stack_top env.memory env.tenant)
          → (b : Bool) → eqb r 10 ≡ b
          → cond b (Some (Pointer object.Stack (pos 0))) None ≡ Some v
          → IsWord env layout v (slice_index registers r)
      stack_word h true k e = subst (λ (x : ℕ). IsWord env layout v (slice_index registers x)) (sym (eqb-true r 10 k))
          (subst (λ (x : Tagged). IsWord env layout x (slice_index registers 10))
          (same_Some (Pointer object.Stack (pos 0)) v e)
          (subst (IsWord env layout (Pointer object.Stack (pos 0))) (sym first.frame) h))
      stack_word h false k e = absurd (none-some v e)

      context_word : IsWord env layout (Pointer object.Context (pos 0)) (base + stack_top env.memory env.tenant)
          → IsWord env layout (Pointer object.Stack (pos 0)) (base + stack_top env.memory env.tenant)
          → (b : Bool) → eqb r 1 ≡ b
          → cond b (Some (Pointer object.Context (pos 0))) (cond (eqb r 10) (Some (Pointer object.Stack (pos 0))) None)
          ≡ Some v
          → IsWord env layout v (slice_index registers r)
      context_word h g true k e =
          subst (λ (x : ℕ). IsWord env layout v (slice_index registers x)) (sym (eqb-true r 1 k))
          (subst (λ (x : Tagged). IsWord env layout x (slice_index registers 1))
          (same_Some (Pointer object.Context (pos 0)) v e)
          (subst (IsWord env layout (Pointer object.Context (pos 0))) (sym first.context) h))
      context_word h g false k e = stack_word g (eqb r 10) refl e

  not_whole : (b : ℕ → Option ℕ) (v : Tagged) → bytes b ≡ holds v → ⊥
  not_whole b v e = cc

  begins : Simulates env layout (first_state env memory registers) (start_of_run maps words env.packet)
  unfolding layout
  begins = record {
    slot = refl;
    count = first.count;
    packet = refl;
    changed = context.changed;
    front = refl;
    values = first_words;
    stack = λ i lt. record { present = λ j b few e. absurd (none-some b e); whole = λ v e. absurd (not_whole _ v e) };
    words = context.count;
    context = context.words_are;
    maps = record {
      count = ready.count;
      each = λ i m e. (
        map_at_start (map_in (part_bytes env.memory env.tenant) env.maps (slice_index env.bind i)),
        ap (option_map map_at_start) (given i m e),
        map_begins i m e,
      );
      listed = listed;
      keys = ready.keys;
      names = ready.names;
      laid = ready.laid;
    };
    elsewhere = λ key p away live lt. value_stays key p live lt;
  }

-- at the start of a run, words, bytes and live maps represent the tagged state at the start
pub runs_begin : RunsBegin
runs_begin env memory registers maps words room context first ready given = (
  layout env memory
      registers maps words room context first ready given,
  begins env memory registers maps words room context first ready given,
)

-- ---- the end

module _ (env : Environment) (l : Layout) (flat : FlatState) (s : RunState)
    (room : IsRoom env.memory env.tenant) (stands : Simulates env l flat s) where
  map_ends : AreasKeepElements
      → (new : LiveMaps) (i m : ℕ) → slice_get env.descriptors i ≡ Some m
      → IsSome (live_at new (slice_index env.bind i))
      → keys_at new (slice_index env.bind i) ≡ after_run (keys_at flat.maps (slice_index env.bind i))
      → SameAreas flat.maps new
      → option_map map_after_run (s.maps m) ≡ Some (map_in (part_bytes flat.memory env.tenant) new (slice_index env.bind i))
  map_ends keep new i m named live ended areas =
      let g = stands.maps.each i m named in
      let k = slice_index env.bind i in
      let shape : shape_at new k ≡ shape_at flat.maps k = ap (λ (x : KeyTable). x.shape) ended in
      ap (option_map map_after_run) g.1
      ∙ ap (λ x. Some x) (sym (maps_end l (part_start env.memory env.tenant) flat.memory.bytes flat.maps new k m g.0
      (value_in (part_bytes flat.memory env.tenant) new k)
      g.2 ended
      (λ p lt.
      let within = (laid_inside flat.maps stands.maps.laid k p g.2.live lt).within in
      ap (λ (x : MapShape). bytes_at (part_bytes flat.memory env.tenant) (offset_at new k p) x.value_size) shape
      ∙ ap (λ (x : ℕ). bytes_at (part_bytes flat.memory env.tenant) x (shape_at flat.maps k).value_size)
      (keep flat.maps new k p areas live)
      ∙ in_part env.memory env.tenant room flat.memory stands.changed.size stands.changed.part
      (offset_at flat.maps k p) (shape_at flat.maps k).value_size
      (omega arith))))

  other_stays : (key p : ℕ)
      → ((i : ℕ) → i < length env.bind → slice_index env.bind i ≡ key → ⊥)
      → IsSome (live_at flat.maps key) → p < (shape_at flat.maps key).max_entries
      → value_in (part_bytes flat.memory env.tenant) flat.maps key p
      ≡ value_in (part_bytes env.memory env.tenant) flat.maps key p
  other_stays key p away live lt =
      let within = (laid_inside flat.maps stands.maps.laid key p live lt).within in
      in_part env.memory env.tenant room flat.memory stands.changed.size stands.changed.part
      (offset_at flat.maps key p) (shape_at flat.maps key).value_size
      (omega arith)
      ∙ stands.elsewhere key p away live lt
      ∙ sym (in_part env.memory env.tenant room env.memory refl refl (offset_at flat.maps key p)
      (shape_at flat.maps key).value_size (omega arith))

-- after the end of a run on a map, its live pairs are those after the tagged run
pub runs_end : AreasKeepElements → RunsEnd
runs_end keep env l flat s new i m room stands named live ended areas =
    map_ends env l flat s room stands keep new i m named live ended areas

-- the values of live maps that are not bound have the same bytes as at the start of the run
pub others_stay : OthersStay
others_stay env l flat s key p room stands away live lt = other_stays env l flat s room stands key p away live lt
