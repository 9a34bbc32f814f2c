-- Each command preserves the invariant of states that can be restored.
use Rattle.std.proofs.Common.{◌≡◌, ℕ, zero, suc, ◌+◌, ◌-◌, ◌≤◌, Bool, true, false, cond, List, [], ◌∷◌, length, set, get_or, take, drop}
use Rattle.std.proofs.Common.{replicate, Option, Some, None, Result, Ok, Err, refl, sym, ap, subst, ◌∙◌, inl, inr, arith, length-drop, length-take-le}
use Rattle.std.specs.Prelude.{◌⊎◌, ◌==◌, ◌||◌, nat_lt, if◌then◌else◌, MatchBool}
use Rattle.std.specs.List.{AllByRecursion}
use Rattle.std.specs.Map.{keys_of, set_value}
use Rattle.std.proofs.lemmas.Bool.{eqb-true, ltb-false}
use Rattle.std.proofs.lemmas.Option.{none-some, same_Some}
use Rattle.std.proofs.lemmas.Map.Entries.{length-keys_of}
use Rattle.bpf_maps.specs.Sum.{total}
use Rattle.command_frames.specs.Command.{Command, map_create, map_lookup, map_update, map_delete, map_next_key, prog_load, prog_test_run, close}
use Rattle.fd_table.specs.Table as table
use Rattle.tagged_model.specs.declared.fault.MapFault.{MapFault}
use Rattle.tagged_model.specs.declared.shape.MapKind.{MapKind}
use Rattle.tagged_model.specs.declared.shape.MapKind.TheVariants.{Hash, Array}
use Rattle.tagged_model.specs.declared.shape.MapShape.{MapShape}
use Rattle.tagged_model.specs.declared.value.Outcome.{Outcome}
use Rattle.tagged_model.specs.declared.value.Outcome.TheVariants.{Value, Fault}
use Rattle.tagged_model.specs.Step.{MapsByDescriptor, result_of, left_of}
use Rattle.tagged_model.specs.Table as call
use Rattle.tagged_model.specs.Table.{is_key, index_key, indexed, new_entries, look_up, verdict}
use Rattle.tagged_model.specs.Table.{removal, next_of, with_new, with_object, with_deleted, after_run, shape_area}
use Rattle.verifier.specs.Laws.{LoadedMapsHaveShapes}
use Rattle.tenant.specs.declared.errno.Errno.{Errno}
use Rattle.tenant.specs.declared.errno.Errno.TheVariants.{TooBig, Invalid, TooManyOpen}
use Rattle.tenant.specs.declared.object.OpenObject.{OpenObject}
use Rattle.tenant.specs.declared.object.OpenObject.TheVariants as object
use Rattle.tenant.specs.Loaded.{LoadedProgram}
use Rattle.bpf_maps.specs.Limits.{most_bytes, most_maps}
use Rattle.tenant.specs.State.{Map, TenantState, new_tenant, free_handle, live, is_named, map_area, maps_area, with_map_at, with_objects}
use Rattle.insn_set.specs.declared.insn.Insn.{Insn}
use Rattle.verifier.specs.declared.refusal.Refusal.{Refusal}
use Rattle.verifier.specs.Judgement.{Judges}
use Rattle.tenant.specs.Machine.{Answer, Answers, refuses, refuses_for_memory, kind_of, asked_shape, new_map, room_for, created_at, created_as}
use Rattle.tenant.specs.Machine.{created_under, created, of_handle, of_object, on_map, gives_or_no_entry, element_put, element_taken_out, targets}
use Rattle.tenant.specs.Machine.{loaded_program, result_of_judgement, LoadsAs, LoadsUnder, Loads, longest_packet, maps_given, maps_left, outcome_result, run_of}
use Rattle.tenant.specs.Machine.{closed}
use Rattle.saving.specs.Alike.{HoldsItsMaps}
use Rattle.saving.specs.Restorable.{AreDistinct, IsWholeTable, IsWholeMap, IsWholeProgram, IsRestorable}
use Rattle.saving.specs.Laws.{MapsAreHeld, RestorableIsKept}
use Rattle.saving.proofs.Lists.{total_in, there_is, not_none, set_by_index}
use Rattle.saving.proofs.Wholes.{from_keys, indexed_keys, index_length, indexed_distinct, indexed_long}
use Rattle.saving.proofs.Wholes.{whole_with_new, whole_with_object, whole_with_deleted, whole_after_run, all_end, all_without}
use Rattle.saving.proofs.Limits.{limited, array_key}
use Rattle.saving.proofs.Moved.{named_by, stands_at, lookup_names}
use Rattle.saving.proofs.Pairs.{with_new_map, SetAt, IsFree, free_at}
use Rattle.saving.proofs.Closes.{live_if, live_parts}
use Rattle.saving.proofs.Makes.{area_left}
use Rattle.saving.proofs.Births.{closed_there, opened_program}
use Rattle.saving.proofs.RunMaps.{LeavesMap, IsLeftOf, leaves_maps}
use Rattle.saving.proofs.Kept.{shape_of, AreOnce, distinct_once, contents_kept, one_left}
use Rattle.saving.proofs.Kept.{leaves_self, run_left, found_all, program_kept, program_names, loaded_whole}

-- ---- the contents of one map

all_set : (test : List ℕ → Bool) (size : ℕ) (es : List (List ℕ × List ℕ)) (value : List ℕ)
    → AllByRecursion (λ e. length e.1 ≡ size) es → length value ≡ size
    → AllByRecursion (λ (e : List ℕ × List ℕ). length e.1 ≡ size) (set_value test es value)
all_set test size [] value h long = tt
all_set test size (e ∷ es) value h long = by (test e.0) (all_set test size es value h.1 long)
  where
    by : (b : Bool)
        → AllByRecursion (λ (e : List ℕ × List ℕ). length e.1 ≡ size) (set_value test es value)
        → AllByRecursion (λ (e : List ℕ × List ℕ). length e.1 ≡ size)
        (cond b ((e.0, value) ∷ es) (e ∷ set_value test es value))
    by true rest = (long, h.1)
    by false rest = (h.0, rest)

-- the map after an update, and after a deletion
new_left : (t : Map) (key value : List ℕ) (flags : ℕ)
    → length key ≡ t.shape.key_size → length value ≡ t.shape.value_size
    → verdict t key flags ≡ call.New
    → IsLeftOf t (with_new t key value)
new_left t key value flags key_size value_size e = record {
  shape = refl;
  whole = λ whole. record {
    table = whole_with_new whole.table key value flags key_size e;
    values =
        all_end (λ (x : List ℕ × List ℕ). length x.1 ≡ t.shape.value_size) t.entries (key, value)
        whole.values value_size;
    ended = whole.ended;
  };
}

old_left : (t : Map) (key value : List ℕ) → length value ≡ t.shape.value_size → IsLeftOf t (with_object t key value)
old_left t key value value_size = record {
  shape = refl;
  whole = λ whole. record {
    table = whole_with_object whole.table key value;
    values = all_set (is_key key) t.shape.value_size t.entries value whole.values value_size;
    ended = whole.ended;
  };
}

gone_left : (t : Map) (key value : List ℕ) → removal t key ≡ Ok value → IsLeftOf t (after_run (with_deleted t key))
gone_left t key value e = record {
  shape = refl;
  whole = λ whole. record {
    table = whole_after_run (whole_with_deleted whole.table key value e);
    values = all_without (λ (x : List ℕ × List ℕ). length x.1 ≡ t.shape.value_size) (is_key key) t.entries whole.values;
    ended = refl;
  };
}

-- a new map
zeros_sized : (n : ℕ) → length (replicate n (let zero_byte : ℕ = 0 in zero_byte)) ≡ n
zeros_sized zero = refl
zeros_sized (suc n) = let rest = zeros_sized n in omega arith

indexed_values : (value : List ℕ) (from n : ℕ)
    → AllByRecursion (λ (e : List ℕ × List ℕ). length e.1 ≡ length value) (indexed (λ i. value) from n)
unfolding indexed
indexed_values value from zero = tt
indexed_values value from (suc n) = (refl, indexed_values value (from + 1) n)

indexed_same : (value : List ℕ) (from n : ℕ) → keys_of (indexed (λ i. value) from n) ≡ keys_of (indexed (λ i. i) from n)
unfolding indexed
indexed_same value from zero = refl
indexed_same value from (suc n) = ap (λ (ks : List (List ℕ)). index_key from ∷ ks) (indexed_same value (from + 1) n)

new_map_whole : (shape : MapShape) → IsWholeMap (new_map shape)
new_map_whole shape = by shape.kind refl
  where
    value : List ℕ
    value = replicate shape.value_size 0

    made : (k : MapKind) → Map
    made k = record {
      shape = shape;
      entries = new_entries (λ i. replicate shape.value_size 0) k shape.max_entries;
      deleted = 0;
    }

    array_table : shape.kind ≡ Array → IsWholeTable (made Array)
    array_table e =
        let small = (limited shape).entries in
        record {
          keys =
              from_keys (λ k. length k ≡ shape.key_size)
              (indexed (λ i. replicate shape.value_size 0) 0 shape.max_entries)
              (subst (AllByRecursion (λ k. length k ≡ shape.key_size))
              (sym (indexed_same value 0 shape.max_entries))
              (indexed_keys (λ k. length k ≡ shape.key_size)
              (λ i. index_length i ∙ sym (array_key shape e)) 0 shape.max_entries));
          distinct =
              subst AreDistinct (sym (indexed_same value 0 shape.max_entries))
              (indexed_distinct 0 shape.max_entries (omega arith));
          few =
              let long =
              sym (length-keys_of (indexed (λ i. value) 0 shape.max_entries))
              ∙ ap length (indexed_same value 0 shape.max_entries)
              ∙ indexed_long 0 shape.max_entries in
              omega arith;
          indices = λ array. indexed_same value 0 shape.max_entries;
        }

    by : (k : MapKind) → shape.kind ≡ k → IsWholeMap (new_map shape)
    by Hash e = subst (λ (k : MapKind). IsWholeMap (made k)) (sym e) (record {
      table = record {
        keys = tt;
        distinct = tt;
        few = omega arith;
        indices = λ array. absurd (let wrong : Array ≡ Hash = sym array ∙ e in cc wrong);
      };
      values = tt;
      ended = refl;
    })
    by Array e = subst (λ (k : MapKind). IsWholeMap (made k)) (sym e) (record {
      table = array_table e;
      values =
          subst (λ (n : ℕ).
          AllByRecursion (λ (x : List ℕ × List ℕ). length x.1 ≡ n) (indexed (λ i. value) 0 shape.max_entries))
          (zeros_sized shape.value_size) (indexed_values value 0 shape.max_entries);
      ended = refl;
    })

module _ {s : TenantState} (can : IsRestorable s) where
  -- if exactly the named maps are live after the reply, the whole invariant holds
  abbrev Keeps : Answer → Type 0
  Keeps a = HoldsItsMaps a.after → IsRestorable a.after

  flag_kept : (b : Bool) → HoldsItsMaps (record s { refused = b }) → IsRestorable (record s { refused = b })
  flag_kept b holds = contents_kept can s.maps b holds (λ handle. leaves_self (live s handle))

  one_kept : (handle : ℕ) (t u : Map)
      → live s handle ≡ Some t → IsLeftOf t u
      → HoldsItsMaps (with_map_at s handle u)
      → IsRestorable (with_map_at s handle u)
  one_kept handle t u there left holds =
      contents_kept can (set s.maps handle (Some u)) s.refused holds (one_left s.maps handle t u there left)

  -- ---- the calls of a map

  put_kept : (handle : ℕ) (t : Map) (key value : List ℕ) (flags : ℕ) (v : call.Verdict (List ℕ))
      → live s handle ≡ Some t → length key ≡ t.shape.key_size
      → length value ≡ t.shape.value_size → verdict t key flags ≡ v
      → Keeps (element_put s handle t key value v)
  put_kept handle t key value flags (call.Refused fault) there key_size value_size e holds = can
  put_kept handle t key value flags (call.Present old) there key_size value_size e holds =
      one_kept handle t (with_object t key value) there (old_left t key value value_size) holds
  put_kept handle t key value flags call.New there key_size value_size e holds =
      one_kept handle t (with_new t key value) there (new_left t key value flags key_size value_size e) holds

  taken_kept : (handle : ℕ) (t : Map) (key : List ℕ) (r : Result (List ℕ) MapFault)
      → live s handle ≡ Some t → removal t key ≡ r
      → Keeps (element_taken_out s handle t key r)
  taken_kept handle t key (Err fault) there e holds = can
  taken_kept handle t key (Ok value) there e holds =
      one_kept handle t (after_run (with_deleted t key)) there (gone_left t key value e) holds

  found_kept : (o : Option (List ℕ)) → Keeps (gives_or_no_entry s o)
  found_kept None holds = can
  found_kept (Some value) holds = can

  if_kept : (x : Bool) (a b : Answer) → (x ≡ true → Keeps a) → Keeps b → Keeps (if x then a else b)
  if_kept true a b p q = p refl
  if_kept false a b p q = q

  on_map_kept : (fd : ℕ) (f : ℕ → Map → Answer)
      → ((handle : ℕ) (t : Map) → live s handle ≡ Some t → Keeps (f handle t))
      → Keeps (on_map s fd f)
  on_map_kept fd f each = by (table.named s.objects fd)
    where
      there : (handle : ℕ) (o : Option Map) → live s handle ≡ o → Keeps (of_handle s handle f o)
      there handle None is = λ holds. can
      there handle (Some t) is = each handle t is

      by : (o : Option OpenObject) → Keeps (of_object s f o)
      by None = λ holds. can
      by (Some (object.Program l)) = λ holds. can
      by (Some (object.Map handle)) = there handle (live s handle) refl

  update_kept : (flags : ℕ) (bytes : List ℕ) (handle : ℕ) (t : Map)
      → live s handle ≡ Some t
      → Keeps (if length bytes == t.shape.key_size
      + t.shape.value_size then element_put s handle t (take t.shape.key_size bytes)
      (drop t.shape.key_size bytes) (verdict t (take t.shape.key_size bytes) flags)
      else refuses Invalid s)
  update_kept flags bytes handle t there =
      if_kept (length bytes == t.shape.key_size + t.shape.value_size) _ (refuses Invalid s)
      (λ e. let size = eqb-true (length bytes) (t.shape.key_size + t.shape.value_size) e in
      put_kept handle t (take t.shape.key_size bytes) (drop t.shape.key_size bytes) flags
      (verdict t (take t.shape.key_size bytes) flags) there
      (length-take-le t.shape.key_size bytes (omega arith)) (let long = length-drop t.shape.key_size bytes in
      omega arith)
      refl)
      (λ holds. can)

  -- ---- PROG_TEST_RUN

  ran_kept : (l : LoadedProgram) (fd : ℕ)
      → table.named s.objects fd ≡ Some (object.Program l)
      → (left : MapsByDescriptor) → ((m : ℕ) → LeavesMap (maps_given s l m) (left m))
      → (o : Outcome) → Keeps (outcome_result o (record s { maps = maps_left left l.maps s.maps }))
  ran_kept l fd there left each o = by o
    where
      whole : IsWholeProgram s l
      whole = can.programs fd l there

      pointwise : (p : ℕ) → LeavesMap (live s p) (get_or (maps_left left l.maps s.maps) p None)
      pointwise =
          run_left left l.maps s.maps s.maps
          (found_all left s l.maps l.maps each (λ d e. refl) (subst AreOnce (sym whole.bound) (distinct_once _)))
          refl (λ p. leaves_self (live s p))

      by : (o : Outcome) → Keeps (outcome_result o (record s { maps = maps_left left l.maps s.maps }))
      by (Value n) holds = contents_kept can (maps_left left l.maps s.maps) s.refused holds pointwise
      by Fault holds = contents_kept can (maps_left left l.maps s.maps) s.refused holds pointwise

  run_kept : (words packet : List ℕ) (fd : ℕ) (o : Option OpenObject)
      → table.named s.objects fd ≡ o → Keeps (run_of s words packet o)
  run_kept words packet fd None there = λ holds. can
  run_kept words packet fd (Some (object.Map handle)) there = λ holds. can
  run_kept words packet fd (Some (object.Program l)) there =
      if_kept (nat_lt longest_packet (length packet)) (refuses TooBig s) _ (λ e holds. can)
      (ran_kept l fd there
      (left_of l.insns (maps_given s l) (length packet ∷ words) packet)
      (leaves_maps l.insns (maps_given s l) (length packet ∷ words) packet)
      (result_of l.insns (maps_given s l) (length packet ∷ words) packet))

  -- ---- MAP_CREATE

  created_kept : (fd handle : ℕ) (shape : MapShape)
      → table.lowest s.objects ≡ Some fd → IsFree s handle
      → maps_area s.maps + shape_area shape ≤ most_bytes
      → HoldsItsMaps (with_new_map s fd handle (new_map shape))
      → IsRestorable (with_new_map s fd handle (new_map shape))
  created_kept fd handle shape low free fits holds = record {
    held = holds;
    area = let sum = total_in map_area s.maps handle (new_map shape) free.within free.none in omega (arith, fits);
    maps = λ p t there. maps_at p t there (set_by_index s.maps handle p (Some (new_map shape)) free.within);
    programs = λ n l there.
        program_kept s (with_new_map s fd handle (new_map shape)) l
        (can.programs n l (was n l there))
        (λ other p e. ap shape_of (older p (program_names s n l (was n l there) other p e)));
  }
    where
      maps_at : (p : ℕ) (t : Map)
          → get_or (set s.maps handle (Some (new_map shape))) p None ≡ Some t
          → SetAt s.maps handle (new_map shape) p
          → IsWholeMap t
      maps_at p t there (inl (at, e)) =
          subst IsWholeMap (same_Some (new_map shape) t (sym e ∙ there)) (new_map_whole shape)
      maps_at p t there (inr (other, e)) = can.maps p t (sym e ∙ there)

      older : (p : ℕ)
          → is_named s.objects p ≡ true
          → get_or (set s.maps handle (Some (new_map shape))) p None ≡ live s p
      older p named = by (set_by_index s.maps handle p (Some (new_map shape)) free.within)
        where
          by : SetAt s.maps handle (new_map shape) p
              → get_or (set s.maps handle (Some (new_map shape))) p None ≡ live s p
          by (inl (at, e)) = absurd (not_none (can.held.live_if_named p named) (ap (live s) at ∙ free.none))
          by (inr (other, e)) = e

      was : (n : ℕ) (l : LoadedProgram)
          → table.named (table.with_open s.objects fd (object.Map handle)) n ≡ Some (object.Program l)
          → table.named s.objects n ≡ Some (object.Program l)
      was n l there = by (opened_program s.objects fd n (object.Map handle) l low there)
        where
          by : (let o : OpenObject = object.Map handle in o ≡ object.Program l)
              ⊎ (table.named s.objects n ≡ Some (object.Program l))
              → table.named s.objects n ≡ Some (object.Program l)
          by (inl wrong) =
              absurd (let no : (let o : OpenObject = object.Map handle in o) ≡ object.Program l = wrong in cc no)
          by (inr same) = same

  create_kept : (refused : Bool) (r : Result MapShape Errno) → Keeps (created refused s r)
  create_kept refused (Err errno) = λ holds. can
  create_kept refused (Ok shape) = under (table.lowest s.objects) refl
    where
      at_handle : (refused : Bool) (fd handle : ℕ)
          → table.lowest s.objects ≡ Some fd → IsFree s handle
          → maps_area s.maps + shape_area shape ≤ most_bytes
          → Keeps (created_at refused s shape fd handle)
      at_handle true fd handle low free fits = λ holds. flag_kept true holds
      at_handle false fd handle low free fits = λ holds. created_kept fd handle shape low free fits holds

      by_room : (full : Bool) (fd handle : ℕ)
          → nat_lt most_bytes (maps_area s.maps + shape_area shape) ≡ full
          → table.lowest s.objects ≡ Some fd
          → (if full then None else free_handle s) ≡ Some handle
          → Keeps (created_at refused s shape fd handle)
      by_room true fd handle is low e = absurd (none-some handle e)
      by_room false fd handle is low e =
          at_handle refused fd handle low (free_at s handle e)
          (ltb-false most_bytes (maps_area s.maps + shape_area shape) is)

      room : (fd : ℕ) (o : Option ℕ)
          → table.lowest s.objects ≡ Some fd → room_for s (shape_area shape) ≡ o
          → Keeps (created_as refused s shape fd o)
      room fd None low is = λ holds. can
      room fd (Some handle) low is =
          by_room (nat_lt most_bytes (maps_area s.maps + shape_area shape)) fd handle refl low is

      under : (o : Option ℕ) → table.lowest s.objects ≡ o → Keeps (created_under refused s shape o)
      under None low = λ holds. can
      under (Some fd) low = room fd (room_for s (shape_area shape)) low refl

  -- ---- PROG_LOAD

  opened_kept : (fd : ℕ) (l : LoadedProgram)
      → table.lowest s.objects ≡ Some fd → IsWholeProgram s l
      → HoldsItsMaps (record s { objects = table.with_open s.objects fd (object.Program l) })
      → IsRestorable (record s { objects = table.with_open s.objects fd (object.Program l) })
  opened_kept fd l low whole holds = record {
    held = holds;
    area = can.area;
    maps = can.maps;
    programs = λ n k there.
        program_kept s
        (record s { objects = table.with_open s.objects fd (object.Program l) })
        k
        (by n k (opened_program s.objects fd n (object.Program l) k low there))
        (λ other p e. refl);
  }
    where
      by : (n : ℕ) (k : LoadedProgram)
          → (let o : OpenObject = object.Program l in o ≡ object.Program k)
          ⊎ (table.named s.objects n ≡ Some (object.Program k))
          → IsWholeProgram s k
      by n k (inl same) =
          subst (IsWholeProgram s)
          (let e : (let o : OpenObject = object.Program l in o) ≡ object.Program k = same in cc e)
          whole
      by n k (inr there) = can.programs n k there

  judged_kept : LoadedMapsHaveShapes
      → (fd : ℕ) (slots : List ℕ) (j : Result (List Insn) Refusal)
      → table.lowest s.objects ≡ Some fd → Judges (targets s) slots j
      → Keeps (result_of_judgement s fd j)
  judged_kept law fd slots (Err refusal) low judges = λ holds. can
  judged_kept law fd slots (Ok insns) low (program, spelled, fine) = λ holds.
      opened_kept fd (loaded_program s insns) low (loaded_whole law s can.held.descriptors insns program fine) holds

  loads_kept : LoadedMapsHaveShapes
      → (refused : Bool) (kind : ℕ) (slots : List ℕ) (a : Answer) → Loads refused s kind slots a
      → Keeps a
  loads_kept law refused kind slots a is = by (kind == 1) is
    where
      as_kept : (x : Answer) → a ≡ x → Keeps x → Keeps a
      as_kept x e keeps = subst Keeps (sym e) keeps

      as_seen : (refused : Bool) (fd : ℕ) → table.lowest s.objects ≡ Some fd → LoadsAs refused s fd slots a → Keeps a
      as_seen true fd low e = as_kept (refuses_for_memory s) e (flag_kept true)
      as_seen false fd low (j, judges, e) =
          as_kept (result_of_judgement s fd j) e (judged_kept law fd slots j low judges)

      under : (o : Option ℕ) → table.lowest s.objects ≡ o → LoadsUnder refused s o slots a → Keeps a
      under None low e = as_kept (refuses TooManyOpen s) e (λ holds. can)
      under (Some fd) low e = as_seen refused fd low e

      by : (socket : Bool)
          → MatchBool socket (LoadsUnder refused s (table.lowest s.objects) slots a) (a ≡ refuses Invalid s)
          → Keeps a
      by true e = under (table.lowest s.objects) refl e
      by false e = as_kept (refuses Invalid s) e (λ holds. can)

  -- ---- CLOSE

  close_kept : (fd : ℕ) (o : Option OpenObject) → Keeps (closed s fd o)
  close_kept fd None = λ holds. can
  close_kept fd (Some o) = λ holds. record {
    held = holds;
    area = let less = area_left (table.with_closed s.objects fd) 0 s.maps in let area = can.area in omega arith;
    maps = λ p t there.
        let (named, was) = live_parts s (table.with_closed s.objects fd) p (there_is there) in
        can.maps p t (sym (live_if s (table.with_closed s.objects fd) p named) ∙ there);
    programs = λ n l there.
        let was = sym (closed_there s.objects fd n (λ none. none-some (object.Program l) (sym none ∙ there))) ∙ there in
        program_kept s (with_objects s (table.with_closed s.objects fd)) l (can.programs n l was)
        (λ other p e.
        ap shape_of
        (live_if s (table.with_closed s.objects fd) p
        (named_by (table.with_closed s.objects fd) (n - table.first_descriptor) (object.Program l) p
        (stands_at (table.with_closed s.objects fd) n (object.Program l) there)
        (lookup_names l.maps other p e))));
  }

-- ---- every command

answer_kept : MapsAreHeld
    → LoadedMapsHaveShapes
    → (refused : Bool) (s : TenantState) (command : Command) (a : Answer) → IsRestorable s
    → Answers refused s command a
    → IsRestorable a.after
answer_kept held law refused s command a can is = by command is (held.kept refused s command a can.held is)
  where
    seen : (x : Answer)
        → a ≡ x
        → (HoldsItsMaps x.after → IsRestorable x.after)
        → HoldsItsMaps a.after
        → IsRestorable a.after
    seen x e keeps = subst (λ (y : Answer). HoldsItsMaps y.after → IsRestorable y.after) (sym e) keeps

    by : (c : Command) → Answers refused s c a → HoldsItsMaps a.after → IsRestorable a.after
    by (map_create kind key value max flags) is =
        seen _ is (create_kept can refused (asked_shape (kind_of kind) key value max flags))
    by (map_lookup fd key) is =
        seen _ is
        (on_map_kept can fd _
        (λ handle t there.
        if_kept can (length key == t.shape.key_size) _ _ (λ e. found_kept can (look_up t key)) (λ holds. can)))
    by (map_update fd flags bytes) is = seen _ is (on_map_kept can fd _ (update_kept can flags bytes))
    by (map_delete fd key) is =
        seen _ is
        (on_map_kept can fd _
        (λ handle t there.
        if_kept can (length key == t.shape.key_size) _ _
        (λ e. taken_kept can handle t key (removal t key) there refl)
        (λ holds. can)))
    by (map_next_key fd key) is =
        seen _ is
        (on_map_kept can fd _
        (λ handle t there.
        if_kept can
        (length key == 0 || length key == t.shape.key_size)
        _ _ (λ e. found_kept can (next_of t key)) (λ holds. can)))
    by (prog_load kind slots) is = loads_kept can law refused kind slots a is
    by (prog_test_run fd words packet) is = seen _ is (run_kept can words packet fd (table.named s.objects fd) refl)
    by (close fd) is = seen _ is (close_kept can fd (table.named s.objects fd))

-- a new tenant can be restored
none_at : {A : Type 0} (n i : ℕ) → let none : Option A = None in get_or (replicate n none) i none ≡ none
none_at zero i = refl
none_at (suc n) zero = refl
none_at (suc n) (suc i) = none_at n i

none_sum : (n : ℕ) → total map_area (replicate n None) ≡ 0
unfolding total
none_sum zero = refl
none_sum (suc n) = let rest = none_sum n in omega arith

pub restorable_is_kept : MapsAreHeld → LoadedMapsHaveShapes → RestorableIsKept
restorable_is_kept held law = record {
  new = record {
    held = held.new;
    area = let sum = none_sum most_maps in omega arith;
    maps = λ handle t there. absurd (none-some t (sym (none_at most_maps handle) ∙ there));
    programs = λ fd l there.
        absurd (none-some (object.Program l)
        (sym (none_at table.most (fd - table.first_descriptor))
        ∙ stands_at new_tenant.objects fd (object.Program l) there));
  };
  kept = answer_kept held law;
}
