-- After each command exactly the maps that an open object names are live.
use Rattle.std.proofs.Common.{◌≡◌, ℕ, zero, suc, ◌+◌, ◌-◌, ◌<◌, Bool, true, false, List, ◌∷◌, length, set, get_or, take, drop, replicate, Option}
use Rattle.std.proofs.Common.{Some, None, Result, Ok, Err, IsSome, is_some, refl, sym, ap, subst, ◌∙◌, inl, inr, arith, true≢false, length-set}
use Rattle.std.specs.Prelude.{◌⊎◌, ◌==◌, ◌||◌, nat_lt, is_none, position, option_map, if◌then◌else◌, MatchBool}
use Rattle.std.specs.List.{list_any}
use Rattle.std.proofs.lemmas.Bool.{eq-eqb, eqb-true}
use Rattle.std.proofs.lemmas.List.Quantifiers.{position-Some}
use Rattle.std.proofs.lemmas.Option.{none-some, same_Some}
use Rattle.command_frames.specs.Command.{Command, map_create, map_lookup, map_update, map_delete, map_next_key, prog_load, prog_test_run, close}
use Rattle.fd_table.specs.Table as table
use Rattle.tagged_model.specs.declared.fault.MapFault.{MapFault}
use Rattle.tagged_model.specs.declared.shape.MapShape.{MapShape}
use Rattle.tagged_model.specs.declared.value.Outcome.{Outcome}
use Rattle.tagged_model.specs.declared.value.Outcome.TheVariants.{Value, Fault}
use Rattle.tagged_model.specs.Step.{MapsByDescriptor, result_of, left_of}
use Rattle.tagged_model.specs.Table as call
use Rattle.tagged_model.specs.Table.{look_up, verdict, removal, next_of, with_new, with_object, with_deleted, after_run, shape_area}
use Rattle.verifier.specs.Maps.{maps_of}
use Rattle.tenant.specs.declared.errno.Errno.{Errno}
use Rattle.tenant.specs.declared.errno.Errno.TheVariants.{Invalid}
use Rattle.tenant.specs.declared.object.OpenObject.{OpenObject}
use Rattle.tenant.specs.declared.object.OpenObject.TheVariants as object
use Rattle.tenant.specs.Loaded.{LoadedProgram}
use Rattle.bpf_maps.specs.Limits.{most_maps}
use Rattle.tenant.specs.State.{Map, TenantState, new_tenant, live, names, is_named, with_map_at}
use Rattle.insn_set.specs.declared.insn.Insn.{Insn}
use Rattle.verifier.specs.declared.refusal.Refusal.{Refusal}
use Rattle.tenant.specs.Machine.{Answer, refuses, kind_of, asked_shape, new_map, room_for, created_at, created_as, created_under, created}
use Rattle.tenant.specs.Machine.{of_handle, of_object, on_map, gives_or_no_entry, element_put, element_taken_out, loaded_program}
use Rattle.tenant.specs.Machine.{result_of_judgement, LoadsAs, LoadsUnder, Loads, longest_packet, maps_given, maps_left, outcome_result, run_of, closed}
use Rattle.tenant.specs.Machine.{Answers}
use Rattle.saving.specs.Alike.{HoldsItsMaps}
use Rattle.saving.specs.Laws.{MapsAreHeld}
use Rattle.saving.proofs.Lists.{not_none, there_is, set_by_index}
use Rattle.saving.proofs.Moved.{or_parts, or_left, or_right, named_by, stands_at, named_handle_is_named, handles_named}
use Rattle.saving.proofs.Pairs.{with_new_map, SetAt, IsFree, free_at}
use Rattle.saving.proofs.RunMaps.{left_same}
use Rattle.saving.proofs.Closes.{closed_fewer, closed_length, fewer_held, named_open}
use Rattle.saving.proofs.Left.{length_left, SameHandles, program_left, left_handles, set_handles}

-- ---- a free descriptor

none_is : {A : Type 0} (o : Option A) → is_none o ≡ true → o ≡ None
none_is None e = refl
none_is (Some x) e = absurd (true≢false (sym e))

-- the index of the lowest free descriptor is in the table, and no object is open at it
pub descriptor_free : (objects : List (Option OpenObject)) (fd : ℕ)
    → table.lowest objects ≡ Some fd
    → (fd - table.first_descriptor < length objects) × (get_or objects (fd - table.first_descriptor) None ≡ None)
descriptor_free objects fd e = by (position is_none objects) refl e
  where
    handle_of : (n : ℕ) → Some (3 + n) ≡ Some fd → n ≡ fd - 3
    handle_of n e = let same = same_Some (3 + n) fd e in omega arith

    by : (o : Option ℕ)
        → position is_none objects ≡ o
        → option_map (λ handle. table.first_descriptor + handle) o ≡ Some fd
        → (fd - table.first_descriptor < length objects) × (get_or objects (fd - table.first_descriptor) None ≡ None)
    by None p e = absurd (none-some fd e)
    by (Some n) p e =
        let same : n ≡ fd - table.first_descriptor = handle_of n e in
        let (within, free, lower) = position-Some is_none objects n None p in (
          omega (arith, within, same),
          ap (λ (m : ℕ). get_or objects m None) (sym same) ∙ none_is (get_or objects n None) free,
        )

-- ---- a new tenant

no_map : (n handle : ℕ) → let none : Option Map = None in get_or (replicate n none) handle none ≡ none
no_map zero handle = refl
no_map (suc n) zero = refl
no_map (suc n) (suc handle) = no_map n handle

no_name : (n handle : ℕ) → is_named (replicate n None) handle ≡ false
no_name zero handle = refl
no_name (suc n) handle = no_name n handle

long : {A : Type 0} (n : ℕ) (x : A) → length (replicate n x) ≡ n
long zero x = refl
long (suc n) x = let rest = long n x in omega arith

new_held : HoldsItsMaps new_tenant
new_held = record {
  descriptors = long {A = Option OpenObject} table.most None;
  handles = long {A = Option Map} most_maps None;
  live_if_named = λ handle e. absurd (true≢false (sym e ∙ no_name table.most handle));
  named_if_live = λ handle some. absurd (not_none some (no_map most_maps handle));
}

-- ---- changed contents of maps

module _ {s : TenantState} (h : HoldsItsMaps s) where
  flag_held : (b : Bool) → HoldsItsMaps (record s { refused = b })
  flag_held b = record {
    descriptors = h.descriptors;
    handles = h.handles;
    live_if_named = h.live_if_named;
    named_if_live = h.named_if_live;
  }

  changed_held : (ms : List (Option Map)) (b : Bool)
      → length ms ≡ length s.maps → SameHandles s.maps ms
      → HoldsItsMaps (record s { maps = ms; refused = b })
  changed_held ms b size same = record {
    descriptors = h.descriptors;
    handles = size ∙ h.handles;
    live_if_named = λ handle e. same handle ∙ h.live_if_named handle e;
    named_if_live = λ handle some. h.named_if_live handle (sym (same handle) ∙ some);
  }

  one_held : (handle : ℕ) (m : Map) → is_named s.objects handle ≡ true → HoldsItsMaps (with_map_at s handle m)
  one_held handle m named =
      changed_held (set s.maps handle (Some m)) s.refused
      (length-set {A = Option Map} s.maps handle (Some m))
      (set_handles s.maps handle (Some m) refl (h.live_if_named handle named))

  -- ---- MAP_CREATE

  -- after a map is created at the lowest free descriptor and a free handle the state holds its maps
  pub created_held : (fd handle : ℕ) (m : Map)
      → table.lowest s.objects ≡ Some fd → IsFree s handle
      → HoldsItsMaps (with_new_map s fd handle m)
  created_held fd handle m low free = record {
    descriptors =
        length-set {A = Option OpenObject} s.objects (fd - table.first_descriptor) (Some (object.Map handle))
        ∙ h.descriptors;
    handles = length-set {A = Option Map} s.maps handle (Some m) ∙ h.handles;
    live_if_named = λ p e.
        live_p p
        (or_parts (handle == p) (is_named s.objects p) (sym (named_is p) ∙ e))
        (set_by_index s.maps handle p (Some m) free.within);
    named_if_live = λ p some. named_is p ∙ named_p p some (set_by_index s.maps handle p (Some m) free.within);
  }
    where
      named_is : (p : ℕ)
          → is_named (table.with_open s.objects fd (object.Map handle)) p ≡ (handle == p || is_named s.objects p)
      named_is p =
          let (within, none) = descriptor_free s.objects fd low in
          named_open s.objects (fd - table.first_descriptor) (object.Map handle) p within none

      live_p : (p : ℕ)
          → ((handle == p) ≡ true) ⊎ (is_named s.objects p ≡ true)
          → SetAt s.maps handle m p
          → IsSome (get_or (set s.maps handle (Some m)) p None)
      live_p p named (inl (at, e)) = there_is e
      live_p p (inl same) (inr (other, e)) = absurd (other (sym (eqb-true handle p same)))
      live_p p (inr named) (inr (other, e)) = ap is_some e ∙ h.live_if_named p named

      named_p : (p : ℕ)
          → IsSome (get_or (set s.maps handle (Some m)) p None)
          → SetAt s.maps handle m p
          → (handle == p || is_named s.objects p) ≡ true
      named_p p some (inl (at, e)) = or_left (handle == p) (is_named s.objects p) (eq-eqb handle p (sym at))
      named_p p some (inr (other, e)) =
          or_right (handle == p) (is_named s.objects p) (h.named_if_live p (sym (ap is_some e) ∙ some))

  create_held : (refused : Bool) (r : Result MapShape Errno) → HoldsItsMaps (created refused s r).after
  create_held refused (Err errno) = h
  create_held refused (Ok shape) = under (table.lowest s.objects) refl
    where
      at_handle : (refused : Bool) (fd handle : ℕ)
          → table.lowest s.objects ≡ Some fd → IsFree s handle
          → HoldsItsMaps (created_at refused s shape fd handle).after
      at_handle true fd handle low free = flag_held true
      at_handle false fd handle low free = created_held fd handle (new_map shape) low free

      free_of : (o : Option ℕ)
          → (full : Bool) (handle : ℕ) → ((handle : ℕ) → o ≡ Some handle → IsFree s handle)
          → (if full then None else o) ≡ Some handle
          → IsFree s handle
      free_of o true handle free e = absurd (none-some handle e)
      free_of o false handle free e = free handle e

      room : (fd : ℕ) (o : Option ℕ)
          → table.lowest s.objects ≡ Some fd → room_for s (shape_area shape) ≡ o
          → HoldsItsMaps (created_as refused s shape fd o).after
      room fd None low is = h
      room fd (Some handle) low is =
          at_handle refused fd handle low (free_of (position is_none s.maps) _ handle (free_at s) is)

      under : (o : Option ℕ) → table.lowest s.objects ≡ o → HoldsItsMaps (created_under refused s shape o).after
      under None low = h
      under (Some fd) low = room fd (room_for s (shape_area shape)) low refl

  -- ---- the calls of a map

  if_held : (x : Bool) (a b : Answer)
      → HoldsItsMaps a.after → HoldsItsMaps b.after
      → HoldsItsMaps (if x then a else b).after
  if_held true a b p q = p
  if_held false a b p q = q

  on_map_held : (fd : ℕ) (f : ℕ → Map → Answer)
      → ((handle : ℕ) (m : Map) → is_named s.objects handle ≡ true → HoldsItsMaps (f handle m).after)
      → HoldsItsMaps (on_map s fd f).after
  on_map_held fd f each = by (table.named s.objects fd) refl
    where
      there : (handle : ℕ) (o : Option Map)
          → is_named s.objects handle ≡ true → HoldsItsMaps (of_handle s handle f o).after
      there handle None named = h
      there handle (Some m) named = each handle m named

      by : (o : Option OpenObject) → table.named s.objects fd ≡ o → HoldsItsMaps (of_object s f o).after
      by None is = h
      by (Some (object.Program l)) is = h
      by (Some (object.Map handle)) is = there handle (live s handle) (named_handle_is_named s.objects fd handle is)

  found_held : (o : Option (List ℕ)) → HoldsItsMaps (gives_or_no_entry s o).after
  found_held None = h
  found_held (Some value) = h

  put_held : (handle : ℕ) (m : Map) (key value : List ℕ) (v : call.Verdict (List ℕ))
      → is_named s.objects handle ≡ true → HoldsItsMaps (element_put s handle m key value v).after
  put_held handle m key value (call.Refused fault) named = h
  put_held handle m key value (call.Present old) named = one_held handle (with_object m key value) named
  put_held handle m key value call.New named = one_held handle (with_new m key value) named

  taken_held : (handle : ℕ) (m : Map) (key : List ℕ) (r : Result (List ℕ) MapFault)
      → is_named s.objects handle ≡ true → HoldsItsMaps (element_taken_out s handle m key r).after
  taken_held handle m key (Err fault) named = h
  taken_held handle m key (Ok value) named = one_held handle (after_run (with_deleted m key)) named

  -- ---- PROG_LOAD

  -- after a program whose maps are named is opened the state still holds its maps
  pub opened_held : (fd : ℕ) (l : LoadedProgram)
      → table.lowest s.objects ≡ Some fd
      → ((p : ℕ) → list_any (λ m. m.1 == p) l.maps ≡ true → is_named s.objects p ≡ true)
      → HoldsItsMaps (record s { objects = table.with_open s.objects fd (object.Program l) })
  opened_held fd l low named = record {
    descriptors =
        length-set {A = Option OpenObject} s.objects (fd - table.first_descriptor) (Some (object.Program l))
        ∙ h.descriptors;
    handles = h.handles;
    live_if_named = λ p e.
        h.live_if_named p (was p (or_parts (names p (object.Program l)) (is_named s.objects p) (sym (named_is p) ∙ e)));
    named_if_live = λ p some.
        named_is p ∙ or_right (names p (object.Program l)) (is_named s.objects p) (h.named_if_live p some);
  }
    where
      named_is : (p : ℕ)
          → is_named (table.with_open s.objects fd (object.Program l)) p
          ≡ (names p (object.Program l) || is_named s.objects p)
      named_is p =
          let (within, none) = descriptor_free s.objects fd low in
          named_open s.objects (fd - table.first_descriptor) (object.Program l) p within none

      was : (p : ℕ) → (names p (object.Program l) ≡ true) ⊎ (is_named s.objects p ≡ true) → is_named s.objects p ≡ true
      was p (inl e) = named p e
      was p (inr e) = e

  judged_held : (fd : ℕ) (j : Result (List Insn) Refusal)
      → table.lowest s.objects ≡ Some fd → HoldsItsMaps (result_of_judgement s fd j).after
  judged_held fd (Err refusal) low = h
  judged_held fd (Ok insns) low =
      opened_held fd (loaded_program s insns) low (λ p e. handles_named s.objects (maps_of insns) p e)

  loads_held : (refused : Bool) (kind : ℕ) (slots : List ℕ) (a : Answer)
      → Loads refused s kind slots a → HoldsItsMaps a.after
  loads_held refused kind slots a is = by (kind == 1) is
    where
      held_as : (x : Answer) → a ≡ x → HoldsItsMaps x.after → HoldsItsMaps a.after
      held_as x is held = subst (λ (y : Answer). HoldsItsMaps y.after) (sym is) held

      as_seen : (refused : Bool) (fd : ℕ)
          → table.lowest s.objects ≡ Some fd → LoadsAs refused s fd slots a
          → HoldsItsMaps a.after
      as_seen true fd low is = held_as _ is (flag_held true)
      as_seen false fd low (j, judges, is) = held_as _ is (judged_held fd j low)

      under : (o : Option ℕ) → table.lowest s.objects ≡ o → LoadsUnder refused s o slots a → HoldsItsMaps a.after
      under None low is = held_as _ is h
      under (Some fd) low is = as_seen refused fd low is

      by : (socket : Bool)
          → MatchBool socket (LoadsUnder refused s (table.lowest s.objects) slots a) (a ≡ refuses Invalid s)
          → HoldsItsMaps a.after
      by true is = under (table.lowest s.objects) refl is
      by false is = held_as _ is h

  -- ---- PROG_TEST_RUN

  left_held : (l : LoadedProgram) (left : MapsByDescriptor)
      → ((handle : ℕ) → list_any (λ m. m.1 == handle) l.maps ≡ true → is_named s.objects handle ≡ true)
      → ((fd : ℕ) → is_some (left fd) ≡ is_some (maps_given s l fd))
      → (o : Outcome)
      → HoldsItsMaps (outcome_result o (record s { maps = maps_left left l.maps s.maps })).after
  left_held l left named same (Value n) =
      changed_held (maps_left left l.maps s.maps) s.refused (length_left left l.maps s.maps)
      (left_handles left l.maps s.maps (program_left l h named left same))
  left_held l left named same Fault =
      changed_held (maps_left left l.maps s.maps) s.refused (length_left left l.maps s.maps)
      (left_handles left l.maps s.maps (program_left l h named left same))

  run_held : (words packet : List ℕ) (o : Option OpenObject)
      → ((l : LoadedProgram) → o ≡ Some (object.Program l) → (handle : ℕ)
      → list_any (λ m. m.1 == handle) l.maps ≡ true → is_named s.objects handle ≡ true)
      → HoldsItsMaps (run_of s words packet o).after
  run_held words packet None named = h
  run_held words packet (Some (object.Map handle)) named = h
  run_held words packet (Some (object.Program l)) named =
      if_held (nat_lt longest_packet (length packet)) _ _ h
      (left_held l
      (left_of l.insns (maps_given s l) (length packet ∷ words) packet)
      (named l refl)
      (left_same l.insns (maps_given s l) (length packet ∷ words) packet)
      (result_of l.insns (maps_given s l) (length packet ∷ words) packet))

  -- ---- every command

  close_held : (fd : ℕ) (o : Option OpenObject) → HoldsItsMaps (closed s fd o).after
  close_held fd None = h
  close_held fd (Some o) =
      fewer_held h (table.with_closed s.objects fd) (closed_length s.objects fd) (closed_fewer s.objects fd)

  as_held : (a x : Answer) → a ≡ x → HoldsItsMaps x.after → HoldsItsMaps a.after
  as_held a x is held = subst (λ (y : Answer). HoldsItsMaps y.after) (sym is) held

  answer_held : (refused : Bool) (command : Command) (a : Answer) → Answers refused s command a → HoldsItsMaps a.after
  answer_held refused (map_create kind key value max flags) a is =
      as_held a _ is (create_held refused (asked_shape (kind_of kind) key value max flags))
  answer_held refused (map_lookup fd key) a is =
      as_held a _ is
      (on_map_held fd _ (λ handle m named. if_held (length key == m.shape.key_size) _ _ (found_held (look_up m key)) h))
  answer_held refused (map_update fd flags bytes) a is =
      as_held a _ is
      (on_map_held fd _
      (λ handle m named. if_held (length bytes == m.shape.key_size + m.shape.value_size) _ _
      (put_held handle m (take m.shape.key_size bytes) (drop m.shape.key_size bytes)
      (verdict m (take m.shape.key_size bytes) flags) named)
      h))
  answer_held refused (map_delete fd key) a is =
      as_held a _ is
      (on_map_held fd _
      (λ handle m named. if_held (length key == m.shape.key_size) _ _ (taken_held handle m key (removal m key) named) h))
  answer_held refused (map_next_key fd key) a is =
      as_held a _ is
      (on_map_held fd _
      (λ handle m named. if_held (length key == 0 || length key == m.shape.key_size) _ _ (found_held (next_of m key)) h))
  answer_held refused (prog_load kind slots) a is = loads_held refused kind slots a is
  answer_held refused (prog_test_run fd words packet) a is =
      as_held a _ is
      (run_held words packet (table.named s.objects fd)
      (λ l here handle e.
      named_by s.objects (fd - table.first_descriptor) (object.Program l) handle
      (stands_at s.objects fd (object.Program l) here) e))
  answer_held refused (close fd) a is = as_held a _ is (close_held fd (table.named s.objects fd))

pub maps_are_held : MapsAreHeld
maps_are_held = record { new = new_held; kept = λ refused s command a h is. answer_held h refused command a is }
