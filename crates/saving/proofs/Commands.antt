-- Two states that are alike give the same reply to each command, and are alike after it.
use Rattle.std.proofs.Common.{◌≡◌, ℕ, ◌+◌, ◌-◌, Bool, true, false, List, [], ◌∷◌, length, take, drop, Option}
use Rattle.std.proofs.Common.{Some, None, Result, Ok, Err, is_some, refl, sym, ap, ap₂, subst, ◌∙◌, inl, inr}
use Rattle.std.specs.Prelude.{◌==◌, ◌||◌, pos, nat_lt, option_map, if◌then◌else◌, MatchBool}
use Rattle.std.specs.List.{list_any}
use Rattle.std.specs.Map.{lookup}
use Rattle.std.proofs.Math.Path.{fun_ext}
use Rattle.std.proofs.lemmas.Map.Made.{lookup-map_values}
use Rattle.command_frames.specs.Command.{Command, map_create, map_lookup, map_update, map_delete, map_next_key, prog_load, prog_test_run, close}
use Rattle.fd_table.specs.Table as table
use Rattle.tagged_model.specs.declared.fault.MapFault.{MapFault}
use Rattle.tagged_model.specs.declared.shape.MapShape.{MapShape}
use Rattle.tagged_model.specs.declared.shape.Named.{Named}
use Rattle.tagged_model.specs.declared.value.Outcome.{Outcome}
use Rattle.tagged_model.specs.declared.value.Outcome.TheVariants.{Value, Fault}
use Rattle.tagged_model.specs.Cells.{and_then}
use Rattle.tagged_model.specs.State.{set_at}
use Rattle.tagged_model.specs.Step.{MapsByDescriptor, result_of, left_of}
use Rattle.tagged_model.specs.Table as call
use Rattle.tagged_model.specs.Table.{look_up, verdict, removal, next_of, with_new, with_object, with_deleted, after_run, shape_area}
use Rattle.verifier.specs.Maps.{maps_of, objects_at}
use Rattle.tenant.specs.declared.errno.Errno.{Errno}
use Rattle.tenant.specs.declared.errno.Errno.TheVariants.{NoEntry, TooBig, BadDescriptor, Invalid, TooManyOpen, NoSpace}
use Rattle.tenant.specs.declared.object.OpenObject.{OpenObject}
use Rattle.tenant.specs.declared.object.OpenObject.TheVariants as object
use Rattle.tenant.specs.Loaded.{LoadedProgram}
use Rattle.tenant.specs.Errno.{status_of, map_errno}
use Rattle.tenant.specs.State.{Map, TenantState, live, is_named, with_map_at, with_objects}
use Rattle.insn_set.specs.declared.insn.Insn.{Insn}
use Rattle.verifier.specs.declared.refusal.Refusal.{Refusal}
use Rattle.verifier.specs.Judgement.{Judges}
use Rattle.tenant.specs.Machine.{Answer, refuses, refuses_for_memory, gives, opens, kind_of, asked_shape, new_map, room_for, created_at}
use Rattle.tenant.specs.Machine.{created_as, created_under, created, of_handle, of_object, on_map, gives_or_no_entry, element_put}
use Rattle.tenant.specs.Machine.{element_taken_out, targets, targets_from, handles_from, loaded_program, result_of_judgement, LoadsAs}
use Rattle.tenant.specs.Machine.{LoadsUnder, Loads, longest_packet, maps_given, maps_left, outcome_result, ran, run_of, closed, Answers}
use Rattle.saving.specs.Alike.{moved_maps, moved_object, IsMovedBy, IsAlikeResult}
use Rattle.saving.specs.Laws.{AlikeIsBisimulation}
use Rattle.saving.proofs.Moved.{named_moved, lowest_moved, open_moved, closed_moved, named_by}
use Rattle.saving.proofs.Moved.{stands_at, named_handle_is_named, lookup_names, targets_moved, handles_moved}
use Rattle.saving.proofs.Pairs.{ArePair, same_named, unchanged, any_flag, changed, changed_one, created_pair, SameRoom, same_room_for, IsFree}
use Rattle.saving.proofs.RunMaps.{left_same}
use Rattle.saving.proofs.Left.{AreLeft, program_left, left_handles, left_moved}
use Rattle.saving.proofs.Closes.{closed_fewer, fewer_pair}

-- the state names the maps of a program
abbrev IsIn : TenantState → LoadedProgram → Type 0
IsIn s l = (handle : ℕ) → list_any (λ m. m.1 == handle) l.maps ≡ true → is_named s.objects handle ≡ true

-- the state names the maps of each of its programs
program_in : (s : TenantState) (fd : ℕ) (l : LoadedProgram)
    → table.named s.objects fd ≡ Some (object.Program l) → IsIn s l
program_in s fd l is handle e =
    named_by s.objects (fd - table.first_descriptor) (object.Program l) handle
    (stands_at s.objects fd (object.Program l) is) e

module _ {move : ℕ → ℕ} {s t : TenantState} (h : ArePair move s t) where
  refused_too : (errno : Errno) → IsAlikeResult (refuses errno s) (refuses errno t)
  refused_too errno = unchanged h (status_of errno) []

  no_memory : IsAlikeResult (refuses_for_memory s) (refuses_for_memory t)
  no_memory = record { status = refl; payload = refl; after = (move, any_flag h.by true true) }

  given_too : (payload : List ℕ) → IsAlikeResult (gives payload s) (gives payload t)
  given_too payload = unchanged h (pos 0) payload

  if_too : {a b c d : Answer} (x : Bool)
      → IsAlikeResult a b → IsAlikeResult c d
      → IsAlikeResult (if x then a else c) (if x then b else d)
  if_too true p q = p
  if_too false p q = q

  -- ---- MAP_CREATE

  created_too : (refused : Bool) (r : Result MapShape Errno) → IsAlikeResult (created refused s r) (created refused t r)
  created_too refused (Err errno) = refused_too errno
  created_too refused (Ok shape) =
      subst (λ (o : Option ℕ).
      IsAlikeResult (created_under refused s shape (table.lowest s.objects)) (created_under refused t shape o))
      (sym (lowest_moved move s.objects) ∙ sym (ap table.lowest h.by.objects))
      (under (table.lowest s.objects))
    where
      at_handles : (refused : Bool) (fd p q : ℕ)
          → IsFree s p → IsFree t q
          → IsAlikeResult (created_at refused s shape fd p) (created_at refused t shape fd q)
      at_handles true fd p q a b = no_memory
      at_handles false fd p q a b = record {
        status = refl;
        payload = refl;
        after = (set_at move p q, created_pair h fd p q (new_map shape) a b);
      }

      room : (fd : ℕ)
          → SameRoom s t (shape_area shape)
          → IsAlikeResult (created_as refused s shape fd (room_for s (shape_area shape)))
          (created_as refused t shape fd (room_for t (shape_area shape)))
      room fd (inl (a, b)) = simp (a, b) (refused_too NoSpace)
      room fd (inr (p, q, a, b, free_p, free_q)) = simp (a, b) (at_handles refused fd p q free_p free_q)

      under : (o : Option ℕ) → IsAlikeResult (created_under refused s shape o) (created_under refused t shape o)
      under None = refused_too TooManyOpen
      under (Some fd) = room fd (same_room_for h (shape_area shape))

  -- ---- the calls of a map

  on_map_too : (fd : ℕ) (f g : ℕ → Map → Answer)
      → ((handle : ℕ) (m : Map) → is_named s.objects handle ≡ true → IsAlikeResult (f handle m) (g (move handle) m))
      → IsAlikeResult (on_map s fd f) (on_map t fd g)
  on_map_too fd f g each =
      subst (λ (o : Option OpenObject). IsAlikeResult (on_map s fd f) (of_object t g o))
      (sym (named_moved move s.objects fd)
      ∙ sym (ap (λ (os : List (Option OpenObject)). table.named os fd) h.by.objects))
      (by (table.named s.objects fd) refl)
    where
      there : (handle : ℕ) (o : Option Map)
          → is_named s.objects handle ≡ true
          → IsAlikeResult (of_handle s handle f o) (of_handle t (move handle) g o)
      there handle None named = refused_too BadDescriptor
      there handle (Some m) named = each handle m named

      by : (o : Option OpenObject)
          → table.named s.objects fd ≡ o
          → IsAlikeResult (of_object s f o) (of_object t g (option_map (moved_object move) o))
      by None is = refused_too BadDescriptor
      by (Some (object.Program l)) is = refused_too Invalid
      by (Some (object.Map handle)) is =
          let named = named_handle_is_named s.objects fd handle is in
          subst (λ (o : Option Map).
          IsAlikeResult (of_handle s handle f (live s handle)) (of_handle t (move handle) g o))
          (sym (same_named h handle named)) (there handle (live s handle) named)

  found_too : (o : Option (List ℕ)) → IsAlikeResult (gives_or_no_entry s o) (gives_or_no_entry t o)
  found_too None = refused_too NoEntry
  found_too (Some value) = given_too value

  one_too : (handle : ℕ) (m : Map)
      → is_named s.objects handle ≡ true
      → IsAlikeResult (gives [] (with_map_at s handle m)) (gives [] (with_map_at t (move handle) m))
  one_too handle m named = record { status = refl; payload = refl; after = (move, changed_one h handle m named) }

  put_too : (handle : ℕ) (m : Map) (key value : List ℕ) (v : call.Verdict (List ℕ)) → is_named s.objects handle ≡ true
      → IsAlikeResult (element_put s handle m key value v) (element_put t (move handle) m key value v)
  put_too handle m key value (call.Refused fault) named = refused_too (map_errno fault)
  put_too handle m key value (call.Present old) named = one_too handle (with_object m key value) named
  put_too handle m key value call.New named = one_too handle (with_new m key value) named

  taken_too : (handle : ℕ) (m : Map) (key : List ℕ) (r : Result (List ℕ) MapFault)
      → is_named s.objects handle ≡ true
      → IsAlikeResult (element_taken_out s handle m key r) (element_taken_out t (move handle) m key r)
  taken_too handle m key (Err fault) named = refused_too (map_errno fault)
  taken_too handle m key (Ok value) named = one_too handle (after_run (with_deleted m key)) named

  -- ---- PROG_LOAD

  same_targets : targets t ≡ targets s
  same_targets =
      ap (targets_from t table.first_descriptor) h.by.objects
      ∙ targets_moved move s t table.first_descriptor s.objects (same_named h)

  opened_too : (fd : ℕ) (l k : LoadedProgram)
      → object.Program k ≡ moved_object move (object.Program l)
      → IsAlikeResult (opens fd (record s { objects = table.with_open s.objects fd (object.Program l) }))
      (opens fd (record t { objects = table.with_open t.objects fd (object.Program k) }))
  opened_too fd l k is = record {
    status = refl;
    payload = refl;
    after = (
      move,
      record {
        objects =
            ap₂ (λ (os : List (Option OpenObject)) (o : OpenObject). table.with_open os fd o) h.by.objects is
            ∙ sym (open_moved move s.objects fd (object.Program l));
        same = h.by.same;
        apart = h.by.apart;
        only = h.by.only;
      },
    );
  }

  judged_too : (fd : ℕ) (j : Result (List Insn) Refusal)
      → IsAlikeResult (result_of_judgement s fd j) (result_of_judgement t fd j)
  judged_too fd (Err refusal) = unchanged h _ _
  judged_too fd (Ok insns) =
      opened_too fd (loaded_program s insns) (loaded_program t insns)
      (ap₂ (λ (ns : List Named) (ms : List (ℕ × ℕ)). object.Program (record { insns = insns; named = ns; maps = ms }))
      (ap (objects_at (maps_of insns)) same_targets)
      (ap (λ (os : List (Option OpenObject)). handles_from os (maps_of insns)) h.by.objects
      ∙ handles_moved move s.objects (maps_of insns)))

  loads_as_too : (refused : Bool) (fd : ℕ) (slots : List ℕ) (a : Answer)
      → LoadsAs refused s fd slots a
      → (b : Answer) × LoadsAs refused t fd slots b × IsAlikeResult a b
  loads_as_too true fd slots a is = (
    refuses_for_memory t,
    refl,
    subst (λ (x : Answer). IsAlikeResult x (refuses_for_memory t)) (sym is) no_memory,
  )
  loads_as_too false fd slots a (j, judges, is) = (
    result_of_judgement t fd j,
    (j, subst (λ (ns : List Named). Judges ns slots j) (sym same_targets) judges, refl),
    subst (λ (x : Answer). IsAlikeResult x (result_of_judgement t fd j)) (sym is) (judged_too fd j),
  )

  loads_under_too : (refused : Bool) (o : Option ℕ) (slots : List ℕ) (a : Answer)
      → LoadsUnder refused s o slots a
      → (b : Answer) × LoadsUnder refused t o slots b × IsAlikeResult a b
  loads_under_too refused None slots a is = (
    refuses TooManyOpen t,
    refl,
    subst (λ (x : Answer). IsAlikeResult x (refuses TooManyOpen t)) (sym is) (refused_too TooManyOpen),
  )
  loads_under_too refused (Some fd) slots a is = loads_as_too refused fd slots a is

  loads_too : (refused : Bool) (kind : ℕ) (slots : List ℕ) (a : Answer)
      → Loads refused s kind slots a
      → (b : Answer) × Loads refused t kind slots b × IsAlikeResult a b
  loads_too refused kind slots a is = by (kind == 1) is
    where
      low : table.lowest s.objects ≡ table.lowest t.objects
      low = sym (ap table.lowest h.by.objects ∙ lowest_moved move s.objects)

      by : (socket : Bool)
          → MatchBool socket (LoadsUnder refused s (table.lowest s.objects) slots a) (a ≡ refuses Invalid s)
          → (b : Answer)
          × MatchBool socket (LoadsUnder refused t (table.lowest t.objects) slots b) (b ≡ refuses Invalid t)
          × IsAlikeResult a b
      by true is =
          let (b, answers, alike) = loads_under_too refused (table.lowest s.objects) slots a is in
          (b, subst (λ (o : Option ℕ). LoadsUnder refused t o slots b) low answers, alike)
      by false is = (
        refuses Invalid t,
        refl,
        subst (λ (x : Answer). IsAlikeResult x (refuses Invalid t)) (sym is) (refused_too Invalid),
      )

  -- ---- PROG_TEST_RUN

  same_given : (l : LoadedProgram)
      → IsIn s l → maps_given t (record l { maps = moved_maps move l.maps }) ≡ maps_given s l
  same_given l named =
      fun_ext (λ fd.
      ap (λ (o : Option ℕ). and_then o (live t)) (lookup-map_values move (λ m. m == fd) l.maps)
      ∙ by fd (lookup (λ m. m == fd) l.maps) refl)
    where
      by : (fd : ℕ) (o : Option ℕ)
          → lookup (λ m. m == fd) l.maps ≡ o
          → and_then (option_map move o) (live t) ≡ and_then o (live s)
      by fd None is = refl
      by fd (Some handle) is = same_named h handle (named handle (lookup_names l.maps fd handle is))

  -- the reply to a run that leaves these maps
  abbrev came_to : Outcome → TenantState → MapsByDescriptor → LoadedProgram → Answer
  came_to o u left l = outcome_result o (record u { maps = maps_left left l.maps u.maps })

  abbrev with_moved : LoadedProgram → LoadedProgram
  with_moved l = record l { maps = moved_maps move l.maps }

  came_too : (l : LoadedProgram)
      → IsIn s l → IsIn t (with_moved l)
      → (left : MapsByDescriptor) → ((fd : ℕ) → is_some (left fd) ≡ is_some (maps_given s l fd))
      → (o : Outcome) → IsAlikeResult (came_to o s left l) (came_to o t left (with_moved l))
  came_too l named named_too left same o = by o
    where
      handles : AreLeft left l.maps s.maps
      handles = program_left l h.one named left same

      handles_too : AreLeft left (moved_maps move l.maps) t.maps
      handles_too =
          program_left (with_moved l) h.two named_too left
          (λ fd. same fd ∙ sym (ap (λ (given : MapsByDescriptor). is_some (given fd)) (same_given l named)))

      moved : IsMovedBy move (record s { maps = maps_left left l.maps s.maps })
          (record t { maps = maps_left left (moved_maps move l.maps) t.maps })
      moved =
          changed h (maps_left left l.maps s.maps) (maps_left left (moved_maps move l.maps) t.maps) s.refused t.refused
          (left_handles left l.maps s.maps handles)
          (left_handles left (moved_maps move l.maps) t.maps handles_too)
          (λ p e.
          left_moved move left l.maps s.maps t.maps p handles handles_too
          (λ q listed at. h.by.apart q p (h.one.live_if_named q (named q listed)) (h.one.live_if_named p e) at)
          (same_named h p e))

      by : (o : Outcome) → IsAlikeResult (came_to o s left l) (came_to o t left (with_moved l))
      by (Value n) = record { status = refl; payload = refl; after = (move, moved) }
      by Fault = record { status = refl; payload = refl; after = (move, moved) }

  ran_too : (l : LoadedProgram) (words packet : List ℕ)
      → IsIn s l → IsIn t (with_moved l)
      → IsAlikeResult (ran s l words packet) (ran t (with_moved l) words packet)
  ran_too l words packet named named_too =
      let context = length packet ∷ words in
      subst
      (λ (given : MapsByDescriptor).
      IsAlikeResult (ran s l words packet)
      (came_to (result_of l.insns given context packet) t (left_of l.insns given context packet) (with_moved l)))
      (sym (same_given l named))
      (came_too l named named_too (left_of l.insns (maps_given s l) context packet)
      (left_same l.insns (maps_given s l) context packet)
      (result_of l.insns (maps_given s l) context packet))

  run_too : (words packet : List ℕ) (o : Option OpenObject)
      → ((l : LoadedProgram) → o ≡ Some (object.Program l) → IsIn s l × IsIn t (with_moved l))
      → IsAlikeResult (run_of s words packet o) (run_of t words packet (option_map (moved_object move) o))
  run_too words packet None named = refused_too BadDescriptor
  run_too words packet (Some (object.Map handle)) named = refused_too Invalid
  run_too words packet (Some (object.Program l)) named =
      let both = named l refl in
      if_too (nat_lt longest_packet (length packet)) (refused_too TooBig) (ran_too l words packet both.0 both.1)

  -- ---- CLOSE

  closed_too : (fd : ℕ) (o : Option OpenObject)
      → IsAlikeResult (closed s fd o) (closed t fd (option_map (moved_object move) o))
  closed_too fd None = refused_too BadDescriptor
  closed_too fd (Some o) = record {
    status = refl;
    payload = refl;
    after = (
      move,
      subst (λ (os : List (Option OpenObject)).
          IsMovedBy move (with_objects s (table.with_closed s.objects fd)) (with_objects t os))
          (closed_moved move s.objects fd
          ∙ sym (ap (λ (os : List (Option OpenObject)). table.with_closed os fd) h.by.objects))
          (fewer_pair h (table.with_closed s.objects fd) (closed_fewer s.objects fd)),
    );
  }

  -- ---- every command

  abbrev AnswersToo : Bool → Command → Answer → Type 0
  AnswersToo refused command a = (b : Answer) × Answers refused t command b × IsAlikeResult a b

  moved_named : (fd : ℕ) → option_map (moved_object move) (table.named s.objects fd) ≡ table.named t.objects fd
  moved_named fd =
      sym (ap (λ (os : List (Option OpenObject)). table.named os fd) h.by.objects ∙ named_moved move s.objects fd)

  -- a reply that is a function of the state
  as_seen : (a x y : Answer) → a ≡ x → IsAlikeResult x y → (b : Answer) × (b ≡ y) × IsAlikeResult a b
  as_seen a x y is alike = (y, refl, subst (λ (z : Answer). IsAlikeResult z y) (sym is) alike)

  answers_too : (refused : Bool) (command : Command) (a : Answer)
      → Answers refused s command a → AnswersToo refused command a
  answers_too refused (map_create kind key value max flags) a is =
      as_seen a _ _ is (created_too refused (asked_shape (kind_of kind) key value max flags))
  answers_too refused (map_lookup fd key) a is =
      as_seen a _ _ is
      (on_map_too fd _ _
      (λ handle m named. if_too (length key == m.shape.key_size) (found_too (look_up m key)) (refused_too Invalid)))
  answers_too refused (map_update fd flags bytes) a is =
      as_seen a _ _ is
      (on_map_too fd _ _
      (λ handle m named. if_too (length bytes == m.shape.key_size + m.shape.value_size)
      (put_too handle m (take m.shape.key_size bytes) (drop m.shape.key_size bytes)
      (verdict m (take m.shape.key_size bytes) flags) named)
      (refused_too Invalid)))
  answers_too refused (map_delete fd key) a is =
      as_seen a _ _ is
      (on_map_too fd _ _
      (λ handle m named.
      if_too (length key == m.shape.key_size) (taken_too handle m key (removal m key) named) (refused_too Invalid)))
  answers_too refused (map_next_key fd key) a is =
      as_seen a _ _ is
      (on_map_too fd _ _
      (λ handle m named.
      if_too (length key == 0 || length key == m.shape.key_size) (found_too (next_of m key)) (refused_too Invalid)))
  answers_too refused (prog_load kind slots) a is = loads_too refused kind slots a is
  answers_too refused (prog_test_run fd words packet) a is =
      as_seen a _ _ is (subst (λ (o : Option OpenObject).
      IsAlikeResult (run_of s words packet (table.named s.objects fd)) (run_of t words packet o))
      (moved_named fd)
      (run_too words packet (table.named s.objects fd)
      (λ l here. (
        program_in s fd l here,
        program_in t fd (with_moved l) (sym (moved_named fd) ∙ ap (option_map (moved_object move)) here),
      ))))
  answers_too refused (close fd) a is =
      as_seen a _ _ is
      (subst (λ (o : Option OpenObject). IsAlikeResult (closed s fd (table.named s.objects fd)) (closed t fd o))
      (moved_named fd) (closed_too fd (table.named s.objects fd)))

pub alike_is_bisimulation : AlikeIsBisimulation
alike_is_bisimulation refused s t command a one two (move, by) is =
    answers_too (record { one = one; two = two; by = by }) refused command a is
