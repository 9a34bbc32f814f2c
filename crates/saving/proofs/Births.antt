-- Each command preserves the order of births.
use Rattle.std.proofs.Common.{◌≡◌, ◌≢◌, ℕ, zero, suc, ◌+◌, ◌-◌, ◌≤◌, ◌<◌, Bool, true, false, List, [], ◌∷◌, length, set}
use Rattle.std.proofs.Common.{get_or, take, drop, replicate, filter, Option, Some, None, Result, Ok, Err, IsSome, is_some}
use Rattle.std.proofs.Common.{refl, sym, ap, ap₂, subst, ◌∙◌, inl, inr, arith, true≢false, get_or-set_same, get_or-set_other}
use Rattle.std.specs.Prelude.{◌⊎◌, ◌==◌, ◌||◌, pos, nat_lt, is_none, position, option_map, slice_get, if◌then◌else◌, MatchBool}
use Rattle.std.specs.List.{list_any, AllByRecursion}
use Rattle.std.proofs.lemmas.Bool.{cases_eq, eq-eqb, ne_eqb, eqb-true, le-ltb, ltb-false}
use Rattle.std.proofs.lemmas.Option.{none-some, same_Some}
use Rattle.command_frames.specs.Command.{Command, map_create, map_lookup, map_update, map_delete, map_next_key, prog_load, prog_test_run, close}
use Rattle.fd_table.specs.Table as table
use Rattle.tagged_model.specs.declared.shape.MapShape.{MapShape}
use Rattle.tagged_model.specs.declared.fault.MapFault.{MapFault}
use Rattle.tagged_model.specs.declared.value.Outcome.{Outcome}
use Rattle.tagged_model.specs.declared.value.Outcome.TheVariants.{Value, Fault}
use Rattle.tagged_model.specs.Table as call
use Rattle.tagged_model.specs.Table.{look_up, verdict, removal, next_of, shape_area}
use Rattle.tagged_model.specs.Step.{result_of}
use Rattle.verifier.specs.Maps.{maps_of}
use Rattle.tenant.specs.declared.errno.Errno.{Errno}
use Rattle.tenant.specs.declared.errno.Errno.TheVariants.{NotPermitted, NoEntry, TooBig, BadDescriptor, NoMemory}
use Rattle.tenant.specs.declared.errno.Errno.TheVariants.{AccessDenied, BadAddress, Exists, Invalid, TooManyOpen, NoSpace}
use Rattle.tenant.specs.declared.object.OpenObject.{OpenObject}
use Rattle.tenant.specs.declared.object.OpenObject.TheVariants as object
use Rattle.tenant.specs.Errno.{status_of}
use Rattle.tenant.specs.Loaded.{LoadedProgram}
use Rattle.tenant.specs.State.{Map, TenantState, new_tenant, live, is_named, with_objects}
use Rattle.insn_set.specs.declared.insn.Insn.{Insn}
use Rattle.verifier.specs.declared.refusal.Refusal.{Refusal}
use Rattle.tenant.specs.Machine.{Answer, cause_errno, Answers, refuses, refuses_for_memory, kind_of, asked_shape, new_map}
use Rattle.tenant.specs.Machine.{room_for, created_at, created_as, created_under, created, handles_from, named_handle}
use Rattle.tenant.specs.Machine.{loaded_program, result_of_judgement, LoadsAs, LoadsUnder, Loads, closed, on_map, of_object}
use Rattle.tenant.specs.Machine.{of_handle, gives_or_no_entry, element_put, element_taken_out, outcome_result, run_of, longest_packet, maps_given}
use Rattle.saving.specs.Alike.{HoldsItsMaps}
use Rattle.saving.specs.Births.{Birth, OfMap, OfProgram, descriptor_of, birth_of, latest_at, is_of_map, is_of_program, IsBorn}
use Rattle.saving.specs.Births.{AreInOrder, AreBirths, is_open_program, lives, with_birth, with_opened, births_after}
use Rattle.saving.specs.Laws.{MapsAreHeld, BirthsAreKept}
use Rattle.saving.proofs.Lists.{there_is, not_none, set_by_index}
use Rattle.saving.proofs.Moved.{or_parts, or_left, or_right, flattened-get, named_by, stands_at}
use Rattle.saving.proofs.Pairs.{with_new_map, IsFree, free_at}
use Rattle.saving.proofs.Held.{descriptor_free}
use Rattle.saving.proofs.Closes.{closed_fewer, closed_length, fewer_held}
use Rattle.saving.proofs.FewBirths.{few_births}
use Rattle.saving.proofs.Tables.{IsDescriptor}

-- ---- members of a list of births

module _ (s : TenantState) where
  born_map_lives : (bs : List Birth) (handle : ℕ)
      → AreInOrder s bs → list_any (is_of_map handle) bs ≡ true
      → IsSome (live s handle)
  born_map_lives [] handle order e = absurd (true≢false (sym e))
  born_map_lives (b ∷ older) handle order e =
      by (or_parts (is_of_map handle b) (list_any (is_of_map handle) older) e) (born_map_lives older handle order.4)
    where
      here : (b : Birth) → IsBorn s older b → is_of_map handle b ≡ true → IsSome (live s handle)
      here (OfMap p fd) is e = subst (λ (q : ℕ). IsSome (live s q)) (eqb-true p handle e) is.0
      here (OfProgram fd) is e = absurd (true≢false (sym e))

      by : (is_of_map handle b ≡ true) ⊎ (list_any (is_of_map handle) older ≡ true)
          → (list_any (is_of_map handle) older ≡ true → IsSome (live s handle))
          → IsSome (live s handle)
      by (inl e) rest = here b order.3 e
      by (inr e) rest = rest e

  born_program_opens : (bs : List Birth) (fd : ℕ)
      → AreInOrder s bs → list_any (is_of_program fd) bs ≡ true
      → IsSome (table.named s.objects fd)
  born_program_opens [] fd order e = absurd (true≢false (sym e))
  born_program_opens (b ∷ older) fd order e =
      by (or_parts (is_of_program fd b) (list_any (is_of_program fd) older) e) (born_program_opens older fd order.4)
    where
      here : (b : Birth) → IsBorn s older b → is_of_program fd b ≡ true → IsSome (table.named s.objects fd)
      here (OfMap p n) is e = absurd (true≢false (sym e))
      here (OfProgram n) (l, there, maps) e =
          subst (λ (k : ℕ). IsSome (table.named s.objects k)) (eqb-true n fd e) (there_is there)

      by : (is_of_program fd b ≡ true) ⊎ (list_any (is_of_program fd) older ≡ true)
          → (list_any (is_of_program fd) older ≡ true → IsSome (table.named s.objects fd))
          → IsSome (table.named s.objects fd)
      by (inl e) rest = here b order.3 e
      by (inr e) rest = rest e

not_true : (b : Bool) → (b ≡ true → ⊥) → b ≡ false
not_true true h = absurd (h refl)
not_true false h = refl

abbrev bind : Option ℕ → ℕ → List (ℕ × ℕ) → List (ℕ × ℕ)
bind None fd rest = rest
bind (Some handle) fd rest = (fd, handle) ∷ rest

-- ---- the same births in a different state

-- the maps that were live and the programs that were open are still so
pub record KeepsBorn (s t : TenantState) : Type 0 where
  -- a map that was live is live later
  pub maps : (handle : ℕ) → IsSome (live s handle) → IsSome (live t handle)
  -- a program that was open is open at the same descriptor later
  pub programs : (fd : ℕ) (l : LoadedProgram)
      → table.named s.objects fd ≡ Some (object.Program l)
      → table.named t.objects fd ≡ Some (object.Program l)

-- births in order are in order in a state that keeps the live maps and the open programs
pub order_kept : (s t : TenantState) → KeepsBorn s t → (bs : List Birth) → AreInOrder s bs → AreInOrder t bs
order_kept s t keeps [] order = tt
order_kept s t keeps (b ∷ older) (low, high, apart, is, order) = (
  low,
  high,
  apart,
  by b is,
  order_kept s t keeps older order,
)
  where
    by : (b : Birth) → IsBorn s older b → IsBorn t older b
    by (OfMap handle fd) (live_so, new) = (keeps.maps handle live_so, new)
    by (OfProgram fd) (l, there, maps) = (l, keeps.programs fd l there, maps)

-- if the open objects are the same and no map is removed, the births are those of the other state too
pub same_births : (s t : TenantState) (bs : List Birth)
    → t.objects ≡ s.objects
    → ((handle : ℕ) → IsSome (live s handle) → IsSome (live t handle))
    → AreBirths s bs
    → AreBirths t bs
same_births s t bs objects maps are = record {
  order =
      order_kept s t
      (record {
        maps = maps;
        programs = λ fd l there. ap (λ (os : List (Option OpenObject)). table.named os fd) objects ∙ there;
      })
      bs are.order;
  latest = λ fd o there.
      are.latest fd o (ap (λ (os : List (Option OpenObject)). table.named os fd) (sym objects) ∙ there);
}

-- ---- a descriptor that is opened

lowest_low : (objects : List (Option OpenObject)) (fd : ℕ)
    → table.lowest objects ≡ Some fd → table.first_descriptor ≤ fd
lowest_low objects fd e = by (position is_none objects) e
  where
    by : (o : Option ℕ)
        → option_map (λ handle. table.first_descriptor + handle) o ≡ Some fd
        → table.first_descriptor ≤ fd
    by None e = absurd (none-some fd e)
    by (Some n) e = let same = same_Some (3 + n) fd e in omega arith

lowest_descriptor : {s : TenantState} (fd : ℕ) → HoldsItsMaps s → table.lowest s.objects ≡ Some fd → IsDescriptor fd
lowest_descriptor {s} fd h low =
    let (within, free) = descriptor_free s.objects fd low in
    let long = h.descriptors in
    record { low = lowest_low s.objects fd low; high = omega (arith, within) }

named_is : (objects : List (Option OpenObject)) (fd : ℕ)
    → table.first_descriptor ≤ fd
    → table.named objects fd ≡ get_or objects (fd - table.first_descriptor) None
named_is objects fd low =
    ap (λ (b : Bool). if b then None else table.flattened (slice_get objects (fd - table.first_descriptor)))
    (le-ltb fd table.first_descriptor low)
    ∙ flattened-get objects (fd - table.first_descriptor)

-- a descriptor that names an object is at least the first descriptor
pub named_low : (objects : List (Option OpenObject)) (fd : ℕ) (o : OpenObject)
    → table.named objects fd ≡ Some o → table.first_descriptor ≤ fd
named_low objects fd o e = by (nat_lt fd table.first_descriptor) refl e
  where
    by : (b : Bool)
        → nat_lt fd table.first_descriptor ≡ b
        → (if b then None else table.flattened (slice_get objects (fd - table.first_descriptor))) ≡ Some o
        → table.first_descriptor ≤ fd
    by true is e = absurd (none-some o e)
    by false is e = ltb-false fd table.first_descriptor is

-- the object of a descriptor after one is opened: this one, and others
opened_here : (objects : List (Option OpenObject)) (fd : ℕ) (o : OpenObject)
    → table.first_descriptor ≤ fd
    → fd - table.first_descriptor < length objects
    → table.named (table.with_open objects fd o) fd ≡ Some o
opened_here objects fd o low within =
    named_is (table.with_open objects fd o) fd low
    ∙ get_or-set_same objects (fd - table.first_descriptor) (Some o) None within

opened_there : (objects : List (Option OpenObject)) (fd other : ℕ) (o : OpenObject)
    → table.first_descriptor ≤ fd → table.first_descriptor ≤ other
    → other ≢ fd
    → table.named (table.with_open objects fd o) other ≡ table.named objects other
opened_there objects fd other o low low_too apart =
    named_is (table.with_open objects fd o) other low_too
    ∙ get_or-set_other objects (fd - table.first_descriptor) (other - table.first_descriptor)
    (Some o) None (λ e. apart (omega arith))
    ∙ sym (named_is objects other low_too)

-- after an object is opened an open program is this object, or was open at its descriptor before
pub opened_program : (objects : List (Option OpenObject)) (fd n : ℕ) (o : OpenObject) (l : LoadedProgram)
    → table.lowest objects ≡ Some fd
    → table.named (table.with_open objects fd o) n ≡ Some (object.Program l)
    → (o ≡ object.Program l) ⊎ (table.named objects n ≡ Some (object.Program l))
opened_program objects fd n o l low there = by (cases_eq n fd)
  where
    by : (n ≡ fd) ⊎ (n ≡ fd → ⊥) → (o ≡ object.Program l) ⊎ (table.named objects n ≡ Some (object.Program l))
    by (inl same) =
        inl (same_Some o (object.Program l)
        (sym (opened_here objects fd o (lowest_low objects fd low) (descriptor_free objects fd low).0)
        ∙ ap (table.named (table.with_open objects fd o)) (sym same)
        ∙ there))
    by (inr other) =
        inr (sym (opened_there objects fd n o (lowest_low objects fd low)
        (named_low (table.with_open objects fd o) n (object.Program l) there)
        other)
        ∙ there)

module _ {s : TenantState} (h : HoldsItsMaps s) (bs : List Birth) (are : AreBirths s bs) where
  -- a new object is opened, and no map is removed
  module _ (fd : ℕ) (o : OpenObject) (low : table.lowest s.objects ≡ Some fd) where
    free : table.named s.objects fd ≡ None
    free = named_is s.objects fd (lowest_low s.objects fd low) ∙ (descriptor_free s.objects fd low).1

    apart_from : (other : ℕ) (x : OpenObject) → table.named s.objects other ≡ Some x → other ≢ fd
    apart_from other x there e = none-some x (sym (ap (table.named s.objects) e ∙ free) ∙ there)

    still_named : (other : ℕ) (x : OpenObject)
        → table.named s.objects other ≡ Some x
        → table.named (table.with_open s.objects fd o) other ≡ Some x
    still_named other x there =
        opened_there s.objects fd other o (lowest_low s.objects fd low)
        (named_low s.objects other x there) (apart_from other x there)
        ∙ there

    here : table.named (table.with_open s.objects fd o) fd ≡ Some o
    here = opened_here s.objects fd o (lowest_low s.objects fd low) (descriptor_free s.objects fd low).0

    no_program : list_any (is_of_program fd) bs ≡ false
    no_program = not_true (list_any (is_of_program fd) bs) (λ e. not_none (born_program_opens s bs fd are.order e) free)

    opened_births : (ms : List (Option Map)) → let t : TenantState =
        record s { objects = table.with_open s.objects fd o; maps = ms } in
        ((handle : ℕ) → IsSome (live s handle) → IsSome (get_or ms handle None))
        → descriptor_of (birth_of fd o) ≡ fd
        → IsBorn t bs (birth_of fd o)
        → AreBirths t (birth_of fd o ∷ bs)
    opened_births ms maps numbered born_so = record {
      order = (
        subst (λ (n : ℕ). table.first_descriptor ≤ n) (sym numbered) is.low,
        subst (λ (n : ℕ). n < table.first_descriptor + table.most) (sym numbered) is.high,
        ap (λ (n : ℕ). list_any (is_of_program n) bs) numbered ∙ no_program,
        born_so,
        order_kept s
            (record s { objects = table.with_open s.objects fd o; maps = ms })
            (record { maps = maps; programs = λ other l there. still_named other (object.Program l) there })
            bs are.order,
      );
      latest = λ other x there. latest other x there (cases_eq other fd);
    }
      where
        is : IsDescriptor fd
        is = lowest_descriptor fd h low

        latest : (other : ℕ) (x : OpenObject)
            → table.named (table.with_open s.objects fd o) other ≡ Some x
            → (other ≡ fd) ⊎ (other ≡ fd → ⊥)
            → latest_at (birth_of fd o ∷ bs) other ≡ Some (birth_of other x)
        latest other x there (inl same) =
            ap (λ (b : Bool). if b then Some (birth_of fd o) else latest_at bs other)
            (eq-eqb (descriptor_of (birth_of fd o)) other (numbered ∙ sym same))
            ∙ ap₂ (λ (n : ℕ) (y : OpenObject). Some (birth_of n y)) (sym same)
            (same_Some o x (sym here ∙ ap (table.named (table.with_open s.objects fd o)) (sym same) ∙ there))
        latest other x there (inr apart) =
            ap (λ (b : Bool). if b then Some (birth_of fd o) else latest_at bs other)
            (ne_eqb (descriptor_of (birth_of fd o)) other (λ e. apart (sym (sym numbered ∙ e))))
            ∙ are.latest other x
            (sym (opened_there s.objects fd other o (lowest_low s.objects fd low)
            (named_low (table.with_open s.objects fd o) other x there)
            apart)
            ∙ there)

    after_opening : (t : TenantState)
        → t.objects ≡ table.with_open s.objects fd o → AreBirths t (birth_of fd o ∷ bs)
        → AreBirths t (with_opened (pos fd) t bs)
    after_opening t objects are_so =
        subst (λ (x : Option OpenObject). AreBirths t (with_birth fd x bs))
        (sym (ap (λ (os : List (Option OpenObject)). table.named os fd) objects ∙ here))
        are_so

  -- a rejection
  refused_births : (errno : Errno) (t : TenantState) → AreBirths t bs → AreBirths t (with_opened (status_of errno) t bs)
  refused_births NotPermitted t is = is
  refused_births NoEntry t is = is
  refused_births TooBig t is = is
  refused_births BadDescriptor t is = is
  refused_births NoMemory t is = is
  refused_births AccessDenied t is = is
  refused_births BadAddress t is = is
  refused_births Exists t is = is
  refused_births Invalid t is = is
  refused_births TooManyOpen t is = is
  refused_births NoSpace t is = is

  flagged : (b : Bool) → AreBirths (record s { refused = b }) bs
  flagged b = same_births s (record s { refused = b }) bs refl (λ handle some. some) are

  -- ---- MAP_CREATE

  abbrev Born : Answer → Type 0
  Born a = AreBirths a.after (with_opened a.status a.after bs)

  created_births : (refused : Bool) (r : Result MapShape Errno) → Born (created refused s r)
  created_births refused (Err errno) = refused_births errno s are
  created_births refused (Ok shape) = under (table.lowest s.objects) refl
    where
      at_handle : (refused : Bool) (fd handle : ℕ)
          → table.lowest s.objects ≡ Some fd → IsFree s handle
          → Born (created_at refused s shape fd handle)
      at_handle true fd handle low is_free = flagged true
      at_handle false fd handle low is_free =
          after_opening fd (object.Map handle) low (with_new_map s fd handle (new_map shape)) refl
          (opened_births fd (object.Map handle) low (set s.maps handle (Some (new_map shape)))
          (λ p some. still p some (set_by_index s.maps handle p (Some (new_map shape)) is_free.within)) refl (
            there_is (get_or-set_same s.maps handle (Some (new_map shape)) None is_free.within),
            not_true (list_any (is_of_map handle) bs)
                (λ e. not_none (born_map_lives s bs handle are.order e) is_free.none),
          ))
        where
          still : (p : ℕ)
              → IsSome (live s p)
              → ((p ≡ handle) × (get_or (set s.maps handle (Some (new_map shape))) p None ≡ Some (new_map shape)))
              ⊎ ((p ≢ handle) × (get_or (set s.maps handle (Some (new_map shape))) p None ≡ get_or s.maps p None))
              → IsSome (get_or (set s.maps handle (Some (new_map shape))) p None)
          still p some (inl (at, e)) = there_is e
          still p some (inr (other, e)) = ap is_some e ∙ some

      free_of : (o : Option ℕ) (full : Bool) (handle : ℕ)
          → ((handle : ℕ) → o ≡ Some handle → IsFree s handle)
          → (if full then None else o) ≡ Some handle
          → IsFree s handle
      free_of o true handle is_free e = absurd (none-some handle e)
      free_of o false handle is_free e = is_free handle e

      room : (fd : ℕ) (o : Option ℕ)
          → table.lowest s.objects ≡ Some fd → room_for s (shape_area shape) ≡ o
          → Born (created_as refused s shape fd o)
      room fd None low is = are
      room fd (Some handle) low is =
          at_handle refused fd handle low (free_of (position is_none s.maps) _ handle (free_at s) is)

      under : (o : Option ℕ) → table.lowest s.objects ≡ o → Born (created_under refused s shape o)
      under None low = are
      under (Some fd) low = room fd (room_for s (shape_area shape)) low refl

  -- ---- PROG_LOAD

  -- each map of a new program has the latest birth at its descriptor
  maps_born : (fd : ℕ)
      → table.lowest s.objects ≡ Some fd → (fds : List ℕ)
      → AllByRecursion (λ m. (m.0 ≢ fd) × (latest_at bs m.0 ≡ Some (OfMap m.1 m.0))) (handles_from s.objects fds)
  unfolding handles_from
  maps_born fd low [] = tt
  maps_born fd low (n ∷ fds) = by (table.named s.objects n) refl (maps_born fd low fds)
    where
      by : (o : Option OpenObject)
          → table.named s.objects n ≡ o
          → AllByRecursion (λ m. (m.0 ≢ fd) × (latest_at bs m.0 ≡ Some (OfMap m.1 m.0))) (handles_from s.objects fds)
          → AllByRecursion (λ m. (m.0 ≢ fd) × (latest_at bs m.0 ≡ Some (OfMap m.1 m.0)))
          (bind (named_handle o) n (handles_from s.objects fds))
      by None is rest = rest
      by (Some (object.Program l)) is rest = rest
      by (Some (object.Map handle)) is rest = (
        (
          apart_from fd (object.Map handle) low n (object.Map handle) is,
          are.latest n (object.Map handle) is,
        ),
        rest,
      )

  judged_births : (fd : ℕ) (j : Result (List Insn) Refusal)
      → table.lowest s.objects ≡ Some fd → Born (result_of_judgement s fd j)
  judged_births fd (Err refusal) low = refused_births (cause_errno refusal.cause) s are
  judged_births fd (Ok insns) low =
      let l = loaded_program s insns in
      after_opening fd (object.Program l) low
      (record s { objects = table.with_open s.objects fd (object.Program l) })
      refl
      (opened_births fd (object.Program l) low s.maps (λ p some. some) refl
      (l, here fd (object.Program l) low, maps_born fd low (maps_of insns)))

  loads_births : (refused : Bool) (kind : ℕ) (slots : List ℕ) (a : Answer) → Loads refused s kind slots a → Born a
  loads_births refused kind slots a is = by (kind == 1) is
    where
      as_born : (x : Answer) → a ≡ x → Born x → Born a
      as_born x e born_so = subst (λ (y : Answer). Born y) (sym e) born_so

      as_seen : (refused : Bool) (fd : ℕ) → table.lowest s.objects ≡ Some fd → LoadsAs refused s fd slots a → Born a
      as_seen true fd low e = as_born (refuses_for_memory s) e (flagged true)
      as_seen false fd low (j, judges, e) = as_born (result_of_judgement s fd j) e (judged_births fd j low)

      under : (o : Option ℕ) → table.lowest s.objects ≡ o → LoadsUnder refused s o slots a → Born a
      under None low e = as_born (refuses TooManyOpen s) e are
      under (Some fd) low e = as_seen refused fd low e

      by : (socket : Bool)
          → MatchBool socket (LoadsUnder refused s (table.lowest s.objects) slots a) (a ≡ refuses Invalid s)
          → Born a
      by true e = under (table.lowest s.objects) refl e
      by false e = as_born (refuses Invalid s) e are

-- the object of each birth is live
birth_lives : (s : TenantState) (older : List Birth) (b : Birth) → IsBorn s older b → lives s b ≡ true
birth_lives s older (OfMap handle fd) is = is.0
birth_lives s older (OfProgram fd) (l, there, maps) = ap is_open_program there

all_live : (s : TenantState) (bs : List Birth) → AreInOrder s bs → filter (lives s) bs ≡ bs
all_live s [] order = refl
all_live s (b ∷ older) order =
    ap (λ (x : Bool). if x then b ∷ filter (lives s) older else filter (lives s) older) (birth_lives s older b order.3)
    ∙ ap (λ (bs : List Birth). b ∷ bs) (all_live s older order.4)

-- ---- CLOSE

latest_filter : (p : Birth → Bool) (bs : List Birth) (fd : ℕ) (b : Birth)
    → latest_at bs fd ≡ Some b → p b ≡ true → latest_at (filter p bs) fd ≡ Some b
latest_filter p [] fd b e is = absurd (none-some b e)
latest_filter p (x ∷ older) fd b e is = by (p x) (descriptor_of x == fd) refl refl e (λ f. latest_filter p older fd b f is)
  where
    by : (kept here : Bool)
        → p x ≡ kept → (descriptor_of x == fd) ≡ here
        → (if here then Some x else latest_at older fd) ≡ Some b
        → (latest_at older fd ≡ Some b → latest_at (filter p older) fd ≡ Some b)
        → latest_at (if kept then x ∷ filter p older else filter p older) fd ≡ Some b
    by true true k h e rest = ap (λ (c : Bool). if c then Some x else latest_at (filter p older) fd) h ∙ e
    by true false k h e rest = ap (λ (c : Bool). if c then Some x else latest_at (filter p older) fd) h ∙ rest e
    by false true k h e rest = absurd (true≢false (sym (ap p (same_Some x b e) ∙ is) ∙ k))
    by false false k h e rest = rest e

any_filter : (p q : Birth → Bool) (bs : List Birth) → list_any q bs ≡ false → list_any q (filter p bs) ≡ false
any_filter p q [] e = refl
any_filter p q (x ∷ older) e = by (p x) (q x) refl e (any_filter p q older)
  where
    by : (kept here : Bool)
        → q x ≡ here → (here || list_any q older) ≡ false
        → (list_any q older ≡ false → list_any q (filter p older) ≡ false)
        → list_any q (if kept then x ∷ filter p older else filter p older) ≡ false
    by kept true h e rest = absurd (true≢false e)
    by true false h e rest = ap (λ (c : Bool). c || list_any q (filter p older)) h ∙ rest e
    by false false h e rest = rest e

-- an element that is not removed is not changed
unset : (xs : List (Option OpenObject)) (n i : ℕ)
    → (get_or (set xs n None) i None ≡ None) ⊎ (get_or (set xs n None) i None ≡ get_or xs i None)
unset [] n i = inr refl
unset (x ∷ xs) zero zero = inl refl
unset (x ∷ xs) zero (suc i) = inr refl
unset (x ∷ xs) (suc n) zero = inr refl
unset (x ∷ xs) (suc n) (suc i) = unset xs n i

closed_either : (objects : List (Option OpenObject)) (fd other : ℕ)
    → (table.named (table.with_closed objects fd) other ≡ None)
    ⊎ (table.named (table.with_closed objects fd) other ≡ table.named objects other)
closed_either objects fd other = by (nat_lt fd table.first_descriptor) (nat_lt other table.first_descriptor)
  where
    n : ℕ
    n = fd - table.first_descriptor

    i : ℕ
    i = other - table.first_descriptor

    at : (get_or (set objects n None) i None ≡ None) ⊎ (get_or (set objects n None) i None ≡ get_or objects i None)
        → (table.flattened (slice_get (set objects n None) i) ≡ None)
        ⊎ (table.flattened (slice_get (set objects n None) i) ≡ table.flattened (slice_get objects i))
    at (inl e) = inl (flattened-get (set objects n None) i ∙ e)
    at (inr e) = inr (flattened-get (set objects n None) i ∙ e ∙ sym (flattened-get objects i))

    by : (a b : Bool) → let left =
        if b
        then None
        else table.flattened
        (slice_get (if a then objects else set objects (fd - table.first_descriptor) None)
        (other - table.first_descriptor))
        in
        (left ≡ None)
        ⊎ (left ≡ (if b then None else table.flattened (slice_get objects (other - table.first_descriptor))))
    by a true = inl refl
    by true false = inr refl
    by false false = at (unset objects n i)

-- a descriptor that is open after a close names the object of before
pub closed_there : (objects : List (Option OpenObject)) (fd other : ℕ)
    → (table.named (table.with_closed objects fd) other ≡ None → ⊥)
    → table.named (table.with_closed objects fd) other ≡ table.named objects other
closed_there objects fd other some = by (closed_either objects fd other)
  where
    by : (table.named (table.with_closed objects fd) other ≡ None)
        ⊎ (table.named (table.with_closed objects fd) other ≡ table.named objects other)
        → table.named (table.with_closed objects fd) other ≡ table.named objects other
    by (inl none) = absurd (some none)
    by (inr same) = same

-- a program that is still open
still_program : (s : TenantState) (fd other : ℕ)
    → is_open_program (table.named (table.with_closed s.objects fd) other) ≡ true
    → table.named (table.with_closed s.objects fd) other ≡ table.named s.objects other
still_program s fd other e = closed_there s.objects fd other (λ none. true≢false (sym e ∙ ap is_open_program none))

program_of : (o : Option OpenObject) → is_open_program o ≡ true → (l : LoadedProgram) × (o ≡ Some (object.Program l))
program_of None e = absurd (true≢false (sym e))
program_of (Some (object.Map handle)) e = absurd (true≢false (sym e))
program_of (Some (object.Program l)) e = (l, refl)

-- the state after a descriptor is closed
abbrev left_by : TenantState → ℕ → TenantState
left_by s fd = with_objects s (table.with_closed s.objects fd)

module _ (s : TenantState) (h : HoldsItsMaps s) (fd : ℕ) where
  left_held : HoldsItsMaps (left_by s fd)
  left_held = fewer_held h (table.with_closed s.objects fd) (closed_length s.objects fd) (closed_fewer s.objects fd)

  -- the maps of a program that is still open are live
  maps_live : (other : ℕ) (l : LoadedProgram)
      → table.named (table.with_closed s.objects fd) other ≡ Some (object.Program l)
      → (handle : ℕ) → list_any (λ m. m.1 == handle) l.maps ≡ true
      → IsSome (live (left_by s fd) handle)
  maps_live other l there handle e =
      left_held.live_if_named handle
      (named_by (table.with_closed s.objects fd) (other - table.first_descriptor) (object.Program l)
      handle
      (stands_at (table.with_closed s.objects fd) other (object.Program l) there)
      e)

  each_latest : (older : List Birth) (other : ℕ) (ms : List (ℕ × ℕ))
      → ((handle : ℕ) → list_any (λ m. m.1 == handle) ms ≡ true → IsSome (live (left_by s fd) handle))
      → AllByRecursion (λ m. (m.0 ≢ other) × (latest_at older m.0 ≡ Some (OfMap m.1 m.0))) ms
      → AllByRecursion (λ m.
      (m.0 ≢ other) × (latest_at (filter (lives (left_by s fd)) older) m.0 ≡ Some (OfMap m.1 m.0)))
      ms
  each_latest older other [] lives_so all = tt
  each_latest older other (m ∷ ms) lives_so all = (
    (
      all.0.0,
      latest_filter (lives (left_by s fd)) older m.0 (OfMap m.1 m.0) all.0.1
          (lives_so m.1 (or_left (m.1 == m.1) (list_any (λ k. k.1 == m.1) ms) (eq-eqb m.1 m.1 refl))),
    ),
    each_latest older other ms
        (λ handle e. lives_so handle (or_right (m.1 == handle) (list_any (λ k. k.1 == handle) ms) e))
        all.1,
  )

  born_left : (older : List Birth) (b : Birth)
      → lives (left_by s fd) b ≡ true → IsBorn s older b
      → IsBorn (left_by s fd) (filter (lives (left_by s fd)) older) b
  born_left older (OfMap handle n) e (live_so, new) = (e, any_filter (lives (left_by s fd)) (is_of_map handle) older new)
  born_left older (OfProgram n) e (l, there, maps) =
      let still = still_program s fd n e ∙ there in
      (l, still, each_latest older n l.maps (maps_live n l still) maps)

  order_left : (bs : List Birth) → AreInOrder s bs → AreInOrder (left_by s fd) (filter (lives (left_by s fd)) bs)
  order_left [] order = tt
  order_left (b ∷ older) (low, high, apart, is, order) = by (lives (left_by s fd) b) refl (order_left older order)
    where
      by : (kept : Bool)
          → lives (left_by s fd) b ≡ kept
          → AreInOrder (left_by s fd) (filter (lives (left_by s fd)) older)
          → AreInOrder (left_by s fd)
          (if kept then b ∷ filter (lives (left_by s fd)) older else filter (lives (left_by s fd)) older)
      by true e rest = (
        low,
        high,
        any_filter (lives (left_by s fd)) (is_of_program (descriptor_of b)) older apart,
        born_left older b e is,
        rest,
      )
      by false e rest = rest

  -- after a close the births of the state are those of before whose objects are still live
  pub close_births : (bs : List Birth) → AreBirths s bs → AreBirths (left_by s fd) (filter (lives (left_by s fd)) bs)
  close_births bs are = record {
    order = order_left bs are.order;
    latest = λ other o there. latest_filter (lives (left_by s fd)) bs other (birth_of other o)
        (are.latest other o (sym (closed_there s.objects fd other (λ none. none-some o (sym none ∙ there))) ∙ there))
        (lives_now other o there);
  }
    where
      lives_now : (other : ℕ) (o : OpenObject)
          → table.named (table.with_closed s.objects fd) other ≡ Some o
          → lives (left_by s fd) (birth_of other o) ≡ true
      lives_now other (object.Map handle) there =
          left_held.live_if_named handle
          (named_by (table.with_closed s.objects fd) (other - table.first_descriptor)
          (object.Map handle) handle
          (stands_at (table.with_closed s.objects fd) other (object.Map handle) there)
          (eq-eqb handle handle refl))
      lives_now other (object.Program l) there = ap is_open_program there

-- ---- commands that neither open nor close an object

module _ (s : TenantState) where
  on_map_same : (fd : ℕ) (f : ℕ → Map → Answer)
      → ((handle : ℕ) (m : Map) → (f handle m).after.objects ≡ s.objects)
      → (on_map s fd f).after.objects ≡ s.objects
  on_map_same fd f each = by (table.named s.objects fd)
    where
      there : (handle : ℕ) (o : Option Map) → (of_handle s handle f o).after.objects ≡ s.objects
      there handle None = refl
      there handle (Some m) = each handle m

      by : (o : Option OpenObject) → (of_object s f o).after.objects ≡ s.objects
      by None = refl
      by (Some (object.Program l)) = refl
      by (Some (object.Map handle)) = there handle (live s handle)

  if_same : (x : Bool) (a b : Answer)
      → a.after.objects ≡ s.objects → b.after.objects ≡ s.objects
      → (if x then a else b).after.objects ≡ s.objects
  if_same true a b p q = p
  if_same false a b p q = q

  found_same : (o : Option (List ℕ)) → (gives_or_no_entry s o).after.objects ≡ s.objects
  found_same None = refl
  found_same (Some value) = refl

  put_same : (handle : ℕ) (m : Map) (key value : List ℕ) (v : call.Verdict (List ℕ))
      → (element_put s handle m key value v).after.objects ≡ s.objects
  put_same handle m key value (call.Refused fault) = refl
  put_same handle m key value (call.Present old) = refl
  put_same handle m key value call.New = refl

  taken_same : (handle : ℕ) (m : Map) (key : List ℕ) (r : Result (List ℕ) MapFault)
      → (element_taken_out s handle m key r).after.objects ≡ s.objects
  taken_same handle m key (Err fault) = refl
  taken_same handle m key (Ok value) = refl

  outcome_same : (o : Outcome) (t : TenantState)
      → t.objects ≡ s.objects → (outcome_result o t).after.objects ≡ s.objects
  outcome_same (Value n) t e = e
  outcome_same Fault t e = e

  run_same : (words packet : List ℕ) (o : Option OpenObject) → (run_of s words packet o).after.objects ≡ s.objects
  run_same words packet None = refl
  run_same words packet (Some (object.Map handle)) = refl
  run_same words packet (Some (object.Program l)) =
      if_same (nat_lt longest_packet (length packet)) _ _ refl
      (outcome_same (result_of l.insns (maps_given s l) (length packet ∷ words) packet) _ refl)

-- ---- every command

births_kept : MapsAreHeld
    → (refused : Bool) (s : TenantState) (command : Command) (a : Answer) (births : List Birth)
    → HoldsItsMaps s → AreBirths s births
    → Answers refused s command a
    → AreBirths a.after (births_after command a births)
births_kept held refused s command a births h are is = by command is (held.kept refused s command a h is)
  where
    -- a command that does not change the open objects keeps the births
    quiet : (b : Answer) → a ≡ b → b.after.objects ≡ s.objects → HoldsItsMaps a.after → AreBirths a.after births
    quiet b e objects now =
        let same = ap (λ (x : Answer). x.after.objects) e ∙ objects in
        same_births s a.after births same
        (λ handle some.
        now.live_if_named handle
        (ap (λ (os : List (Option OpenObject)). is_named os handle) same ∙ h.named_if_live handle some))
        are

    closes : (fd : ℕ) (o : Option OpenObject)
        → table.named s.objects fd ≡ o
        → AreBirths (closed s fd o).after (filter (lives (closed s fd o).after) births)
    closes fd (Some o) there = close_births s h fd births are
    closes fd None there = subst (λ (bs : List Birth). AreBirths s bs) (sym (all_live s births are.order)) are

    by : (c : Command) → Answers refused s c a → HoldsItsMaps a.after → AreBirths a.after (births_after c a births)
    by (map_create kind key value max flags) is now =
        subst (λ (x : Answer). AreBirths x.after (with_opened x.status x.after births)) (sym is)
        (created_births h births are refused (asked_shape (kind_of kind) key value max flags))
    by (prog_load kind slots) is now = loads_births h births are refused kind slots a is
    by (close fd) is now =
        subst (λ (x : Answer). AreBirths x.after (filter (lives x.after) births)) (sym is)
        (closes fd (table.named s.objects fd) refl)
    by (map_lookup fd key) is now =
        quiet _ is
        (on_map_same s fd _
        (λ handle m. if_same s (length key == m.shape.key_size) _ _ (found_same s (look_up m key)) refl))
        now
    by (map_update fd flags bytes) is now =
        quiet _ is
        (on_map_same s fd _
        (λ handle m. if_same s (length bytes == m.shape.key_size + m.shape.value_size) _ _
        (put_same s handle m (take m.shape.key_size bytes) (drop m.shape.key_size bytes)
        (verdict m (take m.shape.key_size bytes) flags))
        refl)) now
    by (map_delete fd key) is now =
        quiet _ is
        (on_map_same s fd _
        (λ handle m. if_same s (length key == m.shape.key_size) _ _ (taken_same s handle m key (removal m key)) refl))
        now
    by (map_next_key fd key) is now =
        quiet _ is
        (on_map_same s fd _
        (λ handle m.
        if_same s (length key == 0 || length key == m.shape.key_size) _ _ (found_same s (next_of m key)) refl))
        now
    by (prog_test_run fd words packet) is now = quiet _ is (run_same s words packet (table.named s.objects fd)) now

-- a new tenant has no open objects
nothing_named : (n fd : ℕ) → get_or (replicate n (let none : Option OpenObject = None in none)) fd None ≡ None
nothing_named zero fd = refl
nothing_named (suc n) zero = refl
nothing_named (suc n) (suc fd) = nothing_named n fd

pub births_are_kept : MapsAreHeld → BirthsAreKept
births_are_kept held = record {
  new = record {
    order = tt;
    latest = λ fd o there.
        absurd (none-some o
        (sym (nothing_named table.most (fd - table.first_descriptor)) ∙ stands_at new_tenant.objects fd o there));
  };
  kept = births_kept held;
  few = λ s births h are. few_births h births are.order;
}
