-- A new tenant that executes the commands of a save is alike to the saved tenant.
use Rattle.std.proofs.Common.{◌≡◌, ◌≢◌, ℕ, zero, suc, ◌+◌, ◌≤◌, ◌<◌, Bool, true, false, List, [], ◌∷◌, ◌++◌, get_or, replicate}
use Rattle.std.proofs.Common.{Option, Some, None, IsSome, is_some, refl, sym, ap, ap₂, subst, ◌∙◌, inl, inr, arith, true≢false, Ok}
use Rattle.std.specs.Prelude.{◌⊎◌, is_none, nat_lt, if◌then◌else◌}
use Rattle.std.proofs.Math.Path.{fun_ext}
use Rattle.std.proofs.lemmas.Bool.{cases_eq, cases_lt, eq-eqb, lt-ltb, le-ltb}
use Rattle.std.proofs.lemmas.Option.{same_Some}
use Rattle.command_frames.specs.Command.{Command, close}
use Rattle.fd_table.specs.Table.{first_descriptor, most, named, with_open}
use Rattle.insn_set.specs.Program.{IsProgram, program_bytes}
use Rattle.tagged_model.specs.State.{set_at}
use Rattle.tagged_model.specs.declared.shape.Named.{Named}
use Rattle.verifier.specs.Maps.{maps_of, objects_at, distinct}
use Rattle.verifier.specs.Verdict.{IsAccepted}
use Rattle.tenant.specs.declared.object.OpenObject.{OpenObject}
use Rattle.tenant.specs.declared.object.OpenObject.TheVariants as object
use Rattle.tenant.specs.Loaded.{LoadedProgram}
use Rattle.bpf_maps.specs.Limits.{most_maps}
use Rattle.tenant.specs.State.{Map, TenantState, new_tenant, live, names, is_named, named_from}
use Rattle.tenant.specs.Machine.{Answers, gives, opens, targets, handles_from, loaded_program, LoadsUnder}
use Rattle.saving.specs.Alike.{HoldsItsMaps}
use Rattle.saving.specs.Births.{Birth, birth_of, latest_at, AreBirths}
use Rattle.saving.specs.Filler.{filler}
use Rattle.saving.specs.Restored.{load_of, filled, born, closings, Leads}
use Rattle.saving.specs.Laws.{MapsAreHeld, AlikeIsBisimulation, RestoredIsAlike}
use Rattle.saving.proofs.Lists.{not_none, some_or_none}
use Rattle.saving.proofs.Closes.{live_with}
use Rattle.saving.proofs.Tables.{Opened, table, tabled, IsDescriptor, IsLowestFree, lowest-is, NamesAt}
use Rattle.saving.proofs.Tables.{names_at, set_same, set_other, table-same, table-open, table_of, table-moved}
use Rattle.saving.proofs.States.{leads_then, Follows, follows, state_of, same_state, held_of, close_answer}
use Rattle.saving.proofs.Loads.{SameObjectsSameVerdict}
use Rattle.saving.proofs.Makes.{LeadsTo}
use Rattle.saving.proofs.Walks.{filler_program, program_or, object_of, at_births, walk}

-- a program that returns 0 is accepted
abbrev pub FillerIsAccepted : Type 0
FillerIsAccepted = IsProgram filler × ((named : List Named) → IsAccepted filler named)

-- ---- the descriptors are filled

-- the descriptors below k have the filler
abbrev filled_to : ℕ → Opened
filled_to k fd = if nat_lt fd k then Some (object.Program filler_program) else None

abbrev no_maps : List (Option Map)
no_maps = new_tenant.maps

abbrev filling : ℕ → TenantState
filling k = record { objects = table (filled_to k); maps = no_maps; refused = false }

no_objects : (named : List Named) → objects_at [] named ≡ []
no_objects [] = refl
no_objects (n ∷ ns) = no_objects ns

-- the filler loads no map
no_handles : (objects : List (Option OpenObject)) → handles_from objects (maps_of filler) ≡ []
unfolding handles_from distinct
no_handles objects = refl

no_loads : maps_of filler ≡ []
unfolding distinct
no_loads = refl

filler_again : (k : ℕ) → loaded_program (filling k) filler ≡ filler_program
filler_again k =
    ap₂ (λ (ns : List Named) (ms : List (ℕ × ℕ)). record { insns = filler; named = ns; maps = ms })
    (ap (λ (fds : List ℕ). objects_at fds (targets (filling k))) no_loads ∙ no_objects (targets (filling k)))
    (no_handles (table (filled_to k)))

next_filled : (k fd : ℕ) → set_at (filled_to k) k (Some (object.Program filler_program)) fd ≡ filled_to (k + 1) fd
next_filled k fd = by (cases_eq fd k)
  where
    by : (fd ≡ k) ⊎ (fd ≡ k → ⊥)
        → set_at (filled_to k) k (Some (object.Program filler_program)) fd ≡ filled_to (k + 1) fd
    by (inl same) =
        ap (λ (b : Bool). if b then Some (object.Program filler_program) else filled_to k fd) (eq-eqb fd k same)
        ∙ sym (ap (λ (b : Bool). if b then Some (object.Program filler_program) else None)
        (lt-ltb fd (k + 1) (omega arith)))
    by (inr other) = set_other (filled_to k) k (Some (object.Program filler_program)) fd other ∙ below (cases_lt fd k)
      where
        below : (fd < k) ⊎ (k ≤ fd) → filled_to k fd ≡ filled_to (k + 1) fd
        below (inl lt) =
            ap (λ (b : Bool). if b then Some (object.Program filler_program) else None)
            (lt-ltb fd k lt ∙ sym (lt-ltb fd (k + 1) (omega arith)))
        below (inr le) =
            ap (λ (b : Bool). if b then Some (object.Program filler_program) else None)
            (le-ltb fd k le ∙ sym (le-ltb fd (k + 1) (omega arith)))

fill_answer : FillerIsAccepted
    → (k : ℕ) → IsDescriptor k
    → Answers false (filling k) (load_of filler) (opens k (filling (k + 1)))
fill_answer fine k is =
    subst (λ (o : Option ℕ). LoadsUnder false (filling k) o (program_bytes filler) (opens k (filling (k + 1))))
    (sym (lowest-is (filled_to k) k free)) (
      Ok filler,
      (fine.0, refl, fine.1 (targets (filling k))),
      ap (λ (os : List (Option OpenObject)). opens k (record { objects = os; maps = no_maps; refused = false }))
          (sym objects),
    )
  where
    free : IsLowestFree (filled_to k) k
    free = record {
      descriptor = is;
      free = ap (λ (b : Bool). if b then Some (object.Program filler_program) else None) (le-ltb k k (omega arith));
      lower = λ other _ lt.
          ap (λ (b : Bool). is_some (if b then Some (object.Program filler_program) else None)) (lt-ltb other k lt);
    }

    objects : with_open (table (filled_to k)) k (object.Program (loaded_program (filling k) filler))
        ≡ table (filled_to (k + 1))
    objects =
        ap (λ (l : LoadedProgram). with_open (table (filled_to k)) k (object.Program l)) (filler_again k)
        ∙ table-open (filled_to k) k (object.Program filler_program) is
        ∙ table-same (set_at (filled_to k) k (Some (object.Program filler_program)))
        (filled_to (k + 1)) (λ fd _. next_filled k fd)

fill_leads : FillerIsAccepted
    → (n k : ℕ) → first_descriptor ≤ k → k + n ≡ first_descriptor + most
    → Leads (filling k) (filled n) (filling (first_descriptor + most))
unfolding filled
fill_leads fine zero k low all = ap filling (let e : first_descriptor + most ≡ k = omega arith in e)
fill_leads fine (suc n) k low all = (
  opens k (filling (k + 1)),
  fill_answer fine k (record { low = low; high = omega arith }),
  (k, refl),
  fill_leads fine n (k + 1) (omega arith) (omega arith),
)

leads_held : MapsAreHeld → (cs : List Command) (s t : TenantState) → HoldsItsMaps s → Leads s cs t → HoldsItsMaps t
leads_held held [] s t h e = subst HoldsItsMaps (sym e) h
leads_held held (c ∷ cs) s t h (a, answers, well, rest) =
    leads_held held cs a.after t (held.kept false s c a h answers) rest

-- ---- the descriptors that are not open are closed

abbrev closed_to : TenantState → List Birth → ℕ → Opened
closed_to s births k fd = if nat_lt fd k then named s.objects fd else at_births s births fd

module _ (held : MapsAreHeld) (bisimulation : AlikeIsBisimulation) (s : TenantState)
    (births : List Birth) (are : AreBirths s births) where
  below : (k fd : ℕ) → fd < k → closed_to s births k fd ≡ named s.objects fd
  below k fd lt = ap (λ (b : Bool). if b then named s.objects fd else at_births s births fd) (lt-ltb fd k lt)

  above : (k fd : ℕ) → k ≤ fd → closed_to s births k fd ≡ at_births s births fd
  above k fd le = ap (λ (b : Bool). if b then named s.objects fd else at_births s births fd) (le-ltb fd k le)

  -- closing k does not change other descriptors
  other_closed : (k fd : ℕ) → fd ≢ k → closed_to s births k fd ≡ closed_to s births (k + 1) fd
  other_closed k fd other = by (cases_lt fd k)
    where
      by : (fd < k) ⊎ (k ≤ fd) → closed_to s births k fd ≡ closed_to s births (k + 1) fd
      by (inl lt) = below k fd lt ∙ sym (below (k + 1) fd (omega arith))
      by (inr le) = above k fd le ∙ sym (above (k + 1) fd (omega arith))

  next_closed : (k fd : ℕ)
      → named s.objects k ≡ None
      → set_at (closed_to s births k) k None fd ≡ closed_to s births (k + 1) fd
  next_closed k fd none = by (cases_eq fd k)
    where
      by : (fd ≡ k) ⊎ (fd ≡ k → ⊥) → set_at (closed_to s births k) k None fd ≡ closed_to s births (k + 1) fd
      by (inl same) =
          ap (set_at (closed_to s births k) k None) same
          ∙ set_same (closed_to s births k) k None
          ∙ sym none
          ∙ sym (below (k + 1) k (omega arith))
          ∙ ap (closed_to s births (k + 1)) (sym same)
      by (inr other) = set_other (closed_to s births k) k None fd other ∙ other_closed k fd other

  -- the object of an open descriptor is the one of its latest birth
  still_open : (k : ℕ) (o : OpenObject) → named s.objects k ≡ Some o → at_births s births k ≡ Some o
  still_open k o is =
      ap (λ (b : Option Birth). Some (object_of s b)) (are.latest k o is) ∙ ap (λ (x : OpenObject). Some x) (by o is)
    where
      by : (o : OpenObject) → named s.objects k ≡ Some o → object_of s (Some (birth_of k o)) ≡ o
      by (object.Map handle) is = refl
      by (object.Program l) is = ap program_or is

  same_closed : (k fd : ℕ) (o : OpenObject)
      → named s.objects k ≡ Some o → closed_to s births k fd ≡ closed_to s births (k + 1) fd
  same_closed k fd o is = by (cases_eq fd k)
    where
      by : (fd ≡ k) ⊎ (fd ≡ k → ⊥) → closed_to s births k fd ≡ closed_to s births (k + 1) fd
      by (inl same) =
          ap (closed_to s births k) same
          ∙ above k k (omega arith)
          ∙ still_open k o is
          ∙ sym is
          ∙ sym (below (k + 1) k (omega arith))
          ∙ ap (closed_to s births (k + 1)) (sym same)
      by (inr other) = other_closed k fd other

  closings_lead : (n k : ℕ) (t : TenantState)
      → first_descriptor ≤ k → k + n ≡ first_descriptor + most
      → Follows (state_of s (closed_to s births k)) t
      → LeadsTo t (closings s.objects k n) (state_of s (closed_to s births (first_descriptor + most)))
  unfolding closings
  closings_lead zero k t low all h = record {
    end = t;
    leads = refl;
    after =
        subst (λ (m : ℕ). Follows (state_of s (closed_to s births m)) t)
        (let e : k ≡ first_descriptor + most = omega arith in e)
        h;
  }
  closings_lead (suc n) k t low all h =
      by (named s.objects k) refl (λ u after. closings_lead n (k + 1) u (omega arith) (omega arith) after)
    where
      is : IsDescriptor k
      is = record { low = low; high = omega arith }

      by : (o : Option OpenObject)
          → named s.objects k ≡ o
          → ((u : TenantState) → Follows (state_of s (closed_to s births (k + 1))) u
          → LeadsTo u (closings s.objects (k + 1) n) (state_of s (closed_to s births (first_descriptor + most))))
          → LeadsTo t
          ((if is_none o then close k ∷ [] else []) ++ closings s.objects (k + 1) n)
          (state_of s (closed_to s births (first_descriptor + most)))
      by (Some o) there rest =
          rest t (subst (λ (f : Opened). Follows (state_of s f) t) (fun_ext (λ fd. same_closed k fd o there)) h)
      by None none rest =
          let one =
          follows held bisimulation (state_of s (closed_to s births k)) t (close k)
          (gives [] (state_of s (set_at (closed_to s births k) k None)))
          h
          (close_answer s (closed_to s births k) k (object_of s (latest_at births k)) is (above k k (omega arith))) in
          let later =
          rest one.b.after
          (subst (λ (f : Opened). Follows (state_of s f) one.b.after)
          (fun_ext (λ fd. next_closed k fd none)) one.after) in
          record { end = later.end; leads = (one.b, one.answers, (0, one.status), later.leads); after = later.after }

  -- the last state is the saved state with a clear flag
  end_is : HoldsItsMaps s → record s { refused = false } ≡ state_of s (closed_to s births (first_descriptor + most))
  end_is holds =
      same_state s (closed_to s births (first_descriptor + most)) (record s { refused = false }) (sym objects) refl
      (λ handle.
      by handle (some_or_none (live s handle))
      ∙ ap (λ (os : List (Option OpenObject)). if is_named os handle then live s handle else None) (sym objects))
      refl
    where
      objects : table (closed_to s births (first_descriptor + most)) ≡ s.objects
      objects =
          table-same (closed_to s births (first_descriptor + most)) (named s.objects)
          (λ fd is. below (first_descriptor + most) fd is.high)
          ∙ table_of s.objects holds.descriptors

      either : (b : Bool) → let none : Option Map = None in none ≡ (if b then none else none)
      either true = refl
      either false = refl

      by : (handle : ℕ)
          → IsSome (live s handle) ⊎ (live s handle ≡ None)
          → live s handle ≡ (if is_named s.objects handle then live s handle else None)
      by handle (inl some) =
          sym (ap (λ (b : Bool). if b then live s handle else None) (holds.named_if_live handle some))
      by handle (inr none) =
          none
          ∙ either (is_named s.objects handle)
          ∙ ap (λ (o : Option Map). if is_named s.objects handle then o else None) (sym none)

-- ---- the state before the first birth

none_born : (s : TenantState) (handle : ℕ) → NamesAt (at_births s []) handle → ⊥
none_born s handle h =
    true≢false (sym h.named ∙ ap (names handle) (sym (same_Some (object.Program filler_program) h.o h.at)))

unborn : (s : TenantState) (handle : ℕ) → is_named (table (at_births s [])) handle ≡ false
unborn s handle = by (is_named (table (at_births s [])) handle) refl
  where
    by : (b : Bool) → is_named (table (at_births s [])) handle ≡ b → is_named (table (at_births s [])) handle ≡ false
    by true e = absurd (none_born s handle (names_at (at_births s []) handle e))
    by false e = e

no_map : (n handle : ℕ) → let none : Option Map = None in get_or (replicate n none) handle none ≡ none
no_map zero handle = refl
no_map (suc n) zero = refl
no_map (suc n) (suc handle) = no_map n handle

begins : (s : TenantState)
    → HoldsItsMaps s
    → HoldsItsMaps (filling (first_descriptor + most))
    → Follows (state_of s (at_births s [])) (filling (first_descriptor + most))
begins s holds full = record {
  move = λ handle. handle;
  pair = record {
    one = held_of s (at_births s []) holds (λ handle e. absurd (true≢false (sym e ∙ unborn s handle)));
    two = full;
    by = record {
      objects =
          table-same (filled_to (first_descriptor + most)) (at_births s [])
          (λ fd is.
          ap (λ (b : Bool). if b then Some (object.Program filler_program) else None)
          (lt-ltb fd (first_descriptor + most) is.high))
          ∙ sym (table-moved (λ handle. handle) (at_births s []) first_descriptor most);
      same = λ handle some. absurd (not_none some (nothing handle));
      apart = λ p q some _ _. absurd (not_none some (nothing p));
      only = λ q some. absurd (not_none some (empty q));
    };
  };
}
  where
    nothing : (handle : ℕ) → live (state_of s (at_births s [])) handle ≡ None
    nothing handle =
        live_with s (table (at_births s [])) handle
        ∙ ap (λ (b : Bool). if b then live s handle else None) (unborn s handle)

    empty : (handle : ℕ) → live (filling (first_descriptor + most)) handle ≡ None
    empty handle = no_map most_maps handle

-- ---- the whole walk

none_filled : (n fd : ℕ) → first_descriptor ≤ fd → tabled (filled_to first_descriptor) fd n ≡ replicate n None
unfolding tabled
none_filled zero fd low = refl
none_filled (suc n) fd low =
    ap₂ (λ (o : Option OpenObject) (os : List (Option OpenObject)). o ∷ os)
    (ap (λ (b : Bool). if b then Some (object.Program filler_program) else None) (le-ltb fd first_descriptor low))
    (none_filled n (fd + 1) (omega arith))

empty_is : filling first_descriptor ≡ new_tenant
empty_is =
    ap (λ (os : List (Option OpenObject)). record { objects = os; maps = no_maps; refused = false })
    (none_filled most first_descriptor (omega arith))

-- the state before the first descriptor is closed
first_closed : (s : TenantState) (births : List Birth)
    → state_of s (at_births s births) ≡ state_of s (closed_to s births first_descriptor)
first_closed s births =
    ap (λ (os : List (Option OpenObject)). record { objects = os; maps = named_from os 0 s.maps; refused = false })
    (table-same (at_births s births) (closed_to s births first_descriptor)
    (λ fd is.
    sym (ap (λ (b : Bool). if b then named s.objects fd else at_births s births fd)
    (le-ltb fd first_descriptor is.low))))

pub restored_is_alike : MapsAreHeld → AlikeIsBisimulation → SameObjectsSameVerdict → FillerIsAccepted → RestoredIsAlike
restored_is_alike held bisimulation same_verdict fine s births whole are =
    let fills =
    subst (λ (x : TenantState). Leads x (filled most) (filling (first_descriptor + most))) empty_is
    (fill_leads fine most first_descriptor (omega arith) refl) in
    let start =
    begins s whole.held (leads_held held (filled most) new_tenant (filling (first_descriptor + most)) held.new fills) in
    let walked =
    walk held bisimulation same_verdict s whole births (filling (first_descriptor + most)) are.order start in
    let closes = closings_lead held bisimulation s births are most first_descriptor walked.end (omega arith) refl
    (subst (λ (x : TenantState). Follows x walked.end) (first_closed s births) walked.after) in
    let after =
    subst (λ (x : TenantState). Follows x closes.end)
    (sym (end_is held bisimulation s births are whole.held))
    closes.after in (
      closes.end,
      leads_then (filled most)
          (born s births ++ closings s.objects first_descriptor most)
          new_tenant (filling (first_descriptor + most)) closes.end
          fills
          (leads_then (born s births) (closings s.objects first_descriptor most)
          (filling (first_descriptor + most)) walked.end closes.end
          walked.leads closes.leads),
      (
        after.move,
        record {
          objects = after.pair.by.objects;
          same = after.pair.by.same;
          apart = after.pair.by.apart;
          only = after.pair.by.only;
        },
      ),
      after.pair.two,
    )
