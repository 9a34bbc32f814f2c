-- The commands of the births in order, one after another (the walk).
use Rattle.std.proofs.Common.{◌≡◌, ◌≢◌, ℕ, Bool, true, false, List, [], ◌∷◌, Option, Some, None}
use Rattle.std.proofs.Common.{is_some, refl, sym, ap, subst, ◌∙◌, inl, inr, arith, true≢false}
use Rattle.std.specs.Prelude.{◌⊎◌, ◌==◌, ◌||◌, if◌then◌else◌}
use Rattle.std.specs.List.{list_any, AllByRecursion}
use Rattle.std.proofs.Math.Path.{fun_ext}
use Rattle.std.proofs.lemmas.Bool.{cases_eq, eq-eqb, ne_eqb, eqb-true}
use Rattle.std.proofs.lemmas.Option.{none-some, same_Some}
use Rattle.command_frames.specs.Command.{close}
use Rattle.fd_table.specs.Table.{named}
use Rattle.tagged_model.specs.State.{set_at}
use Rattle.tenant.specs.declared.object.OpenObject.{OpenObject}
use Rattle.tenant.specs.declared.object.OpenObject.TheVariants as object
use Rattle.tenant.specs.Loaded.{LoadedProgram}
use Rattle.tenant.specs.State.{Map, TenantState, live, names, is_named}
use Rattle.tenant.specs.Machine.{Answers, gives, opens}
use Rattle.saving.specs.Births.{Birth, OfMap, OfProgram, descriptor_of, latest_at, is_of_map, IsBorn, AreInOrder}
use Rattle.saving.specs.Filler.{filler}
use Rattle.saving.specs.Restored.{load_of, made_map, made_program, made, born}
use Rattle.saving.specs.Restorable.{IsRestorable}
use Rattle.saving.specs.Laws.{MapsAreHeld, AlikeIsBisimulation}
use Rattle.saving.proofs.Lists.{is_there}
use Rattle.saving.proofs.Moved.{or_parts, or_left, or_right}
use Rattle.saving.proofs.Tables.{Opened, table, IsDescriptor, IsOnlyFree, NamesAt, names_at, set_same, set_other}
use Rattle.saving.proofs.States.{leads_then, Follows, follows, state_of, close_answer}
use Rattle.saving.proofs.Loads.{SameObjectsSameVerdict, AreOpen, load_answer}
use Rattle.saving.proofs.Makes.{LeadsTo, map_leads}

-- ---- the open objects after some births

abbrev pub filler_program : LoadedProgram
filler_program = record { insns = filler; named = []; maps = [] }

abbrev pub program_or : Option OpenObject → OpenObject
program_or None = object.Program filler_program
program_or (Some (object.Map handle)) = object.Program filler_program
program_or (Some (object.Program l)) = object.Program l

abbrev pub object_of : TenantState → Option Birth → OpenObject
object_of s None = object.Program filler_program
object_of s (Some (OfMap handle fd)) = object.Map handle
object_of s (Some (OfProgram fd)) = program_or (named s.objects fd)

abbrev pub at_births : TenantState → List Birth → Opened
at_births s births fd = Some (object_of s (latest_at births fd))

next_birth : (s : TenantState) (b : Birth) (older : List Birth)
    → set_at (set_at (at_births s older) (descriptor_of b) None) (descriptor_of b) (Some (object_of s (Some b)))
    ≡ at_births s (b ∷ older)
next_birth s b older = fun_ext (λ fd. by fd (cases_eq fd (descriptor_of b)))
  where
    by : (fd : ℕ)
        → (fd ≡ descriptor_of b) ⊎ (fd ≡ descriptor_of b → ⊥)
        → set_at (set_at (at_births s older) (descriptor_of b) None) (descriptor_of b) (Some (object_of s (Some b))) fd
        ≡ at_births s (b ∷ older) fd
    by fd (inl same) =
        ap (λ (x : Bool). if x then Some (object_of s (Some b)) else set_at (at_births s older) (descriptor_of b) None fd)
        (eq-eqb fd (descriptor_of b) same)
        ∙ sym (ap (λ (x : Bool). Some (object_of s (if x then Some b else latest_at older fd)))
        (eq-eqb (descriptor_of b) fd (sym same)))
    by fd (inr other) =
        set_other (set_at (at_births s older) (descriptor_of b) None) (descriptor_of b) (Some (object_of s (Some b))) fd other
        ∙ set_other (at_births s older) (descriptor_of b) None fd other
        ∙ sym (ap (λ (x : Bool). Some (object_of s (if x then Some b else latest_at older fd)))
        (ne_eqb (descriptor_of b) fd (λ e. other (sym e))))

-- ---- births in order

latest_descriptor : (s : TenantState) (bs : List Birth) (fd : ℕ) (b : Birth)
    → AreInOrder s bs → latest_at bs fd ≡ Some b → IsDescriptor fd
latest_descriptor s [] fd b order e = absurd (none-some b e)
latest_descriptor s (x ∷ older) fd b order e = by (descriptor_of x == fd) refl (latest_descriptor s older fd b order.4) e
  where
    by : (here : Bool)
        → (descriptor_of x == fd) ≡ here
        → (latest_at older fd ≡ Some b → IsDescriptor fd)
        → (if here then Some x else latest_at older fd) ≡ Some b
        → IsDescriptor fd
    by true is rest e =
        let same = eqb-true (descriptor_of x) fd is in
        let low = order.0 in
        let high = order.1 in
        record { low = omega arith; high = omega arith }
    by false is rest e = rest e

latest_map : (bs : List Birth) (fd handle n : ℕ)
    → latest_at bs fd ≡ Some (OfMap handle n) → list_any (is_of_map handle) bs ≡ true
latest_map [] fd handle n e = absurd (none-some (OfMap handle n) e)
latest_map (x ∷ older) fd handle n e = by (descriptor_of x == fd) (latest_map older fd handle n) e
  where
    by : (here : Bool)
        → (latest_at older fd ≡ Some (OfMap handle n) → list_any (is_of_map handle) older ≡ true)
        → (if here then Some x else latest_at older fd) ≡ Some (OfMap handle n)
        → (is_of_map handle x || list_any (is_of_map handle) older) ≡ true
    by true rest e =
        or_left (is_of_map handle x) (list_any (is_of_map handle) older)
        (ap (is_of_map handle) (same_Some x (OfMap handle n) e) ∙ eq-eqb handle handle refl)
    by false rest e = or_right (is_of_map handle x) (list_any (is_of_map handle) older) (rest e)

-- each map of a program that was born was itself born before
each_born : (older : List Birth) (ms : List (ℕ × ℕ)) (fd handle : ℕ)
    → AllByRecursion (λ m. (m.0 ≢ fd) × (latest_at older m.0 ≡ Some (OfMap m.1 m.0))) ms
    → list_any (λ m. m.1 == handle) ms ≡ true
    → list_any (is_of_map handle) older ≡ true
each_born older [] fd handle h e = absurd (true≢false (sym e))
each_born older (m ∷ ms) fd handle h e =
    by (or_parts (m.1 == handle) (list_any (λ k. k.1 == handle) ms) e) (each_born older ms fd handle h.1)
  where
    by : ((m.1 == handle) ≡ true) ⊎ (list_any (λ k. k.1 == handle) ms ≡ true)
        → (list_any (λ k. k.1 == handle) ms ≡ true → list_any (is_of_map handle) older ≡ true)
        → list_any (is_of_map handle) older ≡ true
    by (inl same) rest =
        latest_map older m.0 handle m.0 (h.0.1 ∙ ap (λ (p : ℕ). Some (OfMap p m.0)) (eqb-true m.1 handle same))
    by (inr later) rest = rest later

program_maps : (s : TenantState) (bs : List Birth) (fd n handle : ℕ)
    → AreInOrder s bs → latest_at bs fd ≡ Some (OfProgram n)
    → names handle (program_or (named s.objects n)) ≡ true
    → list_any (is_of_map handle) bs ≡ true
program_maps s [] fd n handle order e named_so = absurd (none-some (OfProgram n) e)
program_maps s (x ∷ older) fd n handle order e named_so =
    by (descriptor_of x == fd) (λ f. program_maps s older fd n handle order.4 f named_so) e
  where
    of_birth : (b : Birth) → b ≡ OfProgram n → IsBorn s older b → list_any (is_of_map handle) older ≡ true
    of_birth (OfMap p k) is h = absurd (let wrong : OfMap p k ≡ OfProgram n = is in cc wrong)
    of_birth (OfProgram k) is (l, there, maps) =
        let same : k ≡ n = (let f : OfProgram k ≡ OfProgram n = is in cc f) in
        each_born older l.maps k handle maps
        (ap (λ (o : Option OpenObject). names handle (program_or o)) (sym (ap (named s.objects) (sym same) ∙ there))
        ∙ named_so)

    by : (here : Bool)
        → (latest_at older fd ≡ Some (OfProgram n) → list_any (is_of_map handle) older ≡ true)
        → (if here then Some x else latest_at older fd) ≡ Some (OfProgram n)
        → (is_of_map handle x || list_any (is_of_map handle) older) ≡ true
    by true rest e =
        or_right (is_of_map handle x) (list_any (is_of_map handle) older)
        (of_birth x (same_Some x (OfProgram n) e) order.3)
    by false rest e = or_right (is_of_map handle x) (list_any (is_of_map handle) older) (rest e)

-- each map that an object names was born
named_born : (s : TenantState) (bs : List Birth) (handle : ℕ)
    → AreInOrder s bs → NamesAt (at_births s bs) handle
    → list_any (is_of_map handle) bs ≡ true
named_born s bs handle order h =
    by (latest_at bs h.fd) refl (ap (names handle) (same_Some (object_of s (latest_at bs h.fd)) h.o h.at) ∙ h.named)
  where
    by : (b : Option Birth)
        → latest_at bs h.fd ≡ b → names handle (object_of s b) ≡ true
        → list_any (is_of_map handle) bs ≡ true
    by None is e = absurd (true≢false (sym e))
    by (Some (OfMap p n)) is e =
        latest_map bs h.fd handle n (is ∙ ap (λ (q : ℕ). Some (OfMap q n)) (eqb-true p handle e))
    by (Some (OfProgram n)) is e = program_maps s bs h.fd n handle order is e

-- ---- the walk

module _ (held : MapsAreHeld) (bisimulation : AlikeIsBisimulation)
    (same_verdict : SameObjectsSameVerdict) (s : TenantState) (whole : IsRestorable s) where
  without : Birth → List Birth → Opened
  without b older = set_at (at_births s older) (descriptor_of b) None

  only_free : (b : Birth) (older : List Birth) → IsDescriptor (descriptor_of b) → IsOnlyFree (without b older) (descriptor_of b)
  unfolding without
  only_free b older is = record {
    descriptor = is;
    free = set_same (at_births s older) (descriptor_of b) None;
    others = λ other _ apart. ap is_some (set_other (at_births s older) (descriptor_of b) None other apart);
  }

  -- no object names a map before the map is born
  unnamed : (b : Birth) (older : List Birth) (handle : ℕ)
      → AreInOrder s older → list_any (is_of_map handle) older ≡ false
      → is_named (table (without b older)) handle ≡ false
  unfolding without
  unnamed b older handle order none = by (is_named (table (without b older)) handle) refl
    where
      older_at : NamesAt (without b older) handle → NamesAt (at_births s older) handle
      older_at h = by_handle (cases_eq h.fd (descriptor_of b))
        where
          by_handle : (h.fd ≡ descriptor_of b) ⊎ (h.fd ≡ descriptor_of b → ⊥) → NamesAt (at_births s older) handle
          by_handle (inl same) =
              absurd (none-some h.o
              (sym (ap (without b older) same ∙ set_same (at_births s older) (descriptor_of b) None) ∙ h.at))
          by_handle (inr other) = record {
            fd = h.fd;
            descriptor = h.descriptor;
            o = h.o;
            at = sym (set_other (at_births s older) (descriptor_of b) None h.fd other) ∙ h.at;
            named = h.named;
          }

      by : (x : Bool)
          → is_named (table (without b older)) handle ≡ x
          → is_named (table (without b older)) handle ≡ false
      by true e =
          absurd (true≢false (sym (named_born s older handle order (older_at (names_at (without b older) handle e)))
          ∙ none))
      by false e = e

  -- the maps of a program are open when it is loaded
  are_open : (fd : ℕ) (older : List Birth) (ms : List (ℕ × ℕ))
      → AreInOrder s older
      → AllByRecursion (λ m. (m.0 ≢ fd) × (latest_at older m.0 ≡ Some (OfMap m.1 m.0))) ms
      → AreOpen (without (OfProgram fd) older) ms
  unfolding without
  are_open fd older [] order h = tt
  are_open fd older (m ∷ ms) order h = (
    (
      latest_descriptor s older m.0 (OfMap m.1 m.0) order h.0.1,
      set_other (at_births s older) fd None m.0 h.0.0 ∙ ap (λ (b : Option Birth). Some (object_of s b)) h.0.1,
    ),
    are_open fd older ms order h.1,
  )

  making : (b : Birth) (older : List Birth) (t : TenantState)
      → IsDescriptor (descriptor_of b) → AreInOrder s older
      → IsBorn s older b → Follows (state_of s (without b older)) t
      → LeadsTo t (made s b) (state_of s (set_at (without b older) (descriptor_of b) (Some (object_of s (Some b)))))
  making (OfMap handle fd) older t is order (live_so, none) h =
      let (m, there) = is_there (live s handle) live_so in
      subst (λ (o : Option Map).
      LeadsTo t (made_map fd o) (state_of s (set_at (without (OfMap handle fd) older) fd (Some (object.Map handle)))))
      (sym there)
      (map_leads held bisimulation s (without (OfMap handle fd) older) t fd handle m h
      (only_free (OfMap handle fd) older is) there (whole.maps handle m there)
      (unnamed (OfMap handle fd) older handle order none)
      whole.area)
  making (OfProgram fd) older t is order (l, there, maps) h =
      let f = without (OfProgram fd) older in
      let answer =
      load_answer s f l (whole.programs fd l there) (are_open fd older l.maps order maps)
      same_verdict fd (only_free (OfProgram fd) older is) in
      let one =
      follows held bisimulation (state_of s f) t (load_of l.insns)
      (opens fd (state_of s (set_at f fd (Some (object.Program l)))))
      h answer in
      subst (λ (o : Option OpenObject). LeadsTo t (made_program o) (state_of s (set_at f fd (Some (program_or o)))))
      (sym there)
      (record { end = one.b.after; leads = (one.b, one.answers, (fd, one.status), refl); after = one.after })

  close_here : (b : Birth) (older : List Birth)
      → IsDescriptor (descriptor_of b)
      → Answers false (state_of s (at_births s older)) (close (descriptor_of b)) (gives [] (state_of s (without b older)))
  unfolding without
  close_here b older is =
      close_answer s (at_births s older) (descriptor_of b) (object_of s (latest_at older (descriptor_of b))) is refl

  next_here : (b : Birth) (older : List Birth)
      → set_at (without b older) (descriptor_of b) (Some (object_of s (Some b))) ≡ at_births s (b ∷ older)
  unfolding without
  next_here b older = next_birth s b older

  -- with fillers at all descriptors, the commands of births in order lead to a state with the objects that were born
  pub walk : (bs : List Birth) (t : TenantState)
      → AreInOrder s bs → Follows (state_of s (at_births s [])) t
      → LeadsTo t (born s bs) (state_of s (at_births s bs))
  walk [] t order h = record { end = t; leads = refl; after = h }
  walk (b ∷ older) t (low, high, apart, is, order) h =
      let before = walk older t order h in
      let descriptor : IsDescriptor (descriptor_of b) = record { low = low; high = high } in
      let closes =
      follows held bisimulation (state_of s (at_births s older)) before.end (close (descriptor_of b))
      (gives [] (state_of s (without b older))) before.after
      (close_here b older descriptor) in
      let makes = making b older closes.b.after descriptor order is closes.after in
      record {
        end = makes.end;
        leads =
            leads_then (born s older) (close (descriptor_of b) ∷ made s b) t before.end makes.end
            before.leads
            (closes.b, closes.answers, (0, closes.status), makes.leads);
        after = subst (λ (f : Opened). Follows (state_of s f) makes.end) (next_here b older) makes.after;
      }
