-- A program is loaded again with its maps.
use Rattle.std.proofs.Common.{◌≡◌, ℕ, zero, suc, ◌+◌, ◌≤◌, Bool, true, false, List, [], ◌∷◌, ◌++◌, filter, Option}
use Rattle.std.proofs.Common.{Some, None, is_some, refl, sym, ap, ap₂, subst, ◌∙◌, inl, inr, arith, true≢false, Ok}
use Rattle.std.specs.Prelude.{◌⊎◌, ◌==◌, ◌||◌, option_map, if◌then◌else◌}
use Rattle.std.specs.List.{list_any, AllByRecursion}
use Rattle.std.specs.Map.{lookup, keys_of}
use Rattle.std.proofs.lemmas.Bool.{eq-eqb, eqb-true}
use Rattle.std.proofs.lemmas.Option.{none-some, same_Some}
use Rattle.std.proofs.lemmas.Map.Made.{is_some-lookup}
use Rattle.fd_table.specs.Table.{first_descriptor, most, with_open}
use Rattle.insn_set.specs.declared.insn.Insn.{Insn}
use Rattle.insn_set.specs.Program.{program_bytes}
use Rattle.tagged_model.specs.Cells.{and_then}
use Rattle.tagged_model.specs.declared.shape.Named.{Named}
use Rattle.tagged_model.specs.declared.shape.Target.{Target}
use Rattle.tagged_model.specs.declared.shape.Target.TheVariants as target
use Rattle.tagged_model.specs.State.{set_at}
use Rattle.verifier.specs.Maps.{maps_of, is_among, objects_at}
use Rattle.verifier.specs.Verdict.{IsAccepted}
use Rattle.tenant.specs.declared.object.OpenObject.{OpenObject}
use Rattle.tenant.specs.declared.object.OpenObject.TheVariants as object
use Rattle.tenant.specs.Loaded.{LoadedProgram}
use Rattle.tenant.specs.State.{Map, TenantState, live, names, is_named}
use Rattle.tenant.specs.Machine.{Answers, opens, object_target, entry_of, targets_from, targets, handles_from, named_handle, loaded_program, LoadsUnder}
use Rattle.saving.specs.Restored.{load_of}
use Rattle.saving.specs.Restorable.{shapes_from, IsWholeProgram}
use Rattle.saving.proofs.Moved.{or_parts}
use Rattle.saving.proofs.Closes.{length_named, live_with, live_if}
use Rattle.saving.proofs.Tables.{Opened, table, tabled, IsDescriptor, IsOnlyFree, named-table, table-open, lowest-table, named_from_at}
use Rattle.saving.proofs.States.{state_of, same_state, opened_names}

-- a verdict depends on no other descriptors than those of the maps that the program loads
abbrev pub SameObjectsSameVerdict : Type 0
SameObjectsSameVerdict =
    (code : List Insn) (a b : List Named)
    → objects_at (maps_of code) a ≡ objects_at (maps_of code) b
    → IsAccepted code a
    → IsAccepted code b

-- each map of the program is open at the descriptor by which the program names it
abbrev pub AreOpen : Opened → List (ℕ × ℕ) → Type 0
AreOpen f ms = AllByRecursion (λ m. IsDescriptor m.0 × (f m.0 ≡ Some (object.Map m.1))) ms

-- ---- the handles of its maps

abbrev bind : Option ℕ → ℕ → List (ℕ × ℕ) → List (ℕ × ℕ)
bind None fd rest = rest
bind (Some handle) fd rest = (fd, handle) ∷ rest

-- if each map of a program is open at its descriptor, the program's descriptors name these maps
pub same_handles : (f : Opened) (ms : List (ℕ × ℕ)) → AreOpen f ms → handles_from (table f) (keys_of ms) ≡ ms
unfolding handles_from
same_handles f [] h = refl
same_handles f (m ∷ ms) h =
    ap (λ (o : Option OpenObject). bind (named_handle o) m.0 (handles_from (table f) (keys_of ms)))
    (named-table f m.0 h.0.0 ∙ h.0.1)
    ∙ ap (λ (ns : List (ℕ × ℕ)). m ∷ ns) (same_handles f ms h.1)

open_at : (f : Opened) (ms : List (ℕ × ℕ)) (fd handle : ℕ)
    → AreOpen f ms → lookup (λ m. m == fd) ms ≡ Some handle
    → f fd ≡ Some (object.Map handle)
open_at f [] fd handle h e = absurd (none-some handle e)
open_at f (m ∷ ms) fd handle h e = by (m.0 == fd) refl (open_at f ms fd handle h.1) e
  where
    by : (here : Bool)
        → (m.0 == fd) ≡ here
        → (lookup (λ k. k == fd) ms ≡ Some handle → f fd ≡ Some (object.Map handle))
        → (if here then Some m.1 else lookup (λ k. k == fd) ms) ≡ Some handle
        → f fd ≡ Some (object.Map handle)
    by true is rest e =
        ap f (sym (eqb-true m.0 fd is)) ∙ h.0.1 ∙ ap (λ (p : ℕ). Some (object.Map p)) (same_Some m.1 handle e)
    by false is rest e = rest e

-- ---- the targets that the verifier reads

filter_entry : (p : ℕ → Bool) (fd : ℕ) (o : Option Target) (rest : List Named)
    → filter (λ n. p n.fd) (entry_of fd o ++ rest) ≡ (if p fd then entry_of fd o else []) ++ filter (λ n. p n.fd) rest
filter_entry p fd None rest = by (p fd)
  where
    by : (b : Bool) → filter (λ n. p n.fd) rest ≡ (if b then [] else []) ++ filter (λ n. p n.fd) rest
    by true = refl
    by false = refl
filter_entry p fd (Some t) rest = by (p fd)
  where
    e : Named
    e = record { fd = fd; target = t }

    by : (b : Bool)
        → (if b then (record { fd = fd; target = t }) ∷ filter (λ n. p n.fd) rest else filter (λ n. p n.fd) rest)
        ≡ (if b then (record { fd = fd; target = t }) ∷ [] else []) ++ filter (λ n. p n.fd) rest
    by true = refl
    by false = refl

module _ (x s : TenantState) (f : Opened) (ms : List (ℕ × ℕ)) (are_open : AreOpen f ms)
    (agree : (handle : ℕ) → is_named (table f) handle ≡ true → live x handle ≡ live s handle) where
  -- the target of the program's map with this descriptor
  abbrev shape_at : ℕ → Option Target
  shape_at fd = option_map (λ t. target.Map t.shape) (and_then (lookup (λ m. m == fd) ms) (live s))

  -- the handles of these maps are named
  named_too : (fd handle : ℕ) → IsDescriptor fd → f fd ≡ Some (object.Map handle) → is_named (table f) handle ≡ true
  named_too fd handle is there =
      named_from_at f handle
      (record { fd = fd; descriptor = is; o = object.Map handle; at = there; named = eq-eqb handle handle refl })

  seen_at : (fd : ℕ)
      → IsDescriptor fd
      → (if is_among (keys_of ms) fd then entry_of fd (and_then (f fd) (object_target x)) else [])
      ≡ entry_of fd (shape_at fd)
  seen_at fd is = by (lookup (λ m. m == fd) ms) refl
    where
      by : (o : Option ℕ)
          → lookup (λ m. m == fd) ms ≡ o
          → (if is_among (keys_of ms) fd then entry_of fd (and_then (f fd) (object_target x)) else [])
          ≡ entry_of fd (option_map (λ t. target.Map t.shape) (and_then o (live s)))
      by None e =
          let no : is_among (keys_of ms) fd ≡ false = sym (is_some-lookup (λ m. m == fd) ms) ∙ ap is_some e in
          ap (λ (b : Bool). if b then entry_of fd (and_then (f fd) (object_target x)) else []) no
      by (Some handle) e =
          let yes : is_among (keys_of ms) fd ≡ true = sym (is_some-lookup (λ m. m == fd) ms) ∙ ap is_some e in
          let there = open_at f ms fd handle are_open e in
          ap (λ (b : Bool). if b then entry_of fd (and_then (f fd) (object_target x)) else []) yes
          ∙ ap (λ (o : Option OpenObject). entry_of fd (and_then o (object_target x))) there
          ∙ ap (λ (o : Option Map). entry_of fd (option_map (λ t. target.Map t.shape) o))
          (agree handle (named_too fd handle is there))

  seen_from : (fd n : ℕ)
      → first_descriptor ≤ fd → fd + n ≤ first_descriptor + most
      → filter (λ e. is_among (keys_of ms) e.fd) (targets_from x fd (tabled f fd n)) ≡ shapes_from s ms fd n
  unfolding tabled targets_from shapes_from
  seen_from fd zero low high = refl
  seen_from fd (suc n) low high =
      filter_entry (is_among (keys_of ms)) fd (and_then (f fd) (object_target x))
      (targets_from x (fd + 1) (tabled f (fd + 1) n))
      ∙ ap₂ (λ (a b : List Named). a ++ b)
      (seen_at fd (record { low = low; high = omega arith }))
      (seen_from (fd + 1) n (omega arith) (omega arith))

  -- the targets that the verifier reads at the program's descriptors are the shapes of its maps
  pub seen :
      objects_at (keys_of ms) (targets_from x first_descriptor (table f)) ≡ shapes_from s ms first_descriptor most
  seen = seen_from first_descriptor most (omega arith) (omega arith)

-- ---- the load

-- a map of a program is named if each of the program's maps is open at its descriptor
pub open_named : (f : Opened) (ms : List (ℕ × ℕ)) (handle : ℕ)
    → AreOpen f ms → list_any (λ m. m.1 == handle) ms ≡ true
    → is_named (table f) handle ≡ true
open_named f [] handle h e = absurd (true≢false (sym e))
open_named f (m ∷ ms) handle h e =
    by (or_parts (m.1 == handle) (list_any (λ k. k.1 == handle) ms) e) (open_named f ms handle h.1)
  where
    by : ((m.1 == handle) ≡ true) ⊎ (list_any (λ k. k.1 == handle) ms ≡ true)
        → (list_any (λ k. k.1 == handle) ms ≡ true → is_named (table f) handle ≡ true)
        → is_named (table f) handle ≡ true
    by (inl here) rest =
        named_from_at f handle (record { fd = m.0; descriptor = h.0.0; o = object.Map m.1; at = h.0.1; named = here })
    by (inr later) rest = rest later

module _ (s : TenantState) (f : Opened) (l : LoadedProgram) (whole : IsWholeProgram s l)
    (are_open : AreOpen f l.maps) where
  named_again : objects_at (maps_of l.insns) (targets (state_of s f)) ≡ l.named
  named_again =
      ap (λ (fds : List ℕ). objects_at fds (targets (state_of s f))) (sym whole.bound)
      ∙ seen (state_of s f) s f l.maps are_open (λ handle e. live_if s (table f) handle e)
      ∙ sym whole.shaped

  loaded : loaded_program (state_of s f) l.insns ≡ l
  loaded =
      ap₂ (λ (ns : List Named) (ms : List (ℕ × ℕ)). record { insns = l.insns; named = ns; maps = ms }) named_again
      (ap (handles_from (table f)) (sym whole.bound) ∙ same_handles f l.maps are_open)

  accepted_again : SameObjectsSameVerdict → IsAccepted l.insns (targets (state_of s f))
  accepted_again same =
      same l.insns whole.named (targets (state_of s f)) (sym whole.picked ∙ sym named_again) whole.accepted

  -- the handles that the program names were named before
  names_old : (handle : ℕ) → names handle (object.Program l) ≡ true → is_named (table f) handle ≡ true
  names_old handle e = open_named f l.maps handle are_open e

  -- the load of the program succeeds, and opens it at the only free descriptor
  pub load_answer : SameObjectsSameVerdict
      → (fd : ℕ) → IsOnlyFree f fd
      → Answers false (state_of s f) (load_of l.insns) (opens fd (state_of s (set_at f fd (Some (object.Program l)))))
  load_answer same fd free =
      subst (λ (o : Option ℕ).
      LoadsUnder false (state_of s f) o (program_bytes l.insns)
      (opens fd (state_of s (set_at f fd (Some (object.Program l))))))
      (sym (lowest-table f fd free))
      (Ok l.insns, (whole.program, refl, accepted_again same), ap (opens fd) (sym after))
    where
      either : (a b : Bool) → (a ≡ true → b ≡ true) → (a || b) ≡ b
      either true b h = sym (h refl)
      either false b h = refl

      after :
          record (state_of s f) { objects = with_open (table f) fd (object.Program (loaded_program (state_of s f) l.insns)) }
          ≡ state_of s (set_at f fd (Some (object.Program l)))
      after =
          same_state s (set_at f fd (Some (object.Program l)))
          (record (state_of s f) {
            objects = with_open (table f) fd (object.Program (loaded_program (state_of s f) l.insns));
          })
          (ap (λ (k : LoadedProgram). with_open (table f) fd (object.Program k)) loaded
          ∙ table-open f fd (object.Program l) free.descriptor)
          (length_named (table f) 0 s.maps)
          (λ handle.
          live_with s (table f) handle
          ∙ ap (λ (b : Bool). if b then live s handle else None)
          (sym (opened_names f fd (object.Program l) handle free
          ∙ either (names handle (object.Program l)) (is_named (table f) handle) (names_old handle))))
          refl
