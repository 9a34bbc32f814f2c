-- The maps before and after a run.
use Rattle.std.proofs.Common.{◌≡◌, ℕ, suc, ◌+◌, ◌<◌, ◌≤◌, Bool, true, false, cond, not, List, [], ◌∷◌, length, set, get_or, Option, Some}
use Rattle.std.proofs.Common.{None, IsSome, refl, sym, ap, subst, ◌∙◌, inl, inr, arith, length-set, get_or-set_same, get_or-set_other}
use Rattle.std.specs.Prelude.{◌⊎◌, ◌==◌, nat_lt, option_map, slice_index, if◌then◌else◌}
use Rattle.std.specs.List.{position, position_or_len}
use Rattle.std.specs.Map.{lookup, keys_of}
use Rattle.std.proofs.Math.Path.{fun_ext}
use Rattle.std.proofs.lemmas.Bool.{cases_eq, cases_lt, ne_eqb, lt-ltb, ltb-true, ltb-false}
use Rattle.std.proofs.lemmas.List.{ext_get_or}
use Rattle.std.proofs.lemmas.List.Quantifiers.{position-Some}
use Rattle.bpf_maps.specs.Live.{LiveMaps, live_at, map_in}
use Rattle.bpf_helpers.specs.Stands.{IsElsewhere}
use Rattle.flat_machine.specs.Runs.{Standing, given_maps, bound_handle, RunKeepsMaps, KeepsValues}
use Rattle.tagged_model.specs.Cells.{and_then}
use Rattle.tagged_model.specs.Step.{MapsByDescriptor}
use Rattle.verifier.specs.Maps.{maps_of}
use Rattle.tenant.specs.Kept.{KeptTenant, IsWellFormedTenant, IsBound, times_listed, at_handles, map_at, state_in}
use Rattle.tenant.specs.Loaded.{LoadedProgram, map_handles}
use Rattle.verifier.specs.Laws.{MapsAreListed}
use Rattle.tenant.specs.Machine.{maps_given, maps_left}
use Rattle.bpf_maps.specs.Limits.{most_maps}
use Rattle.tenant.specs.State.{Map, live}
use Rattle.tenant.proofs.AtHandles.{length-at, at-within, at-past, map_there, other_at}
use Rattle.tenant.proofs.LookUps.{live_is}
use Rattle.tenant.proofs.LoadingHandles.{seconds, length-seconds, length-firsts}
use Rattle.tenant.proofs.Releases.{one_at}
use Rattle.tenant.proofs.TestRunHandles.{listed_handle, handle_at, times_here}
use Rattle.tenant.proofs.TestRunKeys.{descriptor_at, entry, handle_within}

-- ---- the maps before the run

module _ (p : ℕ → Bool) where
  found_first : (x : ℕ) (xs : List ℕ) → p x ≡ true → position p (x ∷ xs) ≡ Some 0
  found_first x xs passes =
      let first : position_or_len p (x ∷ xs) ≡ 0 =
      ap (λ (b : Bool). cond (not b) (1 + position_or_len p xs) 0) passes in
      ap (λ (n : ℕ). cond (nat_lt n (length (x ∷ xs))) (Some n) None) first
      ∙ ap (λ (b : Bool). cond b (Some 0) None) (lt-ltb 0 (length (x ∷ xs)) (omega arith))

  found_later : (x : ℕ) (xs : List ℕ) → p x ≡ false → position p (x ∷ xs) ≡ option_map (λ i. suc i) (position p xs)
  found_later x xs fails =
      let n = position_or_len p xs in
      let first : position_or_len p (x ∷ xs) ≡ 1 + n =
      ap (λ (b : Bool). cond (not b) (1 + position_or_len p xs) 0) fails in
      ap (λ (m : ℕ). cond (nat_lt m (length (x ∷ xs))) (Some m) None) first
      ∙ by (nat_lt n (length xs)) (nat_lt (1 + n) (length (x ∷ xs))) refl refl
    where
      by : (b c : Bool)
          → nat_lt (position_or_len p xs) (length xs) ≡ b
          → nat_lt (1 + position_or_len p xs) (length (x ∷ xs)) ≡ c
          → cond c (Some (1 + position_or_len p xs)) None
          ≡ option_map (λ i. suc i) (cond b (Some (position_or_len p xs)) None)
      by true true e f =
          let next : 1 + position_or_len p xs ≡ suc (position_or_len p xs) = omega arith in ap (λ (m : ℕ). Some m) next
      by false false e f = refl
      by true false e f =
          absurd (let lt = ltb-true (position_or_len p xs) (length xs) e in
          let ge = ltb-false (1 + position_or_len p xs) (length (x ∷ xs)) f in
          omega arith)
      by false true e f =
          absurd (let ge = ltb-false (position_or_len p xs) (length xs) e in
          let lt = ltb-true (1 + position_or_len p xs) (length (x ∷ xs)) f in
          omega arith)

-- the handle of a descriptor is that of its entry
lookup_is : (maps : List (ℕ × ℕ)) (fd : ℕ)
    → lookup (λ m. m == fd) maps ≡ option_map (λ i. listed_handle maps i) (position (λ m. m == fd) (keys_of maps))
lookup_is [] fd = refl
lookup_is (m ∷ ms) fd = by (m.0 == fd) refl (lookup_is ms fd)
  where
    later : (o : Option ℕ)
        → option_map (λ i. listed_handle ms i) o
        ≡ option_map (λ i. listed_handle (m ∷ ms) i) (option_map (λ i. suc i) o)
    later None = refl
    later (Some i) = refl

    by : (b : Bool)
        → (m.0 == fd) ≡ b
        → lookup (λ k. k == fd) ms ≡ option_map (λ i. listed_handle ms i) (position (λ k. k == fd) (keys_of ms))
        → cond (m.0 == fd) (Some m.1) (lookup (λ k. k == fd) ms)
        ≡ option_map (λ i. listed_handle (m ∷ ms) i) (position (λ k. k == fd) (m.0 ∷ keys_of ms))
    by true e rest =
        ap (λ (b : Bool). cond b (Some m.1) (lookup (λ k. k == fd) ms)) e
        ∙ sym (ap (option_map (λ i. listed_handle (m ∷ ms) i)) (found_first (λ k. k == fd) m.0 (keys_of ms) e))
    by false e rest =
        ap (λ (b : Bool). cond b (Some m.1) (lookup (λ k. k == fd) ms)) e
        ∙ rest
        ∙ later (position (λ k. k == fd) (keys_of ms))
        ∙ sym (ap (option_map (λ i. listed_handle (m ∷ ms) i)) (found_later (λ k. k == fd) m.0 (keys_of ms) e))

module _ (part : List ℕ) {k : KeptTenant} {l : LoadedProgram} (is : IsWellFormedTenant k)
    (bound : IsBound k.live l) (listed : MapsAreListed) where
  given_at : (o : Option ℕ)
      → ((i : ℕ) → o ≡ Some i → i < length l.maps)
      → option_map (map_in part k.live) (option_map (λ i. slice_index (map_handles l) i) o)
      ≡ and_then (option_map (λ i. listed_handle l.maps i) o) (λ handle. live (state_in part k) handle)
  given_at None within = refl
  given_at (Some i) within =
      let lt = within i refl in
      let handle = listed_handle l.maps i in
      ap (λ (n : ℕ). Some (map_in part k.live n)) (handle_at l.maps i)
      ∙ sym (map_there part k.live handle (entry is bound listed i lt).0)
      ∙ sym (live_is part k handle (handle_within is bound listed i lt))

  stands_within : (fd i : ℕ) → position (λ m. m == fd) (keys_of l.maps) ≡ Some i → i < length l.maps
  stands_within fd i e =
      let there = position-Some (λ m. m == fd) (keys_of l.maps) i 0 e in
      let long = length-firsts l.maps in
      let within = there.0 in
      omega arith

  -- the maps before the run are the machine's
  pub given_is : given_maps l.insns (map_handles l) k.live part ≡ maps_given (state_in part k) l
  given_is = fun_ext (λ fd.
      ap (λ (fds : List ℕ). option_map (λ key. map_in part k.live key) (bound_handle fds (map_handles l) fd))
      (sym bound.each)
      ∙ given_at (position (λ m. m == fd) (keys_of l.maps)) (stands_within fd)
      ∙ ap (λ (o : Option ℕ). and_then o (λ handle. live (state_in part k) handle)) (sym (lookup_is l.maps fd)))

-- ---- the maps after the run

-- if the maps after the run are those of the target under the handles of the program, and so are all others, the lists are equal
left_all : (left : MapsByDescriptor) (target : List (Option Map)) (ms : List (ℕ × ℕ))
    (maps : List (Option Map))
    → length maps ≡ length target
    → ((i : ℕ) → i < length ms
    → (listed_handle ms i < length target) × (left (descriptor_at ms i) ≡ get_or target (listed_handle ms i) None))
    → ((handle : ℕ) → times_listed handle (seconds ms) ≡ 0 → get_or maps handle None ≡ get_or target handle None)
    → maps_left left ms maps ≡ target
unfolding maps_left times_listed
left_all left target [] maps long h rest = ext_get_or None maps target long (λ i lt. rest i refl)
left_all left target (m ∷ ms) maps long h rest =
    left_all left target ms (set maps m.1 (left m.0)) (length-set maps m.1 (left m.0) ∙ long)
    (λ i lt. h (suc i) (omega arith))
    (λ handle none. by handle none (cases_eq handle m.1))
  where
    by : (handle : ℕ)
        → times_listed handle (seconds ms) ≡ 0 → (handle ≡ m.1) ⊎ (handle ≡ m.1 → ⊥)
        → get_or (set maps m.1 (left m.0)) handle None ≡ get_or target handle None
    by handle none (inl same) =
        let (within, is) = h 0 (omega arith) in
        ap (λ (p : ℕ). get_or (set maps m.1 (left m.0)) p None) same
        ∙ get_or-set_same maps m.1 (left m.0) None (omega arith)
        ∙ is
        ∙ ap (λ (p : ℕ). get_or target p None) (sym same)
    by handle none (inr other) =
        let apart : one_at m.1 handle ≡ 0 =
        ap (λ (b : Bool). if b then 1 else 0) (ne_eqb m.1 handle (λ e. other (sym e))) in
        get_or-set_other maps m.1 handle (left m.0) None other ∙ rest handle (omega arith)

-- the live maps, the bytes of the part and the count of steps
abbrev pub stood : LiveMaps → List ℕ → ℕ → Standing
stood maps part steps = record { maps = maps; part = part; steps = steps }

module _ {part later : List ℕ} {k : KeptTenant} {new : LiveMaps} {l : LoadedProgram}
    {first last : ℕ} (is : IsWellFormedTenant k) (bound : IsBound k.live l) (listed : MapsAreListed)
    (kept : RunKeepsMaps (map_handles l) k.live new)
    (values : KeepsValues (map_handles l) (stood k.live part first) (stood new later last)) where
  -- a handle that is not the program's is elsewhere
  away : (handle : ℕ) → times_listed handle (map_handles l) ≡ 0 → IsElsewhere (map_handles l) handle
  away handle none i lt same =
      let here = times_here (map_handles l) i lt in
      let same_times : times_listed (slice_index (map_handles l) i) (map_handles l) ≡ 0 =
      subst (λ (p : ℕ). times_listed p (map_handles l) ≡ 0) (sym same) none in
      omega arith

  -- a handle that is not the program's has the same map as before
  other_map : (handle : ℕ)
      → times_listed handle (map_handles l) ≡ 0
      → map_at later new handle ≡ map_at part k.live handle
  other_map handle none =
      other_at part later k.live new handle (kept.others handle (away handle none))
      (λ now. values.pairs handle (away handle none) now)

  other_handle : (handle : ℕ)
      → times_listed handle (map_handles l) ≡ 0
      → (handle < most_maps) ⊎ (most_maps ≤ handle)
      → get_or (at_handles (map_at part k.live)) handle None ≡ get_or (at_handles (map_at later new)) handle None
  other_handle handle none (inl within) =
      at-within (map_at part k.live) handle within
      ∙ sym (other_map handle none)
      ∙ sym (at-within (map_at later new) handle within)
  other_handle handle none (inr past) =
      at-past (map_at part k.live) handle past ∙ sym (at-past (map_at later new) handle past)

  -- if the machine's run leaves the bound maps of the code's run, the lists of all maps after them are equal
  pub left_is : (left : MapsByDescriptor)
      → ((i : ℕ) → i < length (map_handles l)
      → left (slice_index (maps_of l.insns) i) ≡ Some (map_in later new (slice_index (map_handles l) i)))
      → maps_left left l.maps (at_handles (map_at part k.live)) ≡ at_handles (map_at later new)
  left_is left each =
      let all = length-at (map_at later new) in
      let long = length-seconds l.maps in
      left_all left (at_handles (map_at later new)) l.maps (at_handles (map_at part k.live))
      (length-at (map_at part k.live) ∙ sym all)
      (λ i lt. let here = handle_within is bound listed i lt in (
        omega arith,
        ap (λ (fds : List ℕ). left (slice_index fds i)) bound.each
            ∙ each i (omega arith)
            ∙ ap (λ (n : ℕ). Some (map_in later new n)) (handle_at l.maps i)
            ∙ sym (map_there later new (listed_handle l.maps i)
            (subst (λ (n : ℕ). IsSome (live_at new n)) (handle_at l.maps i) (kept.live i (omega arith))))
            ∙ sym (at-within (map_at later new) (listed_handle l.maps i) here),
      ))
      (λ handle none. other_handle handle none (cases_lt handle most_maps))
