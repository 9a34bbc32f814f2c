-- The keys that are bound for a run.
use Rattle.std.proofs.Common.{◌≡◌, ℕ, zero, suc, ◌-◌, ◌<◌, Bool, true, false, cond, List, [], ◌∷◌, length, Some, IsSome, refl, sym, ap, subst, ◌∙◌, arith}
use Rattle.std.specs.Prelude.{◌==◌, slice_index}
use Rattle.std.specs.Map.{lookup, keys_of}
use Rattle.std.proofs.lemmas.Bool.{eq-eqb, eqb-true}
use Rattle.std.proofs.lemmas.Option.{slice_get-get_or}
use Rattle.bpf_maps.specs.Live.{live_at, shape_at}
use Rattle.fd_table.specs.Table.{first_descriptor, named}
use Rattle.flat_machine.specs.Runs.{AreBound}
use Rattle.tagged_model.specs.Named.{shapes_named}
use Rattle.verifier.specs.Laws.{MapsAreListed}
use Rattle.verifier.specs.Maps.{maps_of}
use Rattle.verifier.specs.Verified.{Accepted}
use Rattle.tenant.specs.declared.object.OpenObject.TheVariants as object
use Rattle.tenant.specs.Kept.{KeptTenant, IsWellFormedTenant, IsBound}
use Rattle.bpf_maps.specs.Limits.{most_maps}
use Rattle.tenant.specs.Loaded.{LoadedProgram, map_handles}
use Rattle.tenant.proofs.Closes.{closed_at}
use Rattle.tenant.proofs.LoadingHandles.{AreApart, length-seconds, length-firsts}
use Rattle.tenant.proofs.TestRunHandles.{listed_handle, handle_at, same_entry}

abbrev pub descriptor_at : List (ℕ × ℕ) → ℕ → ℕ
descriptor_at maps i = slice_index (keys_of maps) i

-- ---- the entry of a descriptor

apart_later : (x : ℕ) (xs : List ℕ) → AreApart (x ∷ xs) → AreApart xs
apart_later x xs apart i j fd a b = let e = apart (suc i) (suc j) fd a b in omega arith

-- if no descriptor is twice among the entries, that of an entry leads to the handle of this entry
pub lookup_at : (maps : List (ℕ × ℕ))
    → AreApart (keys_of maps) → (i : ℕ) → i < length maps
    → lookup (λ m. m == descriptor_at maps i) maps ≡ Some (listed_handle maps i)
lookup_at [] once i lt = absurd (omega arith)
lookup_at (m ∷ ms) once zero lt = ap (λ (b : Bool). cond b (Some m.1) (lookup (λ k. k == m.0) ms)) (eq-eqb m.0 m.0 refl)
lookup_at (m ∷ ms) once (suc i) lt =
    by (m.0 == descriptor_at ms i) refl (lookup_at ms (apart_later m.0 (keys_of ms) once) i (omega arith))
  where
    by : (b : Bool)
        → (m.0 == descriptor_at ms i) ≡ b
        → lookup (λ k. k == descriptor_at ms i) ms ≡ Some (listed_handle ms i)
        → cond (m.0 == descriptor_at ms i) (Some m.1) (lookup (λ k. k == descriptor_at ms i) ms)
        ≡ Some (listed_handle ms i)
    by true e rest =
        let long = length-firsts ms in
        let here : Some m.0 ≡ Some (descriptor_at ms i) =
        ap (λ (n : ℕ). Some n) (eqb-true m.0 (descriptor_at ms i) e) in
        let there = slice_get-get_or (keys_of ms) i 0 (omega arith) in
        absurd (let wrong = once 0 (suc i) (descriptor_at ms i) here there in omega arith)
    by false e rest = ap (λ (b : Bool). cond b (Some m.1) (lookup (λ k. k == descriptor_at ms i) ms)) e ∙ rest

-- ---- the maps under the handles of a program

module _ {k : KeptTenant} {l : LoadedProgram} (is : IsWellFormedTenant k) (bound : IsBound k.live l)
    (listed : MapsAreListed) where
  once : AreApart (keys_of l.maps)
  once = subst (λ (fds : List ℕ). AreApart fds) (sym bound.each) (λ i j fd a b. listed.once l.insns i j fd a b)

  -- the handle of an entry has a live map, of the shape with which the program was verified at its descriptor
  pub entry : (i : ℕ)
      → i < length l.maps
      → IsSome (live_at k.live (listed_handle l.maps i))
      × (shapes_named l.named (descriptor_at l.maps i) ≡ Some (shape_at k.live (listed_handle l.maps i)))
  entry i lt = bound.shaped (descriptor_at l.maps i) (listed_handle l.maps i) (lookup_at l.maps once i lt)

  -- each handle of a bound program is less than the number of handles
  pub handle_within : (i : ℕ) → i < length l.maps → listed_handle l.maps i < most_maps
  handle_within i lt = is.maps.within (listed_handle l.maps i) (entry i lt).0

  as_many : length (map_handles l) ≡ length (maps_of l.insns)
  as_many = length-seconds l.maps ∙ sym (length-firsts l.maps) ∙ ap length bound.each

  live_there : (i : ℕ) → i < length (map_handles l) → IsSome (live_at k.live (slice_index (map_handles l) i))
  live_there i lt =
      let all = length-seconds l.maps in
      subst (λ (n : ℕ). IsSome (live_at k.live n)) (sym (handle_at l.maps i)) (entry i (omega arith)).0

  -- the maps under these handles are bound to the program
  pub are_bound : (a : Accepted) → a.code ≡ l.insns → a.objects ≡ l.named → AreBound a (map_handles l) k.live
  are_bound a code objects = record {
    count = as_many ∙ ap (λ insns. length (maps_of insns)) (sym code);
    live = live_there;
    shapes = λ i lt.
        let all = length-seconds l.maps in
        ap (λ insns. shapes_named a.objects (slice_index (maps_of insns) i)) code
        ∙ ap (λ named. shapes_named named (slice_index (maps_of l.insns) i)) objects
        ∙ ap (λ (fds : List ℕ). shapes_named l.named (slice_index fds i)) (sym bound.each)
        ∙ (entry i (omega arith)).1 ∙ ap (λ (n : ℕ). Some (shape_at k.live n)) (sym (handle_at l.maps i));
    once = λ i j i_lt j_lt same. same_entry (map_handles l) bound.once i j i_lt j_lt same;
    free = λ i lt. is.maps.ended (slice_index (map_handles l) i);
  }

-- the maps of an open program are bound to it
pub bound_of : {k : KeptTenant} {l : LoadedProgram} (fd : ℕ)
    → IsWellFormedTenant k
    → named k.objects fd ≡ Some (object.Program l)
    → IsBound k.live l
bound_of {k} {l} fd is opened = is.bound (fd - first_descriptor) l (closed_at k.objects fd (object.Program l) opened).1
