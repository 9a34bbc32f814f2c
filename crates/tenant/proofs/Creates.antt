-- The state after a map is created.
use Rattle.std.proofs.Common.{◌≡◌, ◌≢◌, ℕ, ◌+◌, ◌-◌, ◌≤◌, ◌<◌, Bool, true, false, List, [], length, get_or, Option, Some, None}
use Rattle.std.proofs.Common.{IsSome, is_some, Result, Ok, Err, refl, sym, ap, ap₂, subst, ◌∙◌, inl, inr, arith, length-set}
use Rattle.std.specs.Prelude.{◌||◌, ◌⊎◌, nat_lt, is_none, if◌then◌else◌}
use Rattle.std.proofs.Math.Bool.{or-true}
use Rattle.std.proofs.lemmas.Option.{none-some, same_Some}
use Rattle.bpf_maps.specs.declared.part.TheConstants.{MAPS, LARGEST_SUM}
use Rattle.bpf_maps.specs.Live as live
use Rattle.bpf_maps.specs.Live.{LiveMaps, LiveMap, live_or, live_at, references_at, keys_at, map_in, areas}
use Rattle.tagged_model.specs.Table.{shape_area}
use Rattle.bpf_maps.specs.Live.{create_fault, Creates, IsCreated, KeepsMaps}
use Rattle.bpf_maps.specs.KeyTable.{KeyTable}
use Rattle.fd_table.specs.Table.{first_descriptor, lowest, with_open}
use Rattle.tagged_model.specs.declared.fault.MapFault.{MapFault}
use Rattle.tagged_model.specs.declared.fault.MapFault.TheVariants as fault
use Rattle.tagged_model.specs.declared.shape.MapShape.{MapShape}
use Rattle.tenant.specs.declared.object.OpenObject.{OpenObject}
use Rattle.tenant.specs.declared.object.OpenObject.TheVariants as object
use Rattle.tenant.specs.Loaded.{LoadedProgram}
use Rattle.bpf_maps.specs.Limits.{most_bytes, most_maps}
use Rattle.tenant.specs.State.{Map, free_handle}
use Rattle.tenant.specs.declared.errno.Errno.TheVariants.{NoMemory}
use Rattle.tenant.specs.Errno.{map_errno}
use Rattle.tenant.specs.Machine.{refuses, room_for, new_map, created, created_under, created_as, created_at}
use Rattle.tenant.specs.Kept.{KeptTenant, IsWellFormedTenant, AreHeld, IsBound, times_named, by_descriptor, holders, descriptors, at_handles, map_at, state_in}
use Rattle.tenant.proofs.AtHandles.{at_each, set_at, free_at, map_if, map_there, none_there, live_or_not, not_live, same_map_at}
use Rattle.tenant.proofs.Releases.{here_one, none_one}
use Rattle.tenant.proofs.LiveSums.{areas_are}
use Rattle.tenant.proofs.Sums.{total-less}
use Rattle.tenant.proofs.Opened.{set_cases, index_free, descriptor_free, opened_sum}
use Rattle.tenant.proofs.StillKept.{with_live, with_both, bound_along}

-- ---- room

same_some : (part : List ℕ) (o : Option LiveMap) → is_some (map_if part o) ≡ is_some o
same_some part None = refl
same_some part (Some l) = refl

free_is : (part : List ℕ) (k : KeptTenant)
    → length k.live.maps ≡ MAPS → free_handle (state_in part k) ≡ live.free_handle k.live
free_is part k all = free_at (map_at part k.live) k.live.maps all (λ i. same_some part (live_at k.live i))

abbrev fault_if : Option ℕ → Bool → Option MapFault
fault_if o large = if is_none o || large then Some fault.NoSpace else None

room_is : (part : List ℕ) (k : KeptTenant) (shape : MapShape)
    → AreHeld k.live → length k.live.maps ≡ MAPS
    → room_for (state_in part k) (shape_area shape)
    ≡ (if nat_lt LARGEST_SUM (areas k.live + shape_area shape) then None else live.free_handle k.live)
room_is part k shape is all =
    ap₂ (λ (bytes : ℕ) (handle : Option ℕ). if nat_lt most_bytes (bytes + shape_area shape) then None else handle)
    (areas_are part k is) (free_is part k all)

-- a fault is reported only if there is no room, and then it is NoSpace
lost : (o : Option ℕ) (large : Bool) (f : MapFault)
    → fault_if o large ≡ Some f → (f ≡ fault.NoSpace) × ((if large then None else o) ≡ None)
lost None true f e = (sym (same_Some fault.NoSpace f e), refl)
lost None false f e = (sym (same_Some fault.NoSpace f e), refl)
lost (Some p) true f e = (sym (same_Some fault.NoSpace f e), refl)
lost (Some p) false f e = absurd (none-some f e)

room : (o : Option ℕ) (large : Bool)
    → fault_if o large ≡ None
    → (handle : ℕ) × (o ≡ Some handle) × ((if large then None else o) ≡ Some handle)
room None large e = absurd (none-some fault.NoSpace (sym e))
room (Some p) true e = absurd (none-some fault.NoSpace (sym e))
room (Some p) false e = (p, refl, refl)

-- ---- a creation that is rejected

-- a creation that succeeds has no fault, and its map is live with this handle
pub created_ok : (o : Option MapFault) (old : LiveMaps) (shape : MapShape) (key : ℕ) (new : LiveMaps)
    → Creates o old shape (Ok key) new → (o ≡ None) × IsCreated old shape key new
created_ok None old shape key new is = (refl, is)
created_ok (Some f) old shape key new (is, same) = absurd (let wrong : Ok key ≡ Err f = is in cc wrong)

-- a creation that fails has its fault, or memory is refused and only the flag of this is set
pub created_err : (o : Option MapFault) (old : LiveMaps) (shape : MapShape) (f : MapFault) (new : LiveMaps)
    → Creates o old shape (Err f) new
    → ((o ≡ Some f) × (new ≡ old))
    ⊎ ((o ≡ None) × (f ≡ fault.Memory) × (new ≡ record { maps = old.maps; refused = true }))
created_err (Some g) old shape f new (is, same) = inl (ap Some (same_fault f g is), same)
  where
    same_fault : (f g : MapFault) → let a : Result ℕ MapFault =
        Err f in let b : Result ℕ MapFault = Err g in a ≡ b → g ≡ f
    same_fault f g e = cc
created_err None old shape fault.Memory new is = inr (refl, refl, is)
created_err None old shape other new h = absurd h

-- ---- a map that is new

held_created : {old t : LiveMaps} {shape : MapShape} {m : ℕ}
    → AreHeld old → m < most_maps → IsCreated old shape m t → AreHeld t
held_created {old} {t} {shape} {m} is room new = record {
  within =
      at_each (λ q. IsSome (live_at t q) → q < most_maps) m (λ live. room)
      (λ q other live. is.within q (was q other live));
  some = at_each (λ q. IsSome (live_at t q) → 1 ≤ references_at t q) m (λ live. let one = new.holds in omega arith)
      (λ q other live.
      subst (λ (n : ℕ). 1 ≤ n)
      (sym (ap (λ (o : Option LiveMap). (live_or o).holds) (new.others q other)))
      (is.some q (was q other live)));
  ended =
      at_each (λ q. (keys_at t q).kept ≡ []) m (ap (λ (p : KeyTable). p.kept) new.keys)
      (λ q other. ap (λ (o : Option LiveMap). (live_or o).keys.kept) (new.others q other) ∙ is.ended q);
}
  where
    was : (q : ℕ) → q ≢ m → IsSome (live_at t q) → IsSome (live_at old q)
    was q other live = ap (λ (o : Option LiveMap). is_some o) (sym (new.others q other)) ∙ live

less_weight : (handle : ℕ) (o : OpenObject) → by_descriptor handle o ≤ times_named handle o
less_weight handle (object.Map p) = omega arith
less_weight handle (object.Program l) = omega arith

-- the handle was free
room_within : (k : KeptTenant) (m : ℕ) → length k.live.maps ≡ MAPS → live.free_handle k.live ≡ Some m → m < most_maps
room_within k m all low = let (within, free) = index_free k.live.maps m low in omega (arith, within, all)

abbrev pub kept_created : KeptTenant → LiveMaps → ℕ → ℕ → KeptTenant
kept_created k t fd m = with_both k (with_open k.objects fd (object.Map m)) t

-- after a new map is opened at the lowest free descriptor the tenant is well formed
pub created_kept : {k : KeptTenant} {t : LiveMaps} {shape : MapShape} {m fd : ℕ}
    → IsWellFormedTenant k → length k.live.maps ≡ MAPS
    → lowest k.objects ≡ Some fd → IsCreated k.live shape m t
    → IsWellFormedTenant (kept_created k t fd m)
created_kept {k} {t} {shape} {m} {fd} is all low new = record {
  all = length-set {A = Option OpenObject} k.objects (fd - first_descriptor) (Some (object.Map m)) ∙ is.all;
  maps = held_created is.maps (room_within k m all new.lowest) new;
  held = at_each (λ q. references_at t q ≡ holders q (with_open k.objects fd (object.Map m))) m
      (new.holds
      ∙ sym (opened_sum (times_named m) k.objects fd (object.Map m) low ∙ ap₂ (λ (a b : ℕ). a + b) unnamed one_weight))
      (λ q other. held_of q other (opened_sum (times_named q) k.objects fd (object.Map m) low));
  single =
      at_each (λ q. descriptors q (with_open k.objects fd (object.Map m)) ≤ 1) m single_here
      (λ q other. single_of q other);
  bound = λ n l there.
      bound_of n l
      (set_cases k.objects (fd - first_descriptor) n (object.Map m) (object.Program l)
      (descriptor_free k.objects fd low).0 there);
}
  where
    -- no object named the handle
    unnamed : holders m k.objects ≡ 0
    unnamed = sym (is.held m) ∙ ap (λ (o : Option LiveMap). (live_or o).holds) new.was

    one_weight : times_named m (object.Map m) ≡ 1
    one_weight = here_one m m refl

    no_weight : (q : ℕ) → q ≢ m → times_named q (object.Map m) ≡ 0
    no_weight q other = none_one m q other

    held_of : (q : ℕ)
        → q ≢ m
        → holders q (with_open k.objects fd (object.Map m)) ≡ holders q k.objects + times_named q (object.Map m)
        → references_at t q ≡ holders q (with_open k.objects fd (object.Map m))
    held_of q other sum =
        let was = is.held q in
        let same = ap (λ (o : Option LiveMap). (live_or o).holds) (new.others q other) in
        let no = no_weight q other in
        omega arith

    single_here : descriptors m (with_open k.objects fd (object.Map m)) ≤ 1
    single_here =
        let none = unnamed in
        let few : descriptors m k.objects ≤ holders m k.objects =
        total-less (by_descriptor m) (times_named m) k.objects (less_weight m) in
        let sum = opened_sum (by_descriptor m) k.objects fd (object.Map m) low in
        let one = one_weight in
        omega arith

    single_of : (q : ℕ) → q ≢ m → descriptors q (with_open k.objects fd (object.Map m)) ≤ 1
    single_of q other =
        let was = is.single q in
        let sum = opened_sum (by_descriptor q) k.objects fd (object.Map m) low in
        let no = no_weight q other in
        omega arith

    no_program : (l : LoadedProgram) → object.Program l ≢ object.Map m
    no_program l e = cc

    older : (handle : ℕ) → IsSome (live_at k.live handle) → live_at t handle ≡ live_at k.live handle
    older handle live =
        new.others handle (λ same. not_live (live_at k.live handle) live (ap (live_at k.live) same ∙ new.was))

    bound_of : (n : ℕ) (l : LoadedProgram)
        → ((n ≡ fd - first_descriptor) × (object.Program l ≡ object.Map m))
        ⊎ ((n ≢ fd - first_descriptor) × (get_or k.objects n None ≡ Some (object.Program l)))
        → IsBound t l
    bound_of n l (inl (at, wrong)) = absurd (no_program l wrong)
    bound_of n l (inr (other, at)) =
        bound_along (is.bound n l at)
        (λ handle live. ap (λ (o : Option LiveMap). is_some o) (older handle live) ∙ live)
        (λ handle live. ap (λ (o : Option LiveMap). (live_or o).keys.shape) (older handle live))

-- ---- the whole command

-- the state after a map is created is that of the machine
pub state_created : (part later : List ℕ) (k : KeptTenant) {t : LiveMaps} {shape : MapShape} {m : ℕ}
    (fd : ℕ)
    → length k.live.maps ≡ MAPS → IsCreated k.live shape m t
    → map_in later t m ≡ new_map shape → KeepsMaps k.live part t later
    → state_in later (kept_created k t fd m) ≡ (created_at false (state_in part k) shape fd m).after
state_created part later k {t} {shape} {m} fd all new fresh keeps =
    let maps =
    set_at (map_at later t) (map_at part k.live) m (Some (new_map shape))
    (room_within k m all new.lowest)
    (map_there later t m new.live ∙ ap (λ (u : Map). Some u) fresh)
    (λ i other. other_map i other (live_or_not (live_at k.live i))) in
    ap₂ (λ (ms : List (Option Map)) (refused : Bool).
    record { objects = with_open k.objects fd (object.Map m); maps = ms; refused = k.refused || refused })
    maps new.refused
  where
    other_map : (i : ℕ)
        → i ≢ m
        → IsSome (live_at k.live i) ⊎ (live_at k.live i ≡ None)
        → map_at later t i ≡ map_at part k.live i
    other_map i other (inl live) = let (now, same) = keeps i live in same_map_at part later k.live t i live now same
    other_map i other (inr none) =
        none_there later t i (new.others i other ∙ none) ∙ sym (none_there part k.live i none)

-- without a fault the machine creates the map at the lowest free descriptor and the lowest free handle
pub created_is : (refused : Bool) (part : List ℕ) (k : KeptTenant) (shape : MapShape) {handle fd : ℕ}
    → AreHeld k.live → length k.live.maps ≡ MAPS
    → lowest k.objects ≡ Some fd → create_fault k.live shape ≡ None
    → live.free_handle k.live ≡ Some handle
    → created refused (state_in part k) (Ok shape) ≡ created_at refused (state_in part k) shape fd handle
created_is refused part k shape {handle} {fd} is all low none free =
    let (p, lowest_is, room_there) =
    room (live.free_handle k.live) (nat_lt LARGEST_SUM (areas k.live + shape_area shape)) none in
    ap (λ (o : Option ℕ). created_under refused (state_in part k) shape o) low
    ∙ ap (λ (o : Option ℕ). created_as refused (state_in part k) shape fd o)
    (room_is part k shape is all ∙ room_there ∙ sym lowest_is ∙ free)

-- the reply to a creation that is rejected is the machine's for a refusal of memory or for lack of room
pub create_refused : (part : List ℕ) (k : KeptTenant) (t : LiveMaps) (shape : MapShape)
    (f : MapFault) {fd : ℕ}
    → AreHeld k.live → length k.live.maps ≡ MAPS
    → lowest k.objects ≡ Some fd
    → Creates (create_fault k.live shape) k.live shape (Err f) t
    → (refused : Bool)
    × (refuses (map_errno f) (state_in part (with_live k t)) ≡ created refused (state_in part k) (Ok shape))
create_refused part k t shape f {fd} is all low made =
    by_cause (created_err (create_fault k.live shape) k.live shape f t made)
  where
    by_cause : ((create_fault k.live shape ≡ Some f) × (t ≡ k.live))
        ⊎ ((create_fault k.live shape ≡ None)
        × (f ≡ fault.Memory)
        × (t ≡ record { maps = k.live.maps; refused = true }))
        → (refused : Bool)
        × (refuses (map_errno f) (state_in part (with_live k t)) ≡ created refused (state_in part k) (Ok shape))
    by_cause (inl (full, same)) =
        let (which, none) =
        lost (live.free_handle k.live) (nat_lt LARGEST_SUM (areas k.live + shape_area shape)) f full in (
          false,
          ap₂ (λ (g : MapFault) (u : LiveMaps). refuses (map_errno g) (state_in part (with_live k u))) which same
              ∙ sym (ap (λ (o : Option ℕ). created_under false (state_in part k) shape o) low
              ∙ ap (λ (o : Option ℕ). created_as false (state_in part k) shape fd o)
              (room_is part k shape is all ∙ none)),
        )
    by_cause (inr (none, which, flagged)) =
        let (handle, free, room_there) =
        room (live.free_handle k.live) (nat_lt LARGEST_SUM (areas k.live + shape_area shape)) none in (
          true,
          ap₂ (λ (g : MapFault) (u : LiveMaps). refuses (map_errno g) (state_in part (with_live k u))) which flagged
              ∙ ap (λ (b : Bool).
              refuses NoMemory (record { objects = k.objects; maps = at_handles (map_at part k.live); refused = b }))
              (or-true k.refused)
              ∙ sym (created_is true part k shape is all low none free),
        )

-- after a creation that is rejected the tenant is well formed
pub refused_kept : (k : KeptTenant) (t : LiveMaps) (shape : MapShape) (f : MapFault)
    → IsWellFormedTenant k
    → Creates (create_fault k.live shape) k.live shape (Err f) t
    → IsWellFormedTenant (with_live k t)
refused_kept k t shape f is made = by_cause (created_err (create_fault k.live shape) k.live shape f t made)
  where
    by_cause : ((create_fault k.live shape ≡ Some f) × (t ≡ k.live))
        ⊎ ((create_fault k.live shape ≡ None)
        × (f ≡ fault.Memory)
        × (t ≡ record { maps = k.live.maps; refused = true }))
        → IsWellFormedTenant (with_live k t)
    by_cause (inl (full, same)) = subst (λ (u : LiveMaps). IsWellFormedTenant (with_live k u)) (sym same) is
    by_cause (inr (room, which, flagged)) =
        subst (λ (u : LiveMaps). IsWellFormedTenant (with_live k u)) (sym flagged) (record {
          all = is.all;
          maps = record { within = is.maps.within; some = is.maps.some; ended = is.maps.ended };
          held = is.held;
          single = is.single;
          bound = λ n l there. bound_along (is.bound n l there) (λ handle live. live) (λ handle live. refl);
        })
