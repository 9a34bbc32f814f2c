-- The state after a descriptor is closed.
use Rattle.std.proofs.Common.{◌≡◌, ℕ, zero, suc, ◌+◌, ◌-◌, ◌≤◌, ◌<◌, IsSome, map, Bool, true, false, List, [], ◌∷◌, length}
use Rattle.std.proofs.Common.{set, get_or, Option, Some, None, refl, sym, ap, ap₂, subst, ◌∙◌, inl, inr, arith, length-set}
use Rattle.std.specs.Prelude.{◌==◌, ◌||◌, ◌⊎◌, nat_lt, slice_get, if◌then◌else◌}
use Rattle.std.specs.Map.{lookup}
use Rattle.std.specs.List.{list_any}
use Rattle.std.specs.Option.{option_map_or}
use Rattle.std.proofs.Math.Bool.{true-or}
use Rattle.std.proofs.lemmas.Bool.{eq-eqb, ltb-false}
use Rattle.std.proofs.lemmas.List.{ext_get_or}
use Rattle.std.proofs.lemmas.Option.{none-some, same_Some, get_or_from_slice_get}
use Rattle.bpf_maps.specs.Live.{LiveMaps, LiveMap, live_or, live_at, references_at}
use Rattle.fd_table.specs.Table.{first_descriptor, named, with_closed, flattened}
use Rattle.tenant.specs.declared.object.OpenObject.{OpenObject}
use Rattle.tenant.specs.declared.object.OpenObject.TheVariants as object
use Rattle.tenant.specs.Loaded.{LoadedProgram}
use Rattle.bpf_maps.specs.Sum.{total}
use Rattle.tenant.specs.Machine.{gives, closed}
use Rattle.bpf_maps.specs.Limits.{most_maps}
use Rattle.tenant.specs.State.{Map, names, is_named, named_from, with_objects}
use Rattle.tenant.specs.Kept.{KeptTenant, IsWellFormedTenant, IsBound, times_listed, times_named, by_descriptor, holders, at_handles, map_at, state_in}
use Rattle.tenant.proofs.AtHandles.{length-at, at-within, live_or_not, held_is_live, none_there, same_map_at}
use Rattle.tenant.specs.inside.Leaves.{LeavesHeldMaps}
use Rattle.tenant.proofs.Sums.{total-unset, total-part}
use Rattle.tenant.proofs.Opened.{unset_cases}
use Rattle.tenant.proofs.StillKept.{with_both}

-- ---- a test that is true if a number is not 0

abbrev Tells : Bool → ℕ → Type 0
Tells b n = ((b ≡ true) × (1 ≤ n)) ⊎ ((b ≡ false) × (n ≡ 0))

tells_if : (b : Bool) → Tells b (if b then 1 else 0)
tells_if true = inl (refl, omega arith)
tells_if false = inr (refl, refl)

tells_or : (a b : Bool) (m n : ℕ) → Tells a m → Tells b n → Tells (a || b) (m + n)
tells_or a b m n (inl (a_is, some)) h = inl (ap (λ (x : Bool). x || b) a_is ∙ true-or b, omega arith)
tells_or a b m n (inr (a_is, none)) (inl (b_is, some)) = inl (ap₂ (λ (x y : Bool). x || y) a_is b_is, omega arith)
tells_or a b m n (inr (a_is, none)) (inr (b_is, too)) = inr (ap₂ (λ (x y : Bool). x || y) a_is b_is, omega arith)

tells_times : (handle : ℕ) (ms : List (ℕ × ℕ))
    → Tells (list_any (λ m. m.1 == handle) ms) (times_listed handle (map (λ m. m.1) ms))
unfolding times_listed
tells_times handle [] = inr (refl, refl)
tells_times handle (m ∷ ms) =
    tells_or (m.1 == handle) (list_any (λ m. m.1 == handle) ms) (if m.1 == handle then 1 else 0)
    (times_listed handle (map (λ m. m.1) ms)) (tells_if (m.1 == handle))
    (tells_times handle ms)

tells_names : (handle : ℕ) (o : OpenObject) → Tells (names handle o) (times_named handle o)
tells_names handle (object.Map p) = tells_if (p == handle)
tells_names handle (object.Program l) = tells_times handle l.maps

tells_first : (handle : ℕ) (o : Option OpenObject)
    → Tells (option_map_or (names handle) o false) (option_map_or (times_named handle) o 0)
tells_first handle None = inr (refl, refl)
tells_first handle (Some o) = tells_names handle o

-- a map is named if and only if it has a holder
tells_named : (handle : ℕ) (objects : List (Option OpenObject))
    → Tells (is_named objects handle) (holders handle objects)
unfolding total
tells_named handle [] = inr (refl, refl)
tells_named handle (o ∷ os) =
    tells_or (option_map_or (names handle) o false) (is_named os handle)
    (option_map_or (times_named handle) o 0) (holders handle os)
    (tells_first handle o) (tells_named handle os)

-- ---- the maps that are still named

length-named : (objects : List (Option OpenObject)) (handle : ℕ) (ms : List (Option Map))
    → length (named_from objects handle ms) ≡ length ms
unfolding named_from
length-named objects handle [] = refl
length-named objects handle (m ∷ ms) = let rest = length-named objects (handle + 1) ms in omega arith

nothing : (b : Bool) → let none : Option Map = None in (if b then none else none) ≡ none
nothing true = refl
nothing false = refl

get_or-named : (objects : List (Option OpenObject)) (handle i : ℕ) (ms : List (Option Map))
    → get_or (named_from objects handle ms) i None ≡ (if is_named objects (handle + i) then get_or ms i None else None)
unfolding named_from
get_or-named objects handle i [] = sym (nothing (is_named objects (handle + i)))
get_or-named objects handle zero (m ∷ ms) =
    let e : handle ≡ handle + 0 = omega arith in ap (λ (p : ℕ). if is_named objects p then m else None) e
get_or-named objects handle (suc i) (m ∷ ms) =
    let e : handle + 1 + i ≡ handle + suc i = omega arith in
    get_or-named objects (handle + 1) i ms ∙ ap (λ (p : ℕ). if is_named objects p then get_or ms i None else None) e

-- the maps that are still live are those that an open object names
still_named : (objects : List (Option OpenObject)) (old t : LiveMaps) (part later : List ℕ)
    → LeavesHeldMaps (record { live = old; part = part }) (record { live = t; part = later })
    → ((q : ℕ) → references_at t q ≡ holders q objects)
    → at_handles (map_at later t) ≡ named_from objects 0 (at_handles (map_at part old))
still_named objects old t part later left held =
    ext_get_or None (at_handles (map_at later t)) (named_from objects 0 (at_handles (map_at part old)))
    (length-at (map_at later t)
    ∙ sym (length-at (map_at part old))
    ∙ sym (length-named objects 0 (at_handles (map_at part old))))
    (λ i lt.
    let within : i < most_maps = (let long = length-at (map_at later t) in omega arith) in
    at-within (map_at later t) i within
    ∙ at_handle i (live_or_not (live_at t i)) (tells_named i objects)
    ∙ sym (named_at i within))
  where
    named_at : (i : ℕ)
        → i < most_maps
        → get_or (named_from objects 0 (at_handles (map_at part old))) i None
        ≡ (if is_named objects i then map_at part old i else None)
    named_at i within =
        let e : 0 + i ≡ i = omega arith in
        get_or-named objects 0 i (at_handles (map_at part old))
        ∙ ap₂ (λ (p : ℕ) (o : Option Map). if is_named objects p then o else None) e
        (at-within (map_at part old) i within)

    at_handle : (i : ℕ)
        → IsSome (live_at t i) ⊎ (live_at t i ≡ None)
        → Tells (is_named objects i) (holders i objects)
        → map_at later t i ≡ (if is_named objects i then map_at part old i else None)
    at_handle i (inl live) (inl (is_named_so, some)) =
        let (was, same) = left.stays i live in
        same_map_at part later old t i was live same
        ∙ sym (ap (λ (b : Bool). if b then map_at part old i else None) is_named_so)
    at_handle i (inl live) (inr (isnt, none)) =
        absurd (let some = left.held.some i live in let all = held i in omega arith)
    at_handle i (inr gone) (inl (is_named_so, some)) =
        absurd (let none : references_at t i ≡ 0 = ap (λ (o : Option LiveMap). (live_or o).holds) gone in
        let all = held i in
        omega arith)
    at_handle i (inr gone) (inr (isnt, none)) =
        none_there later t i gone ∙ sym (ap (λ (b : Bool). if b then map_at part old i else None) isnt)

-- ---- a descriptor that is closed

-- the object of the descriptor is at the descriptor's index
pub closed_at : (objects : List (Option OpenObject)) (fd : ℕ) (o : OpenObject)
    → named objects fd ≡ Some o
    → (with_closed objects fd ≡ set objects (fd - first_descriptor) None)
    × (get_or objects (fd - first_descriptor) None ≡ Some o)
    × (first_descriptor ≤ fd)
closed_at objects fd o opened = by_test (nat_lt fd first_descriptor) refl opened
  where
    at : (x : Option (Option OpenObject))
        → slice_get objects (fd - first_descriptor) ≡ x
        → flattened x ≡ Some o
        → get_or objects (fd - first_descriptor) None ≡ Some o
    at None e opened = absurd (none-some o opened)
    at (Some x) e opened = get_or_from_slice_get objects (fd - first_descriptor) x None e ∙ opened

    by_test : (low : Bool)
        → nat_lt fd first_descriptor ≡ low
        → (if low then None else flattened (slice_get objects (fd - first_descriptor))) ≡ Some o
        → ((if low then objects else set objects (fd - first_descriptor) None)
        ≡ set objects (fd - first_descriptor) None)
        × (get_or objects (fd - first_descriptor) None ≡ Some o)
        × (first_descriptor ≤ fd)
    by_test true is e = absurd (none-some o e)
    by_test false is e = (refl, at (slice_get objects (fd - first_descriptor)) refl e, ltb-false fd first_descriptor is)

-- the handle of a descriptor among a program's maps is listed at least once
pub bound_times : (ms : List (ℕ × ℕ)) (fd p : ℕ)
    → lookup (λ m. m == fd) ms ≡ Some p → 1 ≤ times_listed p (map (λ m. m.1) ms)
unfolding times_listed
bound_times [] fd p e = absurd (none-some p e)
bound_times (m ∷ ms) fd p e = by_test (m.0 == fd) (λ found. bound_times ms fd p found) e
  where
    one_if : (b : Bool) → b ≡ true → 1 ≤ (if b then 1 else 0)
    one_if true e = omega arith
    one_if false e = absurd (let wrong : false ≡ true = e in cc wrong)

    rest : (a b : ℕ) → 1 ≤ b → 1 ≤ a + b
    rest a b h = omega arith

    begins : (a b : ℕ) → 1 ≤ a → 1 ≤ a + b
    begins a b h = omega arith

    by_test : (here : Bool)
        → (lookup (λ m. m == fd) ms ≡ Some p → 1 ≤ times_listed p (map (λ m. m.1) ms))
        → (if here then Some m.1 else lookup (λ m. m == fd) ms) ≡ Some p
        → 1 ≤ (if m.1 == p then 1 else 0) + times_listed p (map (λ m. m.1) ms)
    by_test true later e =
        begins (if m.1 == p then 1 else 0) (times_listed p (map (λ m. m.1) ms))
        (one_if (m.1 == p) (eq-eqb m.1 p (same_Some m.1 p e)))
    by_test false later e = rest (if m.1 == p then 1 else 0) (times_listed p (map (λ m. m.1) ms)) (later e)

-- the descriptor of an object is closed, and the holds of the object are released
pub record IsClosed (k : KeptTenant) (objects : List (Option OpenObject)) (t : LiveMaps)
    (part later : List ℕ) (fd : ℕ) (o : OpenObject) : Type 0 where
  -- the descriptor named the object
  pub opened : named k.objects fd ≡ Some o
  -- the descriptor is closed, and no other
  pub closed : objects ≡ with_closed k.objects fd
  -- each map that is still live has the shape, keys and values of before
  pub left : LeavesHeldMaps (record { live = k.live; part = part }) (record { live = t; part = later })
  -- each map has lost as many holds as the object had of it
  pub fewer : (q : ℕ) → references_at t q + times_named q o ≡ references_at k.live q

-- after a descriptor is closed and the holds of its object are released the tenant is well formed
pub closed_kept : {k : KeptTenant} {objects : List (Option OpenObject)} {t : LiveMaps}
    {part later : List ℕ} {fd : ℕ} {o : OpenObject}
    → IsWellFormedTenant k → IsClosed k objects t part later fd o
    → IsWellFormedTenant (with_both k objects t)
closed_kept {k} {objects} {t} {part} {later} {fd} {o} is c =
    let (gone, there, low) = closed_at k.objects fd o c.opened in
    let n = fd - first_descriptor in
    let rest = set k.objects n None in
    let held : (q : ℕ) → references_at t q ≡ holders q rest = λ q.
    let now = c.fewer q in
    let was = is.held q in
    let sum = total-unset (times_named q) k.objects n o there in
    omega arith in
    let kept : IsWellFormedTenant (with_both k rest t) = record {
      all = length-set {A = Option OpenObject} k.objects n None ∙ is.all;
      maps = c.left.held;
      held = held;
      single = λ q. let was = is.single q in let sum = total-unset (by_descriptor q) k.objects n o there in omega arith;
      bound = λ i l at. still_bound rest held i l at (unset_cases k.objects n i (object.Program l) at).1;
    } in
    subst (λ (os : List (Option OpenObject)). IsWellFormedTenant (with_both k os t)) (sym (c.closed ∙ gone)) kept
  where
    still_bound : (rest : List (Option OpenObject))
        → ((q : ℕ) → references_at t q ≡ holders q rest)
        → (i : ℕ) (l : LoadedProgram) → get_or rest i None ≡ Some (object.Program l)
        → get_or k.objects i None ≡ Some (object.Program l)
        → IsBound t l
    still_bound rest held i l at stood = let was = is.bound i l stood in record {
      each = was.each;
      once = was.once;
      shaped = λ f p found.
          let (was_live, shaped) = was.shaped f p found in
          let some = bound_times l.maps f p found in
          let most = total-part (times_named p) rest i (object.Program l) at in
          let all = held p in
          let now = held_is_live t p (omega arith) in
          let (live, same) = c.left.stays p now in
          (now, shaped ∙ ap (λ (m : Map). Some m.shape) (sym same));
    }

-- the reply to a close of an open descriptor, and the state after it, are those of the machine
pub closed_is : {k old : KeptTenant} {objects : List (Option OpenObject)} {t : LiveMaps}
    {part later : List ℕ} {fd : ℕ} {o : OpenObject}
    → k ≡ old → IsWellFormedTenant k
    → IsClosed k objects t part later fd o
    → gives [] (state_in later (with_both k objects t)) ≡ closed (state_in part old) fd (named old.objects fd)
closed_is {k} {old} {objects} {t} {part} {later} {fd} {o} same is c =
    let maps = still_named objects k.live t part later c.left (closed_kept is c).held in
    ap₂ (λ (ms : List (Option Map)) (refused : Bool).
    gives [] (record { objects = objects; maps = ms; refused = k.refused || refused }))
    maps c.left.refused
    ∙ ap (λ (os : List (Option OpenObject)). gives [] (with_objects (state_in part k) os)) c.closed
    ∙ ap (closed (state_in part k) fd) (sym c.opened)
    ∙ ap (λ (x : KeptTenant). closed (state_in part x) fd (named x.objects fd)) same

-- to close a descriptor that is not open changes nothing
pub nothing_closed : (objects : List (Option OpenObject)) (fd : ℕ)
    → named objects fd ≡ None → with_closed objects fd ≡ objects
nothing_closed objects fd e = by_test (nat_lt fd first_descriptor) e
  where
    same : (xs : List (Option OpenObject)) (n : ℕ) → flattened (slice_get xs n) ≡ None → set xs n None ≡ xs
    same [] n e = refl
    same (x ∷ xs) zero e = ap (λ (y : Option OpenObject). y ∷ xs) (sym e)
    same (x ∷ xs) (suc n) e = ap (λ (ys : List (Option OpenObject)). x ∷ ys) (same xs n e)

    by_test : (low : Bool)
        → (if low then None else flattened (slice_get objects (fd - first_descriptor))) ≡ None
        → (if low then objects else set objects (fd - first_descriptor) None) ≡ objects
    by_test true e = refl
    by_test false e = same objects (fd - first_descriptor) e
