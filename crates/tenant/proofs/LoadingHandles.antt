-- The handles of the maps that descriptors name.
use Rattle.std.proofs.Common.{◌≡◌, ◌≢◌, ℕ, zero, suc, ◌+◌, ◌-◌, ◌≤◌, ◌<◌, Bool, true, false, List, [], ◌∷◌, ◌++◌, length, take}
use Rattle.std.proofs.Common.{set, map, get_or, Option, Some, None, refl, sym, ap, subst, ◌∙◌, inl, inr, arith, append_assoc}
use Rattle.std.specs.Prelude.{◌==◌, ◌⊎◌, slice_get, if◌then◌else◌}
use Rattle.std.specs.Map.{lookup, keys_of}
use Rattle.std.specs.List.{zip}
use Rattle.std.proofs.lemmas.Bool.{eqb-true, cases_eq}
use Rattle.std.proofs.lemmas.List.{append-nil, length-map}
use Rattle.std.proofs.lemmas.Option.{none-some, same_Some}
use Rattle.fd_table.specs.Table.{first_descriptor, named}
use Rattle.tenant.specs.declared.object.OpenObject.{OpenObject}
use Rattle.tenant.specs.declared.object.OpenObject.TheVariants as object
use Rattle.tenant.specs.Kept.{times_listed, by_descriptor, descriptors}
use Rattle.tenant.specs.Machine.{named_handle, handles_from}
use Rattle.bpf_maps.specs.Sum.{total}
use Rattle.tenant.proofs.Closes.{closed_at}
use Rattle.tenant.proofs.Opened.{set_there}
use Rattle.tenant.proofs.Releases.{here_one}
use Rattle.tenant.proofs.Sums.{total-unset, total-part}

-- the entry of a descriptor whose object is a map
abbrev pub handle_at : Option OpenObject → ℕ → List (ℕ × ℕ)
handle_at None fd = []
handle_at (Some (object.Map handle)) fd = (fd, handle) ∷ []
handle_at (Some (object.Program l)) fd = []

-- the entry of a descriptor with this handle
abbrev pub listed : Option ℕ → ℕ → List (ℕ × ℕ)
listed None fd = []
listed (Some handle) fd = (fd, handle) ∷ []

-- the entry of a descriptor is the one with the handle that its object names
pub listed_at : (o : Option OpenObject) (fd : ℕ) → handle_at o fd ≡ listed (named_handle o) fd
listed_at None fd = refl
listed_at (Some (object.Map handle)) fd = refl
listed_at (Some (object.Program l)) fd = refl

-- the entries of a list of descriptors are that of the first, then those of the others
pub handles_cons : (objects : List (Option OpenObject)) (fd : ℕ) (fds : List ℕ) (o : Option OpenObject)
    → named objects fd ≡ o
    → handles_from objects (fd ∷ fds) ≡ handle_at o fd ++ handles_from objects fds
unfolding handles_from
handles_cons objects fd fds None e = rw e refl
handles_cons objects fd fds (Some (object.Map handle)) e = rw e refl
handles_cons objects fd fds (Some (object.Program l)) e = rw e refl

-- the empty list of descriptors has no entries
pub handles_none : (objects : List (Option OpenObject)) → handles_from objects [] ≡ []
unfolding handles_from
handles_none objects = refl

-- the entries after one more descriptor
handles_next : (objects : List (Option OpenObject)) (fds : List ℕ) (i fd : ℕ) → i < length fds → get_or fds i 0 ≡ fd
    → handles_from objects (take (suc i) fds) ≡ handles_from objects (take i fds) ++ handle_at (named objects fd) fd
handles_next objects [] i fd within at = absurd (omega arith)
handles_next objects (x ∷ fds) zero fd within at =
    handles_cons objects x [] (named objects x) refl
    ∙ ap (λ (ms : List (ℕ × ℕ)). handle_at (named objects x) x ++ ms) (handles_none objects)
    ∙ append-nil (handle_at (named objects x) x) ∙ ap (λ (n : ℕ). handle_at (named objects n) n) at
    ∙ sym (ap (λ (ms : List (ℕ × ℕ)). ms ++ handle_at (named objects fd) fd) (handles_none objects))
handles_next objects (x ∷ fds) (suc i) fd within at =
    let here = handle_at (named objects x) x in
    handles_cons objects x (take (suc i) fds) (named objects x) refl
    ∙ ap (λ (ms : List (ℕ × ℕ)). here ++ ms) (handles_next objects fds i fd (omega arith) at)
    ∙ sym (append_assoc here (handles_from objects (take i fds)) (handle_at (named objects fd) fd))
    ∙ ap (λ (ms : List (ℕ × ℕ)). ms ++ handle_at (named objects fd) fd)
    (sym (handles_cons objects x (take i fds) (named objects x) refl))

-- one more descriptor of a list adds its entry at the end
pub handles_more : (objects : List (Option OpenObject)) (fds : List ℕ) (i fd : ℕ) → i < length fds → get_or fds i 0 ≡ fd
    → handles_from objects (take (i + 1) fds) ≡ handles_from objects (take i fds) ++ handle_at (named objects fd) fd
handles_more objects fds i fd within at =
    let e : i + 1 ≡ suc i = omega arith in
    ap (λ (n : ℕ). handles_from objects (take n fds)) e ∙ handles_next objects fds i fd within at

-- ---- if all descriptors name maps

abbrev pub AreMaps : List (Option OpenObject) → List ℕ → Type 0
AreMaps objects fds =
    (i fd : ℕ) → slice_get fds i ≡ Some fd → (handle : ℕ) × (named objects fd ≡ Some (object.Map handle))

-- if all descriptors of a list name maps, the entries have these descriptors in this order
pub handles_keys : (objects : List (Option OpenObject)) (fds : List ℕ)
    → AreMaps objects fds → keys_of (handles_from objects fds) ≡ fds
handles_keys objects [] maps = ap keys_of (handles_none objects)
handles_keys objects (fd ∷ fds) maps =
    let (handle, is) = maps 0 fd refl in
    ap keys_of (handles_cons objects fd fds (Some (object.Map handle)) is)
    ∙ ap (λ (ns : List ℕ). fd ∷ ns) (handles_keys objects fds (λ i other at. maps (suc i) other at))

-- ---- the entry of the first descriptor

-- the entry of the first descriptor is the first, or there is none
abbrev FirstHandle : List (Option OpenObject) → ℕ → List ℕ → Type 0
FirstHandle objects fd fds =
    ((p : ℕ)
    × (named objects fd ≡ Some (object.Map p))
    × (handles_from objects (fd ∷ fds) ≡ (fd, p) ∷ handles_from objects fds))
    ⊎ (handles_from objects (fd ∷ fds) ≡ handles_from objects fds)

first_handle : (objects : List (Option OpenObject)) (fd : ℕ) (fds : List ℕ) → FirstHandle objects fd fds
first_handle objects fd fds = by_object (named objects fd) refl
  where
    by_object : (o : Option OpenObject) → named objects fd ≡ o → FirstHandle objects fd fds
    by_object None is = inr (handles_cons objects fd fds None is)
    by_object (Some (object.Program l)) is = inr (handles_cons objects fd fds (Some (object.Program l)) is)
    by_object (Some (object.Map p)) is = inl (p, is, handles_cons objects fd fds (Some (object.Map p)) is)

-- a descriptor of the list names the map of the handle
abbrev IsListed : List (Option OpenObject) → List ℕ → ℕ → ℕ → Type 0
IsListed objects fds fd handle = (i : ℕ) × (slice_get fds i ≡ Some fd) × (named objects fd ≡ Some (object.Map handle))

-- a descriptor with a handle among the entries is in the list, and names the map of this handle
pub lookup_named : (objects : List (Option OpenObject)) (fds : List ℕ) (fd handle : ℕ)
    → lookup (λ m. m == fd) (handles_from objects fds) ≡ Some handle
    → (i : ℕ) × (slice_get fds i ≡ Some fd) × (named objects fd ≡ Some (object.Map handle))
lookup_named objects [] fd handle found =
    absurd (none-some handle (sym (ap (lookup (λ m. m == fd)) (handles_none objects)) ∙ found))
lookup_named objects (x ∷ fds) fd handle found =
    by_first (λ e. lookup_named objects fds fd handle e) (first_handle objects x fds)
  where
    later : IsListed objects fds fd handle → IsListed objects (x ∷ fds) fd handle
    later (i, at, is) = (suc i, at, is)

    by_test : (lookup (λ m. m == fd) (handles_from objects fds) ≡ Some handle → IsListed objects fds fd handle)
        → (p : ℕ) (here : Bool) → (x == fd) ≡ here → named objects x ≡ Some (object.Map p)
        → (if here then Some p else lookup (λ m. m == fd) (handles_from objects fds)) ≡ Some handle
        → IsListed objects (x ∷ fds) fd handle
    by_test rest p true same is e =
        let same : x ≡ fd = eqb-true x fd same in (
          0,
          ap Some same,
          ap (named objects) (sym same) ∙ is ∙ ap (λ (q : ℕ). Some (object.Map q)) (same_Some p handle e),
        )
    by_test rest p false same is e = later (rest e)

    by_first : (lookup (λ m. m == fd) (handles_from objects fds) ≡ Some handle → IsListed objects fds fd handle)
        → FirstHandle objects x fds → IsListed objects (x ∷ fds) fd handle
    by_first rest (inl (p, is, more)) = by_test rest p (x == fd) refl is (sym (ap (lookup (λ m. m == fd)) more) ∙ found)
    by_first rest (inr same) = later (rest (sym (ap (lookup (λ m. m == fd)) same) ∙ found))

-- the handles of the entries
abbrev pub seconds : List (ℕ × ℕ) → List ℕ
seconds ms = map (λ m. m.1) ms

abbrev times : List (Option OpenObject) → List ℕ → ℕ → ℕ
times objects fds handle = times_listed handle (seconds (handles_from objects fds))

times_of_none : (objects : List (Option OpenObject)) (handle : ℕ) → times objects [] handle ≡ 0
unfolding times_listed
times_of_none objects handle = ap (λ (ms : List (ℕ × ℕ)). times_listed handle (seconds ms)) (handles_none objects)

-- a descriptor of the list names the map of the handle
abbrev IsAmong : List (Option OpenObject) → List ℕ → ℕ → Type 0
IsAmong objects fds handle = (i fd : ℕ) × (slice_get fds i ≡ Some fd) × (named objects fd ≡ Some (object.Map handle))

-- if a handle is among the entries, some descriptor of the list names its map
pub times_named : (objects : List (Option OpenObject)) (fds : List ℕ) (handle : ℕ)
    → 1 ≤ times_listed handle (seconds (handles_from objects fds))
    → (i fd : ℕ) × (slice_get fds i ≡ Some fd) × (named objects fd ≡ Some (object.Map handle))
unfolding times_listed
times_named objects [] handle some = absurd (let none = times_of_none objects handle in omega arith)
times_named objects (x ∷ fds) handle some =
    by_first (λ more. later (times_named objects fds handle more)) (first_handle objects x fds)
  where
    later : IsAmong objects fds handle → IsAmong objects (x ∷ fds) handle
    later (i, fd, at, is) = (suc i, fd, at, is)

    by_test : (1 ≤ times objects fds handle → IsAmong objects (x ∷ fds) handle)
        → (p : ℕ) (here : Bool) → (p == handle) ≡ here
        → named objects x ≡ Some (object.Map p)
        → 1 ≤ (if here then 1 else 0) + times objects fds handle
        → IsAmong objects (x ∷ fds) handle
    by_test rest p true same is e = (0, x, refl, is ∙ ap (λ (q : ℕ). Some (object.Map q)) (eqb-true p handle same))
    by_test rest p false same is e = rest (omega arith)

    by_first : (1 ≤ times objects fds handle → IsAmong objects (x ∷ fds) handle)
        → FirstHandle objects x fds → IsAmong objects (x ∷ fds) handle
    by_first rest (inl (p, is, more)) =
        by_test rest p (p == handle) refl is
        (subst (λ (ms : List (ℕ × ℕ)). 1 ≤ times_listed handle (seconds ms)) more some)
    by_first rest (inr same) = rest (subst (λ (ms : List (ℕ × ℕ)). 1 ≤ times_listed handle (seconds ms)) same some)

-- ---- no handle occurs twice

total-two : {A : Type 0} (f : A → ℕ) (xs : List (Option A)) (i j : ℕ) (x y : A)
    → j ≢ i → get_or xs i None ≡ Some x
    → get_or xs j None ≡ Some y
    → f x + f y ≤ total f xs
total-two f xs i j x y apart a b =
    let less = total-unset f xs i x a in
    let part = total-part f (set xs i None) j y (set_there xs i j None apart ∙ b) in
    omega arith

-- two descriptors that name the same map are equal
pub one_names : (objects : List (Option OpenObject)) (a b handle : ℕ)
    → descriptors handle objects ≤ 1 → named objects a ≡ Some (object.Map handle)
    → named objects b ≡ Some (object.Map handle)
    → b ≡ a
one_names objects a b handle single m n = by_handle (cases_eq (b - first_descriptor) (a - first_descriptor))
  where
    by_handle : (b - first_descriptor ≡ a - first_descriptor) ⊎ (b - first_descriptor ≡ a - first_descriptor → ⊥)
        → b ≡ a
    by_handle (inl same) =
        let low = (closed_at objects a (object.Map handle) m).2 in
        let too = (closed_at objects b (object.Map handle) n).2 in
        omega arith
    by_handle (inr other) =
        let two =
        total-two (by_descriptor handle) objects (a - first_descriptor) (b - first_descriptor)
        (object.Map handle) (object.Map handle) other (closed_at objects a (object.Map handle) m).1
        (closed_at objects b (object.Map handle) n).1 in
        let one = here_one handle handle refl in
        absurd (omega arith)

abbrev pub AreApart : List ℕ → Type 0
AreApart fds = (i j fd : ℕ) → slice_get fds i ≡ Some fd → slice_get fds j ≡ Some fd → i ≡ j

times_zero : (n : ℕ) → (1 ≤ n → ⊥) → n ≡ 0
times_zero zero h = refl
times_zero (suc n) h = absurd (h (omega arith))

-- if no map has two descriptors and the list has none twice, no handle is twice among the entries
pub times_once : (objects : List (Option OpenObject)) (fds : List ℕ)
    → ((handle : ℕ) → descriptors handle objects ≤ 1)
    → AreApart fds
    → (handle : ℕ) → times_listed handle (seconds (handles_from objects fds)) ≤ 1
unfolding times_listed
times_once objects [] single apart handle = let none = times_of_none objects handle in omega arith
times_once objects (x ∷ fds) single apart handle =
    by_first (times_once objects fds single
    (λ i j fd a b. let same = apart (suc i) (suc j) fd a b in omega arith)
    handle)
    (first_handle objects x fds)
  where
    -- the handle of the first descriptor is not among the other handles
    not_there : IsAmong objects fds handle → named objects x ≡ Some (object.Map handle) → ⊥
    not_there (i, fd, at, is) here =
        let same : fd ≡ x = one_names objects x fd handle (single handle) here is in
        let wrong : 0 ≡ suc i = apart 0 (suc i) x refl (at ∙ ap Some same) in
        omega arith

    by_test : times objects fds handle ≤ 1
        → (p : ℕ) (here : Bool) → (p == handle) ≡ here
        → named objects x ≡ Some (object.Map p)
        → (if here then 1 else 0) + times objects fds handle ≤ 1
    by_test few p true same is =
        let here : named objects x ≡ Some (object.Map handle) =
        is ∙ ap (λ (q : ℕ). Some (object.Map q)) (eqb-true p handle same) in
        let none : times objects fds handle ≡ 0 =
        times_zero (times objects fds handle) (λ some. not_there (times_named objects fds handle some) here) in
        omega arith
    by_test few p false same is = omega arith

    by_first : times objects fds handle ≤ 1 → FirstHandle objects x fds → times objects (x ∷ fds) handle ≤ 1
    by_first few (inl (p, is, more)) =
        subst (λ (ms : List (ℕ × ℕ)). times_listed handle (seconds ms) ≤ 1) (sym more)
        (by_test few p (p == handle) refl is)
    by_first few (inr same) = subst (λ (ms : List (ℕ × ℕ)). times_listed handle (seconds ms) ≤ 1) (sym same) few

-- ---- the handles of all of them

-- the handles of the entries are as many as the entries
pub length-seconds : (ms : List (ℕ × ℕ)) → length (seconds ms) ≡ length ms
length-seconds ms = length-map ms (λ m. m.1)

-- the descriptors of the entries are as many as the entries
pub length-firsts : (ms : List (ℕ × ℕ)) → length (keys_of ms) ≡ length ms
length-firsts ms = length-map ms (λ m. m.0)

-- the descriptors of entries, each with its handle, are the entries
pub paired : (ms : List (ℕ × ℕ)) → zip (keys_of ms) (seconds ms) ≡ ms
paired [] = refl
paired (m ∷ ms) = ap (λ (ns : List (ℕ × ℕ)). m ∷ ns) (paired ms)
