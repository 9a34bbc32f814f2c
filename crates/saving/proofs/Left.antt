-- The maps after a test run, under their handles.
use Rattle.std.proofs.Common.{◌≡◌, ◌≢◌, ℕ, Bool, true, false, List, [], ◌∷◌, length, set, get_or, Option, Some}
use Rattle.std.proofs.Common.{None, IsSome, is_some, refl, sym, ap, ◌∙◌, inl, inr, true≢false, length-set}
use Rattle.std.specs.Prelude.{◌⊎◌, ◌==◌, ◌||◌, if◌then◌else◌}
use Rattle.std.specs.List.{list_any}
use Rattle.std.specs.Map.{lookup}
use Rattle.std.proofs.lemmas.Bool.{eq-eqb}
use Rattle.tagged_model.specs.Cells.{and_then}
use Rattle.tagged_model.specs.Step.{MapsByDescriptor}
use Rattle.tenant.specs.Loaded.{LoadedProgram}
use Rattle.tenant.specs.State.{Map, TenantState, live, is_named}
use Rattle.tenant.specs.Machine.{maps_given, maps_left}
use Rattle.saving.specs.Alike.{moved_maps, HoldsItsMaps}
use Rattle.saving.proofs.Lists.{set_by_index, there_within}
use Rattle.saving.proofs.Moved.{or_left, or_right, lookup_names}

-- each of these maps is in the result of the run, and was live under its handle
abbrev pub AreLeft : MapsByDescriptor → List (ℕ × ℕ) → List (Option Map) → Type 0
AreLeft left [] xs = Unit {0}
AreLeft left (m ∷ ms) xs = IsSome (left m.0) × IsSome (get_or xs m.1 None) × AreLeft left ms xs

-- the list of the maps after a run is as long as before it
pub length_left : (left : MapsByDescriptor) (ms : List (ℕ × ℕ)) (xs : List (Option Map))
    → length (maps_left left ms xs) ≡ length xs
unfolding maps_left
length_left left [] xs = refl
length_left left (m ∷ ms) xs =
    length_left left ms (set xs m.1 (left m.0)) ∙ length-set {A = Option Map} xs m.1 (left m.0)

-- the same handles have maps
abbrev pub SameHandles : List (Option Map) → List (Option Map) → Type 0
SameHandles xs ys = (p : ℕ) → is_some (get_or ys p None) ≡ is_some (get_or xs p None)

same_left : (left : MapsByDescriptor) (ms : List (ℕ × ℕ)) (xs ys : List (Option Map))
    → SameHandles xs ys → AreLeft left ms xs → AreLeft left ms ys
same_left left [] xs ys same h = tt
same_left left (m ∷ ms) xs ys same h = (h.0, same m.1 ∙ h.1, same_left left ms xs ys same h.2)

abbrev Set : List (Option Map) → ℕ → Option Map → ℕ → Type 0
Set xs n x i =
    ((i ≡ n) × (get_or (set xs n x) i None ≡ x)) ⊎ ((i ≢ n) × (get_or (set xs n x) i None ≡ get_or xs i None))

-- after a map is replaced by another one the same handles have maps
pub set_handles : (xs : List (Option Map)) (n : ℕ) (x : Option Map)
    → IsSome x → IsSome (get_or xs n None) → SameHandles xs (set xs n x)
set_handles xs n x some there p = by (set_by_index xs n p x (there_within xs n there))
  where
    by : Set xs n x p → is_some (get_or (set xs n x) p None) ≡ is_some (get_or xs p None)
    by (inl (at, e)) = ap is_some e ∙ some ∙ sym (ap (λ (j : ℕ). is_some (get_or xs j None)) at ∙ there)
    by (inr (other, e)) = ap is_some e

-- if each map of a program is live and in the result of its run, the same handles have maps after it
pub left_handles : (left : MapsByDescriptor) (ms : List (ℕ × ℕ)) (xs : List (Option Map))
    → AreLeft left ms xs → SameHandles xs (maps_left left ms xs)
unfolding maps_left
left_handles left [] xs h p = refl
left_handles left (m ∷ ms) xs h p =
    let same = set_handles xs m.1 (left m.0) h.0 h.1 in
    left_handles left ms (set xs m.1 (left m.0)) (same_left left ms xs (set xs m.1 (left m.0)) same h.2) p ∙ same p

set_moved : (move : ℕ → ℕ) (xs ys : List (Option Map)) (n : ℕ) (x : Option Map) (p : ℕ)
    → IsSome (get_or xs n None) → IsSome (get_or ys (move n) None)
    → (move n ≡ move p → n ≡ p) → get_or ys (move p) None ≡ get_or xs p None
    → get_or (set ys (move n) x) (move p) None ≡ get_or (set xs n x) p None
set_moved move xs ys n x p there here apart same =
    by (set_by_index xs n p x (there_within xs n there))
    (set_by_index ys (move n) (move p) x (there_within ys (move n) here))
  where
    by : Set xs n x p
        → Set ys (move n) x (move p)
        → get_or (set ys (move n) x) (move p) None ≡ get_or (set xs n x) p None
    by (inl (at, e)) (inl (too, f)) = f ∙ sym e
    by (inl (at, e)) (inr (other, f)) = absurd (other (ap move at))
    by (inr (other, e)) (inl (at, f)) = absurd (other (sym (apart (sym at))))
    by (inr (other, e)) (inr (too, f)) = f ∙ same ∙ sym e

-- if a handle and its new one have the same map before a run, they have the same map after it
pub left_moved : (move : ℕ → ℕ) (left : MapsByDescriptor) (ms : List (ℕ × ℕ))
    (xs ys : List (Option Map)) (p : ℕ)
    → AreLeft left ms xs → AreLeft left (moved_maps move ms) ys
    → ((q : ℕ) → list_any (λ m. m.1 == q) ms ≡ true → move q ≡ move p → q ≡ p)
    → get_or ys (move p) None ≡ get_or xs p None
    → get_or (maps_left left (moved_maps move ms) ys) (move p) None ≡ get_or (maps_left left ms xs) p None
unfolding maps_left
left_moved move left [] xs ys p h k apart same = same
left_moved move left (m ∷ ms) xs ys p h k apart same =
    left_moved move left ms (set xs m.1 (left m.0)) (set ys (move m.1) (left m.0)) p
    (same_left left ms xs (set xs m.1 (left m.0)) (set_handles xs m.1 (left m.0) h.0 h.1) h.2)
    (same_left left (moved_maps move ms) ys (set ys (move m.1) (left m.0))
    (set_handles ys (move m.1) (left m.0) k.0 k.1) k.2)
    (λ q e. apart q (or_right (m.1 == q) (list_any (λ n. n.1 == q) ms) e))
    (set_moved move xs ys m.1 (left m.0) p h.1 k.1
    (apart m.1 (or_left (m.1 == m.1) (list_any (λ n. n.1 == m.1) ms) (eq-eqb m.1 m.1 refl)))
    same)

-- ---- a program that holds its maps

each_left : (left : MapsByDescriptor) (ms : List (ℕ × ℕ)) (xs : List (Option Map))
    → ((fd : ℕ) → list_any (λ m. m.0 == fd) ms ≡ true → IsSome (left fd))
    → ((p : ℕ) → list_any (λ m. m.1 == p) ms ≡ true → IsSome (get_or xs p None))
    → AreLeft left ms xs
each_left left [] xs h k = tt
each_left left (m ∷ ms) xs h k = (
  h m.0 (or_left (m.0 == m.0) (list_any (λ n. n.0 == m.0) ms) (eq-eqb m.0 m.0 refl)),
  k m.1 (or_left (m.1 == m.1) (list_any (λ n. n.1 == m.1) ms) (eq-eqb m.1 m.1 refl)),
  each_left left ms xs
      (λ fd e. h fd (or_right (m.0 == fd) (list_any (λ n. n.0 == fd) ms) e))
      (λ p e. k p (or_right (m.1 == p) (list_any (λ n. n.1 == p) ms) e)),
)

listed : (ms : List (ℕ × ℕ)) (fd : ℕ)
    → list_any (λ m. m.0 == fd) ms ≡ true → (p : ℕ) × (lookup (λ m. m == fd) ms ≡ Some p)
listed [] fd e = absurd (true≢false (sym e))
listed (m ∷ ms) fd e = by (m.0 == fd) (listed ms fd) e
  where
    by : (here : Bool)
        → (list_any (λ k. k.0 == fd) ms ≡ true → (p : ℕ) × (lookup (λ k. k == fd) ms ≡ Some p))
        → (here || list_any (λ k. k.0 == fd) ms) ≡ true
        → (p : ℕ) × ((if here then Some m.1 else lookup (λ k. k == fd) ms) ≡ Some p)
    by true rest e = (m.1, refl)
    by false rest e = rest e

-- each map that an open program names is live, and is in the result of a run that leaves its maps
pub program_left : {s : TenantState} (l : LoadedProgram)
    → HoldsItsMaps s
    → ((handle : ℕ) → list_any (λ m. m.1 == handle) l.maps ≡ true → is_named s.objects handle ≡ true)
    → (left : MapsByDescriptor) → ((fd : ℕ) → is_some (left fd) ≡ is_some (maps_given s l fd))
    → AreLeft left l.maps s.maps
program_left {s} l held named left same =
    each_left left l.maps s.maps
    (λ fd e.
    let (p, found) = listed l.maps fd e in
    same fd
    ∙ ap (λ (o : Option ℕ). is_some (and_then o (live s))) found
    ∙ held.live_if_named p (named p (lookup_names l.maps fd p found)))
    (λ p e. held.live_if_named p (named p e))
