-- Two states, each of which holds its maps, and the second of which is the first with its maps under other handles.
use Rattle.std.proofs.Common.{◌≡◌, ◌≢◌, ℕ, ◌+◌, ◌<◌, Bool, true, false, List, length, set, get_or, Option}
use Rattle.std.proofs.Common.{Some, None, IsSome, is_some, refl, sym, ap, ap₂, ◌∙◌, inl, inr, true≢false}
use Rattle.std.specs.Prelude.{ℤ, ◌⊎◌, nat_lt, is_none, if◌then◌else◌}
use Rattle.std.proofs.lemmas.Bool.{eq-eqb, ne_eqb}
use Rattle.std.proofs.lemmas.List.Quantifiers.{position-Some}
use Rattle.fd_table.specs.Table.{with_open}
use Rattle.tagged_model.specs.State.{set_at}
use Rattle.tenant.specs.declared.object.OpenObject.{OpenObject}
use Rattle.tenant.specs.declared.object.OpenObject.TheVariants as object
use Rattle.bpf_maps.specs.Limits.{most_bytes}
use Rattle.tenant.specs.State.{Map, TenantState, live, map_area, maps_area, free_handle, is_named, with_map_at}
use Rattle.tenant.specs.Machine.{room_for}
use Rattle.saving.specs.Alike.{moved_objects, IsMovedBy, IsAlikeResult, HoldsItsMaps}
use Rattle.saving.proofs.Lists.{there_is, not_none, set_by_index, there_within, total_shuffled, IsShuffled, same_room}
use Rattle.saving.proofs.Moved.{open_moved, same_objects}

pub record ArePair (move : ℕ → ℕ) (s t : TenantState) : Type 0 where
  -- the first state holds its maps
  pub one : HoldsItsMaps s
  -- the second state holds its maps
  pub two : HoldsItsMaps t
  -- the second state is the first with its handles renamed
  pub by : IsMovedBy move s t

-- a map that the first state names is in the second one under its new handle
pub same_named : {move : ℕ → ℕ} {s t : TenantState}
    → ArePair move s t
    → (handle : ℕ) → is_named s.objects handle ≡ true
    → live t (move handle) ≡ live s handle
same_named h handle e = h.by.same handle (h.one.live_if_named handle e)

-- ---- replies that change nothing, or only the flag

-- replies with one status and one payload that change no state are alike
pub unchanged : {move : ℕ → ℕ} {s t : TenantState}
    → ArePair move s t → (status : ℤ) (payload : List ℕ)
    → IsAlikeResult (record { status = status; payload = payload; after = s })
    (record { status = status; payload = payload; after = t })
unchanged {move} h status payload = record { status = refl; payload = refl; after = (move, h.by) }

-- the second state is the first with its handles renamed, whatever the two flags are
pub any_flag : {move : ℕ → ℕ} {s t : TenantState}
    → IsMovedBy move s t
    → (a b : Bool) → IsMovedBy move (record s { refused = a }) (record t { refused = b })
any_flag h a b = record { objects = h.objects; same = h.same; apart = h.apart; only = h.only }

-- ---- changed contents of maps

-- if the same handles have maps and the named maps change alike, the handles are renamed as before
pub changed : {move : ℕ → ℕ} {s t : TenantState}
    → ArePair move s t → (ms ns : List (Option Map)) (a b : Bool)
    → ((p : ℕ) → is_some (get_or ms p None) ≡ is_some (live s p))
    → ((q : ℕ) → is_some (get_or ns q None) ≡ is_some (live t q))
    → ((p : ℕ) → is_named s.objects p ≡ true → get_or ns (move p) None ≡ get_or ms p None)
    → IsMovedBy move (record s { maps = ms; refused = a }) (record t { maps = ns; refused = b })
changed {move} {s} {t} h ms ns a b first second each = record {
  objects = h.by.objects;
  same = λ p some. each p (h.one.named_if_live p (was p some));
  apart = λ p q x y e. h.by.apart p q (was p x) (was q y) e;
  only = λ q some. let (p, there, at) = h.by.only q (sym (second q) ∙ some) in (p, first p ∙ there, at);
}
  where
    was : (p : ℕ) → IsSome (get_or ms p None) → IsSome (live s p)
    was p some = sym (first p) ∙ some

-- the map of each handle after one is set
abbrev pub SetAt : List (Option Map) → ℕ → Map → ℕ → Type 0
SetAt xs n m i =
    ((i ≡ n) × (get_or (set xs n (Some m)) i None ≡ Some m))
    ⊎ ((i ≢ n) × (get_or (set xs n (Some m)) i None ≡ get_or xs i None))

-- if a named map is set in one state, and so at its new handle in the other, the handles are renamed as before
pub changed_one : {move : ℕ → ℕ} {s t : TenantState}
    → ArePair move s t
    → (handle : ℕ) (m : Map) → is_named s.objects handle ≡ true
    → IsMovedBy move (with_map_at s handle m) (with_map_at t (move handle) m)
changed_one {move} {s} {t} h handle m named =
    changed h (set s.maps handle (Some m)) (set t.maps (move handle) (Some m)) s.refused t.refused
    (λ p. still s.maps handle p (h.one.live_if_named handle named))
    (λ q. still t.maps (move handle) q (ap is_some (same_named h handle named) ∙ h.one.live_if_named handle named))
    (λ p e.
    each p e (set_by_index s.maps handle p (Some m) (there_within s.maps handle (h.one.live_if_named handle named))))
  where
    still : (xs : List (Option Map)) (n i : ℕ)
        → IsSome (get_or xs n None)
        → is_some (get_or (set xs n (Some m)) i None) ≡ is_some (get_or xs i None)
    still xs n i some = by (set_by_index xs n i (Some m) (there_within xs n some))
      where
        by : SetAt xs n m i → is_some (get_or (set xs n (Some m)) i None) ≡ is_some (get_or xs i None)
        by (inl (at, e)) = ap is_some e ∙ sym (ap (λ (j : ℕ). is_some (get_or xs j None)) at ∙ some)
        by (inr (other, e)) = ap is_some e

    there : IsSome (live t (move handle))
    there = ap is_some (same_named h handle named) ∙ h.one.live_if_named handle named

    each : (p : ℕ) → is_named s.objects p ≡ true
        → SetAt s.maps handle m p
        → get_or (set t.maps (move handle) (Some m)) (move p) None ≡ get_or (set s.maps handle (Some m)) p None
    each p e (inl (at, is)) =
        here (set_by_index t.maps (move handle) (move p) (Some m) (there_within t.maps (move handle) there)) ∙ sym is
      where
        here : SetAt t.maps (move handle) m (move p)
            → get_or (set t.maps (move handle) (Some m)) (move p) None ≡ Some m
        here (inl (same, e)) = e
        here (inr (other, e)) = absurd (other (ap move at))
    each p e (inr (other, is)) =
        here (set_by_index t.maps (move handle) (move p) (Some m) (there_within t.maps (move handle) there)) ∙ sym is
      where
        here : SetAt t.maps (move handle) m (move p)
            → get_or (set t.maps (move handle) (Some m)) (move p) None ≡ live s p
        here (inl (same, _)) =
            absurd (other (h.by.apart p handle (h.one.live_if_named p e) (h.one.live_if_named handle named) same))
        here (inr (apart, is_too)) = is_too ∙ same_named h p e

-- ---- a new map

set_here : (f : ℕ → ℕ) (i x : ℕ) → set_at f i x i ≡ x
set_here f i x = ap (λ (b : Bool). if b then x else f i) (eq-eqb i i refl)

set_there : (f : ℕ → ℕ) (i x k : ℕ) → k ≢ i → set_at f i x k ≡ f k
set_there f i x k other = ap (λ (b : Bool). if b then x else f k) (ne_eqb k i other)

abbrev pub with_new_map : TenantState → ℕ → ℕ → Map → TenantState
with_new_map s fd handle m = record s {
  objects = with_open s.objects fd (object.Map handle);
  maps = set s.maps handle (Some m);
}

-- a handle without a map
pub record IsFree (s : TenantState) (handle : ℕ) : Type 0 where
  -- the handle is one of the list of maps
  pub within : handle < length s.maps
  -- no map is live under the handle
  pub none : live s handle ≡ None

-- if each state gets the same new map, at any free handle, the second is still the first with handles renamed
pub created_pair : {move : ℕ → ℕ} {s t : TenantState}
    → ArePair move s t → (fd p q : ℕ) (m : Map) → IsFree s p
    → IsFree t q
    → IsMovedBy (set_at move p q) (with_new_map s fd p m) (with_new_map t fd q m)
created_pair {move} {s} {t} h fd p q m free_p free_q = record {
  objects = objects;
  same = λ i some. same i some (set_by_index s.maps p i (Some m) free_p.within);
  apart = λ i j x y e.
      apart i j x y e (set_by_index s.maps p i (Some m) free_p.within) (set_by_index s.maps p j (Some m) free_p.within);
  only = λ k some. only k some (set_by_index t.maps q k (Some m) free_q.within);
}
  where
    -- no live map has the handle of the new one
    other_handle : (i : ℕ) → IsSome (live s i) → i ≢ p
    other_handle i some e = not_none some (ap (live s) e ∙ free_p.none)

    other_target : (i : ℕ) → IsSome (live s i) → move i ≢ q
    other_target i some e = not_none some (sym (h.by.same i some) ∙ ap (live t) e ∙ free_q.none)

    moved_as : (i : ℕ) → IsSome (live s i) → set_at move p q i ≡ move i
    moved_as i some = set_there move p q i (other_handle i some)

    objects :
        with_open t.objects fd (object.Map q) ≡ moved_objects (set_at move p q) (with_open s.objects fd (object.Map p))
    objects =
        ap₂ (λ (os : List (Option OpenObject)) (n : ℕ). with_open os fd (object.Map n))
        (h.by.objects
        ∙ sym (same_objects (set_at move p q) move s.objects (λ i e. moved_as i (h.one.live_if_named i e))))
        (sym (set_here move p q))
        ∙ sym (open_moved (set_at move p q) s.objects fd (object.Map p))

    -- the map at the target of an older map is the same
    older : (i : ℕ) → IsSome (live s i) → get_or (set t.maps q (Some m)) (move i) None ≡ live s i
    older i some = by (set_by_index t.maps q (move i) (Some m) free_q.within)
      where
        by : SetAt t.maps q m (move i)
            → get_or (set t.maps q (Some m)) (move i) None ≡ live s i
        by (inl (at, e)) = absurd (other_target i some at)
        by (inr (other, e)) = e ∙ h.by.same i some

    newer : get_or (set t.maps q (Some m)) q None ≡ Some m
    newer = by (set_by_index t.maps q q (Some m) free_q.within)
      where
        by : SetAt t.maps q m q → get_or (set t.maps q (Some m)) q None ≡ Some m
        by (inl (at, e)) = e
        by (inr (other, e)) = absurd (other refl)

    same : (i : ℕ)
        → IsSome (get_or (set s.maps p (Some m)) i None)
        → SetAt s.maps p m i
        → get_or (set t.maps q (Some m)) (set_at move p q i) None ≡ get_or (set s.maps p (Some m)) i None
    same i some (inl (at, e)) =
        ap (λ (j : ℕ). get_or (set t.maps q (Some m)) (set_at move p q j) None) at
        ∙ ap (λ (j : ℕ). get_or (set t.maps q (Some m)) j None) (set_here move p q)
        ∙ newer
        ∙ sym e
    same i some (inr (other, e)) =
        let there = sym (ap is_some e) ∙ some in
        ap (λ (j : ℕ). get_or (set t.maps q (Some m)) j None) (moved_as i there) ∙ older i there ∙ sym e

    apart : (i j : ℕ)
        → IsSome (get_or (set s.maps p (Some m)) i None)
        → IsSome (get_or (set s.maps p (Some m)) j None)
        → set_at move p q i ≡ set_at move p q j → SetAt s.maps p m i
        → SetAt s.maps p m j
        → i ≡ j
    apart i j x y e (inl (at, _)) (inl (too, _)) = at ∙ sym too
    apart i j x y e (inl (at, _)) (inr (other, is)) =
        let there = sym (ap is_some is) ∙ y in
        absurd (other_target j there (sym (moved_as j there) ∙ sym e ∙ ap (set_at move p q) at ∙ set_here move p q))
    apart i j x y e (inr (other, is)) (inl (at, _)) =
        let there = sym (ap is_some is) ∙ x in
        absurd (other_target i there (sym (moved_as i there) ∙ e ∙ ap (set_at move p q) at ∙ set_here move p q))
    apart i j x y e (inr (other, is)) (inr (too, is_too)) =
        let a = sym (ap is_some is) ∙ x in
        let b = sym (ap is_some is_too) ∙ y in
        h.by.apart i j a b (sym (moved_as i a) ∙ e ∙ moved_as j b)

    still : (i : ℕ) → IsSome (live s i) → IsSome (get_or (set s.maps p (Some m)) i None)
    still i some = by (set_by_index s.maps p i (Some m) free_p.within)
      where
        by : SetAt s.maps p m i → IsSome (get_or (set s.maps p (Some m)) i None)
        by (inl (at, e)) = there_is e
        by (inr (other, e)) = ap is_some e ∙ some

    here : IsSome (get_or (set s.maps p (Some m)) p None)
    here = by (set_by_index s.maps p p (Some m) free_p.within)
      where
        by : SetAt s.maps p m p → IsSome (get_or (set s.maps p (Some m)) p None)
        by (inl (at, e)) = there_is e
        by (inr (other, e)) = absurd (other refl)

    only : (k : ℕ) → IsSome (get_or (set t.maps q (Some m)) k None) → SetAt t.maps q m k
        → (i : ℕ) × IsSome (get_or (set s.maps p (Some m)) i None) × (set_at move p q i ≡ k)
    only k some (inl (at, _)) = (p, here, set_here move p q ∙ sym at)
    only k some (inr (other, e)) =
        let (i, there, at) = h.by.only k (sym (ap is_some e) ∙ some) in (i, still i there, moved_as i there ∙ at)

-- ---- room for one more map

shuffled : {move : ℕ → ℕ} {s t : TenantState} → IsMovedBy move s t → IsShuffled move s.maps t.maps
shuffled h = record { same = h.same; apart = h.apart; only = h.only }

is_absent : (o : Option Map) → is_none o ≡ true → o ≡ None
is_absent None e = refl
is_absent (Some m) e = absurd (true≢false (sym e))

-- the lowest free handle is in the list of maps, and has no map
pub free_at : (s : TenantState) (handle : ℕ) → free_handle s ≡ Some handle → IsFree s handle
free_at s handle e =
    let (within, free, lower) = position-Some is_none s.maps handle None e in
    record { within = within; none = is_absent (live s handle) free }

abbrev pub SameRoom : TenantState → TenantState → ℕ → Type 0
SameRoom s t size =
    ((room_for s size ≡ None) × (room_for t size ≡ None))
    ⊎ ((p : ℕ) × (q : ℕ) × (room_for s size ≡ Some p) × (room_for t size ≡ Some q) × IsFree s p × IsFree t q)

-- both states have room for an area of a size, each at a free handle, or neither has
pub same_room_for : {move : ℕ → ℕ} {s t : TenantState} → ArePair move s t → (size : ℕ) → SameRoom s t size
same_room_for {move} {s} {t} h size = by (nat_lt most_bytes (maps_area s.maps + size)) refl
  where
    areas : nat_lt most_bytes (maps_area t.maps + size) ≡ nat_lt most_bytes (maps_area s.maps + size)
    areas = ap (λ (n : ℕ). nat_lt most_bytes (n + size)) (total_shuffled map_area move s.maps t.maps (shuffled h.by))

    by_free : nat_lt most_bytes (maps_area s.maps + size) ≡ false
        → ((free_handle s ≡ None) × (free_handle t ≡ None))
        ⊎ ((p : ℕ) × (q : ℕ) × (free_handle s ≡ Some p) × (free_handle t ≡ Some q))
        → SameRoom s t size
    by_free e (inl (a, b)) =
        inl (
          ap (λ (x : Bool). if x then None else free_handle s) e ∙ a,
          ap (λ (x : Bool). if x then None else free_handle t) (areas ∙ e) ∙ b,
        )
    by_free e (inr (p, q, a, b)) =
        inr (
          p,
          q,
          ap (λ (x : Bool). if x then None else free_handle s) e ∙ a,
          ap (λ (x : Bool). if x then None else free_handle t) (areas ∙ e) ∙ b,
          free_at s p a,
          free_at t q b,
        )

    by : (full : Bool) → nat_lt most_bytes (maps_area s.maps + size) ≡ full → SameRoom s t size
    by true e =
        inl (
          ap (λ (x : Bool). if x then None else free_handle s) e,
          ap (λ (x : Bool). if x then None else free_handle t) (areas ∙ e),
        )
    by false e =
        by_free e
        (same_room s.maps t.maps (h.one.handles ∙ sym h.two.handles)
        (sym (total_shuffled (λ m. 1) move s.maps t.maps (shuffled h.by))))
