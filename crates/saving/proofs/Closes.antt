-- The state after a close, and the handles that are named.
use Rattle.std.proofs.Common.{◌≡◌, ℕ, zero, suc, ◌+◌, ◌-◌, ◌<◌, Bool, true, false, List, [], ◌∷◌, length, set, get_or}
use Rattle.std.proofs.Common.{Option, Some, None, IsSome, is_some, refl, sym, ap, ◌∙◌, inl, inr, arith, length-set}
use Rattle.std.specs.Prelude.{◌⊎◌, ◌||◌, nat_lt, if◌then◌else◌}
use Rattle.fd_table.specs.Table.{first_descriptor, with_closed}
use Rattle.tenant.specs.declared.object.OpenObject.{OpenObject}
use Rattle.tenant.specs.State.{Map, TenantState, live, names, is_named, named_from, with_objects}
use Rattle.saving.specs.Alike.{moved_objects, IsMovedBy, HoldsItsMaps}
use Rattle.saving.proofs.Lists.{not_none}
use Rattle.saving.proofs.Moved.{first_names, names_here, names_later, or_parts, is_named_moved}
use Rattle.saving.proofs.Pairs.{ArePair}

-- ---- the maps that are named

-- the list of the maps that are named is as long as the list of all maps
pub length_named : (objects : List (Option OpenObject)) (handle : ℕ) (ms : List (Option Map))
    → length (named_from objects handle ms) ≡ length ms
unfolding named_from
length_named objects handle [] = refl
length_named objects handle (m ∷ ms) = let rest = length_named objects (handle + 1) ms in omega arith

nothing : (b : Bool) → let none : Option Map = None in (if b then none else none) ≡ none
nothing true = refl
nothing false = refl

named_get : (objects : List (Option OpenObject)) (handle i : ℕ) (ms : List (Option Map))
    → get_or (named_from objects handle ms) i None ≡ (if is_named objects (handle + i) then get_or ms i None else None)
unfolding named_from
named_get objects handle i [] = sym (nothing (is_named objects (handle + i)))
named_get objects handle zero (m ∷ ms) =
    let e : handle ≡ handle + 0 = omega arith in ap (λ (p : ℕ). if is_named objects p then m else None) e
named_get objects handle (suc i) (m ∷ ms) =
    let e : handle + 1 + i ≡ handle + suc i = omega arith in
    named_get objects (handle + 1) i ms ∙ ap (λ (p : ℕ). if is_named objects p then get_or ms i None else None) e

-- with these open objects the map of a handle is that of before if they name it, and absent otherwise
pub live_with : (s : TenantState) (objects : List (Option OpenObject)) (handle : ℕ)
    → live (with_objects s objects) handle ≡ (if is_named objects handle then live s handle else None)
live_with s objects handle =
    let e : 0 + handle ≡ handle = omega arith in
    named_get objects 0 handle s.maps ∙ ap (λ (p : ℕ). if is_named objects p then live s handle else None) e

-- with these open objects the map of a handle that they name is not changed
pub live_if : (s : TenantState) (objects : List (Option OpenObject)) (handle : ℕ)
    → is_named objects handle ≡ true → live (with_objects s objects) handle ≡ live s handle
live_if s objects handle e = live_with s objects handle ∙ ap (λ (b : Bool). if b then live s handle else None) e

-- a map that is live with fewer open objects is named and was live
pub live_parts : (s : TenantState) (objects : List (Option OpenObject)) (handle : ℕ)
    → IsSome (live (with_objects s objects) handle)
    → (is_named objects handle ≡ true) × IsSome (live s handle)
live_parts s objects handle some = by (is_named objects handle) refl
  where
    by : (b : Bool) → is_named objects handle ≡ b → (is_named objects handle ≡ true) × IsSome (live s handle)
    by true e = (e, ap is_some (sym (live_if s objects handle e)) ∙ some)
    by false e =
        absurd (not_none some (live_with s objects handle ∙ ap (λ (b : Bool). if b then live s handle else None) e))

-- ---- fewer open objects

-- each handle that is named now was named before
abbrev pub NamesFewer : List (Option OpenObject) → List (Option OpenObject) → Type 0
NamesFewer fewer objects = (handle : ℕ) → is_named fewer handle ≡ true → is_named objects handle ≡ true

unset_fewer : (objects : List (Option OpenObject)) (n : ℕ) → NamesFewer (set objects n None) objects
unset_fewer [] n handle e = e
unset_fewer (o ∷ os) zero handle e = names_later o os handle e
unset_fewer (o ∷ os) (suc n) handle e =
    by (unset_fewer os n handle) (or_parts (first_names o handle) (is_named (set os n None) handle) e)
  where
    by : (is_named (set os n None) handle ≡ true → is_named os handle ≡ true)
        → (first_names o handle ≡ true) ⊎ (is_named (set os n None) handle ≡ true)
        → is_named (o ∷ os) handle ≡ true
    by rest (inl here) = names_here o os handle here
    by rest (inr later) = names_later o os handle (rest later)

-- a handle that is named after a close was named before it
pub closed_fewer : (objects : List (Option OpenObject)) (fd : ℕ) → NamesFewer (with_closed objects fd) objects
closed_fewer objects fd = by (nat_lt fd first_descriptor)
  where
    by : (low : Bool) → NamesFewer (if low then objects else set objects (fd - first_descriptor) None) objects
    by true handle e = e
    by false handle e = unset_fewer objects (fd - first_descriptor) handle e

-- a close does not change the length of the table of descriptors
pub closed_length : (objects : List (Option OpenObject)) (fd : ℕ) → length (with_closed objects fd) ≡ length objects
closed_length objects fd = by (nat_lt fd first_descriptor)
  where
    by : (low : Bool) → length (if low then objects else set objects (fd - first_descriptor) None) ≡ length objects
    by true = refl
    by false = length-set {A = Option OpenObject} objects (fd - first_descriptor) None

-- with fewer open objects the second state is still the first with its handles renamed
pub fewer_pair : {move : ℕ → ℕ} {s t : TenantState}
    → ArePair move s t
    → (objects : List (Option OpenObject)) → NamesFewer objects s.objects
    → IsMovedBy move (with_objects s objects) (with_objects t (moved_objects move objects))
fewer_pair {move} {s} {t} h objects fewer = record {
  objects = refl;
  same = λ handle some.
      let (named, was) = live_parts s objects handle some in
      live_if t (moved_objects move objects) (move handle) (named_there handle was ∙ named)
      ∙ h.by.same handle was
      ∙ sym (live_if s objects handle named);
  apart = λ p q x y e. h.by.apart p q (live_parts s objects p x).1 (live_parts s objects q y).1 e;
  only = λ q some. by q some (live_parts t (moved_objects move objects) q some);
}
  where
    named_there : (handle : ℕ)
        → IsSome (live s handle)
        → is_named (moved_objects move objects) (move handle) ≡ is_named objects handle
    named_there handle some =
        is_named_moved move handle objects
        (λ p named e. h.by.apart p handle (h.one.live_if_named p (fewer p named)) some e)

    by : (q : ℕ)
        → IsSome (live (with_objects t (moved_objects move objects)) q)
        → (is_named (moved_objects move objects) q ≡ true) × IsSome (live t q)
        → (p : ℕ) × IsSome (live (with_objects s objects) p) × (move p ≡ q)
    by q some (named, was) =
        let (p, there, at) = h.by.only q was in
        let still : is_named objects p ≡ true =
        sym (named_there p there) ∙ ap (is_named (moved_objects move objects)) at ∙ named in
        (p, ap is_some (live_if s objects p still) ∙ there, at)

-- with fewer open objects, and without the maps that none of them names, the state holds its maps
pub fewer_held : {s : TenantState}
    → HoldsItsMaps s
    → (objects : List (Option OpenObject)) → length objects ≡ length s.objects
    → NamesFewer objects s.objects
    → HoldsItsMaps (with_objects s objects)
fewer_held {s} h objects long fewer = record {
  descriptors = long ∙ h.descriptors;
  handles = length_named objects 0 s.maps ∙ h.handles;
  live_if_named = λ handle e. ap is_some (live_if s objects handle e) ∙ h.live_if_named handle (fewer handle e);
  named_if_live = λ handle some. (live_parts s objects handle some).0;
}

-- ---- one more open object

-- with one more open object a handle is named if and only if this object or another one names it
pub named_open : (objects : List (Option OpenObject)) (n : ℕ) (o : OpenObject) (handle : ℕ)
    → n < length objects → get_or objects n None ≡ None
    → is_named (set objects n (Some o)) handle ≡ (names handle o || is_named objects handle)
named_open [] n o handle within free = absurd (omega arith)
named_open (x ∷ xs) zero o handle within free =
    ap (λ (y : Option OpenObject). names handle o || (first_names y handle || is_named xs handle)) (sym free)
named_open (x ∷ xs) (suc n) o handle within free =
    ap (λ (b : Bool). first_names x handle || b) (named_open xs n o handle (omega arith) free)
    ∙ swap (first_names x handle) (names handle o) (is_named xs handle)
  where
    swap : (a b c : Bool) → (a || (b || c)) ≡ (b || (a || c))
    swap true true c = refl
    swap true false c = refl
    swap false b c = refl
