-- Objects whose maps have other handles.
use Rattle.std.proofs.Common.{◌≡◌, ℕ, zero, suc, ◌+◌, ◌-◌, Bool, true, false, List, [], ◌∷◌, ◌++◌, set}
use Rattle.std.proofs.Common.{get_or, Option, Some, None, refl, sym, ap, ap₂, ◌∙◌, inl, inr, true≢false}
use Rattle.std.specs.Prelude.{◌⊎◌, ◌||◌, ◌==◌, option_map, slice_get, nat_lt, if◌then◌else◌}
use Rattle.std.specs.List.{list_any}
use Rattle.std.specs.Option.{option_map_or}
use Rattle.std.specs.Map.{lookup}
use Rattle.std.proofs.Math.Bool.{or-true, true-or}
use Rattle.std.proofs.lemmas.Bool.{cases_eq, eq-eqb, eqb-true, ne_eqb}
use Rattle.std.proofs.lemmas.List.{map-set}
use Rattle.std.proofs.lemmas.Option.{none-some, same_Some, slice_get-map}
use Rattle.fd_table.specs.Table.{first_descriptor, named, lowest, with_open, with_closed, flattened}
use Rattle.tagged_model.specs.Cells.{and_then}
use Rattle.tagged_model.specs.declared.shape.Named.{Named}
use Rattle.tagged_model.specs.declared.shape.Target.TheVariants as target
use Rattle.tenant.specs.declared.object.OpenObject.{OpenObject}
use Rattle.tenant.specs.declared.object.OpenObject.TheVariants as object
use Rattle.tenant.specs.State.{Map, TenantState, live, names, is_named}
use Rattle.tenant.specs.Machine.{object_target, entry_of, targets_from, named_handle, handles_from}
use Rattle.saving.specs.Alike.{moved_maps, moved_object, moved_objects}
use Rattle.saving.proofs.Lists.{position_map}

-- ---- the table of descriptors

-- after a renaming of handles a descriptor names the object of before with its handles renamed
pub named_moved : (move : ℕ → ℕ) (objects : List (Option OpenObject)) (fd : ℕ)
    → named (moved_objects move objects) fd ≡ option_map (moved_object move) (named objects fd)
named_moved move objects fd = by (nat_lt fd first_descriptor)
  where
    flat : (o : Option (Option OpenObject))
        → flattened (option_map (option_map (moved_object move)) o) ≡ option_map (moved_object move) (flattened o)
    flat None = refl
    flat (Some o) = refl

    by : (low : Bool)
        → (if low then None else flattened (slice_get (moved_objects move objects) (fd - first_descriptor)))
        ≡ option_map (moved_object move) (if low then None else flattened (slice_get objects (fd - first_descriptor)))
    by true = refl
    by false =
        ap flattened (slice_get-map (option_map (moved_object move)) objects (fd - first_descriptor))
        ∙ flat (slice_get objects (fd - first_descriptor))

-- a renaming of handles does not change the lowest free descriptor
pub lowest_moved : (move : ℕ → ℕ) (objects : List (Option OpenObject))
    → lowest (moved_objects move objects) ≡ lowest objects
lowest_moved move objects =
    ap (option_map (λ index. first_descriptor + index)) (position_map (moved_object move) objects)

-- to open an object and then rename handles is to rename them and then open the renamed object
pub open_moved : (move : ℕ → ℕ) (objects : List (Option OpenObject)) (fd : ℕ) (o : OpenObject)
    → moved_objects move (with_open objects fd o) ≡ with_open (moved_objects move objects) fd (moved_object move o)
open_moved move objects fd o = map-set (option_map (moved_object move)) objects (fd - first_descriptor) (Some o)

-- to close a descriptor and then rename handles is to rename them and then close it
pub closed_moved : (move : ℕ → ℕ) (objects : List (Option OpenObject)) (fd : ℕ)
    → moved_objects move (with_closed objects fd) ≡ with_closed (moved_objects move objects) fd
closed_moved move objects fd = by (nat_lt fd first_descriptor)
  where
    by : (low : Bool)
        → moved_objects move (if low then objects else set objects (fd - first_descriptor) None)
        ≡ (if low then moved_objects move objects else set (moved_objects move objects) (fd - first_descriptor) None)
    by true = refl
    by false = map-set (option_map (moved_object move)) objects (fd - first_descriptor) None

-- ---- names of handles

-- if one of two tests holds, the first one does or the second one does
pub or_parts : (a b : Bool) → (a || b) ≡ true → (a ≡ true) ⊎ (b ≡ true)
or_parts true b e = inl refl
or_parts false b e = inr e

-- one of two tests holds if the first one does
pub or_left : (a b : Bool) → a ≡ true → (a || b) ≡ true
or_left a b e = ap (λ (x : Bool). x || b) e ∙ true-or b

-- one of two tests holds if the second one does
pub or_right : (a b : Bool) → b ≡ true → (a || b) ≡ true
or_right a b e = ap (λ (x : Bool). a || x) e ∙ or-true a

-- the first object names the handle
abbrev pub first_names : Option OpenObject → ℕ → Bool
first_names o handle = option_map_or (names handle) o false

-- a handle that the first object names is named
pub names_here : (o : Option OpenObject) (os : List (Option OpenObject)) (handle : ℕ)
    → first_names o handle ≡ true → is_named (o ∷ os) handle ≡ true
names_here o os handle e = or_left (first_names o handle) (is_named os handle) e

-- a handle that an object after the first one names is named
pub names_later : (o : Option OpenObject) (os : List (Option OpenObject)) (handle : ℕ)
    → is_named os handle ≡ true → is_named (o ∷ os) handle ≡ true
names_later o os handle e = or_right (first_names o handle) (is_named os handle) e

-- a handle that an object in the table names is named
pub named_by : (objects : List (Option OpenObject)) (n : ℕ) (o : OpenObject) (handle : ℕ)
    → get_or objects n None ≡ Some o → names handle o ≡ true
    → is_named objects handle ≡ true
named_by [] n o handle there e = absurd (none-some o there)
named_by (x ∷ xs) zero o handle there e =
    names_here x xs handle (ap (λ (y : Option OpenObject). first_names y handle) there ∙ e)
named_by (x ∷ xs) (suc n) o handle there e = names_later x xs handle (named_by xs n o handle there e)

-- the object at an index is that of the entry there, or `None` if the index is outside the list
pub flattened-get : (xs : List (Option OpenObject)) (n : ℕ) → flattened (slice_get xs n) ≡ get_or xs n None
flattened-get [] n = refl
flattened-get (x ∷ xs) zero = refl
flattened-get (x ∷ xs) (suc n) = flattened-get xs n

-- the object of a descriptor is at the descriptor's index
pub stands_at : (objects : List (Option OpenObject)) (fd : ℕ) (o : OpenObject)
    → named objects fd ≡ Some o → get_or objects (fd - first_descriptor) None ≡ Some o
stands_at objects fd o e = by (nat_lt fd first_descriptor) e
  where
    by : (low : Bool)
        → (if low then None else flattened (slice_get objects (fd - first_descriptor))) ≡ Some o
        → get_or objects (fd - first_descriptor) None ≡ Some o
    by true e = absurd (none-some o e)
    by false e = sym (flattened-get objects (fd - first_descriptor)) ∙ e

pub named_handle_is_named : (objects : List (Option OpenObject)) (fd handle : ℕ)
    → named objects fd ≡ Some (object.Map handle) → is_named objects handle ≡ true
named_handle_is_named objects fd handle e =
    named_by objects (fd - first_descriptor) (object.Map handle) handle
    (stands_at objects fd (object.Map handle) e) (eq-eqb handle handle refl)

-- the handle that a descriptor leads to is that of one of the program's maps
pub lookup_names : (ms : List (ℕ × ℕ)) (fd handle : ℕ)
    → lookup (λ m. m == fd) ms ≡ Some handle → list_any (λ m. m.1 == handle) ms ≡ true
lookup_names [] fd handle e = absurd (none-some handle e)
lookup_names (m ∷ ms) fd handle e = by (m.0 == fd) (λ found. lookup_names ms fd handle found) e
  where
    by : (here : Bool)
        → (lookup (λ k. k == fd) ms ≡ Some handle → list_any (λ k. k.1 == handle) ms ≡ true)
        → (if here then Some m.1 else lookup (λ k. k == fd) ms) ≡ Some handle
        → (m.1 == handle || list_any (λ k. k.1 == handle) ms) ≡ true
    by true rest e =
        or_left (m.1 == handle) (list_any (λ k. k.1 == handle) ms) (eq-eqb m.1 handle (same_Some m.1 handle e))
    by false rest e = or_right (m.1 == handle) (list_any (λ k. k.1 == handle) ms) (rest e)

-- ---- the same handles

same_maps : (f g : ℕ → ℕ) (ms : List (ℕ × ℕ))
    → ((handle : ℕ) → list_any (λ m. m.1 == handle) ms ≡ true → f handle ≡ g handle)
    → moved_maps f ms ≡ moved_maps g ms
same_maps f g [] h = refl
same_maps f g (m ∷ ms) h =
    ap₂ (λ (k : ℕ × ℕ) (ks : List (ℕ × ℕ)). k ∷ ks)
    (ap (λ (p : ℕ). (m.0, p)) (h m.1 (or_left (m.1 == m.1) (list_any (λ k. k.1 == m.1) ms) (eq-eqb m.1 m.1 refl))))
    (same_maps f g ms (λ handle e. h handle (or_right (m.1 == handle) (list_any (λ k. k.1 == handle) ms) e)))

-- two renamings that agree on the handles that an object names rename it alike
pub same_object : (f g : ℕ → ℕ) (o : OpenObject)
    → ((handle : ℕ) → names handle o ≡ true → f handle ≡ g handle)
    → moved_object f o ≡ moved_object g o
same_object f g (object.Map p) h = ap (λ (q : ℕ). object.Map q) (h p (eq-eqb p p refl))
same_object f g (object.Program l) h =
    ap (λ (ms : List (ℕ × ℕ)). object.Program (record l { maps = ms })) (same_maps f g l.maps h)

same_first : (f g : ℕ → ℕ) (o : Option OpenObject)
    → ((handle : ℕ) → first_names o handle ≡ true → f handle ≡ g handle)
    → option_map (moved_object f) o ≡ option_map (moved_object g) o
same_first f g None h = refl
same_first f g (Some o) h = ap (λ (x : OpenObject). Some x) (same_object f g o h)

-- two renamings that agree on the handles that are named rename all objects alike
pub same_objects : (f g : ℕ → ℕ) (objects : List (Option OpenObject))
    → ((handle : ℕ) → is_named objects handle ≡ true → f handle ≡ g handle)
    → moved_objects f objects ≡ moved_objects g objects
same_objects f g [] h = refl
same_objects f g (o ∷ os) h =
    ap₂ (λ (x : Option OpenObject) (xs : List (Option OpenObject)). x ∷ xs)
    (same_first f g o (λ handle e. h handle (names_here o os handle e)))
    (same_objects f g os (λ handle e. h handle (names_later o os handle e)))

-- ---- a handle that is named is named at its new handle

module _ (move : ℕ → ℕ) (handle : ℕ) where
  -- only this handle is moved to its new handle
  abbrev Alone : ℕ → Type 0
  Alone p = move p ≡ move handle → p ≡ handle

  same_test : (p : ℕ) → Alone p → (move p == move handle) ≡ (p == handle)
  same_test p h = by (cases_eq p handle)
    where
      by : (p ≡ handle) ⊎ (p ≡ handle → ⊥) → (move p == move handle) ≡ (p == handle)
      by (inl e) = eq-eqb (move p) (move handle) (ap move e) ∙ sym (eq-eqb p handle e)
      by (inr other) = ne_eqb (move p) (move handle) (λ e. other (h e)) ∙ sym (ne_eqb p handle other)

  names_maps : (ms : List (ℕ × ℕ))
      → ((p : ℕ) → list_any (λ m. m.1 == p) ms ≡ true → Alone p)
      → list_any (λ m. m.1 == move handle) (moved_maps move ms) ≡ list_any (λ m. m.1 == handle) ms
  names_maps [] h = refl
  names_maps (m ∷ ms) h =
      ap₂ (λ (a b : Bool). a || b)
      (same_test m.1 (h m.1 (or_left (m.1 == m.1) (list_any (λ k. k.1 == m.1) ms) (eq-eqb m.1 m.1 refl))))
      (names_maps ms (λ p e. h p (or_right (m.1 == p) (list_any (λ k. k.1 == p) ms) e)))

  names_moved : (o : OpenObject)
      → ((p : ℕ) → names p o ≡ true → Alone p)
      → names (move handle) (moved_object move o) ≡ names handle o
  names_moved (object.Map p) h = same_test p (h p (eq-eqb p p refl))
  names_moved (object.Program l) h = names_maps l.maps h

  first_moved : (o : Option OpenObject)
      → ((p : ℕ) → first_names o p ≡ true → Alone p)
      → first_names (option_map (moved_object move) o) (move handle) ≡ first_names o handle
  first_moved None h = refl
  first_moved (Some o) h = names_moved o h

  -- if no other named handle has the same new handle, a handle is named if and only if its new one is
  pub is_named_moved : (objects : List (Option OpenObject))
      → ((p : ℕ) → is_named objects p ≡ true → Alone p)
      → is_named (moved_objects move objects) (move handle) ≡ is_named objects handle
  is_named_moved [] h = refl
  is_named_moved (o ∷ os) h =
      ap₂ (λ (a b : Bool). a || b)
      (first_moved o (λ p e. h p (names_here o os p e)))
      (is_named_moved os (λ p e. h p (names_later o os p e)))

-- ---- the targets that a load reads

-- each map that is named is the same at its new handle
abbrev pub AreSame : (ℕ → ℕ) → TenantState → TenantState → List (Option OpenObject) → Type 0
AreSame move s t objects = (handle : ℕ) → is_named objects handle ≡ true → live t (move handle) ≡ live s handle

-- if each named map is the same at its new handle, the targets that a load reads are the same
pub targets_moved : (move : ℕ → ℕ) (s t : TenantState) (fd : ℕ) (objects : List (Option OpenObject))
    → AreSame move s t objects
    → targets_from t fd (moved_objects move objects) ≡ targets_from s fd objects
unfolding targets_from
targets_moved move s t fd [] h = refl
targets_moved move s t fd (o ∷ os) h =
    ap₂ (λ (a b : List Named). a ++ b)
    (ap (entry_of fd) (by o (λ handle e. h handle (names_here o os handle e))))
    (targets_moved move s t (fd + 1) os (λ handle e. h handle (names_later o os handle e)))
  where
    by : (o : Option OpenObject)
        → ((handle : ℕ) → first_names o handle ≡ true → live t (move handle) ≡ live s handle)
        → and_then (option_map (moved_object move) o) (object_target t) ≡ and_then o (object_target s)
    by None h = refl
    by (Some (object.Map handle)) h =
        ap (option_map (λ (m : Map). target.Map m.shape)) (h handle (eq-eqb handle handle refl))
    by (Some (object.Program l)) h = refl

-- one more entry before the others
abbrev bind : Option ℕ → ℕ → List (ℕ × ℕ) → List (ℕ × ℕ)
bind None fd rest = rest
bind (Some handle) fd rest = (fd, handle) ∷ rest

-- after a renaming descriptors name the maps of before with their handles renamed
pub handles_moved : (move : ℕ → ℕ) (objects : List (Option OpenObject)) (fds : List ℕ)
    → handles_from (moved_objects move objects) fds ≡ moved_maps move (handles_from objects fds)
unfolding handles_from
handles_moved move objects [] = refl
handles_moved move objects (fd ∷ fds) =
    ap (λ (o : Option ℕ). bind o fd (handles_from (moved_objects move objects) fds))
    (ap named_handle (named_moved move objects fd) ∙ handle_of (named objects fd))
    ∙ by (named_handle (named objects fd)) (handles_moved move objects fds)
  where
    handle_of : (o : Option OpenObject)
        → named_handle (option_map (moved_object move) o) ≡ option_map move (named_handle o)
    handle_of None = refl
    handle_of (Some (object.Map handle)) = refl
    handle_of (Some (object.Program l)) = refl

    by : (o : Option ℕ)
        → handles_from (moved_objects move objects) fds ≡ moved_maps move (handles_from objects fds)
        → bind (option_map move o) fd (handles_from (moved_objects move objects) fds)
        ≡ moved_maps move (bind o fd (handles_from objects fds))
    by None rest = rest
    by (Some handle) rest = ap (λ (ms : List (ℕ × ℕ)). (fd, move handle) ∷ ms) rest

-- the handle of each map that descriptors name is named
pub handles_named : (objects : List (Option OpenObject)) (fds : List ℕ) (handle : ℕ)
    → list_any (λ m. m.1 == handle) (handles_from objects fds) ≡ true
    → is_named objects handle ≡ true
unfolding handles_from
handles_named objects [] handle e = absurd (true≢false (sym e))
handles_named objects (fd ∷ fds) handle e = by (named objects fd) refl (λ rest. handles_named objects fds handle rest) e
  where
    by : (o : Option OpenObject)
        → named objects fd ≡ o
        → (list_any (λ m. m.1 == handle) (handles_from objects fds) ≡ true → is_named objects handle ≡ true)
        → list_any (λ m. m.1 == handle) (bind (named_handle o) fd (handles_from objects fds)) ≡ true
        → is_named objects handle ≡ true
    by None is rest e = rest e
    by (Some (object.Program l)) is rest e = rest e
    by (Some (object.Map p)) is rest e =
        here (or_parts (p == handle) (list_any (λ m. m.1 == handle) (handles_from objects fds)) e)
      where
        here : ((p == handle) ≡ true) ⊎ (list_any (λ m. m.1 == handle) (handles_from objects fds) ≡ true)
            → is_named objects handle ≡ true
        here (inl same) =
            named_handle_is_named objects fd handle (is ∙ ap (λ (q : ℕ). Some (object.Map q)) (eqb-true p handle same))
        here (inr later) = rest later
