-- Tables of descriptors that are given by the object of each descriptor.
use Rattle.std.proofs.Common.{◌≡◌, ◌≢◌, ℕ, zero, suc, ◌+◌, ◌-◌, ◌≤◌, ◌<◌, Bool, true, false, cond, List, [], ◌∷◌, length, set, get_or}
use Rattle.std.proofs.Common.{Option, Some, None, IsSome, is_some, refl, sym, ap, ap₂, ◌∙◌, inl, inr, arith, true≢false, length-set}
use Rattle.std.specs.Prelude.{◌⊎◌, not, nat_lt, is_none, position, option_map, slice_get, if◌then◌else◌}
use Rattle.std.specs.List.{prefix_len}
use Rattle.std.proofs.lemmas.Bool.{eq-eqb, ne_eqb, lt-ltb, le-ltb}
use Rattle.std.proofs.lemmas.List.{ext_get_or}
use Rattle.fd_table.specs.Table.{first_descriptor, most, named, lowest, with_open, with_closed, flattened}
use Rattle.tagged_model.specs.State.{set_at}
use Rattle.tenant.specs.declared.object.OpenObject.{OpenObject}
use Rattle.tenant.specs.State.{names, is_named}
use Rattle.saving.specs.Alike.{moved_object, moved_objects}
use Rattle.saving.proofs.Lists.{set_by_index}
use Rattle.saving.proofs.Moved.{flattened-get, first_names, named_by, or_parts}

-- the object of each descriptor
abbrev pub Opened : Type 0
Opened = ℕ → Option OpenObject

-- n descriptors from fd on
unfoldable pub tabled : Opened → ℕ → ℕ → List (Option OpenObject)
tabled f fd zero = []
tabled f fd (suc n) = f fd ∷ tabled f (fd + 1) n

abbrev pub table : Opened → List (Option OpenObject)
table f = tabled f first_descriptor most

-- a descriptor of the table
pub record IsDescriptor (fd : ℕ) : Type 0 where
  -- it is at least the first descriptor
  pub low : first_descriptor ≤ fd
  -- it is at most the last descriptor
  pub high : fd < first_descriptor + most

set_here : (f : Opened) (i : ℕ) (x : Option OpenObject) → set_at f i x i ≡ x
set_here f i x = ap (λ (b : Bool). if b then x else f i) (eq-eqb i i refl)

set_there : (f : Opened) (i : ℕ) (x : Option OpenObject) (k : ℕ) → k ≢ i → set_at f i x k ≡ f k
set_there f i x k other = ap (λ (b : Bool). if b then x else f k) (ne_eqb k i other)

-- a descriptor that is set has the new object
pub set_same : (f : Opened) (i : ℕ) (x : Option OpenObject) → set_at f i x i ≡ x
set_same f i x = set_here f i x

-- the object of a descriptor that is not set is not changed
pub set_other : (f : Opened) (i : ℕ) (x : Option OpenObject) (k : ℕ) → k ≢ i → set_at f i x k ≡ f k
set_other f i x k other = set_there f i x k other

-- ---- its elements

tabled-length : (f : Opened) (fd n : ℕ) → length (tabled f fd n) ≡ n
unfolding tabled
tabled-length f fd zero = refl
tabled-length f fd (suc n) = let rest = tabled-length f (fd + 1) n in omega arith

tabled-get : (f : Opened) (fd n i : ℕ) → i < n → get_or (tabled f fd n) i None ≡ f (fd + i)
unfolding tabled
tabled-get f fd zero i lt = absurd (omega arith)
tabled-get f fd (suc n) zero lt = let e : fd ≡ fd + 0 = omega arith in ap f e
tabled-get f fd (suc n) (suc i) lt =
    let e : fd + 1 + i ≡ fd + suc i = omega arith in tabled-get f (fd + 1) n i (omega arith) ∙ ap f e

tabled-same : (f g : Opened) (fd n : ℕ) → ((i : ℕ) → i < n → f (fd + i) ≡ g (fd + i)) → tabled f fd n ≡ tabled g fd n
tabled-same f g fd n h =
    ext_get_or None (tabled f fd n) (tabled g fd n) (tabled-length f fd n ∙ sym (tabled-length g fd n))
    (λ i lt.
    let long = tabled-length f fd n in
    let within : i < n = omega arith in
    tabled-get f fd n i within ∙ h i within ∙ sym (tabled-get g fd n i within))

-- the length of the table is the number of descriptors
pub table-length : (f : Opened) → length (table f) ≡ most
table-length f = tabled-length f first_descriptor most

-- the entry at the index of a descriptor is the descriptor's object
pub table-get : (f : Opened) (fd : ℕ) → IsDescriptor fd → get_or (table f) (fd - first_descriptor) None ≡ f fd
table-get f fd is =
    let low = is.low in
    let high = is.high in
    let e : first_descriptor + (fd - first_descriptor) ≡ fd = omega arith in
    tabled-get f first_descriptor most (fd - first_descriptor) (omega arith) ∙ ap f e

-- two tables are equal if each descriptor has the same object in both
pub table-same : (f g : Opened) → ((fd : ℕ) → IsDescriptor fd → f fd ≡ g fd) → table f ≡ table g
table-same f g h =
    tabled-same f g first_descriptor most
    (λ i lt. h (first_descriptor + i) (record { low = omega arith; high = omega arith }))

-- a descriptor of the table names its object
pub named-table : (f : Opened) (fd : ℕ) → IsDescriptor fd → named (table f) fd ≡ f fd
named-table f fd is =
    let low = is.low in
    let no : nat_lt fd first_descriptor ≡ false = le-ltb fd first_descriptor low in
    ap (λ (b : Bool). if b then None else flattened (slice_get (table f) (fd - first_descriptor))) no
    ∙ flattened-get (table f) (fd - first_descriptor)
    ∙ table-get f fd is

-- the table of the objects that a table's descriptors name is this table
pub table_of : (xs : List (Option OpenObject)) → length xs ≡ most → table (named xs) ≡ xs
table_of xs long =
    ext_get_or None (table (named xs)) xs (table-length (named xs) ∙ sym long)
    (λ i lt. let size = table-length (named xs) in at i (omega arith))
  where
    at : (i : ℕ) → i < most → get_or (table (named xs)) i None ≡ get_or xs i None
    at i within =
        let no : nat_lt (first_descriptor + i) first_descriptor ≡ false =
        le-ltb (first_descriptor + i) first_descriptor (omega arith) in
        let e : first_descriptor + i - first_descriptor ≡ i = omega arith in
        tabled-get (named xs) first_descriptor most i within
        ∙ ap (λ (b : Bool). if b then None else flattened (slice_get xs (first_descriptor + i - first_descriptor))) no
        ∙ flattened-get xs (first_descriptor + i - first_descriptor)
        ∙ ap (λ (j : ℕ). get_or xs j None) e

-- ---- changes

table-set : (f : Opened) (fd : ℕ) (x : Option OpenObject)
    → IsDescriptor fd → set (table f) (fd - first_descriptor) x ≡ table (set_at f fd x)
table-set f fd x is =
    ext_get_or None (set (table f) (fd - first_descriptor) x) (table (set_at f fd x))
    (length-set {A = Option OpenObject} (table f) (fd - first_descriptor) x
    ∙ table-length f
    ∙ sym (table-length (set_at f fd x)))
    (λ i lt.
    let size = length-set {A = Option OpenObject} (table f) (fd - first_descriptor) x in
    let long = table-length f in
    at i (omega arith))
  where
    within : fd - first_descriptor < length (table f)
    within = let low = is.low in let high = is.high in let long = table-length f in omega arith

    at : (i : ℕ)
        → i < most
        → get_or (set (table f) (fd - first_descriptor) x) i None ≡ get_or (table (set_at f fd x)) i None
    at i lt =
        by (set_by_index (table f) (fd - first_descriptor) i x within)
        ∙ sym (tabled-get (set_at f fd x) first_descriptor most i lt)
      where
        by : ((i ≡ fd - first_descriptor) × (get_or (set (table f) (fd - first_descriptor) x) i None ≡ x))
            ⊎ ((i ≢ fd - first_descriptor)
            × (get_or (set (table f) (fd - first_descriptor) x) i None ≡ get_or (table f) i None))
            → get_or (set (table f) (fd - first_descriptor) x) i None ≡ set_at f fd x (first_descriptor + i)
        by (inl (same, e)) =
            let low = is.low in
            let here : first_descriptor + i ≡ fd = omega arith in
            e ∙ sym (ap (set_at f fd x) here ∙ set_here f fd x)
        by (inr (other, e)) =
            let low = is.low in
            let apart : first_descriptor + i ≢ fd = λ same. other (omega arith) in
            e ∙ tabled-get f first_descriptor most i lt ∙ sym (set_there f fd x (first_descriptor + i) apart)

-- the table after an object is opened is that with the object set at its descriptor
pub table-open : (f : Opened) (fd : ℕ) (o : OpenObject)
    → IsDescriptor fd → with_open (table f) fd o ≡ table (set_at f fd (Some o))
table-open f fd o is = table-set f fd (Some o) is

-- the table after a descriptor is closed is that with no object at the descriptor
pub table-closed : (f : Opened) (fd : ℕ) → IsDescriptor fd → with_closed (table f) fd ≡ table (set_at f fd None)
table-closed f fd is =
    let low = is.low in
    let no : nat_lt fd first_descriptor ≡ false = le-ltb fd first_descriptor low in
    ap (λ (b : Bool). if b then table f else set (table f) (fd - first_descriptor) None) no ∙ table-set f fd None is

-- ---- the lowest free descriptor

prefix_to : (f : Opened) (fd n k : ℕ)
    → k < n → ((i : ℕ) → i < k → IsSome (f (fd + i)))
    → f (fd + k) ≡ None
    → prefix_len (λ o. not (is_none o)) (tabled f fd n) ≡ k
unfolding tabled
prefix_to f fd zero k lt below free = absurd (omega arith)
prefix_to f fd (suc n) zero lt below free =
    let e : fd ≡ fd + 0 = omega arith in
    ap (λ (o : Option OpenObject).
    cond (not (is_none o)) (1 + prefix_len (λ o. not (is_none o)) (tabled f (fd + 1) n)) 0)
    (ap f e ∙ free)
prefix_to f fd (suc n) (suc k) lt below free =
    let e : fd ≡ fd + 0 = omega arith in
    let there : not (is_none (f fd)) ≡ true =
    some_not (f fd) (ap (λ (m : ℕ). is_some (f m)) e ∙ below 0 (omega arith)) in
    let rest =
    prefix_to f (fd + 1) n k (omega arith)
    (λ i low.
    let same : fd + suc i ≡ fd + 1 + i = omega arith in
    ap (λ (m : ℕ). is_some (f m)) (sym same) ∙ below (suc i) (omega arith))
    (let same : fd + 1 + k ≡ fd + suc k = omega arith in ap f same ∙ free) in
    ap (λ (b : Bool). cond b (1 + prefix_len (λ o. not (is_none o)) (tabled f (fd + 1) n)) 0) there ∙ (omega arith)
  where
    some_not : (o : Option OpenObject) → IsSome o → not (is_none o) ≡ true
    some_not None some = absurd (true≢false (sym some))
    some_not (Some o) some = refl

-- a free descriptor, with no free one below it
pub record IsLowestFree (f : Opened) (fd : ℕ) : Type 0 where
  -- it is a descriptor of the table
  pub descriptor : IsDescriptor fd
  -- no object is open at it
  pub free : f fd ≡ None
  -- an object is open at each lower descriptor
  pub lower : (other : ℕ) → first_descriptor ≤ other → other < fd → IsSome (f other)

-- a free descriptor with no free one below it is the lowest free descriptor of the table
pub lowest-is : (f : Opened) (fd : ℕ) → IsLowestFree f fd → lowest (table f) ≡ Some fd
lowest-is f fd is =
    let low = is.descriptor.low in
    let high = is.descriptor.high in
    let k = fd - first_descriptor in
    let back : first_descriptor + k ≡ fd = omega arith in
    let size = table-length f in
    let prefix =
    prefix_to f first_descriptor most k (omega arith)
    (λ i lt. is.lower (first_descriptor + i) (omega arith) (omega arith))
    (ap f back ∙ is.free) in
    let found : position is_none (table f) ≡ Some k =
    ap₂ (λ (m n : ℕ). cond (nat_lt m n) (Some m) None) prefix size
    ∙ ap (λ (b : Bool). cond b (Some k) None) (lt-ltb k most (omega arith)) in
    ap (option_map (λ index. first_descriptor + index)) found ∙ ap (λ (m : ℕ). Some m) back

-- the only free descriptor
pub record IsOnlyFree (f : Opened) (fd : ℕ) : Type 0 where
  -- it is a descriptor of the table
  pub descriptor : IsDescriptor fd
  -- no object is open at it
  pub free : f fd ≡ None
  -- an object is open at each other descriptor
  pub others : (other : ℕ) → IsDescriptor other → other ≢ fd → IsSome (f other)

-- the only free descriptor is the lowest free descriptor of the table
pub lowest-table : (f : Opened) (fd : ℕ) → IsOnlyFree f fd → lowest (table f) ≡ Some fd
lowest-table f fd is =
    let high = is.descriptor.high in
    lowest-is f fd (record {
      descriptor = is.descriptor;
      free = is.free;
      lower = λ other low lt. is.others other (record { low = low; high = omega arith }) (λ e. absurd (omega arith));
    })

-- ---- names

-- a handle that is named is named by an object of the table
tabled-named : (f : Opened) (fd n handle : ℕ)
    → is_named (tabled f fd n) handle ≡ true
    → (i : ℕ) × (i < n) × (o : OpenObject) × (f (fd + i) ≡ Some o) × (names handle o ≡ true)
unfolding tabled
tabled-named f fd zero handle e = absurd (true≢false (sym e))
tabled-named f fd (suc n) handle e =
    by (f fd) refl (tabled-named f (fd + 1) n handle)
    (or_parts (first_names (f fd) handle) (is_named (tabled f (fd + 1) n) handle) e)
  where
    first : (o : Option OpenObject)
        → f fd ≡ o → first_names o handle ≡ true
        → (i : ℕ) × (i < suc n) × (x : OpenObject) × (f (fd + i) ≡ Some x) × (names handle x ≡ true)
    first None is e = absurd (true≢false (sym e))
    first (Some x) is e = let same : fd + 0 ≡ fd = omega arith in (0, omega arith, x, ap f same ∙ is, e)

    by : (o : Option OpenObject)
        → f fd ≡ o
        → (is_named (tabled f (fd + 1) n) handle ≡ true
        → (i : ℕ) × (i < n) × (x : OpenObject) × (f (fd + 1 + i) ≡ Some x) × (names handle x ≡ true))
        → (first_names (f fd) handle ≡ true) ⊎ (is_named (tabled f (fd + 1) n) handle ≡ true)
        → (i : ℕ) × (i < suc n) × (x : OpenObject) × (f (fd + i) ≡ Some x) × (names handle x ≡ true)
    by o is rest (inl here) = first (f fd) refl here
    by o is rest (inr later) =
        let (i, lt, x, at, named) = rest later in
        let same : fd + suc i ≡ fd + 1 + i = omega arith in
        (suc i, omega (arith, lt), x, ap f same ∙ at, named)

-- a descriptor whose object names the handle
pub record NamesAt (f : Opened) (handle : ℕ) : Type 0 where
  -- the descriptor
  pub fd : ℕ
  -- it is a descriptor of the table
  pub descriptor : IsDescriptor fd
  -- the object of the descriptor
  pub o : OpenObject
  -- this object is open at the descriptor
  pub at : f fd ≡ Some o
  -- the object names the handle
  pub named : names handle o ≡ true

-- a handle that is named is named by the object of a descriptor
pub names_at : (f : Opened) (handle : ℕ) → is_named (table f) handle ≡ true → NamesAt f handle
names_at f handle e =
    let (i, lt, o, at, named) = tabled-named f first_descriptor most handle e in
    record {
      fd = first_descriptor + i;
      descriptor = record { low = omega arith; high = omega (arith, lt) };
      o = o;
      at = at;
      named = named;
    }

-- a handle that the object of a descriptor names is named
pub named_from_at : (f : Opened) (handle : ℕ) → NamesAt f handle → is_named (table f) handle ≡ true
named_from_at f handle h =
    named_by (table f) (h.fd - first_descriptor) h.o handle (table-get f h.fd h.descriptor ∙ h.at) h.named

-- ---- the maps of each object have other handles

-- the table with its handles renamed is the table of the renamed objects
pub table-moved : (move : ℕ → ℕ) (f : Opened) (fd n : ℕ)
    → moved_objects move (tabled f fd n) ≡ tabled (λ k. option_map (moved_object move) (f k)) fd n
unfolding tabled
table-moved move f fd zero = refl
table-moved move f fd (suc n) =
    ap (λ (os : List (Option OpenObject)). option_map (moved_object move) (f fd) ∷ os) (table-moved move f (fd + 1) n)
