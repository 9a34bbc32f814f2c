-- A map is created again and gets its keys in order.
use Rattle.std.proofs.Common.{◌≡◌, ℕ, zero, suc, ◌+◌, ◌≤◌, ◌<◌, Bool, true, false, cond, List, [], ◌∷◌, ◌++◌, length, map, set}
use Rattle.std.proofs.Common.{get_or, take, drop, replicate, Option, Some, None, Result, Ok, Err, refl, sym, ap, ap₂, subst, ◌∙◌}
use Rattle.std.proofs.Common.{inl, inr, arith, true≢false, length-set, get_or-set_same, append_assoc, append-nil, IsTrue, length-append}
use Rattle.std.specs.Prelude.{◌⊎◌, ◌==◌, ◌||◌, ◌&&◌, pos, is_none, not, if◌then◌else◌}
use Rattle.std.specs.List.{AllByRecursion, prefix_len}
use Rattle.std.specs.Map.{keys_of, set_value}
use Rattle.std.proofs.lemmas.Bool.{eq-eqb, ne_eqb, lt-ltb, le-ltb}
use Rattle.std.proofs.lemmas.Option.{none-some}
use Rattle.std.proofs.lemmas.List.{set-set, set-get_or}
use Rattle.std.proofs.Math.Seq.{take-append_seam, drop-append_seam}
use Rattle.std.proofs.Props.{props}
use Rattle.bpf_maps.specs.Sum.{weight, total}
use Rattle.command_frames.specs.Command.{Command}
use Rattle.fd_table.specs.Table.{named, lowest}
use Rattle.tagged_model.specs.declared.shape.MapKind.{MapKind}
use Rattle.tagged_model.specs.declared.shape.MapKind.TheVariants.{Hash, Array}
use Rattle.tagged_model.specs.declared.shape.MapShape.{MapShape}
use Rattle.tagged_model.specs.Shape.{is_shape, fits, has_key, is_from_to, longest_value, most_entries}
use Rattle.tagged_model.specs.State.{set_at}
use Rattle.tagged_model.specs.Table as call
use Rattle.tagged_model.specs.Table.{is_key, found, index_key, indexed, new_entries, verdict, with_new, with_object, shape_area}
use Rattle.tagged_model.specs.declared.fault.MapFault.TheVariants.{TooBig}
use Rattle.tenant.specs.declared.errno.Errno.{Errno}
use Rattle.tenant.specs.declared.errno.Errno.TheVariants.{Invalid}
use Rattle.tenant.specs.declared.object.OpenObject.{OpenObject}
use Rattle.tenant.specs.declared.object.OpenObject.TheVariants as object
use Rattle.bpf_maps.specs.Limits.{most_bytes}
use Rattle.tenant.specs.State.{Map, TenantState, live, is_named, named_from, map_area, maps_area, free_handle, with_map_at}
use Rattle.tenant.specs.Machine.{Answer, Answers, opens, gives, refuses, kind_of, asked_shape, shape_where, new_map}
use Rattle.tenant.specs.Machine.{room_for, created, created_under, created_as, of_object, of_handle, element_put}
use Rattle.tenant.specs.Described.{type_number}
use Rattle.saving.specs.Restored.{create_of, put_of, Leads}
use Rattle.saving.specs.Restorable.{AreDistinct, IsWholeMap}
use Rattle.saving.specs.Laws.{MapsAreHeld, AlikeIsBisimulation}
use Rattle.saving.proofs.Lists.{set_by_index, there_within, there_is}
use Rattle.saving.proofs.Wholes.{same_key, not_found, mid_apart, keys_append}
use Rattle.saving.proofs.Moved.{lowest_moved, or_left}
use Rattle.saving.proofs.Pairs.{with_new_map, IsFree, SetAt, SameRoom, same_room_for, created_pair}
use Rattle.saving.proofs.Closes.{length_named, live_with}
use Rattle.saving.proofs.Held.{created_held}
use Rattle.saving.proofs.Tables.{Opened, table, IsOnlyFree, named-table, table-open, lowest-table, set_same}
use Rattle.saving.proofs.States.{Follows, follows, state_of, same_state, opened_names}

-- ---- the shape of the command

IsTrue-prop : (b : Bool) → IsProp (IsTrue b)
IsTrue-prop b = hlevel props

abbrev asked : (limits fits : Bool) → (((limits && true) && fits) ≡ true → MapShape) → Result MapShape Errno
asked limits fits shape = if limits && true then shape_where ((limits && true) && fits) shape else Err Invalid

asked_listed : (limits fits : Bool) (shape : ((limits && true) && fits) ≡ true → MapShape) (s : MapShape)
    → ((limits && true) && fits) ≡ true
    → ((e : ((limits && true) && fits) ≡ true) → shape e ≡ s)
    → asked limits fits shape ≡ Ok s
asked_listed true true shape s e same = ap Ok (same refl)
asked_listed true false shape s e same = absurd (true≢false (sym e))
asked_listed false fits shape s e same = absurd (true≢false (sym e))

kind_again : (kind : MapKind) → kind_of (type_number kind) ≡ Some kind
kind_again Hash = refl
kind_again Array = refl

abbrev in_limits : MapKind → ℕ → ℕ → ℕ → Bool
in_limits kind key value max = (has_key kind key && is_from_to 1 longest_value value) && is_from_to 1 most_entries max

asked_again : (shape : MapShape)
    → asked_shape (kind_of (type_number shape.kind)) shape.key_size shape.value_size shape.max_entries 0 ≡ Ok shape
asked_again shape =
    ap (λ (o : Option MapKind). asked_shape o shape.key_size shape.value_size shape.max_entries 0)
    (kind_again shape.kind)
    ∙ asked_listed (in_limits shape.kind shape.key_size shape.value_size shape.max_entries)
    (fits shape.value_size shape.max_entries)
    (λ listed.
    record {
      kind = shape.kind;
      key_size = shape.key_size;
      value_size = shape.value_size;
      max_entries = shape.max_entries;
      listed = listed;
    })
    shape shape.listed
    (λ listed.
    ap (λ (h : IsTrue (is_shape shape.kind shape.key_size shape.value_size shape.max_entries)).
    record {
      kind = shape.kind;
      key_size = shape.key_size;
      value_size = shape.value_size;
      max_entries = shape.max_entries;
      listed = h;
    })
    (IsTrue-prop (is_shape shape.kind shape.key_size shape.value_size shape.max_entries) listed shape.listed))

-- ---- keys

abbrev Pair : Type 0
Pair = List ℕ × List ℕ

found_behind : (key value : List ℕ) (done rest : List Pair)
    → found key done ≡ None → found key (done ++ (key, value) ∷ rest) ≡ Some value
found_behind key value [] rest none = ap (λ (b : Bool). cond b (Some value) (found key rest)) (same_key key)
found_behind key value (e ∷ es) rest none = by (is_key key e.0) none (found_behind key value es rest)
  where
    by : (b : Bool)
        → cond b (Some e.1) (found key es) ≡ None
        → (found key es ≡ None → found key (es ++ (key, value) ∷ rest) ≡ Some value)
        → cond b (Some e.1) (found key (es ++ (key, value) ∷ rest)) ≡ Some value
    by true none later = absurd (none-some e.1 (sym none))
    by false none later = later none

set_behind : (key old value : List ℕ) (done rest : List Pair)
    → found key done ≡ None
    → set_value (is_key key) (done ++ (key, old) ∷ rest) value ≡ done ++ (key, value) ∷ rest
set_behind key old value [] rest none =
    ap (λ (b : Bool). cond b ((key, value) ∷ rest) ((key, old) ∷ set_value (is_key key) rest value)) (same_key key)
set_behind key old value (e ∷ es) rest none = by (is_key key e.0) none (set_behind key old value es rest)
  where
    by : (b : Bool)
        → cond b (Some e.1) (found key es) ≡ None
        → (found key es ≡ None → set_value (is_key key) (es ++ (key, old) ∷ rest) value ≡ es ++ (key, value) ∷ rest)
        → cond b ((e.0, value) ∷ (es ++ (key, old) ∷ rest)) (e ∷ set_value (is_key key) (es ++ (key, old) ∷ rest) value)
        ≡ e ∷ (es ++ (key, value) ∷ rest)
    by true none later = absurd (none-some e.1 (sym none))
    by false none later = ap (λ (xs : List Pair). e ∷ xs) (later none)

-- no key of the second list is in the first, or twice in the second
abbrev AreNew : List Pair → List Pair → Type 0
AreNew before [] = Unit {0}
AreNew before (e ∷ es) = (found e.0 before ≡ None) × AreNew (before ++ e ∷ []) es

new_from : (before es : List Pair) → AreDistinct (keys_of before ++ keys_of es) → AreNew before es
new_from before [] h = tt
new_from before (e ∷ es) h = (
  not_found e.0 before (mid_apart (keys_of before) e.0 (keys_of es) h),
  new_from (before ++ e ∷ []) es
      (subst AreDistinct
      (sym (append_assoc (keys_of before) (e.0 ∷ []) (keys_of es))
      ∙ ap (λ (ks : List (List ℕ)). ks ++ keys_of es) (sym (keys_append before (e ∷ []))))
      h),
)

-- ---- the map gets its keys

-- an update with a new key, or with a present one
abbrev pub IsPut : Map → Pair → Map → Type 0
IsPut t e u =
    ((verdict t e.0 0 ≡ call.New) × (u ≡ with_new t e.0 e.1))
    ⊎ ((old : List ℕ) × (verdict t e.0 0 ≡ call.Present old) × (u ≡ with_object t e.0 e.1))

abbrev pub ArePut : Map → List Pair → Map → Type 0
ArePut t [] u = u ≡ t
ArePut t (e ∷ es) u = (v : Map) × IsPut t e v × (v.shape ≡ t.shape) × ArePut v es u

abbrev pair_with : List ℕ → List ℕ → Pair
pair_with zeros key = (key, zeros)

module _ (shape : MapShape) where
  abbrev holding : List Pair → Map
  holding es = record { shape = shape; entries = es; deleted = 0 }

  -- one more pair is put
  regroup : (done : List Pair) (e : Pair) (rest es : List Pair)
      → ArePut (holding ((done ++ e ∷ []) ++ rest)) es (holding ((done ++ e ∷ []) ++ es))
      → ArePut (holding (done ++ e ∷ rest)) es (holding (done ++ e ∷ es))
  regroup done e rest es h =
      subst (λ (xs : List Pair). ArePut (holding xs) es (holding (done ++ e ∷ es))) (append_assoc done (e ∷ []) rest)
      (subst (λ (xs : List Pair). ArePut (holding ((done ++ e ∷ []) ++ rest)) es (holding xs))
      (append_assoc done (e ∷ []) es) h)

  -- keys that are absent, one after another
  put_new : shape.kind ≡ Hash
      → (done es : List Pair) → length done + length es ≤ shape.max_entries
      → AreNew done es
      → ArePut (holding done) es (holding (done ++ es))
  put_new hash done [] few new = ap holding (append-nil done)
  put_new hash done (e ∷ es) few new = (
    holding (done ++ e ∷ []),
    inl (absent, refl),
    refl,
    subst (λ (xs : List Pair). ArePut (holding (done ++ e ∷ [])) es (holding xs)) (append_assoc done (e ∷ []) es)
        (put_new hash (done ++ e ∷ []) es (let long = length-append done (e ∷ []) in omega arith) new.1),
  )
    where
      not_full : ((length done + 0) == shape.max_entries) ≡ false
      not_full = ne_eqb (length done + 0) shape.max_entries (λ same. absurd (omega (arith, few)))

      absent : verdict (holding done) e.0 0 ≡ call.New
      absent =
          ap (call.of_found (holding done) 0) new.0
          ∙ ap (λ (k : MapKind). call.of_absent {A = List ℕ} k ((length done + 0) == shape.max_entries) 0) hash
          ∙ ap (λ (b : Bool). if b then call.Refused TooBig else call.New) not_full

  -- keys that are present, one after another
  abbrev zeroed : List ℕ → List Pair → List Pair
  zeroed zeros es = map (λ e. pair_with zeros e.0) es

  put_old : (zeros : List ℕ) (done es : List Pair)
      → AreNew done es → ArePut (holding (done ++ zeroed zeros es)) es (holding (done ++ es))
  put_old zeros done [] new = refl
  put_old zeros done (e ∷ es) new = (
    holding (done ++ e ∷ zeroed zeros es),
    inr (
      zeros,
      ap (λ (o : Option (List ℕ)). call.of_found (holding (done ++ (e.0, zeros) ∷ zeroed zeros es)) 0 o)
          (found_behind e.0 zeros done (zeroed zeros es) new.0),
      ap holding (sym (set_behind e.0 zeros e.1 done (zeroed zeros es) new.0)),
    ),
    refl,
    regroup done e (zeroed zeros es) es (put_old zeros (done ++ e ∷ []) es new.1),
  )

-- a new map
indexed_zeros : (zeros : List ℕ) (from n : ℕ)
    → indexed (λ i. zeros) from n ≡ map (pair_with zeros) (keys_of (indexed (λ i. i) from n))
unfolding indexed
indexed_zeros zeros from zero = refl
indexed_zeros zeros from (suc n) =
    ap (λ (es : List Pair). (index_key from, zeros) ∷ es) (indexed_zeros zeros (from + 1) n)

by_keys : (zeros : List ℕ) (es : List Pair) → map (pair_with zeros) (keys_of es) ≡ map (λ e. pair_with zeros e.0) es
by_keys zeros [] = refl
by_keys zeros (e ∷ es) = ap (λ (xs : List Pair). (e.0, zeros) ∷ xs) (by_keys zeros es)

-- a new map of the shape of a whole map becomes this map if its entries are put in order
pub put_all : (t : Map) → IsWholeMap t → ArePut (new_map t.shape) t.entries t
put_all t whole = by t.shape.kind refl
  where
    zeros : List ℕ
    zeros = replicate t.shape.value_size 0

    same : record { shape = t.shape; entries = t.entries; deleted = 0 } ≡ t
    same = ap (λ (n : ℕ). record { shape = t.shape; entries = t.entries; deleted = n }) (sym whole.ended)

    new_of : (k : MapKind)
        → t.shape.kind ≡ k
        → new_map t.shape
        ≡ record { shape = t.shape; entries = new_entries (λ i. replicate t.shape.value_size 0) k t.shape.max_entries; deleted = 0 }
    new_of k e =
        ap (λ (x : MapKind).
        record {
          shape = t.shape;
          entries = new_entries (λ i. replicate t.shape.value_size 0) x t.shape.max_entries;
          deleted = 0;
        })
        e

    by : (k : MapKind) → t.shape.kind ≡ k → ArePut (new_map t.shape) t.entries t
    by Hash e =
        subst (λ (m : Map). ArePut m t.entries t) (sym (new_of Hash e))
        (subst (λ (m : Map). ArePut (record { shape = t.shape; entries = []; deleted = 0 }) t.entries m)
        same
        (put_new t.shape e [] t.entries (let few = whole.table.few in omega arith)
        (new_from [] t.entries whole.table.distinct)))
    by Array e =
        subst (λ (m : Map). ArePut m t.entries t)
        (sym (new_of Array e
        ∙ ap (λ (es : List Pair). record { shape = t.shape; entries = es; deleted = 0 })
        (indexed_zeros (replicate t.shape.value_size 0) 0 t.shape.max_entries
        ∙ ap (map (pair_with (replicate t.shape.value_size 0))) (sym (whole.table.indices e))
        ∙ by_keys (replicate t.shape.value_size 0) t.entries)))
        (subst (λ (m : Map).
        ArePut (record {
          shape = t.shape;
          entries = map (λ x. pair_with (replicate t.shape.value_size 0) x.0) t.entries;
          deleted = 0;
        })
        t.entries m)
        same
        (put_old t.shape (replicate t.shape.value_size 0) [] t.entries (new_from [] t.entries whole.table.distinct)))

-- ---- the updates

put_answer : (x : TenantState) (fd handle : ℕ) (t u : Map) (e : Pair)
    → named x.objects fd ≡ Some (object.Map handle)
    → live x handle ≡ Some t → IsPut t e u
    → length e.0 ≡ t.shape.key_size → length e.1 ≡ t.shape.value_size
    → Answers false x (put_of fd e) (gives [] (with_map_at x handle u))
put_answer x fd handle t u e opened there put key_size value_size =
    sym (ap (of_object x update) opened
    ∙ ap (of_handle x handle update) there
    ∙ ap (λ (b : Bool).
    if b
    then element_put x handle t (take t.shape.key_size (e.0 ++ e.1))
    (drop t.shape.key_size (e.0 ++ e.1)) (verdict t (take t.shape.key_size (e.0 ++ e.1)) 0)
    else refuses Invalid x)
    fits_both
    ∙ ap₂ (λ (key value : List ℕ). element_put x handle t key value (verdict t key 0)) front back ∙ by put)
  where
    update : ℕ → Map → Answer
    update p m =
        if length (e.0 ++ e.1) == m.shape.key_size + m.shape.value_size
        then element_put x p m (take m.shape.key_size (e.0 ++ e.1))
        (drop m.shape.key_size (e.0 ++ e.1)) (verdict m (take m.shape.key_size (e.0 ++ e.1)) 0)
        else refuses Invalid x

    fits_both : (length (e.0 ++ e.1) == t.shape.key_size + t.shape.value_size) ≡ true
    fits_both =
        eq-eqb (length (e.0 ++ e.1)) (t.shape.key_size + t.shape.value_size)
        (let long = length-append e.0 e.1 in omega (arith, key_size, value_size))

    front : take t.shape.key_size (e.0 ++ e.1) ≡ e.0
    front = ap (λ (n : ℕ). take n (e.0 ++ e.1)) (sym key_size) ∙ take-append_seam e.0 e.1

    back : drop t.shape.key_size (e.0 ++ e.1) ≡ e.1
    back = ap (λ (n : ℕ). drop n (e.0 ++ e.1)) (sym key_size) ∙ drop-append_seam e.0 e.1

    by : IsPut t e u → element_put x handle t e.0 e.1 (verdict t e.0 0) ≡ gives [] (with_map_at x handle u)
    by (inl (new, is)) =
        ap (element_put x handle t e.0 e.1) new ∙ ap (λ (m : Map). gives [] (with_map_at x handle m)) (sym is)
    by (inr (old, present, is)) =
        ap (element_put x handle t e.0 e.1) present ∙ ap (λ (m : Map). gives [] (with_map_at x handle m)) (sym is)

-- ---- room for the map

-- the bytes of the named maps are at most those of all maps
pub area_left : (objects : List (Option OpenObject)) (from : ℕ) (ms : List (Option Map))
    → total map_area (named_from objects from ms) ≤ total map_area ms
unfolding named_from total
area_left objects from [] = omega arith
area_left objects from (m ∷ ms) =
    let rest = area_left objects (from + 1) ms in let here = fewer (is_named objects from) m in omega arith
  where
    fewer : (b : Bool) (o : Option Map) → weight map_area (if b then o else None) ≤ weight map_area o
    fewer true o = omega arith
    fewer false o = omega arith

area_more : (objects : List (Option OpenObject)) (from i : ℕ) (ms : List (Option Map)) (t : Map)
    → get_or ms i None ≡ Some t → is_named objects (from + i) ≡ false
    → total map_area (named_from objects from ms) + map_area t ≤ total map_area ms
unfolding named_from total
area_more objects from i [] t there unnamed = absurd (none-some t there)
area_more objects from zero (m ∷ ms) t there unnamed =
    let rest = area_left objects (from + 1) ms in
    let e : from + 0 ≡ from = omega arith in
    let none : weight map_area (if is_named objects from then m else None) ≡ 0 =
    ap (λ (b : Bool). weight map_area (if b then m else None)) (ap (is_named objects) (sym e) ∙ unnamed) in
    let here : weight map_area m ≡ map_area t = ap (weight map_area) there in
    omega arith
area_more objects from (suc i) (m ∷ ms) t there unnamed =
    let e : from + suc i ≡ from + 1 + i = omega arith in
    let rest = area_more objects (from + 1) i ms t there (ap (is_named objects) (sym e) ∙ unnamed) in
    let here = fewer (is_named objects from) m in
    omega arith
  where
    fewer : (b : Bool) (o : Option Map) → weight map_area (if b then o else None) ≤ weight map_area o
    fewer true o = omega arith
    fewer false o = omega arith

-- if some handle is free, there is a lowest free handle
free_prefix : (xs : List (Option Map)) (n : ℕ)
    → n < length xs → get_or xs n None ≡ None
    → prefix_len (λ o. not (is_none o)) xs < length xs
free_prefix [] n within free = absurd (omega arith)
free_prefix (None ∷ xs) n within free = omega arith
free_prefix (Some x ∷ xs) zero within free = absurd (none-some x (sym free))
free_prefix (Some x ∷ xs) (suc n) within free = let rest = free_prefix xs n (omega arith) free in omega arith

room_of : (x : TenantState) (handle size : ℕ)
    → IsFree x handle → maps_area x.maps + size ≤ most_bytes
    → (p : ℕ) × (room_for x size ≡ Some p)
room_of x handle size free fits =
    let n = prefix_len (λ (o : Option Map). not (is_none o)) x.maps in (
      n,
      ap (λ (b : Bool). if b then None else free_handle x) (le-ltb most_bytes (maps_area x.maps + size) fits)
          ∙ ap (λ (b : Bool). cond b (Some n) None)
          (lt-ltb n (length x.maps) (free_prefix x.maps handle free.within free.none)),
    )

-- ---- the whole map

-- the commands lead to a state that is alike to this one
pub record LeadsTo (t : TenantState) (commands : List Command) (x : TenantState) : Type 0 where
  -- the state after the commands
  pub end : TenantState
  -- each command succeeds, and together they lead to this state
  pub leads : Leads t commands end
  -- the state after the commands is the given one with its handles renamed
  pub after : Follows x end

module _ (held : MapsAreHeld) (bisimulation : AlikeIsBisimulation) where
  puts_lead : (es : List Pair) (x t : TenantState) (fd handle : ℕ) (m u : Map)
      → Follows x t
      → named x.objects fd ≡ Some (object.Map handle)
      → handle < length x.maps → live x handle ≡ Some m
      → AllByRecursion (λ e. length e.0 ≡ m.shape.key_size) es
      → AllByRecursion (λ e. length e.1 ≡ m.shape.value_size) es
      → ArePut m es u
      → LeadsTo t (map (put_of fd) es) (with_map_at x handle u)
  puts_lead [] x t fd handle m u h opened within there keys values put = record {
    end = t;
    leads = refl;
    after =
        subst (λ (y : TenantState). Follows y t)
        (ap (λ (ms : List (Option Map)). record x { maps = ms })
        (sym (ap (set x.maps handle) (ap (λ (v : Map). Some v) put ∙ sym there) ∙ set-get_or x.maps handle None)))
        h;
  }
  puts_lead (e ∷ es) x t fd handle m u h opened within there keys values (v, put, shaped, rest) =
      let one =
      follows held bisimulation x t (put_of fd e) (gives [] (with_map_at x handle v)) h
      (put_answer x fd handle m v e opened there put keys.0 values.0) in
      let later = puts_lead es (with_map_at x handle v) one.b.after fd handle v u one.after opened
      (let long = length-set {A = Option Map} x.maps handle (Some v) in omega arith)
      (get_or-set_same x.maps handle (Some v) None within)
      (subst (λ (shape : MapShape). AllByRecursion (λ k. length k.0 ≡ shape.key_size) es) (sym shaped) keys.1)
      (subst (λ (shape : MapShape). AllByRecursion (λ k. length k.1 ≡ shape.value_size) es) (sym shaped) values.1)
      rest in
      record {
        end = later.end;
        leads = (one.b, one.answers, (0, one.status), later.leads);
        after =
            subst (λ (ms : List (Option Map)). Follows (record x { maps = ms }) later.end)
            (set-set x.maps handle (Some v) (Some u)) later.after;
      }

  -- a new map gets a free handle of each state
  create_leads : (x t : TenantState) (fd handle : ℕ) (shape : MapShape)
      → Follows x t → lowest x.objects ≡ Some fd
      → IsFree x handle
      → maps_area x.maps + shape_area shape ≤ most_bytes
      → (b : Answer)
      × Answers false t (create_of shape) b
      × (b.status ≡ pos fd)
      × Follows (with_new_map x fd handle (new_map shape)) b.after
  create_leads x t fd handle shape h low free fits =
      by (room_of x handle (shape_area shape) free fits) (same_room_for h.pair (shape_area shape))
    where
      low_too : lowest t.objects ≡ Some fd
      low_too = ap lowest h.pair.by.objects ∙ lowest_moved h.move x.objects ∙ low

      by : (p : ℕ) × (room_for x (shape_area shape) ≡ Some p)
          → SameRoom x t (shape_area shape)
          → (b : Answer)
          × Answers false t (create_of shape) b
          × (b.status ≡ pos fd)
          × Follows (with_new_map x fd handle (new_map shape)) b.after
      by (p, room) (inl (none, too)) = absurd (none-some p (sym none ∙ room))
      by (p, room) (inr (p', q, room_too, room_there, free_p, free_q)) =
          let b = opens fd (with_new_map t fd q (new_map shape)) in
          let answers : Answers false t (create_of shape) b = sym (
          ap (created false t) (asked_again shape)
          ∙ ap (created_under false t shape) low_too
          ∙ ap (created_as false t shape fd) room_there) in (
            b,
            answers,
            refl,
            record {
              move = set_at h.move handle q;
              pair = record {
                one = created_held h.pair.one fd handle (new_map shape) low free;
                two = held.kept false t (create_of shape) b h.pair.two answers;
                by = created_pair h.pair fd handle q (new_map shape) free free_q;
              };
            },
          )

  -- the commands that create a map and put its entries lead to a state with this map at the free descriptor
  pub map_leads : (s : TenantState) (f : Opened) (t : TenantState) (fd handle : ℕ) (m : Map)
      → Follows (state_of s f) t → IsOnlyFree f fd
      → live s handle ≡ Some m → IsWholeMap m
      → is_named (table f) handle ≡ false → maps_area s.maps ≤ most_bytes
      → LeadsTo t (create_of m.shape ∷ map (put_of fd) m.entries) (state_of s (set_at f fd (Some (object.Map handle))))
  map_leads s f t fd handle m h only there whole unnamed fits =
      let (b, answers, status, after) =
      create_leads (state_of s f) t fd handle m.shape h (lowest-table f fd only) free area in
      let later =
      puts_lead m.entries new b.after fd handle (new_map m.shape) m after opened
      (let long = length-set {A = Option Map} before handle (Some (new_map m.shape)) in
      let within = free.within in
      omega arith)
      (get_or-set_same before handle (Some (new_map m.shape)) None free.within) whole.table.keys
      whole.values (put_all m whole) in
      record {
        end = later.end;
        leads = (b, answers, (fd, status), later.leads);
        after = subst (λ (y : TenantState). Follows y later.end) end_is later.after;
      }
    where
      before : List (Option Map)
      before = named_from (table f) 0 s.maps

      new : TenantState
      new = with_new_map (state_of s f) fd handle (new_map m.shape)

      zero_handle : 0 + handle ≡ handle
      zero_handle = omega arith

      free : IsFree (state_of s f) handle
      free = record {
        within =
            let within = there_within s.maps handle (there_is there) in
            let long = length_named (table f) 0 s.maps in
            omega arith;
        none = live_with s (table f) handle ∙ ap (λ (b : Bool). if b then live s handle else None) unnamed;
      }

      area : maps_area before + shape_area m.shape ≤ most_bytes
      area =
          let more = area_more (table f) 0 handle s.maps m there (ap (is_named (table f)) zero_handle ∙ unnamed) in
          omega (arith, fits)

      opened : named new.objects fd ≡ Some (object.Map handle)
      opened =
          ap (λ (os : List (Option OpenObject)). named os fd) (table-open f fd (object.Map handle) only.descriptor)
          ∙ named-table (set_at f fd (Some (object.Map handle))) fd only.descriptor
          ∙ set_same f fd (Some (object.Map handle))

      named_is : (p : ℕ)
          → is_named (table (set_at f fd (Some (object.Map handle)))) p ≡ (handle == p || is_named (table f) p)
      named_is p = opened_names f fd (object.Map handle) p only

      at : (p : ℕ)
          → SetAt before handle m p
          → get_or (set before handle (Some m)) p None
          ≡ (if is_named (table (set_at f fd (Some (object.Map handle)))) p then live s p else None)
      at p (inl (same, e)) =
          e
          ∙ sym (ap (λ (q : Bool). if q then live s p else None)
          (named_is p ∙ or_left (handle == p) (is_named (table f) p) (eq-eqb handle p (sym same)))
          ∙ ap (live s) same
          ∙ there)
      at p (inr (other, e)) =
          e ∙ live_with s (table f) p
          ∙ sym (ap (λ (q : Bool). if q then live s p else None)
          (named_is p ∙ ap (λ (q : Bool). q || is_named (table f) p) (ne_eqb handle p (λ same. other (sym same)))))

      end_is : with_map_at new handle m ≡ state_of s (set_at f fd (Some (object.Map handle)))
      end_is =
          same_state s (set_at f fd (Some (object.Map handle))) (with_map_at new handle m)
          (table-open f fd (object.Map handle) only.descriptor)
          (length-set {A = Option Map} (set before handle (Some (new_map m.shape))) handle (Some m)
          ∙ length-set {A = Option Map} before handle (Some (new_map m.shape))
          ∙ length_named (table f) 0 s.maps)
          (λ p.
          ap (λ (ms : List (Option Map)). get_or ms p None) (set-set before handle (Some (new_map m.shape)) (Some m))
          ∙ at p (set_by_index before handle p (Some m) free.within))
          refl
