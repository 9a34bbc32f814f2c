-- Each command preserves the invariant of states that can be restored.
use Rattle.std.proofs.Common.{◌≡◌, ◌≢◌, ℕ, zero, suc, ◌+◌, ◌-◌, ◌≤◌, ◌<◌, Bool, true, false, List, [], ◌∷◌, ◌++◌, length, set, get_or}
use Rattle.std.proofs.Common.{slice_get, Option, Some, None, IsSome, is_some, refl, sym, ap, ap₂, subst, ◌∙◌, inl, inr, arith, true≢false, length-set}
use Rattle.std.specs.Prelude.{◌⊎◌, ◌==◌, ◌||◌, not, option_map, if◌then◌else◌}
use Rattle.std.specs.List.{list_any, AllByRecursion}
use Rattle.std.specs.Map.{lookup, keys_of}
use Rattle.std.proofs.lemmas.Bool.{cases_lt, eq-eqb, ne_eqb, eqb-true, le-ltb}
use Rattle.std.proofs.lemmas.List.Elements.{recursion_from_All}
use Rattle.std.proofs.lemmas.Option.{none-some, same_Some}
use Rattle.bpf_maps.specs.Sum.{weight, total}
use Rattle.fd_table.specs.Table as table
use Rattle.insn_set.specs.declared.insn.Insn.{Insn}
use Rattle.tagged_model.specs.declared.shape.MapShape.{MapShape}
use Rattle.tagged_model.specs.declared.shape.Named.{Named}
use Rattle.tagged_model.specs.declared.shape.Target.TheVariants as target
use Rattle.tagged_model.specs.Cells.{and_then}
use Rattle.tagged_model.specs.Step.{MapsByDescriptor}
use Rattle.insn_set.specs.Program.{IsProgram}
use Rattle.tagged_model.specs.declared.shape.Target.{Target}
use Rattle.tagged_model.specs.Named.{target_of, shape_in, shapes_named}
use Rattle.verifier.specs.Laws.{LoadedMapsHaveShapes}
use Rattle.verifier.specs.Verdict.{IsAccepted}
use Rattle.verifier.specs.Maps.{without, distinct, is_among, maps_of, objects_at}
use Rattle.tenant.specs.declared.object.OpenObject.{OpenObject}
use Rattle.tenant.specs.declared.object.OpenObject.TheVariants as object
use Rattle.tenant.specs.Loaded.{LoadedProgram}
use Rattle.bpf_maps.specs.Limits.{most_bytes}
use Rattle.tenant.specs.State.{Map, TenantState, live, is_named, map_area}
use Rattle.tagged_model.specs.Table.{shape_area}
use Rattle.tenant.specs.Machine.{object_target, entry_of, targets_from, targets, named_handle, handles_from, loaded_program, maps_left}
use Rattle.saving.specs.Alike.{HoldsItsMaps}
use Rattle.saving.specs.Restorable.{IsWholeMap, shapes_from, IsWholeProgram, IsRestorable}
use Rattle.saving.proofs.Lists.{set_by_index, there_within, there_is}
use Rattle.saving.proofs.Moved.{or_left, or_right, flattened-get, named_by, stands_at, lookup_names}
use Rattle.saving.proofs.Wholes.{none_of}
use Rattle.saving.proofs.Tables.{IsDescriptor, table_of}
use Rattle.saving.proofs.Loads.{AreOpen, seen}
use Rattle.saving.proofs.RunMaps.{LeavesMap, IsLeftOf}

-- ---- the same shapes

unfoldable pub shape_of : Option Map → Option MapShape
shape_of o = option_map (λ t. t.shape) o

shapes_same : (s t : TenantState) (ms : List (ℕ × ℕ)) (fd n : ℕ)
    → ((other handle : ℕ) → lookup (λ m. m == other) ms ≡ Some handle
    → shape_of (live t handle) ≡ shape_of (live s handle))
    → shapes_from t ms fd n ≡ shapes_from s ms fd n
unfolding shapes_from shape_of
shapes_same s t ms fd zero h = refl
shapes_same s t ms fd (suc n) h =
    ap₂ (λ (a b : List Named). a ++ b) (by (lookup (λ m. m == fd) ms) refl) (shapes_same s t ms (fd + 1) n h)
  where
    seen : (o p : Option Map)
        → option_map (λ x. x.shape) o ≡ option_map (λ x. x.shape) p
        → entry_of fd (option_map (λ x. target.Map x.shape) o) ≡ entry_of fd (option_map (λ x. target.Map x.shape) p)
    seen None None e = refl
    seen None (Some y) e = absurd (none-some y.shape e)
    seen (Some x) None e = absurd (none-some x.shape (sym e))
    seen (Some x) (Some y) e =
        ap (λ (shape : MapShape). entry_of fd (Some (target.Map shape))) (same_Some x.shape y.shape e)

    by : (o : Option ℕ)
        → lookup (λ m. m == fd) ms ≡ o
        → entry_of fd (option_map (λ x. target.Map x.shape) (and_then o (live t)))
        ≡ entry_of fd (option_map (λ x. target.Map x.shape) (and_then o (live s)))
    by None e = refl
    by (Some handle) e = seen (live t handle) (live s handle) (h fd handle e)

-- a whole program is still whole if the maps of its handles have the same shapes
pub program_kept : (s t : TenantState) (l : LoadedProgram)
    → IsWholeProgram s l
    → ((fd handle : ℕ) → lookup (λ m. m == fd) l.maps ≡ Some handle
    → shape_of (live t handle) ≡ shape_of (live s handle))
    → IsWholeProgram t l
program_kept s t l whole h = record {
  program = whole.program;
  named = whole.named;
  accepted = whole.accepted;
  picked = whole.picked;
  shaped = whole.shaped ∙ sym (shapes_same s t l.maps table.first_descriptor table.most h);
  bound = whole.bound;
}

-- the handle of each map of an open program is named
pub program_names : (s : TenantState) (n : ℕ) (l : LoadedProgram)
    → table.named s.objects n ≡ Some (object.Program l)
    → (fd handle : ℕ) → lookup (λ m. m == fd) l.maps ≡ Some handle
    → is_named s.objects handle ≡ true
program_names s n l there fd handle e =
    named_by s.objects (n - table.first_descriptor) (object.Program l) handle
    (stands_at s.objects n (object.Program l) there) (lookup_names l.maps fd handle e)

-- ---- changed contents of the same maps

leaves_shape : (o p : Option Map) → LeavesMap o p → shape_of p ≡ shape_of o
unfolding shape_of
leaves_shape None None h = refl
leaves_shape None (Some y) h = absurd h
leaves_shape (Some x) None h = absurd h
leaves_shape (Some x) (Some y) h = ap (λ (shape : MapShape). Some shape) h.shape

leaves_weight : (o p : Option Map) → LeavesMap o p → weight map_area p ≡ weight map_area o
leaves_weight None None h = refl
leaves_weight None (Some y) h = absurd h
leaves_weight (Some x) None h = absurd h
leaves_weight (Some x) (Some y) h = ap shape_area h.shape

-- a map that is not changed is as a run leaves it, and so is an absent map
pub leaves_self : (o : Option Map) → LeavesMap o o
leaves_self None = tt
leaves_self (Some t) = record { shape = refl; whole = λ whole. whole }

leaves_whole : (o p : Option Map) (t : Map)
    → LeavesMap o p → ((u : Map) → o ≡ Some u → IsWholeMap u)
    → p ≡ Some t
    → IsWholeMap t
leaves_whole None None t h whole e = absurd (none-some t e)
leaves_whole None (Some y) t h whole e = absurd h
leaves_whole (Some x) None t h whole e = absurd h
leaves_whole (Some x) (Some y) t h whole e = subst IsWholeMap (same_Some y t e) (h.whole (whole x refl))

sums_same : (xs ys : List (Option Map))
    → ((i : ℕ) → weight map_area (get_or ys i None) ≡ weight map_area (get_or xs i None))
    → total map_area ys ≡ total map_area xs
unfolding total
sums_same [] [] h = refl
sums_same [] (y ∷ ys) h = let rest = sums_same [] ys (λ i. h (suc i)) in let here = h zero in omega arith
sums_same (x ∷ xs) [] h = let rest = sums_same xs [] (λ i. h (suc i)) in let here = h zero in omega arith
sums_same (x ∷ xs) (y ∷ ys) h = let rest = sums_same xs ys (λ i. h (suc i)) in let here = h zero in omega arith

-- if each map is left as by a run, and the state holds its maps, it can still be restored
pub contents_kept : {s : TenantState}
    → IsRestorable s
    → (ms : List (Option Map)) (b : Bool) → HoldsItsMaps (record s { maps = ms; refused = b })
    → ((handle : ℕ) → LeavesMap (live s handle) (get_or ms handle None))
    → IsRestorable (record s { maps = ms; refused = b })
contents_kept {s} can ms b holds each = record {
  held = holds;
  area =
      subst (λ (n : ℕ). n ≤ most_bytes)
      (sym (sums_same s.maps ms (λ i. leaves_weight (live s i) (get_or ms i None) (each i))))
      can.area;
  maps = λ handle t there. leaves_whole (live s handle) (get_or ms handle None) t (each handle) (can.maps handle) there;
  programs = λ fd l there.
      program_kept s (record s { maps = ms; refused = b }) l (can.programs fd l there)
      (λ other handle e. leaves_shape (live s handle) (get_or ms handle None) (each handle));
}

-- if one map is left as by a run, each map of the list is
pub one_left : (xs : List (Option Map)) (handle : ℕ) (t u : Map)
    → get_or xs handle None ≡ Some t → IsLeftOf t u
    → (p : ℕ) → LeavesMap (get_or xs p None) (get_or (set xs handle (Some u)) p None)
one_left xs handle t u there left p = by (set_by_index xs handle p (Some u) (there_within xs handle (there_is there)))
  where
    by : ((p ≡ handle) × (get_or (set xs handle (Some u)) p None ≡ Some u))
        ⊎ ((p ≢ handle) × (get_or (set xs handle (Some u)) p None ≡ get_or xs p None))
        → LeavesMap (get_or xs p None) (get_or (set xs handle (Some u)) p None)
    by (inl (at, e)) =
        subst (λ (o : Option Map). LeavesMap (get_or xs p None) o) (sym e)
        (subst (λ (o : Option Map). LeavesMap o (Some u)) (sym (ap (λ (q : ℕ). get_or xs q None) at ∙ there)) left)
    by (inr (other, e)) =
        subst (λ (o : Option Map). LeavesMap (get_or xs p None) o) (sym e) (leaves_self (get_or xs p None))

-- ---- a test run

-- each of these maps has its handle after the run
unfoldable pub AreLeftOf : MapsByDescriptor → List (ℕ × ℕ) → List (Option Map) → Type 0
AreLeftOf left [] xs = Unit {0}
AreLeftOf left (m ∷ ms) xs = LeavesMap (get_or xs m.1 None) (left m.0) × AreLeftOf left ms xs

-- if a run leaves each map of a program, it leaves each map of the list
pub run_left : (left : MapsByDescriptor) (ms : List (ℕ × ℕ)) (xs ys : List (Option Map))
    → AreLeftOf left ms xs → length ys ≡ length xs
    → ((p : ℕ) → LeavesMap (get_or xs p None) (get_or ys p None))
    → (p : ℕ) → LeavesMap (get_or xs p None) (get_or (maps_left left ms ys) p None)
unfolding maps_left AreLeftOf
run_left left [] xs ys all long each p = each p
run_left left (m ∷ ms) xs ys all long each p =
    run_left left ms xs (set ys m.1 (left m.0)) all.1
    (length-set {A = Option Map} ys m.1 (left m.0) ∙ long)
    (λ q. one q (cases_lt m.1 (length ys))) p
  where
    one : (q : ℕ)
        → (m.1 < length ys) ⊎ (length ys ≤ m.1)
        → LeavesMap (get_or xs q None) (get_or (set ys m.1 (left m.0)) q None)
    one q (inl within) = by (set_by_index ys m.1 q (left m.0) within)
      where
        by : ((q ≡ m.1) × (get_or (set ys m.1 (left m.0)) q None ≡ left m.0))
            ⊎ ((q ≢ m.1) × (get_or (set ys m.1 (left m.0)) q None ≡ get_or ys q None))
            → LeavesMap (get_or xs q None) (get_or (set ys m.1 (left m.0)) q None)
        by (inl (at, e)) =
            subst (λ (o : Option Map). LeavesMap (get_or xs q None) o) (sym e)
            (subst (λ (k : ℕ). LeavesMap (get_or xs k None) (left m.0)) (sym at) all.0)
        by (inr (other, e)) = subst (λ (o : Option Map). LeavesMap (get_or xs q None) o) (sym e) (each q)
    one q (inr past) =
        subst (λ (zs : List (Option Map)). LeavesMap (get_or xs q None) (get_or zs q None))
        (sym (set_past ys m.1 (left m.0) past)) (each q)
      where
        set_past : (zs : List (Option Map)) (n : ℕ) (x : Option Map) → length zs ≤ n → set zs n x ≡ zs
        set_past [] n x le = refl
        set_past (z ∷ zs) zero x le = absurd (omega arith)
        set_past (z ∷ zs) (suc n) x le = ap (λ (ws : List (Option Map)). z ∷ ws) (set_past zs n x (omega arith))

-- a list of descriptors without duplicates
unfoldable pub AreOnce : List ℕ → Type 0
AreOnce [] = Unit {0}
AreOnce (x ∷ xs) = (list_any (λ y. y == x) xs ≡ false) × AreOnce xs

-- if a run leaves the map that each descriptor finds, it leaves the map of each handle in the list
pub found_all : (left : MapsByDescriptor) (s : TenantState) (all ms : List (ℕ × ℕ))
    → ((fd : ℕ) → LeavesMap (and_then (lookup (λ m. m == fd) all) (live s)) (left fd))
    → ((fd : ℕ) → list_any (λ m. m.0 == fd) ms ≡ true → lookup (λ m. m == fd) all ≡ lookup (λ m. m == fd) ms)
    → AreOnce (keys_of ms)
    → AreLeftOf left ms s.maps
unfolding AreLeftOf AreOnce
found_all left s all [] each same once = tt
found_all left s all (m ∷ ms) each same once = (
  subst (λ (o : Option Map). LeavesMap o (left m.0))
      (ap (λ (o : Option ℕ). and_then o (live s))
      (same m.0 (or_left (m.0 == m.0) (list_any (λ k. k.0 == m.0) ms) (eq-eqb m.0 m.0 refl)) ∙ here))
      (each m.0),
  found_all left s all ms each
      (λ fd e. same fd (or_right (m.0 == fd) (list_any (λ k. k.0 == fd) ms) e) ∙ later fd e)
      once.1,
)
  where
    here : lookup (λ k. k == m.0) (m ∷ ms) ≡ Some m.1
    here = ap (λ (b : Bool). if b then Some m.1 else lookup (λ k. k == m.0) ms) (eq-eqb m.0 m.0 refl)

    any_keys : (fd : ℕ) (ks : List (ℕ × ℕ)) → list_any (λ k. k.0 == fd) ks ≡ list_any (λ y. y == fd) (keys_of ks)
    any_keys fd [] = refl
    any_keys fd (k ∷ ks) = ap (λ (b : Bool). (k.0 == fd) || b) (any_keys fd ks)

    later : (fd : ℕ) → list_any (λ k. k.0 == fd) ms ≡ true → lookup (λ k. k == fd) (m ∷ ms) ≡ lookup (λ k. k == fd) ms
    later fd e = by (m.0 == fd) refl
      where
        by : (b : Bool)
            → (m.0 == fd) ≡ b
            → (if m.0 == fd then Some m.1 else lookup (λ k. k == fd) ms) ≡ lookup (λ k. k == fd) ms
        by true is =
            absurd (true≢false (sym (sym (any_keys fd ms) ∙ e)
            ∙ ap (λ (x : ℕ). list_any (λ y. y == x) (keys_of ms)) (sym (eqb-true m.0 fd is))
            ∙ once.0))
        by false is = ap (λ (b : Bool). if b then Some m.1 else lookup (λ k. k == fd) ms) is

-- ---- each map that a program loads is listed once

none_left : (x a : ℕ) (xs : List ℕ) → is_among xs x ≡ false → is_among (without a xs) x ≡ false
none_left x a [] h = h
none_left x a (y ∷ ys) h =
    let parts = none_of (y == x) (is_among ys x) h in by (not (y == a)) parts.0 (none_left x a ys parts.1)
  where
    by : (b : Bool)
        → (y == x) ≡ false → is_among (without a ys) x ≡ false
        → is_among (if b then y ∷ without a ys else without a ys) x ≡ false
    by true here rest = ap₂ (λ (p q : Bool). p || q) here rest
    by false here rest = rest

gone : (a : ℕ) (xs : List ℕ) → is_among (without a xs) a ≡ false
gone a [] = refl
gone a (y ∷ ys) = by (y == a) refl (gone a ys)
  where
    by : (b : Bool)
        → (y == a) ≡ b → is_among (without a ys) a ≡ false
        → is_among (if not (y == a) then y ∷ without a ys else without a ys) a ≡ false
    by true e rest = ap (λ (t : Bool). is_among (if not t then y ∷ without a ys else without a ys) a) e ∙ rest
    by false e rest =
        ap (λ (t : Bool). is_among (if not t then y ∷ without a ys else without a ys) a) e
        ∙ ap₂ (λ (p q : Bool). p || q) e rest

once_left : (a : ℕ) (xs : List ℕ) → AreOnce xs → AreOnce (without a xs)
unfolding AreOnce
once_left a [] h = tt
once_left a (y ∷ ys) h = by (not (y == a)) (once_left a ys h.1)
  where
    by : (b : Bool) → AreOnce (without a ys) → AreOnce (if b then y ∷ without a ys else without a ys)
    by true rest = (none_left y a ys h.0, rest)
    by false rest = rest

-- a list of descriptors without its duplicates has each descriptor once
pub distinct_once : (fds : List ℕ) → AreOnce (distinct fds)
unfolding AreOnce distinct
distinct_once [] = tt
distinct_once (fd ∷ fds) = (gone fd (distinct fds), once_left fd (distinct fds) (distinct_once fds))

-- ---- PROG_LOAD

-- the target of a descriptor, as the verifier reads it
targets_below : (s : TenantState) (from fd : ℕ) (xs : List (Option OpenObject))
    → fd < from → target_of (targets_from s from xs) fd ≡ None
unfolding targets_from target_of
targets_below s from fd [] low = refl
targets_below s from fd (x ∷ xs) low =
    by (and_then x (object_target s)) (targets_below s (from + 1) fd xs (omega arith))
  where
    by : (o : Option Target)
        → target_of (targets_from s (from + 1) xs) fd ≡ None
        → target_of (entry_of from o ++ targets_from s (from + 1) xs) fd ≡ None
    by None rest = rest
    by (Some t) rest =
        ap (λ (b : Bool). if b then Some t else target_of (targets_from s (from + 1) xs) fd)
        (ne_eqb from fd (λ e. absurd (omega arith)))
        ∙ rest

targets_at : (s : TenantState) (from fd : ℕ) (xs : List (Option OpenObject)) (n : ℕ)
    → fd ≡ from + n
    → target_of (targets_from s from xs) fd ≡ and_then (get_or xs n None) (object_target s)
unfolding targets_from target_of
targets_at s from fd [] n e = refl
targets_at s from fd (x ∷ xs) zero e = by (and_then x (object_target s))
  where
    by : (o : Option Target) → target_of (entry_of from o ++ targets_from s (from + 1) xs) fd ≡ o
    by None = targets_below s (from + 1) fd xs (omega arith)
    by (Some t) =
        ap (λ (b : Bool). if b then Some t else target_of (targets_from s (from + 1) xs) fd)
        (eq-eqb from fd (omega arith))
targets_at s from fd (x ∷ xs) (suc n) e =
    by (and_then x (object_target s)) (targets_at s (from + 1) fd xs n (omega arith))
  where
    by : (o : Option Target)
        → target_of (targets_from s (from + 1) xs) fd ≡ and_then (get_or xs n None) (object_target s)
        → target_of (entry_of from o ++ targets_from s (from + 1) xs) fd ≡ and_then (get_or xs n None) (object_target s)
    by None rest = rest
    by (Some t) rest =
        ap (λ (b : Bool). if b then Some t else target_of (targets_from s (from + 1) xs) fd)
        (ne_eqb from fd (λ same. absurd (omega arith)))
        ∙ rest

named_get : (objects : List (Option OpenObject)) (fd : ℕ)
    → table.first_descriptor ≤ fd
    → table.named objects fd ≡ get_or objects (fd - table.first_descriptor) None
named_get objects fd low =
    ap (λ (b : Bool). if b then None else table.flattened (slice_get objects (fd - table.first_descriptor)))
    (le-ltb fd table.first_descriptor low)
    ∙ flattened-get objects (fd - table.first_descriptor)

-- a descriptor that has a shape names an open map
shaped_is_map : (s : TenantState) (fd : ℕ)
    → length s.objects ≡ table.most → IsSome (shapes_named (targets s) fd)
    → IsDescriptor fd × (handle : ℕ) × (table.named s.objects fd ≡ Some (object.Map handle))
shaped_is_map s fd long some = by_low (cases_lt fd table.first_descriptor)
  where
    here : (o : Option OpenObject)
        → table.first_descriptor ≤ fd
        → get_or s.objects (fd - table.first_descriptor) None ≡ o
        → IsSome (shape_in (and_then o (object_target s)))
        → IsDescriptor fd × (handle : ℕ) × (table.named s.objects fd ≡ Some (object.Map handle))
    here None low is some = absurd (true≢false (sym some))
    here (Some (object.Program l)) low is some = absurd (true≢false (sym some))
    here (Some (object.Map handle)) low is some = (
      record {
        low = low;
        high = let within = there_within s.objects (fd - table.first_descriptor) (there_is is) in omega (arith, long);
      },
      handle,
      named_get s.objects fd low ∙ is,
    )

    by_low : (fd < table.first_descriptor) ⊎ (table.first_descriptor ≤ fd)
        → IsDescriptor fd × (handle : ℕ) × (table.named s.objects fd ≡ Some (object.Map handle))
    by_low (inl low) =
        absurd (true≢false (sym some
        ∙ ap (λ (o : Option Target). is_some (shape_in o)) (targets_below s table.first_descriptor fd s.objects low)))
    by_low (inr low) =
        here (get_or s.objects (fd - table.first_descriptor) None) low refl
        (sym (ap (λ (o : Option Target). is_some (shape_in o))
        (targets_at s table.first_descriptor fd s.objects (fd - table.first_descriptor) (omega arith)))
        ∙ some)

abbrev bind : Option ℕ → ℕ → List (ℕ × ℕ) → List (ℕ × ℕ)
bind None fd rest = rest
bind (Some handle) fd rest = (fd, handle) ∷ rest

-- each map that an accepted program loads is bound to its handle
record AreBound (s : TenantState) (fds : List ℕ) (ms : List (ℕ × ℕ)) : Type 0 where
  keys : keys_of ms ≡ fds
  opened : AreOpen (table.named s.objects) ms

all_bound : (s : TenantState)
    → length s.objects ≡ table.most
    → (fds : List ℕ) → AllByRecursion (λ fd. IsSome (shapes_named (targets s) fd)) fds
    → AreBound s fds (handles_from s.objects fds)
unfolding handles_from
all_bound s long [] h = record { keys = refl; opened = tt }
all_bound s long (fd ∷ fds) h =
    let (descriptor, handle, there) = shaped_is_map s fd long h.0 in
    by descriptor handle there (all_bound s long fds h.1)
  where
    by : IsDescriptor fd
        → (handle : ℕ) → table.named s.objects fd ≡ Some (object.Map handle)
        → AreBound s fds (handles_from s.objects fds)
        → AreBound s (fd ∷ fds) (bind (named_handle (table.named s.objects fd)) fd (handles_from s.objects fds))
    by descriptor handle there rest =
        subst (λ (o : Option OpenObject). AreBound s (fd ∷ fds) (bind (named_handle o) fd (handles_from s.objects fds)))
        (sym there)
        (record { keys = ap (λ (ks : List ℕ). fd ∷ ks) rest.keys; opened = ((descriptor, there), rest.opened) })

-- a program that is accepted with the targets of a state is whole in this state when it is loaded
pub loaded_whole : LoadedMapsHaveShapes
    → (s : TenantState) → length s.objects ≡ table.most
    → (insns : List Insn) → IsProgram insns → IsAccepted insns (targets s)
    → IsWholeProgram s (loaded_program s insns)
loaded_whole law s long insns program accepted =
    let is =
    all_bound s long (maps_of insns)
    (recursion_from_All (λ fd. IsSome (shapes_named (targets s) fd)) (maps_of insns)
    (law.named insns (targets s) accepted)) in
    record {
      program = program;
      named = targets s;
      accepted = accepted;
      picked = refl;
      shaped = ap (λ (fds : List ℕ). objects_at fds (targets s)) (sym is.keys)
          ∙ ap (λ (os : List (Option OpenObject)).
          objects_at (keys_of (handles_from s.objects (maps_of insns))) (targets_from s table.first_descriptor os))
          (sym (table_of s.objects long))
          ∙ seen s s (table.named s.objects) (handles_from s.objects (maps_of insns)) is.opened (λ handle e. refl);
      bound = is.keys;
    }
