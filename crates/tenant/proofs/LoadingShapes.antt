-- The shapes of the maps that descriptors name.
use Rattle.std.proofs.Common.{◌≡◌, ◌≢◌, ℕ, zero, suc, ◌+◌, ◌-◌, ◌≤◌, ◌<◌, Bool, true, false, List, []}
use Rattle.std.proofs.Common.{◌∷◌, ◌++◌, get_or, Option, Some, None, IsSome, refl, sym, ap, ◌∙◌, arith}
use Rattle.std.specs.Prelude.{◌==◌, ◌||◌, nat_lt, slice_get, option_map, if◌then◌else◌}
use Rattle.std.specs.List.{filter}
use Rattle.std.proofs.Math.Bool.{or-true}
use Rattle.std.proofs.lemmas.Bool.{eqb-true, eq-eqb, ne_eqb}
use Rattle.std.proofs.lemmas.Bool.Decides.{nat_tests}
use Rattle.std.proofs.lemmas.Option.{none-some, same_Some}
use Rattle.fd_table.specs.Table.{first_descriptor, named, flattened}
use Rattle.tagged_model.specs.Cells.{and_then}
use Rattle.tagged_model.specs.Named as at
use Rattle.tagged_model.specs.Named.{shape_in, shapes_named}
use Rattle.tagged_model.specs.declared.shape.MapShape.{MapShape}
use Rattle.tagged_model.specs.declared.shape.Named.{Named}
use Rattle.tagged_model.specs.declared.shape.Target.{Target}
use Rattle.tagged_model.specs.declared.shape.Target.TheVariants as target
use Rattle.verifier.specs.Maps.{is_among, objects_at}
use Rattle.tenant.specs.declared.object.OpenObject.{OpenObject}
use Rattle.tenant.specs.declared.object.OpenObject.TheVariants as object
use Rattle.tenant.specs.Machine.{object_target, entry_of, targets_from, targets}
use Rattle.tenant.specs.State.{Map, TenantState, live}
use Rattle.tenant.proofs.Targets.{named_at}

-- ---- objects that are selected by their descriptors

picked : (p : ℕ → Bool) (ns : List Named) (fd : ℕ)
    → p fd ≡ true → at.target_of (filter (λ n. p n.fd) ns) fd ≡ at.target_of ns fd
unfolding at.target_of
picked p [] fd is = refl
picked p (n ∷ ns) fd is = by_test (picked p ns fd is) (p n.fd) refl
  where
    by_key : at.target_of (filter (λ n. p n.fd) ns) fd ≡ at.target_of ns fd
        → (here : Bool) → (n.fd == fd) ≡ here → p n.fd ≡ false
        → at.target_of (filter (λ n. p n.fd) ns) fd ≡ (if here then Some n.target else at.target_of ns fd)
    by_key rest true same isnt =
        absurd (let wrong : true ≡ false = sym is ∙ ap p (sym (eqb-true n.fd fd same)) ∙ isnt in cc wrong)
    by_key rest false same isnt = rest

    by_test : at.target_of (filter (λ n. p n.fd) ns) fd ≡ at.target_of ns fd
        → (here : Bool) → p n.fd ≡ here
        → at.target_of (if here then n ∷ filter (λ n. p n.fd) ns else filter (λ n. p n.fd) ns) fd
        ≡ at.target_of (n ∷ ns) fd
    by_test rest true e = ap (λ (o : Option Target). if n.fd == fd then Some n.target else o) rest
    by_test rest false e = by_key rest (n.fd == fd) refl e

among : (fds : List ℕ) (i fd : ℕ) → slice_get fds i ≡ Some fd → is_among fds fd ≡ true
among [] i fd there = absurd (none-some fd there)
among (x ∷ fds) zero fd there =
    let same : (x == fd) ≡ true = eq-eqb x fd (same_Some x fd there) in ap (λ (b : Bool). b || is_among fds fd) same
among (x ∷ fds) (suc i) fd there = ap (λ (b : Bool). (x == fd) || b) (among fds i fd there) ∙ or-true (x == fd)

-- a descriptor of the list has the same shape among the selected objects as among all
pub shapes_picked : (fds : List ℕ) (ns : List Named) (i fd : ℕ)
    → slice_get fds i ≡ Some fd → shapes_named (objects_at fds ns) fd ≡ shapes_named ns fd
shapes_picked fds ns i fd there = ap shape_in (picked (is_among fds) ns fd (among fds i fd there))

-- ---- the targets of the open descriptors

-- the target of a descriptor in a list with one more entry in front, which may be absent
pub entry_target : ℕ → Option Target → List Named → ℕ → Option Target
entry_target fd None rest other = at.target_of rest other
entry_target fd (Some t) rest other = if fd == other then Some t else at.target_of rest other

entered : (fd : ℕ) (o : Option Target) (rest : List Named) (other : ℕ)
    → at.target_of (entry_of fd o ++ rest) other ≡ entry_target fd o rest other
unfolding at.target_of entry_target
entered fd None rest other = refl
entered fd (Some t) rest other = refl

other_entry : (fd : ℕ) (o : Option Target) (rest : List Named) (other : ℕ)
    → fd ≢ other → entry_target fd o rest other ≡ at.target_of rest other
unfolding entry_target
other_entry fd None rest other apart = refl
other_entry fd (Some t) rest other apart = let no : (fd == other) ≡ false = ne_eqb fd other apart in rw no refl

this_entry : (fd : ℕ) (o : Option Target) (rest : List Named)
    → at.target_of rest fd ≡ None → entry_target fd o rest fd ≡ o
unfolding entry_target
this_entry fd None rest none = none
this_entry fd (Some t) rest none = let yes : (fd == fd) ≡ true = eq-eqb fd fd refl in rw yes refl

-- a descriptor below the first one has no target
below : (s : TenantState) (from fd : ℕ) (xs : List (Option OpenObject))
    → fd < from → at.target_of (targets_from s from xs) fd ≡ None
unfolding targets_from at.target_of
below s from fd [] low = refl
below s from fd (x ∷ xs) low =
    entered from (and_then x (object_target s)) (targets_from s (from + 1) xs) fd
    ∙ other_entry from (and_then x (object_target s)) (targets_from s (from + 1) xs) fd (λ e. omega arith)
    ∙ below s (from + 1) fd xs (omega arith)

from_on : (s : TenantState) (from fd : ℕ) (xs : List (Option OpenObject)) (n : ℕ)
    → fd ≡ from + n
    → at.target_of (targets_from s from xs) fd ≡ and_then (get_or xs n None) (object_target s)
unfolding targets_from at.target_of
from_on s from fd [] n e = refl
from_on s from fd (x ∷ xs) zero e =
    let same : fd ≡ from = omega arith in
    entered from (and_then x (object_target s)) (targets_from s (from + 1) xs) fd
    ∙ ap (entry_target from (and_then x (object_target s)) (targets_from s (from + 1) xs)) same
    ∙ this_entry from (and_then x (object_target s)) (targets_from s (from + 1) xs)
    (below s (from + 1) from xs (omega arith))
from_on s from fd (x ∷ xs) (suc n) e =
    entered from (and_then x (object_target s)) (targets_from s (from + 1) xs) fd
    ∙ other_entry from (and_then x (object_target s)) (targets_from s (from + 1) xs) fd (λ same. omega arith)
    ∙ from_on s (from + 1) fd xs n (omega arith)

-- the target that the verifier reads at a descriptor is that of the object that it names
pub targets_named : (s : TenantState) (fd : ℕ)
    → at.target_of (targets s) fd ≡ and_then (named s.objects fd) (object_target s)
targets_named s fd = by_test (nat_lt fd first_descriptor) refl
  where
    by_test : (low : Bool)
        → nat_lt fd first_descriptor ≡ low
        → at.target_of (targets s) fd ≡ and_then (named s.objects fd) (object_target s)
    by_test true e =
        let none : named s.objects fd ≡ None =
        ap (λ (b : Bool). if b then None else flattened (slice_get s.objects (fd - first_descriptor))) e in
        let low : fd < first_descriptor = grind (arith, nat_tests) in
        below s first_descriptor fd s.objects low
        ∙ sym (ap (λ (o : Option OpenObject). and_then o (object_target s)) none)
    by_test false e =
        let low : first_descriptor ≤ fd = grind (arith, nat_tests) in
        from_on s first_descriptor fd s.objects (fd - first_descriptor) (omega (arith, low))
        ∙ ap (λ (o : Option OpenObject). and_then o (object_target s)) (sym (named_at s.objects fd low))

-- the shape that the verifier reads at a descriptor is that of the live map that it names
pub shape_is : (s : TenantState) (fd handle : ℕ) (t : Map)
    → named s.objects fd ≡ Some (object.Map handle)
    → live s handle ≡ Some t
    → shapes_named (targets s) fd ≡ Some t.shape
shape_is s fd handle t opened there =
    ap shape_in
    (targets_named s fd
    ∙ ap (λ (o : Option OpenObject). and_then o (object_target s)) opened
    ∙ ap (option_map (λ (u : Map). target.Map u.shape)) there)

-- a descriptor that has a shape names a map
pub shaped_map : (s : TenantState) (fd : ℕ)
    → IsSome (shapes_named (targets s) fd)
    → (handle : ℕ) × (named s.objects fd ≡ Some (object.Map handle))
shaped_map s fd some = by_object (named s.objects fd) refl
  where
    no_some : (o : Option MapShape) → IsSome o → o ≡ None → ⊥
    no_some None some e = absurd (let wrong : false ≡ true = some in cc wrong)
    no_some (Some x) some e = none-some x (sym e)

    by_object : (o : Option OpenObject)
        → named s.objects fd ≡ o → (handle : ℕ) × (named s.objects fd ≡ Some (object.Map handle))
    by_object None e =
        absurd (no_some (shapes_named (targets s) fd) some
        (ap shape_in (targets_named s fd ∙ ap (λ (o : Option OpenObject). and_then o (object_target s)) e)))
    by_object (Some (object.Program l)) e =
        absurd (no_some (shapes_named (targets s) fd) some
        (ap shape_in (targets_named s fd ∙ ap (λ (o : Option OpenObject). and_then o (object_target s)) e)))
    by_object (Some (object.Map handle)) e = (handle, e)
