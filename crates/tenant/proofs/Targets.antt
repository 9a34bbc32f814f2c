-- The targets of the open descriptors.
use Rattle.std.proofs.Common.{◌≡◌, ℕ, zero, suc, ◌+◌, ◌-◌, ◌≤◌, ◌<◌, Bool, false, List, [], ◌∷◌, ◌++◌}
use Rattle.std.proofs.Common.{length, take, get_or, Option, None, refl, sym, ap, ap₂, ◌∙◌, arith, append_assoc}
use Rattle.std.specs.Prelude.{nat_lt, slice_get, if◌then◌else◌}
use Rattle.std.proofs.lemmas.Bool.Decides.{nat_tests}
use Rattle.std.proofs.lemmas.List.{append-nil}
use Rattle.fd_table.specs.Table.{first_descriptor, named, flattened}
use Rattle.tagged_model.specs.Cells.{and_then}
use Rattle.tagged_model.specs.declared.shape.Named.{Named}
use Rattle.tenant.specs.declared.object.OpenObject.{OpenObject}
use Rattle.tenant.specs.State.{TenantState}
use Rattle.tenant.specs.Machine.{object_target, entry_of, targets_from}

flattened-get : (xs : List (Option OpenObject)) (n : ℕ) → flattened (slice_get xs n) ≡ get_or xs n None
flattened-get [] n = refl
flattened-get (x ∷ xs) zero = refl
flattened-get (x ∷ xs) (suc n) = flattened-get xs n

-- the object of a descriptor is at the descriptor's index
pub named_at : (xs : List (Option OpenObject)) (fd : ℕ)
    → first_descriptor ≤ fd → named xs fd ≡ get_or xs (fd - first_descriptor) None
named_at xs fd low =
    let no : nat_lt fd first_descriptor ≡ false = grind (arith, nat_tests) in
    ap (λ (b : Bool). if b then None else flattened (slice_get xs (fd - first_descriptor))) no
    ∙ flattened-get xs (fd - first_descriptor)

-- one more descriptor
targets-next : (s : TenantState) (fd : ℕ) (xs : List (Option OpenObject)) (n : ℕ)
    → n < length xs
    → targets_from s fd (take (suc n) xs)
    ≡ targets_from s fd (take n xs) ++ entry_of (fd + n) (and_then (get_or xs n None) (object_target s))
unfolding targets_from
targets-next s fd [] n within = absurd (omega arith)
targets-next s fd (x ∷ xs) zero within =
    let e : fd ≡ fd + 0 = omega arith in
    append-nil (entry_of fd (and_then x (object_target s)))
    ∙ ap (λ (k : ℕ). entry_of k (and_then x (object_target s))) e
targets-next s fd (x ∷ xs) (suc n) within =
    let e : fd + 1 + n ≡ fd + suc n = omega arith in
    let rest = targets-next s (fd + 1) xs n (omega arith) in
    ap (λ (ns : List Named). entry_of fd (and_then x (object_target s)) ++ ns) rest
    ∙ sym (append_assoc (entry_of fd (and_then x (object_target s)))
    (targets_from s (fd + 1) (take n xs))
    (entry_of (fd + 1 + n) (and_then (get_or xs n None) (object_target s))))
    ∙ ap (λ (k : ℕ).
    (entry_of fd (and_then x (object_target s)) ++ targets_from s (fd + 1) (take n xs))
    ++ entry_of k (and_then (get_or xs n None) (object_target s)))
    e

-- one more descriptor adds the target of its object at the end
pub targets-more : (s : TenantState) (xs : List (Option OpenObject)) (fd : ℕ) (o : Option OpenObject)
    → first_descriptor ≤ fd → fd - first_descriptor < length xs
    → named xs fd ≡ o
    → targets_from s first_descriptor (take (fd + 1 - first_descriptor) xs)
    ≡ targets_from s first_descriptor (take (fd - first_descriptor) xs) ++ entry_of fd (and_then o (object_target s))
targets-more s xs fd o low within is =
    let e : fd + 1 - first_descriptor ≡ suc (fd - first_descriptor) = omega arith in
    let f : first_descriptor + (fd - first_descriptor) ≡ fd = omega arith in
    ap (λ (n : ℕ). targets_from s first_descriptor (take n xs)) e
    ∙ targets-next s first_descriptor xs (fd - first_descriptor) within
    ∙ ap₂ (λ (k : ℕ) (p : Option OpenObject).
    targets_from s first_descriptor (take (fd - first_descriptor) xs) ++ entry_of k (and_then p (object_target s)))
    f (sym (named_at xs fd low) ∙ is)

-- a table without entries has no targets
pub targets-none : (s : TenantState) (fd : ℕ) → targets_from s fd [] ≡ []
unfolding targets_from
targets-none s fd = refl
