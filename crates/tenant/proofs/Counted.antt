-- Sums over the open objects.
use Rattle.std.proofs.Common.{◌≡◌, ℕ, ◌+◌, ◌-◌, ◌≤◌, ◌<◌, Bool, true, false, List, length, take, Bor}
use Rattle.std.proofs.Common.{Option, Some, None, is_some, refl, sym, ap, ◌∙◌, arith, true≢false}
use Rattle.std.specs.Prelude.{is_ok, Result, Ok, Err}
use Rattle.std.specs.Option.{option_copied}
use Rattle.std.specs.Result.{result_err}
use Rattle.std.proofs.lemmas.Option.{none-some}
use Rattle.fd_table.specs.Table.{first_descriptor, named}
use Rattle.bpf_maps.specs.LiveLaws.{total_next}
use Rattle.bpf_maps.specs.Sum.{weight, total}
use Rattle.tenant.specs.declared.counts.Counts.{Counts}
use Rattle.tenant.specs.Counts.{one_program}
use Rattle.tenant.specs.Batch.{object_refusal}
use Rattle.tenant.specs.declared.errno.Errno.{Errno}
use Rattle.tenant.specs.declared.errno.Errno.TheVariants.{BadDescriptor, Invalid}
use Rattle.tenant.specs.declared.object.OpenObject.{OpenObject}
use Rattle.tenant.specs.declared.object.OpenObject.TheVariants as object
use Rattle.tenant.proofs.Targets.{named_at}

-- one more descriptor adds the number of its object to the sum
pub total_more : (f : OpenObject → ℕ) (xs : List (Option OpenObject)) (fd : ℕ)
    → first_descriptor ≤ fd → fd - first_descriptor < length xs
    → total f (take (fd + 1 - first_descriptor) xs) ≡ total f (take (fd - first_descriptor) xs) + weight f (named xs fd)
total_more f xs fd low within =
    let next : fd + 1 - first_descriptor ≡ fd - first_descriptor + 1 = omega arith in
    ap (λ (n : ℕ). total f (take n xs)) next
    ∙ total_next f (fd - first_descriptor) xs within
    ∙ ap (λ (o : Option OpenObject). total f (take (fd - first_descriptor) xs) + weight f o) (sym (named_at xs fd low))

-- an open descriptor counts as one, and another one as none
pub open_one : (r : Option (Bor OpenObject)) {o : Option OpenObject}
    → option_copied r ≡ o → is_some r ≡ true → weight (λ x. 1) o ≡ 1
open_one None is some = absurd (true≢false (sym some))
open_one (Some x) is some = sym (ap (weight (λ y. 1)) is)

-- a descriptor that is not open counts as none
pub closed_none : (r : Option (Bor OpenObject)) {o : Option OpenObject}
    → option_copied r ≡ o → is_some r ≡ false → weight (λ x. 1) o ≡ 0
closed_none None is none = sym (ap (weight (λ y. 1)) is)
closed_none (Some x) is none = absurd (true≢false none)

-- a program counts as one, and anything else as none
pub program_one : {A : Type 0} (r : Result A Errno) (o : Option OpenObject)
    → result_err r ≡ object_refusal o → is_ok r ≡ true → weight one_program o ≡ 1
program_one (Ok p) None is some = absurd (none-some BadDescriptor is)
program_one (Ok p) (Some (object.Map handle)) is some = absurd (none-some Invalid is)
program_one (Ok p) (Some (object.Program l)) is some = refl
program_one (Err e) o is some = absurd (true≢false (sym some))

-- a descriptor that names no program counts as no program
pub program_none : {A : Type 0} (r : Result A Errno) (o : Option OpenObject)
    → result_err r ≡ object_refusal o → is_ok r ≡ false → weight one_program o ≡ 0
program_none (Ok p) o is none = absurd (true≢false none)
program_none (Err e) None is none = refl
program_none (Err e) (Some (object.Map handle)) is none = refl
program_none (Err e) (Some (object.Program l)) is none = absurd (none-some e (sym is))

-- counts with equal fields
abbrev pub as_counts : ℕ → ℕ → ℕ → ℕ → ℕ → Bool → Counts
as_counts maps entries bytes programs descriptors refused = record {
  maps = maps;
  entries = entries;
  value_bytes = bytes;
  programs = programs;
  descriptors = descriptors;
  memory_refused = refused;
}

-- counts with equal fields are equal
pub same_counts : {a b c d e v w x y z : ℕ} {f g : Bool}
    → a ≡ v → b ≡ w
    → c ≡ x → d ≡ y
    → e ≡ z → f ≡ g
    → as_counts a b c d e f ≡ as_counts v w x y z g
same_counts p q r s t u = cc
