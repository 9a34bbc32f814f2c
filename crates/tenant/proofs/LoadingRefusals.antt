-- Replies to loads.
use Rattle.std.proofs.Common.{◌≡◌, ℕ, Bool, true, false, List, Option, Some, Result, Ok, Err, IfOk, IfErr, refl, sym, ap, subst}
use Rattle.std.specs.Prelude.{◌==◌, MatchBool}
use Rattle.std.proofs.lemmas.Bool.{eq-eqb}
use Rattle.fd_table.specs.Table.{lowest}
use Rattle.verifier.specs.declared.refusal.Refusal.{Refusal}
use Rattle.verifier.specs.Judgement.{Judges}
use Rattle.tenant.specs.declared.errno.Errno.TheVariants.{Invalid}
use Rattle.tenant.specs.Loaded.{LoadedProgram}
use Rattle.tenant.specs.inside.Loading.{with_program}
use Rattle.tenant.specs.Machine.{Answer, refuses, refuses_load, opens, loaded_program, targets, LoadsAs, LoadsUnder, Loads}
use Rattle.tenant.specs.State.{TenantState}

-- a property of the value of a result holds for the value that it has
pub of_ok : {T E : Type 0} (r : Result T E) (x : T) (P : T → Type 0) → r ≡ Ok x → IfOk r P → P x
of_ok r x P is holds = subst (λ s. IfOk s P) is holds

-- a property of the error of a result holds for the error that it has
pub of_err : {T E : Type 0} (r : Result T E) (e : E) (P : E → Type 0) → r ≡ Err e → IfErr r P → P e
of_err r e P is holds = subst (λ s. IfErr s P) is holds

abbrev pub MayLoad : TenantState → ℕ → List ℕ → Answer → Type 0
MayLoad s kind slots answer = (refused : Bool) × Loads refused s kind slots answer

socket_filter : (refused : Bool) (s : TenantState) (kind : ℕ) (slots : List ℕ) (answer : Answer)
    → kind ≡ 1
    → LoadsUnder refused s (lowest s.objects) slots answer
    → Loads refused s kind slots answer
socket_filter refused s kind slots answer socket loads =
    let yes : (kind == 1) ≡ true = eq-eqb kind 1 socket in
    subst (λ (b : Bool). MatchBool b (LoadsUnder refused s (lowest s.objects) slots answer) (answer ≡ refuses Invalid s))
    (sym yes) loads

under_free : (refused : Bool) (s : TenantState) (kind fd : ℕ) (slots : List ℕ) (answer : Answer)
    → kind ≡ 1 → lowest s.objects ≡ Some fd
    → LoadsAs refused s fd slots answer
    → Loads refused s kind slots answer
under_free refused s kind fd slots answer socket low loads =
    socket_filter refused s kind slots answer socket
    (subst (λ (o : Option ℕ). LoadsUnder refused s o slots answer) (sym low) loads)

-- the machine may reject a socket filter with the verifier's refusal, if a descriptor is free
pub load_refused : (s : TenantState) (kind fd : ℕ) (slots : List ℕ) (refusal : Refusal)
    → kind ≡ 1 → lowest s.objects ≡ Some fd
    → Judges (targets s) slots (Err refusal)
    → MayLoad s kind slots (refuses_load refusal s)
load_refused s kind fd slots refusal socket low is = (
  false,
  under_free false s kind fd slots (refuses_load refusal s) socket low (Err refusal, is, refl),
)

-- the machine may open an accepted socket filter at the lowest free descriptor
pub program_opened : (s : TenantState) (kind fd : ℕ) (slots : List ℕ) (l : LoadedProgram)
    → kind ≡ 1 → lowest s.objects ≡ Some fd
    → Judges (targets s) slots (Ok l.insns) → l ≡ loaded_program s l.insns
    → MayLoad s kind slots (opens fd (with_program s fd l))
program_opened s kind fd slots l socket low is same = (
  false,
  under_free false s kind fd slots (opens fd (with_program s fd l)) socket low
      (Ok l.insns, is, ap (λ (m : LoadedProgram). opens fd (with_program s fd m)) same),
)
