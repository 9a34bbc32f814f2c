-- Results of calls that may fail, also because memory runs out. This project's own.
use Rattle.std.specs.Prelude.{◌≡◌, ◌⊎◌, IfErr, IsErrAnd, MatchResult, Result}
use Rattle.host.specs.declared.program.failure.Failure.{Failure}
use Rattle.host.specs.declared.program.failure.Failure.TheVariants.{Memory}

-- the call returns a value that `view` shows as x, unless it is out of memory
abbrev pub Gives : {A B : Type 0} → (A → B) → Result A Failure → B → Type 0
Gives view result x = MatchResult result (λ y. view y ≡ x) (λ failure. failure ≡ Memory)

-- the call fails, with a failure of which `why` holds, or out of memory
abbrev pub Fails : {A : Type 0} → Result A Failure → (Failure → Type 0) → Type 0
Fails result why = IsErrAnd result (λ failure. why failure ⊎ (failure ≡ Memory))

-- the call may succeed; if it fails, it is out of memory, or `why` holds of the failure
abbrev pub FailsOnly : {A : Type 0} → Result A Failure → (Failure → Type 0) → Type 0
FailsOnly result why = IfErr result (λ failure. (failure ≡ Memory) ⊎ why failure)
