-- Errors that are propagated, and properties of a result.
use Rattle.std.proofs.Common.{◌≡◌, IfErr, IfOk, IsErrAnd, Result, Ok, Err, subst, sym}

-- `?` propagates an error
pub passed_on : {T E : Type 0} (r : Result T E) (e : E) (P : E → Type 0) → IsErrAnd r (λ f. f ≡ e) → P e → IfErr r P
passed_on (Ok x) e P is holds = tt
passed_on (Err f) e P is holds = subst P (sym is) holds

-- a property of the value of a result, or of its error
pub of_ok : {T E : Type 0} (r : Result T E) (x : T) (P : T → Type 0) → r ≡ Ok x → IfOk r P → P x
of_ok r x P is holds = subst (λ s. IfOk s P) is holds

-- a property that holds of a result's error, if it has one, holds of the error that it has
pub of_err : {T E : Type 0} (r : Result T E) (e : E) (P : E → Type 0) → r ≡ Err e → IfErr r P → P e
of_err r e P is holds = subst (λ s. IfErr s P) is holds
