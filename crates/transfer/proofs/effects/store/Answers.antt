-- `store`: a store to the stack leads to the facts that `write_stack` leaves, or is rejected for its reason with unchanged facts, by the
-- contract of `write_stack` and cases of its result.
use Rattle.std.proofs.Common.{rules, ◌≡◌, ℕ, Result, Ok, Err, sym, ap, subst}
use Rattle.std.specs.Prelude.{IsOk, MatchResult}
use Rattle.std.proofs.lemmas.Bool.{false≢true}
use Rattle.std.proofs.lemmas.Result.{err_from_is_err_and}
use Rattle.reg_kinds.specs.declared.facts.Facts.{Facts}
use Rattle.reg_kinds.specs.declared.reason.Reason.{Reason}
use Rattle.tagged_model.specs.Named.{shapes_named}
use Rattle.transfer.specs.Effects.{store_facts}
use Rattle.transfer.proofs.effects.store.Goals as goal

-- the result of the write to the stack is the result of the store
abbrev Tells : Result Facts Reason → Result ℕ Reason → Facts → Facts → Type 0
Tells done result old new =
    MatchResult done (λ after. IsOk result × (new ≡ after)) (λ reason. (result ≡ Err reason) × (new ≡ old))

seen_ok : (done : Result Facts Reason) (result : Result ℕ Reason) (i : ℕ) (old new : Facts)
    → Tells done result old new → result ≡ Ok i → done ≡ Ok new
seen_ok (Ok after) result i old new h is = ap (λ (f : Facts). Ok f) (sym h.1)
seen_ok (Err reason) result i old new h is = let e = h.0 in cc

seen_err : (done : Result Facts Reason) (result : Result ℕ Reason) (reason : Reason) (old new : Facts)
    → Tells done result old new → result ≡ Err reason
    → (done ≡ Err reason) × (new ≡ old)
seen_err (Ok after) result reason old new h is = absurd (false≢true (subst (λ (r : Result ℕ Reason). IsOk r) is h.0))
seen_err (Err other) result reason old new h is = (let e = h.0 in cc, h.1)

pub returns-in_ok-write_stack-in-Stack-clause-ok : goal.returns-in_ok-write_stack-in-Stack-clause-ok
returns-in_ok-write_stack-in-Stack-clause-ok c =
    let wanted =
    store_facts (shapes_named c.args.named.now) c.args.facts.now c.args.size c.args.offset c.args.base c.args.value in
    let seen =
    seen_ok _ c.write_stack.result _ c.args.facts.now c.write_stack.new.facts
    c.write_stack.ensures.facts c.in_ok-write_stack-in-Stack.was in
    search (rules, seen)

pub returns-in_err-write_stack-in-Stack-clause-refused : goal.returns-in_err-write_stack-in-Stack-clause-refused
returns-in_err-write_stack-in-Stack-clause-refused c =
    let p =
    err_from_is_err_and c.from_residual-in_err-write_stack-in-Stack.result
    c.from_residual-in_err-write_stack-in-Stack.ensures.1 in
    let seen =
    seen_err _ c.write_stack.result _ c.args.facts.now c.write_stack.new.facts
    c.write_stack.ensures.facts c.in_err-write_stack-in-Stack.was in
    rw (p.1, p.2) (search (rules, seen.0))

pub returns-in_err-write_stack-in-Stack-clause-stays : goal.returns-in_err-write_stack-in-Stack-clause-stays
returns-in_err-write_stack-in-Stack-clause-stays c =
    let p =
    err_from_is_err_and c.from_residual-in_err-write_stack-in-Stack.result
    c.from_residual-in_err-write_stack-in-Stack.ensures.1 in
    let seen =
    seen_err _ c.write_stack.result _ c.args.facts.now c.write_stack.new.facts
    c.write_stack.ensures.facts c.in_err-write_stack-in-Stack.was in
    rw p.1 seen.1
