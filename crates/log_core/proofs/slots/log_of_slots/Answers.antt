-- `log_of_slots`: if `read_program` returns a program, the slots spell it, and `log_without_facts` makes its log, by both contracts.
use Rattle.std.proofs.Common.{inl}
use Rattle.std.proofs.lemmas.Result.{IfOk-weaker}
use Rattle.log_core.proofs.slots.log_of_slots.Goals as goal

pub returns-in-Ok : goal.returns-in-Ok
returns-in-Ok c =
    let found = c.in-Ok.ensures.found in
    IfOk-weaker c.log_without_facts.result _ _ (λ log is. inl (c.in-Ok.program, found.0, found.1, is)) c.log_without_facts.ensures
