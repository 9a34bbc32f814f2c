-- `load` of `Tenant`: the machine may have the result: by `program_of` and `open_program` the accepted program at the lowest free
-- descriptor, or a refusal, with a descriptor free. With its flag set the tenant is still well formed.
use Rattle.std.proofs.Common.{sym, ap, subst, ◌∙◌}
use Rattle.fd_table.specs.Table.{lowest}
use Rattle.tenant.specs.Kept.{KeptTenant, state_in}
use Rattle.tenant.specs.Machine.{opens}
use Rattle.tenant.proofs.LoadingKept.{flagged_kept}
use Rattle.tenant.proofs.LoadingRefusals.{MayLoad, load_refused, of_err, of_ok, program_opened}
use Rattle.tenant.proofs.Opened.{some_lowest}
use Rattle.tenant.proofs.tenant.Tenant.load.Goals as goal

pub invariant_of-self : goal.invariant_of-self
invariant_of-self c = flagged_kept c.self.invariant

pub returns-in-Ok-Ok-clause-answer : goal.returns-in-Ok-Ok-clause-answer
returns-in-Ok-Ok-clause-answer c = λ part.
    let s = state_in part c.args.self.now in
    let fd = c.open_program.result in
    subst (MayLoad s c.args.kind c.args.slots.now) (sym (ap (opens fd) (c.open_program.ensures.opened part)))
    (program_opened s c.args.kind fd c.args.slots.now c.in-Ok-Ok.program
    c.if-kind-ne-SOCKET_FILTER.false c.open_program.ensures.lowest
    (of_ok _ _ _ c.in-Ok-Ok.field-0-is c.in-Ok-Ok.ensures.judges part)
    (of_ok _ _ _ c.in-Ok-Ok.field-0-is c.in-Ok-Ok.ensures.found part))

pub returns-in-Ok-Err-clause-answer : goal.returns-in-Ok-Err-clause-answer
returns-in-Ok-Err-clause-answer c = λ part.
    let k = c.args.self.now in
    let (fd, low) = some_lowest c.self.inside.objects (sym c.is_full.ensures ∙ c.if-is_full.false) in
    load_refused (state_in part k) c.args.kind fd c.args.slots.now c.in-Ok-Err.refusal c.if-kind-ne-SOCKET_FILTER.false
    (ap (λ (k : KeptTenant). lowest k.objects) (sym c.self.view_is) ∙ low)
    (of_err _ _ _ c.in-Ok-Err.field-0-is c.in-Ok-Err.ensures.refused part)
