-- `shape_at` of `Tenant`: the shape is that in the list of open descriptors, by the contract of `target` and cases of the target: the list
-- has at each descriptor the target of its object.
use Rattle.std.proofs.Common.{Some, sym, ap, ◌∙◌}
use Rattle.tagged_model.specs.Named.{shape_in}
use Rattle.tenant.specs.Kept.{state_in}
use Rattle.tenant.proofs.LoadingShapes.{targets_named}
use Rattle.tenant.proofs.tenant.Tenant.shape_at.Goals as goal

pub returns-in-Some-Map : goal.returns-in-Some-Map
returns-in-Some-Map c = λ part.
    ap shape_in
    (sym (c.in-Some-Map.is ∙ ap Some c.in-Some-Map.field-0-is)
    ∙ c.target.ensures part
    ∙ sym (targets_named (state_in part c.args.self.now) c.args.fd))

pub returns-in-Some-Program : goal.returns-in-Some-Program
returns-in-Some-Program c = λ part.
    ap shape_in
    (sym (c.in-Some-Program.is ∙ ap Some c.in-Some-Program.field-0-is)
    ∙ c.target.ensures part
    ∙ sym (targets_named (state_in part c.args.self.now) c.args.fd))

pub returns-in-None : goal.returns-in-None
returns-in-None c = λ part.
    ap shape_in
    (sym c.in-None.is ∙ c.target.ensures part ∙ sym (targets_named (state_in part c.args.self.now) c.args.fd))
