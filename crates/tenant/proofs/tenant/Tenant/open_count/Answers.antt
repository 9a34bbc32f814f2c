-- `open_count` of `Tenant`: one more descriptor adds one to the number of open descriptors if it is open, and nothing if it is free, by the
-- contract of `get`.
use Rattle.std.proofs.Common.{◌≡◌, length, refl, sym, ap, subst, ◌∙◌, arith}
use Rattle.bpf_maps.specs.Sum.{total}
use Rattle.fd_table.specs.Table.{named}
use Rattle.tenant.specs.Kept.{KeptTenant, IsWellFormedTenant}
use Rattle.tenant.proofs.Counted.{total_more, open_one, closed_none}
use Rattle.tenant.proofs.tenant.Tenant.open_count.Goals as goal
use Rattle.tenant.proofs.tenant.Tenant.open_count.Goals.{then-is_some, else-is_some}

pub loop-fd-init : goal.loop-fd-init
unfolding total
loop-fd-init c = record { count = refl; few = omega arith }

pub loop-fd-preserved : goal.loop-fd-preserved
loop-fd-preserved c =
    let xs = c.args.self.now.objects in
    let fd = c.loop-fd.fd in
    let all : length xs ≡ 64 = (subst (λ (k : KeptTenant). IsWellFormedTenant k) c.self.view_is c.self.invariant).all in
    let more = total_more (λ o. 1) xs fd (omega arith) (omega arith) in
    let here = c.get.ensures ∙ ap (λ (k : KeptTenant). named k.objects fd) c.self.view_is in
    let before = c.loop-fd.invariant.count in
    let few = c.loop-fd.invariant.few in
    elim c.if-is_some.branch [
      | then-is_some w ↦
          let one = open_one c.get.result here (sym c.is_some.ensures ∙ w.if-is_some.true) in
          let is = w.count-is in
          record { count = omega arith; few = omega arith }
      | else-is_some w ↦
          let none = closed_none c.get.result here (sym c.is_some.ensures ∙ w.if-is_some.false) in
          let is = w.count-is in
          record { count = omega arith; few = omega arith }
    ]
