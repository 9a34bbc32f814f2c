-- `program_count` of `Tenant`: one more descriptor adds one to the number of programs if it names one, and nothing otherwise, by the
-- contract of `program_at`.
use Rattle.std.proofs.Common.{◌≡◌, length, refl, sym, ap, subst, ◌∙◌, arith}
use Rattle.bpf_maps.specs.Sum.{total}
use Rattle.fd_table.specs.Table.{named}
use Rattle.tenant.specs.Batch.{object_refusal}
use Rattle.tenant.specs.Counts.{one_program}
use Rattle.tenant.specs.Kept.{KeptTenant, IsWellFormedTenant}
use Rattle.tenant.proofs.Counted.{total_more, program_one, program_none}
use Rattle.tenant.proofs.tenant.Tenant.program_count.Goals as goal
use Rattle.tenant.proofs.tenant.Tenant.program_count.Goals.{then-is_ok, else-is_ok}

pub loop-fd-init : goal.loop-fd-init
unfolding total
loop-fd-init c = record { count = refl; few = omega arith }

pub loop-fd-preserved : goal.loop-fd-preserved
loop-fd-preserved c =
    let xs = c.args.self.now.objects in
    let fd = c.loop-fd.fd in
    let all : length xs ≡ 64 = (subst (λ (k : KeptTenant). IsWellFormedTenant k) c.self.view_is c.self.invariant).all in
    let more = total_more one_program xs fd (omega arith) (omega arith) in
    let here =
    c.program_at.ensures.refusal ∙ ap (λ (k : KeptTenant). object_refusal (named k.objects fd)) c.self.view_is in
    let before = c.loop-fd.invariant.count in
    let few = c.loop-fd.invariant.few in
    elim c.if-is_ok.branch [
      | then-is_ok w ↦
          let one = program_one c.program_at.result (named xs fd) here (sym c.is_ok.ensures.value ∙ w.if-is_ok.true) in
          let is = w.count-is in
          record { count = omega arith; few = omega arith }
      | else-is_ok w ↦
          let none =
          program_none c.program_at.result (named xs fd) here (sym c.is_ok.ensures.value ∙ w.if-is_ok.false) in
          let is = w.count-is in
          record { count = omega arith; few = omega arith }
    ]
