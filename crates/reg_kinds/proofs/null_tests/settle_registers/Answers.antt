-- `settle_registers`: each turn settles the next register, by the contract of `settle_kind`; after the loop all registers are settled, and
-- the stack is unchanged.
use Rattle.std.proofs.Common.{◌≡◌, arith, length-set, ap, ◌∙◌}
use Rattle.std.proofs.lemmas.List.{get_or_default}
use Rattle.reg_kinds.specs.declared.kind.Kind.TheVariants.{Unreadable}
use Rattle.reg_kinds.specs.declared.facts.Facts.{Facts}
use Rattle.reg_kinds.specs.Kinds.{kind_at, with_registers}
use Rattle.reg_kinds.specs.Settle.{kind_settled}
use Rattle.reg_kinds.proofs.Tables.{filled, fill_more, rest_more, same_facts}
use Rattle.reg_kinds.proofs.null_tests.settle_registers.Goals as goal

pub loop-r-preserved : goal.loop-r-preserved
loop-r-preserved c =
    record {
      long = length-set _ _ _ ∙ c.loop-r.invariant.long;
      kept = c.loop-r.invariant.kept;
      done =
          fill_more (λ k. kind_settled c.args.site c.args.null (kind_at c.args.facts.now k))
          c.loop-r.facts.registers c.loop-r.r _ Unreadable (omega arith)
          (c.settle_kind.ensures
          ∙ ap (kind_settled c.args.site c.args.null)
          (get_or_default c.loop-r.facts.registers c.loop-r.r _ Unreadable (omega arith)
          ∙ c.loop-r.invariant.rest c.loop-r.r (omega arith)))
          c.loop-r.invariant.done;
      rest =
          rest_more c.loop-r.facts.registers c.args.facts.now.registers c.loop-r.r _ Unreadable c.loop-r.invariant.rest;
    }

pub returns : goal.returns
returns c =
    let after : Facts =
    with_registers c.args.facts.now (λ k. kind_settled c.args.site c.args.null (kind_at c.args.facts.now k)) in
    let table : c.loop-r.facts.registers ≡ after.registers =
    filled _ c.loop-r.facts.registers 11 Unreadable c.loop-r.invariant.long
    (λ k h. c.loop-r.invariant.done k (omega arith)) in
    same_facts _ after table c.loop-r.invariant.kept
