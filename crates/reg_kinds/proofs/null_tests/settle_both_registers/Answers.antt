-- `settle_both_registers`: each turn settles the next register for both edges, by the contract of `settle_both_kinds`, whose precondition
-- holds since `facts` and `taken` still have the old kind there. After the loop all registers are settled, the stack is unchanged.
use Rattle.std.specs.Prelude.{not}
use Rattle.std.proofs.Common.{◌≡◌, arith, length-set, ap, sym, ◌∙◌}
use Rattle.std.proofs.lemmas.List.{get_or_default}
use Rattle.reg_kinds.specs.declared.kind.Kind.TheVariants.{Unreadable}
use Rattle.reg_kinds.specs.declared.facts.Facts.{Facts}
use Rattle.reg_kinds.specs.Kinds.{kind_at, with_registers}
use Rattle.reg_kinds.specs.Settle.{kind_settled}
use Rattle.reg_kinds.proofs.Tables.{filled, fill_more, rest_more, same_facts}
use Rattle.reg_kinds.proofs.null_tests.settle_both_registers.Goals as goal

pub loop-r-preserved : goal.loop-r-preserved
loop-r-preserved c =
    let here =
    get_or_default c.loop-r.facts.registers c.loop-r.r _ Unreadable (omega arith)
    ∙ c.loop-r.invariant.rest c.loop-r.r (omega arith) in
    record {
      long = length-set _ _ _ ∙ c.loop-r.invariant.long;
      kept = c.loop-r.invariant.kept;
      done =
          fill_more (λ k. kind_settled c.args.site (not c.args.null) (kind_at c.args.facts.now k))
          c.loop-r.facts.registers c.loop-r.r _ Unreadable (omega arith)
          (c.settle_both_kinds.ensures.falls ∙ ap (kind_settled c.args.site (not c.args.null)) here)
          c.loop-r.invariant.done;
      rest =
          rest_more c.loop-r.facts.registers c.args.facts.now.registers c.loop-r.r _ Unreadable c.loop-r.invariant.rest;
      taken_long = length-set _ _ _ ∙ c.loop-r.invariant.taken_long;
      taken_kept = c.loop-r.invariant.taken_kept;
      taken_done =
          fill_more (λ k. kind_settled c.args.site c.args.null (kind_at c.args.facts.now k))
          c.loop-r.taken.registers c.loop-r.r _ Unreadable (omega arith)
          (c.settle_both_kinds.ensures.taken ∙ ap (kind_settled c.args.site c.args.null) here)
          c.loop-r.invariant.taken_done;
      taken_rest =
          rest_more c.loop-r.taken.registers c.args.facts.now.registers c.loop-r.r _ Unreadable
          c.loop-r.invariant.taken_rest;
    }

pub settle_both_kinds-requires : goal.settle_both_kinds-requires
settle_both_kinds-requires c =
    get_or_default c.loop-r.taken.registers c.loop-r.r _ Unreadable (omega arith)
    ∙ c.loop-r.invariant.taken_rest c.loop-r.r (omega arith)
    ∙ sym (get_or_default c.loop-r.facts.registers c.loop-r.r _ Unreadable (omega arith)
    ∙ c.loop-r.invariant.rest c.loop-r.r (omega arith))

pub returns-clause-falls : goal.returns-clause-falls
returns-clause-falls c =
    let after : Facts =
    with_registers c.args.facts.now (λ k. kind_settled c.args.site (not c.args.null) (kind_at c.args.facts.now k)) in
    let table : c.loop-r.facts.registers ≡ after.registers =
    filled _ c.loop-r.facts.registers 11 Unreadable c.loop-r.invariant.long
    (λ k h. c.loop-r.invariant.done k (omega arith)) in
    same_facts _ after table c.loop-r.invariant.kept

pub returns-clause-taken : goal.returns-clause-taken
returns-clause-taken c =
    let after : Facts =
    with_registers c.args.taken.now (λ k. kind_settled c.args.site c.args.null (kind_at c.args.facts.now k)) in
    let table : c.loop-r.taken.registers ≡ after.registers =
    filled _ c.loop-r.taken.registers 11 Unreadable c.loop-r.invariant.taken_long
    (λ k h. c.loop-r.invariant.taken_done k (omega arith)) in
    same_facts _ after table c.loop-r.invariant.taken_kept
