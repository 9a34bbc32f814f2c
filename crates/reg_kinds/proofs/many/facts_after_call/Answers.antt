-- `facts_after_call`: each turn writes the kind of the next register after the helper's call, by the contract of `called_kind`; after the
-- loop all registers have theirs, and the stack is unchanged.
use Rattle.std.proofs.Common.{◌≡◌, arith, length-set, ap, ◌∙◌, ◌==◌, if◌then◌else◌}
use Rattle.std.specs.Prelude.{nat_le}
use Rattle.std.proofs.lemmas.List.{get_or_default}
use Rattle.reg_kinds.specs.declared.kind.Kind.{Kind}
use Rattle.reg_kinds.specs.declared.kind.Kind.TheVariants.{Unreadable}
use Rattle.reg_kinds.specs.declared.facts.Facts.{Facts}
use Rattle.reg_kinds.specs.Kinds.{with_registers}
use Rattle.reg_kinds.specs.Many.{call_kind}
use Rattle.reg_kinds.proofs.Tables.{filled, fill_more, rest_more, same_facts}
use Rattle.reg_kinds.proofs.many.facts_after_call.Goals as goal

pub loop-r-preserved : goal.loop-r-preserved
loop-r-preserved c =
    record {
      long = length-set _ _ _ ∙ c.loop-r.invariant.long;
      kept = c.loop-r.invariant.kept;
      done =
          fill_more (call_kind c.args.facts.now c.args.given) c.loop-r.facts.registers c.loop-r.r _
          Unreadable (omega arith)
          (c.called_kind.ensures
          ∙ ap (λ (k : Kind). if c.loop-r.r == 0 then c.args.given else (if nat_le c.loop-r.r 5 then Unreadable else k))
          (get_or_default c.loop-r.facts.registers c.loop-r.r _ Unreadable (omega arith)
          ∙ c.loop-r.invariant.rest c.loop-r.r (omega arith)))
          c.loop-r.invariant.done;
      rest =
          rest_more c.loop-r.facts.registers c.args.facts.now.registers c.loop-r.r _ Unreadable c.loop-r.invariant.rest;
    }

pub returns : goal.returns
returns c =
    let after : Facts = with_registers c.args.facts.now (call_kind c.args.facts.now c.args.given) in
    let table : c.loop-r.facts.registers ≡ after.registers =
    filled _ c.loop-r.facts.registers 11 Unreadable c.loop-r.invariant.long
    (λ k h. c.loop-r.invariant.done k (omega arith)) in
    same_facts _ after table c.loop-r.invariant.kept
