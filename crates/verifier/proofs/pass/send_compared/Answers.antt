-- `send_compared`: only the ranges of the operands change in `hand`, as ranges that are set twice are the later ones (`ranged_twice`).
use Rattle.std.proofs.Common.{ap, ◌∙◌}
use Rattle.std.proofs.lemmas.Result.{on_ok_weaker}
use Rattle.interval.specs.Refine.{RangePair}
use Rattle.reg_kinds.specs.declared.facts.Facts.{Facts}
use Rattle.verifier.specs.declared.numbered_facts.NumberedFacts.{NumberedFacts}
use Rattle.verifier.specs.inside.Numbers.{with_ranges}
use Rattle.verifier.proofs.NumberedSteps.{ranged_twice}
use Rattle.verifier.proofs.pass.send_compared.Goals as goal

pub returns-in-Some-clause-hand : goal.returns-in-Some-clause-hand
returns-in-Some-clause-hand c =
    let x : NumberedFacts = c.args.hand.now in
    on_ok_weaker c.send.result
    (λ _ (q : RangePair).
    ap (λ (f : Facts).
    let y : NumberedFacts = record { facts = f; numbers = x.numbers; includes = x.includes } in
    with_ranges y c.args.dst c.args.src q)
    c.set_ranges.ensures
    ∙ ranged_twice x c.args.dst c.args.src c.in-Some.ranges q)
    c.send.ensures
