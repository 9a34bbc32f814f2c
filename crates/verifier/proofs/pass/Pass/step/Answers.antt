-- `step` of `Pass`: by the contract of `join_at` the facts in hand become the join of those on the falling edge and on jumps to the slot
-- (`arrived`). With this each clause is that of `run_past_if_reached`; the facts on both edges are those of the transfer function, with
-- numbers that mean one group (`stepped`).
use Rattle.std.proofs.Common.{◌≡◌, ◌⊎◌, Option, IfErr, subst}
use Rattle.std.proofs.lemmas.Result.{on_ok_weaker}
use Rattle.reg_kinds.specs.declared.facts.Facts.{Facts}
use Rattle.tagged_model.specs.Named.{shapes_named}
use Rattle.verifier.specs.inside.Edges.{MayRun}
use Rattle.verifier.specs.inside.Watching.{SeesFault, StopsWatching}
use Rattle.verifier.specs.Seen.{known_at, with_more}
use Rattle.verifier.proofs.NumberedSteps.{arrived, stepped}
use Rattle.verifier.proofs.pass.Pass.step.Goals as goal

pub returns-clause-falling : goal.returns-clause-falling
returns-clause-falling g c =
    on_ok_weaker c.run_past_if_reached.result
    (λ past.
    (stepped c.requires.absorb (shapes_named c.args.named.now) c.args.slot c.args.insn.now _ _ _ _ _
    _ c.requires.numbered c.in_ok-join_at.ensures past).falls)
    c.run_past_if_reached.ensures.past

pub returns-clause-sent : goal.returns-clause-sent
returns-clause-sent g c =
    on_ok_weaker c.run_past_if_reached.result
    (λ past.
    (stepped c.requires.absorb (shapes_named c.args.named.now) c.args.slot c.args.insn.now _ _ _ _ _
    _ c.requires.numbered c.in_ok-join_at.ensures past).sent)
    c.run_past_if_reached.ensures.past

pub returns-clause-numbered : goal.returns-clause-numbered
returns-clause-numbered g c =
    on_ok_weaker c.run_past_if_reached.result
    (λ past.
    (stepped c.requires.absorb (shapes_named c.args.named.now) c.args.slot c.args.insn.now _ _ _ _ _
    _ c.requires.numbered c.in_ok-join_at.ensures past).numbered)
    c.run_past_if_reached.ensures.past

pub returns-clause-ok : goal.returns-clause-ok
returns-clause-ok g c =
    let here =
    (arrived c.requires.absorb (shapes_named c.args.named.now) c.args.slot c.args.insn.now
    c.requires.numbered.stacks _ _ _ _ c.requires.numbered.in_hand
    c.requires.numbered.ahead c.in_ok-join_at.ensures).facts in
    on_ok_weaker c.run_past_if_reached.result
    (λ may.
    subst (λ (known : Option Facts). MayRun (shapes_named c.args.named.now) c.args.slot c.args.insn.now known) here may)
    c.run_past_if_reached.ensures.ok

pub returns-clause-seen : goal.returns-clause-seen
returns-clause-seen g c =
    let here =
    (arrived c.requires.absorb (shapes_named c.args.named.now) c.args.slot c.args.insn.now
    c.requires.numbered.stacks _ _ _ _ c.requires.numbered.in_hand
    c.requires.numbered.ahead c.in_ok-join_at.ensures).facts in
    on_ok_weaker c.run_past_if_reached.result
    (λ seen.
    subst (λ (known : Option Facts).
    g.W.Watcher.seen c.run_past_if_reached.new.watcher
    ≡ with_more (g.W.Watcher.seen c.args.watcher.now) (known_at c.args.slot known))
    here seen)
    c.run_past_if_reached.ensures.seen

pub returns-clause-refused : goal.returns-clause-refused
returns-clause-refused g c =
    let here =
    (arrived c.requires.absorb (shapes_named c.args.named.now) c.args.slot c.args.insn.now
    c.requires.numbered.stacks _ _ _ _ c.requires.numbered.in_hand
    c.requires.numbered.ahead c.in_ok-join_at.ensures).facts in
    let seen = g.W.Watcher.seen c.args.watcher.now in
    let more = g.W.Watcher.seen c.run_past_if_reached.new.watcher in
    subst (λ (known : Option Facts).
    IfErr c.run_past_if_reached.result
    (λ e.
    StopsWatching seen more c.args.slot known e
    ⊎ SeesFault (shapes_named c.args.named.now) c.args.slot c.args.insn.now known seen more e))
    here
    c.run_past_if_reached.ensures.refused
