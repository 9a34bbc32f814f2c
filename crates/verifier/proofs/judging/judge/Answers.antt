-- `judge`: the watcher receives nothing before the pass, if the shape has a fault or memory runs out. In the pass it receives the facts by
-- the contract of `check_safety`, whose objects are those of the program's maps, by the contracts of `loaded_maps` and `objects_at`.
use Rattle.std.proofs.Common.{List, ℕ, refl, subst, ap, ◌∙◌}
use Rattle.std.proofs.lemmas.Result.{err_from_is_err_and}
use Rattle.insn_set.specs.Program.{slot_count}
use Rattle.tagged_model.specs.Named.{shapes_named}
use Rattle.tagged_model.specs.declared.shape.Named.{Named}
use Rattle.verifier.specs.Maps.{objects_at}
use Rattle.verifier.specs.Seen.{SeesBelow}
use Rattle.verifier.proofs.Watching.{none_seen_at_memory, none_seen_of_shape}
use Rattle.verifier.proofs.judging.judge.Goals as goal

pub returns-in_err-cost-clause-seen_refused : goal.returns-in_err-cost-clause-seen_refused
returns-in_err-cost-clause-seen_refused g c =
    let p = err_from_is_err_and c.from_residual.result c.from_residual.ensures.1 in
    rw (p.1, p.2)
    (none_seen_of_shape c.args.program.now c.args.named.now (g.W.Watcher.seen c.args.watcher.now) _
    c.in_err-cost.ensures.refused)

pub returns-in_err-maps-clause-seen_refused : goal.returns-in_err-maps-clause-seen_refused
returns-in_err-maps-clause-seen_refused g c =
    let p = err_from_is_err_and c.from_residual-in_err-maps.result c.from_residual-in_err-maps.ensures.1 in
    rw (p.1, p.2) (none_seen_at_memory c.args.program.now c.args.named.now (g.W.Watcher.seen c.args.watcher.now) _ refl)

pub returns-in_err-objects-clause-seen_refused : goal.returns-in_err-objects-clause-seen_refused
returns-in_err-objects-clause-seen_refused g c =
    let p = err_from_is_err_and c.from_residual-in_err-objects.result c.from_residual-in_err-objects.ensures.1 in
    rw (p.1, p.2) (none_seen_at_memory c.args.program.now c.args.named.now (g.W.Watcher.seen c.args.watcher.now) _ refl)

pub returns-in_err-pass-clause-seen_refused : goal.returns-in_err-pass-clause-seen_refused
returns-in_err-pass-clause-seen_refused g c =
    let p = err_from_is_err_and c.from_residual-in_err-pass.result c.from_residual-in_err-pass.ensures.1 in
    rw (p.1, p.2) (none_seen_at_memory c.args.program.now c.args.named.now (g.W.Watcher.seen c.args.watcher.now) _ refl)

pub returns-clause-seen : goal.returns-clause-seen
returns-clause-seen g c =
    let code = c.args.program.now in
    let old = g.W.Watcher.seen c.args.watcher.now in
    let new = g.W.Watcher.seen c.check_safety-verdict.new.watcher in
    let is =
    c.in_ok-objects.ensures
    ∙ ap (λ (fds : List ℕ). objects_at fds c.args.named.now) (c.deref.ensures.value ∙ c.in_ok-maps.ensures) in
    let objects = c.deref-2.ensures.value ∙ is in
    subst (λ (es : List Named). SeesBelow (slot_count code) (shapes_named es) code old new)
    objects c.in_ok-verdict.ensures.seen
