-- `put`: the entry is joined by the contract of `put_within`, and as `reach` changes no slot's entry, this is so of the list at the call.
use Rattle.std.proofs.lemmas.Result.{on_ok_weaker}
use Rattle.verifier.proofs.EntryLists.{put_after}
use Rattle.verifier.proofs.target_facts.TargetFacts.put.Goals as goal

pub returns : goal.returns
returns c =
    on_ok_weaker c.put_within.result
    (λ put. put_after c.args.slot c.args.fresh c.args.facts.now c.args.self.now _ _ c.in_ok-reach.ensures.entries put)
    c.put_within.ensures
