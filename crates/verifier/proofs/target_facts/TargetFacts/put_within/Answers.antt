-- `put_within`: the slot's entry is joined by the contract of `join_entry`, and no other entry of the list is set.
use Rattle.std.proofs.lemmas.Result.{on_ok_weaker}
use Rattle.verifier.proofs.EntryLists.{put_is}
use Rattle.verifier.proofs.target_facts.TargetFacts.put_within.Goals as goal

pub returns : goal.returns
returns c =
    on_ok_weaker c.join_entry.result
    (λ joins.
    put_is c.args.slot c.args.fresh c.args.facts.now c.self.inside.facts.items c.args.self.now
    c.index_mut.result.now _ c.self.view_is c.requires c.index_mut.ensures.value
    joins)
    c.join_entry.ensures
