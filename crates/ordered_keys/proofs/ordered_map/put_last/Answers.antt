-- `put_last`: the new entry follows all others, by the contract of `insert` of the index map and since the key is absent
-- (`insert_entry-new`).
use Rattle.std.proofs.Common.{◌∙◌}
use Rattle.indexmap.proofs.CallerLemmas.{insert_entry-new}
use Rattle.ordered_keys.proofs.ordered_map.put_last.Goals as goal

pub returns-clause-entries : goal.returns-clause-entries
returns-clause-entries g c =
    c.in-Ok.ensures.entries
    ∙ insert_entry-new g.K.PartialEq.eq c.args.table.now c.args.key c.args.element c.requires.absent
