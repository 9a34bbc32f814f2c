-- `get` of `OrderedMap`: a look-up in the table finds what one in the order finds (`same_found`), since the table's keys are distinct, by
-- the contract of `len`, and all keys equivalent to `key` are equal, by the law of `Equivalent`.
use Rattle.std.proofs.Common.{◌∙◌, ap}
use Rattle.std.specs.Map.{lookup}
use Rattle.ordered_keys.specs.Orders.{BoundedKeys}
use Rattle.ordered_keys.proofs.Ordered.{sole_by, same_found}
use Rattle.ordered_keys.proofs.ordered_map.OrderedMap.get.Goals as goal

pub returns : goal.returns
returns g c =
    let m = c.self.inside in
    let test = g.Q.Equivalent.equivalent c.args.key in
    c.copied.ensures ∙ c.get.ensures.value
    ∙ same_found m.table.entries m.indices.items m.order c.self.invariant.indexed test
    g.K.PartialEq.eq
    (sole_by g.K.PartialEq.eq test (g.met.Q.Equivalent.respects_eq c.args.key))
    c.len-len.ensures.unique
    ∙ ap (λ (b : BoundedKeys g.row.K.Denot). lookup test b.entries) c.self.view_is
