-- `remove` of `ElementOrder`: the element and its two neighbours have links, by the invariant. After the writes of the neighbours' links
-- these are a ring again, of the order without the element.
use Rattle.ordered_keys.proofs.Links.{member_within, before_inside, after_inside, remove_ring, remove_elements}
use Rattle.ordered_keys.proofs.element_order.ElementOrder.remove.Goals as goal

pub index-requires : goal.index-requires
index-requires c = member_within c.self.inside c.self.invariant c.args.self.now c.self.view_is c.args.element c.requires

pub index_mut-requires : goal.index_mut-requires
index_mut-requires c =
    before_inside c.self.inside c.self.invariant c.args.self.now c.self.view_is c.args.element
    c.requires c.index.result.now c.index.ensures

pub index_mut-requires-2 : goal.index_mut-requires-2
index_mut-requires-2 c =
    after_inside c.self.inside c.self.invariant c.args.self.now c.self.view_is c.args.element
    c.requires c.index.result.now c.index.ensures

pub invariant_of-self : goal.invariant_of-self
invariant_of-self c =
    remove_ring c.self.inside c.self.invariant c.args.self.now c.self.view_is c.args.element
    c.requires c.index.result.now c.index.ensures c.index_mut.result.now
    c.index_mut-2.result.now c.index_mut.ensures.value c.index_mut-2.ensures.value

pub returns-clause-elements : goal.returns-clause-elements
returns-clause-elements c =
    remove_elements c.self.inside c.self.invariant c.args.self.now c.self.view_is c.args.element
    c.requires c.index.result.now c.index.ensures c.index_mut.result.now
    c.index_mut-2.result.now c.index_mut.ensures.value c.index_mut-2.ensures.value
