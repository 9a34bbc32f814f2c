-- `push` of `ElementOrder`: what is before the bound, the last element or the bound itself, has a link, and the count does not overflow.
-- After the writes of three links these are a ring again, in which the new element is last.
use Rattle.ordered_keys.proofs.Links.{last_within, count_fits, push_ring, push_elements}
use Rattle.ordered_keys.proofs.element_order.ElementOrder.push.Goals as goal

pub index_mut-requires : goal.index_mut-requires
index_mut-requires c =
    last_within c.self.inside c.self.invariant c.args.self.now c.self.view_is c.args.element
    c.requires.within c.requires.new c.requires.few c.index.result.now
    c.index.ensures

pub overflow_add-self : goal.overflow_add-self
overflow_add-self c = record {
  fits =
      count_fits c.self.inside c.self.invariant c.args.self.now c.self.view_is c.args.element
      c.requires.within c.requires.new c.requires.few c.index.result.now
      c.index.ensures c.type_inv.end.fits;
}

pub invariant_of-self : goal.invariant_of-self
invariant_of-self c =
    push_ring c.self.inside c.self.invariant c.args.self.now c.self.view_is c.args.element
    c.requires.within c.requires.new c.requires.few c.index.result.now
    c.index.ensures c.index_mut.result.now c.index_mut-3.result.now
    c.index_mut.ensures.value c.index_mut-3.ensures.value

pub returns-clause-elements : goal.returns-clause-elements
returns-clause-elements c =
    push_elements c.self.inside c.self.invariant c.args.self.now c.self.view_is c.args.element
    c.requires.within c.requires.new c.requires.few c.index.result.now
    c.index.ensures c.index_mut.result.now c.index_mut-3.result.now
    c.index_mut.ensures.value c.index_mut-3.ensures.value
