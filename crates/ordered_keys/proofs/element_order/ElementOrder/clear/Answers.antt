-- `clear` of `ElementOrder`: with the bound linked to itself and the count 0, the links are a ring without elements.
use Rattle.ordered_keys.proofs.Links.{clear_ring}
use Rattle.ordered_keys.proofs.element_order.ElementOrder.clear.Goals as goal

pub invariant_of-self : goal.invariant_of-self
invariant_of-self c = clear_ring c.self.inside c.self.invariant
