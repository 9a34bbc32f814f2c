-- `next_element`, by cases of `has_element`: an element with an entry is in the order, as `after` requires (`has_entry`), and nothing
-- follows one without an entry (`has_no_entry`).
use Rattle.std.proofs.Common.{ℕ, ◌∙◌, Option, sym, ap}
use Rattle.ordered_keys.specs.inside.Ordered.{next_of_elements}
use Rattle.ordered_keys.proofs.Behind.{has_entry, has_no_entry}
use Rattle.ordered_keys.proofs.ordered_map.next_element.Goals as goal

pub after-requires : goal.after-requires
after-requires g c =
    has_entry c.args.table.now.entries c.args.indices.now c.args.order.now c.requires
    c.in-Some.element
    (sym c.has_element.ensures ∙ c.if-has_element.true)

pub returns-else-has_element : goal.returns-else-has_element
returns-else-has_element g c =
    sym
    (ap (λ (o : Option ℕ). next_of_elements o c.args.order.now.elements) c.in-Some.is
    ∙ has_no_entry c.args.table.now.entries c.args.indices.now c.args.order.now c.requires
    c.in-Some.element
    (sym c.has_element.ensures ∙ c.if-has_element.false))
