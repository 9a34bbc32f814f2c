-- `entry_after` of `OrderedMap`: the next element, by the contract of `next_element`, is in the order and so in range for `key_at`. The
-- next entry is that of this element, with the key that `key_at` finds; if one of the two calls returns `None`, no entry follows.
use Rattle.std.proofs.Common.{◌≡◌, ℕ, ◌∙◌, List, Option, Some, length, option_map, sym, ap}
use Rattle.ordered_keys.specs.Orders.{BoundedKeys, lent_entry, next_entry}
use Rattle.ordered_keys.specs.inside.Ordered.{key_of}
use Rattle.ordered_keys.proofs.Ordered.{members_within}
use Rattle.ordered_keys.proofs.Behind.{entry_or_none, next_member, next_in_order, with_its_element, without_key}
use Rattle.ordered_keys.proofs.ordered_map.OrderedMap.entry_after.Goals as goal

pub returns-in_err-next : goal.returns-in_err-next
returns-in_err-next g c =
    let m = c.self.inside in
    ap (option_map (lent_entry {K = g.row.K.Denot})) c.from_residual.ensures
    ∙ ap (entry_or_none m.table.entries m.indices.items) c.in_err-next.ensures
    ∙ next_in_order m.table.entries m.indices.items m.order c.self.invariant.indexed c.args.element
    ∙ ap (λ (b : BoundedKeys g.row.K.Denot). next_entry c.args.element b.entries) c.self.view_is

pub key_at-requires : goal.key_at-requires
key_at-requires g c =
    let m = c.self.inside in
    let next = c.in_ok-next.next in
    let long : length c.deref-2.result.now ≡ m.order.bound =
    ap length c.deref-2.ensures.value ∙ c.self.invariant.indexed.long in
    members_within (length c.deref-2.result.now) m.order.bound m.order.elements (Some next) long
    c.self.invariant.indexed.within
    (next_member m.table.entries m.indices.items m.order c.self.invariant.indexed c.args.element
    next c.in_ok-next.ensures)

pub returns-in_err-key : goal.returns-in_err-key
returns-in_err-key g c =
    let m = c.self.inside in
    let next = c.in_ok-next.next in
    let none =
    c.in_err-key.ensures
    ∙ ap (λ (is : List ℕ). key_of m.table.entries is (let o : Option ℕ = Some next in o)) c.deref-2.ensures.value in
    ap (option_map (lent_entry {K = g.row.K.Denot})) c.from_residual-in_err-key.ensures
    ∙ sym (without_key m.table.entries m.indices.items m.order c.self.invariant.indexed next
    (next_member m.table.entries m.indices.items m.order c.self.invariant.indexed c.args.element
    next c.in_ok-next.ensures)
    (sym none))
    ∙ ap (entry_or_none m.table.entries m.indices.items) c.in_ok-next.ensures
    ∙ next_in_order m.table.entries m.indices.items m.order c.self.invariant.indexed c.args.element
    ∙ ap (λ (b : BoundedKeys g.row.K.Denot). next_entry c.args.element b.entries) c.self.view_is

pub returns : goal.returns
returns g c =
    let m = c.self.inside in
    let next = c.in_ok-next.next in
    let some =
    c.in_ok-key.ensures
    ∙ ap (λ (is : List ℕ). key_of m.table.entries is (let o : Option ℕ = Some next in o)) c.deref-2.ensures.value in
    sym (with_its_element m.table.entries m.indices.items m.order c.self.invariant.indexed next
    c.in_ok-key.key.now
    (next_member m.table.entries m.indices.items m.order c.self.invariant.indexed c.args.element
    next c.in_ok-next.ensures)
    (sym some))
    ∙ ap (entry_or_none m.table.entries m.indices.items) c.in_ok-next.ensures
    ∙ next_in_order m.table.entries m.indices.items m.order c.self.invariant.indexed c.args.element
    ∙ ap (λ (b : BoundedKeys g.row.K.Denot). next_entry c.args.element b.entries) c.self.view_is
