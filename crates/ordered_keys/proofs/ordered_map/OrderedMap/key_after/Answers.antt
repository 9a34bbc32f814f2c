-- `key_after`, by cases of the look-up in the table: after an absent key comes the first one (`following_absent`), after a found one the
-- key of the element that follows its element (`following_in_order`). The order has the found element once, and each of its elements is
-- less than the bound, as `after` and `key_at` require.
use Rattle.std.proofs.Common.{◌≡◌, ℕ, ◌<◌, ◌∙◌, List, Option, Some, None, IfSome, length, sym, ap, subst, arith}
use Rattle.std.specs.Map.{lookup}
use Rattle.std.specs.Option.{option_copied}
use Rattle.ordered_keys.specs.Orders.{BoundedKeys, first_key_of, following, key_following}
use Rattle.ordered_keys.specs.inside.Ordered.{key_of}
use Rattle.ordered_keys.proofs.Ordered.{sole_by, following_absent, following_in_order, found_member, following_member, members_within}
use Rattle.ordered_keys.proofs.ordered_map.OrderedMap.key_after.Goals as goal

pub returns-in_default : goal.returns-in_default
returns-in_default g c =
    let m = c.self.inside in
    let test = g.Q.Equivalent.equivalent c.args.key in
    let none : lookup test m.table.entries ≡ None = sym c.get.ensures.value ∙ ap option_copied c.in_default.is in
    c.first.ensures
    ∙ subst (λ (b : BoundedKeys g.row.K.Denot). first_key_of b.entries ≡ key_following test b.entries)
    c.self.view_is
    (sym (following_absent m.table.entries m.indices.items m.order c.self.invariant.indexed test none))

pub after-requires : goal.after-requires
after-requires g c =
    let m = c.self.inside in
    let test = g.Q.Equivalent.equivalent c.args.key in
    let some : lookup test m.table.entries ≡ Some c.in-Some.element.now =
    sym c.get.ensures.value ∙ ap option_copied c.in-Some.is in
    let one =
    found_member m.table.entries m.indices.items m.order c.self.invariant.indexed test
    g.K.PartialEq.eq
    (sole_by g.K.PartialEq.eq test (g.met.Q.Equivalent.respects_eq c.args.key))
    c.len-len.ensures.unique c.in-Some.element.now some in
    omega arith

pub key_at-requires : goal.key_at-requires
key_at-requires g c =
    let m = c.self.inside in
    let h = c.self.invariant.indexed in
    let long : length c.deref.result.now ≡ m.order.bound = ap length c.deref.ensures.value ∙ h.long in
    subst (λ (o : Option ℕ). IfSome o (λ p. p < length c.deref.result.now)) (sym c.after.ensures)
    (members_within (length c.deref.result.now) m.order.bound m.order.elements
    (following c.in-Some.element.now m.order.elements) long
    h.within
    (following_member c.in-Some.element.now m.order.elements))

pub returns : goal.returns
returns g c =
    let m = c.self.inside in
    let test = g.Q.Equivalent.equivalent c.args.key in
    let some : lookup test m.table.entries ≡ Some c.in-Some.element.now =
    sym c.get.ensures.value ∙ ap option_copied c.in-Some.is in
    c.key_at.ensures
    ∙ ap (λ (is : List ℕ). key_of m.table.entries is c.after.result) c.deref.ensures.value
    ∙ ap (key_of m.table.entries m.indices.items) c.after.ensures
    ∙ sym (following_in_order m.table.entries m.indices.items m.order c.self.invariant.indexed test
    g.K.PartialEq.eq
    (sole_by g.K.PartialEq.eq test (g.met.Q.Equivalent.respects_eq c.args.key))
    c.len-len.ensures.unique c.in-Some.element.now some)
    ∙ ap (λ (b : BoundedKeys g.row.K.Denot). key_following test b.entries) c.self.view_is
