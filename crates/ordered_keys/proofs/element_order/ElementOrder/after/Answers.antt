-- `after` of `ElementOrder`: an element of the order has a link, and in the ring the element that follows it in the order comes after it,
-- or the bound if it is the last, by the lemma `following_is`.
use Rattle.std.proofs.Common.{◌≡◌, ℕ, ◌∙◌, ap, sym}
use Rattle.ordered_keys.specs.Orders.{Order, following}
use Rattle.ordered_keys.specs.inside.Links.{link_at, elements_in, after_in, before_in}
use Rattle.ordered_keys.specs.declared.element_order.Link.{Link}
use Rattle.ordered_keys.proofs.Rings.{element_or_none, following_is}
use Rattle.ordered_keys.proofs.Links.{member_here, member_within, read}
use Rattle.ordered_keys.proofs.element_order.ElementOrder.after.Goals as goal

pub index-requires : goal.index-requires
index-requires c = member_within c.self.inside c.self.invariant c.args.self.now c.self.view_is c.args.element c.requires

pub returns : goal.returns
returns c =
    let o = c.self.inside in
    let ls = o.links.items in
    let element_read : c.index.result.now ≡ link_at ls c.args.element =
    read o c.args.element c.index.result.now c.index.ensures
    (member_within o c.self.invariant c.args.self.now c.self.view_is c.args.element c.requires) in
    c.element_or_none.ensures
    ∙ ap (λ (b : ℕ). element_or_none (after_in ls) (before_in ls) b c.index.result.now.after)
    (ap (λ (t : Order). t.bound) (sym c.self.view_is))
    ∙ ap (λ (l : Link). element_or_none (after_in ls) (before_in ls) o.bound l.after) element_read
    ∙ following_is (after_in ls) (before_in ls) o.bound (elements_in o) o.bound c.args.element
    c.self.invariant.linked c.self.invariant.within
    (member_here o c.self.invariant c.args.self.now c.self.view_is c.args.element c.requires)
    ∙ ap (λ (t : Order). following c.args.element t.elements) c.self.view_is
