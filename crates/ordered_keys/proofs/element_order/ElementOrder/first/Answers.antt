-- `first` of `ElementOrder`: the bound has a link, and in the ring the first element comes after the bound, or the bound itself if there is
-- none, by the lemma `first_is`.
use Rattle.std.proofs.Common.{◌≡◌, ℕ, ◌<◌, ◌∙◌, ap, sym, vec_len, arith}
use Rattle.std.proofs.lemmas.List.{get_or_read_under}
use Rattle.ordered_keys.specs.Orders.{Order, first_element}
use Rattle.ordered_keys.specs.inside.Links.{lone_link, link_at, elements_in, after_in, before_in}
use Rattle.ordered_keys.specs.declared.element_order.Link.{Link}
use Rattle.ordered_keys.proofs.Rings.{element_or_none, first_is}
use Rattle.ordered_keys.proofs.element_order.ElementOrder.first.Goals as goal

pub returns : goal.returns
returns c =
    let o = c.self.inside in
    let within : o.bound < vec_len o.links = (let long = c.self.invariant.long in omega arith) in
    let read : c.index.result.now ≡ link_at o.links.items o.bound =
    get_or_read_under o.links.items o.bound o.links.len c.index.result.now (lone_link 0)
    c.index.ensures within o.links.ok.0 in
    c.element_or_none.ensures
    ∙ ap (λ (b : ℕ). element_or_none (after_in o.links.items) (before_in o.links.items) b c.index.result.now.after)
    (ap (λ (t : Order). t.bound) (sym c.self.view_is))
    ∙ ap (λ (l : Link). element_or_none (after_in o.links.items) (before_in o.links.items) o.bound l.after) read
    ∙ first_is (after_in o.links.items) (before_in o.links.items) o.bound (elements_in o) o.bound
    c.self.invariant.linked c.self.invariant.within
    ∙ ap (λ (t : Order). first_element t.elements) c.self.view_is
