-- An order of elements as a ring of links. This project's own.
use Rattle.std.specs.Prelude.{◌≡◌, ℕ, zero, suc, ◌+◌, ◌<◌, ◌≤◌, List, [], ◌∷◌, vec_len, slice_index_or}
use Rattle.ordered_keys.specs.Orders.{Order, occurrences}
use Rattle.ordered_keys.specs.declared.element_order.Link.{Link}
use Rattle.ordered_keys.specs.declared.element_order.ElementOrder.TheInside.{Inside}

-- a link whose two neighbours are this element
abbrev pub lone_link : ℕ → Link
lone_link element = record { before = element; after = element }

-- the link of p, an element or the bound; if the links have none for p, one whose neighbours are 0
abbrev pub link_at : List Link → ℕ → Link
link_at links p = slice_index_or links p (lone_link 0)

-- the element after p in the ring
abbrev pub after_in : List Link → ℕ → ℕ
after_in links p = (link_at links p).after

-- the element before p in the ring
abbrev pub before_in : List Link → ℕ → ℕ
before_in links p = (link_at links p).before

-- the n elements that follow p, each found by `after` from the one before it
abbrev pub chain : (ℕ → ℕ) → ℕ → ℕ → List ℕ
chain after zero p = []
chain after (suc n) p = after p ∷ chain after n (after p)

-- from a through the elements of xs to b, each is linked to the next, and the next to it
abbrev pub IsPath : (ℕ → ℕ) → (ℕ → ℕ) → ℕ → List ℕ → ℕ → Type 0
IsPath after before a [] b = (after a ≡ b) × (before b ≡ a)
IsPath after before a (x ∷ xs) b = (after a ≡ x) × (before x ≡ a) × IsPath after before x xs b

-- the elements of an order, from the first: the `count` elements that follow `bound`, the number
-- in the ring that is no element
abbrev pub elements_in : Inside → List ℕ
elements_in o = chain (after_in o.links.items) o.count o.bound

-- an order as contracts see it
abbrev pub order_of : Inside → Order
order_of o = record { bound = o.bound; elements = elements_in o }

-- each element is less than the bound
abbrev pub AreWithin : ℕ → List ℕ → Type 0
AreWithin bound [] = Unit {0}
AreWithin bound (x ∷ xs) = (x < bound) × AreWithin bound xs

-- each element and the bound have a link; from the bound through the elements and back to it, each
-- is linked to the next; the elements are less than the bound, and each is in the order once
pub record IsRing (o : Inside) : Type 0 where
  pub long : vec_len o.links ≡ o.bound + 1
  pub linked : IsPath (after_in o.links.items) (before_in o.links.items) o.bound
      (elements_in o) o.bound
  pub within : AreWithin o.bound (elements_in o)
  pub once : (p : ℕ) → occurrences p (elements_in o) ≤ 1
