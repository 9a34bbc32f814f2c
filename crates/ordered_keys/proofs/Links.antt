-- The ring after an element is put last, and after one is taken out.
use Rattle.std.proofs.Common.{◌≡◌, ◌≢◌, ℕ, zero, suc, ◌+◌, ◌-◌, ◌^◌, ◌<◌, ◌≤◌, ◌⊎◌, inl, inr, Bool, true, false, List, [], ◌∷◌, ◌++◌}
use Rattle.std.proofs.Common.{length, vec_len, refl, sym, ap, subst, ◌∙◌, nat_eq, if◌then◌else◌, arith, eqb-true, eq-eqb, length-append}
use Rattle.std.proofs.Math.ListN.{set, get_or, length-set}
use Rattle.std.proofs.lemmas.List.{get_or-set_same, get_or-set_other, get_or_read_under}
use Rattle.std.specs.Vec.{with_item}
use Rattle.ordered_keys.specs.Orders.{Order, occurrences, taken_out}
use Rattle.ordered_keys.specs.declared.element_order.Link.{Link}
use Rattle.ordered_keys.specs.declared.element_order.ElementOrder.TheInside.{Inside}
use Rattle.ordered_keys.specs.inside.Links.{lone_link, link_at, after_in, before_in, chain, elements_in, order_of, IsPath, AreWithin, IsRing}
use Rattle.ordered_keys.proofs.Rings.{IsPushed, IsUnlinked, within_at, bound_outside, times-append, taken_length, taken_times, taken_within}
use Rattle.ordered_keys.proofs.Rings.{within-append, chain_of_path, path_pushed, path_unlinked, before_member, after_member, before_end, unequal}

-- two numbers are equal or different
pub decided : (a b : ℕ) → (a ≡ b) ⊎ (a ≢ b)
decided a b = by (nat_eq a b) refl
  where
    by : (c : Bool) → nat_eq a b ≡ c → (a ≡ b) ⊎ (a ≢ b)
    by true e = inl (eqb-true a b e)
    by false e = inr (λ q. let t : true ≡ false = sym (eq-eqb a b q) ∙ e in cc)

-- a chain of n elements has length n
pub length-chain : (after : ℕ → ℕ) (n a : ℕ) → length (chain after n a) ≡ n
length-chain after zero a = refl
length-chain after (suc n) a = ap suc (length-chain after n (after a))

-- ---- one link is written

written : (ls : List Link) (i : ℕ) (x : Link) → i < length ls → link_at (set ls i x) i ≡ x
written ls i x l = get_or-set_same ls i x (lone_link 0) l

unwritten : (ls : List Link) (i q : ℕ) (x : Link) → q ≢ i → link_at (set ls i x) q ≡ link_at ls q
unwritten ls i q x d = get_or-set_other ls i q x (lone_link 0) d

-- ---- an element is put last, before the bound

module _ (ls : List Link) (bound element u : ℕ) (x y : Link) where
  abbrev l1 : List Link
  l1 = set ls u (record { before = x.before; after = element })

  abbrev l2 : List Link
  l2 = set l1 element (record { before = u; after = bound })

  abbrev pub pushed : List Link
  pushed = set l2 bound (record { before = element; after = y.after })

  -- writes of three links put the element last: after the one that was last, and before the bound
  pub is_pushed : length ls ≡ bound + 1
      → element < bound → u ≢ element
      → u ≤ bound → u ≡ before_in ls bound
      → x ≡ link_at ls u → y ≡ link_at l2 bound
      → IsPushed (after_in ls) (before_in ls) (after_in pushed) (before_in pushed) element bound
  is_pushed long p_b u_p u_b u_is x_is y_is =
      let long1 : length l1 ≡ bound + 1 = length-set ls u (record { before = x.before; after = element }) ∙ long in
      let long2 : length l2 ≡ bound + 1 = length-set l1 element (record { before = u; after = bound }) ∙ long1 in
      let bp : bound ≢ element = (λ e. absurd (omega arith)) in
      let pb : element ≢ bound = (λ e. absurd (omega arith)) in
      let at3 : link_at pushed bound ≡ record { before = element; after = y.after } =
      written l2 bound _ (omega arith) in
      let at2 : link_at l2 element ≡ record { before = u; after = bound } = written l1 element _ (omega arith) in
      let at1 : link_at l1 u ≡ record { before = x.before; after = element } = written ls u _ (omega arith) in
      let after : Link → ℕ = λ l. l.after in
      let before : Link → ℕ = λ l. l.before in
      let end_after : after_in pushed bound ≡ after_in l1 bound =
      ap after at3 ∙ ap after y_is ∙ ap after (unwritten l1 element bound _ bp) in
      record {
        last = subst (λ v. after_in pushed v ≡ element) u_is (elim (decided u bound) [
          | inl e ↦ ap (after_in pushed) e ∙ end_after ∙ ap (after_in l1) (sym e) ∙ ap after at1
          | inr d ↦ ap after (unwritten l2 bound u _ d) ∙ ap after (unwritten l1 element u _ u_p) ∙ ap after at1
        ]);
        after = ap after (unwritten l2 bound element _ pb) ∙ ap after at2;
        afters = λ q q_u q_p.
            let d : q ≢ u = (λ e. q_u (e ∙ u_is)) in
            elim (decided q bound) [
              | inl e ↦ ap (after_in pushed) e ∙ end_after ∙ ap (after_in l1) (sym e) ∙ ap after (unwritten ls u q _ d)
              | inr n ↦ ap after (unwritten l2 bound q _ n)
                  ∙ ap after (unwritten l1 element q _ q_p)
                  ∙ ap after (unwritten ls u q _ d)
            ];
        before = ap before (unwritten l2 bound element _ pb) ∙ ap before at2 ∙ u_is;
        end = ap before at3;
        befores = λ q q_p q_b.
            ap before (unwritten l2 bound q _ q_b) ∙ ap before (unwritten l1 element q _ q_p)
            ∙ elim (decided q u) [
              | inl e ↦ ap (before_in l1) e ∙ ap before at1 ∙ ap before x_is ∙ ap (before_in ls) (sym e)
              | inr d ↦ ap before (unwritten ls u q _ d)
            ];
      }

-- ---- an element is taken out

module _ (ls : List Link) (u v : ℕ) (x y : Link) where
  abbrev m1 : List Link
  m1 = set ls u (record { before = x.before; after = v })

  abbrev pub unlinked : List Link
  unlinked = set m1 v (record { before = u; after = y.after })

  -- writes of two links take the element out: its two neighbours are linked to each other
  pub is_unlinked : (p : ℕ)
      → u < length ls → v < length ls
      → u ≡ before_in ls p → v ≡ after_in ls p
      → x ≡ link_at ls u → y ≡ link_at m1 v
      → IsUnlinked (after_in ls) (before_in ls) (after_in unlinked) (before_in unlinked) p
  is_unlinked p ul vl u_is v_is x_is y_is =
      let long1 : length m1 ≡ length ls = length-set ls u (record { before = x.before; after = v }) in
      let at2 : link_at unlinked v ≡ record { before = u; after = y.after } = written m1 v _ (omega arith) in
      let at1 : link_at m1 u ≡ record { before = x.before; after = v } = written ls u _ ul in
      let after : Link → ℕ = λ l. l.after in
      let before : Link → ℕ = λ l. l.before in
      record {
        after = ap (after_in unlinked) (sym u_is) ∙ elim (decided u v) [
          | inl e ↦ ap (after_in unlinked) e ∙ ap after at2 ∙ ap after y_is ∙ ap (after_in m1) (sym e) ∙ ap after at1
          | inr d ↦ ap after (unwritten m1 v u _ d) ∙ ap after at1
        ] ∙ v_is;
        afters = λ q q_u.
            let d : q ≢ u = (λ e. q_u (e ∙ u_is)) in
            elim (decided q v) [
              | inl e ↦ ap (after_in unlinked) e
                  ∙ ap after at2
                  ∙ ap after y_is
                  ∙ ap (after_in m1) (sym e)
                  ∙ ap after (unwritten ls u q _ d)
              | inr n ↦ ap after (unwritten m1 v q _ n) ∙ ap after (unwritten ls u q _ d)
            ];
        before = ap (before_in unlinked) (sym v_is) ∙ ap before at2 ∙ u_is;
        befores = λ q q_v.
            let n : q ≢ v = (λ e. q_v (e ∙ v_is)) in
            ap before (unwritten m1 v q _ n)
            ∙ elim (decided q u) [
              | inl e ↦ ap (before_in m1) e ∙ ap before at1 ∙ ap before x_is ∙ ap (before_in ls) (sym e)
              | inr d ↦ ap before (unwritten ls u q _ d)
            ];
      }

-- ---- the links are still a ring

-- no number occurs more than once in a list of one
pub single : (q p : ℕ) → occurrences q (p ∷ []) ≤ 1
single q p = by (nat_eq q p)
  where
    by : (c : Bool) → (if c then 1 else 0) + 0 ≤ 1
    by true = omega arith
    by false = omega arith

-- a number does not occur in the list of one that differs from it
pub none : (q p : ℕ) → q ≢ p → occurrences q (p ∷ []) ≡ 0
none q p d = ap (λ (c : Bool). (if c then 1 else 0) + 0) (unequal q p d)

module _ {o : Inside} (h : IsRing o) where
  abbrev f : ℕ → ℕ
  f = after_in o.links.items

  abbrev g : ℕ → ℕ
  g = before_in o.links.items

  outside : occurrences o.bound (elements_in o) ≡ 0
  outside = bound_outside o.bound (elements_in o) h.within

  -- the number before the bound in the ring is at most the bound
  pub before_bound : g o.bound ≤ o.bound
  before_bound = elim (before_end f g o.bound (elements_in o) o.bound h.linked) [
    | inl e ↦ omega arith
    | inr m ↦ let l = within_at o.bound (g o.bound) (elements_in o) h.within m in omega arith
  ]

  -- an element that is not in the order is not before the bound in the ring
  pub before_apart : (p : ℕ) → p < o.bound → occurrences p (elements_in o) ≡ 0 → g o.bound ≢ p
  before_apart p l n e = elim (before_end f g o.bound (elements_in o) o.bound h.linked) [
    | inl q ↦ absurd (omega arith)
    | inr m ↦ let s : occurrences (g o.bound) (elements_in o) ≡ occurrences p (elements_in o) =
        ap (λ q. occurrences q (elements_in o)) e in absurd (omega arith)
  ]

  -- the number before an element of the order is at most the bound
  pub before_within : (p : ℕ) → 0 < occurrences p (elements_in o) → g p ≤ o.bound
  before_within p m = elim (before_member f g o.bound (elements_in o) o.bound p h.linked m) [
    | inl e ↦ omega arith
    | inr n ↦ let l = within_at o.bound (g p) (elements_in o) h.within n in omega arith
  ]

  -- the number after an element of the order is at most the bound
  pub after_within : (p : ℕ) → 0 < occurrences p (elements_in o) → f p ≤ o.bound
  after_within p m = elim (after_member f g o.bound (elements_in o) o.bound p h.linked m) [
    | inl e ↦ omega arith
    | inr n ↦ let l = within_at o.bound (f p) (elements_in o) h.within n in omega arith
  ]

  module _ (b : Inside) (p : ℕ) (same : b.bound ≡ o.bound) (long : vec_len b.links ≡ vec_len o.links) where
    abbrev f' : ℕ → ℕ
    f' = after_in b.links.items

    abbrev g' : ℕ → ℕ
    g' = before_in b.links.items

    module _ (more : b.count ≡ o.count + 1) (l : p < o.bound)
        (n : occurrences p (elements_in o) ≡ 0) (k : IsPushed f g f' g' p o.bound) where
      path : IsPath f' g' o.bound (elements_in o ++ p ∷ []) o.bound
      path =
          path_pushed f g f' g' o.bound (elements_in o) o.bound p k h.linked
          (λ e. absurd (omega arith)) n outside outside h.once

      -- if an element is linked as the last, the order has it at its end
      pub elements_pushed : elements_in b ≡ elements_in o ++ p ∷ []
      elements_pushed =
          let len : length (elements_in o ++ p ∷ []) ≡ b.count =
          length-append (elements_in o) (p ∷ []) ∙ ap (λ i. i + 1) (length-chain f o.count o.bound) ∙ sym more in
          ap (chain f' b.count) same
          ∙ ap (λ i. chain f' i o.bound) (sym len)
          ∙ chain_of_path f' g' o.bound (elements_in o ++ p ∷ []) o.bound path

      -- if an element is linked as the last, the links are still a ring
      pub ring_pushed : IsRing b
      ring_pushed =
          let xs = elements_in o ++ p ∷ [] in
          record {
            long = let e = h.long in omega arith;
            linked =
                subst (λ i. IsPath f' g' i (elements_in b) i) (sym same)
                (subst (λ ys. IsPath f' g' o.bound ys o.bound) (sym elements_pushed) path);
            within =
                subst (λ i. AreWithin i (elements_in b)) (sym same)
                (subst (AreWithin o.bound) (sym elements_pushed) (within-append o.bound p (elements_in o) h.within l));
            once = λ q. subst (λ ys. occurrences q ys ≤ 1) (sym elements_pushed) (one q);
          }
        where
          one : (q : ℕ) → occurrences q (elements_in o ++ p ∷ []) ≤ 1
          one q = let t = times-append q (elements_in o) (p ∷ []) in let o1 = h.once q in elim (decided q p) [
            | inl e ↦ let s : occurrences q (elements_in o) ≡ occurrences p (elements_in o) =
                ap (λ z. occurrences z (elements_in o)) e in let u = single q p in omega arith
            | inr d ↦ let z = none q p d in omega arith
          ]

    module _ (less : b.count + 1 ≡ o.count) (m : 0 < occurrences p (elements_in o)) (k : IsUnlinked f g f' g' p) where
      path_out : IsPath f' g' o.bound (taken_out p (elements_in o)) o.bound
      path_out = path_unlinked f g f' g' o.bound (elements_in o) o.bound p k h.linked m outside outside h.once

      -- if an element is unlinked, the order is the one without it
      pub elements_left : elements_in b ≡ taken_out p (elements_in o)
      elements_left =
          let len : length (taken_out p (elements_in o)) ≡ b.count =
          (let t = taken_length p (elements_in o) m in let c = length-chain f o.count o.bound in omega arith) in
          ap (chain f' b.count) same
          ∙ ap (λ i. chain f' i o.bound) (sym len)
          ∙ chain_of_path f' g' o.bound (taken_out p (elements_in o)) o.bound path_out

      -- if an element is unlinked, the links are still a ring
      pub ring_left : IsRing b
      ring_left = record {
        long = let e = h.long in omega arith;
        linked =
            subst (λ i. IsPath f' g' i (elements_in b) i) (sym same)
            (subst (λ ys. IsPath f' g' o.bound ys o.bound) (sym elements_left) path_out);
        within =
            subst (λ i. AreWithin i (elements_in b)) (sym same)
            (subst (AreWithin o.bound) (sym elements_left) (taken_within o.bound p (elements_in o) h.within));
        once = λ q.
            subst (λ ys. occurrences q ys ≤ 1) (sym elements_left)
            (let t = taken_times p q (elements_in o) m in let o1 = h.once q in omega arith);
      }

-- ---- the code's steps

-- the link that is read at an index
pub read : (o : Inside) (p : ℕ) (x : Link)
    → x ≡ get_or o.links.items p x → p < vec_len o.links
    → x ≡ link_at o.links.items p
read o p x e l = get_or_read_under o.links.items p o.links.len x (lone_link 0) e l o.links.ok.0

-- an element is put last
module _ (o : Inside) (h : IsRing o) (t : Order) (view : order_of o ≡ t) (p : ℕ)
    (within : p < t.bound) (new : occurrences p t.elements ≡ 0) (few : length t.elements < t.bound)
    (last : Link)
    (last_is : last ≡ get_or o.links.items o.bound last) where
  bounds : o.bound ≡ t.bound
  bounds = ap (λ (t : Order). t.bound) view

  last_at : last ≡ link_at o.links.items o.bound
  last_at = read o o.bound last last_is (let e = h.long in omega arith)

  before_at : last.before ≡ before_in o.links.items o.bound
  before_at = ap (λ (l : Link). l.before) last_at

  last_below : last.before ≤ o.bound
  last_below = let l = before_bound h in let e = before_at in omega arith

  -- the element that is last in the order, or the bound if the order is empty, has a link
  pub last_within : last.before < vec_len o.links
  last_within = let l = last_below in let e = h.long in omega arith

  -- if the bound fits in 32 bits, the number of elements with one more does
  pub count_fits : o.bound < 2 ^ 32 → o.count + 1 < 2 ^ 32
  count_fits fits =
      let n = length-chain (after_in o.links.items) o.count o.bound in
      let m = ap (λ (t : Order). length t.elements) view in
      let b = bounds in
      omega arith

  new_here : occurrences p (elements_in o) ≡ 0
  new_here = ap (λ (t : Order). occurrences p t.elements) view ∙ new

  below : p < o.bound
  below = let b = bounds in omega arith

  apart : last.before ≢ p
  apart e = before_apart h p below new_here (sym before_at ∙ e)

  module _ (x y : Link)
      (x_is : x ≡ get_or o.links.items last.before x)
      (y_is : y ≡ get_or (l2 o.links.items o.bound p last.before x y) o.bound y) where
    abbrev pub after_push : Inside
    after_push = record {
      links =
          with_item (with_item (with_item o.links last.before (record { before = x.before; after = p }))
          p (record { before = last.before; after = o.bound }))
          o.bound (record { before = p; after = y.after });
      bound = o.bound;
      count = o.count + 1;
    }

    known : IsPushed (after_in o.links.items) (before_in o.links.items)
        (after_in after_push.links.items) (before_in after_push.links.items)
        p o.bound
    known =
        let long : length o.links.items ≡ o.bound + 1 = sym o.links.ok.0 ∙ h.long in
        let long1 = length-set o.links.items last.before (record { before = x.before; after = p }) in
        let long2 =
        length-set (l1 o.links.items o.bound p last.before x y) p (record { before = last.before; after = o.bound }) in
        is_pushed o.links.items o.bound p last.before x y long below apart last_below before_at
        (read o last.before x x_is last_within)
        (get_or_read_under (l2 o.links.items o.bound p last.before x y) o.bound (o.bound + 1) y
        (lone_link 0) y_is (omega arith) (omega arith))

    -- after the element is put last, the links are a ring
    pub push_ring : IsRing after_push
    push_ring = ring_pushed h after_push p refl refl refl below new_here known

    -- after the element is put last, the order has it at its end
    pub push_elements : elements_in after_push ≡ t.elements ++ p ∷ []
    push_elements =
        elements_pushed h after_push p refl refl refl below new_here known
        ∙ ap (λ (t : Order). t.elements ++ p ∷ []) view

-- an element is taken out
module _ (o : Inside) (h : IsRing o) (t : Order) (view : order_of o ≡ t) (p : ℕ)
    (member : 0 < occurrences p t.elements) where
  -- the element is one of those in the ring
  pub member_here : 0 < occurrences p (elements_in o)
  member_here = subst (λ (t : Order). 0 < occurrences p t.elements) (sym view) member

  -- the element has a link
  pub member_within : p < vec_len o.links
  member_within = let l = within_at o.bound p (elements_in o) h.within member_here in let e = h.long in omega arith

  module _ (link : Link) (link_is : link ≡ get_or o.links.items p link) where
    link_here : link ≡ link_at o.links.items p
    link_here = read o p link link_is member_within

    -- the neighbour before the element has a link
    pub before_inside : link.before < vec_len o.links
    before_inside =
        let l = before_within h p member_here in
        let e = ap (λ (l : Link). l.before) link_here in
        let long = h.long in
        omega arith

    -- the neighbour after the element has a link
    pub after_inside : link.after < vec_len o.links
    after_inside =
        let l = after_within h p member_here in
        let e = ap (λ (l : Link). l.after) link_here in
        let long = h.long in
        omega arith

    module _ (x y : Link)
        (x_is : x ≡ get_or o.links.items link.before x)
        (y_is : y ≡ get_or (m1 o.links.items link.before link.after x y) link.after y) where
      abbrev pub after_remove : Inside
      after_remove = record {
        links =
            with_item (with_item o.links link.before (record { before = x.before; after = link.after }))
            link.after (record { before = link.before; after = y.after });
        bound = o.bound;
        count = o.count - 1;
      }

      less : o.count - 1 + 1 ≡ o.count
      less =
          let t = taken_length p (elements_in o) member_here in
          let c = length-chain (after_in o.links.items) o.count o.bound in
          omega arith

      known_out : IsUnlinked (after_in o.links.items) (before_in o.links.items)
          (after_in after_remove.links.items) (before_in after_remove.links.items)
          p
      known_out =
          let ok : o.links.len ≡ length o.links.items = o.links.ok.0 in
          let long1 = length-set o.links.items link.before (record { before = x.before; after = link.after }) in
          let b = before_inside in
          let a = after_inside in
          is_unlinked o.links.items link.before link.after x y p (omega arith) (omega arith)
          (ap (λ (l : Link). l.before) link_here) (ap (λ (l : Link). l.after) link_here)
          (read o link.before x x_is before_inside)
          (get_or_read_under (m1 o.links.items link.before link.after x y) link.after o.links.len y
          (lone_link 0) y_is after_inside (omega arith))

      -- after the element is taken out, the links are a ring
      pub remove_ring : IsRing after_remove
      remove_ring = ring_left h after_remove p refl refl less member_here known_out

      -- after the element is taken out, the order is the one without it
      pub remove_elements : elements_in after_remove ≡ taken_out p t.elements
      remove_elements =
          elements_left h after_remove p refl refl less member_here known_out
          ∙ ap (λ (t : Order). taken_out p t.elements) view

-- all elements are taken out: the bound is linked to itself
module _ (o : Inside) (h : IsRing o) where
  abbrev pub after_clear : Inside
  after_clear = record { links = with_item o.links o.bound (lone_link o.bound); bound = o.bound; count = 0 }

  alone : link_at after_clear.links.items o.bound ≡ lone_link o.bound
  alone = written o.links.items o.bound (lone_link o.bound) (let long = h.long in let ok = o.links.ok.0 in omega arith)

  -- after all elements are taken out, the links are a ring
  pub clear_ring : IsRing after_clear
  clear_ring = record {
    long = h.long;
    linked = (ap (λ (l : Link). l.after) alone, ap (λ (l : Link). l.before) alone);
    within = tt;
    once = λ p. omega arith;
  }
