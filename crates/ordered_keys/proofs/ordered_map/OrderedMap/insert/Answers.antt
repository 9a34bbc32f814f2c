-- `insert`: the new entry follows the old ones in order (`shown_inserted`), and the table, the indices and the order still agree
-- (`indexed_inserted`), by the contracts of `put_last` and `push`. These may be called: a key that is absent in the order is absent in the
-- table, and the order has as many elements as entries, fewer than the bound, and the new one is not among them.
use Rattle.std.proofs.Common.{◌≡◌, ℕ, ◌<◌, ◌∙◌, List, [], ◌∷◌, ◌++◌, length, length-append, sym, ap, subst, arith}
use Rattle.std.proofs.Math.ListN.{set}
use Rattle.std.specs.Map.{lookup, values_of}
use Rattle.ordered_keys.specs.Orders.{BoundedKeys, occurrences}
use Rattle.ordered_keys.specs.inside.Ordered.{in_order, IsIndexed}
use Rattle.ordered_keys.proofs.Ordered.{absent_in_table, values_shown, length_shown}
use Rattle.ordered_keys.proofs.Tables.{indexed_inserted, shown_inserted}
use Rattle.ordered_keys.proofs.ordered_map.OrderedMap.insert.Given.{Over}
use Rattle.ordered_keys.proofs.ordered_map.OrderedMap.insert.Goals as goal

pub overflow_cast-index : goal.overflow_cast-index
overflow_cast-index g c =
    let h = c.self.invariant.indexed in
    let m = h.many in
    let f = h.few in
    let s = h.small in
    let l = c.len-index.ensures.len in
    record { fits = omega arith }

pub put_last-requires-clause-absent : goal.put_last-requires-clause-absent
put_last-requires-clause-absent g c =
    let m = c.self.inside in
    absent_in_table m.table.entries m.indices.items m.order c.self.invariant.indexed (g.K.PartialEq.eq c.args.key)
    (ap (λ (b : BoundedKeys g.row.K.Denot). lookup (g.K.PartialEq.eq c.args.key) b.entries) c.self.view_is
    ∙ c.requires.absent)

-- there is room for one more
pub put_last-requires-clause-room : goal.put_last-requires-clause-room
put_last-requires-clause-room g c =
    let m = c.self.inside in
    let l = length_shown m.table.entries m.indices.items m.order.elements c.self.invariant.indexed.placed in
    let e = ap (λ (b : BoundedKeys g.row.K.Denot). length b.entries) c.self.view_is in
    let b = ap (λ (b : BoundedKeys g.row.K.Denot). b.bound) c.self.view_is in
    let few = c.requires.few in
    let many = c.self.invariant.indexed.many in
    let room = c.self.invariant.room in
    omega arith

pub push-requires-clause-new : goal.push-requires-clause-new
push-requires-clause-new g c =
    let m = c.self.inside in
    ap (occurrences c.args.element)
    (sym (values_shown m.table.entries m.indices.items m.order.elements c.self.invariant.indexed.placed))
    ∙ ap (λ (b : BoundedKeys g.row.K.Denot). occurrences c.args.element (values_of b.entries)) c.self.view_is
    ∙ c.requires.free

pub push-requires-clause-few : goal.push-requires-clause-few
push-requires-clause-few g c =
    let m = c.self.inside in
    let l = length_shown m.table.entries m.indices.items m.order.elements c.self.invariant.indexed.placed in
    let e = ap (λ (b : BoundedKeys g.row.K.Denot). length b.entries) c.self.view_is in
    let b = ap (λ (b : BoundedKeys g.row.K.Denot). b.bound) c.self.view_is in
    let few = c.requires.few in
    omega arith

module _ (g : Over) (c : goal.After-push g) where
  new : occurrences c.args.element c.self.inside.order.elements ≡ 0
  new =
      let m = c.self.inside in
      ap (occurrences c.args.element)
      (sym (values_shown m.table.entries m.indices.items m.order.elements c.self.invariant.indexed.placed))
      ∙ ap (λ (b : BoundedKeys g.row.K.Denot). occurrences c.args.element (values_of b.entries)) c.self.view_is
      ∙ c.requires.free

  room : length c.self.inside.order.elements < c.self.inside.order.bound
  room =
      let m = c.self.inside in
      let l = length_shown m.table.entries m.indices.items m.order.elements c.self.invariant.indexed.placed in
      let e = ap (λ (b : BoundedKeys g.row.K.Denot). length b.entries) c.self.view_is in
      let b = ap (λ (b : BoundedKeys g.row.K.Denot). b.bound) c.self.view_is in
      let few = c.requires.few in
      omega arith

  below : c.args.element < c.self.inside.order.bound
  below =
      let b = ap (λ (b : BoundedKeys g.row.K.Denot). b.bound) c.self.view_is in let w = c.requires.within in omega arith

  added : c.put_last.new.table.entries ≡ c.self.inside.table.entries ++ (c.args.key, c.args.element) ∷ []
  added = c.put_last.ensures.entries

  abbrev table : List (g.row.K.Denot × ℕ)
  table = c.self.inside.table.entries ++ (c.args.key, c.args.element) ∷ []

module _ (g : Over) (c : goal.After-push g) where
  indexed : IsIndexed c.put_last.new.table.entries
      (set c.self.inside.indices.items c.args.element c.len-index.result)
      c.push.new.self
  indexed =
      let m = c.self.inside in
      let whole =
      indexed_inserted m.table.entries m.indices.items m.order c.self.invariant.indexed c.args.key
      c.args.element (below g c) (new g c) (room g c) c.push.new.self
      c.push.ensures.bound c.push.ensures.elements in
      let at_end : IsIndexed (table g c) (set m.indices.items c.args.element c.len-index.result) c.push.new.self =
      subst (λ (i : ℕ). IsIndexed (table g c) (set m.indices.items c.args.element i) c.push.new.self)
      (sym c.len-index.ensures.len) whole in
      subst (λ (es : List (g.row.K.Denot × ℕ)).
      IsIndexed es (set m.indices.items c.args.element c.len-index.result) c.push.new.self)
      (sym (added g c)) at_end

pub invariant_of-self : goal.invariant_of-self
invariant_of-self g c = record {
  indexed = indexed g c;
  room =
      let b = c.push.ensures.bound in
      let h = c.self.invariant.room in
      let r = c.put_last.ensures.room in
      let a = ap length c.put_last.ensures.entries in
      let n = length-append c.self.inside.table.entries ((c.args.key, c.args.element) ∷ []) in
      omega arith;
  empty = c.self.invariant.empty;
  buffer = let b = c.push.ensures.bound in let h = c.self.invariant.buffer in omega arith;
}

pub returns-clause-added : goal.returns-clause-added
returns-clause-added g c =
    let m = c.self.inside in
    ap (λ (es : List (g.row.K.Denot × ℕ)).
    in_order es (set m.indices.items c.args.element c.len-index.result) c.push.new.self.elements)
    (added g c)
    ∙ ap (λ (i : ℕ). in_order (table g c) (set m.indices.items c.args.element i) c.push.new.self.elements)
    c.len-index.ensures.len
    ∙ ap (in_order (table g c) (set m.indices.items c.args.element (length m.table.entries))) c.push.ensures.elements
    ∙ shown_inserted m.table.entries m.indices.items m.order c.self.invariant.indexed c.args.key
    c.args.element (below g c) (new g c) (room g c)
    ∙ ap (λ (b : BoundedKeys g.row.K.Denot). b.entries ++ (c.args.key, c.args.element) ∷ []) c.self.view_is
