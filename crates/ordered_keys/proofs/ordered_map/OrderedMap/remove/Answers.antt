-- `remove`, by cases of the look-up in the table: a key that it does not find is absent in the order, so nothing is removed. If it finds
-- one, the others keep their order (`shown_removed`), and the table, the indices and the order still agree (`indexed_removed`), by the
-- contracts of `take_out`, `element_at` and `ElementOrder::remove`.
use Rattle.std.proofs.Common.{◌≡◌, ℕ, ◌∙◌, List, Some, None, is_some, slice_get, sym, ap, subst, arith}
use Rattle.std.proofs.Math.ListN.{set}
use Rattle.std.specs.Map.{lookup, remove_entry}
use Rattle.std.specs.Option.{option_map_or}
use Rattle.ordered_keys.specs.Orders.{BoundedKeys}
use Rattle.ordered_keys.specs.inside.Ordered.{in_order, IsIndexed}
use Rattle.ordered_keys.proofs.Ordered.{sole_by, absent_in_order, nothing_removed, found_in_order, removed_in_order}
use Rattle.ordered_keys.proofs.Tables.{below_length, found_at, none_found, left, moved, left_indices, member, moved_within, indexed_removed, shown_removed}
use Rattle.ordered_keys.proofs.ordered_map.OrderedMap.remove.Given.{Over}
use Rattle.ordered_keys.proofs.ordered_map.OrderedMap.remove.Goals as goal

module _ (g : Over) (c : goal.After-from_residual g) where
  absent : lookup (g.Q.Equivalent.equivalent c.args.key) c.args.self.now.entries ≡ None
  absent =
      let m = c.self.inside in
      let test = g.Q.Equivalent.equivalent c.args.key in
      let none : lookup test m.table.entries ≡ None =
      none_found (lookup test m.table.entries) (sym c.get_index_of.ensures.found ∙ ap is_some c.in_err-index.was) in
      ap (λ (b : BoundedKeys g.row.K.Denot). lookup test b.entries) (sym c.self.view_is)
      ∙ absent_in_order m.table.entries m.indices.items m.order c.self.invariant.indexed test none

pub returns-in_err-index-clause-element : goal.returns-in_err-index-clause-element
returns-in_err-index-clause-element g c = c.from_residual.ensures ∙ sym (absent g c)

pub returns-in_err-index-clause-left : goal.returns-in_err-index-clause-left
returns-in_err-index-clause-left g c =
    sym (nothing_removed (g.Q.Equivalent.equivalent c.args.key) c.args.self.now.entries (absent g c))

pub index_mut-requires : goal.index_mut-requires
index_mut-requires g c =
    let m = c.self.inside in
    below_length _ _ _ _
    (c.element_at-moved.ensures
    ∙ ap (λ (es : List (g.row.K.Denot × ℕ)).
    option_map_or (λ (e : g.row.K.Denot × ℕ). e.1) (slice_get es c.in_ok-index.index) c.take_out-key.result.1)
    c.take_out-key.ensures.entries)
    (moved_within m.table.entries m.indices.items m.order c.self.invariant.indexed
    c.in_ok-index.index c.take_out-key.result.0 c.take_out-key.result.1
    (c.take_out-key.ensures.entry))
    m.indices.ok.0

pub remove-requires : goal.remove-requires
remove-requires g c =
    let m = c.self.inside in
    let one =
    member m.table.entries m.indices.items m.order c.self.invariant.indexed c.in_ok-index.index
    c.take_out-key.result.0 c.take_out-key.result.1 (c.take_out-key.ensures.entry) in
    omega arith

module _ (g : Over) (c : goal.After-remove g) where
  at : slice_get c.self.inside.table.entries c.in_ok-index.index
      ≡ Some (c.take_out-key.result.0, c.take_out-key.result.1)
  at = c.take_out-key.ensures.entry

  found : lookup (g.Q.Equivalent.equivalent c.args.key) c.self.inside.table.entries ≡ Some c.take_out-key.result.1
  found =
      found_at c.self.inside.table.entries (g.Q.Equivalent.equivalent c.args.key)
      c.in_ok-index.index c.take_out-key.result.0 c.take_out-key.result.1
      at c.in_ok-index.ensures.value

  abbrev table : List (g.row.K.Denot × ℕ)
  table =
      left c.self.inside.table.entries c.self.inside.indices.items c.self.inside.order
      c.self.invariant.indexed c.in_ok-index.index c.take_out-key.result.0
      c.take_out-key.result.1 at

  moved_is : c.element_at-moved.result
      ≡ moved c.self.inside.table.entries c.self.inside.indices.items c.self.inside.order
      c.self.invariant.indexed c.in_ok-index.index c.take_out-key.result.0
      c.take_out-key.result.1 at
  moved_is =
      c.element_at-moved.ensures
      ∙ ap (λ (es : List (g.row.K.Denot × ℕ)).
      option_map_or (λ (e : g.row.K.Denot × ℕ). e.1) (slice_get es c.in_ok-index.index) c.take_out-key.result.1)
      c.take_out-key.ensures.entries

module _ (g : Over) (c : goal.After-remove g) where
  indexed : IsIndexed c.take_out-key.new.table.entries
      (set c.self.inside.indices.items c.element_at-moved.result c.in_ok-index.index)
      c.remove.new.self
  indexed =
      let m = c.self.inside in
      let whole =
      indexed_removed m.table.entries m.indices.items m.order c.self.invariant.indexed
      c.in_ok-index.index c.take_out-key.result.0 c.take_out-key.result.1
      (at g c) c.remove.new.self c.remove.ensures.bound c.remove.ensures.elements in
      let there :
      IsIndexed (table g c) (set m.indices.items c.element_at-moved.result c.in_ok-index.index) c.remove.new.self =
      subst (λ (q : ℕ). IsIndexed (table g c) (set m.indices.items q c.in_ok-index.index) c.remove.new.self)
      (sym (moved_is g c)) whole in
      subst (λ (es : List (g.row.K.Denot × ℕ)).
      IsIndexed es (set m.indices.items c.element_at-moved.result c.in_ok-index.index) c.remove.new.self)
      (sym c.take_out-key.ensures.entries) there

  same_bound : c.remove.new.self.bound ≡ c.len.result
  same_bound =
      let b = c.remove.ensures.bound in let l = c.len.ensures in let h = c.self.invariant.indexed.long in omega arith

pub invariant_of-self : goal.invariant_of-self
invariant_of-self g c = record {
  indexed = indexed g c;
  room = let b = same_bound g c in let r = c.take_out-key.ensures.room in omega arith;
  empty = c.take_out-key.ensures.empty;
  buffer = let b = same_bound g c in let r = c.take_out-key.ensures.buffer in omega arith;
}

pub returns-clause-element : goal.returns-clause-element
returns-clause-element g c =
    let m = c.self.inside in
    let test = g.Q.Equivalent.equivalent c.args.key in
    sym (found_in_order m.table.entries m.indices.items m.order c.self.invariant.indexed test
    g.K.PartialEq.eq
    (sole_by g.K.PartialEq.eq test (g.met.Q.Equivalent.respects_eq c.args.key))
    c.get_index_of.ensures.unique c.take_out-key.result.1
    (found g c))
    ∙ ap (λ (b : BoundedKeys g.row.K.Denot). lookup test b.entries) c.self.view_is

pub returns-clause-left : goal.returns-clause-left
returns-clause-left g c =
    let m = c.self.inside in
    let test = g.Q.Equivalent.equivalent c.args.key in
    ap (λ (es : List (g.row.K.Denot × ℕ)).
    in_order es (set m.indices.items c.element_at-moved.result c.in_ok-index.index) c.remove.new.self.elements)
    c.take_out-key.ensures.entries
    ∙ ap (λ (q : ℕ). in_order (table g c) (set m.indices.items q c.in_ok-index.index) c.remove.new.self.elements)
    (moved_is g c)
    ∙ ap (in_order (table g c)
    (left_indices m.table.entries m.indices.items m.order c.self.invariant.indexed
    c.in_ok-index.index c.take_out-key.result.0 c.take_out-key.result.1
    (at g c)))
    c.remove.ensures.elements
    ∙ shown_removed m.table.entries m.indices.items m.order c.self.invariant.indexed
    c.in_ok-index.index c.take_out-key.result.0 c.take_out-key.result.1
    (at g c)
    ∙ sym (removed_in_order m.table.entries m.indices.items m.order c.self.invariant.indexed test
    g.K.PartialEq.eq
    (sole_by g.K.PartialEq.eq test (g.met.Q.Equivalent.respects_eq c.args.key))
    c.get_index_of.ensures.unique c.take_out-key.result.1
    (found g c))
    ∙ ap (λ (b : BoundedKeys g.row.K.Denot). remove_entry test b.entries) c.self.view_is
