-- `copy_entries`: each turn adds the next entry to the rows (`take_next`), by the contracts of `get_index` and `push_reserved`; after the
-- last turn the rows are all entries from `start` on.
use Rattle.std.proofs.Common.{◌∙◌, ◌+◌, ℕ, List, [], ◌∷◌, ◌++◌, drop, sym, ap, arith}
use Rattle.std.proofs.lemmas.List.{take_all, length-drop}
use Rattle.ordered_keys.proofs.Apart.{take_next}
use Rattle.ordered_keys.proofs.Halves.{dropped}
use Rattle.ordered_keys.proofs.ordered_map.copy_entries.Goals as goal

pub loop-at-preserved : goal.loop-at-preserved
loop-at-preserved g c =
    let h = c.loop-at.invariant in
    let es = c.args.table.now.entries in
    record {
      items =
          c.push_reserved.ensures.items
          ∙ ap (λ (xs : List (g.row.K.Denot × ℕ)). xs ++ (c.in-Some.key.now, c.in-Some.element.now) ∷ []) h.items
          ∙ take_next (drop c.args.start es) c.loop-at.at (c.in-Some.key.now, c.in-Some.element.now)
          (dropped c.args.start es c.loop-at.at ∙ sym c.in-Some.ensures.entry);
      length = let a = h.length in let b = c.push_reserved.ensures.len in omega arith;
      capacity = c.push_reserved.ensures.capacity ∙ h.capacity;
      buffer = let a = h.buffer in let b = c.push_reserved.ensures.capacity in omega arith;
    }

pub returns-clause-items : goal.returns-clause-items
returns-clause-items g c =
    c.loop-at.invariant.items
    ∙ take_all c.loop-at.at (drop c.args.start c.args.table.now.entries)
    (let d = length-drop c.args.start c.args.table.now.entries in omega arith)
