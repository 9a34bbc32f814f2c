-- `rebuild_without`: the first half of the swapped table, and the second without its last entry, are the old entries after a swap removal
-- (`rest_is`); that last entry is the one at `index` of the old table (`taken_is`). As `put_all` requires, no two entries that are left
-- have equal keys (`apart_left`), since the table's keys are distinct, by the contract of `len`.
use Rattle.std.proofs.Common.{◌≡◌, ◌<◌, ◌∙◌, ◌-◌, ◌/◌, ℕ, List, Some, ◌++◌, length, take, drop, slice_get, get_or, sym, ap, subst, arith}
use Rattle.std.proofs.lemmas.Option.{same_Some}
use Rattle.std.specs.List.{swap, swap_remove}
use Rattle.ordered_keys.specs.inside.Ordered.{AreApart}
use Rattle.ordered_keys.proofs.Apart.{apart_in_table, apart_left}
use Rattle.ordered_keys.proofs.Halves.{moved, some_second, rest_is, taken_is}
use Rattle.ordered_keys.proofs.ordered_map.rebuild_without.Given.{Over}
use Rattle.ordered_keys.proofs.ordered_map.rebuild_without.Goals as goal
use Rattle.ordered_keys.proofs.ordered_map.rebuild_without.Goals.{After-as_slice}

module _ (g : Over) (c : After-as_slice g) where
  abbrev es : List (g.row.K.Denot × ℕ)
  es = c.args.table.now.entries

  abbrev half : ℕ
  half = c.len-len.result / 2

  abbrev taken : g.row.K.Denot × ℕ
  taken = c.in-Some.taken

  less : half < length es
  less = let l = c.len-len.ensures.len in let w = c.requires.within in omega arith

  table : c.swap_indices.new.self.entries ≡ moved es c.args.index half taken c.requires.within less
  table = c.swap_indices.ensures.entries ∙ ap (λ (n : ℕ). swap es c.args.index (n - 1)) c.len-len.ensures.len

  rows : c.copy_entries.new.rows.items ≡ drop half (moved es c.args.index half taken c.requires.within less)
  rows = c.copy_entries.ensures.items ∙ ap (λ (xs : List (g.row.K.Denot × ℕ)). drop half xs) table

  front : c.truncate.new.self.entries ≡ take half (moved es c.args.index half taken c.requires.within less)
  front = c.truncate.ensures.entries ∙ ap (λ (xs : List (g.row.K.Denot × ℕ)). take half xs) table

  left : c.as_slice.result.now ≡ take (length c.copy_entries.new.rows.items - 1) c.copy_entries.new.rows.items
  left =
      c.as_slice.ensures.value
      ∙ c.pop.ensures.rest
      ∙ ap (λ (n : ℕ). take (n - 1) c.copy_entries.new.rows.items) c.copy_entries.new.rows.ok.0

  rest : c.truncate.new.self.entries ++ c.as_slice.result.now ≡ swap_remove es c.args.index taken
  rest = rest_is es c.args.index half taken c.requires.within less front rows left

  some : 0 < length c.copy_entries.new.rows.items
  some =
      subst (λ (xs : List (g.row.K.Denot × ℕ)). 0 < length xs) (sym rows)
      (some_second es c.args.index half taken c.requires.within less)

  entry : slice_get es c.args.index ≡ Some taken
  entry =
      taken_is es c.args.index half taken c.requires.within less rows
      (same_Some taken (get_or c.copy_entries.new.rows.items (length c.copy_entries.new.rows.items - 1) taken)
      (sym c.in-Some.is
      ∙ c.pop.ensures.value taken (let s = some in let ok = c.copy_entries.new.rows.ok.0 in omega arith)
      ∙ ap (λ (n : ℕ). Some (get_or c.copy_entries.new.rows.items (n - 1) taken)) c.copy_entries.new.rows.ok.0))

pub put_all-requires-clause-apart : goal.put_all-requires-clause-apart
put_all-requires-clause-apart g c =
    let at = (goal.at.put_all-requires-clause-apart g c).After-as_slice in
    subst (AreApart g.K.PartialEq.eq) (sym (rest g at))
    (apart_left g.K.PartialEq.eq g.met.K.Eq.laws c.args.table.now.entries c.args.index
    c.in-Some.taken (entry g at)
    (apart_in_table g.K.PartialEq.eq g.met.K.Eq.laws c.args.table.now.entries c.len-len.ensures.unique))

pub returns-clause-entry : goal.returns-clause-entry
returns-clause-entry g c = entry g (goal.at.returns-clause-entry g c).After-as_slice

pub returns-clause-entries : goal.returns-clause-entries
returns-clause-entries g c = c.put_all.ensures.entries ∙ rest g (goal.at.returns-clause-entries g c).After-as_slice
