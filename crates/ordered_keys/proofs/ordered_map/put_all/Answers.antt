-- `put_all`: the key of each row is absent in the table before the row is put, since no two entries of the table and the rows have equal
-- keys (`absent_before`). Each turn puts one row last, by the contract of `put_last`, so after the loop all rows follow the old entries.
use Rattle.std.proofs.Common.{◌≡◌, ◌+◌, ◌∙◌, ℕ, List, [], ◌∷◌, ◌++◌, length, take, Option, Some, slice_index_or, sym, ap, arith, append_assoc}
use Rattle.std.specs.Map.{lookup}
use Rattle.std.proofs.Math.Seq.{take-append-add}
use Rattle.std.proofs.lemmas.List.{take_all}
use Rattle.std.proofs.lemmas.Option.{same_Some, slice_get-get_or}
use Rattle.ordered_keys.proofs.Apart.{absent_before, take_next}
use Rattle.ordered_keys.proofs.Halves.{appended}
use Rattle.ordered_keys.proofs.ordered_map.put_all.Goals as goal

pub put_last-requires-clause-absent : goal.put_last-requires-clause-absent
put_last-requires-clause-absent g c =
    let h = c.loop-index.invariant in
    let rows = c.args.rows.now in
    let before = c.args.table.now.entries in
    let d = c.index-rows-index.result in
    let e = slice_index_or rows c.loop-index.index d in
    ap (lookup (g.K.PartialEq.eq e.0)) (h.entries ∙ sym (take-append-add before rows c.loop-index.index))
    ∙ absent_before g.K.PartialEq.eq (before ++ rows) h.apart (length before + c.loop-index.index) e
    (appended before rows c.loop-index.index ∙ slice_get-get_or rows c.loop-index.index d c.loop-index-test.true)

pub loop-index-preserved : goal.loop-index-preserved
loop-index-preserved g c =
    let h = c.loop-index.invariant in
    let rows = c.args.rows.now in
    let before = c.args.table.now.entries in
    let i = c.loop-index.index in
    let x = slice_index_or rows i c.index-rows-index.result in
    let y = slice_index_or rows i c.index-rows-index-in-loop-index.result in
    let x_at = slice_get-get_or rows i c.index-rows-index.result c.loop-index-test.true in
    let y_at = slice_get-get_or rows i c.index-rows-index-in-loop-index.result c.loop-index-test.true in
    let same : y ≡ x = same_Some y x (sym y_at ∙ x_at) in
    let at =
    x_at
    ∙ ap (λ (p : ℕ). let o : Option (g.row.K.Denot × ℕ) = Some (x.0, p) in o)
    (sym (ap (λ (e : g.row.K.Denot × ℕ). e.1) same)) in
    record {
      entries =
          c.put_last.ensures.entries
          ∙ ap (λ (es : List (g.row.K.Denot × ℕ)). es ++ (x.0, y.1) ∷ []) h.entries
          ∙ append_assoc before (take i rows) ((x.0, y.1) ∷ [])
          ∙ ap (λ (es : List (g.row.K.Denot × ℕ)). before ++ es) (take_next rows i (x.0, y.1) at);
      room = let a = h.room in let b = c.put_last.ensures.room in omega arith;
      enough = h.enough;
      apart = h.apart;
    }

pub returns-clause-entries : goal.returns-clause-entries
returns-clause-entries g c =
    c.loop-index.invariant.entries
    ∙ ap (λ (es : List (g.row.K.Denot × ℕ)). c.args.table.now.entries ++ es)
    (take_all c.loop-index.index c.args.rows.now (omega arith))
