-- `offsets_hull`: the pointer from the lesser of the low offsets to the greater of the high ones is the hull (`hull_is`), by the contracts
-- of `min`, `max` and `ValuePointer::new`, since the offsets fit their type.
use Rattle.std.proofs.Common.{FitsSigned, w32, rules}
use Rattle.reg_kinds.proofs.PointerLemmas.{hull_is}
use Rattle.reg_kinds.proofs.joins.offsets_hull.Goals as goal

pub returns : goal.returns
returns c =
    let p = c.args.p in
    let q = c.args.q in
    let pl : FitsSigned w32 p.lo = search rules in
    let ql : FitsSigned w32 q.lo = search rules in
    let ph : FitsSigned w32 p.hi = search rules in
    let qh : FitsSigned w32 q.hi = search rules in
    hull_is p q c.new.result c.min.result c.max.result pl ql ph qh
    (record { sfits = c.min.type_inv }) (record { sfits = c.max.type_inv })
    c.min.ensures.value c.max.ensures.value c.new.ensures
