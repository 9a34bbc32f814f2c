-- Pointers into values of a map. This project's own.
use Rattle.std.specs.Prelude.{ℕ, ℤ}
use Rattle.std.specs.Int.{int_min, int_max}
use Rattle.reg_kinds.specs.declared.kind.ValuePointer.{ValuePointer}
use Rattle.reg_kinds.specs.inside.Offsets.{at_most_max, offsets_ordered}

-- a pointer into a value of map m, at an offset from lo to hi. If hi is below lo, the offset is lo,
-- so that each lo and hi give a range that is not empty
abbrev pub value_span : ℕ → ℤ → ℤ → ValuePointer
value_span m lo hi = record { map = m; lo = lo; hi = int_max lo hi; ordered = at_most_max lo hi }

-- a pointer into a value of p's map, with the least range of offsets that includes those of p and q
abbrev pub offsets_hull : ValuePointer → ValuePointer → ValuePointer
offsets_hull p q =
    record {
      map = p.map;
      lo = int_min p.lo q.lo;
      hi = int_max p.hi q.hi;
      ordered = offsets_ordered p q;
    }
