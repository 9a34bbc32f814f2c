-- Laws of the joins, for all kinds, slots and facts. This project's own.
use Rattle.std.specs.Prelude.{◌≡◌}
use Rattle.reg_kinds.specs.declared.kind.Kind.{Kind}
use Rattle.reg_kinds.specs.declared.kind.Slot.{Slot}
use Rattle.reg_kinds.specs.declared.facts.Facts.{Facts}
use Rattle.reg_kinds.specs.Join.{kind_join, slot_join, facts_join}

abbrev pub KindsCommute : Type 0
KindsCommute = (j k : Kind) → kind_join j k ≡ kind_join k j

abbrev pub KindsAssociate : Type 0
KindsAssociate = (i j k : Kind) → kind_join (kind_join i j) k ≡ kind_join i (kind_join j k)

abbrev pub SlotsCommute : Type 0
SlotsCommute = (s t : Slot) → slot_join s t ≡ slot_join t s

abbrev pub SlotsAssociate : Type 0
SlotsAssociate = (r s t : Slot) → slot_join (slot_join r s) t ≡ slot_join r (slot_join s t)

abbrev pub FactsCommute : Type 0
FactsCommute = (a b : Facts) → facts_join a b ≡ facts_join b a

abbrev pub FactsAssociate : Type 0
FactsAssociate = (a b c : Facts) → facts_join (facts_join a b) c ≡ facts_join a (facts_join b c)

-- once s is joined with t, joining it with t again changes nothing
abbrev pub SlotsAbsorb : Type 0
SlotsAbsorb = (s t : Slot) → slot_join (slot_join s t) t ≡ slot_join s t
