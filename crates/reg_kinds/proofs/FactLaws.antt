-- The joins of slots and of facts are commutative and associative.
use Rattle.std.proofs.Common.{◌≡◌, ℕ, ◌<◌, refl, sym, ap, ◌∙◌}
use Rattle.std.proofs.lemmas.Nat.{and_comm, and_assoc}
use Rattle.std.specs.Int.Bits.{and_zero_r, and_zero_l}
use Rattle.reg_kinds.specs.declared.kind.Kind.{Kind}
use Rattle.reg_kinds.specs.declared.kind.Kind.TheVariants.{Unreadable}
use Rattle.reg_kinds.specs.declared.kind.Slot.TheVariants.{Bytes, Spill}
use Rattle.reg_kinds.specs.declared.facts.Facts.{Facts}
use Rattle.reg_kinds.specs.Kinds.{kind_at, slot_at}
use Rattle.reg_kinds.specs.Join.{kind_join, spilled, slot_join, facts_join}
use Rattle.reg_kinds.specs.Laws.{KindsCommute, KindsAssociate, SlotsCommute, SlotsAssociate, FactsCommute, FactsAssociate}
use Rattle.reg_kinds.proofs.KindGroups.{nothing_last}
use Rattle.reg_kinds.specs.TableLaws.{tabulate-at}
use Rattle.reg_kinds.proofs.Tables.{same_table, same_facts}

-- ---- slots

-- if the join of kinds is commutative, so is that of slots
pub slots_commute : KindsCommute → SlotsCommute
slots_commute h (Bytes x) (Bytes y) = ap Bytes (and_comm x y)
slots_commute h (Bytes x) (Spill k) = refl
slots_commute h (Spill j) (Bytes y) = refl
slots_commute h (Spill j) (Spill k) = ap spilled (h j k)

nothing_first : (k : Kind) → kind_join Unreadable k ≡ Unreadable
nothing_first k = refl

-- a spilled join, joined again
pub first_spilled : (j k : Kind) → slot_join (spilled j) (Spill k) ≡ spilled (kind_join j k)
first_spilled Unreadable k = ap spilled (sym (nothing_first k))
first_spilled _ k = refl

last_spilled : (j k : Kind) → slot_join (Spill j) (spilled k) ≡ spilled (kind_join j k)
last_spilled j Unreadable = ap spilled (sym (nothing_last j))
last_spilled j _ = refl

first_bytes : (x : ℕ) (k : Kind) → slot_join (Bytes x) (spilled k) ≡ Bytes 0
first_bytes x Unreadable = ap Bytes (and_zero_r x)
first_bytes x _ = refl

last_bytes : (x : ℕ) (k : Kind) → slot_join (spilled k) (Bytes x) ≡ Bytes 0
last_bytes x Unreadable = ap Bytes (and_zero_l x)
last_bytes x _ = refl

-- if the join of kinds is associative, so is that of slots
pub slots_associate : KindsAssociate → SlotsAssociate
slots_associate h (Bytes x) (Bytes y) (Bytes z) = ap Bytes (and_assoc z x y)
slots_associate h (Bytes x) (Bytes y) (Spill k) = sym (ap Bytes (and_zero_r x))
slots_associate h (Bytes x) (Spill j) (Bytes z) = ap Bytes (and_zero_l z) ∙ sym (ap Bytes (and_zero_r x))
slots_associate h (Bytes x) (Spill j) (Spill k) = sym (first_bytes x (kind_join j k))
slots_associate h (Spill i) (Bytes y) (Bytes z) = ap Bytes (and_zero_l z)
slots_associate h (Spill i) (Bytes y) (Spill k) = refl
slots_associate h (Spill i) (Spill j) (Bytes z) = last_bytes z (kind_join i j)
slots_associate h (Spill i) (Spill j) (Spill k) =
    first_spilled (kind_join i j) k ∙ (ap spilled (h i j k) ∙ sym (last_spilled i (kind_join j k)))

-- ---- facts

-- if the joins of kinds and of slots are commutative, so is that of facts
pub facts_commute : KindsCommute → SlotsCommute → FactsCommute
facts_commute h k a b =
    same_facts (facts_join a b) (facts_join b a)
    (same_table _ _ 11 Unreadable (λ r _. h (kind_at a r) (kind_at b r)))
    (same_table _ _ 64 (Bytes 0) (λ i _. k (slot_at a i) (slot_at b i)))

kind_of_join : (a b : Facts) (r : ℕ) → r < 11 → kind_at (facts_join a b) r ≡ kind_join (kind_at a r) (kind_at b r)
kind_of_join a b r h = tabulate-at (λ n. kind_join (kind_at a n) (kind_at b n)) 11 r Unreadable h

slot_of_join : (a b : Facts) (i : ℕ) → i < 64 → slot_at (facts_join a b) i ≡ slot_join (slot_at a i) (slot_at b i)
slot_of_join a b i h = tabulate-at (λ n. slot_join (slot_at a n) (slot_at b n)) 64 i (Bytes 0) h

-- if the joins of kinds and of slots are associative, so is that of facts
pub facts_associate : KindsAssociate → SlotsAssociate → FactsAssociate
facts_associate h k a b c =
    same_facts (facts_join (facts_join a b) c) (facts_join a (facts_join b c))
    (same_table _ _ 11 Unreadable
    (λ r l.
    ap (λ x. kind_join x (kind_at c r)) (kind_of_join a b r l)
    ∙ (h (kind_at a r) (kind_at b r) (kind_at c r) ∙ sym (ap (kind_join (kind_at a r)) (kind_of_join b c r l)))))
    (same_table _ _ 64 (Bytes 0)
    (λ i l.
    ap (λ x. slot_join x (slot_at c i)) (slot_of_join a b i l)
    ∙ (k (slot_at a i) (slot_at b i) (slot_at c i) ∙ sym (ap (slot_join (slot_at a i)) (slot_of_join b c i l)))))
