-- The effect of a null test on all copies of the result of one look-up.
use Rattle.std.proofs.Common.{◌≡◌, ◌≢◌, ℕ, ◌==◌, pos, Bool, true, false, Option, sym, ap, subst, ◌∙◌, inl, inr, arith}
use Rattle.std.proofs.lemmas.Int.{ints, clamps}
use Rattle.std.proofs.lemmas.Bool.{cond_both, eqb-true}
use Rattle.interval.specs.Ranges.{constant}
use Rattle.reg_kinds.specs.declared.kind.Kind.{Kind}
use Rattle.reg_kinds.specs.declared.kind.Kind.TheVariants as kind
use Rattle.reg_kinds.specs.declared.kind.Slot.{Slot}
use Rattle.reg_kinds.specs.declared.kind.Slot.TheVariants.{Bytes, Spill}
use Rattle.reg_kinds.specs.declared.facts.Facts.{Facts}
use Rattle.reg_kinds.specs.Kinds.{kind_at, slot_at}
use Rattle.reg_kinds.specs.Pointers.{value_span}
use Rattle.reg_kinds.specs.Settle.{settled_value, kind_settled, settled_spill, slot_settled, facts_settled}
use Rattle.tagged_model.specs.declared.value.Tagged.{Tagged}
use Rattle.tagged_model.specs.declared.value.Tagged.TheVariants.{Scalar}
use Rattle.tagged_model.specs.Cells.{Cell}
use Rattle.tagged_model.specs.State.{RunState}
use Rattle.abstraction.specs.Admits.{Witness, IsOfKind, IsLookup, IsKeptWhole, HasKind, HasSlot, AdmitsBy}
use Rattle.abstraction.proofs.Unknown.{has_kind, admitted_by}

-- after a null test of a site, its value has the settled kind, and a slot that holds it has the settled slot
record Tells (witness : Witness) (site : ℕ) (null : Bool) : Type 0 where
  of_value : (m : ℕ) (v : Tagged)
      → v ≡ witness.gave site → IsLookup witness m v
      → IsOfKind witness (settled_value null m) v
  of_slot : (m : ℕ) (c : Cell)
      → HasSlot witness (Spill (kind.MaybeValue m site)) c
      → HasSlot witness (settled_spill null m) c

module _ (witness : Witness) (site : ℕ) (null : Bool) (tells : Tells witness site null) where
  register_settled : (k : Kind) (o : Option Tagged) → HasKind witness k o → HasKind witness (kind_settled site null k) o
  register_settled (kind.MaybeValue m s) o h =
      cond_both (s == site) (settled_value null m) (kind.MaybeValue m s) (λ k. HasKind witness k o)
      (λ t.
      has_kind witness (settled_value null m) o h.0 h.1
      (tells.of_value m h.0 (h.2.0 ∙ ap witness.gave (eqb-true s site t)) h.2.1))
      (λ _. h)
  register_settled k o h = h

  cell_settled : (t : Slot) (c : Cell) → HasSlot witness t c → HasSlot witness (slot_settled site null t) c
  cell_settled (Spill (kind.MaybeValue m s)) c h =
      cond_both (s == site) (settled_spill null m) (Spill (kind.MaybeValue m s)) (λ t. HasSlot witness t c)
      (λ t. tells.of_slot m c (subst (λ j. HasSlot witness (Spill (kind.MaybeValue m j)) c) (eqb-true s site t) h))
      (λ _. h)
  cell_settled t c h = h

  settled : (f : Facts) (s : RunState) → AdmitsBy witness f s → AdmitsBy witness (facts_settled site null f) s
  settled f s h =
      admitted_by witness (λ r. kind_settled site null (kind_at f r)) (λ i. slot_settled site null (slot_at f i)) s
      (λ r. register_settled (kind_at f r) (s.registers r) (h.registers r))
      (λ i. cell_settled (slot_at f i) (s.cells i) (h.slots i))
      h.objects

-- ---- it is null

zero_of : (witness : Witness) (v : Tagged) → v ≡ Scalar 0 → IsOfKind witness (kind.Scalar (constant 0)) v
zero_of witness v e = (0, e, record { from = omega arith; to = omega arith }, omega arith)

module _ (witness : Witness) (site : ℕ) (is_null : witness.gave site ≡ Scalar 0) where
  -- a pointer that is held whole is not null, so the slot holds eight zero bytes
  null_slot : (m : ℕ) (c : Cell) → HasSlot witness (Spill (kind.MaybeValue m site)) c → HasSlot witness (Bytes 0xff) c
  null_slot m c (inl h) = absurd (subst IsKeptWhole (h.2.0 ∙ is_null) h.3)
  null_slot m c (inr h) = λ j lt _. (0, h.1 j lt)

  null_tells : Tells witness site true
  null_tells = record { of_value = λ m v e l. zero_of witness v (e ∙ is_null); of_slot = null_slot }

  -- if a look-up gave null, the facts settled as null admit the state
  pub null_settled : (f : Facts) (s : RunState) → AdmitsBy witness f s → AdmitsBy witness (facts_settled site true f) s
  null_settled = settled witness site true null_tells

-- ---- it is a pointer to the start of a value

module _ (witness : Witness) (site : ℕ) (is_pointer : witness.gave site ≢ Scalar 0) where
  start_of : (m : ℕ) (v : Tagged)
      → v ≡ witness.gave site → IsLookup witness m v
      → IsOfKind witness (kind.Value (value_span m (pos 0) (pos 0))) v
  start_of m v e (inl z) = absurd (is_pointer (sym e ∙ z))
  start_of m v e (inr h) = (h.0, pos 0, h.1, omega (arith, ints, clamps), omega (arith, ints, clamps), h.2)

  start_slot : (m : ℕ) (c : Cell)
      → HasSlot witness (Spill (kind.MaybeValue m site)) c
      → HasSlot witness (Spill (kind.Value (value_span m (pos 0) (pos 0)))) c
  start_slot m c (inl h) = inl (h.0, h.1, start_of m h.0 h.2.0 h.2.1, h.3)
  start_slot m c (inr h) = absurd (is_pointer h.0)

  start_tells : Tells witness site false
  start_tells = record { of_value = start_of; of_slot = start_slot }

  -- if a look-up did not give null, the facts settled as not null admit the state
  pub start_settled : (f : Facts) (s : RunState)
      → AdmitsBy witness f s → AdmitsBy witness (facts_settled site false f) s
  start_settled = settled witness site false start_tells
