-- A join admits each state that one of its two sides admits.
use Rattle.std.proofs.Common.{◌≡◌, ℕ, ◌<◌, min, ◌==◌, ◌&&◌, ℤ, ◌≤ℤ◌, Bool, if◌then◌else◌, bit_and, Option, inl, inr, arith}
use Rattle.std.specs.Int.{bit_at, int_min, int_max}
use Rattle.std.specs.Ordering.{int_eq}
use Rattle.std.proofs.lemmas.Int.{ints, clamps}
use Rattle.std.proofs.lemmas.Bool.{cond_both}
use Rattle.std.proofs.lemmas.Nat.Bits.{bit_at_and, bit_at-lt}
use Rattle.interval.specs.Laws.{HullHoldsBoth}
use Rattle.reg_kinds.specs.declared.kind.ValuePointer.{ValuePointer}
use Rattle.reg_kinds.specs.declared.kind.Kind.{Kind}
use Rattle.reg_kinds.specs.declared.kind.Kind.TheVariants.{Unreadable, Scalar, MapRef, Stack, Ctx, Value, MaybeValue}
use Rattle.reg_kinds.specs.declared.kind.Slot.{Slot}
use Rattle.reg_kinds.specs.declared.kind.Slot.TheVariants.{Bytes, Spill}
use Rattle.reg_kinds.specs.declared.facts.Facts.{Facts}
use Rattle.reg_kinds.specs.Kinds.{kind_at, slot_at}
use Rattle.reg_kinds.specs.Pointers.{offsets_hull}
use Rattle.reg_kinds.specs.Join.{kind_join, spilled, slot_join, facts_join}
use Rattle.tagged_model.specs.declared.value.Tagged.{Tagged}
use Rattle.tagged_model.specs.Cells.{Cell}
use Rattle.tagged_model.specs.State.{RunState}
use Rattle.abstraction.specs.Admits.{Witness, IsOfKind, IsValueOf, HasKind, HoldsWhole, HoldsNull, HasSlot, AdmitsBy}
use Rattle.abstraction.specs.AdmitsLaws.{no_bytes}
use Rattle.abstraction.proofs.Unknown.{has_kind, admitted_by}

least_below : (x z u : ℤ) → x ≤ℤ u → int_min x z ≤ℤ u
least_below x z u h = omega (arith, ints, clamps)

greatest_above : (y w u : ℤ) → u ≤ℤ y → u ≤ℤ int_max y w
greatest_above y w u h = omega (arith, ints, clamps)

value_left : (witness : Witness) (p q : ValuePointer) (v : Tagged)
    → IsValueOf witness p v → IsValueOf witness (offsets_hull p q) v
value_left witness p q v h = (h.0, h.1, h.2, least_below p.lo q.lo h.1 h.3, greatest_above p.hi q.hi h.1 h.4, h.5)

module _ (witness : Witness) (holds_both : HullHoldsBoth) where
  -- a kind, or none
  or_nothing : (b : Bool) (k : Kind) (v : Tagged)
      → IsOfKind witness k v → IsOfKind witness (if b then k else Unreadable) v
  or_nothing b k v h = cond_both b k Unreadable (λ l. IsOfKind witness l v) (λ _. h) (λ _. tt)

  value_joined : (j k : Kind) (v : Tagged) → IsOfKind witness j v → IsOfKind witness (kind_join j k) v
  value_joined (Scalar a) (Scalar b) v h = (h.0, h.1, (holds_both a b h.0).0 h.2, h.3)
  value_joined (MapRef m) (MapRef n) v h = or_nothing (m == n) (MapRef m) v h
  value_joined (Stack x) (Stack y) v h = or_nothing (int_eq x y) (Stack x) v h
  value_joined Ctx Ctx v h = h
  value_joined (Value p) (Value q) v h =
      or_nothing (p.map == q.map) (Value (offsets_hull p q)) v (value_left witness p q v h)
  value_joined (MaybeValue m s) (MaybeValue n t) v h = or_nothing ((m == n) && (s == t)) (MaybeValue m s) v h
  value_joined j k v h = tt

  register_joined : (j k : Kind) (o : Option Tagged) → HasKind witness j o → HasKind witness (kind_join j k) o
  register_joined Unreadable k o h = tt
  register_joined j k o h = has_kind witness (kind_join j k) o h.0 h.1 (value_joined j k h.0 h.2)

  -- a value that the slot holds whole is still known to be held, unless nothing is known of it
  whole_spilled : (k : Kind) (c : Cell) → HoldsWhole witness k c → HasSlot witness (spilled k) c
  whole_spilled Unreadable c h = no_bytes c
  whole_spilled k c h = inl h

  null_joined : (j k : Kind) (c : Cell) → HoldsNull witness j c → HasSlot witness (spilled (kind_join j k)) c
  null_joined (MaybeValue m s) (MaybeValue n t) c h =
      cond_both ((m == n) && (s == t)) (MaybeValue m s) Unreadable
      (λ k. HasSlot witness (spilled k) c) (λ _. inr h) (λ _. no_bytes c)
  null_joined (MaybeValue m s) k c h = no_bytes c
  null_joined j k c h = absurd h

  in_both : (x y z : ℕ) → z ≡ min x y → y < 2 → x < 2 → z ≡ 1 → x ≡ 1
  in_both x y z e g h one = omega arith

  slot_joined : (t u : Slot) (c : Cell) → HasSlot witness t c → HasSlot witness (slot_join t u) c
  slot_joined (Bytes x) (Bytes y) c h = λ i lt e.
      h i lt
      (in_both (bit_at x i) (bit_at y i) (bit_at (bit_and x y) i) (bit_at_and x y i) (bit_at-lt y i) (bit_at-lt x i) e)
  slot_joined (Spill j) (Spill k) c (inl h) = whole_spilled (kind_join j k) c (h.0, h.1, value_joined j k h.0 h.2, h.3)
  slot_joined (Spill j) (Spill k) c (inr h) = null_joined j k c h
  slot_joined t u c h = no_bytes c

  -- a state that the first side admits is admitted by the join
  pub first_joined : (a b : Facts) (s : RunState) → AdmitsBy witness a s → AdmitsBy witness (facts_join a b) s
  first_joined a b s h =
      admitted_by witness (λ r. kind_join (kind_at a r) (kind_at b r)) (λ i. slot_join (slot_at a i) (slot_at b i)) s
      (λ r. register_joined (kind_at a r) (kind_at b r) (s.registers r) (h.registers r))
      (λ i. slot_joined (slot_at a i) (slot_at b i) (s.cells i) (h.slots i))
      h.objects
