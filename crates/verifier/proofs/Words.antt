-- The facts before each slot are well formed: their ranges are of words, and their look-ups are at lower slots.
use Rattle.std.proofs.Common.{◌≡◌, ℕ, zero, suc, ◌<◌, ◌==◌, Bool, List, Option, Some, None, Result, Ok, Err, if◌then◌else◌, refl, arith}
use Rattle.std.specs.Prelude.{◌&&◌}
use Rattle.std.specs.List.{AllByRecursion}
use Rattle.std.proofs.lemmas.Bool.{cond_both}
use Rattle.std.proofs.lemmas.Nat.{and_le_l}
use Rattle.insn_set.specs.declared.insn.Insn.{Insn}
use Rattle.insn_set.specs.Spelling.{IsInsn}
use Rattle.insn_set.specs.Program.{begins_at}
use Rattle.insn_set.specs.BeginLaws.{begun_is_insn}
use Rattle.reg_kinds.specs.declared.kind.Kind.{Kind}
use Rattle.reg_kinds.specs.declared.kind.Kind.TheVariants.{Unreadable, Scalar, MapRef, Stack, Ctx, Value, MaybeValue}
use Rattle.reg_kinds.specs.declared.kind.Slot.{Slot}
use Rattle.reg_kinds.specs.declared.kind.Slot.TheVariants.{Bytes, Spill}
use Rattle.reg_kinds.specs.declared.facts.Facts.{Facts}
use Rattle.reg_kinds.specs.declared.reason.Reason.{Reason}
use Rattle.reg_kinds.specs.Kinds.{kind_at, slot_at, facts_of, entry_kind, entry}
use Rattle.reg_kinds.specs.Pointers.{offsets_hull}
use Rattle.reg_kinds.specs.Join.{kind_join, spilled, slot_join, facts_join}
use Rattle.reg_kinds.specs.TableLaws.{in_table}
use Rattle.tagged_model.specs.Cells.{and_then}
use Rattle.tagged_model.specs.Named.{Shapes}
use Rattle.transfer.specs.Branches.{Edges}
use Rattle.transfer.specs.Effects.{effect}
use Rattle.transfer.specs.Sound.{IsKindAt, IsSlotAt, AreWellFormedAt, AreWellFormedOn, TransferKeepsWellFormed}
use Rattle.transfer.specs.FactLaws.{facts_of_later_slots}
use Rattle.verifier.specs.Shape.{falls_into, jumps_into}
use Rattle.verifier.specs.Before.{joined, only_if, edges_into, facts_sent, facts_from_below}

-- a bound above the slots of the look-ups
module _ (bound : ℕ) where
  no_bytes : IsSlotAt bound (Bytes 0)
  no_bytes = omega arith

  words_of : (kinds : ℕ → Kind) (slots : ℕ → Slot)
      → ((r : ℕ) → IsKindAt bound (kinds r)) → ((i : ℕ) → IsSlotAt bound (slots i))
      → AreWellFormedAt bound (facts_of kinds slots)
  words_of kinds slots h g =
      record {
        registers = λ r. in_table (IsKindAt bound) kinds 11 r Unreadable (h r) tt;
        slots = λ i. in_table (IsSlotAt bound) slots 64 i (Bytes 0) (g i) no_bytes;
      }

  -- ---- at entry

  entry_words : AreWellFormedAt bound entry
  entry_words =
      words_of entry_kind (λ i. Bytes 0)
      (λ r.
      cond_both (r == 1) Ctx _ (IsKindAt bound) (λ _. tt)
      (λ _. cond_both (r == 10) _ Unreadable (IsKindAt bound) (λ _. tt) (λ _. tt)))
      (λ i. no_bytes)

  -- ---- joins of two edges

  either_kind : (b : Bool) (k : Kind) → IsKindAt bound k → IsKindAt bound (if b then k else Unreadable)
  either_kind b k h = cond_both b k Unreadable (IsKindAt bound) (λ _. h) (λ _. tt)

  kind_joined : (j k : Kind) → IsKindAt bound j → IsKindAt bound k → IsKindAt bound (kind_join j k)
  kind_joined (Scalar a) (Scalar b) h g = omega arith
  kind_joined (MapRef m) (MapRef n) h g = either_kind (m == n) (MapRef m) tt
  kind_joined (Stack x) (Stack y) h g = either_kind _ (Stack x) tt
  kind_joined Ctx Ctx h g = tt
  kind_joined (Value p) (Value q) h g = either_kind (p.map == q.map) (Value (offsets_hull p q)) tt
  kind_joined (MaybeValue m s) (MaybeValue n t) h g = either_kind ((m == n) && (s == t)) (MaybeValue m s) h
  kind_joined j k h g = tt

  spilled_words : (k : Kind) → IsKindAt bound k → IsSlotAt bound (spilled k)
  spilled_words Unreadable h = no_bytes
  spilled_words k h = h

  slot_joined : (s t : Slot) → IsSlotAt bound s → IsSlotAt bound t → IsSlotAt bound (slot_join s t)
  slot_joined (Bytes x) (Bytes y) h g = omega (arith, and_le_l x y)
  slot_joined (Spill j) (Spill k) h g = spilled_words (kind_join j k) (kind_joined j k h g)
  slot_joined s t h g = no_bytes

  facts_joined : (a b : Facts)
      → AreWellFormedAt bound a → AreWellFormedAt bound b
      → AreWellFormedAt bound (facts_join a b)
  facts_joined a b h g =
      words_of (λ r. kind_join (kind_at a r) (kind_at b r)) (λ i. slot_join (slot_at a i) (slot_at b i))
      (λ r. kind_joined (kind_at a r) (kind_at b r) (h.registers r) (g.registers r))
      (λ i. slot_joined (slot_at a i) (slot_at b i) (h.slots i) (g.slots i))

  joined_words : (a b : Option Facts)
      → AreWellFormedOn bound a → AreWellFormedOn bound b
      → AreWellFormedOn bound (joined a b)
  joined_words None b h g = g
  joined_words (Some f) None h g = h
  joined_words (Some e) (Some f) h g = facts_joined e f h g

  -- ---- before each slot

  on_words : (leads : Bool) (o : Option Facts) → AreWellFormedOn bound o → AreWellFormedOn bound (only_if leads o)
  on_words leads o h = cond_both leads o None (AreWellFormedOn bound) (λ _. h) (λ _. tt)

-- ---- facts that are well formed at a slot are well formed at the next one

on_raised : (n : ℕ) (o : Option Facts) → AreWellFormedOn n o → AreWellFormedOn (suc n) o
on_raised n None h = tt
on_raised n (Some f) h = let farther : n < suc n = omega arith in facts_of_later_slots n (suc n) f farther h

module _ (law : TransferKeepsWellFormed) (shapes : Shapes) (code : List Insn) (each : AllByRecursion IsInsn code) where
  edges_words : (n m : ℕ) (i : Insn) (f : Facts)
      → IsInsn i → AreWellFormedAt n f
      → (r : Result Edges Reason) → effect shapes n i f ≡ r
      → AreWellFormedOn (suc n) (edges_into i n m r)
  edges_words n m i f is h (Err reason) e = tt
  edges_words n m i f is h (Ok edges) e =
      let farther : n < suc n = omega arith in
      let both = law shapes n (suc n) i f edges is h farther e in
      joined_words (suc n) (only_if (falls_into i n m) edges.falling)
      (only_if (jumps_into i n m) edges.jumping)
      (on_words (suc n) (falls_into i n m) edges.falling both.0)
      (on_words (suc n) (jumps_into i n m) edges.jumping both.1)

  begun_words : (n m : ℕ) (f : Facts)
      → AreWellFormedAt n f → (o : Option Insn) → begins_at code n ≡ o
      → AreWellFormedOn (suc n) (and_then o (λ i. edges_into i n m (effect shapes n i f)))
  begun_words n m f h None e = tt
  begun_words n m f h (Some i) e = edges_words n m i f (begun_is_insn code n i e each) h (effect shapes n i f) refl

  sent_words : (n m : ℕ) (before : Option Facts)
      → AreWellFormedOn n before → AreWellFormedOn (suc n) (facts_sent shapes code n m before)
  sent_words n m None h = tt
  sent_words n m (Some f) h = begun_words n m f h (begins_at code n) refl

  -- the facts that the slots below slot n pass on to a slot are well formed at slot n
  pub inflow_words : (n m : ℕ) → AreWellFormedOn n (facts_from_below shapes code m n)
  unfolding facts_from_below
  inflow_words zero m = cond_both (m == 0) (Some entry) None (AreWellFormedOn 0) (λ _. entry_words 0) (λ _. tt)
  inflow_words (suc n) m =
      joined_words (suc n) (facts_from_below shapes code m n)
      (facts_sent shapes code n m (facts_from_below shapes code n n))
      (on_raised n (facts_from_below shapes code m n) (inflow_words n m))
      (sent_words n m (facts_from_below shapes code n n) (inflow_words n n))
