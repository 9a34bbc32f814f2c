-- The facts after a call.
use Rattle.std.proofs.Common.{◌≡◌, inl, inr, ℕ, ◌<◌, ◌≤◌, ◌==◌, nat_le, Bool, true, false, if◌then◌else◌, Option, Some, None, refl, sym, ap, subst, ◌∙◌, arith}
use Rattle.std.proofs.lemmas.Bool.{cond_both, cond-false, eqb-true, ne_eqb}
use Rattle.std.proofs.lemmas.Option.{same_Some}
use Rattle.reg_kinds.specs.declared.kind.Kind.{Kind}
use Rattle.reg_kinds.specs.declared.kind.Kind.TheVariants as kind
use Rattle.reg_kinds.specs.declared.kind.Slot.{Slot}
use Rattle.reg_kinds.specs.declared.kind.Slot.TheVariants as slot
use Rattle.reg_kinds.specs.declared.facts.Facts.{Facts}
use Rattle.reg_kinds.specs.Kinds.{kind_at, slot_at}
use Rattle.reg_kinds.specs.Many.{call_kind}
use Rattle.reg_kinds.specs.TableLaws.{in_table}
use Rattle.tagged_model.specs.declared.shape.MapShape.{MapShape}
use Rattle.tagged_model.specs.declared.value.Tagged.{Tagged}
use Rattle.tagged_model.specs.Cells.{Cell}
use Rattle.tagged_model.specs.State.{RunState, RunMap, set_at}
use Rattle.tagged_model.specs.Helpers.{after_call}
use Rattle.tagged_model.specs.StateInvariant.{IsMapOf}
use Rattle.abstraction.specs.Admits.{Witness, IsOfKind, IsLookup, HasKind, HoldsNull, HasSlot, AdmitsBy, objects_of, IsKindBelow, IsSlotBelow, witness_at}
use Rattle.abstraction.specs.Laws.{MapChangeAdmits, CallAdmits, SiteAdmits}
use Rattle.abstraction.proofs.Unknown.{has_kind}
use Rattle.abstraction.proofs.Objects.{map_admits, map_proper}

-- ---- a map changes

module _ (shapes : ℕ → Option MapShape) (s : RunState) (m : ℕ) (shape : MapShape) (u : RunMap)
    (shaped : shapes m ≡ Some shape) (is : IsMapOf shape u) where
  maps_after : (k : ℕ)
      → ((other : MapShape) → shapes k ≡ Some other → (v : RunMap) × (s.maps k ≡ Some v) × IsMapOf other v)
      → (other : MapShape) → shapes k ≡ Some other
      → (v : RunMap) × (set_at s.maps m (Some u) k ≡ Some v) × IsMapOf other v
  maps_after k old other e =
      cond_both (k == m) (Some u) (s.maps k) (λ o. (v : RunMap) × (o ≡ Some v) × IsMapOf other v)
      (λ b.
      let same : shape ≡ other = same_Some shape other (sym shaped ∙ ap shapes (sym (eqb-true k m b)) ∙ e) in
      (u, refl, subst (λ x. IsMapOf x u) same is))
      (λ _. old other e)

pub map_change_admits : MapChangeAdmits
map_change_admits witness f shapes s m shape t u still is shaped keeps =
    record {
      admits = map_admits s m t u is witness f keeps.more still.admits;
      proper = map_proper s m t u is keeps.bytes still.proper;
      maps = λ k. maps_after shapes s m shape u shaped keeps.is k (still.maps k);
    }

-- ---- the result of a call

call_kinds : (witness : Witness) (f : Facts) (s : RunState) (k : Kind) (v : Tagged)
    → AdmitsBy witness f s → IsOfKind witness k v
    → (r : ℕ) → HasKind witness (call_kind f k r) (after_call s.registers v r)
call_kinds witness f s k v admits is r = by (r == 0) (nat_le r 5)
  where
    by : (a b : Bool)
        → HasKind witness
        (if a then k else (if b then kind.Unreadable else kind_at f r))
        (if a then Some v else (if b then None else s.registers r))
    by true b = has_kind witness k (Some v) v refl is
    by false true = tt
    by false false = admits.registers r

-- if a call returns a value of a kind, the facts after it describe the state after it
pub call_admits : CallAdmits
call_admits witness f shapes s k v still is =
    record {
      admits = record {
        registers = λ r.
            in_table (λ j. HasKind witness j (after_call s.registers v r)) (call_kind f k) 11 r
            kind.Unreadable (call_kinds witness f s k v still.admits is r)
            tt;
        slots = still.admits.slots;
        objects = still.admits.objects;
      };
      proper = record {
        bytes = still.proper.bytes;
        words = still.proper.words;
        count = still.proper.count;
        values = still.proper.values;
        packet = still.proper.packet;
      };
      maps = still.maps;
    }

-- ---- a witness with more objects, and a new look-up

module _ (witness : Witness) (s : RunState) (site : ℕ) (v : Tagged)
    (objects : (m : ℕ) → witness.objects m ≤ objects_of (s.maps m)) where
  more : Witness
  more = witness_at witness s site v

  more_objects : (m number : ℕ) → number < witness.objects m → number < objects_of (s.maps m)
  more_objects m number lt = let le = objects m in omega arith

  lookup_more : (m : ℕ) (w : Tagged) → IsLookup witness m w → IsLookup (witness_at witness s site v) m w
  lookup_more m w (inl z) = inl z
  lookup_more m w (inr h) = inr (h.0, h.1, more_objects m h.0 h.2)

  gave_more : (other : ℕ) → other < site → set_at witness.gave site v other ≡ witness.gave other
  gave_more other lt = cond-false (other == site) v (witness.gave other) (ne_eqb other site (λ e. omega arith))

  value_more : (k : Kind) (w : Tagged)
      → IsKindBelow site k → IsOfKind witness k w
      → IsOfKind (witness_at witness s site v) k w
  value_more (kind.Value p) w below h = (h.0, h.1, h.2, h.3, h.4, more_objects p.map h.0 h.5)
  value_more (kind.MaybeValue m other) w below h = (h.0 ∙ sym (gave_more other below), lookup_more m w h.1)
  value_more kind.Unreadable w below h = tt
  value_more k w below h = h

  register_more : (k : Kind) (o : Option Tagged)
      → IsKindBelow site k → HasKind witness k o
      → HasKind (witness_at witness s site v) k o
  register_more kind.Unreadable o below h = tt
  register_more k o below h = has_kind (witness_at witness s site v) k o h.0 h.1 (value_more k h.0 below h.2)

  null_more : (k : Kind) (c : Cell)
      → IsKindBelow site k → HoldsNull witness k c
      → HoldsNull (witness_at witness s site v) k c
  null_more (kind.MaybeValue m other) c below h = (gave_more other below ∙ h.0, h.1)
  null_more k c below h = absurd h

  slot_more : (t : Slot) (c : Cell)
      → IsSlotBelow site t → HasSlot witness t c
      → HasSlot (witness_at witness s site v) t c
  slot_more (slot.Bytes mask) c below h = h
  slot_more (slot.Spill k) c below (inl h) = inl (h.0, h.1, value_more k h.0 below h.2, h.3)
  slot_more (slot.Spill k) c below (inr h) = inr (null_more k c below h)

-- for a site that no fact mentions, the witness may record what the look-up there gave
pub site_admits : SiteAdmits
site_admits witness f shapes s site v below still =
    record {
      admits = record {
        registers = λ r.
            register_more witness s site v still.admits.objects (kind_at f r) (s.registers r)
            (below.registers r) (still.admits.registers r);
        slots = λ i.
            slot_more witness s site v still.admits.objects (slot_at f i) (s.cells i)
            (below.slots i) (still.admits.slots i);
        objects = λ m. omega arith;
      };
      proper = still.proper;
      maps = still.maps;
    }
