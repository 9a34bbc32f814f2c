-- Kinds and slots without facts, and facts built from functions of registers and slots.
use Rattle.std.proofs.Common.{◌≡◌, ℕ, ◌≤◌, Option, Some}
use Rattle.reg_kinds.specs.declared.kind.Kind.{Kind}
use Rattle.reg_kinds.specs.declared.kind.Kind.TheVariants.{Unreadable}
use Rattle.reg_kinds.specs.declared.kind.Slot.{Slot}
use Rattle.reg_kinds.specs.declared.kind.Slot.TheVariants.{Bytes}
use Rattle.reg_kinds.specs.Kinds.{facts_of}
use Rattle.reg_kinds.specs.TableLaws.{in_table}
use Rattle.tagged_model.specs.declared.value.Tagged.{Tagged}
use Rattle.tagged_model.specs.State.{RunState}
use Rattle.abstraction.specs.Admits.{Witness, IsOfKind, HasKind, HasSlot, AdmitsBy, objects_of}
use Rattle.abstraction.specs.AdmitsLaws.{no_bytes}

-- a value of a kind has this kind in a register; an unreadable register has no condition
pub has_kind : (witness : Witness) (k : Kind) (o : Option Tagged) (v : Tagged)
    → o ≡ Some v → IsOfKind witness k v → HasKind witness k o
has_kind witness Unreadable o v e h = tt
has_kind witness k o v e h = (v, e, h)

-- facts built from kinds and slots admit a state if each kind and each slot holds of it
pub admitted_by : (witness : Witness) (kinds : ℕ → Kind) (slots : ℕ → Slot) (s : RunState)
    → ((r : ℕ) → HasKind witness (kinds r) (s.registers r))
    → ((i : ℕ) → HasSlot witness (slots i) (s.cells i))
    → ((m : ℕ) → witness.objects m ≤ objects_of (s.maps m))
    → AdmitsBy witness (facts_of kinds slots) s
admitted_by witness kinds slots s of_registers of_slots of_objects =
    record {
      registers = λ r. in_table (λ k. HasKind witness k (s.registers r)) kinds 11 r Unreadable (of_registers r) tt;
      slots = λ i.
          in_table (λ t. HasSlot witness t (s.cells i)) slots 64 i (Bytes 0) (of_slots i) (no_bytes (s.cells i));
      objects = of_objects;
    }
