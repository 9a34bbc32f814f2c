-- A verdict depends only on the targets of the descriptors that the program loads.
use Rattle.std.proofs.Common.{◌≡◌, ℕ, zero, suc, Bool, true, false, not, List, [], ◌∷◌, filter, slice_get}
use Rattle.std.proofs.Common.{Option, Some, None, is_some, refl, sym, ap, ap₂, ◌∙◌, arith, true≢false}
use Rattle.std.proofs.Common.{rules}
use Rattle.std.specs.Prelude.{◌==◌, ◌||◌, ◌&&◌, nat_le, if◌then◌else◌}
use Rattle.std.specs.Option.{option_map_or}
use Rattle.std.proofs.lemmas.Bool.{eq-eqb, eqb-true}
use Rattle.std.proofs.lemmas.Option.{none-some, same_Some}
use Rattle.std.proofs.Math.Bool.{or-true, true-or}
use Rattle.insn_set.specs.declared.insn.Insn.{Insn}
use Rattle.insn_set.specs.declared.profile.Reference.{Reference}
use Rattle.insn_set.specs.declared.profile.Reference.TheVariants as names
use Rattle.insn_set.specs.BeginLaws.{none_begins_past}
use Rattle.insn_set.specs.Flow.{descriptor, descriptor_by, jumps, falls, jumps_to, falls_to, written_register, is_number}
use Rattle.insn_set.specs.Profile.{profile}
use Rattle.insn_set.specs.Program.{IsProgram, begins_at, slot_count}
use Rattle.reg_kinds.specs.declared.reason.Reason.{Reason}
use Rattle.reg_kinds.specs.declared.reason.Reason.TheVariants.{JumpOutside, JumpBackward, FallsOff, Unreachable, UnknownHelper}
use Rattle.reg_kinds.specs.declared.reason.Reason.TheVariants.{FramePointerWritten, DescriptorNotOpen, DescriptorNotMap, NoDirectValue}
use Rattle.tagged_model.specs.declared.shape.Named.{Named}
use Rattle.tagged_model.specs.declared.shape.Target.{Target}
use Rattle.tagged_model.specs.Named.{Shapes, target_of, shape_in, shapes_named}
use Rattle.tagged_model.specs.Table.{has_direct_value}
use Rattle.tagged_model.specs.Cells.{and_then}
use Rattle.reg_kinds.specs.Kinds.{tabulate}
use Rattle.reg_kinds.specs.declared.facts.Facts.{Facts}
use Rattle.transfer.specs.Effects.{effect}
use Rattle.verifier.specs.Before.{facts_before, facts_from_below}
use Rattle.verifier.specs.Laws.{MapsAreListed}
use Rattle.verifier.specs.Maps.{maps_of, is_among, objects_at, shapes_of}
use Rattle.verifier.specs.Shape.{is_map, is_not_open, is_not_map, lacks_direct_value, calls_unknown, leads_outside}
use Rattle.verifier.specs.Shape.{leads_backward, is_reachable, reached_from, first_reason, shape_reason, shape_reason_at, structure_fault}
use Rattle.verifier.specs.Verdict.{HasNoFault, IsAccepted, reason_of, safety_fault}
use Rattle.saving.specs.Filler.{filler}

-- ---- objects that are selected by their descriptors

picked : (p : ℕ → Bool) (ns : List Named) (fd : ℕ)
    → p fd ≡ true → target_of (filter (λ n. p n.fd) ns) fd ≡ target_of ns fd
unfolding target_of
picked p [] fd is = refl
picked p (n ∷ ns) fd is = by (picked p ns fd is) (p n.fd) refl
  where
    by_key : target_of (filter (λ n. p n.fd) ns) fd ≡ target_of ns fd
        → (here : Bool) → (n.fd == fd) ≡ here → p n.fd ≡ false
        → target_of (filter (λ n. p n.fd) ns) fd ≡ (if here then Some n.target else target_of ns fd)
    by_key rest true same isnt = absurd (true≢false (sym is ∙ ap p (sym (eqb-true n.fd fd same)) ∙ isnt))
    by_key rest false same isnt = rest

    by : target_of (filter (λ n. p n.fd) ns) fd ≡ target_of ns fd
        → (here : Bool) → p n.fd ≡ here
        → target_of (if here then n ∷ filter (λ n. p n.fd) ns else filter (λ n. p n.fd) ns) fd ≡ target_of (n ∷ ns) fd
    by rest true e = ap (λ (o : Option Target). if n.fd == fd then Some n.target else o) rest
    by rest false e = by_key rest (n.fd == fd) refl e

among : (fds : List ℕ) (i fd : ℕ) → slice_get fds i ≡ Some fd → is_among fds fd ≡ true
among [] i fd there = absurd (none-some fd there)
among (x ∷ fds) zero fd there =
    ap (λ (b : Bool). b || is_among fds fd) (eq-eqb x fd (same_Some x fd there)) ∙ true-or (is_among fds fd)
among (x ∷ fds) (suc i) fd there = ap (λ (b : Bool). (x == fd) || b) (among fds i fd there) ∙ or-true (x == fd)

-- ---- the shape of a program

module _ (a b : List Named) where
  -- the target of the descriptor that an instruction names is the same
  abbrev SameTarget : Reference → Type 0
  SameTarget r = (fd : ℕ) → descriptor_by r ≡ Some fd → target_of a fd ≡ target_of b fd

  same_open : (o : Option ℕ)
      → ((fd : ℕ) → o ≡ Some fd → target_of a fd ≡ target_of b fd)
      → is_not_open a o ≡ is_not_open b o
  same_open None h = refl
  same_open (Some fd) h = ap (λ (t : Option Target). not (is_some t)) (h fd refl)

  same_map : (o : Option ℕ)
      → ((fd : ℕ) → o ≡ Some fd → target_of a fd ≡ target_of b fd) → is_not_map a o ≡ is_not_map b o
  same_map None h = refl
  same_map (Some fd) h = ap (λ (t : Option Target). not (option_map_or is_map t true)) (h fd refl)

  same_value : (r : Reference) → SameTarget r → lacks_direct_value a r ≡ lacks_direct_value b r
  same_value names.Nothing h = refl
  same_value (names.Helper id) h = refl
  same_value (names.Map fd) h = refl
  same_value (names.Value fd off) h =
      ap (λ (t : Option Target). not (option_map_or (λ shape. has_direct_value shape off) (shape_in t) true))
      (h fd refl)

  same_reason : (code : List Insn) (i : Insn) (at : ℕ)
      → SameTarget (profile i).reference → shape_reason code a i at ≡ shape_reason code b i at
  same_reason code i at h =
      ap₂ (λ (x y : Bool). reasons x y (lacks_direct_value a (profile i).reference))
      (same_open (descriptor i) h) (same_map (descriptor i) h)
      ∙ ap (reasons (is_not_open b (descriptor i)) (is_not_map b (descriptor i))) (same_value (profile i).reference h)
    where
      reasons : Bool → Bool → Bool → Option Reason
      reasons x y z = first_reason (
          (jumps i && leads_outside code (jumps_to i at), JumpOutside)
          ∷ (jumps i && leads_backward (jumps_to i at) at, JumpBackward)
          ∷ (falls i && nat_le (slot_count code) (falls_to i at), FallsOff)
          ∷ (not (is_reachable code at), Unreachable)
          ∷ (calls_unknown i, UnknownHelper)
          ∷ (is_number (written_register i) 10, FramePointerWritten)
          ∷ (x, DescriptorNotOpen)
          ∷ (y, DescriptorNotMap)
          ∷ (z, NoDirectValue)
          ∷ [])

  same_structure : MapsAreListed
      → (code : List Insn) → objects_at (maps_of code) a ≡ objects_at (maps_of code) b
      → (at : ℕ) → structure_fault code a at ≡ structure_fault code b at
  unfolding structure_fault
  same_structure listed code same at = by (begins_at code at) refl
    where
      target : (i : Insn) → begins_at code at ≡ Some i → SameTarget (profile i).reference
      target i begins fd e =
          let (n, there) = listed.each code at i fd begins e in
          let is = among (maps_of code) n fd there in
          sym (picked (is_among (maps_of code)) a fd is)
          ∙ ap (λ (ns : List Named). target_of ns fd) same
          ∙ picked (is_among (maps_of code)) b fd is

      by : (o : Option Insn) → begins_at code at ≡ o → shape_reason_at code a at o ≡ shape_reason_at code b at o
      by None begins = refl
      by (Some i) begins = same_reason code i at (target i begins)

-- ---- the verdict

-- a program that is accepted is accepted with all targets that are the same at the descriptors that it loads
pub same_verdict : MapsAreListed
    → (code : List Insn) (a b : List Named)
    → objects_at (maps_of code) a ≡ objects_at (maps_of code) b
    → IsAccepted code a
    → IsAccepted code b
same_verdict listed code a b same accepted = (
  λ n. sym (same_structure a b listed code same n) ∙ accepted.0 n,
  λ n. ap (λ (ns : List Named). safety_fault (shapes_named ns) code n) (sym same) ∙ accepted.1 n,
)

-- ---- the filler

-- the filler is a program
pub filler_program : IsProgram filler
filler_program = record { each = ((omega arith, search rules), (tt, tt)); some = omega arith; room = omega arith }

past : (n : ℕ) → begins_at filler (suc (suc n)) ≡ None
past n = none_begins_past filler (suc (suc n)) (omega arith)

filler_shape : (named : List Named) → HasNoFault (structure_fault filler named)
unfolding structure_fault begins_at reached_from
filler_shape named zero = refl
filler_shape named (suc zero) = refl
filler_shape named (suc (suc n)) = ap (shape_reason_at filler named (suc (suc n))) (past n)

filler_safe : (shapes : Shapes) → HasNoFault (safety_fault shapes filler)
unfolding safety_fault facts_from_below begins_at tabulate
filler_safe shapes zero = refl
filler_safe shapes (suc zero) = refl
filler_safe shapes (suc (suc n)) =
    ap (λ (o : Option Insn).
    and_then (facts_before shapes filler (suc (suc n)))
    (λ f. and_then o (λ i. reason_of (effect shapes (suc (suc n)) i f))))
    (past n)
    ∙ none_then (facts_before shapes filler (suc (suc n)))
  where
    none_then : (o : Option Facts) → let none : Option Reason = None in and_then o (λ f. none) ≡ none
    none_then None = refl
    none_then (Some f) = refl

-- the filler is accepted, whatever the open descriptors name
pub filler_accepted : (named : List Named) → IsAccepted filler named
filler_accepted named = (filler_shape named, filler_safe (shapes_of filler named))
