-- A program whose maps have the same shapes in other objects is accepted with these too.
use Rattle.std.proofs.Common.{◌≡◌, ℕ, Bool, true, false, not, ◌&&◌, List, [], ◌∷◌, Option, Some, None, Ok, refl, sym, ap, subst, ◌∙◌}
use Rattle.std.specs.Prelude.{nat_le}
use Rattle.std.specs.Option.{is_some, IsSome, option_map_or}
use Rattle.std.specs.List.{All}
use Rattle.std.proofs.lemmas.Bool.{true≢false}
use Rattle.std.proofs.lemmas.Option.{none-some, same_Some, slice_get_within, get_or_from_slice_get}
use Rattle.insn_set.specs.declared.insn.Insn.{Insn}
use Rattle.insn_set.specs.declared.profile.Reference.{Reference}
use Rattle.insn_set.specs.declared.profile.Reference.TheVariants as names
use Rattle.insn_set.specs.Profile.{profile}
use Rattle.insn_set.specs.Flow.{falls_to, jumps_to, falls, jumps, written_register, descriptor_by, descriptor, is_number}
use Rattle.insn_set.specs.Program.{IsProgram, program_bytes, begins_at, slot_count}
use Rattle.reg_kinds.specs.declared.reason.Reason.{Reason}
use Rattle.reg_kinds.specs.declared.reason.Reason.TheVariants.{JumpOutside, JumpBackward, FallsOff, Unreachable, UnknownHelper}
use Rattle.reg_kinds.specs.declared.reason.Reason.TheVariants.{FramePointerWritten, DescriptorNotOpen, DescriptorNotMap, NoDirectValue}
use Rattle.tagged_model.specs.declared.shape.MapShape.{MapShape}
use Rattle.tagged_model.specs.declared.shape.Named.{Named}
use Rattle.tagged_model.specs.declared.shape.Target.{Target}
use Rattle.tagged_model.specs.declared.shape.Target.TheVariants as target
use Rattle.tagged_model.specs.Table.{has_direct_value}
use Rattle.tagged_model.specs.Named.{Shapes, target_of, shape_in, shapes_named}
use Rattle.verifier.specs.Fits.{Fits, SameShapesAreAccepted}
use Rattle.verifier.specs.Judgement.{Judges}
use Rattle.verifier.specs.Maps.{maps_of, is_among, objects_at, shapes_of}
use Rattle.verifier.specs.Shape.{leads_outside, leads_backward, is_reachable, calls_unknown, is_map, is_not_open}
use Rattle.verifier.specs.Shape.{is_not_map, lacks_direct_value, lacks_value, first_reason, shape_reason, shape_reason_at, structure_fault}
use Rattle.verifier.specs.Verdict.{safety_fault, HasNoFault, IsAccepted}
use Rattle.verifier.specs.Verified.{Accepted, IsVerified, shapes_in}
use Rattle.verifier.proofs.Listed.{index_of, shape_kept}
use Rattle.verifier.proofs.LoadedShapes.{target_kept, among_maps, shaped}

-- a property of each descriptor of a list
pub each_among : (P : ℕ → Type 0) (fds : List ℕ) → All P fds → (fd : ℕ) → is_among fds fd ≡ true → P fd
each_among P fds all fd among =
    let (i, there) = index_of fds fd among in
    subst P (get_or_from_slice_get fds i fd 0 there) (all i 0 (slice_get_within fds i fd there))

-- a descriptor that is not listed has no shape
none_kept : (fds : List ℕ) (ns : List Named) (fd : ℕ)
    → is_among fds fd ≡ false → shape_in (target_of (objects_at fds ns) fd) ≡ None
none_kept fds ns fd out = by (shape_in (target_of (objects_at fds ns) fd)) refl
  where
    by : (o : Option MapShape) → shape_in (target_of (objects_at fds ns) fd) ≡ o → o ≡ None
    by None e = refl
    by (Some shape) e = absurd (true≢false (sym (shape_kept fds fd ns shape e) ∙ out))

-- objects with the same shape are the same
same_target : (o p : Option Target) → IsSome (shape_in p) → shape_in o ≡ shape_in p → o ≡ p
same_target o None some e = absurd (true≢false (sym some))
same_target o (Some target.Program) some e = absurd (true≢false (sym some))
same_target None (Some (target.Map t)) some e = absurd (none-some t e)
same_target (Some target.Program) (Some (target.Map t)) some e = absurd (none-some t e)
same_target (Some (target.Map s)) (Some (target.Map t)) some e =
    ap (λ (x : MapShape). Some (target.Map x)) (same_Some s t e)

module _ (named other : List Named) where
  open_same : (o : Option ℕ)
      → ((fd : ℕ) → o ≡ Some fd → target_of other fd ≡ target_of named fd)
      → is_not_open other o ≡ is_not_open named o
  open_same None h = refl
  open_same (Some fd) h = ap (λ (t : Option Target). not (is_some t)) (h fd refl)

  map_same : (o : Option ℕ)
      → ((fd : ℕ) → o ≡ Some fd → target_of other fd ≡ target_of named fd)
      → is_not_map other o ≡ is_not_map named o
  map_same None h = refl
  map_same (Some fd) h = ap (λ (t : Option Target). not (option_map_or is_map t true)) (h fd refl)

  value_same : (r : Reference)
      → ((fd : ℕ) → descriptor_by r ≡ Some fd → target_of other fd ≡ target_of named fd)
      → lacks_direct_value other r ≡ lacks_direct_value named r
  value_same names.Nothing h = refl
  value_same (names.Helper id) h = refl
  value_same (names.Map fd) h = refl
  value_same (names.Value fd off) h =
      ap (λ (t : Option Target). not (option_map_or (λ shape. has_direct_value shape off) (shape_in t) true))
      (h fd refl)

-- the first fault of an instruction, by what is wrong with the descriptor that it names
abbrev reason_if : List Insn → Insn → ℕ → Bool → Bool → Bool → Option Reason
reason_if code i at closed unmapped lacking = first_reason (
    (jumps i && leads_outside code (jumps_to i at), JumpOutside)
    ∷ (jumps i && leads_backward (jumps_to i at) at, JumpBackward)
    ∷ (falls i && nat_le (slot_count code) (falls_to i at), FallsOff)
    ∷ (not (is_reachable code at), Unreachable)
    ∷ (calls_unknown i, UnknownHelper)
    ∷ (is_number (written_register i) 10, FramePointerWritten)
    ∷ (closed, DescriptorNotOpen)
    ∷ (unmapped, DescriptorNotMap)
    ∷ (lacking, NoDirectValue)
    ∷ [])

module _ (code : List Insn) (named other : List Named)
    (same : (fd : ℕ) → is_among (maps_of code) fd ≡ true → shapes_named other fd ≡ shapes_named named fd)
    (accepted : IsAccepted code named) where
  -- the object that an instruction names
  same_named : (n : ℕ) (i : Insn)
      → begins_at code n ≡ Some i → (fd : ℕ) → descriptor i ≡ Some fd
      → target_of other fd ≡ target_of named fd
  same_named n i begins fd e =
      same_target (target_of other fd) (target_of named fd)
      (shaped code named accepted.0 n i begins fd e) (same fd (among_maps code n i begins fd e))

  same_reason : (n : ℕ) (i : Insn)
      → begins_at code n ≡ Some i → shape_reason code other i n ≡ shape_reason code named i n
  same_reason n i begins =
      let here = same_named n i begins in
      ap (λ (b : Bool). reason_if code i n b (is_not_map other (descriptor i)) (lacks_value other i))
      (open_same named other (descriptor i) here)
      ∙ ap (λ (b : Bool). reason_if code i n (is_not_open named (descriptor i)) b (lacks_value other i))
      (map_same named other (descriptor i) here)
      ∙ ap (λ (b : Bool). reason_if code i n (is_not_open named (descriptor i)) (is_not_map named (descriptor i)) b)
      (value_same named other (profile i).reference here)

  same_shape_at : (n : ℕ) (o : Option Insn) → begins_at code n ≡ o → shape_reason_at code other n o ≡ shape_reason_at code named n o
  same_shape_at n None begins = refl
  same_shape_at n (Some i) begins = same_reason n i begins

  well_shaped : HasNoFault (structure_fault code other)
  unfolding structure_fault
  well_shaped n = same_shape_at n (begins_at code n) refl ∙ accepted.0 n

  -- the shapes of the program's maps
  same_kept : (fd : ℕ) → shapes_of code other fd ≡ shapes_of code named fd
  same_kept fd = by (is_among (maps_of code) fd) refl
    where
      by : (b : Bool) → is_among (maps_of code) fd ≡ b → shapes_of code other fd ≡ shapes_of code named fd
      by true e =
          ap shape_in (target_kept (maps_of code) fd e other)
          ∙ same fd e
          ∙ sym (ap shape_in (target_kept (maps_of code) fd e named))
      by false e = none_kept (maps_of code) other fd e ∙ sym (none_kept (maps_of code) named fd e)

  -- a program that was accepted is also accepted with other objects in which its maps have the same shapes
  pub accepted_too : IsAccepted code other
  accepted_too = (
    well_shaped,
    subst (λ (s : Shapes). HasNoFault (safety_fault s code)) (sym (λ j fd. same_kept fd j)) accepted.1,
  )

pub same_shapes_are_accepted : SameShapesAreAccepted
same_shapes_are_accepted code named other same accepted =
    accepted_too code named other
    (each_among (λ fd. shapes_named other fd ≡ shapes_named named fd) (maps_of code) same)
    accepted

-- an accepted program is accepted with objects that it fits
pub fits_accepted : (a : Accepted) (named : List Named) → IsVerified a → Fits a named → IsAccepted a.code named
fits_accepted a named is fits =
    accepted_too a.code is.named named
    (λ fd among. each_among (λ n. shapes_named named n ≡ shapes_in a n) (maps_of a.code) fits fd among
    ∙ ap (λ (es : List Named). shapes_named es fd) is.shaped
    ∙ ap shape_in (target_kept (maps_of a.code) fd among is.named))
    is.accepted

-- it is what its slots are judged to be with these objects
pub fits_judged : (a : Accepted) (named : List Named)
    → IsProgram a.code → IsVerified a
    → Fits a named
    → Judges named (program_bytes a.code) (Ok a.code)
fits_judged a named program is fits = (program, refl, fits_accepted a named is fits)
