-- Room in the values of maps.
use Rattle.std.proofs.Common.{◌≡◌, ℕ, ◌<◌, ◌≤◌, ℤ, pos, ◌+ℤ◌, ◌≤ℤ◌, int_le, Bool, true, false, ◌&&◌, if◌then◌else◌, Some, Result, Ok, Err, refl, subst, arith}
use Rattle.std.proofs.lemmas.Bool.{and_parts}
use Rattle.std.proofs.lemmas.Int.{ints}
use Rattle.reg_kinds.specs.declared.kind.ValuePointer.{ValuePointer}
use Rattle.reg_kinds.specs.declared.facts.Facts.{Facts}
use Rattle.reg_kinds.specs.declared.reason.Reason.{Reason}
use Rattle.reg_kinds.specs.declared.reason.Reason.TheVariants.{OutsideValue}
use Rattle.tagged_model.specs.declared.shape.MapShape.{MapShape}
use Rattle.tagged_model.specs.Named.{Shapes}
use Rattle.tagged_model.specs.State.{RunState}
use Rattle.abstraction.specs.Admits.{Witness, objects_of}
use Rattle.abstraction.specs.Laws.{IsObject, Describes}
use Rattle.transfer.specs.Calls.{check_in_value}
use Rattle.transfer.proofs.Parts.{refused}

-- an object to which a pointer points
pub owned : {witness : Witness} {shapes : Shapes} {f : Facts} {s : RunState}
    → Describes witness f shapes s
    → (m number : ℕ) (shape : MapShape) → shapes m ≡ Some shape
    → number < witness.objects m
    → IsObject s m number shape
owned {witness = witness} still m number shape e lt =
    let h = still.maps m shape e in
    let le : witness.objects m ≤ h.0.count =
    subst (λ o. witness.objects m ≤ objects_of o) h.1 (still.admits.objects m) in
    record { map = h.0; there = h.1; is = h.2; owned = omega arith }

-- n bytes from an offset on lie in a value
pub record HasAllRows (n : ℕ) (y : ℤ) (shape : MapShape) : Type 0 where
  -- the n bytes begin at or above the start of the value
  pub low : pos 0 ≤ℤ y
  -- the n bytes end at or below the end of the value
  pub high : (y +ℤ pos n) ≤ℤ pos shape.value_size

-- if n bytes from each offset of the pointer lie in a value, so do n bytes from this one
pub room_at : (p : ValuePointer) (off : ℤ) (n : ℕ) (x : ℤ) (shape : MapShape)
    → p.lo ≤ℤ x → x ≤ℤ p.hi
    → check_in_value p off n (Some shape) ≡ Ok tt
    → HasAllRows n (x +ℤ off) shape
room_at p off n x shape from to e =
    let c = passed (int_le (pos 0) (p.lo +ℤ off) && int_le ((p.hi +ℤ off) +ℤ pos n) (pos shape.value_size)) e in
    let h = and_parts (int_le (pos 0) (p.lo +ℤ off)) (int_le ((p.hi +ℤ off) +ℤ pos n) (pos shape.value_size)) c in
    let a = h.0 in
    let b = h.1 in
    let lo : pos 0 ≤ℤ (p.lo +ℤ off) = grind (arith, ints) in
    let hi : ((p.hi +ℤ off) +ℤ pos n) ≤ℤ pos shape.value_size = grind (arith, ints) in
    record { low = omega (arith, ints); high = omega (arith, ints) }
  where
    passed : (b : Bool) → ◌≡◌ {A = Result (Unit {0}) Reason} (if b then Ok tt else Err OutsideValue) (Ok tt) → b ≡ true
    passed true e = refl
    passed false e = absurd (refused OutsideValue tt e)

-- if n bytes from each offset of a pointer lie in its value, so do n bytes from an offset between its ends
pub room_here : (p : ValuePointer) (n : ℕ) (x : ℤ) (shape : MapShape)
    → p.lo ≤ℤ x → x ≤ℤ p.hi
    → check_in_value p (pos 0) n (Some shape) ≡ Ok tt
    → HasAllRows n x shape
room_here p n x shape from to e =
    let back : x +ℤ pos 0 ≡ x = omega (arith, ints) in
    subst (λ y. HasAllRows n y shape) back (room_at p (pos 0) n x shape from to e)
