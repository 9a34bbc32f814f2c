-- Moved pointers: if the result has a kind, the machine gives a value of that kind.
use Rattle.std.proofs.Common.{◌≡◌, ℕ, ◌<◌, ◌≤◌, ◌^◌, ℤ, pos, ◌+ℤ◌, ◌-ℤ◌, neg_ℤ, ◌≤ℤ◌, true, false}
use Rattle.std.proofs.Common.{if◌then◌else◌, Option, Result, Some, None, Ok, Err, refl, sym, ap, subst, ◌∙◌, arith}
use Rattle.std.specs.Prelude.{nat_lt, nat_le, int_le}
use Rattle.std.specs.Int.{int_max}
use Rattle.std.proofs.lemmas.Int.{ints, clamps}
use Rattle.std.proofs.lemmas.Bool.{cond_both, eqb-true, ltb-true, leb-true, cond-true, and_from}
use Rattle.interval.specs.declared.range.Range.{Range}
use Rattle.interval.specs.Ranges.{is_constant, IsMember}
use Rattle.words.specs.Words.{signed}
use Rattle.words.specs.SignLaws.{signed_low, signed_high}
use Rattle.reg_kinds.specs.declared.kind.ValuePointer.{ValuePointer}
use Rattle.reg_kinds.specs.declared.kind.Kind.{Kind}
use Rattle.reg_kinds.specs.declared.kind.Kind.TheVariants as kind
use Rattle.reg_kinds.specs.declared.reason.Reason.{Reason}
use Rattle.reg_kinds.specs.declared.reason.Reason.TheVariants.{PointerArithmetic}
use Rattle.reg_kinds.specs.Reason.{and_then_ok}
use Rattle.reg_kinds.specs.Pointers.{value_span}
use Rattle.tagged_model.specs.declared.value.Object.TheVariants as object
use Rattle.tagged_model.specs.declared.value.Tagged.TheVariants.{Pointer}
use Rattle.tagged_model.specs.Values.{farthest_offset, is_near, moved}
use Rattle.tagged_model.specs.StateLaws.{near_parts}
use Rattle.tagged_model.specs.Cells.{and_then}
use Rattle.transfer.specs.declared.arithmetic.Direction.{Direction}
use Rattle.transfer.specs.declared.arithmetic.Direction.TheVariants.{Forwards, Backwards}
use Rattle.transfer.specs.Arithmetic.{Distance, distance, near_offset, moved_offset, or_too_large, stack_moved, spanned, value_by, pointer_moved}
use Rattle.transfer.proofs.Parts.{Here, SomeIs, Gives}

abbrev pub shifted : Direction → ℤ → ℤ → ℤ
shifted Forwards x d = x +ℤ d
shifted Backwards x d = x -ℤ d

-- ---- the distance by which a number in a range moves a pointer

-- the number, read as signed, is between the ends, and the lower end is the range's low end, read as signed
record IsBetween (lo n : ℕ) (d : Distance) : Type 0 where
  from : d.0 ≤ℤ signed 64 n
  to : signed 64 n ≤ℤ d.1
  least : d.0 ≡ signed 64 lo

low_between : (lo n hi : ℕ) → lo ≤ n → n ≤ hi → hi < 2 ^ 63 → IsBetween lo n (pos lo, pos hi)
low_between lo n hi a b h =
    let at = signed_low n (omega arith) in
    let start = signed_low lo (omega arith) in
    record { from = omega (arith, ints); to = omega (arith, ints); least = sym start }

high_between : (lo n hi : ℕ)
    → lo ≤ n → n ≤ hi
    → 2 ^ 63 ≤ lo
    → IsBetween lo n (pos lo -ℤ pos (2 ^ 64), pos hi -ℤ pos (2 ^ 64))
high_between lo n hi a b h =
    let at = signed_high n (omega arith) in
    let start = signed_high lo h in
    record { from = omega (arith, ints); to = omega (arith, ints); least = sym start }

distance_holds : (r : Range) (n : ℕ) → IsMember n r → SomeIs (IsBetween r.lo n) (distance r)
distance_holds r n m =
    cond_both (nat_lt r.hi (2 ^ 63)) _ _ (SomeIs (IsBetween r.lo n))
    (λ e. low_between r.lo n r.hi m.from m.to (ltb-true r.hi (2 ^ 63) e))
    (λ _. cond_both (nat_le (2 ^ 63) r.lo) _ _ (SomeIs (IsBetween r.lo n))
    (λ e. high_between r.lo n r.hi m.from m.to (leb-true (2 ^ 63) r.lo e))
    (λ _. tt))

-- ---- offsets within the limit for pointers

near_between : (x z y : ℤ) → is_near x ≡ true → is_near y ≡ true → x ≤ℤ z → z ≤ℤ y → is_near z ≡ true
near_between x z y e f h g =
    let a = near_parts x e in let b = near_parts y f in
    let low : neg_ℤ (pos farthest_offset) ≤ℤ z = omega (arith, ints) in
    let high : z ≤ℤ pos farthest_offset = omega (arith, ints) in
    and_from (int_le (neg_ℤ (pos farthest_offset)) z) (int_le z (pos farthest_offset))
    (grind (arith, ints)) (grind (arith, ints))

at_most_max : (a b z : ℤ) → z ≤ℤ b → z ≤ℤ int_max a b
at_most_max a b z h = omega (arith, ints, clamps)

-- ---- pointers into the stack, and into values

-- the kind of a pointer with this offset; rejected without one, since the offset exceeds the limit
abbrev stack_kind : Option ℤ → Result Kind Reason
stack_kind o = and_then_ok (or_too_large o) (λ y. Ok (kind.Stack y))

abbrev value_kind : Option ValuePointer → Result Kind Reason
value_kind o = and_then_ok (or_too_large o) (λ q. Ok (kind.Value q))

module _ (here : Here) where
  stack_at : (y : ℤ) → Gives here (stack_kind (near_offset y)) (moved object.Stack y)
  stack_at y =
      elim (is_near y) as
      (λ b. Gives here (stack_kind (if b then Some y else None)) (if b then Some (Pointer object.Stack y) else None)) [
        | true ↦ record { is = refl; words = tt }
        | false ↦ tt
      ]

  stack_by : (way : Direction) (x : ℤ) (o : Option Distance) (z : ℤ)
      → SomeIs (λ d. d.0 ≡ z) o
      → Gives here (stack_kind (and_then o (λ d. moved_offset way x d.0))) (moved object.Stack (shifted way x z))
  stack_by way x None z h = tt
  stack_by Forwards x (Some d) z h =
      subst (λ e. Gives here (stack_kind (near_offset (x +ℤ d.0))) (moved object.Stack (x +ℤ e))) h
      (stack_at (x +ℤ d.0))
  stack_by Backwards x (Some d) z h =
      subst (λ e. Gives here (stack_kind (near_offset (x -ℤ d.0))) (moved object.Stack (x -ℤ e))) h
      (stack_at (x -ℤ d.0))

  least_is : (lo n : ℕ) (o : Option Distance) → lo ≡ n → SomeIs (IsBetween lo n) o → SomeIs (λ d. d.0 ≡ signed 64 n) o
  least_is lo n None e h = tt
  least_is lo n (Some d) e h = h.least ∙ ap (signed 64) e

  same_number : (lo hi n : ℕ) → lo ≤ n → n ≤ hi → lo ≡ hi → lo ≡ n
  same_number lo hi n a b e = omega arith

  -- if the facts give a moved stack pointer a kind, the machine has a pointer of this kind
  pub stack_agrees : (way : Direction) (x : ℤ) (r : Range) (n : ℕ)
      → IsMember n r
      → Gives here (pointer_moved way (kind.Stack x) r) (moved object.Stack (shifted way x (signed 64 n)))
  stack_agrees way x r n m =
      cond_both (is_constant r) (stack_moved way x r) (Err PointerArithmetic)
      (λ a. Gives here a (moved object.Stack (shifted way x (signed 64 n))))
      (λ e.
      stack_by way x (distance r) (signed 64 n)
      (least_is r.lo n (distance r) (same_number r.lo r.hi n m.from m.to (eqb-true r.lo r.hi e)) (distance_holds r n m)))
      (λ _. tt)

  -- an offset between two offsets within the limit
  span_agrees : (map number : ℕ) (a b z : ℤ)
      → number < here.witness.objects map → a ≤ℤ z
      → z ≤ℤ b
      → Gives here (value_kind (spanned map (near_offset a) (near_offset b))) (moved (object.Value map number) z)
  span_agrees map number a b z owned from to =
      cond_both (is_near a) (Some a) None
      (λ o. Gives here (value_kind (spanned map o (near_offset b))) (moved (object.Value map number) z))
      (λ e.
      cond_both (is_near b) (Some b) None
      (λ o. Gives here (value_kind (spanned map (Some a) o)) (moved (object.Value map number) z))
      (λ f.
      subst (Gives here (Ok (kind.Value (value_span map a b))))
      (sym (cond-true (is_near z) (Some (Pointer (object.Value map number) z)) None (near_between a z b e f from to)))
      (record { is = (number, z, refl, from, at_most_max a b z to, owned); words = tt }))
      (λ _. tt))
      (λ _. tt)

  sum_from : (x y c d : ℤ) → x ≤ℤ y → c ≤ℤ d → (x +ℤ c) ≤ℤ (y +ℤ d)
  sum_from x y c d h g = omega (arith, ints)

  difference_from : (x y c d : ℤ) → x ≤ℤ y → c ≤ℤ d → (x -ℤ d) ≤ℤ (y -ℤ c)
  difference_from x y c d h g = omega (arith, ints)

  value_at : (way : Direction) (p : ValuePointer) (lo n number : ℕ) (o : Option Distance) (x : ℤ)
      → number < here.witness.objects p.map → p.lo ≤ℤ x
      → x ≤ℤ p.hi → SomeIs (IsBetween lo n) o
      → Gives here (value_kind (and_then o (value_by way p)))
      (moved (object.Value p.map number) (shifted way x (signed 64 n)))
  value_at way p lo n number None x owned a b h = tt
  value_at Forwards p lo n number (Some d) x owned a b h =
      span_agrees p.map number (p.lo +ℤ d.0) (p.hi +ℤ d.1) (x +ℤ signed 64 n) owned
      (sum_from p.lo x d.0 (signed 64 n) a h.from) (sum_from x p.hi (signed 64 n) d.1 b h.to)
  value_at Backwards p lo n number (Some d) x owned a b h =
      span_agrees p.map number (p.lo -ℤ d.1) (p.hi -ℤ d.0) (x -ℤ signed 64 n) owned
      (difference_from p.lo x (signed 64 n) d.1 a h.to)
      (difference_from x p.hi d.0 (signed 64 n) b h.from)

  -- if the facts give a moved pointer into a value a kind, the machine has a pointer of this kind
  pub value_agrees : (way : Direction) (p : ValuePointer) (r : Range) (n number : ℕ) (x : ℤ)
      → IsMember n r → number < here.witness.objects p.map
      → p.lo ≤ℤ x → x ≤ℤ p.hi
      → Gives here (pointer_moved way (kind.Value p) r)
      (moved (object.Value p.map number) (shifted way x (signed 64 n)))
  value_agrees way p r n number x m owned a b =
      value_at way p r.lo n number (distance r) x owned a b (distance_holds r n m)
