-- Operators: if the result has a kind, the machine gives a value of that kind.
use Rattle.std.proofs.Common.{◌≡◌, ℕ, ◌<◌, ◌^◌, ℤ, Bool, true, Option, Some, Result, Err, refl, sym, ap, subst, ◌∙◌, arith}
use Rattle.std.specs.Prelude.{◌||◌}
use Rattle.std.proofs.lemmas.Bool.{cond_both}
use Rattle.interval.specs.declared.range.Range.{Range}
use Rattle.words.specs.declared.operator.Operator.{Operator}
use Rattle.words.specs.declared.operator.Operator.TheVariants.{Binary}
use Rattle.interval.specs.Ranges.{full, IsMember}
use Rattle.words.specs.Operate.{operate}
use Rattle.interval.specs.Table.{range_of}
use Rattle.interval.specs.Laws.{ResultsAreMembers, ResultsAreWords}
use Rattle.words.specs.declared.operator.AluOp.{AluOp}
use Rattle.words.specs.declared.operator.AluOp.TheVariants as alu
use Rattle.reg_kinds.specs.declared.kind.Kind.{Kind}
use Rattle.reg_kinds.specs.declared.kind.Kind.TheVariants as kind
use Rattle.reg_kinds.specs.declared.reason.Reason.{Reason}
use Rattle.reg_kinds.specs.declared.reason.Reason.TheVariants.{MaybeNull}
use Rattle.tagged_model.specs.declared.value.Tagged.{Tagged}
use Rattle.tagged_model.specs.declared.value.Tagged.TheVariants.{Scalar, Pointer}
use Rattle.tagged_model.specs.declared.value.Object.{Object}
use Rattle.tagged_model.specs.declared.value.Object.TheVariants as object
use Rattle.words.specs.Widths.{width}
use Rattle.words.specs.Words.{signed}
use Rattle.tagged_model.specs.Values.{of_numbers, moved, sum, difference, arithmetic, of_number}
use Rattle.abstraction.specs.Admits.{IsOfKind}
use Rattle.transfer.specs.declared.arithmetic.Direction.{Direction}
use Rattle.transfer.specs.declared.arithmetic.Direction.TheVariants.{Forwards, Backwards}
use Rattle.transfer.specs.Arithmetic.{pointer_moved, is_maybe_value, of_scalars, sum_kind, difference_kind, unless_maybe, arithmetic_kind, of_scalar}
use Rattle.transfer.proofs.Parts.{AtBothWidths, at_width, Here, Gives, IsKindOf}
use Rattle.transfer.proofs.States.{scalar_of}
use Rattle.transfer.proofs.Pointers.{shifted, stack_agrees, value_agrees}

-- the laws of results of operators on words
pub record Results : Type 0 where
  -- the result of an operator on members of two ranges is a member of the range of its results
  pub members : AtBothWidths ResultsAreMembers
  -- the range of the results of an operator on ranges of words is a range of words
  pub words : AtBothWidths ResultsAreWords

-- ---- one number, or two

-- what holds of each number in a range holds of a value of this range's kind
pub by_number : (here : Here) (r : Range) (v : Tagged) (P : Tagged → Type 0)
    → IsOfKind here.witness (kind.Scalar r) v → ((n : ℕ) → IsMember n r → P (Scalar n))
    → P v
by_number here r v P h go = subst P (sym h.1) (go h.0 h.2)

by_numbers : (here : Here) (a b : Range) (v w : Tagged) (P : Tagged → Tagged → Type 0)
    → IsOfKind here.witness (kind.Scalar a) v → IsOfKind here.witness (kind.Scalar b) w
    → ((m n : ℕ) → IsMember m a → IsMember n b → P (Scalar m) (Scalar n))
    → P v w
by_numbers here a b v w P h g go =
    by_number here a v (λ v. P v w) h (λ m x. by_number here b w (P (Scalar m)) g (λ n y. go m n x y))

module _ (here : Here) (laws : Results) where
  result_of : (wide : Bool) (op : Operator) (a b : Range) (m n : ℕ)
      → a.hi < 2 ^ 64 → b.hi < 2 ^ 64
      → IsMember m a → IsMember n b
      → IsKindOf here (kind.Scalar (range_of (width wide) op a b)) (Scalar (operate (width wide) op m n))
  result_of wide op a b m n s t x y =
      scalar_of here (range_of (width wide) op a b) (operate (width wide) op m n)
      (at_width laws.members wide op a b m n s t x y) (at_width laws.words wide op a b s t)

  -- the result of an operator on two numbers is a number
  pub number_made : (wide : Bool) (op : Operator) (a b : Range) (v w : Tagged)
      → IsKindOf here (kind.Scalar a) v → IsKindOf here (kind.Scalar b) w
      → (n : ℕ) × (of_numbers wide op v w ≡ Some (Scalar n)) × IsKindOf here (kind.Scalar (full 64)) (Scalar n)
  number_made wide op a b v w h g =
      by_numbers here a b v w
      (λ v w. (n : ℕ) × (of_numbers wide op v w ≡ Some (Scalar n)) × IsKindOf here (kind.Scalar (full 64)) (Scalar n))
      h.is g.is
      (λ m n x y.
      let member = at_width laws.members wide op a b m n h.words g.words x y in
      let word = at_width laws.words wide op a b h.words g.words in
      let made : ℕ = operate (width wide) op m n in
      let low : made < 2 ^ 64 = omega (arith, member.to, word) in
      (made, refl, scalar_of here (full 64) made (record { from = omega arith; to = omega (arith, low) }) (omega arith)))

  numbers_agree : (wide : Bool) (op : Operator) (k l : Kind) (v w : Tagged)
      → IsKindOf here k v → IsKindOf here l w
      → Gives here (of_scalars wide op k l) (of_numbers wide op v w)
  numbers_agree wide op (kind.Scalar a) (kind.Scalar b) v w h g =
      by_numbers here a b v w
      (λ v w. Gives here (of_scalars wide op (kind.Scalar a) (kind.Scalar b)) (of_numbers wide op v w))
      h.is g.is
      (λ m n x y. result_of wide op a b m n h.words g.words x y)
  numbers_agree wide op k l v w h g = tt

  -- the result of an operator on one number
  pub number_agrees : (wide : Bool) (op : Operator) (f : ℕ → ℕ)
      → ((n : ℕ) → operate (width wide) op n n ≡ f n)
      → (k : Kind) (v : Tagged) → IsKindOf here k v
      → Gives here (of_scalar wide op k) (of_number f v)
  number_agrees wide op f same (kind.Scalar a) v h =
      by_number here a v (λ v. Gives here (of_scalar wide op (kind.Scalar a)) (of_number f v)) h.is
      (λ n x.
      subst (λ y. IsKindOf here (kind.Scalar (range_of (width wide) op a a)) (Scalar y)) (same n)
      (result_of wide op a a n n h.words h.words x x))
  number_agrees wide op f same k v h = tt

  -- ---- sums and differences of 64 bits

  -- a number is added to a pointer or subtracted from it; `on` is the operator on values
  pointer_agrees : (way : Direction) (on : Tagged → Tagged → Option Tagged)
      → ((o : Object) (x : ℤ) (n : ℕ) → on (Pointer o x) (Scalar n) ≡ moved o (shifted way x (signed 64 n)))
      → (k : Kind) (r : Range) (v w : Tagged) → IsKindOf here k v
      → IsKindOf here (kind.Scalar r) w
      → Gives here (pointer_moved way k r) (on v w)
  pointer_agrees way on same (kind.Stack x) r v w h g =
      by_number here r w (λ w. Gives here (pointer_moved way (kind.Stack x) r) (on v w)) g.is
      (λ n m.
      subst (Gives here (pointer_moved way (kind.Stack x) r))
      (sym (ap (λ v. on v (Scalar n)) h.is ∙ same object.Stack x n))
      (stack_agrees here way x r n m))
  pointer_agrees way on same (kind.Value p) r v w h g =
      by_number here r w (λ w. Gives here (pointer_moved way (kind.Value p) r) (on v w)) g.is
      (λ n m.
      subst (Gives here (pointer_moved way (kind.Value p) r))
      (sym (ap (λ v. on v (Scalar n)) h.is.2 ∙ same (object.Value p.map h.is.0) h.is.1 n))
      (value_agrees here way p r n h.is.0 h.is.1 m h.is.5 h.is.3 h.is.4))
  pointer_agrees way on same k r v w h g = tt

  sum_agrees : (k l : Kind) (v w : Tagged) → IsKindOf here k v → IsKindOf here l w → Gives here (sum_kind k l) (sum v w)
  sum_agrees (kind.Scalar a) (kind.Scalar b) v w h g =
      by_numbers here a b v w
      (λ v w. Gives here (sum_kind (kind.Scalar a) (kind.Scalar b)) (sum v w))
      h.is g.is
      (λ m n x y. result_of true (Binary alu.Add) a b m n h.words g.words x y)
  sum_agrees (kind.Scalar a) l v w h g = pointer_agrees Forwards (λ w v. sum v w) (λ o x n. refl) l a w v g h
  sum_agrees k (kind.Scalar b) v w h g = pointer_agrees Forwards sum (λ o x n. refl) k b v w h g
  sum_agrees k l v w h g = tt

  difference_agrees : (k l : Kind) (v w : Tagged)
      → IsKindOf here k v → IsKindOf here l w
      → Gives here (difference_kind k l) (difference v w)
  difference_agrees (kind.Scalar a) (kind.Scalar b) v w h g =
      by_numbers here a b v w
      (λ v w. Gives here (difference_kind (kind.Scalar a) (kind.Scalar b)) (difference v w))
      h.is g.is
      (λ m n x y. result_of true (Binary alu.Sub) a b m n h.words g.words x y)
  difference_agrees (kind.Scalar a) l v w h g = tt
  difference_agrees k (kind.Scalar b) v w h g = pointer_agrees Backwards difference (λ o x n. refl) k b v w h g
  difference_agrees k l v w h g = tt

  -- ---- all operators

  unless_agrees : (k l : Kind) (r : Result Kind Reason) (o : Option Tagged)
      → Gives here r o → Gives here (unless_maybe k l r) o
  unless_agrees k l r o h =
      cond_both (is_maybe_value k || is_maybe_value l) (Err MaybeNull) r (λ r. Gives here r o) (λ _. tt) (λ _. h)

  -- if the facts give the result of an operator a kind, the machine has a result of this kind
  pub arithmetic_agrees : (wide : Bool) (op : AluOp) (k l : Kind) (v w : Tagged)
      → IsKindOf here k v → IsKindOf here l w
      → Gives here (arithmetic_kind wide op k l) (arithmetic wide op v w)
  arithmetic_agrees true alu.Mov k l v w h g = g
  arithmetic_agrees true alu.Add k l v w h g = unless_agrees k l (sum_kind k l) (sum v w) (sum_agrees k l v w h g)
  arithmetic_agrees true alu.Sub k l v w h g =
      unless_agrees k l (difference_kind k l) (difference v w) (difference_agrees k l v w h g)
  arithmetic_agrees wide op k l v w h g = numbers_agree wide (Binary op) k l v w h g
