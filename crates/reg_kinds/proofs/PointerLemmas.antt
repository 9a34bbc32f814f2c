-- Pointers into values are determined by their fields.
use Rattle.std.proofs.Common.{◌≡◌, ℕ, ℤ, ◌≤ℤ◌, FitsSigned, w32, refl, ap, ap₂, subst, ◌∙◌, arith}
use Rattle.std.proofs.lemmas.Int.{ints, clamps, to_z-of_z}
use Rattle.std.specs.Int.{int_min, int_max, cast_signed, cast_unsigned}
use Rattle.reg_kinds.specs.Pointers.{value_span, offsets_hull}
use Rattle.std.proofs.Props.{props}
use Rattle.reg_kinds.specs.declared.kind.ValuePointer.{ValuePointer}

abbrev made : (m : ℕ) (lo hi : ℤ) → lo ≤ℤ hi → ValuePointer
made m lo hi h = record { map = m; lo = lo; hi = hi; ordered = h }

order_prop : (x y : ℤ) → IsProp (x ≤ℤ y)
order_prop x y = hlevel props

same_fields : (m : ℕ) (lo hi : ℤ) (lo' hi' : ℤ) (p : lo ≤ℤ hi) (q : lo' ≤ℤ hi')
    → lo ≡ lo' → hi ≡ hi' → made m lo hi p ≡ made m lo' hi' q
same_fields m lo hi lo' hi' p q e f =
    let same : (h : lo ≤ℤ hi) → made m lo hi p ≡ made m lo hi h = λ h. ap (made m lo hi) (order_prop lo hi p h) in
    let moved : (h : lo' ≤ℤ hi) → made m lo hi p ≡ made m lo' hi h =
    subst (λ (x : ℤ). (h : x ≤ℤ hi) → made m lo hi p ≡ made m x hi h) e same in
    subst (λ (y : ℤ). (h : lo' ≤ℤ y) → made m lo hi p ≡ made m lo' y h) f moved q

-- pointers into values are equal if their maps and the ends of their offsets are
pub same_pointer : (r s : ValuePointer) → r.map ≡ s.map → r.lo ≡ s.lo → r.hi ≡ s.hi → r ≡ s
same_pointer r s d e f =
    let same : made r.map r.lo r.hi r.ordered ≡ made r.map s.lo s.hi s.ordered =
    same_fields r.map r.lo r.hi s.lo s.hi r.ordered s.ordered e f in
    subst (λ (m : ℕ). r ≡ made m s.lo s.hi s.ordered) d same

-- the span of the ends of the hull, as the code computes them
pub hull_is : (p q r : ValuePointer) (lo hi : ℤ)
    → FitsSigned w32 p.lo → FitsSigned w32 q.lo
    → FitsSigned w32 p.hi → FitsSigned w32 q.hi
    → FitsSigned w32 lo → FitsSigned w32 hi
    → lo ≡ int_min (cast_signed w32 (cast_unsigned w32 p.lo)) (cast_signed w32 (cast_unsigned w32 q.lo))
    → hi ≡ int_max (cast_signed w32 (cast_unsigned w32 p.hi)) (cast_signed w32 (cast_unsigned w32 q.hi))
    → r ≡ value_span p.map (cast_signed w32 (cast_unsigned w32 lo)) (cast_signed w32 (cast_unsigned w32 hi))
    → r ≡ offsets_hull p q
hull_is p q r lo hi pl ql ph qh fl fh el eh er =
    let low : cast_signed w32 (cast_unsigned w32 lo) ≡ int_min p.lo q.lo =
    to_z-of_z w32 lo fl ∙ (el ∙ ap₂ int_min (to_z-of_z w32 p.lo pl) (to_z-of_z w32 q.lo ql)) in
    let high : cast_signed w32 (cast_unsigned w32 hi) ≡ int_max p.hi q.hi =
    to_z-of_z w32 hi fh ∙ (eh ∙ ap₂ int_max (to_z-of_z w32 p.hi ph) (to_z-of_z w32 q.hi qh)) in
    let most : int_max (int_min p.lo q.lo) (int_max p.hi q.hi) ≡ int_max p.hi q.hi =
    omega (arith, ints, clamps, p.ordered, q.ordered) in
    er ∙ (ap₂ (value_span p.map) low high
    ∙ same_pointer (value_span p.map (int_min p.lo q.lo) (int_max p.hi q.hi)) (offsets_hull p q) refl refl most)
