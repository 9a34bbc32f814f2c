-- A range is determined by its ends.
use Rattle.std.proofs.Common.{◌≡◌, ℕ, ◌≤◌, ap, subst}
use Rattle.std.proofs.Math.Bridge.{le_prop}
use Rattle.interval.specs.declared.range.Range.{Range}

abbrev made : (lo hi : ℕ) → lo ≤ hi → Range
made lo hi h = record { lo = lo; hi = hi; ordered = h }

same_ends : (lo hi lo' hi' : ℕ) (p : lo ≤ hi) (q : lo' ≤ hi') → lo ≡ lo' → hi ≡ hi' → made lo hi p ≡ made lo' hi' q
same_ends lo hi lo' hi' p q e f =
    let same : (h : lo ≤ hi) → made lo hi p ≡ made lo hi h = λ h. ap (made lo hi) (le_prop p h) in
    let moved : (h : lo' ≤ hi) → made lo hi p ≡ made lo' hi h =
    subst (λ (x : ℕ). (h : x ≤ hi) → made lo hi p ≡ made x hi h) e same in
    subst (λ (y : ℕ). (h : lo' ≤ y) → made lo hi p ≡ made lo' y h) f moved q

-- ranges with the same ends are the same
pub same_range : (r s : Range) → r.lo ≡ s.lo → r.hi ≡ s.hi → r ≡ s
same_range r s e f = same_ends r.lo r.hi s.lo s.hi r.ordered s.ordered e f
