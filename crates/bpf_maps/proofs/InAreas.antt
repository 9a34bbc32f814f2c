-- The positions of values in areas, and of the areas in a part.
use Rattle.std.proofs.Common.{◌≡◌, ◌≢◌, ℕ, ◌+◌, ◌-◌, ◌*◌, ◌/◌, ◌%◌, ◌<◌, ◌≤◌, ◌⊎◌, Bool, if◌then◌else◌, ap, ◌∙◌, arith, ⊎_elim, inl, inr}
use Rattle.std.proofs.lemmas.Bool.{le-leb, lt-leb, cases_lt}
use Rattle.tagged_model.specs.Shape.{area}
use Rattle.bpf_maps.specs.declared.part.TheConstants.{STACK_AND_CONTEXT, LARGEST_SUM}
use Rattle.bpf_maps.specs.Live.{LiesInPart, start_without}

times_less : (a b c : ℕ) → a ≤ b → a * c ≤ b * c
times_less a b c l = grind arith

-- an area is a multiple of eight bytes
pub area_aligned : (value max : ℕ) → area value max % 8 ≡ 0
area_aligned value max = rounded ((value + 7) / 8)
  where
    rounded : (r : ℕ) → max * (r * 8) % 8 ≡ 0
    rounded r = let e : max * (r * 8) ≡ max * r * 8 = omega arith in omega arith

module _ (value max stride : ℕ) (round : stride ≡ (value + 7) / 8 * 8) where
  wide : value ≤ stride
  wide = omega arith

  -- a value ends at the start of the next one, or before it
  pub value_before : (p q : ℕ) → p < q → p * stride + value ≤ q * stride
  value_before p q l = let m = times_less (p + 1) q stride (omega arith) in let w = wide in omega arith

  -- a value lies in the area of its map
  pub value_ends : (p : ℕ) → p < max → p * stride + value ≤ area value max
  value_ends p l =
      let b = value_before p max l in
      let e : max * stride ≡ area value max = ap (λ (s : ℕ). max * s) round in
      omega arith

  -- the value lies in the part
  pub element_inside : (start bytes p : ℕ)
      → STACK_AND_CONTEXT ≤ start → start % 8 ≡ 0
      → start + area value max ≤ STACK_AND_CONTEXT + bytes
      → bytes ≤ LARGEST_SUM → p < max
      → LiesInPart (start + p * stride) value
  element_inside start bytes p behind aligned within few l = record {
    behind = omega arith;
    within = let i = value_ends p l in omega arith;
    aligned = ap (λ (s : ℕ). (start + p * s) % 8) round ∙ aligned_at ((value + 7) / 8);
  }
    where
      aligned_at : (r : ℕ) → (start + p * (r * 8)) % 8 ≡ 0
      aligned_at r = let e : p * (r * 8) ≡ p * r * 8 = omega arith in omega arith

-- values of one map
pub apart_elements : (value stride start p q : ℕ)
    → stride ≡ (value + 7) / 8 * 8 → p ≢ q
    → (start + p * stride + value ≤ start + q * stride) ⊎ (start + q * stride + value ≤ start + p * stride)
apart_elements value stride start p q round ne =
    ⊎_elim
    (λ (l : p < q). let b = value_before value 0 stride round p q l in inl (omega arith))
    (λ (l : q ≤ p). let b = value_before value 0 stride round q p (omega arith) in inr (omega arith))
    (cases_lt p q)

-- ---- an area is removed

-- the start of a later area after that
module _ (end size start : ℕ) where
  -- an area that begins at the end of the removed one or later is moved down by its size
  pub lower : end ≤ start → start_without end size start ≡ start - size
  lower l = ap (λ (b : Bool). if b then start - size else start) (le-leb end start l)

  -- an area that begins before the end of the removed one is not moved
  pub same : start < end → start_without end size start ≡ start
  same l = ap (λ (b : Bool). if b then start - size else start) (lt-leb end start l)

-- an area of n bytes at s, apart from the area of `size` bytes at `gone` that is freed: it lies before that one and is not moved, or
-- it lies after it and is moved down
module _ (gone size s n : ℕ) (apart : (gone + size ≤ s) ⊎ (s + n ≤ gone)) where
  -- the area lies before the removed one and is not moved, or after it and is moved down by its size
  pub before_or_behind : ((s + n ≤ gone) × (start_without (gone + size) size s ≡ s))
      ⊎ ((gone + size ≤ s) × (start_without (gone + size) size s ≡ s - size))
  before_or_behind =
      ⊎_elim
      (λ (l : s < gone + size).
      inl (
        ⊎_elim (λ (m : gone + size ≤ s). absurd (omega arith)) (λ (m : s + n ≤ gone). m) apart,
        same (gone + size) size s l,
      ))
      (λ (l : gone + size ≤ s). inr (l, lower (gone + size) size s l))
      (cases_lt s (gone + size))

-- two areas that lie apart do so afterwards
pub apart_still : (gone size s n t m : ℕ)
    → (gone + size ≤ s) ⊎ (s + n ≤ gone) → (gone + size ≤ t) ⊎ (t + m ≤ gone)
    → (s + n ≤ t) ⊎ (t + m ≤ s)
    → (start_without (gone + size) size s + n ≤ start_without (gone + size) size t)
    ⊎ (start_without (gone + size) size t + m ≤ start_without (gone + size) size s)
apart_still gone size s n t m one two both =
    ⊎_elim
    (λ x. ⊎_elim
    (λ y. let a = x.1 in let b = y.1 in ⊎_elim (λ z. inl (omega arith)) (λ z. inr (omega arith)) both)
    (λ y. let a = x.1 in let b = y.1 in let c = x.0 in let d = y.0 in inl (omega arith))
    (before_or_behind gone size t m two))
    (λ x. ⊎_elim
    (λ y. let a = x.1 in let b = y.1 in let c = x.0 in let d = y.0 in inr (omega arith))
    (λ y.
    let a = x.1 in
    let b = y.1 in
    let c = x.0 in
    let d = y.0 in
    ⊎_elim (λ z. inl (omega arith)) (λ z. inr (omega arith)) both)
    (before_or_behind gone size t m two))
    (before_or_behind gone size s n one)
