-- If two members take an edge, they are members of the ranges on it.
use Rattle.std.proofs.Common.{◌≡◌, ℕ, ◌%◌, ◌^◌, ◌<◌, ◌≤◌, ◌≢◌, ◌==◌, true, false, nat_lt, IsTrue, IsFalse, Option, Some, None, refl, sym, ap₂, ◌∙◌, ◌&&◌, arith}
use Rattle.std.proofs.Math.Nat.{mod-eq_of_lt}
use Rattle.std.proofs.lemmas.Bool.{cond_both, eqb-true, eqb-false, ltb-true, ltb-false, leb-true, leb-false, not-true, not-false, and_parts}
use Rattle.std.proofs.lemmas.Bool.Decides.{nat_tests}
use Rattle.interval.specs.declared.range.Range.{Range}
use Rattle.interval.specs.Ranges.{IsMember}
use Rattle.interval.specs.Refine.{RangePair, swapped, if_equal, if_different, if_above, if_at_most, IsPairOn, EdgePairs, edges, unchanged, refined}
use Rattle.words.specs.declared.operator.Condition.{Condition}
use Rattle.words.specs.declared.operator.Condition.TheVariants.{Equal, NotEqual, Above, AboveOrEqual, Below, BelowOrEqual}
use Rattle.words.specs.Operate.{operand_bits}
use Rattle.words.specs.Compare.{holds, compares}
use Rattle.interval.specs.Laws.{IsOfWords, IsPairOfWords}

equal_keeps : (a b : Range) (x y : ℕ) → IsMember x a → IsMember y b → x ≡ y → IsPairOn (if_equal a b) x y
equal_keeps a b x y h k e = grind (arith, nat_tests)

above_keeps : (a b : Range) (x y : ℕ) → IsMember x a → IsMember y b → y < x → IsPairOn (if_above a b) x y
above_keeps a b x y h k e = grind (arith, nat_tests)

at_most_keeps : (a b : Range) (x y : ℕ) → IsMember x a → IsMember y b → x ≤ y → IsPairOn (if_at_most a b) x y
at_most_keeps a b x y h k e = grind (arith, nat_tests)

different_keeps : (a b : Range) (x y : ℕ) → IsMember x a → IsMember y b → x ≢ y → IsPairOn (if_different a b) x y
different_keeps a b x y h k e = grind (arith, nat_tests)

turned_keeps : (e : Option RangePair) (x y : ℕ) → IsPairOn e y x → IsPairOn (swapped e) x y
turned_keeps None x y h = h
turned_keeps (Some p) x y h = (h.1, h.0)

-- both edges of a comparison whose operands are below 2 ^ n
abbrev BothKeep : ℕ → Condition → Range → Range → ℕ → ℕ → EdgePairs → Type 0
BothKeep n condition a b x y e =
    (holds n condition x y ≡ true → IsPairOn e.0 x y) × (holds n condition x y ≡ false → IsPairOn e.1 x y)

stay : (n : ℕ) (condition : Condition) (a b : Range) (x y : ℕ)
    → IsMember x a → IsMember y b → BothKeep n condition a b x y (unchanged a b)
stay n condition a b x y h k = ((λ _. (h, k)), (λ _. (h, k)))

edges_keep : (n : ℕ) (condition : Condition) (a b : Range) (x y : ℕ)
    → IsMember x a → IsMember y b
    → BothKeep n condition a b x y (edges condition a b)
edges_keep n Equal a b x y h k = (
  (λ t. equal_keeps a b x y h k (eqb-true x y t)),
  (λ t. different_keeps a b x y h k (eqb-false x y t)),
)
edges_keep n NotEqual a b x y h k = (
  (λ t. different_keeps a b x y h k (eqb-false x y (not-true (x == y) t))),
  (λ t. equal_keeps a b x y h k (eqb-true x y (not-false (x == y) t))),
)
edges_keep n Above a b x y h k = (
  (λ t. above_keeps a b x y h k (ltb-true y x t)),
  (λ t. at_most_keeps a b x y h k (ltb-false y x t)),
)
edges_keep n BelowOrEqual a b x y h k = (
  (λ t. at_most_keeps a b x y h k (leb-true x y t)),
  (λ t. above_keeps a b x y h k (leb-false x y t)),
)
edges_keep n Below a b x y h k = (
  (λ t. turned_keeps (if_above b a) x y (above_keeps b a y x k h (ltb-true x y t))),
  (λ t. turned_keeps (if_at_most b a) x y (at_most_keeps b a y x k h (ltb-false x y t))),
)
edges_keep n AboveOrEqual a b x y h k = (
  (λ t. turned_keeps (if_at_most b a) x y (at_most_keeps b a y x k h (leb-true y x t))),
  (λ t. turned_keeps (if_above b a) x y (above_keeps b a y x k h (leb-false y x t))),
)
edges_keep n condition a b x y h k = stay n condition a b x y h k

-- an operand below 2 ^ n is not cut
seen_whole : (n x : ℕ) → x < 2 ^ n → operand_bits n x ≡ x
seen_whole n x h = cond_both (nat_lt n 64) (x % 2 ^ n) x (λ v. v ≡ x) (λ _. mod-eq_of_lt h) (λ _. refl)

-- two members that take an edge of a comparison are members of the refined ranges on it
pub refined_keep : (n : ℕ) (condition : Condition) (a b : Range) (x y : ℕ)
    → IsMember x a → IsMember y b
    → (IsTrue (compares n condition x y) → IsPairOn (refined n condition a b).0 x y)
    × (IsFalse (compares n condition x y) → IsPairOn (refined n condition a b).1 x y)
refined_keep n condition a b x y h k =
    cond_both (nat_lt a.hi (2 ^ n) && nat_lt b.hi (2 ^ n)) (edges condition a b) (unchanged a b)
    (λ e.
    (IsTrue (compares n condition x y) → IsPairOn e.0 x y) × (IsFalse (compares n condition x y) → IsPairOn e.1 x y))
    (λ t.
    let parts = and_parts (nat_lt a.hi (2 ^ n)) (nat_lt b.hi (2 ^ n)) t in
    let seen_x : operand_bits n x ≡ x = seen_whole n x (omega (arith, ltb-true a.hi (2 ^ n) parts.0, h.to)) in
    let seen_y : operand_bits n y ≡ y = seen_whole n y (omega (arith, ltb-true b.hi (2 ^ n) parts.1, k.to)) in
    let same : holds n condition x y ≡ compares n condition x y = sym (ap₂ (holds n condition) seen_x seen_y) in
    let keep = edges_keep n condition a b x y h k in
    ((λ w. keep.0 (same ∙ w)), (λ w. keep.1 (same ∙ w))))
    (λ _. ((λ _. (h, k)), (λ _. (h, k))))

-- ---- the ranges on the edges are ranges of words

equal_words : (a b : Range) → IsOfWords a → IsOfWords b → IsPairOfWords (if_equal a b)
equal_words a b p q = grind (arith, nat_tests)

different_words : (a b : Range) → IsOfWords a → IsOfWords b → IsPairOfWords (if_different a b)
different_words a b p q = grind (arith, nat_tests)

above_words : (a b : Range) → IsOfWords a → IsOfWords b → IsPairOfWords (if_above a b)
above_words a b p q = grind (arith, nat_tests)

at_most_words : (a b : Range) → IsOfWords a → IsOfWords b → IsPairOfWords (if_at_most a b)
at_most_words a b p q = grind (arith, nat_tests)

turned_words : (e : Option RangePair) → IsPairOfWords e → IsPairOfWords (swapped e)
turned_words None h = h
turned_words (Some p) h = (h.1, h.0)

abbrev pub BothWords : EdgePairs → Type 0
BothWords e = IsPairOfWords e.0 × IsPairOfWords e.1

edges_words : (condition : Condition) (a b : Range) → IsOfWords a → IsOfWords b → BothWords (edges condition a b)
edges_words Equal a b p q = (equal_words a b p q, different_words a b p q)
edges_words NotEqual a b p q = (different_words a b p q, equal_words a b p q)
edges_words Above a b p q = (above_words a b p q, at_most_words a b p q)
edges_words BelowOrEqual a b p q = (at_most_words a b p q, above_words a b p q)
edges_words Below a b p q =
    (turned_words (if_above b a) (above_words b a q p), turned_words (if_at_most b a) (at_most_words b a q p))
edges_words AboveOrEqual a b p q =
    (turned_words (if_at_most b a) (at_most_words b a q p), turned_words (if_above b a) (above_words b a q p))
edges_words condition a b p q = ((p, q), (p, q))

-- on both edges of a comparison, ranges of words are refined to ranges of words
pub refined_words : (n : ℕ) (condition : Condition) (a b : Range)
    → IsOfWords a → IsOfWords b → BothWords (refined n condition a b)
refined_words n condition a b p q =
    cond_both (nat_lt a.hi (2 ^ n) && nat_lt b.hi (2 ^ n)) (edges condition a b) (unchanged a b) BothWords
    (λ _. edges_words condition a b p q)
    (λ _. ((p, q), (p, q)))
