-- The number of uses of an element.
use Rattle.std.proofs.Common.{◌≡◌, ℕ, ◌+◌, nat_eq, if◌then◌else◌, List, [], ◌∷◌, eq-eqb, refl, ap, ◌∙◌, arith}
use Rattle.std.specs.Map.{values_of}
use Rattle.std.proofs.lemmas.Bool.{cond-true}
use Rattle.tagged_model.specs.Table.{with_key}
use Rattle.bpf_maps.specs.KeyTable.{occurrences}

-- a new entry adds one use of its element, and none of other elements
pub times_with : (q p : ℕ) (key : List ℕ) (es : List (List ℕ × ℕ))
    → occurrences q (values_of (with_key key p es)) ≡ occurrences q (values_of es) + (if nat_eq q p then 1 else 0)
times_with q p key [] = omega arith
times_with q p key (e ∷ es) = ap (λ (n : ℕ). (if nat_eq q e.1 then 1 else 0) + n) (times_with q p key es) ∙ omega arith

-- one occurrence of an element counts as 1
pub counted_once : (p : ℕ) → ◌≡◌ {A = ℕ} (if nat_eq p p then 1 else 0) 1
counted_once p = cond-true (nat_eq p p) 1 0 (eq-eqb p p refl)
