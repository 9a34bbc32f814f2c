-- An array of a key's bytes, with zeros after them.
use Rattle.std.proofs.Common.{◌≡◌, ℕ, zero, suc, ◌-◌, ◌≤◌, List, [], ◌∷◌, ◌++◌, length, drop, replicate, ap, ◌∙◌, arith}
use Rattle.std.proofs.lemmas.List.{length-replicate}

-- n zeros whose front is overwritten by a key are still n bytes, with zeros after the key
pub filled : (bytes : List ℕ) (n : ℕ)
    → length bytes ≤ n
    → (length (bytes ++ drop (length bytes) (replicate n 0)) ≡ n)
    × (drop (length bytes) (bytes ++ drop (length bytes) (replicate n 0)) ≡ replicate (n - length bytes) 0)
filled [] n l = (length-replicate n 0, ap (λ (m : ℕ). replicate m 0) (let e : n ≡ n - 0 = omega arith in e))
filled (b ∷ bytes) zero l = absurd (omega arith)
filled (b ∷ bytes) (suc n) l =
    let r = filled bytes n (omega arith) in (
      ap suc r.0,
      r.1 ∙ ap (λ (m : ℕ). replicate m 0) (let e : n - length bytes ≡ suc n - suc (length bytes) = omega arith in e),
    )
