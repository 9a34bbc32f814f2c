-- Keys in arrays of one length. This project's own.
use Rattle.std.specs.Prelude.{◌≡◌, ℕ, ◌-◌, ◌≤◌, List, ◌++◌, length, take, drop, replicate}
use Rattle.std.proofs.Common.{◌∙◌, sym, ap, subst, take-append-drop, length-take-le}

-- the bytes, and zeros after them up to n bytes; n or more bytes get none
abbrev pub padded : ℕ → List ℕ → List ℕ
padded n bytes = bytes ++ replicate (n - length bytes) 0

-- if an array of n bytes has zeros after the first k, these k bytes, padded, are the array: so the
-- bytes of a key determine its `InlineKey`
pub given_back : (n k : ℕ) (bytes : List ℕ)
    → k ≤ n
    → length bytes ≡ n
    → drop k bytes ≡ replicate (n - k) 0
    → (padded n (take k bytes) ≡ bytes) × (length (take k bytes) ≡ k)
given_back n k bytes within long zeros =
    let count : length (take k bytes) ≡ k =
    length-take-le k bytes (subst (λ (m : ℕ). k ≤ m) (sym long) within) in (
      ap (λ (m : ℕ). take k bytes ++ replicate (n - m) 0) count
          ∙ ap (λ (zs : List ℕ). take k bytes ++ zs) (sym zeros)
          ∙ take-append-drop k bytes,
      count,
    )
