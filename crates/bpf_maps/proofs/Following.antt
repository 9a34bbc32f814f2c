-- The key that follows has the size of all keys.
use Rattle.std.proofs.Common.{◌≡◌, ◌≤◌, ℕ, Bool, true, false, List, [], ◌∷◌, length, Option, Some, None}
use Rattle.std.proofs.Common.{is_some, option_map, IfSome, cond, refl, subst, sym, ap, ◌∙◌, if◌then◌else◌, arith}
use Rattle.std.specs.Cmp.Lexicographic.{bytes_decides}
use Rattle.tagged_model.specs.Table.{found, is_key, first_key, key_after_present, key_after}
use Rattle.bpf_maps.specs.declared.key_ref.KeyRef.{KeyRef}
use Rattle.bpf_maps.specs.KeyRef.{key_bytes}
use Rattle.bpf_maps.specs.KeyTable.{IsSized}

abbrev HasSize : ℕ → Option (List ℕ) → Type 0
HasSize n None = Unit {0}
HasSize n (Some key) = length key ≡ n

first_sized : (n : ℕ) (es : List (List ℕ × ℕ)) → IsSized n es → HasSize n (first_key es)
first_sized n [] sized = tt
first_sized n (e ∷ es) sized = sized.0

either_sized : (n : ℕ) (test : Bool) (a b : Option (List ℕ))
    → HasSize n a → HasSize n b → HasSize n (if test then a else b)
either_sized n true a b h k = h
either_sized n false a b h k = k

behind_sized : (n : ℕ) (key : List ℕ) (es : List (List ℕ × ℕ)) → IsSized n es → HasSize n (key_after_present key es)
behind_sized n key [] sized = tt
behind_sized n key (e ∷ es) sized =
    either_sized n (is_key key e.0) (first_key es) (key_after_present key es) (first_sized n es sized.1)
    (behind_sized n key es sized.1)

after_sized : (n : ℕ) (key : List ℕ) (es : List (List ℕ × ℕ)) → IsSized n es → HasSize n (key_after key es)
after_sized n key es sized =
    either_sized n (is_some (found key es)) (key_after_present key es) (first_key es)
    (behind_sized n key es sized) (first_sized n es sized)

given_of : (n : ℕ) (given : Option KeyRef)
    → HasSize n (option_map key_bytes given) → IfSome given (λ key. length (key_bytes key) ≡ n)
given_of n None h = tt
given_of n (Some key) h = h

-- the key that follows has the size of all keys
pub given_sized : (n : ℕ) (key : List ℕ) (es : List (List ℕ × ℕ)) (given : Option KeyRef)
    → IsSized n es
    → option_map key_bytes given ≡ key_after key es
    → IfSome given (λ key. length (key_bytes key) ≡ n)
given_sized n key es given sized e = given_of n given (subst (HasSize n) (sym e) (after_sized n key es sized))

-- a key of this size fits in a room of at least this size
pub given_short : (n room : ℕ) (given : Option KeyRef)
    → n ≤ room
    → IfSome given (λ key. length (key_bytes key) ≡ n)
    → IfSome given (λ key. length (key_bytes key) ≤ room)
given_short n room None fits sized = tt
given_short n room (Some key) fits sized = omega arith

-- no key has another size
pub absent_by_size : (n : ℕ) (key : List ℕ)
    → (length key ≡ n → ⊥) → (es : List (List ℕ × ℕ)) → IsSized n es
    → found key es ≡ None
absent_by_size n key differ [] sized = refl
absent_by_size n key differ (e ∷ es) sized = by (is_key key e.0) refl (absent_by_size n key differ es sized.1)
  where
    by : (b : Bool) → is_key key e.0 ≡ b → found key es ≡ None → cond b (Some e.1) (found key es) ≡ None
    by true is rest = absurd (differ (ap length ((bytes_decides key e.0).0 is) ∙ sized.0))
    by false is rest = rest
