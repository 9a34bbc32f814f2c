-- Sums of a number over the elements that are present.
use Rattle.std.proofs.Common.{◌≡◌, ℕ, zero, suc, ◌+◌, ◌≤◌, ◌<◌, List, [], ◌∷◌, length, set, get_or, replicate, Option, Some, None, refl, ap, ap₂, arith}
use Rattle.std.specs.Option.{option_map_or}
use Rattle.std.proofs.lemmas.Option.{none-some}
use Rattle.bpf_maps.specs.Sum.{weight, total}

-- the sum over absent elements is 0
pub total-none : {A : Type 0} (f : A → ℕ) (n : ℕ) → total f (replicate n None) ≡ 0
unfolding total
total-none f zero = refl
total-none f (suc n) = let rest = total-none f n in omega arith

-- two lists with equal numbers at each index have equal sums
pub total-each : {A B : Type 0} (f : A → ℕ) (g : B → ℕ) (xs : List (Option A)) (ys : List (Option B))
    → ((j : ℕ) → weight f (get_or xs j None) ≡ weight g (get_or ys j None))
    → total f xs ≡ total g ys
unfolding total
total-each f g [] [] h = refl
total-each f g [] (y ∷ ys) h = let rest = total-each f g [] ys (λ j. h (suc j)) in let here = h 0 in omega arith
total-each f g (x ∷ xs) [] h = let rest = total-each f g xs [] (λ j. h (suc j)) in let here = h 0 in omega arith
total-each f g (x ∷ xs) (y ∷ ys) h = ap₂ (λ (m n : ℕ). m + n) (h 0) (total-each f g xs ys (λ j. h (suc j)))

-- after a free entry gets an element the sum is greater by its number
pub total-set : {A : Type 0} (f : A → ℕ) (xs : List (Option A)) (n : ℕ) (x : A)
    → n < length xs → get_or xs n None ≡ None
    → total f (set xs n (Some x)) ≡ total f xs + f x
unfolding total
total-set f [] n x within free = absurd (omega arith)
total-set f (o ∷ os) zero x within free =
    let nothing : option_map_or f o 0 ≡ 0 = ap (λ (p : Option _). option_map_or f p 0) free in omega arith
total-set f (o ∷ os) (suc n) x within free = let rest = total-set f os n x (omega arith) free in omega arith

-- after an element is removed the sum is less by its number
pub total-unset : {A : Type 0} (f : A → ℕ) (xs : List (Option A)) (n : ℕ) (x : A)
    → get_or xs n None ≡ Some x → total f xs ≡ total f (set xs n None) + f x
unfolding total
total-unset f [] n x there = absurd (none-some x there)
total-unset f (o ∷ os) zero x there =
    let here : option_map_or f o 0 ≡ f x = ap (λ (p : Option _). option_map_or f p 0) there in omega arith
total-unset f (o ∷ os) (suc n) x there = let rest = total-unset f os n x there in omega arith

-- the number of each element is at most the sum
pub total-part : {A : Type 0} (f : A → ℕ) (xs : List (Option A)) (n : ℕ) (x : A)
    → get_or xs n None ≡ Some x → f x ≤ total f xs
total-part f xs n x there = let e = total-unset f xs n x there in omega arith

most_first : {A : Type 0} (f : A → ℕ) (o : Option A) → ((x : A) → o ≡ Some x → f x ≤ 1) → option_map_or f o 0 ≤ 1
most_first f None h = omega arith
most_first f (Some x) h = h x refl

-- if each number is at most 1, the sum is at most the length of the list
pub total-most : {A : Type 0} (f : A → ℕ) (xs : List (Option A))
    → ((i : ℕ) (x : A) → get_or xs i None ≡ Some x → f x ≤ 1) → total f xs ≤ length xs
unfolding total
total-most f [] h = omega arith
total-most f (o ∷ os) h =
    let here = most_first f o (λ x is. h 0 x is) in
    let rest = total-most f os (λ i x is. h (suc i) x is) in
    omega arith

-- if each number is at most another, so is the sum
less_first : {A : Type 0} (f g : A → ℕ) (o : Option A)
    → ((x : A) → f x ≤ g x) → option_map_or f o 0 ≤ option_map_or g o 0
less_first f g None h = omega arith
less_first f g (Some x) h = h x

-- the sum of numbers that are at most others is at most the sum of the others
pub total-less : {A : Type 0} (f g : A → ℕ) (xs : List (Option A)) → ((x : A) → f x ≤ g x) → total f xs ≤ total g xs
unfolding total
total-less f g [] h = omega arith
total-less f g (o ∷ os) h =
    let here = less_first f g o h in
    let rest = total-less f g os h in
    omega arith
