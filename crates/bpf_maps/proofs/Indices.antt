-- The entries of an array: all indices, each with itself for an element.
use Rattle.std.proofs.Common.{◌≡◌, ℕ, zero, suc, ◌+◌, ◌^◌, ◌<◌, ◌≤◌, Bool, true, false, cond, List, length, Option, Some}
use Rattle.std.proofs.Common.{None, is_some, refl, sym, ap, ◌∙◌, nat_eq, nat_lt, if◌then◌else◌, arith, eqb-true, eq-eqb}
use Rattle.std.proofs.lemmas.Bool.{lt-ltb, le-ltb}
use Rattle.std.proofs.lemmas.Bool.Decides.{nat_tests}
use Rattle.std.specs.Cmp.Lexicographic.{bytes_decides}
use Rattle.std.specs.Map.{values_of}
use Rattle.words.specs.Bytes.{number_of}
use Rattle.tagged_model.specs.Table.{is_key, found, first_key, key_after_present, key_after, index_key, indexed}
use Rattle.bpf_maps.specs.KeyTable.{occurrences, IsSized}

abbrev pub itself : ℕ → ℕ
itself i = i

-- ---- the key of an index

-- the key of an index has four bytes
pub length_of_key : (i : ℕ) → length (index_key i) ≡ 4
unfolding index_key
length_of_key i = refl

number_of_key : (i : ℕ) → i < 2 ^ 32 → number_of (index_key i) ≡ i
unfolding index_key
number_of_key i h = omega arith

-- no two indices have the same key
pub same_key : (i j : ℕ) → i < 2 ^ 32 → j < 2 ^ 32 → is_key (index_key i) (index_key j) ≡ nat_eq i j
same_key i j hi hj = by (nat_eq i j) refl (is_key (index_key i) (index_key j)) refl
  where
    by : (a : Bool) → nat_eq i j ≡ a → (b : Bool) → is_key (index_key i) (index_key j) ≡ b → b ≡ a
    by true e true f = refl
    by false e false f = refl
    by true e false f = sym f ∙ (bytes_decides (index_key i) (index_key j)).1 (ap index_key (eqb-true i j e))
    by false e true f =
        let keys : index_key i ≡ index_key j = (bytes_decides (index_key i) (index_key j)).0 f in
        let numbers : i ≡ j = sym (number_of_key i hi) ∙ ap number_of keys ∙ number_of_key j hj in
        sym (eq-eqb i j numbers) ∙ e

-- ---- look-ups of keys and of indices

behind_first : (a b : ℕ) → b ≤ a → nat_eq a b ≡ false → b + 1 ≤ a
behind_first a b h f = grind (arith, nat_tests)

-- the look-up of an index in a range of indices finds the index if it is in the range, else nothing
pub found_index : (first n k : ℕ)
    → first + n ≤ 2 ^ 32 → k < 2 ^ 32
    → first ≤ k
    → found (index_key k) (indexed itself first n) ≡ (if nat_lt k (first + n) then Some k else None)
unfolding indexed
found_index first zero k h s l =
    let e : nat_lt k (first + 0) ≡ false = le-ltb k (first + 0) (omega arith) in
    ap (λ (b : Bool). if b then Some k else None) (sym e)
found_index first (suc n) k h s l =
    let head : is_key (index_key k) (index_key first) ≡ nat_eq k first = same_key k first s (omega arith) in
    ap (λ (b : Bool). cond b (Some first) (found (index_key k) (indexed itself (first + 1) n))) head
    ∙ by (nat_eq k first) refl (λ q. found_index (first + 1) n k (omega arith) s q)
  where
    by : (b : Bool)
        → nat_eq k first ≡ b
        → (first + 1 ≤ k
        → found (index_key k) (indexed itself (first + 1) n) ≡ (if nat_lt k (first + 1 + n) then Some k else None))
        → cond b (Some first) (found (index_key k) (indexed itself (first + 1) n))
        ≡ (if nat_lt k (first + suc n) then Some k else None)
    by true e r =
        let q : k ≡ first = eqb-true k first e in
        let t : nat_lt k (first + suc n) ≡ true = lt-ltb k (first + suc n) (omega arith) in
        ap (λ (i : ℕ). let o : Option ℕ = Some i in o) (sym q) ∙ ap (λ (b : Bool). if b then Some k else None) (sym t)
    by false e r =
        let m : first + 1 + n ≡ first + suc n = omega arith in
        r (behind_first k first l e) ∙ ap (λ (x : ℕ). if nat_lt k x then Some k else None) m

-- ---- the key that follows

-- the first key of a range of indices is that of its first index, unless the range is empty
pub first_index : (first n : ℕ)
    → first_key (indexed itself first n) ≡ (if nat_lt 0 n then Some (index_key first) else None)
unfolding indexed
first_index first zero = refl
first_index first (suc n) =
    let t : nat_lt 0 (suc n) ≡ true = lt-ltb 0 (suc n) (omega arith) in
    ap (λ (b : Bool). if b then Some (index_key first) else None) (sym t)

same_test : (a b c d : ℕ) → a + d ≡ b + c → nat_lt a b ≡ nat_lt c d
same_test a b c d e = grind (arith, nat_tests)

less : (b : Bool) (i m : ℕ)
    → i ≡ m → (if b then Some (index_key i) else None) ≡ (if b then Some (index_key m) else None)
less b i m e = ap (λ (x : ℕ). if b then Some (index_key x) else None) e

behind_index : (first n k : ℕ)
    → first + n ≤ 2 ^ 32 → first ≤ k
    → k < first + n
    → key_after_present (index_key k) (indexed itself first n)
    ≡ (if nat_lt (k + 1) (first + n) then Some (index_key (k + 1)) else None)
unfolding indexed
behind_index first zero k h l u = absurd (omega arith)
behind_index first (suc n) k h l u =
    let head : is_key (index_key k) (index_key first) ≡ nat_eq k first = same_key k first (omega arith) (omega arith) in
    ap (λ (b : Bool).
    if b then first_key (indexed itself (first + 1) n) else key_after_present (index_key k) (indexed itself (first + 1) n))
    head
    ∙ by (nat_eq k first) refl (λ q. behind_index (first + 1) n k (omega arith) q (omega arith))
  where
    by : (b : Bool)
        → nat_eq k first ≡ b
        → (first + 1 ≤ k
        → key_after_present (index_key k) (indexed itself (first + 1) n)
        ≡ (if nat_lt (k + 1) (first + 1 + n) then Some (index_key (k + 1)) else None))
        → (if b
        then first_key (indexed itself (first + 1) n)
        else key_after_present (index_key k) (indexed itself (first + 1) n))
        ≡ (if nat_lt (k + 1) (first + suc n) then Some (index_key (k + 1)) else None)
    by true e r =
        let q : k ≡ first = eqb-true k first e in
        let t : nat_lt 0 n ≡ nat_lt (k + 1) (first + suc n) = same_test 0 n (k + 1) (first + suc n) (omega arith) in
        first_index (first + 1) n
        ∙ ap (λ (b : Bool). if b then Some (index_key (first + 1)) else None) t
        ∙ less (nat_lt (k + 1) (first + suc n)) (first + 1) (k + 1) (omega arith)
    by false e r =
        let m : first + 1 + n ≡ first + suc n = omega arith in
        r (behind_first k first l e) ∙ ap (λ (x : ℕ). if nat_lt (k + 1) x then Some (index_key (k + 1)) else None) m

-- the key after a present index
pub after_index : (n k : ℕ)
    → n ≤ 2 ^ 32 → k < n
    → key_after (index_key k) (indexed itself 0 n) ≡ (if nat_lt (k + 1) n then Some (index_key (k + 1)) else None)
after_index n k h l =
    let t : nat_lt k (0 + n) ≡ true = lt-ltb k (0 + n) (omega arith) in
    let f : found (index_key k) (indexed itself 0 n) ≡ Some k =
    found_index 0 n k (omega arith) (omega arith) (omega arith) ∙ ap (λ (b : Bool). if b then Some k else None) t in
    let m : 0 + n ≡ n = omega arith in
    ap (λ (o : Option ℕ).
    if is_some o then key_after_present (index_key k) (indexed itself 0 n) else first_key (indexed itself 0 n))
    f
    ∙ behind_index 0 n k (omega arith) (omega arith) (omega arith)
    ∙ ap (λ (x : ℕ). if nat_lt (k + 1) x then Some (index_key (k + 1)) else None) m

-- the key after an absent key
pub after_other : (n : ℕ) (key : List ℕ)
    → found key (indexed itself 0 n) ≡ None
    → key_after key (indexed itself 0 n) ≡ (if nat_lt 0 n then Some (index_key 0) else None)
after_other n key h =
    ap (λ (o : Option ℕ). if is_some o then key_after_present key (indexed itself 0 n) else first_key (indexed itself 0 n)) h
    ∙ first_index 0 n

-- ---- the elements

-- a range of n indices has n entries
pub length_indexed : (first n : ℕ) → length (indexed itself first n) ≡ n
unfolding indexed
length_indexed first zero = refl
length_indexed first (suc n) = ap suc (length_indexed (first + 1) n)

-- 1 below a bound, and 0 from it on
abbrev below : ℕ → ℕ → ℕ
below p n = if nat_lt p n then 1 else 0

below_next : (p n : ℕ) → (if nat_eq p n then 1 else 0) + below p n ≡ below p (n + 1)
below_next p n = grind (arith, nat_tests)

times_indexed : (p first n : ℕ)
    → occurrences p (values_of (indexed itself first n)) + below p first ≡ below p (first + n)
unfolding indexed
times_indexed p first zero = let e : below p first ≡ below p (first + 0) = ap (below p) (omega arith) in omega arith
times_indexed p first (suc n) =
    let r = times_indexed p (first + 1) n in
    let o = below_next p first in
    let e : below p (first + 1 + n) ≡ below p (first + suc n) = ap (below p) (omega arith) in
    omega arith

-- each index of an array is the element of one of its entries, and no other number is an element
pub once_indexed : (p n : ℕ) → occurrences p (values_of (indexed itself 0 n)) ≡ (if nat_lt p n then 1 else 0)
once_indexed p n =
    let t = times_indexed p 0 n in
    let z : below p 0 ≡ 0 = ap (λ (b : Bool). let k : ℕ = if b then 1 else 0 in k) (le-ltb p 0 (omega arith)) in
    let s : below p (0 + n) ≡ below p n = ap (below p) (omega arith) in
    omega arith

-- the keys of a range of indices have four bytes
pub sized_indexed : (first n : ℕ) → IsSized 4 (indexed itself first n)
unfolding indexed
sized_indexed first zero = tt
sized_indexed first (suc n) = (length_of_key first, sized_indexed (first + 1) n)
