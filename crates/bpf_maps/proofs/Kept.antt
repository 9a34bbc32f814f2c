-- The invariant of a hash map after a change: each element is in use or spare, and the first spare ones are kept apart.
use Rattle.std.proofs.Common.{◌≡◌, ◌≢◌, ℕ, zero, suc, ◌+◌, ◌-◌, ◌<◌, ◌≤◌, ◌==◌, Bool, true, false, List, [], ◌∷◌, ◌++◌, length, take, drop}
use Rattle.std.proofs.Common.{Some, get_or, refl, sym, ap, subst, ◌∙◌, nat_lt, if◌then◌else◌, arith, vec_len, vec_capacity, length-append}
use Rattle.std.proofs.lemmas.Bool.{ltb-true}
use Rattle.std.proofs.lemmas.List.{length-map, length-take-le, take_all, take-take}
use Rattle.std.specs.List.{swap}
use Rattle.std.proofs.lemmas.List.Edits.{swap_is}
use Rattle.std.proofs.Math.ListN.{set}
use Rattle.std.proofs.Math.Seq.{take-append-add, take-suc, get_or-append_seam, set-append_seam}
use Rattle.std.proofs.lemmas.Bool.Decides.{nat_tests}
use Rattle.std.specs.Map.{values_of}
use Rattle.tagged_model.specs.Table.{found, without, with_key, is_full}
use Rattle.bpf_maps.specs.KeyTable.{table_of, occurrences, IsSound, IsSized, IsFree}
use Rattle.bpf_maps.specs.Index.{entries_of, bound_of, TakesKeys, IsWellFormedHash, shown}
use Rattle.bpf_maps.specs.declared.hash_map.HashMap.TheInside.{Inside}
use Rattle.bpf_maps.specs.declared.key_index.KeyIndex.{KeyIndex}
use Rattle.tagged_model.specs.declared.shape.MapShape.{MapShape}
use Rattle.bpf_maps.proofs.Counts.{IsSum, times-append, times_self, values_of-append, sum-without, sum-split, sized-without, sized-with}
use Rattle.bpf_maps.proofs.Shapes.{hash_no_array}

-- the table of keys of a well-formed hash map is sound
pub sound : {a : Inside} → IsWellFormedHash a → IsSound (shown a)
sound {a} h = record {
  once = λ p.
      let e = h.once p in let first = sum-split (occurrences p) (times-append p) a.kept a.spare.items in omega arith;
  few = let e = h.all in let kept = length-take-le a.kept a.spare.items h.kept in let most = h.kept in omega arith;
  sized = h.sized;
  array = λ array. absurd (hash_no_array a.shape.kind h.kind array);
}

-- ---- a change of the uses of elements

-- a sum over the elements in use and the spare ones
abbrev sum_of : (List ℕ → ℕ) → Inside → ℕ
sum_of f a = f (values_of (entries_of a.index)) + f a.spare.items

-- the lists of elements have the same sums; examples are how often an element occurs, and the number of elements
abbrev SameKeys : Inside → Inside → Type 0
SameKeys a b = (f : List ℕ → ℕ) → IsSum f → sum_of f b ≡ sum_of f a

-- the invariant holds after a change that keeps these sums, the capacity and the size of keys
kept_whole : {a : Inside} (b : Inside)
    → IsWellFormedHash a → b.shape ≡ a.shape
    → SameKeys a b → b.kept ≤ length b.spare.items
    → vec_capacity b.spare ≡ vec_capacity a.spare
    → TakesKeys b.index a.shape.key_size → bound_of b.index ≡ bound_of a.index
    → IsSized a.shape.key_size (entries_of b.index)
    → IsWellFormedHash b
kept_whole {a} b h shape keys kept capacity takes bound sized =
    let most : b.shape.max_entries ≡ a.shape.max_entries = ap (λ (s : MapShape). s.max_entries) shape in
    record {
      kind = ap (λ (s : MapShape). s.kind) shape ∙ h.kind;
      takes = subst (λ (s : MapShape). TakesKeys b.index s.key_size) (sym shape) takes;
      bound = bound ∙ h.bound ∙ sym most;
      once = λ p.
          keys (occurrences p) (times-append p) ∙ h.once p ∙ ap (λ (m : ℕ). if nat_lt p m then 1 else 0) (sym most);
      all =
          let same = keys length length-append in
          let now = length-map (entries_of b.index) (λ e. e.1) in
          let before = length-map (entries_of a.index) (λ e. e.1) in
          let all = h.all in
          omega arith;
      kept = kept;
      room = let room = h.room in omega arith;
      sized = subst (λ (s : MapShape). IsSized s.key_size (entries_of b.index)) (sym shape) sized;
    }

-- another index with the same entries
pub kept_by_same : {a : Inside} (index : KeyIndex)
    → IsWellFormedHash a → entries_of index ≡ entries_of a.index
    → TakesKeys index a.shape.key_size → bound_of index ≡ bound_of a.index
    → IsWellFormedHash (record a { index = index })
kept_by_same {a} index h same takes bound =
    kept_whole (record a { index = index }) h refl
    (λ f sum. ap (λ (es : List (List ℕ × ℕ)). f (values_of es) + f a.spare.items) same)
    h.kept refl takes bound
    (subst (IsSized a.shape.key_size) (sym same) h.sized)

-- ---- an element that is put among the spare ones

-- the list with this element at an index, and at the end the one that it replaces
abbrev pub put_at : ℕ → ℕ → List ℕ → List ℕ
put_at n element xs = take n xs ++ element ∷ (drop 1 (drop n xs) ++ take 1 (drop n xs))

-- what a swap makes of the list with the element at its end
pub exchanged : (n element : ℕ) (xs : List ℕ)
    → n ≤ length xs → swap (xs ++ element ∷ []) n (length xs) ≡ put_at n element xs
exchanged n element xs within =
    let longer : List ℕ = xs ++ element ∷ [] in
    let count = length-append xs (element ∷ []) in
    sym (swap_is longer n (length xs) 0 (omega arith) (omega arith)) ∙ by n xs within
  where
    by : (n : ℕ) (xs : List ℕ)
        → n ≤ length xs
        → set (set (xs ++ element ∷ []) n (get_or (xs ++ element ∷ []) (length xs) 0)) (length xs)
        (get_or (xs ++ element ∷ []) n 0)
        ≡ put_at n element xs
    by zero [] w = refl
    by (suc n) [] w = absurd (omega arith)
    by zero (x ∷ xs) w = λ i. get_or-append_seam xs element [] 0 i ∷ set-append_seam xs element [] x i
    by (suc n) (x ∷ xs) w = ap (λ (ys : List ℕ). x ∷ ys) (by n xs (omega arith))

sum-put : (f : List ℕ → ℕ) → IsSum f → (n element : ℕ) (xs : List ℕ) → f (put_at n element xs) ≡ f xs + f (element ∷ [])
sum-put f sum n element xs =
    let later = drop n xs in
    let all = sum-split f sum n xs in
    let moved = sum-split f sum 1 later in
    let one = sum (take n xs) (element ∷ (drop 1 later ++ take 1 later)) in
    let two = sum (element ∷ []) (drop 1 later ++ take 1 later) in
    let three = sum (drop 1 later) (take 1 later) in
    omega arith

-- the first n + 1 elements are then the first n and that element
pub first-put : (n element : ℕ) (xs : List ℕ)
    → n ≤ length xs → take (n + 1) (put_at n element xs) ≡ take n xs ++ element ∷ []
first-put n element xs within =
    ap (λ (k : ℕ). take (k + 1) (put_at n element xs)) (sym (length-take-le n xs within))
    ∙ take-append-add (take n xs) (element ∷ (drop 1 (drop n xs) ++ take 1 (drop n xs))) 1

-- a key that is taken out, and its element kept apart
pub kept_by_remove : {a : Inside} (b : Inside)
    → IsWellFormedHash a
    → (key : List ℕ) {element : ℕ} → found key (entries_of a.index) ≡ Some element
    → b.shape ≡ a.shape
    → entries_of b.index ≡ without key (entries_of a.index)
    → b.spare.items ≡ put_at a.kept element a.spare.items
    → vec_capacity b.spare ≡ vec_capacity a.spare
    → b.kept ≡ a.kept + 1 → TakesKeys b.index a.shape.key_size
    → bound_of b.index ≡ bound_of a.index
    → IsWellFormedHash b
kept_by_remove {a} b h key {element} at shape index spare capacity kept takes bound =
    kept_whole b h shape
    (λ f sum.
    let less = sum-without f sum key element (entries_of a.index) at in
    let now = ap (λ (es : List (List ℕ × ℕ)). f (values_of es)) index in
    let more = ap f spare ∙ sum-put f sum a.kept element a.spare.items in
    omega arith)
    (let more : length b.spare.items ≡ length a.spare.items + 1 =
    ap length spare ∙ sum-put length length-append a.kept element a.spare.items in
    let before = h.kept in
    omega arith)
    capacity takes bound
    (subst (IsSized a.shape.key_size) (sym index) (sized-without a.shape.key_size key (entries_of a.index) h.sized))

-- the last spare element is free if not all are kept apart
module _ {a : Inside} (h : IsWellFormedHash a) (element : ℕ)
    (last : element ≡ get_or a.spare.items (vec_len a.spare - 1) element)
    (some : vec_len a.spare ≢ a.kept) where
  abbrev rest : List ℕ
  rest = take (vec_len a.spare - 1) a.spare.items

  fewer : a.kept < length a.spare.items
  fewer = let len = a.spare.ok.0 in let most = h.kept in let other = some in omega (arith, other)

  parts : a.spare.items ≡ rest ++ element ∷ []
  parts =
      let n = vec_len a.spare - 1 in
      let len = a.spare.ok.0 in
      let more = fewer in
      sym (take_all (suc n) a.spare.items (omega arith))
      ∙ take-suc a.spare.items n element (omega arith)
      ∙ ap (λ (p : ℕ). rest ++ p ∷ []) (sym last)

  -- without the last spare element, the same elements are kept apart
  pub same_kept : take a.kept rest ≡ take a.kept a.spare.items
  same_kept =
      let len = a.spare.ok.0 in let more = fewer in take-take a.kept (vec_len a.spare - 1) a.spare.items (omega arith)

  within_by : (b : Bool) (n k : ℕ) → nat_lt element k ≡ b → n + 1 ≡ (if b then 1 else 0) → element < k
  within_by true n k t e = ltb-true element k t
  within_by false n k t e = absurd (omega arith)

  zero_by : (b : Bool) (n : ℕ) → n + 1 ≡ (if b then 1 else 0) → n ≡ 0
  zero_by true n e = omega arith
  zero_by false n e = absurd (omega arith)

  counted : occurrences element (values_of (entries_of a.index)) + occurrences element rest + 1
      ≡ (if nat_lt element a.shape.max_entries then 1 else 0)
  counted =
      let t : occurrences element a.spare.items ≡ occurrences element rest + occurrences element (element ∷ []) =
      ap (occurrences element) parts ∙ times-append element rest (element ∷ []) in
      let s = times_self element in
      let g = h.once element in
      omega arith

  -- the last spare element is free
  pub is_free : IsFree (shown a) element
  is_free =
      let z = zero_by (nat_lt element a.shape.max_entries) _ counted in
      let first = sum-split (occurrences element) (times-append element) a.kept rest in
      let same = ap (occurrences element) same_kept in
      record {
        within = within_by (nat_lt element a.shape.max_entries) _ a.shape.max_entries refl counted;
        entries = omega arith;
        kept = omega arith;
      }

  -- a hash map with a spare element that is not kept apart is not full
  pub not_full : is_full (table_of (shown a)) ≡ false
  not_full =
      let g = h.all in
      let k = length-take-le a.kept a.spare.items h.kept in
      let more = fewer in
      let less : length (entries_of a.index) + length (take a.kept a.spare.items) < a.shape.max_entries = omega arith in
      unequal (length (entries_of a.index) + length (take a.kept a.spare.items)) a.shape.max_entries less
    where
      unequal : (n m : ℕ) → n < m → (n == m) ≡ false
      unequal n m l = grind (arith, nat_tests)

  -- a new key gets the last spare element
  pub kept_by_add : (b : Inside) (key : List ℕ)
      → length key ≡ a.shape.key_size → b.shape ≡ a.shape
      → entries_of b.index ≡ with_key key element (entries_of a.index)
      → b.kept ≡ a.kept → b.spare.items ≡ rest
      → vec_capacity b.spare ≡ vec_capacity a.spare
      → TakesKeys b.index a.shape.key_size → bound_of b.index ≡ bound_of a.index
      → IsWellFormedHash b
  kept_by_add b key size shape index kept spare capacity takes bound =
      kept_whole b h shape
      (λ f sum.
      let added : List (List ℕ × ℕ) = (key, element) ∷ [] in
      let more =
      ap (λ (es : List (List ℕ × ℕ)). f (values_of es)) index
      ∙ ap f (values_of-append (entries_of a.index) added)
      ∙ sum (values_of (entries_of a.index)) (element ∷ []) in
      let less = ap f parts ∙ sum rest (element ∷ []) in
      let now = ap f spare in
      omega arith)
      (let more = fewer in
      let before = ap length parts ∙ length-append rest (element ∷ []) in
      let now = ap length spare in
      omega arith)
      capacity takes bound
      (subst (IsSized a.shape.key_size) (sym index)
      (sized-with a.shape.key_size key element (entries_of a.index) size h.sized))
