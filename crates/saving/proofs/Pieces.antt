-- The pieces of a list: they are the list, and which one has an index.
use Rattle.std.proofs.Common.{◌≡◌, ℕ, zero, suc, ◌+◌, ◌-◌, ◌*◌, ◌/◌, ◌%◌, ◌<◌, ◌≤◌, min, List, []}
use Rattle.std.proofs.Common.{◌∷◌, ◌++◌, take, drop, length, Some, None, refl, sym, ap, ◌∙◌, arith}
use Rattle.std.specs.Prelude.{slice_get}
use Rattle.std.specs.List.{flat_map}
use Rattle.std.proofs.Math.Nat.{suc-mul, zero-mul}
use Rattle.std.proofs.lemmas.Grind.{div_ceil_times}
use Rattle.std.proofs.lemmas.List.{take-append-drop, length-drop, drop-drop}
use Rattle.std.proofs.lemmas.Option.{none-some, slice_get_within}
use Rattle.saving.specs.Pieces.{first_pieces, pieces}

-- ---- an element by its index

-- an index without an element is at least the length of the list
pub get_none : {A : Type 0} (xs : List A) (i : ℕ) → slice_get xs i ≡ None → length xs ≤ i
get_none [] i e = omega arith
get_none (x ∷ xs) zero e = absurd (none-some x (sym e))
get_none (x ∷ xs) (suc i) e = let le = get_none xs i e in omega (arith, le)

-- an index in the first of two joined lists has the element of this list
pub get_front : {A : Type 0} (xs ys : List A) (i : ℕ) → i < length xs → slice_get (xs ++ ys) i ≡ slice_get xs i
get_front [] ys i lt = absurd (omega (arith, lt))
get_front (x ∷ xs) ys zero lt = refl
get_front (x ∷ xs) ys (suc i) lt = get_front xs ys i (omega (arith, lt))

-- an index that is not in the first of two joined lists has an element of the second
pub get_after : {A : Type 0} (xs ys : List A) (i : ℕ)
    → length xs ≤ i → slice_get (xs ++ ys) i ≡ slice_get ys (i - length xs)
get_after [] ys i le = let same : i ≡ i - 0 = omega arith in ap (slice_get ys) same
get_after (x ∷ xs) ys zero le = absurd (omega (arith, le))
get_after (x ∷ xs) ys (suc i) le =
    let same : i - length xs ≡ suc i - suc (length xs) = omega arith in
    get_after xs ys i (omega (arith, le)) ∙ ap (slice_get ys) same

-- ---- pieces

module _ {A : Type 0} (size : ℕ) (some : 0 < size) where
  fewer : (most : ℕ) (x : A) (xs : List A) → length (x ∷ xs) ≤ suc most → length (drop size (x ∷ xs)) ≤ most
  fewer most x xs le = let left = length-drop size (x ∷ xs) in omega (arith, some, le, left)

  first_joined : (most : ℕ) (xs : List A)
      → length xs ≤ most → flat_map (λ (piece : List A). piece) (first_pieces size most xs) ≡ xs
  unfolding first_pieces
  first_joined zero [] le = refl
  first_joined zero (x ∷ xs) le = absurd (omega (arith, le))
  first_joined (suc most) [] le = refl
  first_joined (suc most) (x ∷ xs) le =
      ap (λ (ys : List A). take size (x ∷ xs) ++ ys) (first_joined most (drop size (x ∷ xs)) (fewer most x xs le))
      ∙ take-append-drop size (x ∷ xs)

  -- the pieces together are the list
  pub joined : (xs : List A) → flat_map (λ (piece : List A). piece) (pieces size xs) ≡ xs
  joined xs = first_joined (length xs) xs (omega arith)

  first_there : (most : ℕ) (xs : List A) (i : ℕ)
      → length xs ≤ most → i * size < length xs
      → slice_get (first_pieces size most xs) i ≡ Some (take size (drop (i * size) xs))
  unfolding first_pieces
  first_there zero [] i le lt = absurd (omega (arith, lt))
  first_there zero (x ∷ xs) i le lt = absurd (omega (arith, le))
  first_there (suc most) [] i le lt = absurd (omega (arith, lt))
  first_there (suc most) (x ∷ xs) zero le lt =
      ap (λ (n : ℕ). Some (take size (drop n (x ∷ xs)))) (sym (zero-mul size))
  first_there (suc most) (x ∷ xs) (suc i) le lt =
      let more = suc-mul i size in
      let left = length-drop size (x ∷ xs) in
      let same : size + i * size ≡ suc i * size = omega (arith, more) in
      first_there most (drop size (x ∷ xs)) i (fewer most x xs le) (omega (arith, lt, more, left))
      ∙ ap (λ (ys : List A). Some (take size ys)) (drop-drop (i * size) size (x ∷ xs))
      ∙ ap (λ (n : ℕ). Some (take size (drop n (x ∷ xs)))) same

  first_past : (most : ℕ) (xs : List A) (i : ℕ)
      → length xs ≤ most → length xs ≤ i * size → slice_get (first_pieces size most xs) i ≡ None
  unfolding first_pieces
  first_past zero xs i le past = refl
  first_past (suc most) [] i le past = refl
  first_past (suc most) (x ∷ xs) zero le past = let none = zero-mul size in absurd (omega (arith, past, none))
  first_past (suc most) (x ∷ xs) (suc i) le past =
      let more = suc-mul i size in
      let left = length-drop size (x ∷ xs) in
      first_past most (drop size (x ∷ xs)) i (fewer most x xs le) (omega (arith, past, more, left))

  -- a piece that begins within the list has the next elements from its start on, at most as many as its size
  pub piece_there : (xs : List A) (i : ℕ)
      → i * size < length xs → slice_get (pieces size xs) i ≡ Some (take size (drop (i * size) xs))
  piece_there xs i lt = first_there (length xs) xs i (omega arith) lt

  -- a list that is no longer than the pieces before an index has no piece at this index
  pub no_piece : (xs : List A) (i : ℕ) → length xs ≤ i * size → slice_get (pieces size xs) i ≡ None
  no_piece xs i past = first_past (length xs) xs i (omega arith) past

  -- the number of pieces, if it is known between which multiples of the size the length is
  count_between : (xs : List A) (count : ℕ)
      → length xs ≤ count * size → count * size < length xs + size
      → length (pieces size xs) ≡ count
  count_between xs zero enough less =
      let few = get_none (pieces size xs) 0 (no_piece xs 0 enough) in omega (arith, few)
  count_between xs (suc k) enough less =
      let more = suc-mul k size in
      let few = get_none (pieces size xs) (suc k) (no_piece xs (suc k) enough) in
      let many =
      slice_get_within (pieces size xs) k (take size (drop (k * size) xs))
      (piece_there xs k (omega (arith, less, more))) in
      omega (arith, few, many)

  -- the number of pieces is the length of the list divided by the size of a piece, rounded up
  pub piece_count : (xs : List A) → length (pieces size xs) ≡ length xs / size + min 1 (length xs % size)
  piece_count xs =
      let bounds = div_ceil_times (length xs) size some in
      count_between xs (length xs / size + min 1 (length xs % size)) bounds.0 bounds.1
