-- The second half of a table is taken out, and put back without the last entry.
use Rattle.std.proofs.Common.{◌≡◌, ℕ, zero, suc, ◌+◌, ◌-◌, ◌<◌, List, [], ◌∷◌, ◌++◌, length, take}
use Rattle.std.proofs.Common.{drop, get_or, Option, Some, None, slice_get, refl, sym, ap, ◌∙◌, arith}
use Rattle.std.proofs.Math.ListN.{set, length-set}
use Rattle.std.proofs.Math.Seq.{take-append-add}
use Rattle.std.proofs.lemmas.List.{take-append-drop, take-set-le, length-take-le, length-drop, get_or-drop, get_or-set_same}
use Rattle.std.proofs.lemmas.List.Edits.{swap_is}
use Rattle.std.proofs.lemmas.Option.{slice_get-get_or}
use Rattle.std.specs.List.{swap, swap_remove}

nothing : {X : Type 0} (i : ℕ) → slice_get (let none : List X = [] in none) i ≡ None
nothing zero = refl
nothing (suc i) = refl

-- an entry of the list without its first n
pub dropped : {X : Type 0} (n : ℕ) (xs : List X) (i : ℕ) → slice_get (drop n xs) i ≡ slice_get xs (n + i)
dropped zero xs i = ap (slice_get xs) (let e : i ≡ 0 + i = omega arith in e)
dropped (suc n) [] i = nothing i ∙ sym (nothing (suc n + i))
dropped (suc n) (x ∷ xs) i =
    dropped n xs i ∙ ap (slice_get (x ∷ xs)) (let e : suc (n + i) ≡ suc n + i = omega arith in e)

-- an entry of the second of two lists
pub appended : {X : Type 0} (xs ys : List X) (i : ℕ) → slice_get (xs ++ ys) (length xs + i) ≡ slice_get ys i
appended [] ys i = ap (slice_get ys) (let e : 0 + i ≡ i = omega arith in e)
appended (x ∷ xs) ys i =
    ap (slice_get (x ∷ (xs ++ ys))) (let e : length (x ∷ xs) + i ≡ suc (length xs + i) = omega arith in e)
    ∙ appended xs ys i

module _ {X : Type 0} (es : List X) (i half : ℕ) (taken : X) (within : i < length es) (less : half < length es) where
  abbrev pub last : ℕ
  last = length es - 1

  abbrev pub moved : List X
  moved = swap es i last

  moved_is : set (set es i (get_or es last taken)) last (get_or es i taken) ≡ moved
  moved_is = swap_is es i last taken within (omega arith)

  long : length moved ≡ length es
  long =
      ap length (sym moved_is)
      ∙ length-set (set es i (get_or es last taken)) last (get_or es i taken)
      ∙ length-set es i (get_or es last taken)

  front_is : take last moved ≡ swap_remove es i taken
  front_is =
      ap (take last) (sym moved_is)
      ∙ take-set-le last (set es i (get_or es last taken)) last (get_or es i taken) (omega arith)

  last_is : get_or moved last taken ≡ get_or es i taken
  last_is =
      ap (λ (xs : List X). get_or xs last taken) (sym moved_is)
      ∙ get_or-set_same (set es i (get_or es last taken)) last (get_or es i taken) taken
      (let l = length-set es i (get_or es last taken) in omega arith)

  many : length (drop half moved) ≡ length es - half
  many = let d = length-drop half moved in let l = long in omega arith

  -- the second half of the table is not empty
  pub some_second : 0 < length (drop half moved)
  some_second = let m = many in omega arith

  -- the first half, and the second without its last entry
  pub halves : take half moved ++ take (length (drop half moved) - 1) (drop half moved) ≡ swap_remove es i taken
  halves =
      let front : length (take half moved) ≡ half = length-take-le half moved (let l = long in omega arith) in
      let sum : length (take half moved) + (length (drop half moved) - 1) ≡ last = (let m = many in omega arith) in
      sym (take-append-add (take half moved) (drop half moved) (length (drop half moved) - 1))
      ∙ ap (λ (n : ℕ). take n (take half moved ++ drop half moved)) sum
      ∙ ap (take last) (take-append-drop half moved)
      ∙ front_is

  -- the last entry of the second half is the one that is taken out
  pub taken_here : taken ≡ get_or (drop half moved) (length (drop half moved) - 1) taken → slice_get es i ≡ Some taken
  taken_here is =
      let at : half + (length (drop half moved) - 1) ≡ last = (let m = many in omega arith) in
      let same : taken ≡ get_or es i taken =
      is
      ∙ get_or-drop half moved (length (drop half moved) - 1) taken
      ∙ ap (λ (n : ℕ). get_or moved n taken) at
      ∙ last_is in
      slice_get-get_or es i taken within ∙ ap (λ (x : X). let o : Option X = Some x in o) (sym same)

  -- what is left of both halves
  pub rest_is : {front rows left : List X}
      → front ≡ take half moved → rows ≡ drop half moved
      → left ≡ take (length rows - 1) rows
      → front ++ left ≡ swap_remove es i taken
  rest_is {front} {rows} {left} first second all_but_one =
      ap (λ (xs : List X). xs ++ left) first
      ∙ ap (λ (xs : List X). take half moved ++ xs) (all_but_one ∙ ap (λ (xs : List X). take (length xs - 1) xs) second)
      ∙ halves

  -- the entry that is last in the second half is the one that the table had at the index
  pub taken_is : {rows : List X}
      → rows ≡ drop half moved
      → taken ≡ get_or rows (length rows - 1) taken
      → slice_get es i ≡ Some taken
  taken_is second is = taken_here (is ∙ ap (λ (xs : List X). get_or xs (length xs - 1) taken) second)
