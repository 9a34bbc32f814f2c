-- Bytes that are written over a range of others.
use Rattle.std.proofs.Common.{◌≡◌, ℕ, ◌+◌, ◌-◌, ◌≤◌, List, ◌++◌, length, take, drop, replicate, sym, ap, ◌∙◌, arith, append_assoc, length-append}
use Rattle.std.proofs.Math.Seq.{drop-append-add, take-take, length-take-le, drop_at}
use Rattle.std.proofs.lemmas.List.{drop-take, drop-drop, take-append-le, drop-append-le, take-replicate, drop-replicate, length-drop, length-replicate}

module _ (xs new : List ℕ) (start size : ℕ) (count : length new ≡ size) (room : start + size ≤ length xs) where
  abbrev written : List ℕ
  written = take start xs ++ (new ++ drop (start + size) xs)

  front : length (take start xs) ≡ start
  front = length-take-le start xs (omega arith)

  -- a write over a range does not change the number of bytes
  pub length_same : length written ≡ length xs
  length_same =
      let f = front in
      omega (
        arith,
        length-append (take start xs) (new ++ drop (start + size) xs),
        length-append new (drop (start + size) xs),
        length-drop (start + size) xs,
      )

  -- a write over a range does not change the bytes before the range
  pub front_same : (n : ℕ) → n ≤ start → take n written ≡ take n xs
  front_same n l =
      let f = front in
      take-append-le n (take start xs) (new ++ drop (start + size) xs) (omega arith) ∙ take-take n start xs l

  -- bytes that end at the start of the written range, or before it, are not changed
  pub before_same : (at n : ℕ) → at + n ≤ start → take n (drop at written) ≡ take n (drop at xs)
  before_same at n l = sym (drop-take at n written) ∙ ap (drop at) (front_same (at + n) l) ∙ drop-take at n xs

  seam : drop (start + size) written ≡ drop (start + size) xs
  seam =
      let f = front in
      let l = length-append (take start xs) new in
      ap (drop (start + size)) (sym (append_assoc (take start xs) new (drop (start + size) xs)))
      ∙ drop_at (take start xs ++ new) (drop (start + size) xs) (start + size) (omega arith)

  behind_same : (at : ℕ) → start + size ≤ at → drop at written ≡ drop at xs
  behind_same at l =
      let rest : at ≡ start + size + (at - (start + size)) = omega arith in
      ap (λ (n : ℕ). drop n written) rest
      ∙ sym (drop-drop (at - (start + size)) (start + size) written)
      ∙ ap (drop (at - (start + size))) seam
      ∙ drop-drop (at - (start + size)) (start + size) xs
      ∙ ap (λ (n : ℕ). drop n xs) (sym rest)

  -- bytes that begin at the end of the written range, or after it, are not changed
  pub after_same : (at n : ℕ) → start + size ≤ at → take n (drop at written) ≡ take n (drop at xs)
  after_same at n l = ap (take n) (behind_same at l)

  -- the bytes that were written
  pub own : (x n : ℕ) → x + n ≤ size → take n (drop (start + x) written) ≡ take n (drop x new)
  own x n l =
      let f = front in
      let e : start + x ≡ length (take start xs) + x = omega arith in
      let r = drop (start + size) xs in
      ap (λ (k : ℕ). take n (drop k written)) e
      ∙ ap (take n) (drop-append-add (take start xs) (new ++ r) x ∙ drop-append-le x new r (omega arith))
      ∙ take-append-le n (drop x new) r (omega (arith, length-drop x new))

-- zeros
pub zeros : (xs : List ℕ) (start size : ℕ)
    → start + size ≤ length xs → (x n : ℕ) → x + n ≤ size
    → take n (drop (start + x) (take start xs ++ (replicate size 0 ++ drop (start + size) xs))) ≡ replicate n 0
zeros xs start size room x n l =
    own xs (replicate size 0) start size (length-replicate size 0) room x n l
    ∙ ap (take n) (drop-replicate x size 0)
    ∙ take-replicate n (size - x) 0 (omega arith)
