-- The front of a buffer that is filled in parts, and the front of bytes that are written in parts.
use Rattle.std.proofs.Common.{◌≡◌, ℕ, ◌+◌, ◌-◌, ◌≤◌, List, ◌++◌, length, take, drop, slice_range, arith, sym, ap, subst, ◌∙◌, le_refl, drop_at, length-take-le}
use Rattle.std.proofs.lemmas.Slice.{take-put_mid_below}
use Rattle.std.proofs.lemmas.List.{drop-drop}
use Rattle.host_core.specs.inside.Reading.{IsKeptFrontOf}
use borrow.Rule.Slice.PartMut.{put_mid, post_of}
use lib.Seq.{take-add, take-append-le, take-append_seam}

take_split : (a b : ℕ) (old new : List ℕ)
    → a ≤ b → take a new ≡ take a old
    → take a old ++ slice_range new a b ≡ take b new
take_split a b old new h front =
    let same : a + (b - a) ≡ b = omega arith in
    ap (λ l. l ++ slice_range new a b) (sym front) ∙ sym (take-add a (b - a) new) ∙ ap (λ n. take n new) same

slice_range-put_mid : (a k n : ℕ) (xs ys : List ℕ)
    → a ≤ length xs → n ≤ length ys
    → slice_range (put_mid a k xs ys) a (a + n) ≡ take n ys
slice_range-put_mid a k n xs ys within fits =
    let same : (a + n) - a ≡ n = omega arith in
    let after = post_of a k xs in
    ap (take ((a + n) - a)) (drop_at (take a xs) (ys ++ after) a (length-take-le a xs within))
    ∙ ap (λ m. take m (ys ++ after)) same
    ∙ take-append-le n ys after fits

-- a part that is filled follows the bytes before it
pub take-put_mid : (a k n : ℕ) (xs ys : List ℕ)
    → a ≤ length xs → n ≤ length ys
    → take a xs ++ take n ys ≡ take (a + n) (put_mid a k xs ys)
take-put_mid a k n xs ys within fits =
    let part = slice_range-put_mid a k n xs ys within fits in
    ap (λ l. take a xs ++ l) (sym part)
    ∙ take_split a (a + n) xs (put_mid a k xs ys) (omega arith) (take-put_mid_below _ _ _ _ _ (le_refl _) within)

-- a write to a part does not change the bytes before it
pub take-put_mid_same : (a k : ℕ) (xs ys : List ℕ) → a ≤ length xs → take a (put_mid a k xs ys) ≡ take a xs
take-put_mid_same a k xs ys within = take-put_mid_below _ _ _ _ _ (le_refl _) within

-- the first bytes of a rest follow the bytes before the rest
pub take-drop-take : (n count : ℕ) (bytes rest : List ℕ)
    → rest ≡ drop n bytes → take n bytes ++ take count rest ≡ take (n + count) bytes
take-drop-take n count bytes rest e = ap (λ l. take n bytes ++ take count l) e ∙ sym (take-add n count bytes)

-- if n bytes are dropped and then count more, the first n + count bytes are dropped
pub drop_further : (n count : ℕ) (bytes rest : List ℕ) → rest ≡ drop n bytes → drop count rest ≡ drop (n + count) bytes
drop_further n count bytes rest e = ap (drop count) e ∙ drop-drop count n bytes

-- a buffer that was filled completely
pub refilled : (n : ℕ) (new old : List ℕ) → length new ≡ n → take n (new ++ drop (length new) old) ≡ new
refilled n new old e =
    ap (λ k. take k (new ++ drop (length new) old)) (sym e) ∙ take-append_seam new (drop (length new) old)

-- a buffer that was filled completely still has the front of the frame
pub still_holds : (kept n : ℕ) (new old : List ℕ) {back : List ℕ} (frame : List ℕ)
    → back ≡ take n (new ++ drop (length new) old)
    → length new ≡ n → IsKeptFrontOf (take kept new) frame
    → IsKeptFrontOf (take kept back) frame
still_holds kept n new old frame is long stands =
    subst (λ (b : List ℕ). IsKeptFrontOf (take kept b) frame) (sym (is ∙ refilled n new old long)) stands
