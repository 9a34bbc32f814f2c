-- Pieces of bytes that are written one after another, and may overlap.
use Rattle.std.proofs.Common.{◌≡◌, ℕ, ◌+◌, ◌-◌, ◌≤◌, List, ◌++◌, length, take, drop, sym, ap, ap₂, ◌∙◌, arith, append_assoc, length-drop, take-append-drop}
use Rattle.std.proofs.Math.Seq.{take-append-add, drop-append-add}
use Rattle.std.proofs.lemmas.List.{length-take-le, take-append-le, drop-drop}
use Rattle.words.specs.Bytes.{written_at}

front_kept : (bytes : List ℕ) (n last : ℕ) → last ≤ n → n ≤ length bytes → take last (take n bytes) ≡ take last bytes
front_kept bytes n last low fits =
    sym (take-append-le last (take n bytes) (drop n bytes) (omega (arith, length-take-le n bytes fits)))
    ∙ ap (take last) (take-append-drop n bytes)

-- the first n bytes, and then the last n
pub ends_written : (to bytes : List ℕ) (offset n last : ℕ)
    → last + n ≡ length bytes → last ≤ n
    → offset + length bytes ≤ length to
    → written_at (written_at to offset (take n bytes)) (offset + last) (drop last bytes) ≡ written_at to offset bytes
ends_written to bytes offset n last all low room =
    let front = take offset to in
    let first = take n bytes in
    let back = drop (offset + length first) to in
    let tail = drop (offset + length bytes) to in
    let mid = front ++ (first ++ back) in
    let more = length bytes - n in
    let front_long : length front ≡ offset = length-take-le offset to (omega arith) in
    let first_long : length first ≡ n = length-take-le n bytes (omega arith) in
    let kept : take (offset + last) mid ≡ front ++ take last bytes =
    ap (λ (k : ℕ). take (k + last) mid) (sym front_long) ∙ take-append-add front (first ++ back) last
    ∙ ap (λ (l : List ℕ). front ++ l)
    (take-append-le last first back (omega arith) ∙ front_kept bytes n last low (omega arith)) in
    let end : (offset + last) + length (drop last bytes) ≡ length front + (length first + more) =
    omega (arith, length-drop last bytes, front_long, first_long) in
    let left : drop ((offset + last) + length (drop last bytes)) mid ≡ tail =
    ap (λ (k : ℕ). drop k mid) end
    ∙ drop-append-add front (first ++ back) (length first + more)
    ∙ drop-append-add first back more
    ∙ drop-drop more (offset + length first) to
    ∙ ap (λ (k : ℕ). drop k to) (omega (arith, first_long)) in
    ap₂ (λ (x y : List ℕ). x ++ (drop last bytes ++ y)) kept left
    ∙ append_assoc front (take last bytes) (drop last bytes ++ tail)
    ∙ ap (λ (l : List ℕ). front ++ l)
    (sym (append_assoc (take last bytes) (drop last bytes) tail)
    ∙ ap (λ (l : List ℕ). l ++ tail) (take-append-drop last bytes))
