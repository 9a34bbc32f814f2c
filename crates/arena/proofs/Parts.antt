-- The memory after a part was borrowed and written.
use Rattle.std.proofs.Common.{◌≡◌, ℕ, List, ◌++◌, length, take, drop, ap, ◌∙◌}
use Rattle.std.proofs.lemmas.List.{drop-drop}
use Rattle.arena.specs.Bytes.{written_at}
use Rattle.arena.specs.Memory.{refilled}

-- the bytes of the memory when the borrow ends
pub relent : (bytes : List ℕ) (size start : ℕ) (new : List ℕ)
    → size ≡ length bytes
    → take size
    ((take start bytes ++ (new ++ drop (length new) (drop start bytes)))
    ++ drop (length (take start bytes ++ (new ++ drop (length new) (drop start bytes)))) bytes)
    ≡ refilled bytes (written_at bytes start new)
relent bytes size start new e =
    ap (λ (n : ℕ).
    take n
    ((take start bytes ++ (new ++ drop (length new) (drop start bytes)))
    ++ drop (length (take start bytes ++ (new ++ drop (length new) (drop start bytes)))) bytes))
    e
    ∙ ap (λ (l : List ℕ). refilled bytes (take start bytes ++ (new ++ l))) (drop-drop (length new) start bytes)
