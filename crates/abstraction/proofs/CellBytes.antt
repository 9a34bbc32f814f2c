-- Bytes of a cell that are present, and numbers that are read from them.
use Rattle.std.proofs.Common.{◌≡◌, ℕ, zero, suc, ◌+◌, ◌*◌, ◌^◌, ◌<◌, List, [], ◌∷◌, length, Option, Some, refl, ap, ◌∙◌, arith}
use Rattle.std.proofs.Math.Nat.{pow-suc}
use Rattle.std.specs.List.{All}
use Rattle.words.specs.Bytes.{number_of}
use Rattle.tagged_model.specs.Cells.{Cell, and_then, byte_at, gathered}

-- each byte of the cell is below 256
abbrev pub AreBytes : Cell → Type 0
AreBytes c = (i b : ℕ) → byte_at c i ≡ Some b → b < 256

-- each byte that is present is below 256
abbrev pub IsSmall : (ℕ → Option ℕ) → Type 0
IsSmall byte = (i b : ℕ) → byte i ≡ Some b → b < 256

-- the n bytes from index p on are present: the list of them has n bytes below 256
pub record AreRead (byte : ℕ → Option ℕ) (p n : ℕ) : Type 0 where
  -- the list of these bytes
  pub list : List ℕ
  -- all these bytes are present, and they are those of the list
  pub read : gathered byte p n ≡ Some list
  -- the list has n bytes
  pub count : length list ≡ n
  -- each number of the list is below 256
  pub bytes : All (λ b. b < 256) list
  -- the number that the bytes represent is one of n bytes
  pub small : number_of list < 256 ^ n

none_read : (byte : ℕ → Option ℕ) (p : ℕ) → gathered byte p zero ≡ Some []
unfolding gathered
none_read byte p = refl

one_more_read : (byte : ℕ → Option ℕ) (p n b : ℕ) (bs : List ℕ)
    → byte p ≡ Some b → gathered byte (suc p) n ≡ Some bs
    → gathered byte p (suc n) ≡ Some (b ∷ bs)
unfolding gathered
one_more_read byte p n b bs e f =
    ap (λ o. and_then o (λ x. and_then (gathered byte (suc p) n) (λ xs. Some (x ∷ xs)))) e
    ∙ ap (λ o. and_then o (λ xs. Some (b ∷ xs))) f

one_more_small : (b x n : ℕ) → b < 256 → x < 256 ^ n → b + 256 * x < 256 ^ suc n
one_more_small b x n h g = rw pow-suc (omega arith)

-- if each of n bytes from an index on is present and below 256, they are read
pub all_read : (byte : ℕ → Option ℕ) (n p : ℕ)
    → IsSmall byte
    → ((k : ℕ) → k < n → (b : ℕ) × (byte (p + k) ≡ Some b))
    → AreRead byte p n
all_read byte zero p small there = record {
  list = [];
  read = none_read byte p;
  count = refl;
  bytes = all_none;
  small = omega arith;
}
  where
    all_none : All (λ b. b < 256) []
    all_none k d lt = absurd (omega arith)
all_read byte (suc n) p small there =
    let first = there 0 (omega arith) in
    let here : byte p ≡ Some first.0 = ap byte (omega arith) ∙ first.1 in
    let rest =
    all_read byte n (suc p) small (λ k lt. let r = there (suc k) (omega arith) in (r.0, ap byte (omega arith) ∙ r.1)) in
    record {
      list = first.0 ∷ rest.list;
      read = one_more_read byte p n first.0 rest.list here rest.read;
      count = ap suc rest.count;
      bytes = all_more first.0 rest.list (small p first.0 here) rest.bytes;
      small = one_more_small first.0 (number_of rest.list) n (small p first.0 here) rest.small;
    }
  where
    all_more : (b : ℕ) (bs : List ℕ) → b < 256 → All (λ b. b < 256) bs → All (λ b. b < 256) (b ∷ bs)
    all_more b bs h g zero d lt = h
    all_more b bs h g (suc k) d lt = g k d (omega arith)

-- bytes that are zeros make 0
pub zeros_read : (byte : ℕ → Option ℕ) (n p : ℕ)
    → ((k : ℕ) → k < n → byte (p + k) ≡ Some 0)
    → (bs : List ℕ) × (gathered byte p n ≡ Some bs) × (number_of bs ≡ 0)
zeros_read byte zero p zeros = ([], none_read byte p, refl)
zeros_read byte (suc n) p zeros =
    let here : byte p ≡ Some 0 = ap byte (omega arith) ∙ zeros 0 (omega arith) in
    let rest = zeros_read byte n (suc p) (λ k lt. ap byte (omega arith) ∙ zeros (suc k) (omega arith)) in
    (0 ∷ rest.0, one_more_read byte p n 0 rest.0 here rest.1, let e = rest.2 in omega arith)
