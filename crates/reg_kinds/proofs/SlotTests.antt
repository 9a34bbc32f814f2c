-- Tests of all slots, and bits that represent bytes.
use Rattle.std.proofs.Common.{◌≡◌, ℕ, ◌+◌, ◌-◌, ◌*◌, ◌%◌, ◌^◌, ◌<◌, ◌≤◌, Bool, false, refl, sym, ap, subst, ◌∙◌, inl, inr, arith}
use Rattle.std.specs.Prelude.{if◌then◌else◌, not, nat_lt, min, ◌&&◌, ◌==◌, ◌⊎◌, ℤ, Result, Ok, Err, Some, None}
use Rattle.std.proofs.lemmas.Bool.{le-ltb}
use Rattle.std.proofs.Math.Bool.{and-false}
use Rattle.std.specs.Int.Bits.{and_zero_r}
use Rattle.std.proofs.Math.Nat.{mod-eq_of_lt, pow-le-pow_right}
use Rattle.std.proofs.lemmas.Option.{cond_some}
use Rattle.reg_kinds.specs.declared.kind.Slot.{Slot}
use Rattle.reg_kinds.specs.declared.kind.Slot.TheVariants.{Bytes, Spill}
use Rattle.reg_kinds.specs.declared.facts.Facts.{Facts}
use Rattle.reg_kinds.specs.declared.reason.Reason.{Reason}
use Rattle.reg_kinds.specs.declared.reason.Reason.TheVariants.{OutsideStack, UnwrittenStack, PartOfSpill}
use Rattle.reg_kinds.specs.Kinds.{slot_at}
use Rattle.words.specs.Stack.{is_in_stack, byte_index, touches}
use Rattle.reg_kinds.specs.BitLaws.{ones_small}
use Rattle.reg_kinds.specs.Many.{is_touched_spill, touches_spill, lacks, has_unwritten_byte, bits_in, stack_input}

-- ---- slots that an access does not touch

apart : (p n i : ℕ) → (8 * i + 8 ≤ p) ⊎ (p + n ≤ 8 * i) → touches p n i ≡ false
apart p n i (inl le) = ap (λ b. b && nat_lt (8 * i) (p + n)) (le-ltb p (8 * i + 8) le)
apart p n i (inr le) =
    ap (λ b. nat_lt p (8 * i + 8) && b) (le-ltb (8 * i) (p + n) le) ∙ and-false (nat_lt p (8 * i + 8))

no_bits : (p n i : ℕ) → (8 * i + 8 ≤ p) ⊎ (p + n ≤ 8 * i) → bits_in p n i ≡ 0
no_bits p n i (inl le) =
    let none : min 8 (p + n - 8 * i) - (p - 8 * i) ≡ 0 = omega (arith, le) in
    subst (λ (k : ℕ). (2 ^ k - 1) * 2 ^ (p - 8 * i) ≡ 0) (sym none) (omega arith)
no_bits p n i (inr le) =
    let none : min 8 (p + n - 8 * i) - (p - 8 * i) ≡ 0 = omega (arith, le) in
    subst (λ (k : ℕ). (2 ^ k - 1) * 2 ^ (p - 8 * i) ≡ 0) (sym none) (omega arith)

unspilled : (s : Slot) (touched : Bool) → touched ≡ false → is_touched_spill s touched ≡ false
unspilled (Bytes mask) touched none = refl
unspilled (Spill k) touched none = none

lacks_none : (s : Slot) → lacks s 0 ≡ false
lacks_none (Bytes mask) = ap (λ (x : ℕ). not (x == 0)) (and_zero_r mask)
lacks_none (Spill k) = refl

-- an access to other slots touches no spill of a slot
pub spill_apart : (f : Facts) (p n i : ℕ)
    → (8 * i + 8 ≤ p) ⊎ (p + n ≤ 8 * i) → is_touched_spill (slot_at f i) (touches p n i) ≡ false
spill_apart f p n i h = unspilled (slot_at f i) (touches p n i) (apart p n i h)

-- an access to other slots lacks no byte of a slot
pub lacks_apart : (f : Facts) (p n i : ℕ)
    → (8 * i + 8 ≤ p) ⊎ (p + n ≤ 8 * i) → lacks (slot_at f i) (bits_in p n i) ≡ false
lacks_apart f p n i h = ap (lacks (slot_at f i)) (no_bits p n i h) ∙ lacks_none (slot_at f i)

-- ---- reads that are permitted

abbrev pub seen_of : Bool → Bool → Result (Unit {0}) Reason
seen_of a b = if a then Err PartOfSpill else (if b then Err UnwrittenStack else Ok tt)

input_at : (f : Facts) (x : ℤ) (n p : ℕ) (a b : Bool)
    → (if is_in_stack x n then Some (byte_index x) else None) ≡ Some p
    → a ≡ touches_spill f p n → b ≡ has_unwritten_byte f p n
    → seen_of a b ≡ stack_input f x n
input_at f x n p a b at e g =
    let h = cond_some (is_in_stack x n) (byte_index x) p at in
    ap (λ a. seen_of a b) e
    ∙ ap (seen_of (touches_spill f p n)) g
    ∙ sym (ap (λ q. seen_of (touches_spill f q n) (has_unwritten_byte f q n)) h.1)
    ∙ sym (ap (λ t.
    if not t then Err OutsideStack else seen_of (touches_spill f (byte_index x) n) (has_unwritten_byte f (byte_index x) n))
    h.0)

-- if bytes lie in the stack, only a touched spill or an unwritten byte is a reason against a helper's read of them
pub input_is : (f : Facts) (x y : ℤ) (n p : ℕ) (a b : Bool)
    → y ≡ x
    → (if is_in_stack y n then Some (byte_index y) else None) ≡ Some p
    → a ≡ touches_spill f p n → b ≡ has_unwritten_byte f p n
    → seen_of a b ≡ stack_input f x n
input_is f x y n p a b same at e g =
    input_at f x n p a b (subst (λ z. (if is_in_stack z n then Some (byte_index z) else None) ≡ Some p) same at) e g

-- ---- bits

-- shifts of a 16-bit number make the mask of a bits from bit b on, if it lies in eight bits
pub ones_are : (a b : ℕ) → a + b ≤ 8 → ((1 * 2 ^ a % 65536 - 1) * 2 ^ b) % 65536 ≡ (2 ^ a - 1) * 2 ^ b
ones_are a b h =
    let some : 0 < 2 = omega arith in
    let few : a ≤ 8 = omega arith in
    let most : 2 ^ a ≤ 2 ^ 8 = pow-le-pow_right some few in
    let one : 1 * 2 ^ a % 65536 ≡ 2 ^ a = mod-eq_of_lt (omega arith) ∙ (omega arith) in
    let small = ones_small a b h in
    ap (λ (x : ℕ). ((x - 1) * 2 ^ b) % 65536) one ∙ mod-eq_of_lt (omega arith)
