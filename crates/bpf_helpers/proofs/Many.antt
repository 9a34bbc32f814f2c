-- Bytes that are read and written across slots of the stack.
use Rattle.std.proofs.Common.{◌≡◌, ◌⊎◌, inl, inr, ℕ, zero, suc, ◌+◌, ◌-◌, ◌*◌, ◌/◌, ◌%◌, ◌<◌, ◌≤◌, ◌&&◌, ltb, leb, Bool, true, false}
use Rattle.std.proofs.Common.{if◌then◌else◌, List, [], ◌∷◌, length, get_or, slice_get, Option, Some, None, refl, sym, ap, subst, ◌∙◌, arith}
use Rattle.std.proofs.lemmas.Bool.{cond_both, and_parts, and_cases, ltb-true, ltb-false, leb-true, leb-false}
use Rattle.std.proofs.lemmas.Option.{none-some, same_Some, cond_some, get_or_from_slice_get}
use Rattle.words.specs.Bytes.{number_of, written_at}
use Rattle.words.specs.ByteLaws.{written_in, written_out, bytes_are, bytes_stay}
use Rattle.words.specs.Stack.{is_in_stack, byte_index, touches}
use Rattle.words.specs.StackLaws.{in_stack}
use Rattle.tagged_model.specs.declared.value.Tagged.{Tagged}
use Rattle.tagged_model.specs.Cells.{Cell, holds, bytes, and_then, byte_at, gathered, cell_over}
use Rattle.tagged_model.specs.State.{RunState, with_cells, stack_byte}
use Rattle.bpf_helpers.specs.Layout.{Layout, IsWord, HasCell, HasStack}
use Rattle.bpf_helpers.specs.inside.Laws.{StackBytesAreThere, StackBytesAreWritten}
use Rattle.bpf_helpers.specs.States.{Environment}

-- if a second optional result depends on a first one and exists, the first one exists too
pub also_some : {A B : Type 0} (o : Option A) (f : A → Option B) (y : B)
    → and_then o f ≡ Some y → (x : A) × (o ≡ Some x) × (f x ≡ Some y)
also_some None f y e = absurd (none-some y e)
also_some (Some x) f y e = (x, refl, e)

-- ---- bytes that are present

-- the list has the n bytes from offset p on
pub record AreFrom (byte : ℕ → Option ℕ) (p n : ℕ) (list : List ℕ) : Type 0 where
  -- the list has n bytes
  pub count : length list ≡ n
  -- each byte from offset p on is that of its index in the list
  pub each : (k : ℕ) → k < n → byte (p + k) ≡ Some (get_or list k 0)

one_more : (byte : ℕ → Option ℕ) (p n b : ℕ) (list : List ℕ)
    → byte p ≡ Some b → AreFrom byte (suc p) n list
    → AreFrom byte p (suc n) (b ∷ list)
one_more byte p n b list e rest = record { count = ap suc rest.count; each = each }
  where
    each : (k : ℕ) → k < suc n → byte (p + k) ≡ Some (get_or (b ∷ list) k 0)
    each zero lt = ap byte (omega arith) ∙ e
    each (suc k) lt = ap byte (omega arith) ∙ rest.each k (omega arith)

-- if n bytes are gathered from offset p on, each of them is present and is in the list
pub are_from : (byte : ℕ → Option ℕ) (n p : ℕ) (list : List ℕ) → gathered byte p n ≡ Some list → AreFrom byte p n list
unfolding gathered
are_from byte zero p list e =
    subst (AreFrom byte p 0) (same_Some [] list e) (record { count = refl; each = λ k lt. absurd (omega arith) })
are_from byte (suc n) p list e =
    let a = also_some (byte p) (λ b. and_then (gathered byte (suc p) n) (λ bs. Some (b ∷ bs))) list e in
    let r = also_some (gathered byte (suc p) n) (λ bs. Some (a.0 ∷ bs)) list a.2 in
    subst (AreFrom byte p (suc n)) (same_Some (a.0 ∷ r.0) list r.2)
    (one_more byte p n a.0 r.0 a.1 (are_from byte n (suc p) r.0 r.1))

-- ---- reading

-- a byte of the stack is the byte in the memory
stack_byte_there : (env : Environment) (l : Layout) (memory : List ℕ) (start : ℕ) (s : RunState) (q b : ℕ)
    → HasStack env l memory start s.cells → q < 512
    → stack_byte s q ≡ Some b
    → get_or memory (start + q) 0 ≡ b
stack_byte_there env l memory start s q b has lt e =
    let at : start + q ≡ start + 8 * (q / 8) + q % 8 = omega arith in
    ap (λ (a : ℕ). get_or memory a 0) at ∙ (has (q / 8) (omega arith)).present (q % 8) b (omega arith) e

-- n bytes that are read at an offset of the stack, across its slots, are those in the memory
pub bytes_there : StackBytesAreThere
bytes_there env l memory start s y n bs has fits e =
    let i = chosen (is_in_stack y n) (gathered (stack_byte s) (byte_index y) n) bs e in
    let within = (in_stack n y i.0).1 in
    let from = are_from (stack_byte s) n (byte_index y) bs i.1 in
    bytes_are memory bs (start + byte_index y) n from.count (omega arith)
    (λ k lt. let at : start + byte_index y + k ≡ start + (byte_index y + k) = omega arith in
    ap (λ (a : ℕ). get_or memory a 0) at
    ∙ stack_byte_there env l memory start s (byte_index y + k) (get_or bs k 0) has (omega arith) (from.each k lt))
  where
    chosen : {A : Type 0} (b : Bool) (o : Option A) (y : A)
        → (if b then o else None) ≡ Some y → (b ≡ true) × (o ≡ Some y)
    chosen true o y e = (refl, e)
    chosen false o y e = absurd (none-some y e)

-- ---- writing

module _ (env : Environment) (l : Layout) (memory : List ℕ) (start : ℕ)
    (fits : start + 512 ≤ length memory) (p : ℕ) (new : List ℕ) (room : p + length new ≤ 512) where
  -- a cell that is not written
  cell_stays : (i : ℕ) (c : Cell)
      → i < 64 → (8 * i + 8 ≤ p) ⊎ (p + length new ≤ 8 * i)
      → HasCell env l memory (start + 8 * i) c
      → HasCell env l (written_at memory (start + p) new) (start + 8 * i) c
  cell_stays i c lt away has =
      record {
        present = λ j b few e.
            written_out memory new (start + p) (start + 8 * i + j) (omega arith) (apart j few away)
            ∙ has.present j b few e;
        whole = λ v e.
            subst (λ (list : List ℕ). IsWord env l v (number_of list))
            (sym (bytes_stay memory new (start + p) (start + 8 * i) 8 (omega arith) (beside away)))
            (has.whole v e);
      }
    where
      apart : (j : ℕ)
          → j < 8 → (8 * i + 8 ≤ p) ⊎ (p + length new ≤ 8 * i)
          → (start + 8 * i + j < start + p) ⊎ (start + p + length new ≤ start + 8 * i + j)
      apart j few (inl below) = inl (omega arith)
      apart j few (inr above) = inr (omega arith)

      beside : (8 * i + 8 ≤ p) ⊎ (p + length new ≤ 8 * i)
          → (start + 8 * i + 8 ≤ start + p) ⊎ (start + p + length new ≤ start + 8 * i)
      beside (inl below) = inl (omega arith)
      beside (inr above) = inr (omega arith)

  -- a byte of a cell that is written
  over_byte : (i : ℕ) (c : Cell) (j b : ℕ)
      → i < 64 → j < 8
      → HasCell env l memory (start + 8 * i) c
      → (if leb p (8 * i + j) && ltb (8 * i + j) (p + length new) then slice_get new (8 * i + j - p) else byte_at c j)
      ≡ Some b
      → get_or (written_at memory (start + p) new) (start + 8 * i + j) 0 ≡ b
  over_byte i c j b lt few has =
      cond_both (leb p (8 * i + j) && ltb (8 * i + j) (p + length new))
      (slice_get new (8 * i + j - p)) (byte_at c j)
      (λ (o : Option ℕ). o ≡ Some b → get_or (written_at memory (start + p) new) (start + 8 * i + j) 0 ≡ b)
      (λ t e.
      let h = and_parts (leb p (8 * i + j)) (ltb (8 * i + j) (p + length new)) t in
      let from = leb-true p (8 * i + j) h.0 in
      let to = ltb-true (8 * i + j) (p + length new) h.1 in
      let at : start + 8 * i + j ≡ start + p + (8 * i + j - p) = omega arith in
      ap (λ (q : ℕ). get_or (written_at memory (start + p) new) q 0) at
      ∙ written_in memory new (start + p) (8 * i + j - p) (omega arith) (omega arith)
      ∙ get_or_from_slice_get new (8 * i + j - p) b 0 e)
      (λ t e.
      written_out memory new (start + p) (start + 8 * i + j) (omega arith)
      (outside (and_cases (leb p (8 * i + j)) (ltb (8 * i + j) (p + length new)) t))
      ∙ has.present j b few e)
    where
      outside : (leb p (8 * i + j) ≡ false) ⊎ (ltb (8 * i + j) (p + length new) ≡ false)
          → (start + 8 * i + j < start + p) ⊎ (start + p + length new ≤ start + 8 * i + j)
      outside (inl f) = let h = leb-false p (8 * i + j) f in inl (omega arith)
      outside (inr f) = let h = ltb-false (8 * i + j) (p + length new) f in inr (omega arith)

  not_whole : (b : ℕ → Option ℕ) (v : Tagged) → bytes b ≡ holds v → ⊥
  not_whole b v e = cc

  -- after bytes are written in the stack, the memory has each cell as the tagged write leaves it
  pub cell_after : (i : ℕ) (c : Cell)
      → i < 64 → HasCell env l memory (start + 8 * i) c
      → HasCell env l (written_at memory (start + p) new) (start + 8 * i) (cell_over i c p new)
  cell_after i c lt has =
      cond_both (touches p (length new) i)
      (bytes (λ j.
      if leb p (8 * i + j) && ltb (8 * i + j) (p + length new) then slice_get new (8 * i + j - p) else byte_at c j))
      c
      (λ (d : Cell). HasCell env l (written_at memory (start + p) new) (start + 8 * i) d)
      (λ t. record { present = λ j b few e. over_byte i c j b lt few has e; whole = λ v e. absurd (not_whole _ v e) })
      (λ t. cell_stays i c lt (beside (and_cases (ltb p (8 * i + 8)) (ltb (8 * i) (p + length new)) t)) has)
    where
      beside : (ltb p (8 * i + 8) ≡ false) ⊎ (ltb (8 * i) (p + length new) ≡ false)
          → (8 * i + 8 ≤ p) ⊎ (p + length new ≤ 8 * i)
      beside (inl f) = inl (ltb-false p (8 * i + 8) f)
      beside (inr f) = inr (ltb-false (8 * i) (p + length new) f)

-- after bytes are written at an offset of the stack, across its slots, the memory has the cells after it
pub bytes_over : StackBytesAreWritten
bytes_over env l memory start s t y bs has fits e =
    let c = cond_some (is_in_stack y (length bs)) (with_cells s (λ i. cell_over i (s.cells i) (byte_index y) bs)) t e in
    let within = (in_stack (length bs) y c.0).1 in
    subst (λ (u : RunState). HasStack env l (written_at memory (start + byte_index y) bs) start u.cells) c.1
    (λ i lt. cell_after env l memory start fits (byte_index y) bs within i (s.cells i) lt (has i lt))
