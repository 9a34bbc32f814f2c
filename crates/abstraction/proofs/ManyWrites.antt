-- After a write of bytes across slots of the stack, the facts after it admit the state.
use Rattle.std.proofs.Common.{◌≡◌, ℕ, ◌+◌, ◌-◌, ◌*◌, ◌<◌, ◌≤◌, ◌&&◌, ltb, leb, int_le, ℤ, pos, negsuc, ◌+ℤ◌, ◌≤ℤ◌, Bool, true, false}
use Rattle.std.proofs.Common.{if◌then◌else◌, List, length, get_or, slice_get, Option, Some, None, Ok, refl, sym, subst, ◌∙◌, ⊎_elim, arith}
use Rattle.std.proofs.lemmas.Bool.{cond_both, cond-true, cond-false, and_parts, and_cases, and_from}
use Rattle.std.proofs.lemmas.Bool.{ltb-true, ltb-false, leb-true, lt-ltb, le-leb, false≢true, cases_Bool}
use Rattle.std.proofs.lemmas.Int.{ints}
use Rattle.std.proofs.lemmas.Option.{slice_get-get_or}
use Rattle.reg_kinds.specs.declared.kind.Slot.{Slot}
use Rattle.reg_kinds.specs.declared.kind.Slot.TheVariants as slot
use Rattle.reg_kinds.specs.declared.facts.Facts.{Facts}
use Rattle.reg_kinds.specs.declared.reason.Reason.TheVariants.{OutsideStack}
use Rattle.reg_kinds.specs.Kinds.{slot_at}
use Rattle.words.specs.Stack.{is_in_stack, byte_index, touches}
use Rattle.reg_kinds.specs.Stack.{bytes_over}
use Rattle.reg_kinds.specs.Many.{bits_in, filled, stack_filled}
use Rattle.reg_kinds.specs.TableLaws.{in_table}
use Rattle.tagged_model.specs.Cells.{Cell, bytes, byte_at, cell_over}
use Rattle.tagged_model.specs.State.{RunState, with_cells, stack_written}
use Rattle.tagged_model.specs.StateInvariant.{IsInRange}
use Rattle.abstraction.specs.Admits.{Witness, HasBytes, HasSlot, AdmitsBy}
use Rattle.words.specs.Bytes.{AreBytes as AreSmall}
use Rattle.abstraction.specs.AdmitsLaws.{no_bytes}
use Rattle.abstraction.proofs.CellBytes.{AreBytes}
use Rattle.abstraction.proofs.MaskBits.{only_in, of_either}
use Rattle.abstraction.proofs.StackAccesses.{chosen}

-- ---- a byte of a slot, touched or not

module _ (i : ℕ) (c : Cell) (p : ℕ) (new : List ℕ) where
  -- the byte is one of those that are written
  abbrev IsNew : ℕ → Bool
  IsNew j = leb p (8 * i + j) && ltb (8 * i + j) (p + length new)

  abbrev after : ℕ → Option ℕ
  after j = if IsNew j then slice_get new (8 * i + j - p) else byte_at c j

  not_new : touches p (length new) i ≡ false → (j : ℕ) → j < 8 → IsNew j ≡ true → ⊥
  not_new t j few e =
      let h = and_parts (leb p (8 * i + j)) (ltb (8 * i + j) (p + length new)) e in
      let from = leb-true p (8 * i + j) h.0 in let to = ltb-true (8 * i + j) (p + length new) h.1 in
      ⊎_elim (λ f. let g = ltb-false p (8 * i + 8) f in omega arith)
      (λ f. let g = ltb-false (8 * i) (p + length new) f in omega arith)
      (and_cases (ltb p (8 * i + 8)) (ltb (8 * i) (p + length new)) t)

  -- after a write, a byte of the slot is the one written there, if it was written, else the old one
  pub byte_over : (j : ℕ) → j < 8 → byte_at (cell_over i c p new) j ≡ after j
  byte_over j few =
      cond_both (touches p (length new) i) (bytes after) c (λ (d : Cell). byte_at d j ≡ after j)
      (λ t. refl)
      (λ t.
      ⊎_elim (λ e. absurd (not_new t j few e))
      (λ e. sym (cond-false (IsNew j) (slice_get new (8 * i + j - p)) (byte_at c j) e))
      (cases_Bool (IsNew j)))

  new_there : (j : ℕ)
      → j < 8 → p ≤ 8 * i + j
      → 8 * i + j < p + length new
      → (b : ℕ) × (byte_at (cell_over i c p new) j ≡ Some b)
  new_there j few from to =
      let is =
      and_from (leb p (8 * i + j)) (ltb (8 * i + j) (p + length new)) (le-leb p (8 * i + j) from)
      (lt-ltb (8 * i + j) (p + length new) to) in (
        get_or new (8 * i + j - p) 0,
        byte_over j few
            ∙ cond-true (IsNew j) (slice_get new (8 * i + j - p)) (byte_at c j) is
            ∙ slice_get-get_or new (8 * i + j - p) 0 (omega arith),
      )

  old_there : (j b : ℕ) → j < 8 → byte_at c j ≡ Some b → (d : ℕ) × (byte_at (cell_over i c p new) j ≡ Some d)
  old_there j b few e =
      ⊎_elim
      (λ t.
      let h = and_parts (leb p (8 * i + j)) (ltb (8 * i + j) (p + length new)) t in
      new_there j few (leb-true p (8 * i + j) h.0) (ltb-true (8 * i + j) (p + length new) h.1))
      (λ t. (b, byte_over j few ∙ cond-false (IsNew j) (slice_get new (8 * i + j - p)) (byte_at c j) t ∙ e))
      (cases_Bool (IsNew j))

  -- after a write of bytes over a cell of bytes, it has only bytes
  pub small_over : AreBytes c → AreSmall new → AreBytes (cell_over i c p new)
  small_over small news =
      cond_both (touches p (length new) i) (bytes after) c AreBytes
      (λ _ j b. cond_both (IsNew j) (slice_get new (8 * i + j - p)) (byte_at c j) (λ o. o ≡ Some b → b < 256)
      (λ t e. let h = and_parts (leb p (8 * i + j)) (ltb (8 * i + j) (p + length new)) t in
      let from = leb-true p (8 * i + j) h.0 in let to = ltb-true (8 * i + j) (p + length new) h.1 in
      among new (8 * i + j - p) b (omega arith) news e)
      (λ _ e. small j b e))
      (λ _. small)
    where
      among : (bs : List ℕ) (k b : ℕ) → k < length bs → AreSmall bs → slice_get bs k ≡ Some b → b < 256
      among bs k b lt all e =
          let same : get_or bs k 0 ≡ b = same_some (get_or bs k 0) b (sym (slice_get-get_or bs k 0 lt) ∙ e) in
          subst (λ x. x < 256) same (all k 0 lt)
        where
          same_some : (x y : ℕ) → Some x ≡ Some y → x ≡ y
          same_some x y e = cc

  -- ---- the facts about the slot

  bits_there : (lo : ℕ) → lo ≤ length new → HasBytes (bits_in p lo i) (cell_over i c p new)
  bits_there lo le j few one = let h = only_in p lo i j one in let to = h.1 in new_there j few h.0 (omega arith)

  slot_over : (witness : Witness) (t : Slot) (lo : ℕ)
      → lo ≤ length new → HasSlot witness t c
      → HasSlot witness (bytes_over t (bits_in p lo i)) (cell_over i c p new)
  slot_over witness (slot.Bytes mask) lo le has = λ j few one.
      ⊎_elim (λ old. let b = has j few old in old_there j b.0 few b.1)
      (λ fresh. bits_there lo le j few fresh) (of_either mask (bits_in p lo i) j one)
  slot_over witness (slot.Spill k) lo le has = bits_there lo le

  -- an access of more bytes touches at least the same slots
  untouched : (hi : ℕ) → length new ≤ hi → touches p hi i ≡ false → touches p (length new) i ≡ false
  untouched hi le e =
      ⊎_elim (λ t. absurd (false≢true (sym e ∙ more t))) (λ f. f) (cases_Bool (touches p (length new) i))
    where
      more : touches p (length new) i ≡ true → touches p hi i ≡ true
      more t =
          let h = and_parts (ltb p (8 * i + 8)) (ltb (8 * i) (p + length new)) t in
          let to = ltb-true (8 * i) (p + length new) h.1 in
          and_from (ltb p (8 * i + 8)) (ltb (8 * i) (p + hi)) h.0 (lt-ltb (8 * i) (p + hi) (omega arith))

  -- after a write of lo to hi bytes, the cell is what is known of its slot: the first lo of them are present
  pub slot_filled : (witness : Witness) (t : Slot) (lo hi : ℕ)
      → lo ≤ length new → length new ≤ hi
      → HasSlot witness t c
      → HasSlot witness (if touches p hi i then bytes_over t (bits_in p lo i) else t) (cell_over i c p new)
  slot_filled witness t lo hi le more has =
      cond_both (touches p hi i) (bytes_over t (bits_in p lo i)) t (λ u. HasSlot witness u (cell_over i c p new))
      (λ _. slot_over witness t lo le has)
      (λ e.
      subst (HasSlot witness t) (sym (cond-false (touches p (length new) i) (bytes after) c (untouched hi more e))) has)

-- ---- the state

shorter : (x : ℤ) (n hi : ℕ) → n ≤ hi → is_in_stack x hi ≡ true → is_in_stack x n ≡ true
shorter x n hi le e =
    let h = and_parts (int_le (negsuc 511) x) (int_le (x +ℤ pos hi) (pos 0)) e in
    let p = h.1 in
    let high : (x +ℤ pos hi) ≤ℤ pos 0 = grind (arith, ints) in
    let low : (x +ℤ pos n) ≤ℤ pos 0 = omega (arith, ints) in
    and_from (int_le (negsuc 511) x) (int_le (x +ℤ pos n) (pos 0)) h.0 (grind (arith, ints))

-- if the facts allow a write of lo to hi bytes, those after it admit the state after a write of so many bytes
pub stack_write_many : (witness : Witness) (f g : Facts) (s : RunState) (x : ℤ) (lo hi : ℕ) (bs : List ℕ)
    → IsInRange s → AdmitsBy witness f s
    → AreSmall bs → lo ≤ length bs
    → length bs ≤ hi → stack_filled f x lo hi ≡ Ok g
    → (t : RunState) × (stack_written s x bs ≡ Some t) × AdmitsBy witness g t × IsInRange t
stack_write_many witness f g s x lo hi bs proper admits small le more e =
    let p = byte_index x in
    let h = chosen (is_in_stack x hi) (filled f x lo hi) g OutsideStack e in
    let t = with_cells s (λ i. cell_over i (s.cells i) p bs) in (
      t,
      cond-true (is_in_stack x (length bs)) (Some t) None (shorter x (length bs) hi more h.0),
      subst (λ g. AdmitsBy witness g t) h.1 (record {
        registers = admits.registers;
        slots = λ i.
            in_table (λ u. HasSlot witness u (cell_over i (s.cells i) p bs))
            (λ i. if touches p hi i then bytes_over (slot_at f i) (bits_in p lo i) else slot_at f i)
            64 i (slot.Bytes 0)
            (slot_filled i (s.cells i) p bs witness (slot_at f i) lo hi le more (admits.slots i))
            (no_bytes (cell_over i (s.cells i) p bs));
        objects = admits.objects;
      }),
      record {
        bytes = λ i. small_over i (s.cells i) p bs (proper.bytes i) small;
        words = proper.words;
        count = proper.count;
        values = proper.values;
        packet = proper.packet;
      },
    )
