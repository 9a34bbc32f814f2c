-- Words and bytes after single stores.
use Rattle.std.proofs.Common.{◌≡◌, ◌⊎◌, inl, inr, ℕ, ◌+◌, ◌*◌, ◌/◌, ◌%◌, ◌<◌, ◌≤◌, eqb, ℤ, pos, ◌+ℤ◌, List, length, Some, refl, sym, ap, subst, ⊎_elim, arith}
use Rattle.std.proofs.lemmas.Bool.{cond_both, eqb-true, eqb-false, cases_lt}
use Rattle.std.proofs.lemmas.Option.{none-some, same_Some}
use Rattle.words.specs.declared.stack.AccessSize.{AccessSize}
use Rattle.words.specs.Bytes.{low_bytes, written_at}
use Rattle.words.specs.ByteLaws.{length-low_bytes}
use Rattle.words.specs.Stack.{bytes_of}
use Rattle.words.specs.StackLaws.{in_one_slot}
use Rattle.tagged_model.specs.declared.value.Object.TheVariants as object
use Rattle.tagged_model.specs.declared.value.Tagged.{Tagged}
use Rattle.tagged_model.specs.declared.value.Tagged.TheVariants.{Scalar, Map, Pointer}
use Rattle.tagged_model.specs.Cells.{Cell, and_then, write_cell}
use Rattle.tagged_model.specs.State.{RunState, set_at, with_cell, access_start, stack_store, object_written, object_stored, store}
use Rattle.arena.specs.Memory.{size_of, offset_of, part_start, with_bytes}
use Rattle.arena.specs.Apart.{WritesStayInside}
use Rattle.arena.specs.Ranges.{IsInside}
use Rattle.arena.specs.PartLaws.{part_within}
use Rattle.bpf_helpers.specs.Layout.{Layout, IsWord, HasCell}
use Rattle.bpf_helpers.specs.Stands.{IsRoom, Simulates}
use Rattle.bpf_helpers.specs.Accesses.{PointerFits, StoresKeepSimulation}
use Rattle.words.specs.Words.{plus_offset}
use Rattle.bpf_helpers.proofs.Many.{also_some}
use Rattle.bpf_helpers.proofs.Inputs.{memory_long}
use Rattle.bpf_helpers.proofs.Outputs.{stack_stands, cell_kept, object_overwritten}
use Rattle.bpf_helpers.proofs.Cells.{cell_stored}
use Rattle.bpf_helpers.proofs.Addresses.{in_front, part_offset_seen, is_at, in_stack, slot_of, slot_within, value_overwritten}
use Rattle.bpf_helpers.specs.States.{Environment, FlatState, with_memory}

module _ (writes : WritesStayInside) (env : Environment) (l : Layout) (flat : FlatState)
    (s : RunState) (room : IsRoom env.memory env.tenant) (stands : Simulates env l flat s) where
  -- the bytes are in the part, and the memory after the store represents the state
  Stores : ℕ → List ℕ → ℕ → RunState → Type 0
  Stores n new from u =
      (offset : ℕ)
      × (offset_of (size_of flat.memory) n from ≡ Some offset)
      × IsInside env.memory env.tenant (from, n)
      × Simulates env l (with_memory flat (with_bytes flat.memory offset new)) u

  -- ---- the stack

  -- the slot that is written, and the other slots
  cells_after : (size : AccessSize) (q w : ℕ) (v : Tagged) (d : Cell)
      → q + bytes_of size ≤ 512 → q % bytes_of size ≡ 0
      → IsWord env l v w → PointerFits v w
      → write_cell (s.cells (q / 8)) (q % 8) size v ≡ Some d
      → (k : ℕ) → k < 64
      → HasCell env l
      (written_at flat.memory.bytes (part_start env.memory env.tenant + q) (low_bytes (bytes_of size) w))
      (part_start env.memory env.tenant + 8 * k) (set_at s.cells (q / 8) d k)
  cells_after size q w v d within even h small e k lt =
      let start = part_start env.memory env.tenant in
      let n = bytes_of size in
      let new = low_bytes n w in
      let count = length-low_bytes n w in
      let one = in_one_slot size q even in
      let i_small = slot_within size q within in
      let long = memory_long env l flat s room stands in
      cond_both (eqb k (q / 8)) d (s.cells k)
      (λ (c : Cell). HasCell env l (written_at flat.memory.bytes (start + q) new) (start + 8 * k) c)
      (λ f. let same : k ≡ q / 8 = eqb-true k (q / 8) f in
      subst (λ (i : ℕ). HasCell env l (written_at flat.memory.bytes (start + q) new) (start + 8 * i) d) (sym same)
      (subst (λ (a : ℕ). HasCell env l (written_at flat.memory.bytes a new) (start + 8 * (q / 8)) d) (slot_of start q)
      (cell_stored env l flat.memory.bytes (start + 8 * (q / 8)) (s.cells (q / 8)) d (q % 8) size v
      w one (omega arith) (stands.stack (q / 8) i_small) h
      small e)))
      (λ f.
      cell_kept env l flat.memory.bytes new (start + q) (omega arith) (start + 8 * k) (s.cells k)
      (apart start k q n (length new) count one (eqb-false k (q / 8) f))
      (stands.stack k lt))
    where
      apart : (start k q n l : ℕ)
          → l ≡ n → q % 8 + n ≤ 8
          → (k ≡ q / 8 → ⊥)
          → (start + 8 * k + 8 ≤ start + q) ⊎ (start + q + l ≤ start + 8 * k)
      apart start k q n l e r other =
          ⊎_elim (λ below. inl (omega arith)) (λ above. inr (omega arith)) (cases_lt k (q / 8))

  stack_stored : (size : AccessSize) (x off : ℤ) (w y : ℕ) (v : Tagged) (u : RunState)
      → pos w ≡ pos l.front +ℤ x → IsWord env l v y
      → PointerFits v y → stack_store s (x +ℤ off) size v ≡ Some u
      → Stores (bytes_of size) (low_bytes (bytes_of size) y) (plus_offset w off) u
  unfolding Stores
  stack_stored size x off w y v u h word small e =
      let start = part_start env.memory env.tenant in
      let n = bytes_of size in
      let new = low_bytes n y in
      let count = length-low_bytes n y in
      let a =
      also_some (access_start (x +ℤ off) size)
      (λ p. and_then (write_cell (s.cells (p / 8)) (p % 8) size v) (λ c. Some (with_cell s (p / 8) c)))
      u e in
      let q = a.0 in
      let is = in_stack (x +ℤ off) size q a.1 in
      let b = also_some (write_cell (s.cells (q / 8)) (q % 8) size v) (λ c. Some (with_cell s (q / 8) c)) u a.2 in
      let within = is.within in
      let bound = room.bound in
      let large = room.room in
      let whole = part_within env.memory env.tenant room.is_part in
      let long = memory_long env l flat s room stands in
      let c =
      is_at env.memory env.tenant room (size_of flat.memory) n (plus_offset w off) q
      stands.changed.size
      (in_front start w q l.front x off stands.front h is.value (omega arith))
      (omega arith) in (
        start + q,
        c.0,
        c.1,
        subst (λ (z : RunState). Simulates env l (with_memory flat (with_bytes flat.memory (start + q) new)) z)
            (same_Some _ u b.2)
            (stack_stands writes env l flat s room stands q new (set_at s.cells (q / 8) b.0)
            (omega arith)
            (λ k lt. cells_after size q y v b.0 within is.aligned word small b.1 k lt)),
      )

  -- ---- the values of maps

  bytes_stored : (m number : ℕ) (x off : ℤ) (w n : ℕ) (new : List ℕ) (u : RunState)
      → length new ≡ n → pos w ≡ pos (l.object_at m number) +ℤ x
      → number < l.counts m
      → object_written s m number (x +ℤ off) new ≡ Some u
      → Stores n new (plus_offset w off) u
  unfolding Stores
  bytes_stored m number x off w n new u count h placed e =
      let from = plus_offset w off in
      let address = value_overwritten env l flat s room stands m number w x off (x +ℤ off) new u h refl placed e in
      let r = object_overwritten writes env l flat s room stands m number (x +ℤ off) from new u address placed e in
      let seen = part_offset_seen (part_start flat.memory env.tenant) flat.memory.part (length new) from r.0 r.1 in
      let start : part_start flat.memory env.tenant ≡ part_start env.memory env.tenant =
      ap (λ (k : ℕ). env.tenant * k) stands.changed.part in
      let part = stands.changed.part in
      let large = room.room in
      let here = seen.0 in
      let fits = seen.1 in
      let b =
      is_at env.memory env.tenant room (size_of flat.memory) n from r.0 stands.changed.size
      (omega arith) (omega arith) in (
        part_start env.memory env.tenant + r.0,
        b.0,
        b.1,
        subst (λ (p : ℕ). Simulates env l (with_memory flat (with_bytes flat.memory (p + r.0) new)) u) start r.2,
      )

  value_stored : (size : AccessSize) (m number : ℕ) (x off : ℤ) (w y : ℕ) (v : Tagged) (u : RunState)
      → pos w ≡ pos (l.object_at m number) +ℤ x → number < l.counts m
      → IsWord env l v y
      → object_stored s size m number (x +ℤ off) v ≡ Some u
      → Stores (bytes_of size) (low_bytes (bytes_of size) y) (plus_offset w off) u
  value_stored size m number x off w y (Scalar n) u h placed word e =
      subst (λ (k : ℕ). Stores (bytes_of size) (low_bytes (bytes_of size) k) (plus_offset w off) u) (sym word)
      (bytes_stored m number x off w (bytes_of size) (low_bytes (bytes_of size) n) u
      (length-low_bytes (bytes_of size) n) h placed e)
  value_stored size m number x off w y (Map k) u h placed word e = absurd (none-some u e)
  value_stored size m number x off w y (Pointer o z) u h placed word e = absurd (none-some u e)

  stored : (size : AccessSize) (p : Tagged) (off : ℤ) (w y : ℕ) (v : Tagged) (u : RunState)
      → IsWord env l p w → IsWord env l v y
      → PointerFits v y → store s size p off v ≡ Some u
      → Stores (bytes_of size) (low_bytes (bytes_of size) y) (plus_offset w off) u
  stored size (Pointer object.Stack x) off w y v u h word small e = stack_stored size x off w y v u h.0 word small e
  stored size (Pointer (object.Value m number) x) off w y v u h word small e =
      value_stored size m number x off w y v u h.0 h.2 word e
  stored size p off w y v u h word small e = absurd (none-some u e)

pub stores_keep_simulation : WritesStayInside → StoresKeepSimulation
unfolding Stores
stores_keep_simulation writes env l flat s u size p v off w y room stands h word small e =
    stored writes env l flat s room stands size p off w y v u h word small e
