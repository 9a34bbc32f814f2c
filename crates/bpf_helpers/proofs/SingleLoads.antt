-- Results of single loads on words and bytes.
use Rattle.std.proofs.Common.{◌≡◌, ℕ, ◌+◌, ◌*◌, ◌/◌, ◌%◌, ◌<◌, ◌≤◌, ◌^◌, ℤ, pos, ◌+ℤ◌, Bool, false}
use Rattle.std.proofs.Common.{List, Option, Some, None, option_map, refl, sym, ap, subst, ◌∙◌, arith}
use Rattle.std.proofs.lemmas.Option.{none-some, same_Some, slice_get_within, get_or_from_slice_get}
use Rattle.words.specs.declared.stack.AccessSize.{AccessSize}
use Rattle.words.specs.declared.stack.AccessSize.TheVariants.{Word}
use Rattle.words.specs.Bytes.{number_of, bytes_at}
use Rattle.words.specs.Stack.{bytes_of}
use Rattle.words.specs.StackLaws.{in_one_slot}
use Rattle.tagged_model.specs.declared.value.Object.TheVariants as object
use Rattle.tagged_model.specs.declared.value.Tagged.{Tagged}
use Rattle.tagged_model.specs.declared.value.Tagged.TheVariants.{Scalar, Pointer}
use Rattle.tagged_model.specs.Cells.{widened, number_from, read_cell}
use Rattle.tagged_model.specs.State.{RunState, access_start, stack_load, word_at, context_load, object_bytes, load}
use Rattle.arena.specs.Memory.{base, size_of, offset_of, part_start}
use Rattle.arena.specs.Ranges.{IsInside}
use Rattle.arena.specs.PartLaws.{part_within}
use Rattle.bpf_helpers.specs.Layout.{Layout, IsWord}
use Rattle.bpf_helpers.specs.Stands.{stack_top, IsRoom, Simulates}
use Rattle.bpf_helpers.specs.Named.{part_offset}
use Rattle.bpf_helpers.specs.Accesses.{MayExtend, LoadsGiveWords}
use Rattle.words.specs.Words.{plus_offset}
use Rattle.bpf_helpers.proofs.Many.{also_some}
use Rattle.bpf_helpers.proofs.Inputs.{object_there}
use Rattle.bpf_helpers.proofs.Cells.{number_some, cell_loaded}
use Rattle.bpf_helpers.proofs.Addresses.{in_front, part_offset_seen, is_at, in_stack, slot_of, slot_within, in_context, value_read}
use Rattle.bpf_helpers.specs.States.{Environment, FlatState}

mapped_some : {A B : Type 0} (f : A → B) (o : Option A) (y : B)
    → option_map f o ≡ Some y → (x : A) × (o ≡ Some x) × (f x ≡ y)
mapped_some f None y e = absurd (none-some y e)
mapped_some f (Some x) y e = (x, refl, same_Some (f x) y e)

module _ (env : Environment) (l : Layout) (flat : FlatState) (s : RunState)
    (room : IsRoom env.memory env.tenant) (stands : Simulates env l flat s) where
  -- the bytes are in the part, and the word that is loaded represents the value
  Loads : AccessSize → Bool → ℕ → Tagged → Type 0
  Loads size signed from v =
      (offset : ℕ)
      × (offset_of (size_of flat.memory) (bytes_of size) from ≡ Some offset)
      × IsInside env.memory env.tenant (from, bytes_of size)
      × IsWord env l v (widened size signed (number_of (bytes_at flat.memory.bytes offset (bytes_of size))))

  loads_at : (size : AccessSize) (signed : Bool) (from q : ℕ) (v : Tagged)
      → from ≡ base + (part_start env.memory env.tenant + q)
      → q + bytes_of size ≤ 576
      → IsWord env l v
      (widened size signed
      (number_of (bytes_at flat.memory.bytes (part_start env.memory env.tenant + q) (bytes_of size))))
      → Loads size signed from v
  unfolding Loads
  loads_at size signed from q v e fits word =
      let a =
      is_at env.memory env.tenant room (size_of flat.memory) (bytes_of size) from q
      stands.changed.size e (omega arith) in
      (part_start env.memory env.tenant + q, a.0, a.1, word)

  start_small : part_start env.memory env.tenant + 576 ≤ 2 ^ 28
  start_small =
      let bound = room.bound in
      let large = room.room in
      let within = part_within env.memory env.tenant room.is_part in
      omega arith

  stack_loaded : (size : AccessSize) (signed : Bool) (x off : ℤ) (w : ℕ) (v : Tagged)
      → MayExtend size signed → pos w ≡ pos l.front +ℤ x
      → stack_load s (x +ℤ off) size signed ≡ Some v
      → Loads size signed (plus_offset w off) v
  stack_loaded size signed x off w v may h e =
      let start = part_start env.memory env.tenant in
      let a = also_some (access_start (x +ℤ off) size) (λ p. read_cell (s.cells (p / 8)) (p % 8) size signed) v e in
      let q = a.0 in
      let is = in_stack (x +ℤ off) size q a.1 in
      let within = is.within in
      let small = start_small in
      let same = stands.changed.size in
      let whole = part_within env.memory env.tenant room.is_part in
      let large = room.room in
      let lt = slot_within size q within in
      let got =
      cell_loaded env l flat.memory.bytes (start + 8 * (q / 8)) (s.cells (q / 8)) (q % 8) size
      signed v may (stands.stack (q / 8) lt) (omega arith)
      (in_one_slot size q is.aligned) a.2 in
      loads_at size signed (plus_offset w off) q v
      (in_front start w q l.front x off stands.front h is.value (omega arith))
      (omega arith)
      (subst (λ (p : ℕ). IsWord env l v (widened size signed (number_of (bytes_at flat.memory.bytes p (bytes_of size)))))
      (slot_of start q) got)

  word_loaded : (x off : ℤ) (w : ℕ) (v : Tagged)
      → pos w ≡ pos l.front +ℤ x
      → option_map (λ n. Scalar n) (word_at s.words (x +ℤ off)) ≡ Some v
      → Loads Word false (plus_offset w off) v
  word_loaded x off w v h e =
      let start = part_start env.memory env.tenant in
      let a = mapped_some (λ n. Scalar n) (word_at s.words (x +ℤ off)) v e in
      let is = in_context s.words (x +ℤ off) a.0 a.1 in
      let few = slice_get_within s.words (is.offset / 4) a.0 is.word in
      let count = stands.words in
      let even = is.aligned in
      let small = start_small in
      let value : pos (512 + is.offset) ≡ pos 512 +ℤ (x +ℤ off) = ap (λ (z : ℤ). pos 512 +ℤ z) (sym is.is) in
      let last : is.offset + 4 ≤ 44 = whole_word is.offset even (omega arith) in
      let offset : stack_top env.memory env.tenant + 4 * (is.offset / 4) ≡ start + (512 + is.offset) = omega arith in
      let got : number_of (bytes_at flat.memory.bytes (stack_top env.memory env.tenant + 4 * (is.offset / 4)) 4) ≡ a.0 =
      stands.context (is.offset / 4) (omega arith) ∙ get_or_from_slice_get s.words (is.offset / 4) a.0 0 is.word in
      loads_at Word false (plus_offset w off) (512 + is.offset) v
      (in_front start w (512 + is.offset) l.front x off stands.front h value (omega arith))
      (omega arith)
      (subst (λ (u : Tagged). IsWord env l u (number_of (bytes_at flat.memory.bytes (start + (512 + is.offset)) 4))) a.2
      (subst (λ (p : ℕ). number_of (bytes_at flat.memory.bytes p 4) ≡ a.0) offset got))
    where
      whole_word : (y : ℕ) → y % 4 ≡ 0 → y / 4 < 11 → y + 4 ≤ 44
      whole_word y e lt = omega arith

  context_loaded : (size : AccessSize) (signed : Bool) (x off : ℤ) (w : ℕ) (v : Tagged)
      → pos w ≡ pos l.front +ℤ x
      → context_load s (x +ℤ off) size signed ≡ Some v
      → Loads size signed (plus_offset w off) v
  context_loaded Word false x off w v h e = word_loaded x off w v h e
  context_loaded size signed x off w v h e = absurd (none-some v e)

  value_loaded : (size : AccessSize) (signed : Bool) (m number : ℕ) (x off : ℤ) (w : ℕ) (v : Tagged)
      → pos w ≡ pos (l.object_at m number) +ℤ x → number < l.counts m
      → number_from size signed (object_bytes s m number (x +ℤ off) (bytes_of size)) ≡ Some v
      → Loads size signed (plus_offset w off) v
  unfolding Loads
  value_loaded size signed m number x off w v h placed e =
      let n = bytes_of size in
      let from = plus_offset w off in
      let r = number_some size signed (object_bytes s m number (x +ℤ off) n) v e in
      let address = value_read env l flat s room stands m number w n x off (x +ℤ off) r.0 h refl placed r.1 in
      let read = object_there env l flat s room stands m number (x +ℤ off) from n r.0 address placed r.1 in
      let a =
      also_some (part_offset (part_start flat.memory env.tenant) flat.memory.part n from)
      (λ p. Some (bytes_at flat.memory.bytes (part_start flat.memory env.tenant + p) n))
      r.0 read in
      let seen = part_offset_seen (part_start flat.memory env.tenant) flat.memory.part n from a.0 a.1 in
      let start : part_start flat.memory env.tenant ≡ part_start env.memory env.tenant =
      ap (λ (k : ℕ). env.tenant * k) stands.changed.part in
      let part = stands.changed.part in
      let large = room.room in
      let here = seen.0 in
      let fits = seen.1 in
      let b =
      is_at env.memory env.tenant room (size_of flat.memory) n from a.0 stands.changed.size
      (omega arith) (omega arith) in
      let same : bytes_at flat.memory.bytes (part_start env.memory env.tenant + a.0) n ≡ r.0 =
      ap (λ (p : ℕ). bytes_at flat.memory.bytes (p + a.0) n) (sym start) ∙ same_Some _ r.0 a.2 in (
        part_start env.memory env.tenant + a.0,
        b.0,
        b.1,
        subst (λ (u : Tagged).
            IsWord env l u
            (widened size signed (number_of (bytes_at flat.memory.bytes (part_start env.memory env.tenant + a.0) n))))
            r.2
            (ap (λ (list : List ℕ). widened size signed (number_of list)) same),
      )

  loaded : (size : AccessSize) (signed : Bool) (p : Tagged) (off : ℤ) (w : ℕ) (v : Tagged)
      → MayExtend size signed → IsWord env l p w
      → load s size signed p off ≡ Some v
      → Loads size signed (plus_offset w off) v
  loaded size signed (Pointer object.Stack x) off w v may h e = stack_loaded size signed x off w v may h.0 e
  loaded size signed (Pointer object.Context x) off w v may h e = context_loaded size signed x off w v h.0 e
  loaded size signed (Pointer (object.Value m number) x) off w v may h e =
      value_loaded size signed m number x off w v h.0 h.2 e
  loaded size signed p off w v may h e = absurd (none-some v e)

pub loads_give_words : LoadsGiveWords
unfolding Loads
loads_give_words env l flat s size signed p v off w room stands h may e =
    loaded env l flat s room stands size signed p off w v may h e
