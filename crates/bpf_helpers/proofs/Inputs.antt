-- The bytes that a helper reads through a pointer are at the pointer's address, in the part.
use Rattle.std.proofs.Common.{◌≡◌, ℕ, ◌+◌, ◌-◌, ◌*◌, ◌<◌, ◌≤◌, ◌&&◌, leb, ℤ, pos, negsuc, ◌+ℤ◌, Bool, true, false}
use Rattle.std.proofs.Common.{if◌then◌else◌, List, length, drop, Option, Some, None, refl, sym, ap, ◌∙◌, arith}
use Rattle.std.specs.Prelude.{slice_index}
use Rattle.std.specs.Option.{IsSome}
use Rattle.std.proofs.lemmas.Bool.{cond-true, and_from, le-leb, leb-true}
use Rattle.std.proofs.lemmas.Int.{ints}
use Rattle.std.proofs.lemmas.Option.{none-some, same_Some, cond_some}
use Rattle.std.proofs.lemmas.List.{length-take}
use Rattle.words.specs.Bytes.{bytes_at}
use Rattle.words.specs.ByteLaws.{bytes_within}
use Rattle.words.specs.Stack.{is_in_stack, byte_index}
use Rattle.words.specs.StackLaws.{in_stack}
use Rattle.tagged_model.specs.declared.value.Object.TheVariants as object
use Rattle.tagged_model.specs.declared.value.Tagged.{Tagged}
use Rattle.tagged_model.specs.declared.value.Tagged.TheVariants.{Pointer}
use Rattle.tagged_model.specs.Cells.{and_then, gathered}
use Rattle.tagged_model.specs.State.{RunState, RunMap, stack_byte, stack_bytes, value_bytes, object_bytes, input}
use Rattle.arena.specs.Memory.{base, part_start}
use Rattle.arena.specs.PartLaws.{part_within}
use Rattle.bpf_maps.specs.declared.part.TheConstants.{PART}
use Rattle.bpf_maps.specs.Live.{LiveMaps, live_at, shape_at, offset_at}
use Rattle.bpf_maps.specs.LiveLaws.{laid_inside}
use Rattle.bpf_helpers.specs.Layout.{Layout, IsWord}
use Rattle.bpf_helpers.specs.Stands.{IsRoom, HasObject, MapsStandFor, Simulates, stored_maps}
use Rattle.bpf_helpers.specs.Named.{part_offset, part_input}
use Rattle.bpf_helpers.proofs.Many.{also_some, bytes_there}
use Rattle.bpf_helpers.specs.States.{Environment, FlatState}

-- ---- parts

pub part_offset_is : (start part n address at : ℕ)
    → address ≡ base + (start + at) → at + n ≤ part
    → part_offset start part n address ≡ Some at
part_offset_is start part n address at e h =
    let from : base + start ≤ address = omega arith in
    let to : address + n ≤ base + start + part = omega arith in
    let t =
    and_from (leb (base + start) address) (leb (address + n) (base + start + part))
    (le-leb (base + start) address from) (le-leb (address + n) (base + start + part) to) in
    let offset : address - (base + start) ≡ at = omega arith in
    cond-true (leb (base + start) address && leb (address + n) (base + start + part))
    (Some (address - (base + start))) None t
    ∙ ap (λ (q : ℕ). Some q) offset

-- ---- maps

-- an object that has an element
pub record Found (l : Layout) (start : ℕ) (memory : List ℕ) (tenant : LiveMaps)
    (maps : ℕ → Option RunMap) (m number : ℕ) : Type 0 where
  -- the map of the run
  pub map : RunMap
  -- the map is that of the descriptor in the run
  pub there : maps m ≡ Some map
  -- the handle of the live map
  pub key : ℕ
  -- the handle is that of a live map
  pub live : IsSome (live_at tenant key)
  -- the element of the object
  pub element : ℕ
  -- the element is in use, its bytes are the object's value, and they begin at the object's address
  pub has : HasObject (stored_maps start memory tenant) key element (l.object_at m number) (map.values number)

-- each object that the layout counts has an element of a live map
pub placed_object : (env : Environment) (l : Layout) (start : ℕ) (memory : List ℕ)
    (tenant : LiveMaps) (maps : ℕ → Option RunMap) (m number : ℕ)
    → MapsStandFor env l (stored_maps start memory tenant) maps
    → number < l.counts m
    → Found l start memory tenant maps m number
placed_object env l start memory tenant maps m number has lt =
    let at = has.listed m number lt in
    let g = has.each at.0 m at.1 in
    let same = g.2.counted in
    record {
      map = g.0;
      there = g.1;
      key = slice_index env.bind at.0;
      live = g.2.live;
      element = g.2.element number;
      has = g.2.objects number (omega arith);
    }

-- ---- inputs

module _ (env : Environment) (l : Layout) (flat : FlatState) (s : RunState)
    (room : IsRoom env.memory env.tenant) (stands : Simulates env l flat s) where
  start : ℕ
  start = part_start env.memory env.tenant

  -- the part begins at the same offset as at the start of the run
  pub start_same : part_start flat.memory env.tenant ≡ part_start env.memory env.tenant
  start_same = ap (λ (n : ℕ). env.tenant * n) stands.changed.part

  part_same : flat.memory.part ≡ PART
  part_same = stands.changed.part ∙ room.room

  -- n bytes that are in the part
  there : (w n q : ℕ) (bs : List ℕ)
      → w ≡ base + (part_start env.memory env.tenant + q)
      → q + n ≤ PART
      → bytes_at flat.memory.bytes (part_start env.memory env.tenant + q) n ≡ bs
      → part_input flat.memory env.tenant n w ≡ Some bs
  there w n q bs e fits same =
      let begin = start_same in
      let part = part_same in
      ap (λ o. and_then o (λ p. Some (bytes_at flat.memory.bytes (part_start flat.memory env.tenant + p) n)))
      (part_offset_is (part_start flat.memory env.tenant) flat.memory.part n w q
      (e ∙ ap (λ (a : ℕ). base + (a + q)) (sym start_same))
      (omega arith))
      ∙ ap (λ (a : ℕ). Some (bytes_at flat.memory.bytes (a + q) n)) start_same ∙ ap (λ (x : List ℕ). Some x) same

  -- the tenant's part lies in the memory
  pub memory_long : part_start env.memory env.tenant + PART ≤ length flat.memory.bytes
  memory_long =
      let within = part_within env.memory env.tenant room.is_part in
      let size = stands.changed.size in
      let part = room.room in
      omega arith

  stack_there : (x : ℤ) (w n : ℕ) (bs : List ℕ)
      → pos w ≡ pos l.front +ℤ x → stack_bytes s x n ≡ Some bs
      → part_input flat.memory env.tenant n w ≡ Some bs
  stack_there x w n bs h e =
      let c = chosen (is_in_stack x n) (gathered (stack_byte s) (byte_index x) n) e in
      let is = in_stack n x c in
      let value = is.0 in
      let within = is.1 in
      let front = stands.front in
      let long = memory_long in
      there w n (byte_index x) bs (omega (arith, ints)) (omega arith)
      (bytes_there env l flat.memory.bytes (part_start env.memory env.tenant) s x n bs stands.stack (omega arith) e)
    where
      chosen : (b : Bool) (o : Option (List ℕ)) → (if b then o else None) ≡ Some bs → b ≡ true
      chosen true o e = refl
      chosen false o e = absurd (none-some bs e)

  -- bytes that are read in a value are in the part, at the pointer's address
  pub object_there : (m number : ℕ) (x : ℤ) (w n : ℕ) (bs : List ℕ)
      → pos w ≡ pos (l.object_at m number) +ℤ x → number < l.counts m
      → object_bytes s m number x n ≡ Some bs
      → part_input flat.memory env.tenant n w ≡ Some bs
  object_there m number (negsuc y) w n bs h placed e =
      let a = also_some (s.maps m) (λ map. value_bytes (map.values number) (negsuc y) n) bs e in
      absurd (none-some bs a.2)
  object_there m number (pos y) w n bs h placed e =
      let f =
      placed_object env l (part_start env.memory env.tenant) flat.memory.bytes flat.maps s.maps m
      number stands.maps placed in
      let a = also_some (s.maps m) (λ map. value_bytes (map.values number) (pos y) n) bs e in
      let same : a.0 ≡ f.map = same_Some a.0 f.map (sym a.1 ∙ f.there) in
      let off = offset_at flat.maps f.key f.element in
      let size = (shape_at flat.maps f.key).value_size in
      let value = f.map.values number in
      let got : value_bytes value (pos y) n ≡ Some bs =
      ap (λ (map : RunMap). value_bytes (map.values number) (pos y) n) (sym same) ∙ a.2 in
      let c = cond_some (leb (y + n) (length value)) (bytes_at value y n) bs got in
      let few : y + n ≤ length value = leb-true (y + n) (length value) c.0 in
      let is : bytes_at flat.memory.bytes (part_start env.memory env.tenant + off) size ≡ value = f.has.bytes in
      let long : length (bytes_at flat.memory.bytes (part_start env.memory env.tenant + off) size) ≡ length value =
      ap length is in
      let least = length-take size (drop (part_start env.memory env.tenant + off) flat.memory.bytes) in
      let inside = (laid_inside flat.maps stands.maps.laid f.key f.element f.live f.has.within).within in
      let address = f.has.address in
      let whole = memory_long in
      let here : part_start env.memory env.tenant + off + y ≡ part_start env.memory env.tenant + (off + y) =
      omega arith in
      there w n (off + y) bs (omega (arith, ints)) (omega arith)
      (ap (λ (p : ℕ). bytes_at flat.memory.bytes p n) (sym here)
      ∙ sym (bytes_within flat.memory.bytes (part_start env.memory env.tenant + off) size y n (omega arith))
      ∙ ap (λ (v : List ℕ). bytes_at v y n) is
      ∙ c.1)

  -- bytes that are read through a pointer are in the part, at the pointer's address
  pub input_there : (p : Tagged) (w n : ℕ) (bs : List ℕ)
      → IsWord env l p w → input s p n ≡ Some bs
      → part_input flat.memory env.tenant n w ≡ Some bs
  input_there (Pointer object.Stack x) w n bs h e = stack_there x w n bs h.0 e
  input_there (Pointer (object.Value m number) x) w n bs h e = object_there m number x w n bs h.0 h.2 e
  input_there p w n bs h e = absurd (none-some bs e)
