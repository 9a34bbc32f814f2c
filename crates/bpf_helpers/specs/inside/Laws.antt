-- Laws of the words and bytes that represent a state, helper by helper. This project's own.
use Rattle.std.specs.Prelude.{◌≡◌, ℕ, ◌+◌, ◌<◌, ◌≤◌, ℤ, List, [], length, slice_get, slice_index, Option, Some, None, IsSome}
use Rattle.std.specs.Map.{values_of}
use Rattle.words.specs.Bytes.{bytes_at, written_at}
use Rattle.words.specs.Stack.{stack_size, byte_index}
use Rattle.tagged_model.specs.declared.helper.Helper.TheVariants.{LookUp}
use Rattle.tagged_model.specs.declared.value.Tagged.{Tagged}
use Rattle.tagged_model.specs.declared.value.Tagged.TheVariants.{Scalar}
use Rattle.tagged_model.specs.State.{RunState, RunMap, with_map, stack_bytes, stack_written, output}
use Rattle.tagged_model.specs.Helpers.{called, returns, updated, removed, packet_bytes, packet_result, GivenMap, MapReply}
use Rattle.tagged_model.specs.Table.{with_values}
use Rattle.tagged_model.specs.Step.{map_at_start, map_after_run}
use Rattle.arena.specs.Memory.{base, part_start, with_bytes}
use Rattle.bpf_maps.specs.KeyTable.{table_of, after_run, IsSound}
use Rattle.bpf_maps.specs.Live.{LiveMaps, live_at, keys_at, shape_at, offset_at}
use Rattle.bpf_helpers.specs.States.{Environment, FlatState, CallResult, with_memory, with_held, call_in, answers, with_result}
use Rattle.bpf_helpers.specs.Layout.{Layout, IsWord, HasStack}
use Rattle.bpf_helpers.specs.Stands.{IsRoom, HasMap, Simulates, element_bytes, stored_maps}
use Rattle.bpf_helpers.specs.Calls.{Extends}
use Rattle.bpf_helpers.specs.Named.{named_offset}
use Rattle.bpf_helpers.specs.inside.Flat.{flat_look_up, Updates, Deletes}

-- ---- the stack

-- n bytes that are read at offset y of the stack, across its slots, are those in the memory
abbrev pub StackBytesAreThere : Type 0
StackBytesAreThere =
    (env : Environment) (l : Layout) (memory : List ℕ) (start : ℕ) (s : RunState)
    (y : ℤ) (n : ℕ) (bs : List ℕ)
    → HasStack env l memory start s.cells
    → start + stack_size ≤ length memory
    → stack_bytes s y n ≡ Some bs
    → bytes_at memory (start + byte_index y) n ≡ bs

-- if the memory represents the stack's cells in state s, and `stack_written` writes bytes at offset
-- y of the stack, perhaps to several slots, then the memory with these bytes written at their byte
-- index represents the cells in the state t after that
abbrev pub StackBytesAreWritten : Type 0
StackBytesAreWritten =
    (env : Environment) (l : Layout) (memory : List ℕ) (start : ℕ) (s t : RunState) (y : ℤ)
    (bs : List ℕ)
    → HasStack env l memory start s.cells
    → start + stack_size ≤ length memory
    → stack_written s y bs ≡ Some t
    → HasStack env l (written_at memory (start + byte_index y) bs) start t.cells

-- ---- the bytes that a helper writes

-- if the machine writes bytes through a pointer, the pointer's word names as many bytes of the
-- part, and the memory with the bytes written to them represents the state after the write
abbrev pub OutputsKeepSimulation : Type 0
OutputsKeepSimulation =
    (env : Environment) (l : Layout) (flat : FlatState) (s u : RunState)
    (p : Tagged) (w : ℕ) (bs : List ℕ)
    → IsRoom env.memory env.tenant → Simulates env l flat s → IsWord env l p w
    → output s p bs ≡ Some u
    → (q : ℕ) × (named_offset flat.memory env.tenant (length bs) w ≡ Some q)
    × Simulates env l
    (with_memory flat (with_bytes flat.memory (part_start flat.memory env.tenant + q) bs)) u

-- ---- the helpers

-- if the machine's call has a result, the call on words has one too, a word that represents it; if
-- the machine's has none, nothing is required
abbrev pub GivesWord : Environment → Layout → Option ℕ → Option Tagged → Type 0
GivesWord env l w None = Unit {0}
GivesWord env l None (Some v) = ⊥
GivesWord env l (Some w) (Some v) = IsWord env l v w

-- for a state s that words and bytes represent: if the tagged machine's look-up in s is no fault,
-- it returns a value v, and the look-up on words and bytes returns a word that represents v
abbrev pub LookUpsFollow : Type 0
LookUpsFollow =
    (env : Environment) (l : Layout) (flat : FlatState) (s u : RunState)
    → IsRoom env.memory env.tenant → Simulates env l flat s
    → called LookUp s ≡ Some u
    → (v : Tagged) × (u ≡ returns s v)
    × GivesWord env l
    (flat_look_up (call_in env flat) (slice_index flat.registers 1) (slice_index flat.registers 2))
    (Some v)

-- the arguments of an update on the machine of tagged values: the map with its descriptor, the
-- bytes of the key and of the value, and the flags
pub record TaggedUpdate : Type 0 where
  pub given : GivenMap
  pub key : List ℕ
  pub value : List ℕ
  pub flags : ℕ

-- the result of the machine's update, and its map after it
abbrev pub update_reply : TaggedUpdate → MapReply
update_reply asked = updated asked.given.map asked.key asked.value asked.flags

-- `answer`, what the update on words returns, has the result of the machine's update `asked`. Its
-- memory and maps, with the registers of `flat`, represent s with the updated map, in a layout that
-- has all objects of l. Register 0 does not have the result yet
pub record UpdateKeepsSimulation (env : Environment) (l : Layout) (flat : FlatState) (s : RunState)
    (asked : TaggedUpdate) (answer : CallResult) : Type 0 where
  pub layout : Layout
  pub extends : Extends l layout
  pub answer_is : answer.word ≡ (update_reply asked).answer
  pub stands : Simulates env layout (with_held flat answer.memory answer.maps)
      (with_map s asked.given.descriptor (update_reply asked).map)

-- after an update, words, bytes and live maps represent the state after the machine's update of the
-- same map, key, value and flags (`UpdateKeepsSimulation`)
abbrev pub UpdatesKeepSimulation : Type 0
UpdatesKeepSimulation =
    (env : Environment) (l : Layout) (flat : FlatState) (s : RunState)
    (i : ℕ) (asked : TaggedUpdate) (answer : CallResult)
    → IsRoom env.memory env.tenant → Simulates env l flat s
    → slice_get env.descriptors i ≡ Some asked.given.descriptor
    → s.maps asked.given.descriptor ≡ Some asked.given.map
    → length asked.value ≡ asked.given.map.table.shape.value_size
    → Updates (call_in env flat)
    (record {
      map = slice_index env.bind i;
      key = asked.key;
      value = asked.value;
    }) asked.flags answer
    → UpdateKeepsSimulation env l flat s asked answer

-- a deletion returns what the machine's deletion of the same key does, and after it words, bytes
-- and live maps represent the machine's state, in which register 0 does not have the result yet
abbrev pub DeletesKeepSimulation : Type 0
DeletesKeepSimulation =
    (env : Environment) (l : Layout) (flat : FlatState) (s : RunState)
    (i m : ℕ) (map : RunMap) (key : List ℕ) (word : ℕ) (new : LiveMaps)
    → Simulates env l flat s
    → slice_get env.descriptors i ≡ Some m → s.maps m ≡ Some map
    → Deletes flat.maps (record { map = slice_index env.bind i; key = key }) word new
    → (word ≡ (removed map key).answer)
    × Simulates env l (with_held flat flat.memory new) (with_map s m (removed map key).map)

-- a load of bytes leads from s to u. It writes packet bytes, or zeros, at an offset in the part.
-- The memory with these bytes represents the state `written`, and u is what `written` becomes when
-- the call returns its result
pub record LoadKeepsSimulation (env : Environment) (l : Layout) (flat : FlatState) (s u : RunState)
    : Type 0 where
  pub offset : ℕ
  pub offset_is : named_offset flat.memory env.tenant (slice_index flat.registers 4)
      (slice_index flat.registers 3) ≡ Some offset
  pub written : RunState
  pub stands : Simulates env l (with_memory flat (with_bytes flat.memory
      (part_start flat.memory env.tenant + offset)
      (packet_bytes s.packet (slice_index flat.registers 2)
      (slice_index flat.registers 4)))) written
  pub is : u ≡ returns written
      (Scalar
      (packet_result s.packet (slice_index flat.registers 2) (slice_index flat.registers 4)))

-- if words represent a state, and word w represents the value v, then with w in register 0 they
-- represent the state after a call that returns v, in which registers 1 to 5 have no value
abbrev pub ReturnsKeepSimulation : Type 0
ReturnsKeepSimulation =
    (env : Environment) (l : Layout) (flat : FlatState) (s : RunState) (v : Tagged) (w : ℕ)
    → Simulates env l flat s → IsWord env l v w
    → Simulates env l (with_result flat (answers w flat.memory flat.maps)) (returns s v)

-- ---- one map at the start and the end of a run

-- the element of the key at index n in the order of the keys, for the map of handle k
abbrev pub nth_element : LiveMaps → ℕ → ℕ → ℕ
nth_element tenant k n = slice_index (values_of (keys_at tenant k).entries) n

-- at the start of a run, the live map of handle k represents the run's map of descriptor m, if the
-- live map has sound keys and no element kept apart, and the layout numbers the objects of the
-- run's map in the order of their keys; `value` gives the bytes of each element
abbrev pub MapsBegin : Type 0
MapsBegin =
    (l : Layout) (start : ℕ) (memory : List ℕ) (tenant : LiveMaps) (k m : ℕ) (value : ℕ → List ℕ)
    → IsSome (live_at tenant k) → IsSound (keys_at tenant k) → (keys_at tenant k).kept ≡ []
    → ((p : ℕ) → p < (shape_at tenant k).max_entries
    → element_bytes (stored_maps start memory tenant) k p ≡ value p)
    → l.counts m ≡ length (keys_at tenant k).entries
    → ((number : ℕ) → number < length (keys_at tenant k).entries
    → l.object_at m number ≡ base + (start + offset_at tenant k (nth_element tenant k number)))
    → HasMap l (stored_maps start memory tenant) k m
    (map_at_start (with_values value (table_of (keys_at tenant k))))

-- if the live map of handle k represents t (`old`), and the end of the run changes its keys by
-- `after_run` (`new`), it then has the same keys and values as t after the run; `value` gives the
-- bytes of each element
abbrev pub MapsEnd : Type 0
MapsEnd =
    (l : Layout) (start : ℕ) (memory : List ℕ) (old new : LiveMaps) (k m : ℕ) (t : RunMap)
    (value : ℕ → List ℕ)
    → HasMap l (stored_maps start memory old) k m t → keys_at new k ≡ after_run (keys_at old k)
    → ((p : ℕ)
    → p < (shape_at old k).max_entries
    → value p ≡ element_bytes (stored_maps start memory old) k p)
    → with_values value (table_of (keys_at new k)) ≡ map_after_run t
