-- The helpers on words and bytes. The helpers are those of linux/bpf.h (bpf_func_id); their form on
-- words is this project's own.
use Rattle.std.specs.Prelude.{◌≡◌, Result, Ok, Err, ℕ, ◌+◌, List, Option, Some, None, option_map}
use Rattle.words.specs.Bytes.{bytes_at}
use Rattle.tagged_model.specs.Table.{look_up, verdict, removal}
use Rattle.tagged_model.specs.declared.fault.MapFault.{MapFault}
use Rattle.tagged_model.specs.declared.helper.Helper.TheVariants.{Update, Delete, LoadBytes}
use Rattle.tagged_model.specs.Helpers.{negative, errno, packet_bytes, packet_result}
use Rattle.arena.specs.Memory.{Memory, base, part_start, with_bytes}
use Rattle.bpf_maps.specs.KeyTable.{table_of, Claims, Removes}
use Rattle.bpf_maps.specs.Live.{LiveMaps, keys_at, shape_at, offset_at, OnlyKeysChange}
use Rattle.bpf_helpers.specs.Named.{NamedKey, NamedPair, key_named, unnamed_result}
use Rattle.bpf_helpers.specs.declared.caller.Caller.{Caller}
use Rattle.bpf_helpers.specs.States.{CallState, CallResult, call_state}

-- the inputs of a call by this caller
abbrev pub call_of : Caller → Memory → LiveMaps → CallState
call_of caller memory maps =
    call_state caller.tenant caller.bind.now caller.packet.now memory maps

-- the bytes at an offset of the part, as many as a key of the map of handle k has
abbrev pub key_bytes : CallState → ℕ → ℕ → List ℕ
key_bytes call_state k at =
    bytes_at call_state.memory.bytes (part_start call_state.memory call_state.tenant + at)
    (shape_at call_state.maps k).key_size

-- the bytes at an offset of the part, as many as a value of the map of handle k has
abbrev pub value_bytes : CallState → ℕ → ℕ → List ℕ
value_bytes call_state k at =
    bytes_at call_state.memory.bytes (part_start call_state.memory call_state.tenant + at)
    (shape_at call_state.maps k).value_size

-- the map of handle k, with the key and the value at these offsets of the part
abbrev pub pair_there : CallState → ℕ → ℕ → ℕ → NamedPair
pair_there call_state k key value =
    record { map = k; key = key_bytes call_state k key; value = value_bytes call_state k value }

-- ---- a look-up

-- the address of an element's value, for the map whose handle is `key`; null (0) if no element is
-- given
abbrev pub value_word : CallState → ℕ → Option ℕ → ℕ
value_word call_state key None = 0
value_word call_state key (Some element) =
    base + (part_start call_state.memory call_state.tenant + offset_at call_state.maps key element)

-- the address of the value that the map of n has for the key of n; 0 if it does not have the key
abbrev pub key_word : CallState → NamedKey → ℕ
key_word call_state n =
    value_word call_state n.map (look_up (table_of (keys_at call_state.maps n.map)) n.key)

-- what a look-up by the words `map` and `key` returns, the address of a value or 0; None if `map`
-- names no map, or the bytes of the key don't lie in the part
abbrev pub flat_look_up : CallState → ℕ → ℕ → Option ℕ
flat_look_up call_state map key = option_map (key_word call_state) (key_named call_state map key)

-- ---- an update

-- the word that an update of a map returns in register 0, by the result of the claim of an element
-- for its key: 0 if an element was claimed (Ok), whatever its number is; if the claim failed (Err),
-- the kernel's number of the fault (`errno`), negated modulo 2 ^ 64: 2 ^ 64 - 7 for TooBig
abbrev pub claim_word : Result ℕ MapFault → ℕ
claim_word (Ok element) = 0
claim_word (Err fault) = negative (errno fault)

-- the memory after an update: the value is written to the claimed element, if there is one
abbrev pub with_claimed : CallState → NamedPair → Result ℕ MapFault → Memory
with_claimed call_state pair (Ok element) =
    with_bytes call_state.memory
    (part_start call_state.memory call_state.tenant + offset_at call_state.maps pair.map element)
    pair.value
with_claimed call_state pair (Err fault) = call_state.memory

-- `answer` is the result of an update with the inputs `call_state`, and the map, the key and the
-- value of `pair`: an element is claimed for the key, and the value is written there. After a fault
-- no byte has changed; of the live maps only the keys of that map may change
pub record Updates (call_state : CallState) (pair : NamedPair) (flags : ℕ)
    (answer : CallResult) : Type 0 where
  pub claim : Result ℕ MapFault
  pub claimed : Claims (verdict (table_of (keys_at call_state.maps pair.map)) pair.key flags)
      pair.key (keys_at call_state.maps pair.map) claim (keys_at answer.maps pair.map)
  pub rest : OnlyKeysChange pair.map call_state.maps answer.maps
  pub word_is : answer.word ≡ claim_word claim
  pub memory_is : answer.memory ≡ with_claimed call_state pair claim

-- an update of what the words of the call name: a map, a key and a value; if they name nothing
-- (None), the call returns EINVAL, negated, and nothing changes
abbrev pub UpdatesNamed : CallState → Option NamedPair → ℕ → CallResult → Type 0
UpdatesNamed call_state None flags answer =
    (answer.word ≡ unnamed_result Update) × (answer.memory ≡ call_state.memory)
    × (answer.maps ≡ call_state.maps)
UpdatesNamed call_state (Some pair) flags answer = Updates call_state pair flags answer

-- ---- a deletion

-- the word that a call of the helper bpf_map_delete_elem returns for a key of a map, by the outcome
-- of the deletion: 0 if the key was deleted (Ok), else the error of the fault (Err), negated modulo
-- 2 ^ 64: -ENOENT if the map does not have the key, -EINVAL if the map is an array
abbrev pub removal_word : Result (Unit {0}) MapFault → ℕ
removal_word (Ok done) = 0
removal_word (Err fault) = negative (errno fault)

-- a deletion of the key of `named` from its map: `word` is what it returns, and of the live maps
-- only the keys of that map may change
pub record Deletes (old : LiveMaps) (named : NamedKey) (word : ℕ) (new : LiveMaps) : Type 0 where
  pub outcome : Result (Unit {0}) MapFault
  pub removed : Removes (removal (table_of (keys_at old named.map)) named.key) named.key
      (keys_at old named.map) outcome (keys_at new named.map)
  pub rest : OnlyKeysChange named.map old new
  pub word_is : word ≡ removal_word outcome

-- a deletion of what the words of the call name: a map and a key; `word` is what the call returns.
-- If they name nothing (None), that is EINVAL, negated, and the live maps do not change
abbrev pub DeletesNamed : LiveMaps → Option NamedKey → ℕ → LiveMaps → Type 0
DeletesNamed old None word new = (word ≡ unnamed_result Delete) × (new ≡ old)
DeletesNamed old (Some named) word new = Deletes old named word new

-- ---- bytes of the packet

-- a load of n packet bytes, from `offset` of the packet on, to offset q of the part: `word` is what
-- it returns, and `after` the memory after it, with zeros there if the load fails. Without q, the
-- words name no bytes of the part: `word` is the error, and the memory does not change
abbrev pub LoadsAt : CallState → ℕ → ℕ → Option ℕ → ℕ → Memory → Type 0
LoadsAt call_state offset n None word after =
    (word ≡ unnamed_result LoadBytes) × (after ≡ call_state.memory)
LoadsAt call_state offset n (Some q) word after =
    (word ≡ packet_result call_state.packet offset n)
    × (after ≡ with_bytes call_state.memory (part_start call_state.memory call_state.tenant + q)
    (packet_bytes call_state.packet offset n))
