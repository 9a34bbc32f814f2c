-- Worked cases of runs with maps and calls, by hand from the kernel's documentation of helpers and maps and from
-- this project's rules. The comments spell the programs.
use Rattle.std.proofs.Common.{◌≡◌, ℕ, ◌==◌, pos, if◌then◌else◌, true, replicate, List, [], ◌∷◌, ◌++◌, Some, None, refl}
use Rattle.words.specs.declared.operator.AluOp.TheVariants.{Add}
use Rattle.words.specs.declared.operator.Condition.TheVariants.{Equal, NotEqual, Above}
use Rattle.words.specs.declared.stack.AccessSize.TheVariants.{Byte, Word, Double}
use Rattle.insn_set.specs.declared.insn.Operand.TheVariants.{Imm, Reg}
use Rattle.insn_set.specs.declared.insn.Insn.{Insn}
use Rattle.insn_set.specs.declared.insn.Insn.TheVariants.{Alu, Jump, Call, Exit, Const, MapFd, MapValue}
use Rattle.insn_set.specs.Program.{begins_at}
use Rattle.tagged_model.specs.declared.shape.MapKind.TheVariants.{Array, Hash}
use Rattle.tagged_model.specs.declared.value.Outcome.{Outcome}
use Rattle.tagged_model.specs.declared.value.Outcome.TheVariants.{Value, Fault}
use Rattle.tagged_model.specs.Cells.{gathered}
use Rattle.tagged_model.specs.Helpers.{known_helpers}
use Rattle.tagged_model.specs.Table.{Table, index_key}
use Rattle.tagged_model.specs.Step.{MapsByDescriptor, run, numbered, result_of, left_of}
use Rattle.tagged_model.proofs.RunVectors.{minus, context, set, copy, get, put}

abbrev less : ℕ → ℕ → Insn
less dst n = Alu true Add dst (Imm (minus n))

-- a map under descriptor 3
abbrev only : Table (List ℕ) → MapsByDescriptor
only t m = if m == 3 then Some t else None

-- ---- an array of one value of eight bytes

abbrev array : List ℕ → Table (List ℕ)
array value = record {
  shape = record { kind = Array; key_size = 4; value_size = 8; max_entries = 1; listed = refl };
  entries = (0 ∷ 0 ∷ 0 ∷ 0 ∷ [], value) ∷ [];
  deleted = 0;
}

-- *(u32 *)(r10 - 4) = 0; r2 = r10; r2 += -4; r1 = map_fd 3 ll; call 1
abbrev look_up_first : List Insn
look_up_first = put Word 10 (minus 4) (pos 0) ∷ copy 2 10 ∷ less 2 4 ∷ MapFd 1 (pos 3) ∷ Call (pos 1) ∷ []

-- ..; if r0 != 0 goto +2; r0 = 0; exit; r0 = *(u64 *)(r0 + 0); exit
abbrev first_value : List Insn
first_value =
    look_up_first
    ++ (Jump true NotEqual 0 (Imm (pos 0)) (pos 2) ∷ set 0 (pos 0) ∷ Exit ∷ get Double 0 0 (pos 0) ∷ Exit ∷ [])

value_is_read : result_of first_value (only (array (5 ∷ 0 ∷ 0 ∷ 0 ∷ 0 ∷ 0 ∷ 0 ∷ 0 ∷ []))) (context 0) [] ≡ Value 5
unfolding run begins_at gathered known_helpers numbered
value_is_read = refl

-- *(u32 *)(r10 - 4) = 0; ..; if r6 > 7 goto +3; r0 += r6; r0 = *(u8 *)(r0 + 0): a byte of the packet chooses the byte of the value
abbrev chosen_byte : List Insn
chosen_byte =
    (set 2 (pos 0)
    ∷ copy 3 10
    ∷ less 3 1
    ∷ set 4 (pos 1)
    ∷ Call (pos 26)
    ∷ get Byte 6 10 (minus 1)
    ∷ put Word 10 (minus 8) (pos 0)
    ∷ copy 2 10
    ∷ less 2 8
    ∷ MapFd 1 (pos 3)
    ∷ Call (pos 1)
    ∷ [])
    ++ (Jump true Equal 0 (Imm (pos 0)) (pos 4)
    ∷ Jump true Above 6 (Imm (pos 7)) (pos 3)
    ∷ Alu true Add 0 (Reg 6)
    ∷ get Byte 0 0 (pos 0)
    ∷ Exit
    ∷ set 0 (pos 9)
    ∷ Exit
    ∷ [])

abbrev eight_bytes : MapsByDescriptor
eight_bytes = only (array (10 ∷ 11 ∷ 12 ∷ 13 ∷ 14 ∷ 15 ∷ 16 ∷ 17 ∷ []))

-- past the packet's end a zero is written
chosen :
    (result_of chosen_byte eight_bytes (context 1) (3 ∷ []) ≡ Value 13)
    × (result_of chosen_byte eight_bytes (context 1) (8 ∷ []) ≡ Value 9)
    × (result_of chosen_byte eight_bytes (context 0) [] ≡ Value 10)
unfolding run begins_at gathered known_helpers numbered
chosen = (refl, refl, refl)

-- ---- a value that is loaded without a call

-- r1 = map_value 3 + offset ll; r0 = *(u64 *)(r1 + 0)
abbrev direct : ℕ → List Insn
direct offset = MapValue 1 (pos 3) offset ∷ get Double 0 1 (pos 0) ∷ Exit ∷ []

-- r1 = map_value 3 + 4 ll; r0 = *(u32 *)(r1 + 0)
abbrev direct_upper_half : List Insn
direct_upper_half = MapValue 1 (pos 3) 4 ∷ get Word 0 1 (pos 0) ∷ Exit ∷ []

direct_value_is_read :
    (result_of (direct 0) (only (array (5 ∷ 0 ∷ 0 ∷ 0 ∷ 0 ∷ 0 ∷ 0 ∷ 0 ∷ []))) (context 0) [] ≡ Value 5)
    × (result_of direct_upper_half eight_bytes (context 0) [] ≡ Value 0x11100f0e)
unfolding run begins_at gathered numbered index_key
direct_value_is_read = (refl, refl)

-- eight bytes from offset 4 on reach out of the value, and offset 8 is not in it
direct_outside :
    (result_of (direct 4) eight_bytes (context 0) [] ≡ Fault)
    × (result_of (MapValue 1 (pos 3) 8 ∷ set 0 (pos 0) ∷ Exit ∷ []) eight_bytes (context 0) [] ≡ Fault)
unfolding run begins_at gathered numbered index_key
direct_outside = (refl, refl)

-- r1 = map_value 3 + 0 ll; *(u64 *)(r1 + 0) = 6; r0 = 0
direct_value_is_written : left_of (MapValue 1 (pos 3) 0 ∷ put Double 1 (pos 0) (pos 6) ∷ set 0 (pos 0) ∷ Exit ∷ [])
    eight_bytes (context 0) [] 3
    ≡ Some (array (6 ∷ 0 ∷ 0 ∷ 0 ∷ 0 ∷ 0 ∷ 0 ∷ 0 ∷ []))
unfolding run begins_at gathered numbered index_key
direct_value_is_written = refl

-- neither an array of two elements nor a hash map has one
abbrev two_values : Table (List ℕ)
two_values = record {
  shape = record { kind = Array; key_size = 4; value_size = 8; max_entries = 2; listed = refl };
  entries = (0 ∷ 0 ∷ 0 ∷ 0 ∷ [], replicate 8 0) ∷ (1 ∷ 0 ∷ 0 ∷ 0 ∷ [], replicate 8 0) ∷ [];
  deleted = 0;
}

abbrev key_0 : Table (List ℕ)
key_0 = record {
  shape = record { kind = Hash; key_size = 4; value_size = 8; max_entries = 1; listed = refl };
  entries = (0 ∷ 0 ∷ 0 ∷ 0 ∷ [], replicate 8 0) ∷ [];
  deleted = 0;
}

no_direct_value : (result_of (direct 0) (only two_values) (context 0) [] ≡ Fault)
    × (result_of (direct 0) (only key_0) (context 0) [] ≡ Fault)
unfolding run begins_at gathered numbered index_key
no_direct_value = (refl, refl)

-- ---- bytes of the packet

abbrev packet : List ℕ
packet = 1 ∷ 2 ∷ 3 ∷ 4 ∷ []

-- *(u32 *)(r10 - 8) = -1; r2 = n; r3 = r10; r3 += -8; r4 = 4; call 26
abbrev four_bytes : Insn → List Insn
four_bytes offset = put Word 10 (minus 8) (minus 1) ∷ offset ∷ copy 3 10 ∷ less 3 8 ∷ set 4 (pos 4) ∷ Call (pos 26) ∷ []

abbrev loaded : Insn → Outcome
loaded offset = result_of (four_bytes offset ++ (Exit ∷ [])) (λ m. None) (context 4) packet

abbrev loaded_bytes : Insn → Outcome
loaded_bytes offset =
    result_of (four_bytes offset ++ (get Word 0 10 (minus 8) ∷ Exit ∷ [])) (λ m. None) (context 4) packet

whole_packet : (loaded (set 2 (pos 0)) ≡ Value 0) × (loaded_bytes (set 2 (pos 0)) ≡ Value 67305985)
unfolding run begins_at gathered known_helpers
whole_packet = (refl, refl)

-- past the end it returns -14 and writes zeros; an offset has 31 bits
past_the_end :
    (loaded (set 2 (pos 1)) ≡ Value 4294967282)
    × (loaded_bytes (set 2 (pos 1)) ≡ Value 0)
    × (loaded (Const 2 0x8000_0000) ≡ Value 4294967282)
unfolding run begins_at gathered known_helpers
past_the_end = (refl, refl, refl)

-- ---- the grace period, in a hash map of one entry: the deleted value exists until the run ends, and counts

abbrev hash : List (List ℕ × List ℕ) → Table (List ℕ)
hash entries = record {
  shape = record { kind = Hash; key_size = 4; value_size = 8; max_entries = 1; listed = refl };
  entries = entries;
  deleted = 0;
}

abbrev key_1 : MapsByDescriptor
key_1 = only (hash ((1 ∷ 0 ∷ 0 ∷ 0 ∷ [], 5 ∷ 0 ∷ 0 ∷ 0 ∷ 0 ∷ 0 ∷ 0 ∷ 0 ∷ []) ∷ []))

-- looks up key 1, deletes it, adds key 2 and writes through the pointer to the deleted value; 1 if key 1 is absent
abbrev replaces_the_key : List Insn
replaces_the_key =
    (put Word 10 (minus 4) (pos 1)
    ∷ copy 2 10
    ∷ less 2 4
    ∷ MapFd 1 (pos 3)
    ∷ Call (pos 1)
    ∷ Jump true Equal 0 (Imm (pos 0)) (pos 18)
    ∷ copy 6 0
    ∷ [])
    ++ (copy 2 10
    ∷ less 2 4
    ∷ MapFd 1 (pos 3)
    ∷ Call (pos 3)
    ∷ put Word 10 (minus 4) (pos 2)
    ∷ put Double 10 (minus 16) (pos 6)
    ∷ [])
    ++ (copy 2 10
    ∷ less 2 4
    ∷ copy 3 10
    ∷ less 3 16
    ∷ MapFd 1 (pos 3)
    ∷ set 4 (pos 0)
    ∷ Call (pos 2)
    ∷ put Double 6 (pos 0) (pos 7)
    ∷ Exit
    ∷ set 0 (pos 1)
    ∷ Exit
    ∷ [])

-- -7, too big; after the run the map is empty
full_with_the_deleted_key :
    (result_of replaces_the_key key_1 (context 0) [] ≡ Value 4294967289)
    × (left_of replaces_the_key key_1 (context 0) [] 3 ≡ Some (hash []))
    × (result_of replaces_the_key (only (hash [])) (context 0) [] ≡ Value 1)
unfolding run begins_at gathered known_helpers numbered
full_with_the_deleted_key = (refl, refl, refl)

-- ---- a new key

-- *(u32 *)(r10 - 4) = 1; *(u64 *)(r10 - 16) = 6; r2 = r10; r2 += -4; r3 = r10; r3 += -16; r1 = map_fd 3 ll; r4 = 0; call 2; exit
abbrev puts_a_key : List Insn
puts_a_key =
    (put Word 10 (minus 4) (pos 1)
    ∷ put Double 10 (minus 16) (pos 6)
    ∷ copy 2 10
    ∷ less 2 4
    ∷ copy 3 10
    ∷ less 3 16
    ∷ MapFd 1 (pos 3)
    ∷ set 4 (pos 0)
    ∷ [])
    ++ (Call (pos 2) ∷ Exit ∷ [])

key_is_put : left_of puts_a_key (only (hash [])) (context 0) [] 3
    ≡ Some (hash ((1 ∷ 0 ∷ 0 ∷ 0 ∷ [], 6 ∷ 0 ∷ 0 ∷ 0 ∷ 0 ∷ 0 ∷ 0 ∷ 0 ∷ []) ∷ []))
unfolding run begins_at gathered known_helpers numbered
key_is_put = refl
