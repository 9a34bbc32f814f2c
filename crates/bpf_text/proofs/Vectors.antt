-- Known texts: the text of slots and of instructions, and the bytes of lines of hex digits.
use Rattle.std.specs.Prelude.{◌≡◌, ℕ, [], ◌∷◌, codes, Bool, true, false, pos, negsuc, refl, Option, Some, None}
use Rattle.words.specs.declared.operator.AluOp.TheVariants.{Mov}
use Rattle.words.specs.declared.operator.Condition.TheVariants.{SignedBelow}
use Rattle.insn_set.specs.declared.insn.Operand.TheVariants.{Imm, Reg}
use Rattle.words.specs.declared.stack.AccessSize.TheVariants.{Half, Byte}
use Rattle.insn_set.specs.declared.atomic.AtomicSize.TheVariants as atomic_size
use Rattle.insn_set.specs.declared.atomic.AtomicOp.TheVariants as atomic
use Rattle.insn_set.specs.declared.insn.Insn.TheVariants.{Alu, Jump, Exit, Load, Store, Atomic, Const, MapFd, MapValue}
use Rattle.std.specs.Fmt.{digits}
use Rattle.hex.proofs.OnLiterals.{hex_on_literals}
use Rattle.text_line.specs.declared.form.Access.TheVariants as access
use Rattle.text_line.specs.declared.form.WideValue.TheVariants as value
use Rattle.text_line.specs.declared.form.Form.{Form}
use Rattle.text_line.specs.declared.form.Form.TheVariants as form
use Rattle.text_line.specs.Ranges.{form_fits}
use Rattle.text_line.specs.Form.{form_slots}
use Rattle.text_line.specs.Written.{printed_insn}
use Rattle.bpf_text.specs.HexText.{hex_text, hex_line}
use Rattle.bpf_text.specs.Printed.{printed}

lines_of_slots : hex_text (0xb7 ∷ 0 ∷ 0 ∷ 0 ∷ 1 ∷ 0 ∷ 0 ∷ 0 ∷ 0x95 ∷ 0 ∷ 0 ∷ 0 ∷ 0 ∷ 0 ∷ 0 ∷ 0 ∷ [])
    ≡ codes "b700000001000000\n9500000000000000\n"
unfolding hex_text hex_on_literals
lines_of_slots = refl

slots_of_lines :
    (hex_line (codes "B7000000FFffffff \r") ≡ Some (0xb7 ∷ 0 ∷ 0 ∷ 0 ∷ 0xff ∷ 0xff ∷ 0xff ∷ 0xff ∷ []))
    × (hex_line (codes " \t\r") ≡ Some [])
    × (hex_line (codes "b7") ≡ None)
    × (hex_line (codes "95000000 00000000") ≡ None)
unfolding hex_line hex_on_literals
slots_of_lines = (refl, refl, refl, refl)

printed_lines :
    (printed (Alu true Mov 0 (Imm (negsuc 1)) ∷ Exit ∷ []) ≡ codes "r0 = -2\nexit\n")
    × (printed (Jump true SignedBelow 2 (Reg 3) (negsuc 32767) ∷ []) ≡ codes "if r2 s< r3 goto -32768\n")
    × (printed (Load (record { size = Half; signed = true; dst = 1; src = 10; off = negsuc 1; listed = refl }) ∷ [])
    ≡ codes "r1 = *(s16 *)(r10 - 2)\n")
    × (printed (Store Byte 10 (Imm (pos 5)) (pos 4) ∷ []) ≡ codes "*(u8 *)(r10 + 4) = 5\n")
    × (printed (Const 2 18446744069414584327 ∷ []) ≡ codes "r2 = 18446744069414584327 ll\n")
    × (printed (MapFd 1 (negsuc 2) ∷ []) ≡ codes "r1 = map_fd -3 ll\n")
    × (printed (MapValue 1 (pos 3) 4 ∷ []) ≡ codes "r1 = map_value 3 + 4 ll\n")
    × (printed (MapValue 10 (negsuc 0) 4294967295 ∷ []) ≡ codes "r10 = map_value -1 + 4294967295 ll\n")
unfolding printed_insn digits
printed_lines = (refl, refl, refl, refl, refl, refl, refl, refl)

printed_atomics :
    (printed (Atomic atomic_size.Double atomic.Add 10 1 (negsuc 7) ∷ []) ≡ codes "lock *(u64 *)(r10 - 8) += r1\n")
    × (printed (Atomic atomic_size.Word atomic.Or 1 10 (pos 0) ∷ []) ≡ codes "lock *(u32 *)(r1 + 0) |= r10\n")
    × (printed (Atomic atomic_size.Double atomic.And 0 9 (pos 32767) ∷ []) ≡ codes "lock *(u64 *)(r0 + 32767) &= r9\n")
    × (printed (Atomic atomic_size.Word atomic.Xor 9 0 (negsuc 32767) ∷ []) ≡ codes "lock *(u32 *)(r9 - 32768) ^= r0\n")
unfolding printed_insn digits
printed_atomics = (refl, refl, refl, refl)

-- an offset has 15 bits and a sign
addition_at : Bool → Option ℕ → Form
addition_at negative offset =
    form.Access (access.Atomic atomic_size.Double atomic.Add 1)
    (record { base = 10; offset = record { negative = negative; magnitude = offset } })

ranges_of_atomics :
    (form_fits (addition_at false (Some 0)) ≡ true)
    × (form_fits (addition_at false (Some 32767)) ≡ true)
    × (form_fits (addition_at false (Some 32768)) ≡ false)
    × (form_fits (addition_at true (Some 0)) ≡ true)
    × (form_fits (addition_at true (Some 32768)) ≡ true)
    × (form_fits (addition_at true (Some 32769)) ≡ false)
    × (form_fits (addition_at false None) ≡ false)
    × (form_fits (addition_at true None) ≡ false)
unfolding addition_at
ranges_of_atomics = (refl, refl, refl, refl, refl, refl, refl, refl)

slots_of_atomics : form_slots (addition_at true (Some 8)) ≡ 1
unfolding addition_at
slots_of_atomics = refl

-- a descriptor has 31 bits and a sign, the offset in a map's value 32 bits and none
load_of_value : Bool → ℕ → Option ℕ → Form
load_of_value negative fd off =
    form.WideLoad 1 (value.MapValue (record { negative = negative; magnitude = Some fd }) off)

ranges_of_map_values :
    (form_fits (load_of_value false 3 (Some 4294967295)) ≡ true)
    × (form_fits (load_of_value false 3 (Some 4294967296)) ≡ false)
    × (form_fits (load_of_value false 3 None) ≡ false)
    × (form_fits (load_of_value true 1 (Some 0)) ≡ true)
    × (form_fits (load_of_value true 2147483648 (Some 0)) ≡ true)
    × (form_fits (load_of_value true 2147483649 (Some 0)) ≡ false)
    × (form_fits (load_of_value false 2147483647 (Some 0)) ≡ true)
    × (form_fits (load_of_value false 2147483648 (Some 0)) ≡ false)
unfolding load_of_value
ranges_of_map_values = (refl, refl, refl, refl, refl, refl, refl, refl)

slots_of_map_values : form_slots (load_of_value false 3 (Some 4)) ≡ 2
unfolding load_of_value
slots_of_map_values = refl
