-- Slots as lines of hex digits. This project's own.
use Rattle.std.specs.Prelude.{◌≡◌, ℕ, ◌+◌, ◌*◌, ◌<◌, ◌==◌, ◌&&◌, List, [], ◌∷◌, ◌++◌, length, take}
use Rattle.std.specs.Prelude.{slice_get, Option, Some, None, unwrap_or, nat_lt, nat_le, if◌then◌else◌}
use Rattle.std.specs.List.{flat_map}
use Rattle.std.specs.Result.{result_ok}
use Rattle.insn_set.specs.Program.{most_slots}
use Rattle.hex.specs.Hex.{encode_lower, decode_sized}
use Rattle.bpf_text.specs.declared.fault.TextFault.{TextFault}
use Rattle.bpf_text.specs.declared.fault.TextFaultKind.{TextFaultKind}
use Rattle.bpf_text.specs.declared.fault.TextFaultKind.TheVariants.{Syntax, TooLong}
use Rattle.text_line.specs.Blanks.{stripped}
use Rattle.bpf_text.specs.Fault.{IsFaultBy}
use Rattle.bpf_text.specs.Lines.{text_lines}

-- the text of slots, given as their bytes: each eight bytes are a line of sixteen lower-case hex
-- digits, which ends with a line feed (10). Bytes after the last eight, at most seven, have no line
unfoldable pub hex_text : List ℕ → List ℕ
hex_text (a ∷ b ∷ c ∷ d ∷ e ∷ f ∷ g ∷ h ∷ bytes) =
    encode_lower (a ∷ b ∷ c ∷ d ∷ e ∷ f ∷ g ∷ h ∷ []) ++ 10 ∷ hex_text bytes
hex_text _ = []

-- the bytes on a line without blanks at its ends: no byte if it is empty, else eight bytes in
-- sixteen digits of either case; `None` if it is neither
abbrev pub hex_digits : List ℕ → Option (List ℕ)
hex_digits digits = if length digits == 0 then Some [] else result_ok (decode_sized digits 8)

-- the bytes on a line; `None` if it is neither blank nor sixteen digits
unfoldable pub hex_line : List ℕ → Option (List ℕ)
hex_line line = hex_digits (stripped line)

-- the bytes on all lines, in order; a blank line, and one that is no slot, has none
abbrev pub hex_bytes : List (List ℕ) → List ℕ
hex_bytes lines = flat_map (λ line. unwrap_or (hex_line line) []) lines

-- the fault of a line, after lines of `before` bytes, or `None`. It is Syntax without bytes of the
-- line (`None`), which is then neither blank nor a slot. It is TooLong if the lines before have at
-- most as many bytes as a program may have, but more together with this line
abbrev pub hex_fault : ℕ → Option (List ℕ) → Option TextFaultKind
hex_fault before None = Some Syntax
hex_fault before (Some bytes) =
    if nat_le before (8 * most_slots) && nat_lt (8 * most_slots) (before + length bytes)
    then Some TooLong
    else None

-- the fault of a line, after lines of `before` bytes; `None` if no line is given or it has none
abbrev pub hex_fault_of : ℕ → Option (List ℕ) → Option TextFaultKind
hex_fault_of before None = None
hex_fault_of before (Some line) = hex_fault before (hex_line line)

-- the fault of line i, counted from 0; `None` if it has none, or if no line has this index
unfoldable pub hex_fault_at : List (List ℕ) → ℕ → Option TextFaultKind
hex_fault_at lines i = hex_fault_of (length (hex_bytes (take i lines))) (slice_get lines i)

-- no line of the text has a fault, and the lines have these bytes, of at least one slot; since no
-- line is too long, they have at most as many slots as a program may have
pub record IsHexText (text bytes : List ℕ) : Type 0 where
  pub none : (i : ℕ) → hex_fault_at (text_lines text) i ≡ None
  pub bytes_are : bytes ≡ hex_bytes (text_lines text)
  pub some : 0 < length bytes

-- the text's own fault: that of its first line that has one, or that it has no slot
abbrev pub IsHexFault : List ℕ → TextFault → Type 0
IsHexFault text fault =
    let lines = text_lines text in IsFaultBy (hex_fault_at lines) (length (hex_bytes lines)) fault
