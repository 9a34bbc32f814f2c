-- The statements of the laws of texts. This project's own.
use Rattle.std.specs.Prelude.{◌≡◌, ℕ, List}
use Rattle.insn_set.specs.declared.insn.Insn.{Insn}
use Rattle.insn_set.specs.Program.{program_bytes, IsProgram}
use Rattle.bpf_text.specs.declared.fault.TextFault.{TextFault}
use Rattle.bpf_text.specs.Assembly.{IsAssembled, IsOwnFault}
use Rattle.bpf_text.specs.HexText.{hex_text, IsHexText}
use Rattle.bpf_text.specs.Printed.{printed}

-- a text has at most one program
abbrev pub OneProgram : Type 0
OneProgram = (text : List ℕ) (a b : List Insn) → IsAssembled text a → IsAssembled text b → a ≡ b

-- a text that is assembled to a program has no own fault (`IsOwnFault`); a refusal of memory is
-- none
abbrev pub ProgramHasNoFault : Type 0
ProgramHasNoFault =
    (text : List ℕ) (insns : List Insn) (fault : TextFault)
    → IsAssembled text insns
    → ¬ IsOwnFault text fault

-- a text has at most one fault of its own, which is any but out of memory
abbrev pub OneFault : Type 0
OneFault = (text : List ℕ) (a b : TextFault) → IsOwnFault text a → IsOwnFault text b → a ≡ b

-- the printed text of a program assembles to this program
abbrev pub PrintedIsAssembled : Type 0
PrintedIsAssembled = (insns : List Insn) → IsProgram insns → IsAssembled (printed insns) insns

-- the slots that are read from the hex lines of a program are the program's
abbrev pub HexLinesAreRead : Type 0
HexLinesAreRead =
    (insns : List Insn)
    → IsProgram insns
    → IsHexText (hex_text (program_bytes insns)) (program_bytes insns)
