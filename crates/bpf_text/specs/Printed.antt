-- The printed text of a program. This project's own.
use Rattle.std.specs.Prelude.{ℕ, List, [], ◌∷◌, ◌++◌}
use Rattle.std.specs.List.{flat_map}
use Rattle.insn_set.specs.declared.insn.Insn.{Insn}
use Rattle.text_line.specs.Written.{printed_insn}

-- an instruction and a line feed
abbrev pub printed_line : Insn → List ℕ
printed_line insn = printed_insn insn ++ 10 ∷ []

-- the text of a program: a line for each instruction, in order
abbrev pub printed : List Insn → List ℕ
printed insns = flat_map printed_line insns
