-- The program that keeps a descriptor open while a tenant is restored: it returns 0. This project's
-- own.
use Rattle.std.specs.Prelude.{true, pos, List, [], ◌∷◌}
use Rattle.words.specs.declared.operator.AluOp.TheVariants as alu
use Rattle.insn_set.specs.declared.insn.Insn.{Insn}
use Rattle.insn_set.specs.declared.insn.Insn.TheVariants.{Alu, Exit}
use Rattle.insn_set.specs.declared.insn.Operand.TheVariants.{Imm}

-- r0 = 0, on 64 bits (`true`), and exit
abbrev pub filler : List Insn
filler = Alu true alu.Mov 0 (Imm (pos 0)) ∷ Exit ∷ []
