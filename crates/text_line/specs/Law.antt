-- The statements of the laws of lines. This project's own.
use Rattle.std.specs.Prelude.{◌≡◌, ◌≢◌, ℕ, true, false, ℤ, List, [], length, Option}
use Rattle.std.specs.List.{AllByRecursion}
use Rattle.insn_set.specs.declared.insn.Insn.{Insn}
use Rattle.insn_set.specs.Spelling.{slots}
use Rattle.text_line.specs.Form.{form_slots, names_label}
use Rattle.text_line.specs.Line.{Line, code, ReadAs, IsLine}
use Rattle.text_line.specs.Ranges.{form_fits, resolved}
use Rattle.text_line.specs.Written.{written, printed_insn}

-- a line has one reading: two readings of the same bytes, each a line or `None`, are equal
abbrev pub OneReading : Type 0
OneReading = (bytes : List ℕ) (a b : Option Line) → ReadAs bytes a → ReadAs bytes b → a ≡ b

-- instructions with the same written form are the same
abbrev pub OneInsn : Type 0
OneInsn = (a b : Insn) → written a ≡ written b → a ≡ b

-- the written form of an instruction has its numbers in range, names no label, has as many slots as
-- the instruction is spelled in, and is unchanged if labels are resolved
pub record IsWrittenInRange (insn : Insn) : Type 0 where
  pub fits : form_fits (written insn) ≡ true
  pub no_label : names_label (written insn) ≡ false
  pub slots_are : form_slots (written insn) ≡ length (slots insn)
  pub resolved_is : (distance : ℤ) → resolved distance (written insn) ≡ written insn

-- the printed text of an instruction is one line (it has no line feed, 10), which is read as this
-- instruction; `[]`: without a label's name
pub record IsPrinted (insn : Insn) : Type 0 where
  pub one_line : AllByRecursion (λ b. b ≢ 10) (printed_insn insn)
  pub read : IsLine (printed_insn insn) (code (written insn) [])
