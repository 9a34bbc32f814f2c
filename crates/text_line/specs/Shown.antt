-- The line that each line of the code represents. This project's own.
use Rattle.std.specs.Prelude.{List, map, Option, option_map}
use Rattle.text_line.specs.declared.form.Line.{Line as CodeLine}
use Rattle.text_line.specs.declared.form.Line.TheVariants as written
use Rattle.text_line.specs.Line.{Line, blank, label, code as instruction}

-- the line of the definitions (`Line`) that a parsed line of the code (`CodeLine`) represents.
-- `Blank`: a line without a label or an instruction. `Label`: a line that defines the label n.
-- `Code`: an instruction of form f; n is the name of the label to which it jumps, and is empty if f
-- names none. The code borrows n from the text; `n.now` are its bytes. The contract of `read_line`
-- converts the result of the code so, to compare it with the definitions
abbrev pub seen_line : CodeLine → Line
seen_line written.Blank = blank
seen_line (written.Label n) = label n.now
seen_line (written.Code f n) = instruction f n.now

-- the line that the code's result of reading a line represents; `None`, in both, if the line has
-- none of the forms
abbrev pub seen_option : Option CodeLine → Option Line
seen_option line = option_map seen_line line

-- the lines that these lines of the code represent, in order; `None` of a line that has none of the
-- forms
abbrev pub seen_lines : List (Option CodeLine) → List (Option Line)
seen_lines lines = map seen_option lines
