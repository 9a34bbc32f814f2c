-- Lines. This project's own.
use Rattle.std.specs.Prelude.{◌≡◌, ℕ, Bool, true, false, List, [], ◌∷◌, codes, Option, Some, None}
use Rattle.text_line.specs.declared.form.Form.{Form}
use Rattle.text_line.specs.Token.{Token, name, symbol, IsTokens}
use Rattle.text_line.specs.Form.{layout, tokens_of, IsForm, names_label}

-- Nothing; a label; or an instruction, with the label that its jump names: the empty list if it
-- names none.
pub data Line : Type 0 where
  blank : Line
  label : List ℕ → Line
  code : Form → List ℕ → Line

-- the tokens of a line, in order; the bytes of a text are read as this line only if they have these
-- tokens (`IsLine`). A blank line has none. The definition of the label n has the name n and `:`.
-- An instruction has those of the layout of its form, without the spaces. Here n is the name of the
-- label to which it jumps; a form that names no label does not use n
abbrev pub line_tokens : Line → List Token
line_tokens blank = []
line_tokens (label n) = name n ∷ symbol (codes ":") ∷ []
line_tokens (code form n) = tokens_of (layout form n)

-- if the form names no label (`false`), the label's name `n` is empty; if it names one (`true`),
-- `n` may be any
abbrev pub NoLabel : Bool → List ℕ → Type 0
NoLabel true n = Unit {0}
NoLabel false n = n ≡ []

-- the line is one that a text can have. The line of an instruction (`code`) has a form, and n, the
-- name of the label to which it jumps. `IsForm` requires registers 0 to 10 and an operation or
-- access that an instruction can have: for example, no byte-order conversion of a 32-bit register.
-- `NoLabel` requires that n is empty if the form names no label. The line has the same tokens for
-- each n then, so its bytes would otherwise be read as many lines. A blank line and the definition
-- of a label are always well formed
abbrev pub IsWellFormed : Line → Type 0
IsWellFormed (code form n) = IsForm form × NoLabel (names_label form) n
IsWellFormed _ = Unit {0}

-- the bytes are read as this line: it is well formed, and its tokens are those of the bytes
abbrev pub IsLine : List ℕ → Line → Type 0
IsLine bytes line = IsWellFormed line × IsTokens bytes (line_tokens line)

-- the bytes are read as this line; or they are read as no line, and the reading is `None`
abbrev pub ReadAs : List ℕ → Option Line → Type 0
ReadAs bytes (Some line) = IsLine bytes line
ReadAs bytes None = (line : Line) → ¬ IsLine bytes line
