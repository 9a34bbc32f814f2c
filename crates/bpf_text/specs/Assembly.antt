-- From the lines of a text to a program, or to the first fault. The grammar and the faults are this
-- project's own.
use Rattle.std.specs.Prelude.{◌≡◌, ℕ, suc, ◌+◌, ◌<◌, Bool, false, ◌&&◌, ◌||◌, not, ℤ, pos, ◌-ℤ◌, List, [], ◌∷◌, take, map}
use Rattle.std.specs.Prelude.{slice_get, Option, Some, None, is_some, option_map, unwrap_or, nat_lt, nat_le, if◌then◌else◌}
use Rattle.std.specs.Str.{bytes_eq}
use Rattle.insn_set.specs.declared.insn.Insn.{Insn}
use Rattle.insn_set.specs.Program.{most_slots}
use Rattle.bpf_text.specs.declared.fault.TextFault.{TextFault}
use Rattle.bpf_text.specs.declared.fault.TextFaultKind.{TextFaultKind}
use Rattle.bpf_text.specs.Fault.{IsFaultBy}
use Rattle.bpf_text.specs.declared.fault.TextFaultKind.TheVariants.{Syntax, Range, UnknownLabel, LabelTwice, TooLong}
use Rattle.text_line.specs.declared.form.Form.{Form}
use Rattle.text_line.specs.Form.{form_slots, names_label}
use Rattle.text_line.specs.Line.{Line, blank, label, code, ReadAs}
use Rattle.text_line.specs.Ranges.{form_fits, resolved}
use Rattle.text_line.specs.Written.{written}
use Rattle.bpf_text.specs.Lines.{text_lines}

-- ---- slots and labels of lines; `None` is a line that has none of the forms

-- the number of slots that a line of a program's text adds to the program: for an instruction
-- (`code`) 2 if its form is a wide load, else 1. It is 0 for a line without an instruction: one
-- that is blank, one that defines a label (`label`), and one that has none of the forms of the
-- grammar (None). n is the name of a label, the one that is defined or the one to which the
-- instruction jumps, and makes no difference. The sum over the lines before a line is the slot of
-- its instruction or its label
abbrev pub line_slots : Option Line → ℕ
line_slots None = 0
line_slots (Some blank) = 0
line_slots (Some (label n)) = 0
line_slots (Some (code form n)) = form_slots form

-- the number of slots of all instructions on these lines of a program's text: two for a wide load,
-- one for any other (`line_slots`). A line without an instruction adds 0: a blank line, a label, or
-- a line that has none of the forms of the grammar (None). For all lines of a text, the sum is the
-- program's size; for those before a line, it is the slot of this line's instruction or label
unfoldable pub slots_on : List (Option Line) → ℕ
slots_on [] = 0
slots_on (line ∷ lines) = line_slots line + slots_on lines

-- whether the line defines the label of this name
abbrev pub defines : List ℕ → Option Line → Bool
defines name None = false
defines name (Some blank) = false
defines name (Some (label n)) = bytes_eq name n
defines name (Some (code form n)) = false

-- the first line that defines a label, counted from 0; `None` if no line does
unfoldable pub label_line : List ℕ → List (Option Line) → Option ℕ
label_line name [] = None
label_line name (line ∷ lines) =
    if defines name line then Some 0 else option_map suc (label_line name lines)

-- the slot of a label: the number of slots before the first line that defines it, 0 if no line does
abbrev pub label_slot : List (Option Line) → List ℕ → ℕ
label_slot lines name = slots_on (take (unwrap_or (label_line name lines) 0) lines)

-- ---- faults

-- whether some line defines the label that a form names; true of a form that names none
abbrev pub is_known : List (Option Line) → Form → List ℕ → Bool
is_known lines form name = not (names_label form) || is_some (label_line name lines)

-- whether a line before line i, counted from 0, defines the label of this name
abbrev pub is_twice : List (Option Line) → ℕ → List ℕ → Bool
is_twice lines i name = nat_lt (unwrap_or (label_line name lines) i) i

-- whether a program may have the first `before` slots, but with `slots` more it has too many: so
-- this holds for at most one line of a text
abbrev pub passes : ℕ → ℕ → Bool
passes before slots = nat_le before most_slots && nat_lt most_slots (before + slots)

-- the fault of a line that has index i in `lines` and `before` slots on the lines before it; of
-- several faults the one with the lowest `kind_number`. `None` if it has none, as a blank line
abbrev pub line_fault : List (Option Line) → ℕ → ℕ → Option Line → Option TextFaultKind
line_fault lines i before None = Some Syntax
line_fault lines i before (Some blank) = None
line_fault lines i before (Some (label name)) =
    if is_twice lines i name then Some LabelTwice else None
line_fault lines i before (Some (code form name)) =
    if form_fits form then
    (if is_known lines form name then
    (if passes before (form_slots form) then Some TooLong else None) else
    Some UnknownLabel) else
    Some Range

-- the fault of line i of `lines`, counted from 0, of the lowest kind; `None` if it has none. The
-- last argument is what the list has at index i: None if it has no line i, which is no fault
abbrev pub line_fault_of : List (Option Line) → ℕ → Option (Option Line) → Option TextFaultKind
line_fault_of lines i None = None
line_fault_of lines i (Some line) = line_fault lines i (slots_on (take i lines)) line

-- the fault of line i, counted from 0: if it has several, the first in the order of
-- `TextFaultKind`; `None` if it has none, or if no line has this index
unfoldable pub fault_at : List (Option Line) → ℕ → Option TextFaultKind
fault_at lines i = line_fault_of lines i (slice_get lines i)

-- ---- the program

-- the distance in slots to a label from a jump at `slot`: the label's slot minus the next slot
abbrev pub distance : List (Option Line) → ℕ → List ℕ → ℤ
distance lines slot name = pos (label_slot lines name) -ℤ pos (slot + 1)

-- the forms of the instructions on these lines, in order; `slot` is the number of slots before
-- them. In a form the label of a jump is replaced by its distance; `all` are all lines of the text,
-- one of which defines the label
unfoldable pub forms_from : List (Option Line) → ℕ → List (Option Line) → List Form
forms_from all slot [] = []
forms_from all slot (None ∷ lines) = forms_from all slot lines
forms_from all slot (Some blank ∷ lines) = forms_from all slot lines
forms_from all slot (Some (label n) ∷ lines) = forms_from all slot lines
forms_from all slot (Some (code form n) ∷ lines) =
    resolved (distance all slot n) form ∷ forms_from all (slot + form_slots form) lines

-- the second list has, in order, the reading of each line of the first (`ReadAs`): `Some` of the
-- blank line, the label or the instruction that its bytes are; or None if they are none of these,
-- which is the fault `Syntax`. Lists of different lengths do not meet this. At most one second list
-- does; the proof of `OneProgram` needs this
abbrev pub AreRead : List (List ℕ) → List (Option Line) → Type 0
AreRead [] [] = Unit {0}
AreRead (bytes ∷ more) (line ∷ lines) = ReadAs bytes line × AreRead more lines
AreRead _ _ = ⊥

-- the program of the text is these instructions: no line has a fault, there is a slot, and the
-- lines have their written forms
pub record IsAssembled (text : List ℕ) (insns : List Insn) : Type 0 where
  pub lines : List (Option Line)
  pub read : AreRead (text_lines text) lines
  pub none : (i : ℕ) → fault_at lines i ≡ None
  pub forms : map written insns ≡ forms_from lines 0 lines
  pub some : 0 < slots_on lines

-- the text's own fault: that of its first line that has one, or that it has no slot
pub record IsOwnFault (text : List ℕ) (fault : TextFault) : Type 0 where
  pub lines : List (Option Line)
  pub read : AreRead (text_lines text) lines
  pub first : IsFaultBy (fault_at lines) (slots_on lines) fault
