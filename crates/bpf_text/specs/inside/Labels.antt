-- The definitions of labels, as the assembler keeps them. This project's own.
use Rattle.std.specs.Prelude.{◌≡◌, ℕ, ◌+◌, min, not, ◌||◌, ℤ, pos, ◌-ℤ◌, List, [], ◌∷◌, ◌++◌}
use Rattle.std.specs.Prelude.{take, nat_lt, Option, Some, None, is_some, option_map, if◌then◌else◌}
use Rattle.std.specs.Borrow.{Bor}
use Rattle.std.specs.Str.{bytes_eq}
use Rattle.std.specs.HashMap.{HashMap, get_by}
use Rattle.std.specs.declared.hash.FoldHasher.{FoldHasher}
use Rattle.std.specs.declared.hash.BuildHasherDefault.{BuildHasherDefault}
use Rattle.insn_set.specs.Program.{most_slots}
use Rattle.text_line.specs.declared.form.Form.{Form}
use Rattle.text_line.specs.Form.{form_slots, names_label}
use Rattle.text_line.specs.Line.{Line, blank, label, code, IsWellFormed}
use Rattle.text_line.specs.Ranges.{form_fits, resolved}
use Rattle.bpf_text.specs.declared.assembler.LineStart.{LineStart}
use Rattle.bpf_text.specs.declared.fault.TextFaultKind.{TextFaultKind}
use Rattle.bpf_text.specs.declared.fault.TextFaultKind.TheVariants.{Syntax, Range, UnknownLabel, LabelTwice, TooLong}
use Rattle.bpf_text.specs.Assembly.{line_slots, slots_on, label_line, passes}

-- the definitions of labels, by their names, as the code keeps them
abbrev pub Labels : Type 0
Labels = HashMap (Bor (List ℕ)) LineStart (BuildHasherDefault FoldHasher)

-- the definition that is kept for a name; `None` if none is
abbrev pub definition_of : Labels → List ℕ → Option LineStart
definition_of labels name = get_by (λ k. bytes_eq name k.now) labels

-- the start of line k: the line's index, from 0, and the number of slots before it
abbrev pub line_start : List (Option Line) → ℕ → LineStart
line_start lines k = record { line = k; slot = slots_on (take k lines) }

-- `labels` has the first definition of each label that the first n lines define, and none of any
-- other label
abbrev pub FindsLabels : List (Option Line) → Labels → ℕ → Type 0
FindsLabels lines labels n =
    (name : List ℕ)
    → definition_of labels name ≡ option_map (line_start lines) (label_line name (take n lines))

-- ---- a line's fault and instruction, given the definitions that are kept

-- the index, from 0, of the line of the definition that the assembler keeps for a label, the first
-- in the text. If it keeps none (None), the result is `line`. `label_fault` passes as `line` the
-- index of a line that defines the label: if the result is less than `line`, the label is defined
-- twice (`LabelTwice`). So a label without a kept definition has no fault
abbrev pub kept_line : Option LineStart → ℕ → ℕ
kept_line None line = line
kept_line (Some definition) line = definition.line

-- the slot of a label: the number of slots before the first line that defines the label. The
-- argument is the definition that the assembler keeps for the label's name; None if it keeps none,
-- since no line defines the label. The result is then 0, which no jump uses: a jump to a label
-- without a definition is a fault (`UnknownLabel`)
abbrev pub kept_slot : Option LineStart → ℕ
kept_slot None = 0
kept_slot (Some definition) = definition.slot

-- The distance in slots from the slot after `slot` to a label. A label past slot `most_slots` is
-- taken to be at this slot: then the text has more slots than a program may have. A label without
-- a definition is taken to be at slot 0: a jump to it is a fault.
abbrev pub kept_distance : Option LineStart → ℕ → ℤ
kept_distance definition slot = pos (min (kept_slot definition) most_slots) -ℤ pos (slot + 1)

-- the fault of an instruction, the first of these that it has: a number is out of range, its label
-- has no definition, its slots pass the most that a program may have (`passes`); None if it has
-- none. `definition` is that of the label that it names (None if it names none or no line defines
-- it), `before` the number of slots before it
abbrev pub code_fault : Form → Option LineStart → ℕ → Option TextFaultKind
code_fault form definition before =
    if form_fits form then
    (if not (names_label form) || is_some definition then
    (if passes before (form_slots form) then Some TooLong else None) else
    Some UnknownLabel) else
    Some Range

-- the fault of a line that defines a label: `LabelTwice` if the label's definition in `Labels` is
-- on a line before this one, whose index is `line`; else None
abbrev pub label_fault : Option LineStart → ℕ → Option TextFaultKind
label_fault definition line =
    if nat_lt (kept_line definition line) line then Some LabelTwice else None

-- the fault of a line, or None. The line is None if it has none of the forms: a fault of syntax.
-- `here` has the line's index and the number of slots before it; `labels` has the definitions that
-- are kept
abbrev pub kept_fault : Labels → LineStart → Option Line → Option TextFaultKind
kept_fault labels here None = Some Syntax
kept_fault labels here (Some blank) = None
kept_fault labels here (Some (label name)) = label_fault (definition_of labels name) here.line
kept_fault labels here (Some (code form name)) =
    code_fault form (definition_of labels name) here.slot

-- the form of the instruction on a line, as a list, with the distance to the label that it names
-- (`resolved`); [] if the line has no instruction. `slot` slots are before the line; `labels` has
-- the definitions that are kept
abbrev pub kept_form : Labels → ℕ → Option Line → List Form
kept_form labels slot None = []
kept_form labels slot (Some blank) = []
kept_form labels slot (Some (label name)) = []
kept_form labels slot (Some (code form name)) =
    resolved (kept_distance (definition_of labels name) slot) form ∷ []

-- the written forms on the lines, in order, with `slot` slots before the first of them
unfoldable pub kept_forms : Labels → ℕ → List (Option Line) → List Form
kept_forms labels slot [] = []
kept_forms labels slot (line ∷ lines) =
    kept_form labels slot line ++ kept_forms labels (slot + line_slots line) lines

-- what the assembler requires of each line, and reading ensures: a line that was parsed is well
-- formed (`IsWellFormed`), so its instruction has a form that a line can have, and a label's name
-- only if the form names a label. Nothing is required of a line that was not parsed (None), which
-- is the fault Syntax of the text
abbrev pub IsNoneOrWellFormed : Option Line → Type 0
IsNoneOrWellFormed None = Unit {0}
IsNoneOrWellFormed (Some line) = IsWellFormed line

-- the name, as a list of bytes, of the label that a line of a text defines, as `done` of `done:`.
-- The result is None if the line was not parsed (None), if it is blank, or if it is an instruction,
-- which defines no label: its n is the name of the label to which it jumps, empty if there is none
abbrev pub defined_label : Option Line → Option (List ℕ)
defined_label None = None
defined_label (Some blank) = None
defined_label (Some (label n)) = Some n
defined_label (Some (code form n)) = None
