-- Assembling: from the lines to the program.
use Rattle.std.proofs.Common.{◌≡◌, ◌≢◌, ℕ, zero, suc, ◌+◌, ◌<◌, ◌≤◌, min, Bool, true, false, cond, ltb, not, List, []}
use Rattle.std.proofs.Common.{◌∷◌, ◌++◌, length, take, map, get_or, Option, Some, None, subst, refl, sym, ap, ◌∙◌}
use Rattle.std.proofs.Common.{arith, ℤ, pos, ◌-ℤ◌, unwrap_or, append-nil, append_assoc, below_more, sum_by, inl, inr}
use Rattle.std.specs.Prelude.{option_map, is_some, ◌||◌, ◌⊎◌, MatchOption}
use Rattle.std.specs.List.{AllByRecursion}
use Rattle.std.proofs.lemmas.Option.{slice_get-get_or, slice_get_past}
use Rattle.std.specs.Option.{option_to_list}
use Rattle.std.proofs.lemmas.Bool.{cases_lt}
use Rattle.std.proofs.lemmas.Bool.Decides.{nat_tests}
use Rattle.std.proofs.lemmas.List.{take_more, take_all, map-append, length-map, get_or-map}
use Rattle.std.proofs.lemmas.List.Sums.{sum_by-cons}
use Rattle.insn_set.specs.declared.TheConstants.{MAX_SLOTS}
use Rattle.insn_set.specs.declared.insn.Insn.{Insn}
use Rattle.insn_set.specs.declared.insn.Insn.TheVariants.{Alu}
use Rattle.insn_set.specs.Spelling.{slots}
use Rattle.insn_set.specs.Program.{slot_count}
use Rattle.text_line.specs.declared.form.Operation.TheVariants as operation
use Rattle.text_line.specs.declared.form.Access.TheVariants as access
use Rattle.text_line.specs.declared.form.WideValue.TheVariants as value
use Rattle.text_line.specs.declared.form.Form.{Form}
use Rattle.text_line.specs.declared.form.Form.TheVariants as form
use Rattle.text_line.specs.declared.form.Line.{Line as CodeLine}
use Rattle.text_line.specs.declared.form.Line.TheVariants.{Code}
use Rattle.text_line.specs.Shown.{seen_option, seen_lines}
use Rattle.std.specs.Borrow.{Bor}
use Rattle.text_line.specs.Line.{Line, blank, label, code, ReadAs}
use Rattle.text_line.specs.Form.{form_slots, names_label}
use Rattle.text_line.specs.Ranges.{form_fits, resolved}
use Rattle.text_line.specs.Written.{written}
use Rattle.bpf_text.specs.declared.assembler.LineStart.{LineStart}
use Rattle.bpf_text.specs.declared.fault.TextFault.{TextFault}
use Rattle.bpf_text.specs.declared.fault.TextFaultKind.{TextFaultKind}
use Rattle.bpf_text.specs.declared.fault.TextFaultKind.TheVariants.{Range, UnknownLabel, LabelTwice, TooLong, Memory}
use Rattle.bpf_text.specs.Fault.{NoneBelow, IsFirstFaultyLine, memory_fault, empty_fault}
use Rattle.bpf_text.specs.inside.Faults.{fault_on}
use Rattle.bpf_text.specs.inside.Labels.{Labels, definition_of, line_start, FindsLabels, kept_line, kept_slot}
use Rattle.bpf_text.specs.inside.Labels.{kept_distance, code_fault, label_fault, kept_fault, kept_form, kept_forms, IsNoneOrWellFormed}
use Rattle.bpf_text.specs.Assembly.{AreRead, line_slots, slots_on, label_line, label_slot, distance, passes, is_known}
use Rattle.bpf_text.specs.Assembly.{is_twice, line_fault, line_fault_of, fault_at, forms_from, IsAssembled, IsOwnFault}
use Rattle.bpf_text.specs.Lines.{text_lines}
use Rattle.bpf_text.proofs.Faults.{fault_on_line}
use Rattle.bpf_text.proofs.LabelLines.{slots_on-append}

-- ---- the labels that are kept

abbrev pub Finds : List (Option Line) → Labels → Type 0
Finds lines labels =
    (name : List ℕ) → definition_of labels name ≡ option_map (line_start lines) (label_line name lines)

-- if the labels of the first n lines are kept, and no line is after these, the labels of all lines are kept
pub finds_all : (lines : List (Option Line)) (labels : Labels) (n : ℕ)
    → length lines ≤ n → FindsLabels lines labels n → Finds lines labels
finds_all lines labels n past finds = λ name.
    finds name
    ∙ ap (λ (ls : List (Option Line)). option_map (line_start lines) (label_line name ls)) (take_all n lines past)

kept_line_is : (lines : List (Option Line)) (o : Option ℕ) (i : ℕ)
    → kept_line (option_map (line_start lines) o) i ≡ unwrap_or o i
kept_line_is lines None i = refl
kept_line_is lines (Some k) i = refl

no_slots_on : slots_on [] ≡ 0
unfolding slots_on
no_slots_on = refl

kept_slot_is : (lines : List (Option Line)) (o : Option ℕ)
    → kept_slot (option_map (line_start lines) o) ≡ slots_on (take (unwrap_or o 0) lines)
kept_slot_is lines None = sym no_slots_on
kept_slot_is lines (Some k) = refl

is_kept : (lines : List (Option Line)) (o : Option ℕ) → is_some (option_map (line_start lines) o) ≡ is_some o
is_kept lines None = refl
is_kept lines (Some k) = refl

-- ---- faults

-- the fault of a line by the labels that are kept is the fault by its definition
pub fault_is : (lines : List (Option Line)) (labels : Labels) (i before : ℕ) (line : Option Line)
    → Finds lines labels
    → kept_fault labels (record { line = i; slot = before }) line ≡ line_fault lines i before line
fault_is lines labels i before None finds = refl
fault_is lines labels i before (Some blank) finds = refl
fault_is lines labels i before (Some (label name)) finds =
    ap (λ (o : Option LineStart). label_fault o i) (finds name)
    ∙ ap (λ (k : ℕ). cond (ltb k i) (Some LabelTwice) None) (kept_line_is lines (label_line name lines) i)
fault_is lines labels i before (Some (code form name)) finds =
    ap (λ (o : Option LineStart). code_fault form o before) (finds name)
    ∙ ap (λ (b : Bool).
    cond (form_fits form)
    (cond (not (names_label form) || b) (cond (passes before (form_slots form)) (Some TooLong) None) (Some UnknownLabel))
    (Some Range))
    (is_kept lines (label_line name lines))

code_fault_kind : (fits known long : Bool) (kind : TextFaultKind)
    → cond fits (cond known (cond long (Some TooLong) None) (Some UnknownLabel)) (Some Range) ≡ Some kind
    → kind ≢ Memory
code_fault_kind true true true kind e = λ m. cc
code_fault_kind true true false kind e = λ m. cc
code_fault_kind true false long kind e = λ m. cc
code_fault_kind false known long kind e = λ m. cc

label_fault_kind : (twice : Bool) (kind : TextFaultKind) → cond twice (Some LabelTwice) None ≡ Some kind → kind ≢ Memory
label_fault_kind true kind e = λ m. cc
label_fault_kind false kind e = λ m. cc

-- no line has the fault Memory
pub fault_kind : (lines : List (Option Line)) (i before : ℕ) (line : Option Line) (kind : TextFaultKind)
    → line_fault lines i before line ≡ Some kind → kind ≢ Memory
fault_kind lines i before (Some (label name)) kind e = label_fault_kind (is_twice lines i name) kind e
fault_kind lines i before (Some (code form name)) kind e =
    code_fault_kind (form_fits form) (is_known lines form name) (passes before (form_slots form)) kind e
fault_kind lines i before _ kind e = λ m. cc

-- the fault at the index of a line is the fault of this line, given the slots of the lines before it
pub fault_here : (lines : List (Option Line)) (i : ℕ) (d : Option Line)
    → i < length lines
    → fault_at lines i ≡ line_fault lines i (slots_on (take i lines)) (get_or lines i d)
unfolding fault_at
fault_here lines i d h = ap (line_fault_of lines i) (slice_get-get_or lines i d h)

-- after the last line there is no fault
pub no_fault_past : (lines : List (Option Line))
    → NoneBelow (fault_at lines) (length lines) → (i : ℕ) → fault_at lines i ≡ None
unfolding fault_at
no_fault_past lines below i =
    elim (cases_lt i (length lines)) [
      | inl inside ↦ below i inside
      | inr past ↦ ap (line_fault_of lines i) (slice_get_past lines i past)
    ]

-- ---- instructions

-- the instruction of a line is its form with the labels that are kept
pub form_kept : (labels : Labels) (slot : ℕ) (line : Option CodeLine) (form : Form)
    (name : Bor (List ℕ)) (definition : Option LineStart) (insn : Insn)
    → line ≡ Some (Code form name) → definition ≡ definition_of labels name.now
    → written insn ≡ resolved (kept_distance definition slot) form
    → written insn ∷ [] ≡ kept_form labels slot (seen_option line)
form_kept labels slot line form name definition insn is found e =
    ap (λ (f : Form). f ∷ []) (e ∙ ap (λ (o : Option LineStart). resolved (kept_distance o slot) form) found)
    ∙ sym (ap (λ (o : Option CodeLine). kept_form labels slot (seen_option o)) is)

-- a text without lines has no written forms
pub no_forms : (labels : Labels) (slot : ℕ) → kept_forms labels slot [] ≡ []
unfolding kept_forms
no_forms labels slot = refl

-- one more line adds its form, if it has one, after the forms of the lines before
pub kept_forms-append : (labels : Labels) (slot : ℕ) (lines : List (Option Line)) (line : Option Line)
    → kept_forms labels slot (lines ++ line ∷ [])
    ≡ kept_forms labels slot lines ++ kept_form labels (slot + slots_on lines) line
unfolding kept_forms slots_on
kept_forms-append labels slot [] line =
    append-nil (kept_form labels slot line) ∙ ap (λ (n : ℕ). kept_form labels n line) (plus_none slot)
  where
    plus_none : (n : ℕ) → n ≡ n + 0
    plus_none n = omega arith
kept_forms-append labels slot (l ∷ lines) line =
    ap (λ (fs : List Form). kept_form labels slot l ++ fs)
    (kept_forms-append labels (slot + line_slots l) lines line
    ∙ ap (λ (n : ℕ). kept_forms labels (slot + line_slots l) lines ++ kept_form labels n line)
    (moved slot (line_slots l) (slots_on lines)))
    ∙ sym (append_assoc (kept_form labels slot l) (kept_forms labels (slot + line_slots l) lines)
    (kept_form labels (slot + (line_slots l + slots_on lines)) line))
  where
    moved : (a b c : ℕ) → (a + b) + c ≡ a + (b + c)
    moved a b c = omega arith

-- the first lines take at most as many slots as all lines
pub slots_on-take : (k : ℕ) (lines : List (Option Line)) → slots_on (take k lines) ≤ slots_on lines
unfolding slots_on
slots_on-take zero lines = omega arith
slots_on-take (suc k) [] = omega arith
slots_on-take (suc k) (l ∷ lines) =
    let more : slots_on (take k lines) ≤ slots_on lines = slots_on-take k lines in omega arith

-- if the lines have at most as many slots as a program may have, the distance by the labels that are kept is the label's distance
distance_is : (lines : List (Option Line)) (labels : Labels) (slot : ℕ) (name : List ℕ)
    → Finds lines labels → slots_on lines ≤ MAX_SLOTS
    → kept_distance (definition_of labels name) slot ≡ distance lines slot name
distance_is lines labels slot name finds room =
    let at : kept_slot (definition_of labels name) ≡ label_slot lines name =
    ap kept_slot (finds name) ∙ kept_slot_is lines (label_line name lines) in
    let inside : label_slot lines name ≤ MAX_SLOTS =
    omega (arith, slots_on-take (unwrap_or (label_line name lines) 0) lines) in
    let same : min (kept_slot (definition_of labels name)) MAX_SLOTS ≡ label_slot lines name = omega arith in
    ap (λ (n : ℕ). pos n -ℤ pos (slot + 1)) same

-- if a program may have the slots of all lines, the forms by the labels that are kept are those by all lines
pub forms_are : (all : List (Option Line)) (labels : Labels) (slot : ℕ) (lines : List (Option Line))
    → Finds all labels → slots_on all ≤ MAX_SLOTS
    → kept_forms labels slot lines ≡ forms_from all slot lines
unfolding kept_forms forms_from
forms_are all labels slot [] finds room = refl
forms_are all labels slot (Some (code form name) ∷ lines) finds room =
    ap (λ (z : ℤ). resolved z form ∷ kept_forms labels (slot + form_slots form) lines)
    (distance_is all labels slot name finds room)
    ∙ ap (λ (fs : List Form). resolved (distance all slot name) form ∷ fs)
    (forms_are all labels (slot + form_slots form) lines finds room)
forms_are all labels slot (_ ∷ lines) finds room =
    ap (λ (n : ℕ). kept_forms labels n lines) (none slot) ∙ forms_are all labels slot lines finds room
  where
    none : (n : ℕ) → n + 0 ≡ n
    none n = omega arith

-- ---- how many slots the instructions take

resolved_slots : (distance : ℤ) (form : Form) → form_slots (resolved distance form) ≡ form_slots form
resolved_slots z (form.Operation wide dst (operation.Binary op src)) = refl
resolved_slots z (form.Access (access.Store size src) at) = refl
resolved_slots z (form.WideLoad dst (value.MapFd fd)) = refl
resolved_slots z _ = refl

-- the written form of an instruction has as many slots as the instruction
pub written_slots : (insn : Insn) → form_slots (written insn) ≡ length (slots insn)
written_slots (Alu wide op dst src) = refl
written_slots _ = refl

forms_slots : (all : List (Option Line)) (slot : ℕ) (lines : List (Option Line))
    → sum_by form_slots (forms_from all slot lines) ≡ slots_on lines
unfolding forms_from slots_on
forms_slots all slot [] = refl
forms_slots all slot (Some (code form name) ∷ lines) =
    let here : Form = resolved (distance all slot name) form in
    let rest : List Form = forms_from all (slot + form_slots form) lines in
    let parts : sum_by form_slots (here ∷ rest) ≡ form_slots here + sum_by form_slots rest =
    sum_by-cons form_slots here rest in
    omega (arith, parts, forms_slots all (slot + form_slots form) lines, resolved_slots (distance all slot name) form)
forms_slots all slot (_ ∷ lines) = let more = forms_slots all slot lines in omega arith

insns_slots : (insns : List Insn) → sum_by form_slots (map written insns) ≡ slot_count insns
insns_slots [] = refl
insns_slots (insn ∷ insns) =
    let parts : sum_by form_slots (written insn ∷ map written insns)
    ≡ form_slots (written insn) + sum_by form_slots (map written insns) =
    sum_by-cons form_slots (written insn) (map written insns) in
    let count : slot_count (insn ∷ insns) ≡ length (slots insn) + slot_count insns =
    sum_by-cons (λ (i : Insn). length (slots i)) insn insns in
    omega (arith, parts, count, insns_slots insns, written_slots insn)

-- if all lines have the written forms of these instructions, the instructions have as many slots as the lines
pub count_is : (insns : List Insn) (all : List (Option Line))
    → map written insns ≡ forms_from all 0 all → slot_count insns ≡ slots_on all
count_is insns all e = sym (insns_slots insns) ∙ ap (λ (fs : List Form). sum_by form_slots fs) e ∙ forms_slots all 0 all

-- ---- the loop

-- the instructions after one more line
pub record Goes (labels : Labels) (lines : List (Option Line)) (i slot : ℕ) (insns : List Insn) : Type 0 where
  -- no line before line i has a fault
  pub below : NoneBelow (fault_at lines) i
  -- `slot` is the number of slots of the lines before line i
  pub slot_is : slot ≡ slots_on (take i lines)
  -- a program may have so many slots
  pub room : slot ≤ MAX_SLOTS
  -- the instructions have the written forms of the lines before line i, by the labels that are kept
  pub forms : map written insns ≡ kept_forms labels 0 (take i lines)

-- `Goes` holds at the first line, with no slots and no instructions
pub begins : (labels : Labels) (lines : List (Option Line)) → Goes labels lines 0 0 []
begins labels lines = record {
  below = λ i h. absurd (omega arith);
  slot_is = sym no_slots_on;
  room = omega arith;
  forms = sym (no_forms labels 0);
}

code_room : (fits known : Bool) (before slots : ℕ)
    → before ≤ MAX_SLOTS
    → cond fits (cond known (cond (passes before slots) (Some TooLong) None) (Some UnknownLabel)) (Some Range) ≡ None
    → before + slots ≤ MAX_SLOTS
code_room true true before slots h e = grind (arith, nat_tests)
code_room true false before slots h e = absurd (let no : Some UnknownLabel ≡ None = e in cc no)
code_room false known before slots h e = absurd (let no : Some Range ≡ None = e in cc no)

line_room : (labels : Labels) (here : LineStart) (line : Option Line)
    → here.slot ≤ MAX_SLOTS → kept_fault labels here line ≡ None
    → here.slot + line_slots line ≤ MAX_SLOTS
line_room labels here (Some (code form name)) h e =
    code_room (form_fits form)
    (not (names_label form) || is_some (definition_of labels name))
    here.slot (form_slots form) h e
line_room labels here _ h e = omega arith

-- `Goes` holds after one more line without a fault, with this line's slots and its instruction, if it has one
pub goes_on : (labels : Labels) (lines : List (Option Line)) (i slot more_slots : ℕ)
    (line : Option Line) (insns new : List Insn) (one : Option Insn)
    → Finds lines labels → i < length lines
    → line ≡ get_or lines i line → more_slots ≡ line_slots line
    → new ≡ insns ++ option_to_list one
    → map written (option_to_list one) ≡ kept_form labels slot line
    → kept_fault labels (record { line = i; slot = slot }) line ≡ None
    → Goes labels lines i slot insns
    → Goes labels lines (i + 1) (slot + more_slots) new
goes_on labels lines i slot more_slots line insns new one finds inside at more pushed found none so =
    let taken : take (i + 1) lines ≡ take i lines ++ line ∷ [] =
    take_more lines i line inside ∙ ap (λ (l : Option Line). take i lines ++ l ∷ []) (sym at) in
    let start : LineStart = record { line = i; slot = slot } in
    record {
      below =
          below_more _ _ so.below
          (fault_here lines i line inside
          ∙ ap (line_fault lines i (slots_on (take i lines))) (sym at)
          ∙ ap (λ (n : ℕ). line_fault lines i n line) (sym so.slot_is)
          ∙ sym (fault_is lines labels i slot line finds)
          ∙ none);
      slot_is =
          ap (λ (n : ℕ). n + more_slots) so.slot_is
          ∙ ap (λ (n : ℕ). slots_on (take i lines) + n) more
          ∙ sym (slots_on-append (take i lines) line)
          ∙ ap slots_on (sym taken);
      room = let fits = line_room labels start line so.room none in omega arith;
      forms = ap (map written) pushed ∙ map-append written insns (option_to_list one)
          ∙ ap (λ (fs : List Form). fs ++ map written (option_to_list one)) so.forms
          ∙ ap (λ (fs : List Form). kept_forms labels 0 (take i lines) ++ fs)
          (found ∙ ap (λ (n : ℕ). kept_form labels n line) (so.slot_is ∙ from_none (slots_on (take i lines))))
          ∙ sym (kept_forms-append labels 0 (take i lines) line) ∙ ap (kept_forms labels 0) (sym taken);
    }
  where
    from_none : (n : ℕ) → n ≡ 0 + n
    from_none n = omega arith

-- if no line before has a fault, a fault of the next line is that of the first faulty line
pub stops : (labels : Labels) (lines : List (Option Line)) (i slot : ℕ) (line : Option Line)
    (insns : List Insn) (kind : TextFaultKind) (fault : TextFault)
    → Finds lines labels → i < length lines
    → line ≡ get_or lines i line
    → kept_fault labels (record { line = i; slot = slot }) line ≡ Some kind
    → fault ≡ fault_on i kind → Goes labels lines i slot insns
    → IsFirstFaultyLine (fault_at lines) fault
stops labels lines i slot line insns kind fault finds inside at here is so =
    let seen : line_fault lines i slot line ≡ Some kind = sym (fault_is lines labels i slot line finds) ∙ here in
    let it : fault ≡ record { line = i + 1; kind = kind } =
    is ∙ fault_on_line i kind (fault_kind lines i slot line kind seen) in
    record {
      index = i;
      line = ap (λ (f : TextFault). f.line) it;
      here =
          fault_here lines i line inside
          ∙ ap (line_fault lines i (slots_on (take i lines))) (sym at)
          ∙ ap (λ (n : ℕ). line_fault lines i n line) (sym so.slot_is)
          ∙ seen
          ∙ ap (λ (f : TextFault). Some f.kind) (sym it);
      below = so.below;
    }

-- at the end of the lines
pub record Ends (lines : List (Option Line)) (insns : List Insn) : Type 0 where
  -- no line has a fault
  pub none : (i : ℕ) → fault_at lines i ≡ None
  -- the instructions have the written forms of all lines
  pub forms : map written insns ≡ forms_from lines 0 lines
  -- the instructions have as many slots as the lines
  pub count : slot_count insns ≡ slots_on lines
  -- a program may have so many slots
  pub room : slot_count insns ≤ MAX_SLOTS

-- if `Goes` holds after the last line, no line has a fault, and the instructions are those of all lines
pub ends : (labels : Labels) (lines : List (Option Line)) (i slot : ℕ) (insns : List Insn)
    → Finds lines labels → length lines ≤ i
    → Goes labels lines i slot insns
    → Ends lines insns
ends labels lines i slot insns finds past so =
    let all : take i lines ≡ lines = take_all i lines past in
    let room : slots_on lines ≤ MAX_SLOTS = omega (arith, so.room, so.slot_is, ap slots_on all) in
    let forms : map written insns ≡ forms_from lines 0 lines =
    so.forms ∙ ap (kept_forms labels 0) all ∙ forms_are lines labels 0 lines finds room in
    let count : slot_count insns ≡ slots_on lines = count_is insns lines forms in
    record {
      none = no_fault_past lines (λ k h. so.below k (omega arith));
      forms = forms;
      count = count;
      room = omega arith;
    }

-- ---- lines that are read

read_formed : (bytes : List ℕ) (line : Option Line) → ReadAs bytes line → IsNoneOrWellFormed line
read_formed bytes None h = tt
read_formed bytes (Some line) h = h.0

-- each line that is read is well formed
pub all_formed : (text : List (List ℕ)) (lines : List (Option Line))
    → AreRead text lines → AllByRecursion IsNoneOrWellFormed lines
all_formed [] [] h = tt
all_formed [] (line ∷ lines) h = absurd h
all_formed (bytes ∷ text) [] h = absurd h
all_formed (bytes ∷ text) (line ∷ lines) h = (read_formed bytes line h.0, all_formed text lines h.1)

-- if all lines are well formed, so is the line at an index
pub formed_at : (lines : List (Option Line)) (i : ℕ) (d : Option Line)
    → i < length lines → AllByRecursion IsNoneOrWellFormed lines → IsNoneOrWellFormed (get_or lines i d)
formed_at [] i d h all = absurd (omega arith)
formed_at (line ∷ lines) zero d h all = all.0
formed_at (line ∷ lines) (suc i) d h all = formed_at lines i d (omega arith) all.1

-- the line that the code has at an index represents the line at this index
pub seen_at : (lines : List (Option CodeLine)) (i : ℕ) (line : Option CodeLine)
    → i < length lines → line ≡ get_or lines i line
    → seen_option line ≡ get_or (seen_lines lines) i (seen_option line)
seen_at lines i line h e = ap seen_option e ∙ sym (get_or-map seen_option lines i line (seen_option line) h)

-- lines of the code represent as many lines as they are
pub length-seen_lines : (lines : List (Option CodeLine)) → length (seen_lines lines) ≡ length lines
length-seen_lines lines = length-map lines seen_option

-- a slice that has the instruction of an option, or nothing if it has none, is the option as a list
pub one_or_none : (one : Option Insn) (slice : List Insn)
    → MatchOption one (slice ≡ []) (λ x. slice ≡ x ∷ []) → slice ≡ option_to_list one
one_or_none None slice h = h
one_or_none (Some insn) slice h = h

-- ---- the result

-- if no line has a fault, and the instructions, with some slot, have the lines' forms, the text assembles to them
pub assembled : (text : List ℕ) (read : List (List ℕ)) (lines : List (Option Line)) (insns : List Insn)
    → read ≡ text_lines text → AreRead read lines
    → ((i : ℕ) → fault_at lines i ≡ None)
    → map written insns ≡ forms_from lines 0 lines
    → slot_count insns ≡ slots_on lines → 0 < slot_count insns
    → IsAssembled text insns
assembled text read lines insns e are none forms count some = record {
  lines = lines;
  read = subst (λ (ls : List (List ℕ)). AreRead ls lines) e are;
  none = none;
  forms = forms;
  some = omega arith;
}

-- if no line has a fault, a fault of memory, or of no slot if none is taken, is of memory or the text's own
pub no_slot_fault : (text : List ℕ) (read : List (List ℕ)) (lines : List (Option Line))
    (insns : List Insn) (fault : TextFault)
    → read ≡ text_lines text → AreRead read lines
    → ((i : ℕ) → fault_at lines i ≡ None) → slot_count insns ≡ slots_on lines
    → (fault ≡ memory_fault) ⊎ ((fault ≡ empty_fault) × (slot_count insns ≡ 0))
    → (fault ≡ memory_fault) ⊎ IsOwnFault text fault
no_slot_fault text read lines insns fault e are none count (inl memory) = inl memory
no_slot_fault text read lines insns fault e are none count (inr empty) = inr (record {
  lines = lines;
  read = subst (λ (ls : List (List ℕ)). AreRead ls lines) e are;
  first = inr (record { fault_is = empty.0; none = none; slots_is = omega (arith, empty.1) });
})
