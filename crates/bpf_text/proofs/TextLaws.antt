-- A text has at most one program, and no fault besides it; the printed text of a program is
-- read as this program.
use Rattle.std.proofs.Common.{◌≡◌, ◌≢◌, ℕ, zero, suc, ◌+◌, ◌≤◌, Bool, true, false, cond, eqb, ltb, not, List, [], ◌∷◌, ◌++◌, length, take}
use Rattle.std.proofs.Common.{map, Option, Some, None, Result, Ok, Err, leb, lit<, refl, sym, ap, ◌∙◌, arith, subst, inl, inr, append_assoc}
use Rattle.std.specs.Prelude.{slice_get, is_some, ◌⊎◌, ◌||◌, ◌&&◌, IfOk, IfErr, IsErrAnd, MatchResult}
use Rattle.std.specs.List.{All, AllByRecursion}
use Rattle.std.proofs.lemmas.Bool.{false_from_ne_true, le-ltb}
use Rattle.std.proofs.lemmas.Bool.Decides.{Decides-eqb}
use Rattle.std.proofs.lemmas.List.Splits.{slice_split_at}
use Rattle.std.proofs.lemmas.List.Sums.{sum_by-cons}
use Rattle.insn_set.specs.declared.TheConstants.{MAX_SLOTS}
use Rattle.insn_set.specs.declared.insn.Insn.{Insn}
use Rattle.insn_set.specs.Spelling.{slots, IsInsn}
use Rattle.insn_set.specs.Program.{slot_count}
use Rattle.text_line.specs.declared.form.Form.{Form}
use Rattle.text_line.specs.Line.{Line, blank, code, ReadAs}
use Rattle.text_line.specs.Form.{form_slots, names_label}
use Rattle.text_line.specs.Ranges.{form_fits}
use Rattle.text_line.specs.Written.{written, printed_insn}
use Rattle.text_line.specs.Law.{OneReading, OneInsn, IsWrittenInRange, IsPrinted}
use Rattle.bpf_text.specs.declared.fault.TextFault.{TextFault}
use Rattle.bpf_text.specs.declared.fault.TextFaultKind.{TextFaultKind}
use Rattle.bpf_text.specs.declared.fault.TextFaultKind.TheVariants.{Range, UnknownLabel, TooLong}
use Rattle.bpf_text.specs.Fault.{memory_fault, IsFaultBy}
use Rattle.bpf_text.specs.Lines.{text_lines}
use Rattle.bpf_text.specs.Printed.{printed}
use Rattle.bpf_text.specs.Assembly.{AreRead, slots_on, label_line, line_fault, line_fault_of, fault_at, forms_from, distance, passes, IsAssembled, IsOwnFault}
use Rattle.bpf_text.specs.Law.{OneProgram, ProgramHasNoFault, OneFault, PrintedIsAssembled}
use Rattle.bpf_text.proofs.Assembling.{count_is}
use Rattle.bpf_text.proofs.OneFault.{at_most_one_fault}

-- ---- one program, or one fault

lines_same : OneReading → (text : List (List ℕ)) (a b : List (Option Line)) → AreRead text a → AreRead text b → a ≡ b
lines_same one [] [] [] h k = refl
lines_same one [] [] (y ∷ b) h k = absurd k
lines_same one [] (x ∷ a) b h k = absurd h
lines_same one (bytes ∷ text) [] b h k = absurd h
lines_same one (bytes ∷ text) (x ∷ a) [] h k = absurd k
lines_same one (bytes ∷ text) (x ∷ a) (y ∷ b) h k =
    ap (λ (l : Option Line). l ∷ a) (one bytes x y h.0 k.0)
    ∙ ap (λ (ls : List (Option Line)). y ∷ ls) (lines_same one text a b h.1 k.1)

insns_same : OneInsn → (a b : List Insn) → map written a ≡ map written b → a ≡ b
insns_same one [] [] e = refl
insns_same one [] (y ∷ b) e = absurd (let no : [] ≡ written y ∷ map written b = e in cc no)
insns_same one (x ∷ a) [] e = absurd (let no : written x ∷ map written a ≡ [] = e in cc no)
insns_same one (x ∷ a) (y ∷ b) e =
    let same : written x ∷ map written a ≡ written y ∷ map written b = e in
    let first : written x ≡ written y = cc same in
    let rest : map written a ≡ map written b = cc same in
    ap (λ (i : Insn). i ∷ a) (one x y first) ∙ ap (λ (is : List Insn). y ∷ is) (insns_same one a b rest)

-- a text has at most one program, if a line has one reading and a written form one instruction
pub one_program_is : OneReading → OneInsn → OneProgram
one_program_is reading insn text a b h k =
    let same : h.lines ≡ k.lines = lines_same reading (text_lines text) h.lines k.lines h.read k.read in
    insns_same insn a b (h.forms ∙ ap (λ (ls : List (Option Line)). forms_from ls 0 ls) same ∙ sym k.forms)

no_own_fault : OneReading
    → (text : List ℕ) (insns : List Insn) (fault : TextFault) → IsAssembled text insns
    → IsOwnFault text fault
    → ⊥
no_own_fault reading text insns fault h own =
    let same : h.lines ≡ own.lines = lines_same reading (text_lines text) h.lines own.lines h.read own.read in
    elim own.first [
      | inl first ↦ let no : Some fault.kind ≡ None =
          sym first.here
          ∙ ap (λ (ls : List (Option Line)). fault_at ls first.index) (sym same)
          ∙ h.none first.index in cc no
      | inr empty ↦ omega (arith, h.some, ap slots_on same, empty.slots_is)
    ]

-- a text with a program has no fault of its own, if a line has one reading
pub no_fault_is : OneReading → ProgramHasNoFault
no_fault_is reading text insns fault h own = no_own_fault reading text insns fault h own

-- a text has at most one fault of its own, if a line has one reading
pub one_fault_is : OneReading → OneFault
one_fault_is reading text a b h k =
    let same : h.lines ≡ k.lines = lines_same reading (text_lines text) h.lines k.lines h.read k.read in
    at_most_one_fault (fault_at k.lines) (slots_on k.lines) a b
    (subst (λ (ls : List (Option Line)). IsFaultBy (fault_at ls) (slots_on ls) a) same h.first)
    k.first

-- if a text has a fault of its own, this fault is returned, or that of memory
pub faulty_is : ProgramHasNoFault
    → OneFault
    → (text : List ℕ) (answer : Result (List Insn) TextFault)
    → IfOk answer (λ program. IsAssembled text program)
    → IfErr answer (λ e. (e ≡ memory_fault) ⊎ IsOwnFault text e)
    → (fault : TextFault) → IsOwnFault text fault
    → IsErrAnd answer (λ e. (e ≡ fault) ⊎ (e ≡ memory_fault))
faulty_is none one text (Ok program) ok seen fault own = absurd (none text program fault ok own)
faulty_is none one text (Err e) ok (inl memory) fault own = inr memory
faulty_is none one text (Err e) ok (inr seen) fault own = inl (one text e fault seen own)

-- if a text has a program, this program is returned, or the fault of memory
pub only_is : OneProgram
    → ProgramHasNoFault
    → (text : List ℕ) (answer : Result (List Insn) TextFault)
    → IfOk answer (λ program. IsAssembled text program)
    → IfErr answer (λ e. (e ≡ memory_fault) ⊎ IsOwnFault text e)
    → (insns : List Insn) → IsAssembled text insns
    → MatchResult answer (λ program. program ≡ insns) (λ e. e ≡ memory_fault)
only_is one none text (Ok program) ok seen insns h = one text program insns ok h
only_is one none text (Err e) ok (inl memory) insns h = memory
only_is one none text (Err e) ok (inr seen) insns h = absurd (none text insns e h seen)

-- ---- the printed text

-- the lines of a printed text
lines_of : List Insn → List (Option Line)
lines_of [] = Some blank ∷ []
lines_of (insn ∷ insns) = Some (code (written insn) []) ∷ lines_of insns

no_feed : (bs : List ℕ) → AllByRecursion (λ b. b ≢ 10) bs → All (λ b. eqb b 10 ≡ false) bs
no_feed [] h k d inside = absurd (omega arith)
no_feed (b ∷ bs) h zero d inside = false_from_ne_true (eqb b 10) (λ t. h.0 ((Decides-eqb b 10).0 t))
no_feed (b ∷ bs) h (suc k) d inside = no_feed bs h.1 k d (omega arith)

blank_read : ReadAs [] (Some blank)
blank_read = (tt, (λ i. lit< tt, refl))

abbrev EachPrinted : List Insn → Type 0
EachPrinted insns = AllByRecursion IsPrinted insns

abbrev EachWritten : List Insn → Type 0
EachWritten insns = AllByRecursion IsWrittenInRange insns

lines_read : (insns : List Insn) → EachPrinted insns → AreRead (text_lines (printed insns)) (lines_of insns)
unfolding lines_of
lines_read [] each = (blank_read, tt)
lines_read (insn ∷ insns) each =
    let line : List ℕ = printed_insn insn in
    let front : printed (insn ∷ insns) ≡ line ++ 10 ∷ printed insns = append_assoc line (10 ∷ []) (printed insns) in
    let cut : text_lines (printed (insn ∷ insns)) ≡ line ∷ text_lines (printed insns) =
    ap text_lines front ∙ slice_split_at (λ b. eqb b 10) line 10 (printed insns) (no_feed line each.0.one_line) refl in
    subst (λ (ls : List (List ℕ)). AreRead ls (Some (code (written insn) []) ∷ lines_of insns))
    (sym cut) (each.0.read, lines_read insns each.1)

forms_of : (all : List (Option Line)) (slot : ℕ) (insns : List Insn)
    → EachWritten insns → map written insns ≡ forms_from all slot (lines_of insns)
unfolding lines_of forms_from
forms_of all slot [] each = refl
forms_of all slot (insn ∷ insns) each =
    ap (λ (fs : List Form). written insn ∷ fs) (forms_of all (slot + form_slots (written insn)) insns each.1)
    ∙ ap (λ (f : Form). f ∷ forms_from all (slot + form_slots (written insn)) (lines_of insns))
    (sym (each.0.resolved_is (distance all slot [])))

none_by : (fits named known long : Bool)
    → fits ≡ true → named ≡ false
    → long ≡ false
    → cond fits (cond (not named || known) (cond long (Some TooLong) None) (Some UnknownLabel)) (Some Range) ≡ None
none_by true false known false e f g = refl
none_by true false known true e f g = absurd (let no : true ≡ false = g in cc no)
none_by true true known long e f g = absurd (let no : true ≡ false = f in cc no)
none_by false named known long e f g = absurd (let no : false ≡ true = e in cc no)

and_false : (b : Bool) → (b && false) ≡ false
and_false true = refl
and_false false = refl

line_none : (all : List (Option Line)) (i before : ℕ) (insn : Insn)
    → IsWrittenInRange insn → before + length (slots insn) ≤ MAX_SLOTS
    → line_fault all i before (Some (code (written insn) [])) ≡ None
line_none all i before insn w room =
    let inside : ltb MAX_SLOTS (before + form_slots (written insn)) ≡ false = le-ltb _ _ (omega (arith, w.slots_are)) in
    let short : passes before (form_slots (written insn)) ≡ false =
    ap (λ (b : Bool). leb before MAX_SLOTS && b) inside ∙ and_false (leb before MAX_SLOTS) in
    none_by (form_fits (written insn)) (names_label (written insn)) (is_some (label_line [] all))
    (passes before (form_slots (written insn))) w.fits w.no_label
    short

seen : List (Option Line) → ℕ → ℕ → Option (Option Line) → Option TextFaultKind
seen all i before None = None
seen all i before (Some line) = line_fault all i before line

from_none : (n : ℕ) → n ≡ 0 + n
from_none n = omega arith

fault_seen : (all : List (Option Line)) (i : ℕ) (o : Option (Option Line))
    → line_fault_of all i o ≡ seen all i (0 + slots_on (take i all)) o
unfolding seen
fault_seen all i None = refl
fault_seen all i (Some line) = ap (λ (n : ℕ). line_fault all i n line) (from_none (slots_on (take i all)))

none_seen : (all : List (Option Line)) (at before i : ℕ) (insns : List Insn)
    → EachWritten insns → before + slot_count insns ≤ MAX_SLOTS
    → seen all at (before + slots_on (take i (lines_of insns))) (slice_get (lines_of insns) i) ≡ None
unfolding lines_of seen slots_on
none_seen all at before zero [] each room = refl
none_seen all at before (suc i) [] each room = refl
none_seen all at before zero (insn ∷ insns) each room =
    let count : slot_count (insn ∷ insns) ≡ length (slots insn) + slot_count insns =
    sum_by-cons (λ (j : Insn). length (slots j)) insn insns in
    let fits : before + length (slots insn) ≤ MAX_SLOTS = omega (arith, count) in
    ap (λ (n : ℕ). line_fault all at n (Some (code (written insn) []))) (plus_none before)
    ∙ line_none all at before insn each.0 fits
  where
    plus_none : (n : ℕ) → n + 0 ≡ n
    plus_none n = omega arith
none_seen all at before (suc i) (insn ∷ insns) each room =
    let count : slot_count (insn ∷ insns) ≡ length (slots insn) + slot_count insns =
    sum_by-cons (λ (j : Insn). length (slots j)) insn insns in
    let fits : (before + form_slots (written insn)) + slot_count insns ≤ MAX_SLOTS =
    omega (arith, count, each.0.slots_are) in
    ap (λ (n : ℕ). seen all at n (slice_get (lines_of insns) i))
    (moved before (form_slots (written insn)) (slots_on (take i (lines_of insns))))
    ∙ none_seen all at (before + form_slots (written insn)) i insns each.1 fits
  where
    moved : (a b c : ℕ) → a + (b + c) ≡ (a + b) + c
    moved a b c = omega arith

no_fault : (insns : List Insn)
    → EachWritten insns → slot_count insns ≤ MAX_SLOTS
    → (i : ℕ) → fault_at (lines_of insns) i ≡ None
unfolding fault_at
no_fault insns each room i =
    fault_seen (lines_of insns) i (slice_get (lines_of insns) i)
    ∙ none_seen (lines_of insns) i 0 i insns each (omega arith)

each_of : (P : Insn → Type 0) (insns : List Insn)
    → ((insn : Insn) → IsInsn insn → P insn) → AllByRecursion IsInsn insns
    → AllByRecursion P insns
each_of P [] law each = tt
each_of P (insn ∷ insns) law each = (law insn each.0, each_of P insns law each.1)

-- a program's printed text assembles to it, if each instruction is written in range and its line is read back
pub printed_is : ((insn : Insn) → IsInsn insn → IsWrittenInRange insn)
    → ((insn : Insn) → IsInsn insn → IsPrinted insn) → PrintedIsAssembled
printed_is writes prints insns program =
    let each_written : EachWritten insns = each_of IsWrittenInRange insns writes program.each in
    let each_printed : EachPrinted insns = each_of IsPrinted insns prints program.each in
    let forms : map written insns ≡ forms_from (lines_of insns) 0 (lines_of insns) =
    forms_of (lines_of insns) 0 insns each_written in
    record {
      lines = lines_of insns;
      read = lines_read insns each_printed;
      none = no_fault insns each_written program.room;
      forms = forms;
      some = omega (arith, count_is insns (lines_of insns) forms, program.some);
    }
