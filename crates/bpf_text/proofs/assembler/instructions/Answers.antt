-- `instructions`: each turn adds the instruction of a line without a fault, if it has one, and the line's slots (`goes_on`). A fault that
-- ends the loop is that of the first faulty line (`stops`). After the last line, no line has a fault, and the instructions are those of all
-- lines (`ends`). By the precondition, the first definition of each label is in `labels` (`finds_all`).
use Rattle.std.proofs.Common.{length, List, ◌++◌, ap, ◌∙◌, arith, inr}
use Rattle.insn_set.specs.declared.insn.Insn.{Insn}
use Rattle.text_line.specs.Shown.{seen_option, seen_lines}
use Rattle.bpf_text.proofs.Assembling.{Finds, Ends, begins, goes_on, stops, ends, finds_all, formed_at, seen_at, length-seen_lines, one_or_none}
use Rattle.bpf_text.proofs.assembler.instructions.Goals as goal

pub loop-index-init : goal.loop-index-init
loop-index-init c = rw c.new-insns.ensures.items (begins c.args.labels.now (seen_lines c.args.lines.now))

pub instruction-requires-clause-form : goal.instruction-requires-clause-form
instruction-requires-clause-form c =
    let l = c.loop-index in
    let line = c.index-lines-index.result in
    rw (seen_at c.args.lines.now l.index line c.loop-index-test.true c.index-lines-index.is)
    (formed_at (seen_lines c.args.lines.now) l.index (seen_option line)
    (omega (arith, length-seen_lines c.args.lines.now))
    c.requires.formed)

pub returns-in-Err-clause-fault : goal.returns-in-Err-clause-fault
returns-in-Err-clause-fault c =
    let l = c.loop-index in
    let lines = seen_lines c.args.lines.now in
    let line = c.index-lines-index.result in
    let finds : Finds lines c.args.labels.now =
    finds_all lines c.args.labels.now (length c.args.lines.now)
    (omega (arith, length-seen_lines c.args.lines.now))
    c.requires.labels in
    inr (stops c.args.labels.now lines l.index l.slot (seen_option line) l.insns.items c.in-Err.kind
    c.at.result finds
    (omega (arith, length-seen_lines c.args.lines.now))
    (seen_at c.args.lines.now l.index line c.loop-index-test.true c.index-lines-index.is)
    c.in-Err.ensures.fault c.at.ensures l.invariant)

pub loop-index-preserved : goal.loop-index-preserved
loop-index-preserved c =
    let l = c.loop-index in
    let lines = seen_lines c.args.lines.now in
    let line = c.index-lines-index.result in
    let finds : Finds lines c.args.labels.now =
    finds_all lines c.args.labels.now (length c.args.lines.now)
    (omega (arith, length-seen_lines c.args.lines.now))
    c.requires.labels in
    let one = c.in-Ok.insn in
    let pushed =
    c.in_ok-extend_from_slice.ensures.items
    ∙ ap (λ (is : List Insn). l.insns.items ++ is) (one_or_none one c.as_slice.result.now c.as_slice.ensures) in
    goes_on c.args.labels.now lines l.index l.slot c.line_slots-slot.result (seen_option line)
    l.insns.items c.extend_from_slice.new.self.items one
    finds
    (omega (arith, length-seen_lines c.args.lines.now))
    (seen_at c.args.lines.now l.index line c.loop-index-test.true c.index-lines-index.is)
    c.line_slots-slot.ensures.value pushed c.in-Ok.ensures.found
    c.in-Ok.ensures.none l.invariant

pub returns : goal.returns
returns c =
    let l = c.loop-index in
    let lines = seen_lines c.args.lines.now in
    let finds : Finds lines c.args.labels.now =
    finds_all lines c.args.labels.now (length c.args.lines.now)
    (omega (arith, length-seen_lines c.args.lines.now))
    c.requires.labels in
    let end : Ends lines l.insns.items =
    ends c.args.labels.now lines l.index l.slot l.insns.items finds
    (omega (arith, length-seen_lines c.args.lines.now))
    l.invariant in
    record { none = end.none; forms = end.forms; count = end.count; room = end.room; fault = tt }
