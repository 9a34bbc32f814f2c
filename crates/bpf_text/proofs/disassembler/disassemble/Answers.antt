-- `disassemble`: each turn appends the line of the instruction that begins at the slot (`printed_one`), or nothing if none does
-- (`printed_none`). After the last slot all instructions have begun, so the text is the printed one, and by the law
-- `printed_text_is_assembled` it assembles to the program.
use Rattle.std.proofs.Common.{◌≡◌, arith, subst, ◌∙◌, ◌++◌, ◌+◌, ◌∷◌, ap, sym, ℕ, List, [], append-nil, append_assoc}
use Rattle.std.specs.Option.{option_copied}
use Rattle.std.specs.String.{string_bytes}
use Rattle.insn_set.specs.declared.insn.Insn.{Insn}
use Rattle.insn_set.specs.Program.{begun_below, begins_at, slot_count}
use Rattle.bpf_text.specs.Assembly.{IsAssembled}
use Rattle.bpf_text.specs.Printed.{printed}
use Rattle.text_line.specs.Written.{printed_insn}
use Rattle.bpf_text.proofs.Printing.{printed_more, printed_one, printed_none}
use Rattle.bpf_text.proofs.disassembler.disassemble.Goals.{in-Some+in_ok-write_insn+in_ok-push_str, in_default}
use Rattle.bpf_text.proofs.disassembler.disassemble.Goals as goal

pub loop-slot-preserved : goal.loop-slot-preserved
loop-slot-preserved c =
    let is : List Insn = c.args.program.now in
    let text : List ℕ = string_bytes c.loop-slot.text in
    let before : List Insn = begun_below is c.loop-slot.slot in
    let step = c.insns_in_order.ensures.step c.loop-slot.slot in
    elim c.match-get.branch [
      | in-Some+in_ok-write_insn+in_ok-push_str w ↦
          let here = sym (ap option_copied w.in-Some.is) ∙ c.get.ensures in
          let line : List ℕ = printed_insn w.in-Some.insn.now ++ 10 ∷ [] in
          ap string_bytes w.text-is
          ∙ w.in_ok-push_str.ensures.bytes
          ∙ ap (λ (t : List ℕ). t ++ 10 ∷ []) w.in_ok-write_insn.ensures
          ∙ append_assoc text (printed_insn w.in-Some.insn.now) (10 ∷ [])
          ∙ printed_more is before (begun_below is (c.loop-slot.slot + 1)) text
          (begins_at is c.loop-slot.slot) line c.loop-slot.invariant
          step
          (printed_one w.in-Some.insn.now (begins_at is c.loop-slot.slot) here)
      | in_default w ↦
          let here = sym (ap option_copied w.in_default.is) ∙ c.get.ensures in
          ap string_bytes w.text-is
          ∙ sym (append-nil text)
          ∙ printed_more is before (begun_below is (c.loop-slot.slot + 1)) text
          (begins_at is c.loop-slot.slot) [] c.loop-slot.invariant
          step
          (printed_none (begins_at is c.loop-slot.slot) here)
    ]

pub returns-clause-program : goal.returns-clause-program
returns-clause-program c =
    let is : List Insn = c.args.program.now in
    let all : c.loop-slot.slot ≡ slot_count is = omega (arith, c.code-slot-end.ensures.length) in
    let text : string_bytes c.loop-slot.text ≡ printed is =
    c.loop-slot.invariant ∙ ap (λ (n : ℕ). printed (begun_below is n)) all ∙ ap printed c.insns_in_order.ensures.end in
    subst (λ (t : List ℕ). IsAssembled t is) (sym text)
    (c.printed_text_is_assembled.ensures is c.code-slot-end.ensures.program)
