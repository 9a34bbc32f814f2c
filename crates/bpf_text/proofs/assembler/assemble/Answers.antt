-- `assemble`: by the three laws a text has at most one program, or at most one fault, and not both. So a program or a fault that
-- `program_of` returns is the one of the text, unless the fault is `Memory`.
use Rattle.bpf_text.proofs.TextLaws.{only_is, faulty_is}
use Rattle.bpf_text.proofs.assembler.assemble.Goals as goal

pub returns-clause-only : goal.returns-clause-only
returns-clause-only c =
    only_is c.one_program.ensures c.program_has_no_fault.ensures c.args.text.now c.program_of.result
    c.program_of.ensures.ok c.program_of.ensures.fault

pub returns-clause-faulty : goal.returns-clause-faulty
returns-clause-faulty c =
    faulty_is c.program_has_no_fault.ensures c.at_most_one_fault.ensures c.args.text.now c.program_of.result
    c.program_of.ensures.ok c.program_of.ensures.fault
