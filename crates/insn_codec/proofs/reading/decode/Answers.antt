-- If an instruction is spelled at the front, the bytes have no fault and begin with no other instruction.
use Rattle.std.proofs.Common.{◌≡◌, length, ap, ◌∙◌, arith, refl}
use Rattle.insn_set.specs.declared.insn.Insn.{Insn}
use Rattle.insn_set.specs.Spelling.{slots}
use Rattle.insn_codec.specs.Fault.{HasFault}
use Rattle.insn_codec.proofs.PrefixFree.{no_fault, same_insn}
use Rattle.insn_codec.proofs.FaultKinds.{insn_has_no_fault, one_kind}
use Rattle.insn_codec.proofs.FirstFault.{has_fault}
use Rattle.insn_codec.proofs.reading.decode.Goals as goal

pub returns-in-Ok-clause-only : goal.returns-in-Ok-clause-only
returns-in-Ok-clause-only c = λ insn fits begins.
    let same : c.read_front.new.entry ≡ insn =
    same_insn c.read_front.new.entry insn c.args.bytes.now c.in-Ok.ensures.found.0 fits c.in-Ok.ensures.found.1 begins in
    let used : c.slots-slots.result ≡ length (slots insn) = c.slots-slots.ensures.count ∙ ap (λ (i : Insn). length (slots i)) same in
    cc

pub returns-in-Ok-clause-faulty : goal.returns-in-Ok-clause-faulty
returns-in-Ok-clause-faulty c = λ kind fault.
    absurd (insn_has_no_fault c.args.bytes.now kind (c.read_front.new.entry, c.in-Ok.ensures.found.0, c.in-Ok.ensures.found.1) fault)

seen : (c : goal.In-Err) → HasFault c.args.bytes.now c.in-Err.kind
seen c = has_fault c.args.bytes.now c.in-Err.kind (λ k. omega (arith, c.type_inv.bytes k)) c.in-Err.ensures.fault

pub returns-in-Err-clause-only : goal.returns-in-Err-clause-only
returns-in-Err-clause-only c = λ insn fits begins.
    let none = no_fault insn c.args.bytes.now fits begins in
    absurd (cc (none, c.in-Err.ensures.fault))

pub returns-in-Err-clause-fault : goal.returns-in-Err-clause-fault
returns-in-Err-clause-fault c = (refl, seen c)

pub returns-in-Err-clause-faulty : goal.returns-in-Err-clause-faulty
returns-in-Err-clause-faulty c = λ kind fault. one_kind c.args.bytes.now c.in-Err.kind kind (seen c) fault
