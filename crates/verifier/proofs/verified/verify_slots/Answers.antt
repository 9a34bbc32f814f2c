-- `verify_slots`: the program is accepted with its maps, their objects and its cost, by the contract of `judge`. If that is out of memory,
-- the slots spell a program, so a program may have as many bytes; and a fault is at one of its slots (`slot_within`).
use Rattle.std.proofs.Common.{arith, ap, refl}
use Rattle.verifier.specs.declared.refusal.Refusal.{Refusal}
use Rattle.verifier.proofs.Judgements.{may_be_program, slot_within}
use Rattle.verifier.proofs.KeptPrograms.{copy_is_whole}
use Rattle.verifier.proofs.verified.verify_slots.Goals as goal

pub invariant_of-result : goal.invariant_of-result
invariant_of-result c =
    let found = c.in-Ok-judge.found in
    let is = c.in-Ok-judge.ensures in
    copy_is_whole c.in-Ok.program c.in-Ok.program c.args.named.now found.objects.items
    found.maps.items found.cost refl is.accepted is.objects
    is.maps is.cost

pub returns-in-Err-judge-clause-memory : goal.returns-in-Err-judge-clause-memory
returns-in-Err-judge-clause-memory c =
    may_be_program c.at_most_one_fault.ensures.none c.args.slots.now c.in-Ok.program c.in-Ok.ensures.found.0
    c.in-Ok.ensures.found.1

pub returns-clause-slot : goal.returns-clause-slot
returns-clause-slot c =
    let within =
    slot_within c.args.slots.now c.args.named.now c.in-Ok.program c.in-Err-judge.fault
    c.in-Ok.ensures.found.1 c.in-Err-judge.ensures.refused in
    omega (arith, within, ap (λ (r : Refusal). r.slot) c.from-in-Err-2-judge.ensures)
