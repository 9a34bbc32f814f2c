-- `faults_at_front`: the lemma `faults` computes the fault of each of the three examples, and by the contract of `fault_kind_at_front` the
-- result is its kind.
use Rattle.std.proofs.Common.{◌≡◌, true}
use Rattle.insn_codec.specs.declared.fault.FaultKind.TheVariants.{Reserved, Register, SecondSlot}
use Rattle.insn_codec.proofs.Vectors.{faults}
use Rattle.insn_codec.proofs.known_answers.faults_at_front.Goals as goal

pub prove-unreachable-requires : goal.prove-unreachable-requires
prove-unreachable-requires c =
    let found = c.fault_kind_at_front-number_in_exit.ensures Reserved faults.3 in
    let same : c.eq-is_reserved.result ≡ true = rw found at c.eq-is_reserved.ensures in
    cc

pub prove-unreachable-requires-2 : goal.prove-unreachable-requires-2
prove-unreachable-requires-2 c =
    let found = c.fault_kind_at_front-register_eleven.ensures Register faults.4 in
    let same : c.eq-is_register.result ≡ true = rw found at c.eq-is_register.ensures in
    cc

pub prove-unreachable-requires-3 : goal.prove-unreachable-requires-3
prove-unreachable-requires-3 c =
    let found = c.fault_kind_at_front-half_a_load.ensures SecondSlot faults.5 in
    let same : c.eq-is_second_slot.result ≡ true = rw found at c.eq-is_second_slot.ensures in
    cc
