-- `one_judgement`: by laws of `insn_codec` bytes spell one program or have one fault; a program is accepted, or rejected for one reason.
use Rattle.verifier.proofs.Judgements.{one_judgement_is}
use Rattle.verifier.proofs.laws.one_judgement.Goals as goal

pub returns : goal.returns
returns c =
    one_judgement_is c.one_program.ensures c.at_most_one_fault.ensures.same c.at_most_one_fault.ensures.none
    c.one_refusal.ensures c.accepted_is_not_refused.ensures
