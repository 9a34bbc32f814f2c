-- `refusals_are_reported`: only a refusal of memory has the status `NoMemory` and sets the flag, by cases of the command. A load is not
-- rejected with this status: by the law `at_most_one_fault` no slots are, and by `refused_by_a_rule` no program is.
use Rattle.tenant.proofs.Memory.{refusals_are_reported}
use Rattle.tenant.proofs.laws.refusals_are_reported.Goals as goal

pub returns : goal.returns
returns c = refusals_are_reported (record { slots = c.at_most_one_fault.ensures.no_memory; rules = c.refused_by_a_rule.ensures })
