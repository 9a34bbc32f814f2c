-- `one_command_result`: a command has one result, by cases: the law `one_judgement` gives that of a load, and for each other command the
-- result is an equation.
use Rattle.tenant.proofs.OneCommandResult.{one_command_result_is}
use Rattle.tenant.proofs.laws.one_command_result.Goals as goal

pub returns : goal.returns
returns c = one_command_result_is c.one_judgement.ensures
