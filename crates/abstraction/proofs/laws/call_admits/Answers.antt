-- `call_admits`: the facts after a call describe the state after it, by cases of the register: the one with the result has its kind,
-- those of the arguments are unreadable, and each other one has its kind and value from before.
use Rattle.abstraction.proofs.AfterCalls.{call_admits}
use Rattle.abstraction.proofs.laws.call_admits.Goals as goal

pub returns : goal.returns
returns c = call_admits
