-- `calls_name_all`: by cases of the helper, each argument without which the machine's call is a fault is a map or a pointer, whose word
-- names a bound map or bytes of the part, as the simulation says.
use Rattle.bpf_helpers.proofs.NamedCalls.{calls_name_all}
use Rattle.bpf_helpers.proofs.laws.calls_name_all.Goals as goal

pub returns : goal.returns
returns c = calls_name_all c.writes_stay_inside.ensures
