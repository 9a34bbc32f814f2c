-- `faults_have_no_payload`: a reply with the status of a fault has no payload, by cases of the command: a result with a payload has another
-- status, and so has the error for a tenant that is not served.
use Rattle.tenant.proofs.Faults.{faults_have_no_payload}
use Rattle.tenant.proofs.laws.faults_have_no_payload.Goals as goal

pub returns : goal.returns
returns c = faults_have_no_payload
