-- `clear_flag_means_no_refusal`: a result that is due to a refusal of memory sets the flag, so if the flag is clear the result is one
-- without refusals.
use Rattle.tenant.proofs.Flag.{clear_flag_means_no_refusal}
use Rattle.tenant.proofs.laws.clear_flag_means_no_refusal.Goals as goal

pub returns : goal.returns
returns c = clear_flag_means_no_refusal
