-- `object_addresses_are_bounded`: by cases of the object, its address lies in the tenant's part, and so between the bounds of the arena's
-- addresses.
use Rattle.bpf_helpers.proofs.Addresses.{pointers_low}
use Rattle.bpf_helpers.proofs.laws.object_addresses_are_bounded.Goals as goal

pub returns : goal.returns
returns c = pointers_low
