-- `accesses_are_in_parts`: an address range within a part is found at its offset in the memory, and has the part's bytes; so a load
-- reads these, and a store or a copy is a write within the part.
use Rattle.arena.proofs.Asked.{has_accesses}
use Rattle.arena.proofs.laws.accesses_are_in_parts.Goals as goal

pub returns : goal.returns
returns c = has_accesses
