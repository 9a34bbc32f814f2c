-- `parts_are_apart`: if all bytes of a part are replaced, it has the new ones, and no other part nor the size of the memory changes, as
-- the replacement is a write of so many bytes from the part's start on.
use Rattle.arena.proofs.Apart.{others_stay, own_is, size_stays}
use Rattle.arena.proofs.laws.parts_are_apart.Goals as goal

pub returns : goal.returns
returns c = record { others = others_stay; own = own_is; size = size_stays }
