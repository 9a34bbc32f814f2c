-- `writes_are_in_parts`: a write within a part changes the memory as it changes the part's bytes, since the part is a range of the
-- memory's bytes and has room for the write.
use Rattle.arena.proofs.Within.{part_over, part_written, part_size}
use Rattle.arena.proofs.laws.writes_are_in_parts.Goals as goal

pub returns : goal.returns
returns c = record { bytes = part_over; memory = part_written; size = part_size }
