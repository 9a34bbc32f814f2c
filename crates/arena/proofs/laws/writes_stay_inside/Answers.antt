-- `writes_stay_inside`: bytes written within one part change no other part, since each other part ends before them or begins after them
-- (`stays`).
use Rattle.arena.proofs.Apart.{stays}
use Rattle.arena.proofs.laws.writes_stay_inside.Goals as goal

pub returns : goal.returns
returns c = stays
