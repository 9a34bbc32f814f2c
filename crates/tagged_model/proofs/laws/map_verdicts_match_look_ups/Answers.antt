-- `map_verdicts_match_look_ups`: the verdict on an update agrees with the look-up of its key; `tell` shows it for any type of objects, by
-- cases of the verdict.
use Rattle.std.proofs.Common.{ℕ, List}
use Rattle.tagged_model.proofs.MapVerdicts.{tell}
use Rattle.tagged_model.proofs.laws.map_verdicts_match_look_ups.Goals as goal

pub returns : goal.returns
returns c = record { numbers = tell ℕ; bytes = tell (List ℕ) }
