-- `calls_refine_values`: calls on a map of objects and on the map of their values return and change alike; `go_along` shows it for any two
-- types of objects, by induction over the entries.
use Rattle.std.proofs.Common.{ℕ, List}
use Rattle.tagged_model.proofs.MapValues.{go_along}
use Rattle.tagged_model.proofs.laws.calls_refine_values.Goals as goal

pub returns : goal.returns
returns c = record { numbers = go_along ℕ ℕ; bytes = go_along ℕ (List ℕ) }
