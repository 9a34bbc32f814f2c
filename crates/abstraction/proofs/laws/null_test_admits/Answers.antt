-- `null_test_admits`: after a null test each copy of the look-up's result is the number 0, or a pointer to the start of a value, by
-- what the witness has as the result at the site (`null_settled`, `start_settled`).
use Rattle.abstraction.proofs.NullTests.{null_settled, start_settled}
use Rattle.abstraction.proofs.laws.null_test_admits.Goals as goal

pub returns : goal.returns
returns c = record {
  null = λ witness f s site h e. null_settled witness site e f s h;
  value = λ witness f s site h e. start_settled witness site e f s h;
}
