-- `test_runs_have_frames`: the frame of a test run that fits is parsed as this test run, by `encoding_inverts_parsing`; `Spelled` proves it
-- by induction over the test runs.
use Rattle.saving.proofs.Spelled.{test_runs_have_frames}
use Rattle.saving.proofs.laws.test_runs_have_frames.Goals as goal

pub returns : goal.returns
returns c = test_runs_have_frames c.encoding_inverts_parsing.ensures
