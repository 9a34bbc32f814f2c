-- `restored_by_frames`: each command that restores the state has a frame that is parsed as it (`encoding_inverts_parsing`), so these frames
-- lead to the state that `restored_is_alike` gives for the commands (`ByFrames`). The filler is a program (`filler_program`), so its load
-- has one too.
use Rattle.saving.proofs.ByFrames as proof
use Rattle.saving.proofs.Verdicts.{filler_program}
use Rattle.saving.proofs.laws.restored_by_frames.Goals as goal

pub returns : goal.returns
returns c = proof.restored_by_frames c.encoding_inverts_parsing.ensures filler_program c.restored_is_alike.ensures
