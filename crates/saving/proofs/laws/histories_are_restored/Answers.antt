-- `histories_are_restored`: by induction over the commands (`Histories`), the state can be restored and has these births
-- (`restorable_is_kept`, `births_are_kept`). So its frames restore a state alike to it (`restored_by_frames`), which gives equal replies
-- (`alike_states_reply_alike`).
use Rattle.saving.proofs.Histories as proof
use Rattle.saving.proofs.laws.histories_are_restored.Goals as goal

pub returns : goal.returns
returns c =
    proof.histories_are_restored c.births_are_kept.ensures c.restorable_is_kept.ensures
    c.restored_by_frames.ensures c.alike_states_reply_alike.ensures
