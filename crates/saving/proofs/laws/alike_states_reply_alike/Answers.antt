-- `alike_states_reply_alike`: alike states give equal replies to a list of frames; `Frames` proves it from `alike_is_bisimulation` for each
-- frame, with `maps_are_held`. Without refusals no other replies are possible, by `one_reply_list`.
use Rattle.saving.proofs.Frames.{replies_alike}
use Rattle.saving.proofs.laws.alike_states_reply_alike.Goals as goal

pub returns : goal.returns
returns c = replies_alike c.one_reply_list.ensures c.maps_are_held.ensures c.alike_is_bisimulation.ensures
