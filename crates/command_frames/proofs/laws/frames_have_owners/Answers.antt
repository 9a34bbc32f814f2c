-- `frames_have_owners`: the frame of a command has a head, and a tenant's number that fits into two bytes is read from its encoding.
use Rattle.command_frames.proofs.Encodings as proof
use Rattle.command_frames.proofs.laws.frames_have_owners.Goals as goal

pub returns : goal.returns
returns c = proof.frames_have_owners
