-- `encoding_inverts_parsing`: the frame of a command is parsed as this command, field by field; conversely a frame that is parsed as a
-- command has the bytes of this command, since the bytes from which a number is read encode it. Both are lemmas of `Encodings`.
use Rattle.command_frames.proofs.Encodings as proof
use Rattle.command_frames.proofs.laws.encoding_inverts_parsing.Goals as goal

pub returns : goal.returns
returns c = proof.encoding_inverts_parsing
