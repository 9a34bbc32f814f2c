-- `read_words`: the words that are read from the bytes of the context are those at the front of all bytes, since each lies in that front.
use Rattle.command_frames.proofs.Words.{words_in_front}
use Rattle.command_frames.proofs.body.read_words.Goals as goal

pub returns : goal.returns
returns c = words_in_front c.args.bytes.now c.read_u32_into.new.dst c.read_u32_into.auto.dst c.read_u32_into.ensures
