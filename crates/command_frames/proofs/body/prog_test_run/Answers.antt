-- `prog_test_run`: a body that is long enough is read as its descriptor, its context words and its packet, by the contracts of `word` and
-- `read_words`; the slices of the body are its bytes from their offsets on.
use Rattle.std.proofs.Common.{◌-◌, arith, take, drop, length}
use Rattle.std.proofs.lemmas.List.{take_rest}
use Rattle.command_frames.proofs.Parsing.{run_read}
use Rattle.command_frames.proofs.body.prog_test_run.Goals as goal

pub returns : goal.returns
returns c =
    let body = c.args.body.now in
    run_read body (take (length body - 4) (drop 4 body)) (take (length body - 44) (drop 44 body))
    c.read_words.result c.word.result (omega arith) c.word.ensures
    c.read_words.ensures (take_rest body 4) (take_rest body 44)
