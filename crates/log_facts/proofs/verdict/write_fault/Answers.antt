-- `write_fault`: the refusal that `from` makes is that of the fault, so `writeln!` appends its text and a line feed.
use Rattle.std.proofs.Common.{◌≡◌, ap, rules}
use Rattle.verifier.specs.Judgement.{refusal_of_program, refusal_text}
use Rattle.log_facts.proofs.verdict.write_fault.Goals as goal

pub returns : goal.returns
returns c =
    let same : refusal_text c.from-refusal.result ≡ refusal_text (refusal_of_program c.args.fault) =
    ap refusal_text c.from-refusal.ensures in
    search rules
