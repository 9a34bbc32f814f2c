-- `after_blanks`: what is left after the longest front of blanks is what `skip_blanks` leaves (`skip_blanks-run`).
use Rattle.text_line.proofs.Tokens.{skip_blanks-run}
use Rattle.text_line.proofs.token.after_blanks.Goals as goal

pub returns-clause-value : goal.returns-clause-value
returns-clause-value c =
    let rest = skip_blanks-run c.args.text.now in
    cc
