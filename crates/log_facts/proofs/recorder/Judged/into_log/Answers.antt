-- `into_log` of `Judged`: by cases of the verdict, a text that ends in it ends in the verdict on the program, since `IsJudged` gives the
-- cost of an accepted program, or the rule by which it is rejected.
use Rattle.log_facts.proofs.Verdicts.{says_verdict}
use Rattle.log_facts.proofs.recorder.Judged.into_log.Goals as goal

pub returns-clause-said : goal.returns-clause-said
returns-clause-said c = λ code named judged ends. says_verdict _ _ _ _ _ _ c.is_ok.ensures.value judged ends
