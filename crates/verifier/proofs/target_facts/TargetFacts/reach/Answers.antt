-- `reach`: no slot's entry changes, by the contract of `append_empty`, read on the list that contracts see.
use Rattle.std.proofs.Common.{ℕ, ap, ◌∙◌}
use Rattle.std.proofs.lemmas.Result.{on_ok_weaker}
use Rattle.verifier.specs.inside.Numbers.{entry_of}
use Rattle.verifier.proofs.target_facts.TargetFacts.reach.Goals as goal

pub returns-clause-entries : goal.returns-clause-entries
returns-clause-entries c =
    on_ok_weaker c.append_empty.result
    (λ same (i : ℕ). same i ∙ ap (entry_of i) c.self.view_is)
    c.append_empty.ensures.entries
