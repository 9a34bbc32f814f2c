-- `join_other_group`: the join of one group, by cases of what `join_group` returns: if the group may have changed, it has the new number;
-- else its slots are unchanged, by the contract of `join_group`, and so is its number.
use Rattle.std.proofs.Common.{rules, ℕ, get_or, set, ap, ◌∙◌}
use Rattle.verifier.specs.declared.numbered_facts.NumberedFacts.{NumberedFacts}
use Rattle.verifier.proofs.GroupJoins.{group_changed, group_unchanged}
use Rattle.verifier.proofs.numbered_facts.NumberedFacts.join_other_group.Goals.{then-join_group, else-join_group}
use Rattle.verifier.proofs.numbered_facts.NumberedFacts.join_other_group.Goals as goal

pub returns : goal.returns
returns c =
    let x : NumberedFacts = c.args.self.now in
    let y : NumberedFacts = c.args.edge.now in
    let group : ℕ = c.args.group in
    let number : ℕ = get_or y.numbers group 0 in
    let z : NumberedFacts = record {
      facts = c.if-join_group.self.facts;
      numbers = c.if-join_group.self.numbers;
      includes = set c.if-join_group.self.includes group number;
    } in
    elim c.if-join_group.branch [
      | then-join_group w ↦
          group_changed c.args.fresh group x y z c.requires (search rules) (search rules)
          (ap (λ (s : NumberedFacts). s.facts) w.self-is ∙ c.join_group.ensures.facts)
          (ap (λ (s : NumberedFacts). set s.includes group number) w.self-is)
          (ap (λ (s : NumberedFacts). s.numbers) w.self-is)
      | else-join_group w ↦
          group_unchanged c.args.fresh group x y z c.requires (search rules) (search rules)
          (ap (λ (s : NumberedFacts). s.facts) w.self-is ∙ c.join_group.ensures.facts)
          (ap (λ (s : NumberedFacts). set s.includes group number) w.self-is)
          (ap (λ (s : NumberedFacts). s.numbers) w.self-is)
          (ap (λ (s : NumberedFacts). s.facts.slots) w.self-is ∙ c.join_group.ensures.stack w.if-join_group.false)
    ]
