-- `join` of `NumberedFacts`: the registers are joined first, by the contract of `join_registers`, and then one group of stack slots after
-- another, by that of `join_stack_group`; after all groups this is the join of all facts (`all_joined`).
use Rattle.std.proofs.Common.{rules, ◌≡◌, ℕ, refl, sym, subst, arith}
use Rattle.verifier.specs.declared.numbered_facts.NumberedFacts.{NumberedFacts}
use Rattle.verifier.specs.inside.Numbers.{IsJoinedBelow}
use Rattle.verifier.proofs.GroupJoins.{none_joined, one_joined, all_joined}
use Rattle.verifier.proofs.numbered_facts.NumberedFacts.join.Goals as goal

pub loop-group-init : goal.loop-group-init
loop-group-init c =
    let x : NumberedFacts = c.args.self.now in
    none_joined c.args.fresh x c.args.edge.now
    (record { facts = c.join_registers.new.facts; numbers = x.numbers; includes = x.includes })
    c.join_registers.ensures refl refl (search rules)

pub loop-group-preserved : goal.loop-group-preserved
loop-group-preserved c =
    one_joined c.args.fresh c.loop-group.group c.args.self.now c.args.edge.now c.loop-group.self
    c.join_stack_group.new.self c.loop-group.invariant c.join_stack_group.ensures

pub returns : goal.returns
returns c =
    let all : 8 ≡ c.loop-group.group = omega arith in
    let below =
    subst (λ (n : ℕ). IsJoinedBelow c.args.fresh n c.args.self.now c.args.edge.now c.loop-group.self)
    (sym all) c.loop-group.invariant in
    all_joined c.args.fresh c.args.self.now c.args.edge.now c.loop-group.self below c.facts_have_all_slots.ensures
