-- `join_at`: the facts of the slot's entry are joined into `known`, by the contract of `join`; the entries of later slots are unchanged, as
-- only this entry is taken.
use Rattle.std.proofs.Common.{Some, refl, sym, ap, ◌∙◌, arith}
use Rattle.verifier.specs.declared.numbered_facts.NumberedFacts.{NumberedFacts}
use Rattle.std.specs.Prelude.{option_map, box_value}
use Rattle.verifier.proofs.EntryLists.{taken_some}
use Rattle.verifier.proofs.target_facts.TargetFacts.join_at.Goals as goal

pub returns-in_ok-keep : goal.returns-in_ok-keep
returns-in_ok-keep c =
    taken_some c.args.slot c.args.fresh c.self.inside.facts.items c.args.self.now _
    c.index_mut.result.now c.take.new.self c.deref.result.now
    c.args.known.now c.join.new.self
    c.self.view_is (omega (arith, c.len.ensures)) c.index_mut.ensures.value
    (ap (option_map box_value) (sym c.take.ensures.value ∙ c.in-Some.is)
    ∙ ap (λ (z : NumberedFacts). Some z) (sym c.deref.ensures))
    refl c.join.ensures
