-- The facts during a forward pass over the slots (dataflow analysis: facts are propagated along
-- each edge, and joined if edges meet). This project's own.
use Rattle.std.specs.Prelude.{◌≡◌, ℕ, List, Option}
use Rattle.reg_kinds.specs.declared.facts.Facts.{Facts}
use Rattle.verifier.specs.declared.pass.Pass.{Pass}
use Rattle.verifier.specs.Before.{joined, only_if}
use Rattle.insn_set.specs.Flow.{is_number}
use Rattle.verifier.specs.declared.numbered_facts.NumberedFacts.{NumberedFacts}
use Rattle.verifier.specs.inside.Numbers.{facts_on, entry_of}

-- the join of the facts on the jumps to a slot so far; None if there are none
abbrev pub brought_to : ℕ → List (Option NumberedFacts) → Option Facts
brought_to slot entries = facts_on (entry_of slot entries)

-- one jump changes the facts on the jumps to slot i from those in `old` to those in `new`: if i is
-- its target, its facts (`facts`) are joined into them; if i is not, or if the target or `facts` is
-- None, they are unchanged
abbrev pub Brings : Option ℕ → Option Facts → List (Option NumberedFacts)
    → List (Option NumberedFacts) → ℕ → Type 0
Brings target facts old new i =
    brought_to i new ≡ joined (brought_to i old) (only_if (is_number target i) facts)

-- the facts that arrive at a slot at which an instruction begins: the join of those on the falling
-- edge into it and on the jumps to it; None if there are none
abbrev pub arriving_at : ℕ → Pass → Option Facts
arriving_at slot pass = joined (facts_on pass.falling) (brought_to slot pass.entries)
