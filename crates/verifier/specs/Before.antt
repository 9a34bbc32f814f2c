-- The facts before each slot: at slot 0 those at entry, else the join of those on all edges that
-- lead there. Jumps lead only forward, so the facts before a slot depend on the slots below it.
-- This project's own.
use Rattle.std.specs.Prelude.{ℕ, zero, suc, ◌==◌, Bool, List, Option, Some, None, Result, Ok, Err, if◌then◌else◌}
use Rattle.insn_set.specs.declared.insn.Insn.{Insn}
use Rattle.insn_set.specs.Program.{begins_at}
use Rattle.reg_kinds.specs.declared.facts.Facts.{Facts}
use Rattle.reg_kinds.specs.declared.reason.Reason.{Reason}
use Rattle.reg_kinds.specs.Join.{facts_join}
use Rattle.reg_kinds.specs.Kinds.{entry}
use Rattle.tagged_model.specs.Cells.{and_then}
use Rattle.tagged_model.specs.Named.{Shapes}
use Rattle.transfer.specs.Branches.{Edges}
use Rattle.transfer.specs.Effects.{effect}
use Rattle.verifier.specs.Shape.{falls_into, jumps_into}

-- the facts before a slot by two sources together. A source is some edges of the program, its entry
-- (which leads only to slot 0), or both. Each argument has the facts that one source brings to the
-- slot: None if the source has no edge that leads to the slot and can be taken, and no entry that
-- leads there. If one is None, the result is the other; if both have facts, it is their join
-- (`facts_join`)
abbrev pub joined : Option Facts → Option Facts → Option Facts
joined None g = g
joined (Some f) None = Some f
joined (Some f) (Some g) = Some (facts_join f g)

-- the facts on an edge if it leads to the slot in question (true), else none
abbrev pub only_if : Bool → Option Facts → Option Facts
only_if leads f = if leads then f else None

-- the join of the facts that an instruction at slot n passes on to slot i along its edges; one that
-- may not be run has no edges
abbrev pub edges_into : Insn → ℕ → ℕ → Result Edges Reason → Option Facts
edges_into insn n i (Err reason) = None
edges_into insn n i (Ok edges) =
    joined (only_if (falls_into insn n i) edges.falling)
    (only_if (jumps_into insn n i) edges.jumping)

-- the facts that slot n passes on to slot i, from those before slot n (`known`); None if there are
-- none before slot n, or no edge that can be taken leads from it to slot i
abbrev pub facts_sent : Shapes → List Insn → ℕ → ℕ → Option Facts → Option Facts
facts_sent shapes code n i known =
    and_then known
    (λ f. and_then (begins_at code n) (λ insn. edges_into insn n i (effect shapes n insn f)))

-- the join of the facts that the slots below n pass on to slot i, and of those at entry if i is 0;
-- None if there are none
unfoldable pub facts_from_below : Shapes → List Insn → ℕ → ℕ → Option Facts
facts_from_below shapes code i zero = if i == 0 then Some entry else None
facts_from_below shapes code i (suc n) =
    joined (facts_from_below shapes code i n)
    (facts_sent shapes code n i (facts_from_below shapes code n n))

-- the facts before slot i; None if no edge that can be taken leads there
abbrev pub facts_before : Shapes → List Insn → ℕ → Option Facts
facts_before shapes code i = facts_from_below shapes code i i
