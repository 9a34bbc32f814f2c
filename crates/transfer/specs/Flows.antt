-- The edges out of an instruction, with their facts, from what `apply` returns (a `Flow`: the edges
-- that control may take, with what holds on only one) and from the facts that it has changed, which
-- hold on all. This project's own.
use Rattle.std.specs.Prelude.{Some, None, option_map}
use Rattle.reg_kinds.specs.declared.facts.Facts.{Facts}
use Rattle.transfer.specs.declared.branches.Flow.{Flow}
use Rattle.transfer.specs.declared.branches.Flow.TheVariants.{Ends, Falls, WritesSlot, Writes, Jumps, Either, Compares, Settles}
use Rattle.reg_kinds.specs.Stack.{ChangesAtMost}
use Rattle.transfer.specs.Branches.{Edges, with_pair, settled_edges}

-- the edges out of an instruction with this flow, each with its facts; None for an edge that
-- control can't take. The flow and the facts f are what `apply`, the transfer function, gives for
-- the instruction: f holds on each of its edges. Ends has no edge. Falls, WritesSlot and Writes
-- have only the falling edge, with f; it makes no difference here which stack slots may have
-- changed (slot i, or any). Jumps has only the jumping edge, Either has both, with f. Compares is a
-- comparison of register dst with src. For each edge it has None, or the ranges of the two numbers
-- on this edge, which are put into f (`with_pair`); a constant src has no range in f. Settles is a
-- null test, which settles the look-up at slot `site` on both edges: the jump is taken if the
-- result is null (`jumps_on_null` is true), or if it is not (false)
abbrev pub edges_of : Flow → Facts → Edges
edges_of Ends f = record { falling = None; jumping = None }
edges_of Falls f = record { falling = Some f; jumping = None }
edges_of (WritesSlot i) f = record { falling = Some f; jumping = None }
edges_of Writes f = record { falling = Some f; jumping = None }
edges_of Jumps f = record { falling = None; jumping = Some f }
edges_of Either f = record { falling = Some f; jumping = Some f }
edges_of (Compares dst src falls jumps) f =
    record {
      falling = option_map (with_pair f dst src) falls;
      jumping = option_map (with_pair f dst src) jumps;
    }
edges_of (Settles site jumps_on_null) f = settled_edges jumps_on_null site f

-- the stack slots of f and g, the facts before and after `apply` on an instruction, differ at most
-- as the instruction's flow, the first argument, allows (`ChangesAtMost`): for `WritesSlot i` in
-- stack slot i, and i is less than `stack_slots`, the number of stack slots; for `Writes` in any;
-- for every other flow in none. A null test changes slots only on its edges (`edges_of`), not in g.
-- So the verifier learns from the flow which slots may have changed
abbrev pub KeepsStack : Flow → Facts → Facts → Type 0
KeepsStack (WritesSlot i) f g = ChangesAtMost (Some i) f g
KeepsStack Writes f g = Unit {0}
KeepsStack flow f g = ChangesAtMost None f g
