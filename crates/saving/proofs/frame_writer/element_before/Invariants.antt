-- The keys that were passed are skipped.
use Rattle.std.proofs.Common.{◌≡◌, drop}
use Rattle.tenant.specs.Entry.{numbered_entries}
use Rattle.saving.specs.inside.Puts.{rest_after}
use Rattle.saving.proofs.frame_writer.element_before.Given as goal

abbrev pub invariant-loop : goal.invariant-loop
invariant-loop l =
    rest_after l.before (numbered_entries l.part l.tenant.live l.map)
    ≡ drop l.counter (numbered_entries l.part l.tenant.live l.map)
