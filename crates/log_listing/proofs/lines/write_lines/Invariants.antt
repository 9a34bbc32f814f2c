-- The text is whole lines: it is empty, or ends with a line feed.
use Rattle.std.proofs.Common.{string_bytes}
use Rattle.log_facts.specs.Said.{AreLines}
use Rattle.log_listing.proofs.lines.write_lines.Given as goal

abbrev pub invariant-loop-slot : goal.invariant-loop-slot
invariant-loop-slot l = AreLines (string_bytes l.text)
