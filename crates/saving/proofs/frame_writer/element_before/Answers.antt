-- `element_before`: each turn skips one entry more, by the contract of `map_entry` (`skip_one`); if no entry follows, none is left either
-- after all `count` are skipped (`all_skipped`).
use Rattle.std.proofs.Common.{option_map, sym, ap, ◌∙◌, arith}
use Rattle.tenant.specs.Entry.{numbered_entries, lent_entry}
use Rattle.saving.proofs.SaveSteps.{skip_one, all_skipped}
use Rattle.saving.proofs.frame_writer.element_before.Goals as goal

pub loop-preserved : goal.loop-preserved
loop-preserved c =
    skip_one (numbered_entries c.args.part.now c.args.tenant.now.live c.args.map) c.loop.before
    (lent_entry c.in-Some.entry) c.loop.counter c.map_entry.ensures.once
    (ap (option_map lent_entry) (sym c.in-Some.is) ∙ c.map_entry.ensures.entry c.requires.whole)
    c.loop.invariant

pub returns-in_default : goal.returns-in_default
returns-in_default c =
    all_skipped (numbered_entries c.args.part.now c.args.tenant.now.live c.args.map) c.loop.before
    c.loop.counter c.args.count
    (ap (option_map lent_entry) (sym c.in_default.is) ∙ c.map_entry.ensures.entry c.requires.whole)
    (omega arith) c.loop.invariant
