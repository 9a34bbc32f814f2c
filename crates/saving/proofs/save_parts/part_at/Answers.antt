-- `part_at`: the result has the commands of the part at the index. By the loop's invariant this is the part `left` of the births that are
-- left: `part_of_birth` finds it in the first one, or it has at most `left` parts, whose number (`count_of_parts`) is subtracted from
-- `left`. After the last birth comes one part, which closes descriptors.
use Rattle.std.proofs.Common.{◌+◌, [], drop, sym, ap, ◌∙◌, arith}
use Rattle.std.specs.Prelude.{slice_get, option_map}
use Rattle.std.proofs.Math.ListN.{drop_of_length-le}
use Rattle.tenant.specs.Kept.{state_in}
use Rattle.saving.specs.SaveParts.{birth_parts}
use Rattle.saving.specs.inside.PartCommands.{part_commands, ordered_parts}
use Rattle.saving.proofs.Pieces.{get_none}
use Rattle.saving.proofs.PartAt.{after_one, first_left, part_found, birth_passed, last_part, no_part}
use Rattle.saving.proofs.save_parts.part_at.Goals as goal

pub loop-birth-preserved : goal.loop-birth-preserved
loop-birth-preserved c = λ part.
    let s = state_in part c.args.tenant.now in
    let births = drop c.loop-birth.birth-index c.args.births.now in
    sym (birth_passed s births (drop (c.loop-birth.birth-index + 1) c.args.births.now) c.birth-item.result
    c.loop-birth.left c.count_of_parts-left.result
    (first_left c.args.births.now c.loop-birth.birth-index c.birth-item.result c.loop-birth-test.true c.birth-item.is)
    (c.count_of_parts-left.ensures part)
    (sym (ap (option_map (part_commands s)) (sym c.in-None.is) ∙ c.part_of_birth.ensures part)))
    ∙ c.loop-birth.invariant part

pub overflow_sub-left : goal.overflow_sub-left
overflow_sub-left c =
    let s = state_in [] c.args.tenant.now in
    let few =
    get_none (birth_parts s c.birth-item.result) c.loop-birth.left
    (sym (ap (option_map (part_commands s)) (sym c.in-None.is) ∙ c.part_of_birth.ensures [])) in
    let count = c.count_of_parts-left.ensures [] in
    omega (arith, few, count)

pub returns-in-Some-part_of_birth : goal.returns-in-Some-part_of_birth
returns-in-Some-part_of_birth c = λ part.
    let s = state_in part c.args.tenant.now in
    let births = drop c.loop-birth.birth-index c.args.births.now in
    sym (part_found s births (drop (c.loop-birth.birth-index + 1) c.args.births.now) c.birth-item.result
    c.loop-birth.left (part_commands s c.in-Some-part_of_birth.part)
    (first_left c.args.births.now c.loop-birth.birth-index c.birth-item.result c.loop-birth-test.true c.birth-item.is)
    (sym (ap (option_map (part_commands s)) (sym c.in-Some-part_of_birth.is) ∙ c.part_of_birth.ensures part)))
    ∙ c.loop-birth.invariant part
    ∙ ap (slice_get (ordered_parts (state_in part c.args.tenant.now) c.args.births.now))
    (sym (after_one c.args.index c.in-Some.left c.in-Some.ensures))

pub returns-then-left-eq0 : goal.returns-then-left-eq0
returns-then-left-eq0 c = λ part.
    sym (last_part (state_in part c.args.tenant.now) (drop c.loop-birth.birth-index c.args.births.now) c.loop-birth.left
    (drop_of_length-le c.args.births.now (omega arith)) c.if-left-eq0.true)
    ∙ c.loop-birth.invariant part
    ∙ ap (slice_get (ordered_parts (state_in part c.args.tenant.now) c.args.births.now))
    (sym (after_one c.args.index c.in-Some.left c.in-Some.ensures))

pub returns-else-left-eq0 : goal.returns-else-left-eq0
returns-else-left-eq0 c = λ part.
    sym (no_part (state_in part c.args.tenant.now) (drop c.loop-birth.birth-index c.args.births.now) c.loop-birth.left
    (drop_of_length-le c.args.births.now (omega arith)) (omega arith))
    ∙ c.loop-birth.invariant part
    ∙ ap (slice_get (ordered_parts (state_in part c.args.tenant.now) c.args.births.now))
    (sym (after_one c.args.index c.in-Some.left c.in-Some.ensures))
