-- `part_of_birth`: after the creation, a program has no part, and a map a piece of its keys if the piece's first key exists. A saturated
-- product is above the number of keys, by `small` of `key_count`.
use Rattle.std.proofs.Common.{sym, ap, ◌∙◌}
use Rattle.std.specs.Prelude.{slice_get}
use Rattle.tenant.specs.Kept.{state_in}
use Rattle.saving.specs.Births.{Birth, OfMap}
use Rattle.saving.specs.SaveParts.{birth_parts}
use Rattle.saving.proofs.PartAt.{after_one, key_part, no_key_part, no_program_part}
use Rattle.saving.proofs.save_parts.part_of_birth.Goals as goal

pub returns-in_default-birth : goal.returns-in_default-birth
returns-in_default-birth c = λ part.
    sym (no_program_part (state_in part c.args.tenant.now) c.args.birth c.args.index c.in-Some.piece
    c.in_default-birth.field-0 c.in_default-birth.is (after_one c.args.index c.in-Some.piece c.in-Some.ensures))

pub returns-then-first-key_count : goal.returns-then-first-key_count
returns-then-first-key_count c = λ part.
    let s = state_in part c.args.tenant.now in
    sym (ap (λ (b : Birth). slice_get (birth_parts s b) c.args.index) c.in-OfMap.is
    ∙ key_part s (OfMap c.in-OfMap.map c.in-OfMap.fd) c.args.index c.in-Some.piece c.saturating_mul-first.result
    c.key_count.result (after_one c.args.index c.in-Some.piece c.in-Some.ensures) c.saturating_mul-first.ensures
    (c.key_count.ensures.count part) c.key_count.ensures.small c.if-first-key_count.true)

pub returns-else-first-key_count : goal.returns-else-first-key_count
returns-else-first-key_count c = λ part.
    let s = state_in part c.args.tenant.now in
    sym (ap (λ (b : Birth). slice_get (birth_parts s b) c.args.index) c.in-OfMap.is
    ∙ no_key_part s (OfMap c.in-OfMap.map c.in-OfMap.fd) c.args.index c.in-Some.piece c.saturating_mul-first.result
    c.key_count.result (after_one c.args.index c.in-Some.piece c.in-Some.ensures) c.saturating_mul-first.ensures
    (c.key_count.ensures.count part) c.key_count.ensures.small c.if-first-key_count.false)
