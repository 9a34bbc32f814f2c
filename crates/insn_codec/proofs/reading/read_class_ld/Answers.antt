-- The fault of a wide load's second slot is that of its opcode.
use Rattle.std.proofs.Common.{◌≡◌, true, Some, Option, refl, ap, ◌∙◌, rules}
use Rattle.std.proofs.lemmas.Result.{err_from_is_err_and}
use Rattle.insn_set.specs.Slot.{fields}
use Rattle.insn_codec.specs.inside.OpcodeForm.{OpcodeForm, Wide}
use Rattle.insn_codec.specs.inside.Form.{form_at, fields_allowed}
use Rattle.insn_codec.specs.inside.FirstFault.{fault_by_form}
use Rattle.insn_codec.proofs.FirstFault.{fault_by_second}
use Rattle.insn_codec.proofs.reading.read_class_ld.Goals as goal

at_wide : form_at 0x18 ≡ Some Wide
unfolding form_at
at_wide = refl

pub returns-in_err-next-clause-fault : goal.returns-in_err-next-clause-fault
returns-in_err-next-clause-fault c =
    let p = err_from_is_err_and c.from_residual-in_err-next.result c.from_residual-in_err-next.ensures.1 in
    let s = fields c.args.slot.now in
    let ok : fields_allowed Wide s ≡ true = search rules in
    let form : form_at c.args.slot.now.opcode ≡ Some Wide = ap form_at c.if-slot-ne24.false ∙ at_wide in
    let seen =
    fault_by_second Wide s s c.args.rest.now c.in_err-next.field-0.0 refl ok c.in_ok-check_fields.ensures.dst
    c.in_ok-check_fields.ensures.src c.in_err-next.ensures.fault in
    rw (p.1, p.2) (ap (λ (o : Option OpcodeForm). fault_by_form o s c.args.rest.now) form ∙ seen)
