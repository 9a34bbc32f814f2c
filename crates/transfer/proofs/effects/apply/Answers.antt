-- `apply`: the load of a direct value is rejected for the reason for which `value_of` rejects it, by that function's contract.
use Rattle.std.proofs.Common.{rules, ◌≡◌, ℕ, Err, sym, ap, ◌∙◌}
use Rattle.std.proofs.lemmas.Result.{err_from_is_err_and}
use Rattle.insn_set.specs.declared.insn.Insn.{Insn}
use Rattle.words.specs.Words.{unsigned}
use Rattle.tagged_model.specs.Named.{shapes_named}
use Rattle.transfer.specs.Effects.{assigns, value_of, effect}
use Rattle.transfer.proofs.effects.apply.Goals as goal

-- if the map has no direct value, its reason is returned
pub returns-in_err-pointer-in-MapValue-clause-refused :
    goal.returns-in_err-pointer-in-MapValue-clause-refused
returns-in_err-pointer-in-MapValue-clause-refused c =
    let p =
    err_from_is_err_and c.from_residual-in_err-pointer-in-MapValue.result
    c.from_residual-in_err-pointer-in-MapValue.ensures.1 in
    let shapes = shapes_named c.args.named.now in
    let m = unsigned 32 c.in-MapValue.fd in
    let off = c.in-MapValue.off in
    let same : c.cast_unsigned-in-MapValue.result ≡ m = search rules in
    let seen : value_of m off (shapes m) ≡ Err c.in_err-pointer-in-MapValue.field-0.0 =
    ap (λ (n : ℕ). value_of n off (shapes n)) (sym same) ∙ sym c.value_of.ensures ∙ c.in_err-pointer-in-MapValue.was in
    rw (p.1, p.2)
    (ap (λ (i : Insn). effect shapes c.args.slot i c.args.facts.now) c.in-MapValue.is
    ∙ ap (assigns c.args.facts.now c.in-MapValue.dst) seen)
