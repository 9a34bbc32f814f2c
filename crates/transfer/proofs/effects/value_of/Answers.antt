-- `value_of`: if the map has a direct value at the offset, the kind is a pointer to it. By the contract of `has_direct_value` the offset is
-- so small that it is unchanged as a signed number.
use Rattle.std.proofs.Common.{◌≡◌, ◌<◌, ℤ, pos, true, Some, Ok, w32, FitsSigned, to_z, of_z, sym, ap, ◌∙◌, arith}
use Rattle.std.proofs.lemmas.Bool.{cond-true}
use Rattle.std.proofs.lemmas.Int.{to_z-of_z}
use Rattle.reg_kinds.specs.declared.kind.ValuePointer.{ValuePointer}
use Rattle.reg_kinds.specs.declared.kind.Kind.TheVariants.{Value}
use Rattle.reg_kinds.specs.Pointers.{value_span}
use Rattle.tagged_model.specs.Named.{shapes_named}
use Rattle.tagged_model.specs.Table.{has_direct_value}
use Rattle.transfer.specs.Effects.{value_of}
use Rattle.transfer.proofs.effects.value_of.Goals as goal

pub returns : goal.returns
unfolding value_of
returns c =
    let fd = c.args.descriptor in
    let offset = c.args.offset in
    let shape = c.in-Some.shape in
    let at = c.signed_offset-at.result in
    let small : offset < 4096 = c.has_direct_value.ensures.bound c.if-not-has_direct_value.false in
    let fits : FitsSigned w32 (pos offset) = omega (arith, small) in
    let same : to_z w32 (of_z w32 at) ≡ pos offset =
    ap (λ (z : ℤ). to_z w32 (of_z w32 z)) c.signed_offset-at.ensures ∙ to_z-of_z w32 (pos offset) fits in
    let spanned : c.new.result ≡ value_span fd (pos offset) (pos offset) =
    c.new.ensures ∙ ap (λ (z : ℤ). value_span fd z z) same in
    let has : has_direct_value shape offset ≡ true =
    sym c.has_direct_value.ensures.value ∙ c.if-not-has_direct_value.false in
    let named : shapes_named c.args.named.now fd ≡ Some shape = sym c.shape_of.ensures ∙ c.in-Some.is in
    let seen : value_of fd offset (Some shape) ≡ Ok (Value (value_span fd (pos offset) (pos offset))) =
    cond-true (has_direct_value shape offset) _ _ has in
    ap (λ (p : ValuePointer). Ok (Value p)) spanned ∙ sym (ap (value_of fd offset) named ∙ seen)
