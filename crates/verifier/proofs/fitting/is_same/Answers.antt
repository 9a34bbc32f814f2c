-- `is_same`: `==` on shapes is equality. Two shapes that are equal by it have equal kinds and numbers, and so are equal, as the proof
-- that these form a shape is unique; and each shape is equal to itself by it.
use Rattle.std.proofs.Common.{◌≡◌, ℕ, Bool, true, false, ◌&&◌, Option, Some, None, IsTrue, refl, sym, ap, subst, ◌∙◌}
use Rattle.std.specs.Option.{option_eq}
use Rattle.std.proofs.Props.{props}
use Rattle.std.proofs.lemmas.Bool.{and_parts, eqb-true, eq-eqb, true≢false}
use Rattle.tagged_model.specs.Shape.{is_shape}
use Rattle.tagged_model.specs.declared.shape.MapKind.{MapKind}
use Rattle.tagged_model.specs.declared.shape.MapKind.TheVariants.{Hash, Array}
use Rattle.tagged_model.specs.declared.shape.MapShape.{MapShape}
use Rattle.tagged_model.specs.contracts.shape.MapKindPartialEq.TheImpl as kind
use Rattle.tagged_model.specs.contracts.shape.MapShapePartialEq.TheImpl as shape
use Rattle.verifier.proofs.fitting.is_same.Goals as goal

IsTrue-prop : (b : Bool) → IsProp (IsTrue b)
IsTrue-prop b = hlevel props

same_kind : (a b : MapKind) → kind.eq-value.it a b ≡ true → a ≡ b
same_kind Hash Hash e = refl
same_kind Array Array e = refl
same_kind Hash Array e = absurd (true≢false (sym e))
same_kind Array Hash e = absurd (true≢false (sym e))

own_kind : (a : MapKind) → kind.eq-value.it a a ≡ true
own_kind Hash = refl
own_kind Array = refl

both : (x y : Bool) → x ≡ true → y ≡ true → (x && y) ≡ true
both true true a b = refl
both true false a b = b
both false y a b = a

abbrev Fields : Type 0
Fields = MapKind × (ℕ × (ℕ × ℕ))

same_fields : (k l : MapKind) (a b c d e f : ℕ)
    → k ≡ l → a ≡ b
    → c ≡ d → e ≡ f
    → ◌≡◌ {A = Fields} (k, (a, (c, e))) (l, (b, (d, f)))
same_fields k l a b c d e f p q r s = cc

same_shape : (s t : MapShape) → shape.eq-value.it s t ≡ true → s ≡ t
same_shape s t e =
    let first = and_parts _ _ e in
    let second = and_parts _ _ first.1 in
    let third = and_parts _ _ second.1 in
    let all = same_fields s.kind t.kind s.key_size t.key_size s.value_size t.value_size s.max_entries t.max_entries
    (same_kind s.kind t.kind first.0) (eqb-true s.key_size t.key_size second.0)
    (eqb-true s.value_size t.value_size third.0) (eqb-true s.max_entries t.max_entries third.1) in
    subst (λ (f : Fields).
    (h : IsTrue (is_shape f.0 f.1.0 f.1.1.0 f.1.1.1))
    → record { kind = f.0; key_size = f.1.0; value_size = f.1.1.0; max_entries = f.1.1.1; listed = h } ≡ t)
    (sym all)
    (λ h.
    ap (λ (i : IsTrue (is_shape t.kind t.key_size t.value_size t.max_entries)).
    record { kind = t.kind; key_size = t.key_size; value_size = t.value_size; max_entries = t.max_entries; listed = i })
    (IsTrue-prop (is_shape t.kind t.key_size t.value_size t.max_entries) h t.listed)) s.listed

own_shape : (s : MapShape) → shape.eq-value.it s s ≡ true
own_shape s =
    both _ _ (own_kind s.kind)
    (both _ _ (eq-eqb s.key_size s.key_size refl)
    (both _ _ (eq-eqb s.value_size s.value_size refl) (eq-eqb s.max_entries s.max_entries refl)))

same : (a b : Option MapShape) → option_eq shape.eq-value.it a b ≡ true → a ≡ b
same None None e = refl
same None (Some t) e = absurd (true≢false (sym e))
same (Some s) None e = absurd (true≢false (sym e))
same (Some s) (Some t) e = ap (λ (x : MapShape). Some x) (same_shape s t e)

own : (a : Option MapShape) → option_eq shape.eq-value.it a a ≡ true
own None = refl
own (Some s) = own_shape s

pub returns : goal.returns
returns c = (
  λ yes. same c.args.one c.args.other (sym c.eq.ensures ∙ yes),
  λ is.
      c.eq.ensures
      ∙ subst (λ (o : Option MapShape). option_eq shape.eq-value.it c.args.one o ≡ true) is (own c.args.one),
)
