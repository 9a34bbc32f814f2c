-- Entries of boxed facts, as a list of facts.
use Rattle.std.proofs.Common.{◌≡◌, ℕ, zero, suc, ◌<◌, List, [], ◌∷◌, ◌++◌, length, get_or, set, get_or-set_same}
use Rattle.std.proofs.Common.{get_or-set_other, arith, false, Option, Some, None, refl, sym, ap, ◌∙◌, subst, Box, Global}
use Rattle.std.specs.Prelude.{map, option_map, box_value}
use Rattle.std.specs.Option.{is_some}
use Rattle.std.proofs.lemmas.Bool.{false≢true}
use Rattle.std.proofs.lemmas.List.{map-set, get_or-map, length-map}
use Rattle.verifier.specs.declared.numbered_facts.NumberedFacts.{NumberedFacts}
use Rattle.verifier.specs.inside.Numbers.{entry_of, IsJoinedBy, IsJoinedIf, IsTaken, IsPut}

abbrev pub seen : List (Option (Box NumberedFacts Global)) → List (Option NumberedFacts)
seen es = map (option_map box_value) es

-- an entry changed
pub seen_with : (es : List (Option (Box NumberedFacts Global))) (kept : List (Option NumberedFacts))
    (i : ℕ) (new : Option (Box NumberedFacts Global)) (facts : Option NumberedFacts)
    → seen es ≡ kept → option_map box_value new ≡ facts
    → seen (set es i new) ≡ set kept i facts
seen_with es kept i new facts is value =
    map-set (option_map box_value) es i new
    ∙ ap (λ (fs : List (Option NumberedFacts)). set fs i (option_map box_value new)) is
    ∙ ap (λ o. set kept i o) value

-- an entry that is read
pub seen_at : (es : List (Option (Box NumberedFacts Global))) (kept : List (Option NumberedFacts))
    (i : ℕ) (e : Option (Box NumberedFacts Global))
    → seen es ≡ kept → i < length kept
    → e ≡ get_or es i e
    → option_map box_value e ≡ get_or kept i None
seen_at es kept i e is within here =
    let long : length kept ≡ length es = sym (ap length is) ∙ length-map es (option_map box_value) in
    ap (option_map box_value) here
    ∙ sym (get_or-map (option_map box_value) es i e None (subst (λ (n : ℕ). i < n) long within))
    ∙ ap (λ (fs : List (Option NumberedFacts)). get_or fs i None) is

absent : (e : Option (Box NumberedFacts Global)) → is_some e ≡ false → option_map box_value e ≡ None
absent None empty = refl
absent (Some index) empty = absurd (false≢true (sym empty))

-- an entry is taken
pub taken_some : (slot fresh : ℕ) (es : List (Option (Box NumberedFacts Global)))
    (entries after : List (Option NumberedFacts)) (e left : Option (Box NumberedFacts Global))
    (y : NumberedFacts) (known here : Option NumberedFacts)
    → seen es ≡ entries → slot < length es
    → e ≡ get_or es slot e → option_map box_value e ≡ Some y
    → seen (set es slot left) ≡ after → IsJoinedBy fresh known y here
    → IsTaken slot fresh entries after known here
taken_some slot fresh es entries after e left y known here is within there value new joins =
    let inside : slot < length entries =
    subst (λ (n : ℕ). slot < n) (sym (length-map es (option_map box_value)) ∙ ap length is) within in
    let entry : Some y ≡ entry_of slot entries = sym value ∙ seen_at es entries slot e is inside there in (
      subst (λ (o : Option NumberedFacts). IsJoinedIf fresh known o here) entry joins,
      λ i above.
          sym (ap (entry_of i) new)
          ∙ ap (entry_of i) (seen_with es entries slot left (option_map box_value left) is refl)
          ∙ get_or-set_other entries slot i (option_map box_value left) None (omega (arith, above)),
    )

-- facts are joined into an entry
pub put_is : (slot fresh : ℕ) (y : NumberedFacts) (es : List (Option (Box NumberedFacts Global)))
    (kept : List (Option NumberedFacts)) (e new : Option (Box NumberedFacts Global))
    → seen es ≡ kept → slot < length kept
    → e ≡ get_or es slot e
    → IsJoinedBy fresh (option_map box_value e) y (option_map box_value new)
    → IsPut slot fresh y kept (seen (set es slot new))
put_is slot fresh y es kept e new is within there joins =
    let was : option_map box_value e ≡ entry_of slot kept = seen_at es kept slot e is within there in
    let after : seen (set es slot new) ≡ set kept slot (option_map box_value new) =
    seen_with es kept slot new (option_map box_value new) is refl in
    let here : entry_of slot (seen (set es slot new)) ≡ option_map box_value new =
    ap (entry_of slot) after ∙ get_or-set_same kept slot (option_map box_value new) None within in (
      subst (λ (o : Option NumberedFacts). IsJoinedBy fresh o y (entry_of slot (seen (set es slot new)))) was
          (subst (λ (o : Option NumberedFacts). IsJoinedBy fresh (option_map box_value e) y o) (sym here) joins),
      λ i other. ap (entry_of i) after ∙ get_or-set_other kept slot i (option_map box_value new) None other,
    )

-- the same, if the list first gets more empty entries
pub put_after : (slot fresh : ℕ) (y : NumberedFacts) (old middle new : List (Option NumberedFacts))
    → ((i : ℕ) → entry_of i middle ≡ entry_of i old)
    → IsPut slot fresh y middle new
    → IsPut slot fresh y old new
put_after slot fresh y old middle new same put = (
  subst (λ (o : Option NumberedFacts). IsJoinedBy fresh o y (entry_of slot new)) (same slot) put.0,
  λ i other. put.1 i other ∙ same i,
)

-- an empty entry at the end is the same as no entry
pub pushed_none : (es : List (Option (Box NumberedFacts Global))) (i : ℕ)
    → entry_of i (seen (es ++ None ∷ [])) ≡ entry_of i (seen es)
pushed_none [] zero = refl
pushed_none [] (suc i) = refl
pushed_none (e ∷ es) zero = refl
pushed_none (e ∷ es) (suc i) = pushed_none es i
