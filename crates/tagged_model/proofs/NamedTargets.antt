-- The target of a descriptor in the rest of a list of descriptors.
use Rattle.std.proofs.Common.{◌≡◌, ℕ, suc, ◌+◌, ◌<◌, ◌≤◌, List, [], ◌∷◌, length, get_or, drop, Some, None, refl, sym, ap, ◌∙◌, add-one}
use Rattle.std.proofs.Math.Seq.{drop-cons}
use Rattle.std.proofs.Math.ListN.{drop_of_length-le}
use Rattle.std.proofs.lemmas.Bool.{cond-true, cond-false, eq-eqb, ne_eqb}
use Rattle.tagged_model.specs.declared.shape.Named.{Named}
use Rattle.tagged_model.specs.Named.{target_of}

front_is : (n : Named) (ns : List Named) (fd : ℕ) → n.fd ≡ fd → target_of (n ∷ ns) fd ≡ Some n.target
unfolding target_of
front_is n ns fd same = cond-true _ _ _ (eq-eqb n.fd fd same)

front_is_not : (n : Named) (ns : List Named) (fd : ℕ) → (n.fd ≡ fd → ⊥) → target_of (n ∷ ns) fd ≡ target_of ns fd
unfolding target_of
front_is_not n ns fd other = cond-false _ _ _ (ne_eqb n.fd fd other)

none_left : (fd : ℕ) → target_of [] fd ≡ None
unfolding target_of
none_left fd = refl

parts : (ns : List Named) (i : ℕ) (n : Named) → i < length ns → n ≡ get_or ns i n → drop i ns ≡ n ∷ drop (i + 1) ns
parts ns i n within is =
    drop-cons ns i n within
    ∙ ap (λ (m : Named). m ∷ drop (suc i) ns) (sym is)
    ∙ ap (λ (k : ℕ). n ∷ drop k ns) (sym (add-one i))

-- if the first entry of the rest of a list has the descriptor, the descriptor names its target in the rest
pub found_here : (ns : List Named) (i : ℕ) (n : Named) (fd : ℕ)
    → i < length ns → n ≡ get_or ns i n
    → n.fd ≡ fd
    → target_of (drop i ns) fd ≡ Some n.target
found_here ns i n fd within is same =
    ap (λ (ms : List Named). target_of ms fd) (parts ns i n within is) ∙ front_is n (drop (i + 1) ns) fd same

-- an entry with another descriptor does not change what a descriptor names in the rest of a list
pub found_later : (ns : List Named) (i : ℕ) (n : Named) (fd : ℕ)
    → i < length ns → n ≡ get_or ns i n
    → (n.fd ≡ fd → ⊥)
    → target_of (drop i ns) fd ≡ target_of (drop (i + 1) ns) fd
found_later ns i n fd within is other =
    ap (λ (ms : List Named). target_of ms fd) (parts ns i n within is) ∙ front_is_not n (drop (i + 1) ns) fd other

-- past the end of a list a descriptor names nothing
pub found_nowhere : (ns : List Named) (i : ℕ) (fd : ℕ) → length ns ≤ i → target_of (drop i ns) fd ≡ None
found_nowhere ns i fd past = ap (λ (ms : List Named). target_of ms fd) (drop_of_length-le ns past) ∙ none_left fd
