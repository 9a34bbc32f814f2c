-- An array of one element has the value that a program may load without a call.
use Rattle.std.proofs.Common.{◌≡◌, ℕ, ◌<◌, ◌==◌, ◌&&◌, nat_lt, true, List, [], ◌∷◌, Some, refl, ap, ◌∙◌}
use Rattle.std.specs.Map.{keys_of}
use Rattle.std.proofs.lemmas.Bool.{and_parts, cond-true, eqb-true}
use Rattle.tagged_model.specs.declared.shape.MapKind.{MapKind}
use Rattle.tagged_model.specs.declared.shape.MapKind.TheVariants.{Hash, Array}
use Rattle.tagged_model.specs.declared.shape.MapShape.{MapShape}
use Rattle.tagged_model.specs.Table.{is_key, found, index_key, indexed, is_array, has_direct_value, direct_object}
use Rattle.tagged_model.specs.State.{RunMap}
use Rattle.tagged_model.specs.StateInvariant.{KeysHaveObjects, IsMapOf}

array_only : (kind : MapKind) → is_array kind ≡ true → kind ≡ Array
array_only Array e = refl
array_only Hash e = absurd (let z : ⊥ = cc in z)

same_index : is_key (index_key 0) (index_key 0) ≡ true
unfolding index_key
same_index = refl

one_index : keys_of (indexed (λ (i : ℕ). i) 0 1) ≡ index_key 0 ∷ []
unfolding indexed
one_index = refl

-- if index 0 is the only key, it has an object
first_found : (count : ℕ) (es : List (List ℕ × ℕ))
    → keys_of es ≡ index_key 0 ∷ [] → KeysHaveObjects count es
    → (number : ℕ) × (found (index_key 0) es ≡ Some number) × (number < count)
first_found count [] e owns = absurd (let z : ⊥ = cc in z)
first_found count (x ∷ []) e owns =
    let same : x.0 ≡ index_key 0 = cc in (
      x.1,
      cond-true (is_key (index_key 0) x.0) (Some x.1) (found (index_key 0) [])
          (ap (is_key (index_key 0)) same ∙ same_index),
      owns.0,
    )
first_found count (x ∷ y ∷ es) e owns = absurd (let z : ⊥ = cc in z)

-- a map whose shape has a direct value has an object for it
pub direct_found : (shape : MapShape) (t : RunMap) (offset : ℕ)
    → IsMapOf shape t → has_direct_value shape offset ≡ true
    → (number : ℕ) × (direct_object t.table offset ≡ Some number) × (number < t.count)
direct_found shape t offset is e =
    let parts = and_parts (is_array shape.kind && (shape.max_entries == 1)) (nat_lt offset shape.value_size) e in
    let front = and_parts (is_array shape.kind) (shape.max_entries == 1) parts.0 in
    let keys =
    is.indices (array_only shape.kind front.0)
    ∙ ap (λ n. keys_of (indexed (λ (i : ℕ). i) 0 n)) (eqb-true shape.max_entries 1 front.1)
    ∙ one_index in
    let first = first_found t.count t.table.entries keys is.owns in (
      first.0,
      cond-true (has_direct_value t.table.shape offset) _ _ (ap (λ s. has_direct_value s offset) is.shaped ∙ e)
          ∙ first.1,
      first.2,
    )
