-- `free_handle`: the first word that is `NO_KEY` has the index of the first `None` that contracts see. By induction over the words, a
-- search in a mapped list finds the index that a search with the mapped test finds.
use Rattle.std.proofs.Common.{◌≡◌, ℕ, ◌+◌, Bool, not, List, [], ◌∷◌, Some, None, map, cond, nat_lt, refl, sym, ap, ap₂, ◌∙◌}
use Rattle.std.specs.Prelude.{is_none, position}
use Rattle.std.specs.List.{position_or_len}
use Rattle.std.proofs.lemmas.List.{length-map}
use Rattle.bpf_maps.specs.inside.SlabKeys.{key_in}
use Rattle.bpf_maps.proofs.slab_keys.SlabKeys.free_handle.Goals as goal

module _ {A B : Type 0} (f : A → B) (test : B → Bool) where
  front_mapped : (xs : List A) → position_or_len test (map f xs) ≡ position_or_len (λ x. test (f x)) xs
  front_mapped [] = refl
  front_mapped (x ∷ xs) = ap (λ (n : ℕ). cond (not (test (f x))) (1 + n) 0) (front_mapped xs)

  position_mapped : (xs : List A) → position test (map f xs) ≡ position (λ x. test (f x)) xs
  position_mapped xs = ap₂ (λ (n len : ℕ). cond (nat_lt n len) (Some n) None) (front_mapped xs) (length-map xs f)

pub returns : goal.returns
returns c =
    c.first_without_key.ensures
    ∙ sym (position_mapped key_in is_none c.self.inside.words)
    ∙ ap (position is_none) c.self.view_is
