-- `calls_are_those_of_a_map`: each change of a table of keys is that of its map by definition; in a deletion the number of deleted keys
-- grows as the list of elements kept apart does.
use Rattle.std.proofs.Common.{ℕ, [], ◌∷◌, refl, ap, length-append}
use Rattle.tagged_model.specs.Table.{Table, without}
use Rattle.bpf_maps.proofs.laws.calls_are_those_of_a_map.Goals as goal

pub returns : goal.returns
returns c = record {
  new = λ shape. refl;
  update = λ t key element. refl;
  delete = λ t key element.
      ap (λ (n : ℕ). let m : Table ℕ = record { shape = t.shape; entries = without key t.entries; deleted = n } in m)
      (length-append t.kept (element ∷ []));
  end = λ t. refl;
}
