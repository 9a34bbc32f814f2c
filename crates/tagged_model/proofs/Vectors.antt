-- Shapes at the limits, and the faults of shapes beyond them. The limits are this project's own.
use Rattle.std.specs.Prelude.{◌≡◌, ℕ, List, [], ◌∷◌, map, Option, Some, None, refl}
use Rattle.tagged_model.specs.Shape.{shape_fault}
use Rattle.tagged_model.specs.declared.shape.MapKind.{MapKind}
use Rattle.tagged_model.specs.declared.shape.MapKind.TheVariants.{Hash, Array}
use Rattle.tagged_model.specs.declared.shape.ShapeFault.{ShapeFault}
use Rattle.tagged_model.specs.declared.shape.ShapeFault.TheVariants.{Invalid, TooBig}

-- the kind of a map, the sizes of its keys and values, its number of entries, its flags, and its fault
abbrev Row : Type 0
Row = MapKind × ℕ × ℕ × ℕ × ℕ × Option ShapeFault

abbrev AreRows : List Row → Type 0
AreRows rows = map (λ (row : Row). shape_fault row.0 row.1 row.2 row.3 row.4) rows ≡ map (λ (row : Row). row.5) rows

keys_out_of_limits : AreRows (
    (Hash, 0, 8, 1, 0, Some Invalid)
    ∷ (Hash, 513, 8, 1, 0, Some Invalid)
    ∷ (Array, 0, 8, 1, 0, Some Invalid)
    ∷ (Array, 8, 8, 1, 0, Some Invalid)
    ∷ [])
keys_out_of_limits = refl

values_entries_and_flags_out_of_limits : AreRows (
    (Hash, 4, 0, 1, 0, Some Invalid)
    ∷ (Hash, 4, 4097, 1, 0, Some Invalid)
    ∷ (Hash, 4, 8, 0, 0, Some Invalid)
    ∷ (Hash, 4, 8, 4097, 0, Some Invalid)
    ∷ (Array, 4, 8, 1, 1, Some Invalid)
    ∷ [])
values_entries_and_flags_out_of_limits = refl

-- values that take more than 65,536 bytes, and values of exactly this size; each size is rounded up to a multiple of 8
too_big : AreRows (
    (Array, 4, 4096, 16, 0, None)
    ∷ (Array, 4, 4096, 17, 0, Some TooBig)
    ∷ (Hash, 512, 9, 4096, 0, None)
    ∷ (Hash, 512, 17, 4096, 0, Some TooBig)
    ∷ [])
too_big = refl
