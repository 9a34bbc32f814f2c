-- Arguments that name maps, and arguments that name none.
use Rattle.std.proofs.Common.{◌≡◌, ◌∷◌, [], Some, None, codes, refl}
use Rattle.clap.proofs.OnLiterals.{clap_on_literals}
use Rattle.tagged_model.specs.declared.shape.MapKind.TheVariants.{Array, Hash}
use Rattle.tagged_model.specs.declared.shape.MapShape.{MapShape}
use Rattle.tagged_model.specs.declared.shape.Target.TheVariants.{Map}
use Rattle.host.specs.program.Decimal.{decimal_number}
use Rattle.host.specs.program.Shapes.{descriptor_number, IsMapArgument}
use Rattle.host.proofs.MapArguments.{named_by}
use Rattle.host.specs.program.Arguments.{Verifies, asked_by_arguments, chosen_subcommand, refusal_kinds}

array_of_8_bytes : MapShape
array_of_8_bytes = record { kind = Array; key_size = 4; value_size = 8; max_entries = 1; listed = refl }

-- leading zeros do not change a number
array_word : IsMapArgument (codes "003:array:04:8:1") (record { fd = 3; target = Map array_of_8_bytes })
unfolding array_of_8_bytes
array_word =
    named_by (codes "003:array:04:8:1") (codes "003") (codes "array") (codes "04") (codes "8")
    (codes "1") refl refl
    (record { kind_is = refl; key_size_is = refl; value_size_is = refl; max_entries_is = refl })

largest_hash_map : MapShape
largest_hash_map = record { kind = Hash; key_size = 512; value_size = 4096; max_entries = 16; listed = refl }

hash_word : IsMapArgument (codes "66:hash:512:4096:16") (record { fd = 66; target = Map largest_hash_map })
unfolding largest_hash_map
hash_word =
    named_by (codes "66:hash:512:4096:16") (codes "66") (codes "hash") (codes "512") (codes "4096")
    (codes "16") refl refl
    (record { kind_is = refl; key_size_is = refl; value_size_is = refl; max_entries_is = refl })

-- numbers
no_digit : decimal_number (codes "") ≡ None
no_digit = refl

with_sign : decimal_number (codes "+3") ≡ None
with_sign = refl

with_blank : decimal_number (codes " 3") ≡ None
with_blank = refl

in_hexadecimal : decimal_number (codes "0x3") ≡ None
in_hexadecimal = refl

largest_number : decimal_number (codes "4294967295") ≡ Some 4294967295
largest_number = refl

too_large : decimal_number (codes "4294967296") ≡ None
too_large = refl

-- descriptors
lowest_descriptor : descriptor_number (codes "3") ≡ Some 3
lowest_descriptor = refl

below_the_table : descriptor_number (codes "2") ≡ None
below_the_table = refl

above_the_table : descriptor_number (codes "67") ≡ None
above_the_table = refl

-- ---- the command line

two_maps : asked_by_arguments (codes "verify" ∷ codes "3:array:4:8:1" ∷ codes "-" ∷ [])
    ≡ Some (Verifies (codes "3:array:4:8:1" ∷ codes "-" ∷ []))
unfolding clap_on_literals refusal_kinds chosen_subcommand
two_maps = refl

behind_two_dashes : asked_by_arguments (codes "verify" ∷ codes "--" ∷ codes "-h" ∷ codes "--" ∷ [])
    ≡ Some (Verifies (codes "-h" ∷ codes "--" ∷ []))
unfolding clap_on_literals refusal_kinds chosen_subcommand
behind_two_dashes = refl

an_option : asked_by_arguments (codes "verify" ∷ codes "-3:array:4:8:1" ∷ []) ≡ None
unfolding clap_on_literals refusal_kinds chosen_subcommand
an_option = refl
