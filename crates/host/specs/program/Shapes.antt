-- Map arguments: a descriptor, a kind, the sizes of a key and of a value in bytes, and the most
-- entries, with colons between them. The format is this project's own; the fields are those of
-- bpf(2), BPF_MAP_CREATE.
use Rattle.std.specs.Prelude.{◌≡◌, ◌≢◌, ℕ, ◌+◌, ◌-◌, ◌==◌, Bool, true, List, [], ◌∷◌, ◌++◌, length, Option, Some, None, codes, if◌then◌else◌, option_and_then}
use Rattle.std.specs.List.{AllPairs, AllZip, join_with_byte, list_any}
use Rattle.clap.specs.Words.{Text}
use Rattle.fd_table.specs.Table as fds
use Rattle.tagged_model.specs.Shape.{is_from_to}
use Rattle.tagged_model.specs.declared.shape.MapKind.{MapKind}
use Rattle.tagged_model.specs.declared.shape.MapKind.TheVariants.{Array, Hash}
use Rattle.tagged_model.specs.declared.shape.MapShape.{MapShape}
use Rattle.tagged_model.specs.declared.shape.Named.{Named}
use Rattle.tagged_model.specs.declared.shape.Target.TheVariants.{Map}
use Rattle.host.specs.program.Decimal.{decimal_number}

-- the name of a kind of maps in a map argument
abbrev pub kind_name : MapKind → Text
kind_name Array = codes "array"
kind_name Hash = codes "hash"

-- the byte of a colon in ASCII
abbrev pub colon : ℕ
colon = 58

-- fd is one of the numbers of a table of descriptors, 3 to 66
abbrev pub is_descriptor : ℕ → Bool
is_descriptor fd = is_from_to fds.first_descriptor (fds.first_descriptor + fds.most - 1) fd

-- the descriptor in decimal digits; None if it is not from 3 to 66, or the text is no number
abbrev pub descriptor_number : Text → Option ℕ
descriptor_number text =
    option_and_then (λ fd. if is_descriptor fd then Some fd else None) (decimal_number text)

-- These texts are the fields of the shape. Their limits are not named here: each `MapShape` has its
-- fields in their limits, and no more bytes of values than a map may have.
pub record IsShapeOf (shape : MapShape) (kind key_size value_size max_entries : Text) : Type 0 where
  pub kind_is : kind ≡ kind_name shape.kind
  pub key_size_is : decimal_number key_size ≡ Some shape.key_size
  pub value_size_is : decimal_number value_size ≡ Some shape.value_size
  pub max_entries_is : decimal_number max_entries ≡ Some shape.max_entries

-- the argument names this map: five fields joined by colons are its descriptor and its shape
pub record IsMapArgument (argument : Text) (map : Named) : Type 0 where
  pub fd : Text
  pub kind : Text
  pub key_size : Text
  pub value_size : Text
  pub max_entries : Text
  pub shape : MapShape
  pub spelled : argument
      ≡ join_with_byte colon (fd ∷ kind ∷ key_size ∷ value_size ∷ max_entries ∷ [])
  pub descriptor : descriptor_number fd ≡ Some map.fd
  pub target : map.target ≡ Map shape
  pub shaped : IsShapeOf shape kind key_size value_size max_entries

-- ---- several arguments

-- the arguments name these maps in order, and no two of the maps have the same descriptor
pub record AreMapArguments (arguments : List Text) (maps : List Named) : Type 0 where
  pub each : AllZip IsMapArgument arguments maps
  pub apart : AllPairs (λ (a : Named) (b : Named). a.fd ≢ b.fd) maps

-- one of the maps has the descriptor fd
abbrev pub has_descriptor : ℕ → List Named → Bool
has_descriptor fd maps = list_any (λ (map : Named). map.fd == fd) maps

-- The argument with this number, from 1, is the first wrong one: the arguments before it name maps,
-- and it names no map, or one at a descriptor that one of these maps has
pub record IsFirstWrongArgument (arguments : List Text) (number : ℕ) : Type 0 where
  pub before : List Text
  pub argument : Text
  pub after : List Text
  pub maps : List Named
  pub parts : arguments ≡ before ++ argument ∷ after
  pub right : AreMapArguments before maps
  pub wrong : (map : Named) → IsMapArgument argument map → has_descriptor map.fd maps ≡ true
  pub number_is : number ≡ length before + 1
