-- The invariant of a run's states, which each step keeps: bytes are below 256, the context has its
-- words, and each map has its shape. This project's own.
use Rattle.std.specs.Prelude.{◌≡◌, ℕ, ◌<◌, ◌^◌, List, [], ◌∷◌, length, Option, Some}
use Rattle.std.specs.List.{All}
use Rattle.std.specs.Map.{keys_of}
use Rattle.words.specs.Bytes.{AreBytes}
use Rattle.tagged_model.specs.declared.shape.MapKind.TheVariants.{Array}
use Rattle.tagged_model.specs.declared.shape.MapShape.{MapShape}
use Rattle.tagged_model.specs.Table.{indexed}
use Rattle.tagged_model.specs.Cells.{byte_at}
use Rattle.tagged_model.specs.State.{RunState, RunMap, context_words}

-- the bytes of the stack, of values and of the packet are below 256, and the context has eleven
-- words, each below 2 ^ 32
pub record IsInRange (s : RunState) : Type 0 where
  pub bytes : (i j b : ℕ) → byte_at (s.cells i) j ≡ Some b → b < 256
  pub words : All (λ w. w < 2 ^ 32) s.words
  pub count : length s.words ≡ context_words
  pub values : (m : ℕ) (t : RunMap) → s.maps m ≡ Some t → (number : ℕ) → AreBytes (t.values number)
  pub packet : AreBytes s.packet

-- ---- maps

-- in this list of keys with the numbers of their objects, each number is below `count`
abbrev pub KeysHaveObjects : ℕ → List (List ℕ × ℕ) → Type 0
KeysHaveObjects count [] = Unit {0}
KeysHaveObjects count (e ∷ es) = (e.1 < count) × KeysHaveObjects count es

-- t is a map of this shape: an array has all its indices, the object of each key has a number below
-- the count, and each object, also a deleted one, has the size of a value
pub record IsMapOf (shape : MapShape) (t : RunMap) : Type 0 where
  pub shaped : t.table.shape ≡ shape
  pub indices : shape.kind ≡ Array
      → keys_of t.table.entries ≡ keys_of (indexed (λ i. i) 0 shape.max_entries)
  pub owns : KeysHaveObjects t.count t.table.entries
  pub sized : (number : ℕ) → number < t.count → length (t.values number) ≡ shape.value_size

-- for each descriptor with a shape there is a map of that shape
abbrev pub HasMaps : (ℕ → Option MapShape) → RunState → Type 0
HasMaps shapes s =
    (m : ℕ) (shape : MapShape)
    → shapes m ≡ Some shape
    → (t : RunMap) × (s.maps m ≡ Some t) × IsMapOf shape t
