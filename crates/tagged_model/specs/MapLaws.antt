-- Laws of maps, whatever their objects are. The calls are those of bpf(2); the laws are this
-- project's own.
use Rattle.std.specs.Prelude.{◌≡◌, ◌≢◌, ℕ, List, Some, None, option_map}
use Rattle.std.specs.Result.{result_map_both}
use Rattle.tagged_model.specs.declared.shape.MapShape.{MapShape}
use Rattle.tagged_model.specs.declared.fault.MapFault.TheVariants.{Memory}
use Rattle.tagged_model.specs.Table as map

-- a map of objects of A refines the map that has `value x` instead of each object x
-- (`with_values`): each call gives the same result on both, with `value x` instead of x, and
-- changes both alike. `value` is any function from A to B, such as that from an element to its
-- bytes
pub record CallsRefineValues (A B : Type 0) : Type 0 where
  pub new : (value : A → B) (object : ℕ → A) (shape : MapShape)
      → map.with_values value (map.new_table object shape)
      ≡ map.new_table (λ i. value (object i)) shape
  pub found : (value : A → B) (t : map.Table A) (key : List ℕ)
      → map.look_up (map.with_values value t) key ≡ option_map value (map.look_up t key)
  pub verdict : (value : A → B) (t : map.Table A) (key : List ℕ) (flags : ℕ)
      → map.verdict (map.with_values value t) key flags
      ≡ map.verdict_with value (map.verdict t key flags)
  pub removal : (value : A → B) (t : map.Table A) (key : List ℕ)
      → map.removal (map.with_values value t) key
      ≡ result_map_both value (λ fault. fault) (map.removal t key)
  pub next : (value : A → B) (t : map.Table A) (key : List ℕ)
      → map.next_of (map.with_values value t) key ≡ map.next_of t key
  pub update : (value : A → B) (t : map.Table A) (key : List ℕ) (object : A)
      → map.with_values value (map.with_new t key object)
      ≡ map.with_new (map.with_values value t) key (value object)
  pub delete : (value : A → B) (t : map.Table A) (key : List ℕ)
      → map.with_values value (map.with_deleted t key)
      ≡ map.with_deleted (map.with_values value t) key
  pub end : (value : A → B) (t : map.Table A)
      → map.with_values value (map.after_run t) ≡ map.after_run (map.with_values value t)

-- the verdict on an update agrees with the look-up of its key: if it is that the key is present,
-- the look-up finds the same object; if it is that the key is new, the look-up finds none; and it
-- is never out of memory
pub record MapVerdictsMatchLookUps (A : Type 0) : Type 0 where
  pub present : (t : map.Table A) (key : List ℕ) (flags : ℕ) (object : A)
      → map.verdict t key flags ≡ map.Present object
      → map.look_up t key ≡ Some object
  pub new : (t : map.Table A) (key : List ℕ) (flags : ℕ)
      → map.verdict t key flags ≡ map.New
      → map.look_up t key ≡ None
  pub memory : (t : map.Table A) (key : List ℕ) (flags : ℕ)
      → map.verdict t key flags ≢ map.Refused Memory
