-- Laws of facts and of the states that they admit. This project's own.
use Rattle.std.specs.Prelude.{◌≡◌, ◌≢◌, ◌⊎◌, ℕ, ◌<◌, ◌≤◌, ℤ, pos, ◌+ℤ◌, ◌≤ℤ◌, Bool, true, false, List, length, Option, Some, Ok}
use Rattle.words.specs.declared.stack.AccessSize.{AccessSize}
use Rattle.words.specs.Stack.{bytes_of}
use Rattle.reg_kinds.specs.declared.kind.Kind.{Kind}
use Rattle.reg_kinds.specs.declared.facts.Facts.{Facts}
use Rattle.reg_kinds.specs.Join.{facts_join}
use Rattle.reg_kinds.specs.Stack.{loaded, stack_read, stack_write}
use Rattle.reg_kinds.specs.Many.{stack_input, stack_filled, called_facts}
use Rattle.reg_kinds.specs.Settle.{facts_settled}
use Rattle.tagged_model.specs.declared.shape.MapShape.{MapShape}
use Rattle.tagged_model.specs.declared.value.Tagged.{Tagged}
use Rattle.tagged_model.specs.declared.value.Tagged.TheVariants.{Scalar}
use Rattle.tagged_model.specs.State.{RunState, RunMap, stack_load, stack_store, stack_bytes}
use Rattle.tagged_model.specs.State.{stack_written, object_bytes, object_written, object_stored, with_map}
use Rattle.tagged_model.specs.Cells.{number_from}
use Rattle.tagged_model.specs.Table.{look_up, has_direct_value, direct_object}
use Rattle.tagged_model.specs.Helpers as helpers
use Rattle.tagged_model.specs.Helpers.{returns}
use Rattle.tagged_model.specs.StateInvariant.{IsInRange, IsMapOf, HasMaps}
use Rattle.words.specs.Bytes.{AreBytes}
use Rattle.abstraction.specs.Admits.{Witness, IsOfKind, AdmitsBy, AreBelow, witness_at}

-- the join of facts a and b admits every state that a or b admits, by the same witness
abbrev pub JoinAdmits : Type 0
JoinAdmits =
    (witness : Witness) (a b : Facts) (s : RunState)
    → AdmitsBy witness a s ⊎ AdmitsBy witness b s
    → AdmitsBy witness (facts_join a b) s

-- if the facts allow a load from the stack, it gives a value of the kind that they predict
abbrev pub StackReadAdmits : Type 0
StackReadAdmits =
    (witness : Witness) (f : Facts) (s : RunState) (offset : ℤ) (size : AccessSize) (signed : Bool)
    (k : Kind)
    → IsInRange s
    → AdmitsBy witness f s
    → stack_read f offset size signed ≡ Ok k
    → (v : Tagged) × (stack_load s offset size signed ≡ Some v) × IsOfKind witness k v

-- if the facts f admit a state s in range (`IsInRange`) and allow a store into its stack of a value
-- v of kind k, the store is no fault, and the facts g after it admit the state t after it, which is
-- in range too
abbrev pub StackWriteAdmits : Type 0
StackWriteAdmits =
    (witness : Witness) (f g : Facts) (s : RunState) (offset : ℤ) (size : AccessSize) (k : Kind)
    (v : Tagged)
    → IsInRange s
    → AdmitsBy witness f s
    → IsOfKind witness k v
    → stack_write f offset size k ≡ Ok g
    → (t : RunState) × (stack_store s offset size v ≡ Some t) × AdmitsBy witness g t × IsInRange t

-- if the facts allow a helper to read n bytes at offset x of the stack, these are present
abbrev pub StackInputAdmits : Type 0
StackInputAdmits =
    (witness : Witness) (f : Facts) (s : RunState) (x : ℤ) (n : ℕ)
    → IsInRange s
    → AdmitsBy witness f s
    → stack_input f x n ≡ Ok tt
    → (bs : List ℕ) × (stack_bytes s x n ≡ Some bs) × (length bs ≡ n) × AreBytes bs

-- if the facts f allow a helper to write lo to hi bytes at offset x of the stack, the facts g after
-- it admit the state t after a write of any bytes bs, of a length from lo to hi
abbrev pub StackOutputAdmits : Type 0
StackOutputAdmits =
    (witness : Witness) (f g : Facts) (s : RunState) (x : ℤ) (lo hi : ℕ) (bs : List ℕ)
    → IsInRange s
    → AdmitsBy witness f s
    → AreBytes bs
    → lo ≤ length bs
    → length bs ≤ hi
    → stack_filled f x lo hi ≡ Ok g
    → (t : RunState) × (stack_written s x bs ≡ Some t) × AdmitsBy witness g t × IsInRange t

-- the state has a map of descriptor m and of this shape, which has had an object with this number
pub record IsObject (s : RunState) (m number : ℕ) (shape : MapShape) : Type 0 where
  pub map : RunMap
  pub there : s.maps m ≡ Some map
  pub is : IsMapOf shape map
  pub owned : number < map.count

-- n bytes at offset y within an object of the size of a value are present
abbrev pub ObjectReadAdmits : Type 0
ObjectReadAdmits =
    (s : RunState) (m number : ℕ) (shape : MapShape) (y : ℤ) (n : ℕ)
    → IsInRange s
    → IsObject s m number shape
    → pos 0 ≤ℤ y
    → (y +ℤ pos n) ≤ℤ pos shape.value_size
    → (bs : List ℕ) × (object_bytes s m number y n ≡ Some bs) × (length bs ≡ n) × AreBytes bs

-- a write of bytes within an object is no fault, and the facts that admit the state before it admit
-- the state u after it: they know nothing of the bytes of values
abbrev pub ObjectWriteAdmits : Type 0
ObjectWriteAdmits =
    (witness : Witness) (f : Facts) (shapes : ℕ → Option MapShape) (s : RunState) (m number : ℕ)
    (shape : MapShape) (y : ℤ) (bs : List ℕ)
    → IsInRange s
    → AdmitsBy witness f s
    → HasMaps shapes s
    → IsObject s m number shape
    → AreBytes bs
    → pos 0 ≤ℤ y → (y +ℤ pos (length bs)) ≤ℤ pos shape.value_size
    → (u : RunState)
    × (object_written s m number y bs ≡ Some u)
    × AdmitsBy witness f u
    × IsInRange u
    × HasMaps shapes u
    × (u.at ≡ s.at)

-- the facts describe the state by the witness: they admit it, its numbers are in range, and it has
-- a map for each descriptor with a shape in `shapes`, of that shape
pub record Describes (witness : Witness) (f : Facts) (shapes : ℕ → Option MapShape)
    (s : RunState) : Type 0 where
  pub admits : AdmitsBy witness f s
  pub proper : IsInRange s
  pub maps : HasMaps shapes s

-- a load within an object gives a value of the kind `loaded`, a number
abbrev pub ValueLoadAdmits : Type 0
ValueLoadAdmits =
    (witness : Witness) (s : RunState) (m number : ℕ) (shape : MapShape) (y : ℤ) (size : AccessSize)
    (signed : Bool)
    → IsInRange s
    → IsObject s m number shape
    → pos 0 ≤ℤ y
    → (y +ℤ pos (bytes_of size)) ≤ℤ pos shape.value_size
    → (v : Tagged)
    × (number_from size signed (object_bytes s m number y (bytes_of size)) ≡ Some v)
    × IsOfKind witness (loaded size signed) v

-- a store of a number within a value of a map is no fault: the state u after it has the same slot
-- of the next instruction, and the facts that describe the state before it also describe u
abbrev pub ValueStoreAdmits : Type 0
ValueStoreAdmits =
    (witness : Witness) (f : Facts) (shapes : ℕ → Option MapShape) (s : RunState) (m number : ℕ)
    (shape : MapShape) (y : ℤ) (size : AccessSize) (n : ℕ)
    → Describes witness f shapes s
    → IsObject s m number shape
    → pos 0 ≤ℤ y
    → (y +ℤ pos (bytes_of size)) ≤ℤ pos shape.value_size
    → (u : RunState)
    × (object_stored s size m number y (Scalar n) ≡ Some u)
    × Describes witness f shapes u
    × (u.at ≡ s.at)

-- the map u has the shape `shape`, and at least as many objects as t, deleted ones included; each
-- byte of u's objects is below 256
pub record KeepsShapeAndObjects (shape : MapShape) (t u : RunMap) : Type 0 where
  pub is : IsMapOf shape u
  pub more : t.count ≤ u.count
  pub bytes : (number : ℕ) → AreBytes (u.values number)

-- an update and a delete keep the shape of a map and its objects; a look-up in a map, and a load of
-- its direct value, give the number of one of the objects that the map has had
pub record MapCallsKeep : Type 0 where
  pub direct : (shape : MapShape) (t : RunMap) (offset : ℕ)
      → IsMapOf shape t
      → has_direct_value shape offset ≡ true
      → (number : ℕ) × (direct_object t.table offset ≡ Some number) × (number < t.count)
  pub owned : (shape : MapShape) (t : RunMap) (key : List ℕ) (number : ℕ)
      → IsMapOf shape t
      → look_up t.table key ≡ Some number
      → number < t.count
  pub updated : (shape : MapShape) (t : RunMap) (key value : List ℕ) (flags : ℕ)
      → IsMapOf shape t
      → ((number : ℕ) → AreBytes (t.values number))
      → length value ≡ shape.value_size
      → AreBytes value
      → KeepsShapeAndObjects shape t (helpers.updated t key value flags).map
  pub removed : (shape : MapShape) (t : RunMap) (key : List ℕ)
      → IsMapOf shape t
      → ((number : ℕ) → AreBytes (t.values number))
      → KeepsShapeAndObjects shape t (helpers.removed t key).map

-- if a map changes to one that keeps its shape and its objects, the facts still describe the state
abbrev pub MapChangeAdmits : Type 0
MapChangeAdmits =
    (witness : Witness) (f : Facts) (shapes : ℕ → Option MapShape) (s : RunState) (m : ℕ)
    (shape : MapShape) (t u : RunMap)
    → Describes witness f shapes s
    → s.maps m ≡ Some t
    → shapes m ≡ Some shape
    → KeepsShapeAndObjects shape t u
    → Describes witness f shapes (with_map s m u)

-- if facts f describe a state, and a call there returns a value v of kind k, the facts after the
-- call, in which register 0 has this kind, describe the state after it
abbrev pub CallAdmits : Type 0
CallAdmits =
    (witness : Witness) (f : Facts) (shapes : ℕ → Option MapShape) (s : RunState) (k : Kind)
    (v : Tagged)
    → Describes witness f shapes s
    → IsOfKind witness k v
    → Describes witness (called_facts f k) shapes (returns s v)

-- if the facts describe the state by a witness, and all sites in the facts are below `site`, the
-- facts also describe the state by the witness that records a look-up at `site` that gave v
abbrev pub SiteAdmits : Type 0
SiteAdmits =
    (witness : Witness) (f : Facts) (shapes : ℕ → Option MapShape) (s : RunState) (site : ℕ)
    (v : Tagged)
    → AreBelow site f
    → Describes witness f shapes s
    → Describes (witness_at witness s site v) f shapes s

-- if facts admit a state, the settled facts admit it too: those for null (true) if the look-up at
-- the site gave null, and those for a value (false) if it did not
pub record NullTestAdmits : Type 0 where
  pub null : (witness : Witness) (f : Facts) (s : RunState) (site : ℕ)
      → AdmitsBy witness f s
      → witness.gave site ≡ Scalar 0
      → AdmitsBy witness (facts_settled site true f) s
  pub value : (witness : Witness) (f : Facts) (s : RunState) (site : ℕ)
      → AdmitsBy witness f s
      → witness.gave site ≢ Scalar 0
      → AdmitsBy witness (facts_settled site false f) s
