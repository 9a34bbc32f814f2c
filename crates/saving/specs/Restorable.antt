-- The invariant of the maps and the programs of a state by which they can be created again. This
-- project's own.
use Rattle.std.specs.Prelude.{◌≡◌, false, ℕ, zero, suc, ◌+◌, ◌≤◌, ◌==◌, List, [], ◌∷◌, ◌++◌, length, Some, option_map}
use Rattle.std.specs.List.{list_any, AllByRecursion}
use Rattle.std.specs.Map.{lookup, keys_of}
use Rattle.fd_table.specs.Table.{first_descriptor, most, named}
use Rattle.insn_set.specs.Program.{IsProgram}
use Rattle.tagged_model.specs.declared.shape.MapKind.TheVariants.{Array}
use Rattle.tagged_model.specs.declared.shape.Named.{Named}
use Rattle.tagged_model.specs.declared.shape.Target.TheVariants as target
use Rattle.tagged_model.specs.Cells.{and_then}
use Rattle.tagged_model.specs.Table.{Table, is_key, indexed}
use Rattle.verifier.specs.Verdict.{IsAccepted}
use Rattle.verifier.specs.Maps.{maps_of, objects_at}
use Rattle.tenant.specs.declared.object.OpenObject.TheVariants as object
use Rattle.tenant.specs.Loaded.{LoadedProgram}
use Rattle.bpf_maps.specs.Limits.{most_bytes}
use Rattle.tenant.specs.State.{Map, TenantState, live, maps_area}
use Rattle.tenant.specs.Machine.{entry_of}
use Rattle.saving.specs.Alike.{HoldsItsMaps}

-- no key occurs twice in the list. `IsWholeTable` requires this of the keys of a map, so a restore
-- puts each of them into the new map once
abbrev pub AreDistinct : List (List ℕ) → Type 0
AreDistinct [] = Unit {0}
AreDistinct (key ∷ keys) = (list_any (is_key key) keys ≡ false) × AreDistinct keys

-- a table of keys can be created again: its keys have the map's key size and none occurs twice;
-- with those deleted in this run there are at most `max_entries`; the keys of an array are its
-- indices, in order
pub record IsWholeTable {A : Type 0} (t : Table A) : Type 0 where
  pub keys : AllByRecursion (λ e. length e.0 ≡ t.shape.key_size) t.entries
  pub distinct : AreDistinct (keys_of t.entries)
  pub few : length t.entries + t.deleted ≤ t.shape.max_entries
  pub indices : t.shape.kind ≡ Array
      → keys_of t.entries ≡ keys_of (indexed (λ i. i) 0 t.shape.max_entries)

-- a map can be created again: its table of keys can, each value has the map's value size, and no
-- run is in progress, so that no deleted key counts
pub record IsWholeMap (t : Map) : Type 0 where
  pub table : IsWholeTable t
  pub values : AllByRecursion (λ e. length e.1 ≡ t.shape.value_size) t.entries
  pub ended : t.deleted ≡ 0

-- descriptors with the shapes of their maps in s, as the verifier reads the maps of a program.
-- `maps` has pairs of a descriptor and a handle. Of the n descriptors from fd on, the list has
-- those to which `maps` gives the handle of a live map
unfoldable pub shapes_from : TenantState → List (ℕ × ℕ) → ℕ → ℕ → List Named
shapes_from s maps fd zero = []
shapes_from s maps fd (suc n) =
    entry_of fd
    (option_map (λ t. target.Map t.shape) (and_then (lookup (λ m. m == fd) maps) (live s)))
    ++ shapes_from s maps (fd + 1) n

-- a program can be loaded again: it was accepted when descriptors named the objects `named`;
-- l.named has the objects of the descriptors by which it loads maps (`picked`), with the shapes of
-- its maps in s (`shaped`), and it has a handle for each of these descriptors (`bound`)
pub record IsWholeProgram (s : TenantState) (l : LoadedProgram) : Type 0 where
  pub program : IsProgram l.insns
  pub named : List Named
  pub accepted : IsAccepted l.insns named
  pub picked : l.named ≡ objects_at (maps_of l.insns) named
  pub shaped : l.named ≡ shapes_from s l.maps first_descriptor most
  pub bound : keys_of l.maps ≡ maps_of l.insns

-- the precondition of restoring a state: exactly the maps that an open object names are live, their
-- areas have no more bytes than a tenant may have, and each map and program can be created again
pub record IsRestorable (s : TenantState) : Type 0 where
  pub held : HoldsItsMaps s
  pub area : maps_area s.maps ≤ most_bytes
  pub maps : (handle : ℕ) (t : Map) → live s handle ≡ Some t → IsWholeMap t
  pub programs : (fd : ℕ) (l : LoadedProgram)
      → named s.objects fd ≡ Some (object.Program l)
      → IsWholeProgram s l
