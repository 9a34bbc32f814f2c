-- `key_after` of `HashMap`: the returned key has the size of the map's keys, since all keys of the table have it (`sized` of the
-- invariant), and so it fits in the room for a key.
use Rattle.std.proofs.Common.{subst, IfSome, length, ◌≡◌}
use Rattle.bpf_maps.specs.KeyRef.{key_bytes}
use Rattle.bpf_maps.specs.KeyTable.{KeyTable}
use Rattle.bpf_maps.specs.Index.{entries_of}
use Rattle.bpf_maps.specs.declared.part.TheConstants.{KEY_ROOM}
use Rattle.bpf_maps.proofs.Following.{given_sized, given_short}
use Rattle.bpf_maps.proofs.Shapes.{key_fits_room}
use Rattle.bpf_maps.proofs.hash_map.HashMapValueMap.key_after.Goals as goal

pub returns-clause-size : goal.returns-clause-size
returns-clause-size c =
    let a = c.self.inside in
    subst (λ (t : KeyTable). IfSome c.key_after.result (λ given. length (key_bytes given) ≡ t.shape.key_size))
    c.self.view_is
    (given_sized a.shape.key_size c.args.key.now (entries_of a.index) c.key_after.result
    c.self.invariant.sized c.key_after.ensures)

pub returns-clause-short : goal.returns-clause-short
returns-clause-short c =
    let a = c.self.inside in
    given_short a.shape.key_size KEY_ROOM c.key_after.result (key_fits_room a.shape)
    (given_sized a.shape.key_size c.args.key.now (entries_of a.index) c.key_after.result
    c.self.invariant.sized c.key_after.ensures)
