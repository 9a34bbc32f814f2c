-- `key_after` of `Maps`: the stored map has the live map's table of keys, so the key that it returns follows in that table, and has the
-- size of its keys.
use Rattle.std.proofs.Common.{◌≡◌, length, IfSome, option_map, sym, subst}
use Rattle.bpf_maps.specs.KeyRef.{key_bytes}
use Rattle.bpf_maps.specs.KeyTable.{KeyTable, table_of}
use Rattle.tagged_model.specs.Table.{next_of}
use Rattle.bpf_maps.proofs.Changes.{seen_of}
use Rattle.bpf_maps.proofs.maps.Maps.key_after.Goals as goal

pub returns : goal.returns
returns c =
    let is = c.stored.ensures in
    let same = sym (seen_of (λ l. l.keys) is) in
    record {
      given =
          subst (λ (t : KeyTable). option_map key_bytes c.key_after.result ≡ next_of (table_of t) c.args.key.now)
          same c.key_after.ensures.given;
      size =
          subst (λ (t : KeyTable). IfSome c.key_after.result (λ given. length (key_bytes given) ≡ t.shape.key_size))
          same c.key_after.ensures.size;
    }
