-- `next_key` of `Maps`: the stored map has the live map's table of keys, so the key that it writes follows in that table.
use Rattle.std.proofs.Common.{sym, subst}
use Rattle.bpf_maps.specs.KeyTable.{KeyTable, table_of, GivesKey}
use Rattle.tagged_model.specs.Table.{next_of}
use Rattle.bpf_maps.proofs.Changes.{seen_of}
use Rattle.bpf_maps.proofs.maps.Maps.next_key.Goals as goal

pub returns : goal.returns
returns c =
    let is = c.stored.ensures in
    record {
      given =
          subst (λ (t : KeyTable).
          GivesKey (next_of (table_of t) c.args.key.now) c.args.next.now c.next_key.result c.next_key.new.next)
          (sym (seen_of (λ l. l.keys) is)) c.next_key.ensures.given;
    }
