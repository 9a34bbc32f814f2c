-- `entry_after` of `Maps`: the stored map has the live map's keys, so the entry that it returns follows there too. By `next_within` its
-- element is less than `max_entries`, since the table of keys is sound.
use Rattle.std.proofs.Common.{◌≡◌, option_map, is_some, sym, ap, subst}
use Rattle.ordered_keys.specs.Orders.{next_entry}
use Rattle.bpf_maps.specs.KeyRef.{shown_entry}
use Rattle.bpf_maps.specs.KeyTable.{KeyTable}
use Rattle.bpf_maps.proofs.Changes.{seen_of}
use Rattle.bpf_maps.proofs.NextEntries.{next_within}
use Rattle.bpf_maps.proofs.maps.Maps.entry_after.Goals as goal

pub returns : goal.returns
returns c =
    let live = ap is_some c.stored.ensures in
    let same = sym (seen_of (λ l. l.keys) c.stored.ensures) in
    let entry =
    subst (λ (t : KeyTable). option_map shown_entry c.entry_after.result ≡ next_entry c.args.element t.entries)
    same c.entry_after.ensures in
    let sound = c.maps_are_laid.ensures.sound c.args.map live in
    record {
      entry = entry;
      within = next_within _ c.args.element c.entry_after.result sound entry;
    }
