-- `hold`: the stored map gets one more reference, and keeps its keys and its area. So, as in each change of one map (`IsChange`), the other
-- maps and all areas are unchanged, and the invariant still holds. The sum does not overflow, by the precondition `few`.
use Rattle.std.proofs.Common.{refl, ap, sym, ◌∙◌, ◌+◌, arith, option_map, ℕ, is_some}
use Rattle.bpf_maps.specs.Live.{one_more}
use Rattle.bpf_maps.specs.declared.stored_map.StoredMap.{StoredMap}
use Rattle.bpf_maps.proofs.ByHandle.{has_key}
use Rattle.bpf_maps.proofs.Changes.{seen_of, IsUnder, is_under, live_under, placed_under, IsChange, live_old}
use Rattle.bpf_maps.proofs.Changes.{live_new, others_stay, areas_stay, whole_stays, laid_stays, room_stays, part_stays}
use Rattle.bpf_maps.proofs.maps.Maps.hold.Goals as goal

pub key-key-requires : goal.key-key-requires
key-key-requires c = has_key c.self.inside c.self.view_is c.map.view_is c.requires.live

pub overflow_add-stored : goal.overflow_add-stored
overflow_add-stored c =
    let held =
    seen_of (λ l. l.holds)
    (live_under (is_under c.self.view_is c.self.invariant c.map.view_is c.key-key.ensures
    c.index_mut-stored.ensures.value)) in
    let few = c.requires.few in
    record { fits = omega arith }

module _ (c : goal.After-self-1) where
  abbrev old : StoredMap
  old = c.index_mut-stored.result.now

  under : IsUnder c.self.inside c.args.self.now c.map.inside.handle c.args.map c.key-key.result old
  under = is_under c.self.view_is c.self.invariant c.map.view_is c.key-key.ensures c.index_mut-stored.ensures.value

  change : IsChange c.self.inside c.args.self.now c.map.inside.handle c.args.map c.key-key.result old
      (record { map = old.map; start = old.start; stride = old.stride; elements = old.elements; holds = old.holds + 1 })
  change = record {
    under = under;
    start = refl;
    stride = refl;
    elements = refl;
    shape = refl;
    held = omega arith;
    sound = (placed_under under).sound;
  }

pub invariant_of-self : goal.invariant_of-self
invariant_of-self c = whole_stays (change c)

pub returns-clause-more : goal.returns-clause-more
returns-clause-more c = live_new (change c) ∙ sym (ap (option_map one_more) (live_old (change c)))

pub returns-clause-others : goal.returns-clause-others
returns-clause-others c = others_stay (change c)

pub returns-clause-laid : goal.returns-clause-laid
returns-clause-laid c = laid_stays (change c)

pub returns-clause-live : goal.returns-clause-live
returns-clause-live c = ap is_some (live_new (change c))

pub returns-clause-holds : goal.returns-clause-holds
returns-clause-holds c =
    seen_of (λ l. l.holds) (live_new (change c))
    ∙ sym (ap (λ (n : ℕ). n + 1) (seen_of (λ l. l.holds) (live_old (change c))))

pub returns-clause-shape : goal.returns-clause-shape
returns-clause-shape c = part_stays (change c) (λ l. l.keys.shape) refl

pub returns-clause-areas : goal.returns-clause-areas
returns-clause-areas c = areas_stay (change c)

pub returns-clause-room : goal.returns-clause-room
returns-clause-room c = room_stays (change c)

pub returns-clause-keys : goal.returns-clause-keys
returns-clause-keys c = part_stays (change c) (λ l. l.keys) refl
