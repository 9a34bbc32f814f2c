-- `release`, by cases of the number of references. With more than one, only this number changes (lemmas in `Changes`). At the last one,
-- `remove`, `clear` and `close_gap` together remove the map (`Goes`), and `copy_within` moves the bytes of the later areas down (lemmas in
-- `Released`). In each case the condition of the clauses for the other case is false.
use Rattle.std.proofs.Common.{◌≡◌, ◌+◌, ◌-◌, ◌<◌, ◌≤◌, ◌++◌, take, drop, refl, ap, is_some, option_map, ◌∙◌, arith, append_assoc}
use Rattle.bpf_maps.specs.declared.part.TheConstants.{STACK_AND_CONTEXT}
use Rattle.bpf_maps.specs.Live.{references_at, without_area, area_of}
use Rattle.tagged_model.specs.Table.{shape_area}
use Rattle.bpf_maps.specs.InMaps.{live_of}
use Rattle.bpf_maps.specs.declared.stored_map.StoredMap.{StoredMap}
use Rattle.bpf_maps.proofs.ByHandle.{has_key}
use Rattle.bpf_maps.proofs.Changes.{seen_of, IsUnder, is_under, live_under, placed_under, IsChange, live_old, live_new, others_stay, areas_stay}
use Rattle.bpf_maps.proofs.Changes.{whole_stays, laid_stays, room_stays, part_stays, values_stay, others_keep, itself_keeps, one_held_less, not_more}
use Rattle.bpf_maps.proofs.Released.{IsTaken, IsLeft, Goes, gone_within, left_keys, size_most, whole_gone, laid_gone}
use Rattle.bpf_maps.proofs.Released.{less_gone, others_gone, closes_up, none_now, freed_gone, values_gone, others_kept, front_gone}
use Rattle.bpf_maps.proofs.maps.Maps.release.Goals as goal
use Rattle.bpf_maps.proofs.maps.Maps.release.Goals.{After-index_mut-stored, After-area-size}

pub key-key-requires : goal.key-key-requires
key-key-requires c = has_key c.self.inside c.self.view_is c.map.view_is c.requires.live

under : (c : After-index_mut-stored)
    → IsUnder c.self.inside c.args.self.now c.map.inside.handle c.args.map c.key-key.result
    c.index_mut-stored.result.now
under c = is_under c.self.view_is c.self.invariant c.map.view_is c.key-key.ensures c.index_mut-stored.ensures.value

-- ---- one hold less

module _ (c : goal.After-self-1) where
  abbrev old : StoredMap
  old = c.index_mut-stored.result.now

  is : IsUnder c.self.inside c.args.self.now c.map.inside.handle c.args.map c.key-key.result old
  is = under (goal.at.invariant_of-self c).After-index_mut-stored

  change : IsChange c.self.inside c.args.self.now c.map.inside.handle c.args.map c.key-key.result old
      (record { map = old.map; start = old.start; stride = old.stride; elements = old.elements; holds = old.holds - 1 })
  change = record {
    under = is;
    start = refl;
    stride = refl;
    elements = refl;
    shape = refl;
    held = let m = c.if-stored-gt-LAST.true in omega arith;
    sound = (placed_under is).sound;
  }

  -- in this case the map had more than one reference
  not_last : references_at c.args.self.now c.args.map ≤ 1 → ⊥
  not_last last =
      let held = seen_of (λ l. l.holds) (live_old change) in
      let more = c.if-stored-gt-LAST.true in
      absurd (omega arith)

pub invariant_of-self : goal.invariant_of-self
invariant_of-self c = whole_stays (change c)

pub returns-then-stored-gt-LAST-clause-less : goal.returns-then-stored-gt-LAST-clause-less
returns-then-stored-gt-LAST-clause-less c = one_held_less (change c) refl refl c.if-stored-gt-LAST.true

pub returns-then-stored-gt-LAST-clause-others : goal.returns-then-stored-gt-LAST-clause-others
returns-then-stored-gt-LAST-clause-others c = λ other ne. ap (option_map without_area) (others_stay (change c) other ne)

pub returns-then-stored-gt-LAST-clause-laid : goal.returns-then-stored-gt-LAST-clause-laid
returns-then-stored-gt-LAST-clause-laid c = laid_stays (change c)

pub returns-then-stored-gt-LAST-clause-values : goal.returns-then-stored-gt-LAST-clause-values
returns-then-stored-gt-LAST-clause-values c = values_stay (change c) c.args.part.now

pub returns-then-stored-gt-LAST-clause-maps : goal.returns-then-stored-gt-LAST-clause-maps
returns-then-stored-gt-LAST-clause-maps c = others_keep (change c) c.args.part.now

pub returns-then-stored-gt-LAST-clause-kept : goal.returns-then-stored-gt-LAST-clause-kept
returns-then-stored-gt-LAST-clause-kept c = λ more. itself_keeps (change c) refl c.args.part.now

pub returns-then-stored-gt-LAST-clause-room : goal.returns-then-stored-gt-LAST-clause-room
returns-then-stored-gt-LAST-clause-room c = λ more. room_stays (change c)

pub returns-then-stored-gt-LAST-clause-gone : goal.returns-then-stored-gt-LAST-clause-gone
returns-then-stored-gt-LAST-clause-gone c = λ last. absurd (not_last c last)

pub returns-then-stored-gt-LAST-clause-moved : goal.returns-then-stored-gt-LAST-clause-moved
returns-then-stored-gt-LAST-clause-moved c = λ last. absurd (not_last c last)

pub returns-then-stored-gt-LAST-clause-freed : goal.returns-then-stored-gt-LAST-clause-freed
returns-then-stored-gt-LAST-clause-freed c = λ last. absurd (not_last c last)

pub returns-then-stored-gt-LAST-clause-stays : goal.returns-then-stored-gt-LAST-clause-stays
returns-then-stored-gt-LAST-clause-stays c = λ more. ap is_some (live_new (change c))

pub returns-then-stored-gt-LAST-clause-shape : goal.returns-then-stored-gt-LAST-clause-shape
returns-then-stored-gt-LAST-clause-shape c = λ more. part_stays (change c) (λ l. l.keys.shape) refl

pub returns-then-stored-gt-LAST-clause-areas : goal.returns-then-stored-gt-LAST-clause-areas
returns-then-stored-gt-LAST-clause-areas c = λ more. areas_stay (change c)

-- ---- the last one

module _ (c : After-area-size) where
  taken : IsTaken c.self.inside c.args.self.now c.map.inside.handle c.args.map c.key-key.result
      c.index_mut-stored.result.now c.remove-gone.result
  taken = record {
    under = is_under c.self.view_is c.self.invariant c.map.view_is c.key-key.ensures c.index_mut-stored.ensures.value;
    value = c.remove-gone.ensures.value;
  }

  size : c.area-size.result ≡ area_of (live_of c.remove-gone.result)
  size = c.area-size.ensures.value ∙ ap shape_area c.shape.ensures

  ends : c.remove-gone.result.start + c.area-size.result ≤ STACK_AND_CONTEXT + c.self.inside.bytes
  ends = let within = gone_within taken in let s = size in omega arith

  left : IsLeft c.self.inside c.map.inside.handle c.key-key.result c.index_mut-stored.result.now
      c.clear.new.self c.remove-gone.new.self
  left = record {
    keys_are = c.clear.ensures;
    gap = c.remove-gone.ensures.updates.changed;
    others = c.remove-gone.ensures.updates.others;
    len = c.remove-gone.ensures.len;
    capacity = c.remove-gone.ensures.capacity;
  }

pub overflow_add-end : goal.overflow_add-end
overflow_add-end c =
    let within = ends (goal.at.overflow_add-end c).After-area-size in
    let few = c.self.invariant.few in
    record { fits = omega arith }

pub copy_within-requires-clause-start_le_end : goal.copy_within-requires-clause-start_le_end
copy_within-requires-clause-start_le_end c = ends (goal.at.copy_within-requires-clause-start_le_end c).After-area-size

pub copy_within-requires-clause-dest_in_bounds : goal.copy_within-requires-clause-dest_in_bounds
copy_within-requires-clause-dest_in_bounds c =
    let within = ends (goal.at.copy_within-requires-clause-dest_in_bounds c).After-area-size in
    let few = c.self.invariant.few in
    let long = c.requires.length in
    omega arith

pub overflow_sub-self : goal.overflow_sub-self
overflow_sub-self c = let at = (goal.at.overflow_sub-self c).After-area-size in size_most (taken at) (size at)

pub close_gap-requires-clause-keys : goal.close_gap-requires-clause-keys
close_gap-requires-clause-keys c =
    let at = (goal.at.close_gap-requires-clause-keys c).After-area-size in left_keys (taken at) (left at)

module _ (c : goal.After-keep) where
  abbrev at : After-area-size
  at = (goal.at.invariant_of-self-2 c).After-area-size

  goes : Goes c.self.inside c.args.self.now c.map.inside.handle c.args.map c.key-key.result
      c.area-size.result c.index_mut-stored.result.now c.remove-gone.result
      c.clear.new.self c.remove-gone.new.self c.close_gap.new.maps
      c.keep.new.self
  goes = record {
    taken = taken at;
    size_is = size at;
    rest = left at;
    closed = record {
      each = c.close_gap.ensures.each;
      are_keys = c.close_gap.ensures.keys;
      capacity = c.close_gap.ensures.capacity;
    };
  }

  -- the bytes after it have moved down
  moved : c.copy_within.new.self
      ≡ take c.remove-gone.result.start c.args.part.now
      ++ (take (STACK_AND_CONTEXT + c.self.inside.bytes - (c.remove-gone.result.start + c.area-size.result))
      (drop (c.remove-gone.result.start + c.area-size.result) c.args.part.now)
      ++ drop (c.remove-gone.result.start
      + (STACK_AND_CONTEXT + c.self.inside.bytes - (c.remove-gone.result.start + c.area-size.result)))
      c.args.part.now)
  moved = c.copy_within.ensures.after ∙ append_assoc (take c.remove-gone.result.start c.args.part.now) _ _

  -- in this case the map had no second reference
  no_more : 1 < references_at c.args.self.now c.args.map → ⊥
  no_more more = not_more c.args.self.now c.args.map (live_under goes.taken.under) c.if-stored-gt-LAST.false more

pub invariant_of-self-2 : goal.invariant_of-self-2
invariant_of-self-2 c = whole_gone (goes c)

pub returns-clause-less : goal.returns-clause-less
returns-clause-less c = less_gone (goes c) c.if-stored-gt-LAST.false

pub returns-clause-stays : goal.returns-clause-stays
returns-clause-stays c = λ more. absurd (no_more c more)

pub returns-clause-shape : goal.returns-clause-shape
returns-clause-shape c = λ more. absurd (no_more c more)

pub returns-clause-gone : goal.returns-clause-gone
returns-clause-gone c = λ last. none_now (goes c)

pub returns-clause-others : goal.returns-clause-others
returns-clause-others c = others_gone (goes c)

pub returns-clause-moved : goal.returns-clause-moved
returns-clause-moved c = λ last. closes_up (goes c)

pub returns-clause-areas : goal.returns-clause-areas
returns-clause-areas c = λ more. absurd (no_more c more)

pub returns-clause-laid : goal.returns-clause-laid
returns-clause-laid c = laid_gone (goes c)

pub returns-clause-values : goal.returns-clause-values
returns-clause-values c = values_gone (goes c) c.args.part.now c.requires.length (moved c)

pub returns-clause-maps : goal.returns-clause-maps
returns-clause-maps c = others_kept (goes c) c.args.part.now c.requires.length (moved c)

pub returns-clause-kept : goal.returns-clause-kept
returns-clause-kept c = λ more. absurd (no_more c more)

pub returns-clause-room : goal.returns-clause-room
returns-clause-room c = λ more. absurd (no_more c more)

pub returns-clause-freed : goal.returns-clause-freed
returns-clause-freed c = λ last. freed_gone (goes c)

pub returns-clause-front : goal.returns-clause-front
returns-clause-front c = front_gone (goes c) c.args.part.now c.requires.length (moved c)
