-- `create` of `Maps`: without a free handle, or without room, the error is `NoSpace`, and after refused memory no map has changed. Else
-- the lowest free handle gets a map in an area after the others (`IsAdded`), whose bytes `clear` has set to 0; from this and the
-- type's invariant follow the clauses and the new invariant.
use Rattle.std.proofs.Common.{◌≡◌, ◌+◌, ◌*◌, ◌/◌, refl, sym, ap, subst, ◌∙◌, arith, inl, inr}
use Rattle.bpf_maps.specs.declared.part.TheConstants.{STACK_AND_CONTEXT}
use Rattle.bpf_maps.specs.declared.stored_map.StoredMap.{StoredMap}
use Rattle.bpf_maps.specs.Elements.{word_of}
use Rattle.bpf_maps.specs.Live.{IsLaid}
use Rattle.bpf_maps.proofs.Created.{IsRoom, IsAdded, creates_full, creates_none, has_room, older_stay, creates_one, whole_one}
use Rattle.bpf_maps.proofs.Created.{laid_one, last_one, more_one, front_kept, cleared_one, values_kept, fresh_one, maps_kept}
use Rattle.bpf_maps.proofs.Whole.{laid, whole_refused}
use Rattle.bpf_maps.proofs.maps.Maps.create.Goals as goal
use Rattle.bpf_maps.proofs.maps.Maps.create.Goals.{Else-self-size-gt-LARGEST_SUM}

-- ---- there is no room

pub returns-in_default-clause-created : goal.returns-in_default-clause-created
returns-in_default-clause-created c =
    creates_full c.args.shape c.self.view_is c.self.invariant c.area-size.ensures.value
    (inl (sym c.free_handle.ensures ∙ c.in_default.is))

pub returns-in_default-clause-laid : goal.returns-in_default-clause-laid
returns-in_default-clause-laid c = subst IsLaid c.self.view_is (laid c.self.invariant)

pub returns-then-self-size-gt-LARGEST_SUM-clause-created : goal.returns-then-self-size-gt-LARGEST_SUM-clause-created
returns-then-self-size-gt-LARGEST_SUM-clause-created c =
    creates_full c.args.shape c.self.view_is c.self.invariant c.area-size.ensures.value
    (inr (let l = c.if-self-size-gt-LARGEST_SUM.true in omega arith))

pub returns-then-self-size-gt-LARGEST_SUM-clause-laid : goal.returns-then-self-size-gt-LARGEST_SUM-clause-laid
returns-then-self-size-gt-LARGEST_SUM-clause-laid c = subst IsLaid c.self.view_is (laid c.self.invariant)

-- ---- there is room

room : (c : Else-self-size-gt-LARGEST_SUM)
    → IsRoom c.self.inside c.args.self.now c.args.shape c.area-size.result c.in-Some.handle
room c = record {
  view = c.self.view_is;
  whole = c.self.invariant;
  size_is = c.area-size.ensures.value;
  free = sym c.free_handle.ensures ∙ c.in-Some.is;
  room = let l = c.if-self-size-gt-LARGEST_SUM.false in omega arith;
}

-- memory was refused

pub returns-in_default-with_spares-clause-created : goal.returns-in_default-with_spares-clause-created
returns-in_default-with_spares-clause-created c =
    creates_none (room (goal.at.returns-in_default-with_spares-clause-created c).Else-self-size-gt-LARGEST_SUM)

pub returns-in_default-with_spares-clause-laid : goal.returns-in_default-with_spares-clause-laid
returns-in_default-with_spares-clause-laid c = laid (whole_refused {spares = c.with_spares.new.spares} c.self.invariant)

-- the map is made

pub insert_reserved-key-requires : goal.insert_reserved-key-requires
insert_reserved-key-requires c = has_room (room (goal.at.insert_reserved-key-requires c).Else-self-size-gt-LARGEST_SUM)

module _ (c : goal.After-self-2-1) where
  has : IsRoom c.self.inside c.args.self.now c.args.shape c.area-size.result c.in-Some.handle
  has = room (goal.at.invariant_of-self-2 c).Else-self-size-gt-LARGEST_SUM

  abbrev stored : StoredMap
  stored = record {
    map = c.in-Ok.map;
    start = STACK_AND_CONTEXT + c.self.inside.bytes;
    stride = c.next_multiple_of.result;
    elements = c.word.result;
    holds = 1;
  }

  stride : c.next_multiple_of.result ≡ (c.args.shape.value_size + 7) / 8 * 8
  stride =
      let l = c.next_multiple_of.ensures.lower_bound in
      let u = c.next_multiple_of.ensures.upper_bound in
      let m = c.next_multiple_of.ensures.multiple in
      omega arith

  added : IsAdded c.self.inside c.args.shape c.with_spares.new.spares c.put.new.self
      c.insert_reserved-key.new.self c.in-Some.handle c.insert_reserved-key.result
      stored
  added = record {
    keys_are = c.put.ensures;
    was = c.insert_reserved-key.ensures.was_vacant;
    there = c.insert_reserved-key.ensures.updates.changed;
    others = c.insert_reserved-key.ensures.updates.others;
    len = c.insert_reserved-key.ensures.len;
    capacity = c.insert_reserved-key.ensures.capacity;
    table = c.in-Ok.ensures;
    start = refl;
    stride = stride;
    elements = c.word.ensures ∙ ap word_of c.of.ensures;
    holds = refl;
  }

pub invariant_of-self-2 : goal.invariant_of-self-2
invariant_of-self-2 c = whole_one (has c) (added c)

pub returns-clause-created : goal.returns-clause-created
returns-clause-created c = creates_one (has c) (added c)

pub returns-clause-older : goal.returns-clause-older
returns-clause-older c = older_stay (has c) (added c)

pub returns-clause-laid : goal.returns-clause-laid
returns-clause-laid c = laid_one (has c) (added c)

pub returns-clause-cleared : goal.returns-clause-cleared
returns-clause-cleared c = λ array. cleared_one (has c) (added c) c.args.part.now c.requires c.clear.ensures

pub returns-clause-values : goal.returns-clause-values
returns-clause-values c = values_kept (has c) (added c) c.args.part.now c.requires c.clear.ensures

pub returns-clause-front : goal.returns-clause-front
returns-clause-front c = front_kept (has c) (added c) c.args.part.now c.requires c.clear.ensures

pub returns-clause-fresh : goal.returns-clause-fresh
returns-clause-fresh c = fresh_one (has c) (added c) c.args.part.now c.requires c.clear.ensures

pub returns-clause-maps : goal.returns-clause-maps
returns-clause-maps c = maps_kept (has c) (added c) c.args.part.now c.requires c.clear.ensures

pub returns-clause-more : goal.returns-clause-more
returns-clause-more c = more_one (has c) (added c)

pub returns-clause-last : goal.returns-clause-last
returns-clause-last c = last_one (has c) (added c)
