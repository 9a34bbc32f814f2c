-- `offset_in`: the stored map has the start and the stride of the live map, so the result is the value's offset. By the law `maps_are_laid`
-- the value lies in the part, so neither the product nor the sum overflows.
use Rattle.std.proofs.Common.{◌≡◌, ℕ, ◌+◌, ◌*◌, ◌≤◌, Option, Some, refl, sym, subst, ap, arith}
use Rattle.std.specs.Option.{IsSome}
use Rattle.bpf_maps.specs.declared.part.TheConstants.{PART}
use Rattle.bpf_maps.specs.declared.stored_map.StoredMap.{StoredMap}
use Rattle.bpf_maps.specs.Live.{LiveMap, LiveMaps, live_at, live_or, offset, offset_at, shape_at, LiesInPart}
use Rattle.bpf_maps.specs.LiveLaws.{laid_inside}
use Rattle.bpf_maps.specs.InMaps.{live_of}
use Rattle.bpf_maps.proofs.maps.Maps.offset_in.Goals as goal
use Rattle.bpf_maps.proofs.maps.Maps.offset_in.Goals.{After-maps_are_laid}

offset_is : (t : LiveMaps) (k p : ℕ) (e : StoredMap)
    → live_at t k ≡ Some (live_of e) → e.start + p * e.stride ≡ offset_at t k p
unfolding offset
offset_is t k p e is = ap (λ (o : Option LiveMap). (live_or o).start + p * (live_or o).stride) (sym is)

module _ (c : After-maps_are_laid) where
  lies :
      LiesInPart (offset_at c.args.self.now c.args.map c.args.element) (shape_at c.args.self.now c.args.map).value_size
  lies =
      laid_inside c.args.self.now c.maps_are_laid.ensures.laid c.args.map c.args.element
      (subst IsSome (sym c.requires.stored) refl) c.requires.element

  same : c.args.stored.now.start + c.args.element * c.args.stored.now.stride
      ≡ offset_at c.args.self.now c.args.map c.args.element
  same = offset_is c.args.self.now c.args.map c.args.element c.args.stored.now c.requires.stored

  small : c.args.stored.now.start + c.args.element * c.args.stored.now.stride ≤ PART
  small = let within = lies.within in let is = same in omega arith

pub returns-clause-offset : goal.returns-clause-offset
returns-clause-offset c = same (goal.at.returns-clause-offset c).After-maps_are_laid

pub returns-clause-inside : goal.returns-clause-inside
returns-clause-inside c =
    let at = (goal.at.returns-clause-inside c).After-maps_are_laid in
    subst (λ (o : ℕ). LiesInPart o (shape_at c.args.self.now c.args.map).value_size) (sym (same at)) (lies at)

pub overflow_mul-result : goal.overflow_mul-result
overflow_mul-result c = record {
  fits = let s = small (goal.at.overflow_mul-result c).After-maps_are_laid in omega arith;
}

pub overflow_add-result : goal.overflow_add-result
overflow_add-result c = record {
  fits = let s = small (goal.at.overflow_add-result c).After-maps_are_laid in omega arith;
}
