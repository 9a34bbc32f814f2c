-- A live map is stored under its key, and its elements are those of its shape.
use Rattle.std.proofs.Common.{◌≡◌, ◌+◌, ◌*◌, ℕ, Option, Some, sym, ap, ap₂, ◌∙◌, arith}
use Rattle.bpf_maps.specs.declared.stored_map.StoredMap.{StoredMap}
use Rattle.bpf_maps.specs.Elements.{elements_of, elements_at, word_of}
use Rattle.bpf_maps.specs.Live.{LiveMap, LiveMaps, live_at, live_or, offset, offset_at}
use Rattle.bpf_maps.specs.InMaps.{live_of}
use Rattle.bpf_maps.proofs.ByHandle.{has_key}
use Rattle.bpf_maps.proofs.Changes.{IsUnder, is_under, live_under, placed_under}
use Rattle.bpf_maps.proofs.maps.Maps.first_and_elements.Goals as goal
use Rattle.bpf_maps.proofs.maps.Maps.first_and_elements.Goals.{After-index-stored}

first_is : (t : LiveMaps) (k : ℕ) (e : StoredMap) → live_at t k ≡ Some (live_of e) → e.start ≡ offset_at t k 0
unfolding offset
first_is t k e is = let at = ap (λ (o : Option LiveMap). (live_or o).start + 0 * (live_or o).stride) is in omega arith

elements_are : (t : LiveMaps) (k : ℕ) (e : StoredMap)
    → live_at t k ≡ Some (live_of e)
    → word_of (elements_of (live_of e).keys.shape) ≡ word_of (elements_at t k)
elements_are t k e is = sym (ap (λ (o : Option LiveMap). word_of (elements_of (live_or o).keys.shape)) is)

pub key-key-requires : goal.key-key-requires
key-key-requires c = has_key c.self.inside c.self.view_is c.map.view_is (sym c.is_live.ensures ∙ c.if-not-is_live.false)

under_its_key : (c : After-index-stored)
    → IsUnder c.self.inside c.args.self.now c.map.inside.handle c.args.map c.key-key.result c.index-stored.result.now
under_its_key c = is_under c.self.view_is c.self.invariant c.map.view_is c.key-key.ensures c.index-stored.ensures

pub returns-clause-inside : goal.returns-clause-inside
returns-clause-inside c =
    let within = (placed_under (under_its_key (goal.at.returns-clause-inside c).After-index-stored)).within in
    let few = c.self.invariant.few in
    omega arith

pub returns-clause-live : goal.returns-clause-live
returns-clause-live c live =
    let t = c.args.self.now in
    let e = c.index-stored.result.now in
    let under = under_its_key (goal.at.returns-clause-live c).After-index-stored in
    let at = live_under under in
    ap₂ (λ (first elements : ℕ). Some (first, elements))
    (first_is t c.args.map e at)
    ((placed_under under).elements ∙ elements_are t c.args.map e at)
