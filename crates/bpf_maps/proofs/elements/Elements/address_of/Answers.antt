-- `address_of` of `Elements`: by cases of the two tests, a key of another size, or of an index that is not less than the count, is absent
-- (`no_key`, `no_element`); else the index is the key's element, and its value has the returned address and lies in the part.
use Rattle.std.proofs.Common.{ℕ, ap₂, ◌+◌, ◌*◌, ◌%◌, ◌^◌, ◌<◌, ◌∙◌, IfSome, ap, subst, arith}
use Rattle.bpf_maps.specs.Live.{offset_at, shape_at, value_address, LiesInPart}
use Rattle.bpf_maps.proofs.ElementAddresses.{no_key, no_element, element, element_lies, element_address}
use Rattle.bpf_maps.proofs.elements.Elements.address_of.Goals as goal

pub returns-then-key-ne-INDEX_SIZE-clause-address : goal.returns-then-key-ne-INDEX_SIZE-clause-address
returns-then-key-ne-INDEX_SIZE-clause-address c array part first =
    let t = c.args.maps.now in
    let k = c.args.map in
    ap (value_address part t k)
    (no_key t k c.args.self array.1 array.2 array.0 c.maps_are_laid.ensures.sound c.args.key.now
    c.if-key-ne-INDEX_SIZE.true)

pub returns-then-key-ne-INDEX_SIZE-clause-inside : goal.returns-then-key-ne-INDEX_SIZE-clause-inside
returns-then-key-ne-INDEX_SIZE-clause-inside c array =
    let t = c.args.maps.now in
    let k = c.args.map in
    subst (λ o. IfSome o (λ p. LiesInPart (offset_at t k p) (shape_at t k).value_size))
    (no_key t k c.args.self array.1 array.2 array.0 c.maps_are_laid.ensures.sound c.args.key.now
    c.if-key-ne-INDEX_SIZE.true)
    tt

pub returns-then-index-self-clause-address : goal.returns-then-index-self-clause-address
returns-then-index-self-clause-address c array part first =
    let t = c.args.maps.now in
    let k = c.args.map in
    ap (value_address part t k)
    (no_element t k c.args.self array.1 array.2 array.0 c.maps_are_laid.ensures.laid
    c.maps_are_laid.ensures.packed c.maps_are_laid.ensures.sound
    c.args.key.now c.index_of-index.result c.index_of-index.ensures
    (omega arith) (let past = c.if-index-self.true in omega arith))

pub returns-then-index-self-clause-inside : goal.returns-then-index-self-clause-inside
returns-then-index-self-clause-inside c array =
    let t = c.args.maps.now in
    let k = c.args.map in
    subst (λ o. IfSome o (λ p. LiesInPart (offset_at t k p) (shape_at t k).value_size))
    (no_element t k c.args.self array.1 array.2 array.0 c.maps_are_laid.ensures.laid
    c.maps_are_laid.ensures.packed c.maps_are_laid.ensures.sound
    c.args.key.now c.index_of-index.result c.index_of-index.ensures
    (omega arith) (let past = c.if-index-self.true in omega arith))
    tt

pub returns-clause-address : goal.returns-clause-address
returns-clause-address c array part first =
    ap₂ (λ (n s : ℕ). (c.args.first + n * s) % 2 ^ 64) c.from.ensures c.from-2.ensures
    ∙ element_address c.args.maps.now c.args.map c.args.self array.1 array.2 array.0
    c.maps_are_laid.ensures.laid c.maps_are_laid.ensures.packed
    c.maps_are_laid.ensures.sound c.args.key.now c.index_of-index.result
    c.index_of-index.ensures (omega arith) (let below = c.if-index-self.false in omega arith)
    c.args.first part first

pub returns-clause-inside : goal.returns-clause-inside
returns-clause-inside c array =
    let t = c.args.maps.now in
    let k = c.args.map in
    let below : c.index_of-index.result < c.args.self.count = let is = c.if-index-self.false in omega arith in
    subst (λ o. IfSome o (λ p. LiesInPart (offset_at t k p) (shape_at t k).value_size))
    (element t k c.args.self array.1 array.2 array.0 c.maps_are_laid.ensures.laid
    c.maps_are_laid.ensures.packed c.maps_are_laid.ensures.sound
    c.args.key.now c.index_of-index.result c.index_of-index.ensures
    (omega arith) below)
    (element_lies t k c.args.self array.1 array.2 array.0 c.maps_are_laid.ensures.laid
    c.maps_are_laid.ensures.packed c.maps_are_laid.ensures.sound
    c.args.key.now c.index_of-index.result c.index_of-index.ensures
    (omega arith) below)
