-- `look_up_among`: the row of `arrays` for the map that the word names has this map's elements and the address of its first value, by
-- `arrays` of the contract (`listed_at`); so in an array, `address_of` of `Elements` returns the address of the key's value.
use Rattle.std.proofs.Common.{◌≡◌, ℕ, zero, suc, ◌+◌, ◌-◌, ◌%◌, ◌^◌, ◌<◌, ◌≤◌, List, Some, IsSome}
use Rattle.std.proofs.Common.{option_map, slice_range, get_or, refl, sym, ap, subst, ◌∙◌, arith}
use Rattle.std.specs.Prelude.{slice_index, unwrap_or}
use Rattle.std.proofs.lemmas.Option.{none-some}
use Rattle.tagged_model.specs.Table.{look_up}
use Rattle.arena.specs.Memory.{base, part_start}
use Rattle.arena.specs.PartLaws.{part_within}
use Rattle.bpf_maps.specs.KeyTable.{table_of}
use Rattle.bpf_maps.specs.Live.{live_at, keys_at, shape_at, offset_at}
use Rattle.bpf_maps.specs.Elements.{elements_at, AreOfArray, word_of}
use Rattle.bpf_helpers.specs.Named.{bound_map}
use Rattle.bpf_helpers.specs.inside.Flat.{call_of, key_word}
use Rattle.bpf_helpers.proofs.Words.{key_there}
use Rattle.bpf_helpers.proofs.Addresses.{address_word}
use Rattle.bpf_helpers.proofs.look_up.look_up_among.Goals as goal

-- a word that names a map is not 0
some_word : (bind : List ℕ) (w k : ℕ) → Some k ≡ bound_map bind w → 1 ≤ w
some_word bind zero k e = absurd (none-some k (sym e))
some_word bind (suc w) k e = omega arith

-- what is listed for the map that a word names
listed_at : (list bind : List ℕ) (w k : ℕ) (of : ℕ → ℕ)
    → w < 2 ^ 64 → 1 ≤ w
    → k ≡ slice_index bind (w - 1)
    → slice_index list (w - 1) ≡ of (slice_index bind (w - 1))
    → get_or list ((w + 18446744073709551615) % 18446744073709551616) 0 ≡ of k
listed_at list bind w k of small some is there =
    let index : (w + 18446744073709551615) % 18446744073709551616 ≡ w - 1 = omega arith in
    ap (λ (i : ℕ). get_or list i 0) index ∙ there ∙ ap of (sym is)

pub returns-clause-value : goal.returns-clause-value
returns-clause-value c =
    let call_state = call_of c.args.caller c.args.arena.now c.args.maps.now in
    let bind = c.args.caller.bind.now in
    let k = c.in-Some.handle in
    let at = c.in-Some-traced_offset.at in
    let part = c.part-part.result.now in
    let start = base + part_start call_state.memory call_state.tenant in
    let whole = part_within call_state.memory call_state.tenant (c.memory_is_its_parts.ensures.parts, c.requires.part.0) in
    let bound = c.memory_is_its_parts.ensures.bound in
    let (within, handle_is) = c.in-Some.ensures.listed in
    let some = some_word bind c.args.map k c.in-Some.ensures.value in
    let live : IsSome (live_at call_state.maps k) =
    subst (λ (key : ℕ). IsSome (live_at call_state.maps key)) (sym handle_is) (c.requires.live (c.args.map - 1) within) in
    let word =
    listed_at c.args.arrays.elements.now bind c.args.map k
    (λ key. word_of (elements_at call_state.maps key)) c.ranges.map.fits
    some handle_is
    (c.requires.arrays.elements (c.args.map - 1) within) in
    let first =
    listed_at c.args.arrays.values.now bind c.args.map k (λ key. start + offset_at call_state.maps key 0)
    c.ranges.map.fits some handle_is
    (c.requires.arrays.values (c.args.map - 1) within ∙ omega arith) in
    let any = c.if-array-eq0.false in
    let array : AreOfArray c.of_word-array.result call_state.maps k = (
      live,
      c.of_word-array.ensures.elements (shape_at call_state.maps k) word,
      any,
    ) in
    let size = sym (c.of_word-array.ensures.size (shape_at call_state.maps k) word any) in
    let o = look_up (table_of (keys_at call_state.maps k)) (slice_range part at (at + 4)) in
    let there =
    key_there call_state c.args.map c.args.key (sym c.in-Some.ensures.value) size at
    c.in-Some-traced_offset.ensures.value c.part-part.ensures.bytes
    c.in-Some-traced_offset.ensures.within in
    c.address_of.ensures.address array start first
    ∙ address_word call_state k start o refl (omega arith) (c.address_of.ensures.inside array)
    ∙ sym (ap (λ o. unwrap_or (option_map (key_word call_state) o) 0) there)
