-- `index_after` of `ArrayMap`: after a present key the next key is that of the next index (`after_present`); an absent key, also one of
-- another size, has the first key after it (`after_absent`).
use Rattle.std.proofs.Common.{◌∙◌, sym}
use Rattle.bpf_maps.proofs.Arrays.{after_present, after_absent}
use Rattle.bpf_maps.proofs.Following.{absent_by_size}
use Rattle.bpf_maps.proofs.array_map.ArrayMap.index_after.Goals as goal

pub returns-then-key-ne-INDEX_SIZE : goal.returns-then-key-ne-INDEX_SIZE
returns-then-key-ne-INDEX_SIZE c =
    let law = c.keys_are_its_indices.ensures in
    let table = c.args.self.now in
    let absent =
    absent_by_size table.shape.key_size c.args.key.now
    (λ same. c.if-key-ne-INDEX_SIZE.true (same ∙ law.key_size))
    table.entries law.sound.sized in
    record { next = after_absent law.kind law.whole c.args.key.now absent }

pub returns-in-Some : goal.returns-in-Some
returns-in-Some c = record {
  next =
      after_present c.keys_are_its_indices.ensures.kind c.keys_are_its_indices.ensures.whole
      c.args.key.now c.in-Some.index c.in-Some.ensures.spelled
      c.in-Some.ensures.within;
}

pub returns-in-None : goal.returns-in-None
returns-in-None c = record {
  next =
      after_absent c.keys_are_its_indices.ensures.kind c.keys_are_its_indices.ensures.whole
      c.args.key.now (sym c.element_of.ensures.element ∙ c.in-None.is);
}
