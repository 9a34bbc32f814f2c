-- `put_elements`: after a turn the list also has the element that was pushed, once, and so each element less than the next one
-- (`times-next`); its capacity is unchanged, by the contract of `push_reserved`.
use Rattle.std.proofs.Common.{◌∙◌, ap, arith}
use Rattle.bpf_maps.specs.KeyTable.{occurrences}
use Rattle.bpf_maps.proofs.Counts.{times-next}
use Rattle.bpf_maps.proofs.hash_map.put_elements.Goals as goal

pub loop-element-preserved : goal.loop-element-preserved
loop-element-preserved c = record {
  once = λ p.
      ap (occurrences p) c.push_reserved.ensures.items
      ∙ times-next p c.loop-element.element c.loop-element.all.items (c.loop-element.invariant.once p);
  length = let a = c.loop-element.invariant.length in let b = c.push_reserved.ensures.len in omega arith;
  capacity = c.push_reserved.ensures.capacity ∙ c.loop-element.invariant.capacity;
  room = let a = c.loop-element.invariant.room in let b = c.push_reserved.ensures.capacity in omega arith;
}
