-- `put`: `claim` gets the bytes of the key (`key_read`). If it returns an element, the value is copied to this element's offset, which is
-- unchanged by the law `areas_keep_elements`; if it returns an error, the memory is unchanged.
use Rattle.std.proofs.Common.{◌≡◌, ℕ, ◌+◌, ◌≤◌, List, slice_range, Ok, Err, refl, ap, subst, ◌∙◌, arith}
use Rattle.words.specs.Bytes.{bytes_at}
use Rattle.tagged_model.specs.declared.shape.MapShape.{MapShape}
use Rattle.tagged_model.specs.Table.{verdict}
use Rattle.arena.specs.Memory.{part_start, with_bytes}
use Rattle.bpf_maps.specs.KeyTable.{table_of, Claims}
use Rattle.bpf_maps.specs.Live.{keys_at, shape_at, offset_at}
use Rattle.bpf_helpers.proofs.Words.{part_range}
use Rattle.bpf_helpers.proofs.Copied.{copied_is}
use Rattle.bpf_helpers.proofs.update.put.Goals as goal
use Rattle.bpf_helpers.proofs.update.put.Goals.{After-claim}

-- the bytes that the code reads are the key's
key_read : (c : After-claim)
    → slice_range c.part-part.result.now c.args.at.key (c.args.at.key + c.shape-shape.result.key_size)
    ≡ bytes_at c.args.arena.now.bytes
    (part_start c.args.arena.now c.args.caller.tenant + c.args.at.key)
    (shape_at c.args.maps.now c.args.map).key_size
key_read c =
    let memory = c.args.arena.now in
    let t = c.args.caller.tenant in
    let n = c.shape-shape.result.key_size in
    let size : n ≡ (shape_at c.args.maps.now c.args.map).key_size =
    ap (λ (s : MapShape). s.key_size) c.shape-shape.ensures in
    let fits : c.args.at.key + n ≤ memory.part = omega (arith, size, c.requires.key, c.requires.part.1) in
    part_range memory t c.args.at.key n c.part-part.result.now c.part-part.ensures.bytes fits
    ∙ ap (λ (m : ℕ). bytes_at memory.bytes (part_start memory t + c.args.at.key) m) size

pub returns-in-Ok-clause-updated : goal.returns-in-Ok-clause-updated
returns-in-Ok-clause-updated c =
    let memory = c.args.arena.now in
    let t = c.args.caller.tenant in
    let old = c.args.maps.now in
    let new = c.claim.new.self in
    let k = c.args.map in
    let value : c.shape-shape.result.value_size ≡ (shape_at old k).value_size =
    ap (λ (s : MapShape). s.value_size) c.shape-shape.ensures in
    let after : (shape_at new k).value_size ≡ (shape_at old k).value_size =
    ap (λ (s : MapShape). s.value_size) c.in-Ok.ensures.rest.shape in
    let stays =
    c.areas_keep_elements.ensures old new k c.in-Ok.element c.in-Ok.ensures.rest.areas c.in-Ok.ensures.rest.live in
    let inside = c.value_at.ensures.inside in
    let within = inside.within in
    record {
      claim = Ok c.in-Ok.element;
      claimed =
          subst (λ (b : List ℕ).
          Claims (verdict (table_of (keys_at old k)) b c.args.flags) b (keys_at old k)
          (Ok c.in-Ok.element) (keys_at new k))
          (key_read (goal.at.returns-in-Ok-clause-updated c).After-claim)
          c.in-Ok.ensures.claimed;
      rest = c.in-Ok.ensures.rest;
      word_is = refl;
      memory_is = c.copy_inside.ensures.bytes
          ∙ copied_is memory c.shape-shape.result.value_size (c.address-start.result + c.args.at.value)
          (c.address-start.result + c.value_at.result) (part_start memory t + c.args.at.value)
          (part_start memory t + offset_at old k c.in-Ok.element)
          (omega (arith, c.address-start.ensures.value))
          (omega (arith, c.address-start.ensures.value, c.value_at.ensures.offset, stays))
          (omega (arith, value, c.requires.value, c.requires.part.1, c.address-start.ensures.room))
          (omega (
            arith,
            value,
            after,
            within,
            c.value_at.ensures.offset,
            stays,
            c.address-start.ensures.room,
            c.requires.part.1,
          ))
          ∙ ap (λ (m : ℕ).
          with_bytes memory
          (part_start memory t + offset_at old k c.in-Ok.element)
          (bytes_at memory.bytes (part_start memory t + c.args.at.value) m))
          value;
    }

pub returns-in-Err-clause-updated : goal.returns-in-Err-clause-updated
returns-in-Err-clause-updated c =
    let old = c.args.maps.now in
    let new = c.claim.new.self in
    let k = c.args.map in
    record {
      claim = Err c.in-Err.fault;
      claimed =
          subst (λ (b : List ℕ).
          Claims (verdict (table_of (keys_at old k)) b c.args.flags) b (keys_at old k)
          (Err c.in-Err.fault) (keys_at new k))
          (key_read (goal.at.returns-in-Err-clause-updated c).After-claim)
          c.in-Err.ensures.claimed;
      rest = c.in-Err.ensures.rest;
      word_is = c.fault_word.ensures;
      memory_is = refl;
    }
