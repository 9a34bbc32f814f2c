-- `part_mut` of `Arena`: the slice has the bytes of the part, by the contract of `slice_mut`; when the borrow ends, the memory has the
-- slice's bytes from the start of the part on, and all others are unchanged (`relent`).
use Rattle.std.proofs.Common.{◌≡◌, ℕ, ◌*◌, List, refl, ap, ◌∙◌}
use Rattle.words.specs.ByteLaws.{range_is_bytes}
use Rattle.arena.specs.Bytes.{written_at, bytes_at}
use Rattle.arena.specs.Memory.{Memory, with_part, part_bytes, refilled}
use Rattle.arena.proofs.Parts.{relent}
use Rattle.arena.proofs.memory.Arena.part_mut.Goals as goal

pub returns : goal.returns
returns c =
    let v = c.self.inside.bytes in
    let parts = c.self.inside.parts in
    let size = c.self.inside.part_size in
    let t = c.args.tenant in
    let start = c.start-start.result in
    let start_is : start ≡ t * size = c.start-start.ensures.value in (
      (
        refl,
        λ w.
            ap (λ (l : List ℕ). let m : Memory = record { bytes = l; parts = parts; part = size } in m)
            (relent v.items v.len start w v.ok.0)
            ∙ ap (λ (n : ℕ).
            let m : Memory = record { bytes = refilled v.items (written_at v.items n w); parts = parts; part = size } in
            m)
            start_is
            ∙ ap (λ (m : Memory). with_part m t w) c.self.view_is,
      ),
      record {
        lends = tt;
        bytes =
            c.slice_mut.ensures.value
            ∙ range_is_bytes v.items start size
            ∙ ap (λ (n : ℕ). bytes_at v.items n size) start_is
            ∙ ap (λ (m : Memory). part_bytes m t) c.self.view_is;
      },
    )
