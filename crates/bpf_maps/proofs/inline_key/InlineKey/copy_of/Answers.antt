-- `copy_of` of `InlineKey`: the invariant holds, as the copied bytes and the zeros after them fill the array, by induction over the bytes
-- (`filled`).
use Rattle.std.proofs.Common.{◌≡◌, ℕ, ◌-◌, List, ◌++◌, length, drop, replicate, sym, subst}
use Rattle.bpf_maps.proofs.InlineKeys.{filled}
use Rattle.bpf_maps.proofs.inline_key.InlineKey.copy_of.Goals as goal

pub invariant_of-result : goal.invariant_of-result
invariant_of-result g c =
    let n = length c.args.bytes.now in
    let zeros = drop n (replicate g.row.N 0) in
    let f = filled c.args.bytes.now g.row.N c.requires.short in
    let copied = sym c.copy_from_slice.ensures.after in (
      c.requires.short,
      subst (λ (xs : List ℕ). length (xs ++ zeros) ≡ g.row.N) copied f.0,
      subst (λ (xs : List ℕ). drop n (xs ++ zeros) ≡ replicate (g.row.N - n) 0) copied f.1,
    )
