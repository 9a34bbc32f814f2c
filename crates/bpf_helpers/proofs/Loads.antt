-- Bytes of the packet that are written through a pointer.
use Rattle.std.proofs.Common.{◌≡◌, ℕ, ◌+◌, ◌%◌, ◌^◌, ◌-◌, ◌<◌, ◌==◌, leb, Bool, true, false}
use Rattle.std.proofs.Common.{if◌then◌else◌, List, length, replicate, Some, None, sym, ap, subst, ◌∙◌, arith}
use Rattle.std.specs.Prelude.{slice_index}
use Rattle.std.proofs.lemmas.Bool.{cond_both, and_parts, leb-true}
use Rattle.std.proofs.lemmas.Option.{none-some, same_Some}
use Rattle.std.proofs.lemmas.List.{length-replicate}
use Rattle.words.specs.Bytes.{bytes_at}
use Rattle.words.specs.ByteLaws.{length-bytes_at}
use Rattle.tagged_model.specs.declared.helper.Helper.TheVariants.{LoadBytes}
use Rattle.tagged_model.specs.declared.value.Tagged.{Tagged}
use Rattle.tagged_model.specs.declared.value.Tagged.TheVariants.{Scalar, Map, Pointer}
use Rattle.tagged_model.specs.Cells.{and_then}
use Rattle.tagged_model.specs.State.{RunState, output}
use Rattle.tagged_model.specs.Helpers.{argument, number_given, length_given, context_given, packet_bytes, packet_result, is_in_packet, returns, called}
use Rattle.arena.specs.Memory.{part_start, with_bytes}
use Rattle.arena.specs.Apart.{WritesStayInside}
use Rattle.bpf_helpers.specs.Layout.{Layout, IsWord}
use Rattle.bpf_helpers.specs.Stands.{IsRoom, Simulates}
use Rattle.bpf_helpers.specs.Named.{named_offset}
use Rattle.bpf_helpers.specs.inside.Laws.{LoadKeepsSimulation}
use Rattle.bpf_helpers.proofs.Many.{also_some}
use Rattle.bpf_helpers.proofs.Outputs.{outputs_keep_simulation}
use Rattle.bpf_helpers.specs.States.{Environment, FlatState, with_memory}

-- an argument that is taken as a number is this number
pub is_number : (v : Tagged) (n : ℕ) → number_given v ≡ Some n → v ≡ Scalar n
is_number (Scalar m) n e = ap (λ (k : ℕ). Scalar k) (same_Some m n e)
is_number (Map m) n e = absurd (none-some n e)
is_number (Pointer o x) n e = absurd (none-some n e)

is_length : (v : Tagged) (n : ℕ) → length_given v ≡ Some n → v ≡ Scalar n
is_length (Scalar m) n e = by (m == 0) e
  where
    by : (b : Bool) → (if b then None else Some m) ≡ Some n → Scalar m ≡ Scalar n
    by true e = absurd (none-some n e)
    by false e = ap (λ (k : ℕ). Scalar k) (same_Some m n e)
is_length (Map m) n e = absurd (none-some n e)
is_length (Pointer o x) n e = absurd (none-some n e)

length-packet_bytes : (packet : List ℕ) (offset n : ℕ) → length (packet_bytes packet offset n) ≡ n
length-packet_bytes packet offset n =
    cond_both (is_in_packet packet offset n) (bytes_at packet (offset % 2 ^ 32) n) (replicate n 0)
    (λ (x : List ℕ). length x ≡ n)
    (λ b.
    length-bytes_at packet (offset % 2 ^ 32) n
    (leb-true (offset % 2 ^ 32 + n) (length packet)
    (and_parts (leb (offset % 2 ^ 32) (2 ^ 31 - 1)) (leb (offset % 2 ^ 32 + n) (length packet)) b).1))
    (λ b. length-replicate n 0)

module _ (env : Environment) (l : Layout) (flat : FlatState) (s : RunState)
    (room : IsRoom env.memory env.tenant) (stands : Simulates env l flat s) where
  -- the word of a register that holds a number is this number
  pub number_word : (r n : ℕ) → r < 11 → argument s r number_given ≡ Some n → slice_index flat.registers r ≡ n
  number_word r n lt e =
      let a = also_some (s.registers r) number_given n e in
      subst (λ v. IsWord env l v (slice_index flat.registers r)) (is_number a.0 n a.2) (stands.values r a.0 lt a.1)

  length_word : (r n : ℕ) → r < 11 → argument s r length_given ≡ Some n → slice_index flat.registers r ≡ n
  length_word r n lt e =
      let a = also_some (s.registers r) length_given n e in
      subst (λ v. IsWord env l v (slice_index flat.registers r)) (is_length a.0 n a.2) (stands.values r a.0 lt a.1)

  module _ (writes : WritesStayInside) where
    written : (offset n : ℕ) (u v : RunState)
        → slice_index flat.registers 2 ≡ offset → slice_index flat.registers 4 ≡ n
        → argument s 3 (λ p. output s p (packet_bytes s.packet offset n)) ≡ Some v
        → Some (returns v (Scalar (packet_result s.packet offset n))) ≡ Some u
        → LoadKeepsSimulation env l flat s u
    written offset n u v first last e f =
        let d = also_some (s.registers 3) (λ p. output s p (packet_bytes s.packet offset n)) v e in
        let r =
        outputs_keep_simulation writes env l flat s v d.0 (slice_index flat.registers 3)
        (packet_bytes s.packet offset n) room stands (stands.values 3 d.0 (omega arith) d.1)
        d.2 in
        record {
          offset = r.0;
          offset_is =
              ap (λ (x : ℕ). named_offset flat.memory env.tenant x (slice_index flat.registers 3))
              (last ∙ sym (length-packet_bytes s.packet offset n))
              ∙ r.1;
          written = v;
          stands =
              subst (λ (x : ℕ).
              Simulates env l
              (with_memory flat
              (with_bytes flat.memory (part_start flat.memory env.tenant + r.0)
              (packet_bytes s.packet (slice_index flat.registers 2) x)))
              v)
              (sym last)
              (subst (λ (x : ℕ).
              Simulates env l
              (with_memory flat
              (with_bytes flat.memory (part_start flat.memory env.tenant + r.0) (packet_bytes s.packet x n)))
              v)
              (sym first) r.2);
          is =
              sym (same_Some (returns v (Scalar (packet_result s.packet offset n))) u f)
              ∙ ap (λ (x : ℕ). returns v (Scalar (packet_result s.packet x n))) (sym first)
              ∙ ap (λ (x : ℕ). returns v (Scalar (packet_result s.packet (slice_index flat.registers 2) x))) (sym last);
        }

    -- if the tagged machine has a load of bytes, the memory with the bytes written represents the state after it
    pub load_stands : (u : RunState) → called LoadBytes s ≡ Some u → LoadKeepsSimulation env l flat s u
    load_stands u e =
        let a =
        also_some (argument s 1 context_given)
        (λ c.
        and_then (argument s 2 number_given)
        (λ offset.
        and_then (argument s 4 length_given)
        (λ n.
        and_then (argument s 3 (λ p. output s p (packet_bytes s.packet offset n)))
        (λ t. Some (returns t (Scalar (packet_result s.packet offset n)))))))
        u e in
        let b =
        also_some (argument s 2 number_given)
        (λ offset.
        and_then (argument s 4 length_given)
        (λ n.
        and_then (argument s 3 (λ p. output s p (packet_bytes s.packet offset n)))
        (λ t. Some (returns t (Scalar (packet_result s.packet offset n))))))
        u a.2 in
        let c =
        also_some (argument s 4 length_given)
        (λ n.
        and_then (argument s 3 (λ p. output s p (packet_bytes s.packet b.0 n)))
        (λ t. Some (returns t (Scalar (packet_result s.packet b.0 n)))))
        u b.2 in
        let d =
        also_some (argument s 3 (λ p. output s p (packet_bytes s.packet b.0 c.0)))
        (λ t. Some (returns t (Scalar (packet_result s.packet b.0 c.0))))
        u c.2 in
        written b.0 c.0 u d.0 (number_word 2 b.0 (omega arith) b.1) (length_word 4 c.0 (omega arith) c.1) d.1 d.2
