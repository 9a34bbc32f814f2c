-- The machine values of a `Prepared`. Assumes `Logic`.
use Rattle.std.proofs.Common.{◌≡◌, ℕ, List, [], ◌∷◌, ◌++◌, refl, subst}
use seplogic.Ra.Ura.{Ura}
use mir.Raw.{raw as bare}
use mir.Val.{Val, vstruct, of_list}
use base.Fml.{ftrue}
use base.Fraction.{full_share}
use base.Logic.{ent, guard, never_e, snd∗, via, id⊢, guard_i}
use contract.Monad.{fact_use}
use types.Logic.{Logic, sem}
use types.Kit.{Item, Goal, Seq, Step, step, ‵, ◌$◌, move, drop, fsplit, fjoin, fpick, fpack, feq_i, feq_l, use1, given, learn}
use denote.RattleType.{Valss}
use denote.Builtin.{RawPtr}
use denote.Memory.{lone}
use denote.RawPtr.{Ptr, block_ptr, null_ptr, ptr_val, lies_at, Testable}
use denote.Steps.{nothing}
use denote.Param.{layout}
use denote.Struct.Struct.{within}
use denote.Struct.Owning.{shape}
use Rattle.core.proofs.alloc.Calls.{handle_tells as word_of}
use Rattle.core.proofs.cell.Inside.{Good, one}
use Rattle.std_alloc.specs.Box.Ownership.{box_owns}
use Rattle.bpfhost_c.specs.contracts.raw_box.RawBox as raw_box
use Rattle.std.specs.Prelude.{Option, Some, None}
use Rattle.std_heap.proofs.GlobalToken.{dealloc_token-Testable}
use Rattle.bpfhost_c.specs.OwnedProgram.{prepared_owns}
use Rattle.verifier.specs.contracts.verified.Verified as program
use Rattle.bpfhost_c.specs.contracts.prepared.Prepared as prepared
use Rattle.std_heap.specs.contracts.Global as heap
use Rattle.std_heap.specs.contracts.GlobalAllocator.TheImpl.{ghosts}
use Rattle.std_heap.proofs.Global.TheLaws as heap_laws
use Rattle.bpfhost_c.proofs.Values.{al, both}

-- a program's box in a block, which may be compared with null
abbrev pub boxed : heap.the_row.Denot → Ptr → program.the_row.Denot → base.Fml.Fml
boxed a p x = box_owns (ghosts.dealloc_token a) program.the_row p x

module _ {M : Type 1} {𝓤 : Ura M} (𝓛 : Logic 𝓤) where
  tested : (a : heap.the_row.Denot) (p : Ptr) (x : program.the_row.Denot)
      → ent 𝓤 (sem 𝓛 (boxed a p x)) (guard 𝓤 (Testable p) (sem 𝓛 (boxed a p x)))
  tested a p x =
      fact_use 𝓤 (Testable p)
      (via 𝓤 _
      (snd∗ 𝓤 (sem 𝓛 (lies_at program.the_row full_share p x))
      (sem 𝓛 (ghosts.dealloc_token a (bare (lone program.the_row.mir)) p)))
      (dealloc_token-Testable 𝓛 a (bare (lone program.the_row.mir)) p))
      (guard_i 𝓤 (Testable p) (sem 𝓛 (boxed a p x)))

-- the handle of a program, by value
module _ {M : Type 1} {𝓤 : Ura M} {𝓛 : Logic 𝓤} {K : Type 0} {Γ : List (Item 𝓤)} {G : Goal 𝓤 𝓛.H} where
  -- a program's handle may be taken apart: into what its pointer owns of the program, and the allocator
  pub prepared_out : K
      → (d : prepared.the_row.Denot) (vs : List Val)
      → ((h : Val) → vs ≡ both (ptr_val d.at) h ∷ [] → Good (layout heap.the_row) h
      → Seq K 𝓛 (‵ (prepared_owns d.alloc d.at d.program) ∷ ‵ (heap.the_row.own_val d.alloc (h ∷ [])) ∷ Γ) G)
      → Seq K 𝓛 (‵ (prepared.the_row.own_val d vs) ∷ Γ) G
  prepared_out t d vs k =
      fsplit t $ fpick t (λ vss. fsplit t $ feq_l t (λ ev. fsplit t $ feq_l t (λ ep.
      fsplit t $
      word_of (al heap.the_row heap.the_row heap_laws.the_row_laws ghosts) t d.alloc vss.1.0
      (λ h ea fits. move t (1 ∷ []) $ drop t $ move t (1 ∷ []) $
      k h
      (subst (λ (ws : List Val). vs ≡ vstruct (of_list (ptr_val d.at ∷ (ws ++ []))) ∷ []) ea
      (subst (λ (ps : List Val). vs ≡ vstruct (of_list (ps ++ (vss.1.0 ++ []))) ∷ []) ep ev))
      fits))))

  -- a program's handle has the null pointer and no program, or a pointer into a block with the program's box
  pub prepared_either : K
      → (a : heap.the_row.Denot) (p : Ptr) (s : Option program.the_row.Denot)
      → (p ≡ null_ptr → s ≡ None → Seq K 𝓛 Γ G)
      → ((b o : ℕ) (x : program.the_row.Denot) → p ≡ block_ptr b o → s ≡ Some x → Testable (block_ptr b o)
      → Seq K 𝓛 (‵ (boxed a (block_ptr b o) x) ∷ Γ) G)
      → Seq K 𝓛 (‵ (prepared_owns a p s) ∷ Γ) G
  prepared_either t a null_ptr None none one = drop t $ none refl refl
  prepared_either t a null_ptr (Some x) none one =
      use1 𝓛 (given ⊥ (‵ ftrue)) (never_e 𝓤 _) $ learn t (λ wrong. absurd wrong)
  prepared_either t a (block_ptr b o) None none one =
      use1 𝓛 (given ⊥ (‵ ftrue)) (never_e 𝓤 _) $ learn t (λ wrong. absurd wrong)
  prepared_either t a (block_ptr b o) (Some x) none one =
      use1 𝓛 (given (Testable (block_ptr b o)) (‵ (boxed a (block_ptr b o) x))) (tested 𝓛 a (block_ptr b o) x) $
      learn t (λ e. one b o x refl refl e)

  -- what a pointer owns of a program, and the allocator, may be put together to the program's handle
  pub prepared_in : K
      → (p : Ptr) (h : Val) (a : heap.the_row.Denot) (s : Option program.the_row.Denot)
      → Step K 𝓛
      (‵ (prepared.the_row.own_val (record { at = p; alloc = a; program = s }) (both (ptr_val p) h ∷ [])) ∷ Γ)
      G
      (‵ (prepared_owns a p s) ∷ ‵ (heap.the_row.own_val a (h ∷ [])) ∷ Γ)
      G
  prepared_in t p h a s = step (λ k. let v : Val = both (ptr_val p) h in
      nothing t $
      move t (2 ∷ 0 ∷ []) $
      fjoin t $
      feq_i t (List Val) (ptr_val p ∷ []) (ptr_val p ∷ []) refl $
      fjoin t $
      feq_i t (List Val) (v ∷ []) (v ∷ []) refl $
      fjoin t $
      fpack t (Valss (RawPtr ∷ heap.the_row ∷ []))
      (within (shape (raw_box.the_type program.the_row heap.the_row ghosts)) (p, (a, tt)) (v ∷ []))
      (ptr_val p ∷ [], (h ∷ [], tt)) $
      fjoin t $
      use1 𝓛 (‵ (prepared.the_row.own_val (record { at = p; alloc = a; program = s }) (v ∷ []))) (id⊢ 𝓤 _) $
      k)
