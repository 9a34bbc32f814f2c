-- The machine values of a `RawBox` and of a `Handle`. Assumes `Logic`.
use Rattle.std.proofs.Common.{◌≡◌, ℕ, List, [], ◌∷◌, ◌++◌, refl, subst}
use mathlib.Core.Bool.{true, ◌&&◌}
use lib.Dec.{T, lit<}
use seplogic.Ra.Ura.{Ura}
use mir.Syntax.{impl, tnil, dnil}
use mir.Raw.{raw as bare}
use mir.Val.{Val, vptr, vstruct, vcons, vnil, of_list, has_ty, WT}
use base.Fml.{ftrue}
use base.Fraction.{full_share}
use base.Logic.{ent, guard, never, never_e, fst∗, snd∗, via, id⊢, guard_i}
use contract.Monad.{fact_use}
use types.Logic.{Logic, sem}
use types.Kit.{Item, Goal, Seq, Step, step, ‵, ◌$◌, move, drop, fsplit, fjoin, fpick, fpack, feq_i, feq_l, use1, given, learn}
use denote.RattleType.{RattleType, Valss}
use denote.Builtin.{RawPtr}
use denote.Memory.{lone}
use denote.RawPtr.{Ptr, block_ptr, null_ptr, ptr_val, in_a_block, lies_at, Testable}
use denote.Steps.{nothing}
use denote.Param.{layout}
use denote.Param.Laws.{Laws}
use denote.Struct.Struct.{within}
use denote.Struct.Owning.{shape}
use Rattle.core.specs.declared.alloc.Allocator.{Ghosts}
use Rattle.core.proofs.alloc.Calls.{Al, handle_tells as word_of}
use Rattle.core.proofs.cell.Inside.{Good, one}
use Rattle.std_alloc.specs.Box.Ownership.{box_owns}
use Rattle.std_alloc.proofs.ResultValues.{and_tt}
use Rattle.bpfhost_c.specs.contracts.raw_box.RawBox as raw_box
use Rattle.std.specs.Prelude.{Option, Some, None}
use Rattle.std_heap.proofs.GlobalToken.{dealloc_token-Testable}
use Rattle.bpfhost_c.specs.Owned.{handle_owns}
use Rattle.bpfhost_c.specs.contracts.session.Session as session
use Rattle.bpfhost_c.specs.contracts.handle.Handle as handle
use Rattle.std_heap.specs.contracts.Global as heap
use Rattle.std_heap.specs.contracts.GlobalAllocator.TheImpl.{ghosts}
use Rattle.std_heap.proofs.Global.TheLaws as heap_laws

abbrev pub both : Val → Val → Val
both v w = vstruct (vcons v (vcons w vnil))

module _ (R Z : RattleType) (L : Laws Z) (g : Ghosts Z.Denot) where
  abbrev pub RawBox : RattleType
  RawBox = raw_box.the_row R Z g

  abbrev pub al : Al
  al = record { row = Z; laws = L; g = g; d = impl [] tnil dnil; drops = impl [] tnil dnil }

  -- a pointer into a block and a value of the allocator are a well-typed value of a raw box
  pub raw_box_good : (b o : ℕ) (h : Val) → Good (layout Z) h → T (has_ty (layout Z) h && true) × WT (both (vptr b o) h)
  raw_box_good b o h fits = (and_tt (has_ty (layout Z) h) fits.0, (tt, (fits.1, tt)))

  module _ {M : Type 1} {𝓤 : Ura M} {𝓛 : Logic 𝓤} {K : Type 0} {Γ : List (Item 𝓤)} {G : Goal 𝓤 𝓛.H} where
    -- a raw box that is owned by value may be taken apart: into the box at its pointer, in a block, and the allocator
    pub raw_box_out : K
        → (d : RawBox.Denot) (vs : List Val)
        → ((b o : ℕ) (h : Val) → d.at ≡ block_ptr b o → vs ≡ both (vptr b o) h ∷ [] → Good (layout Z) h
        → Seq K 𝓛
        (‵ (box_owns (g.dealloc_token d.alloc) R (block_ptr b o) d.value) ∷ ‵ (Z.own_val d.alloc (h ∷ [])) ∷ Γ)
        G)
        → Seq K 𝓛 (‵ (RawBox.own_val d vs) ∷ Γ) G
    raw_box_out t d vs k =
        fsplit t $ fpick t (λ vss. fsplit t $ feq_l t (λ ev. fsplit t $ feq_l t (λ ep.
        fsplit t $ word_of al t d.alloc vss.1.0 (λ h ea fits. move t (1 ∷ []) $ drop t $ move t (1 ∷ []) $
        in_a_block t d.at
        (λ p. box_owns (g.dealloc_token d.alloc) R p d.value)
        (fst∗ 𝓤 (never 𝓤) (sem 𝓛 (g.dealloc_token d.alloc (bare (lone R.mir)) null_ptr))) (λ b o e. k b o h e
        (subst (λ (p : Ptr). vs ≡ vstruct (of_list (ptr_val p ∷ h ∷ [])) ∷ []) e
        (subst (λ (ws : List Val). vs ≡ vstruct (of_list (ptr_val d.at ∷ (ws ++ []))) ∷ []) ea
        (subst (λ (ps : List Val). vs ≡ vstruct (of_list (ps ++ (vss.1.0 ++ []))) ∷ []) ep ev)))
        fits)))))

    -- a box in a block and its allocator may be put together to a raw box that is owned by value
    pub raw_box_in : K
        → (b o : ℕ) (h : Val) (a : Z.Denot) (x : R.Denot)
        → Step K 𝓛
        (‵ (RawBox.own_val (record { at = block_ptr b o; alloc = a; value = x }) (both (vptr b o) h ∷ [])) ∷ Γ)
        G
        (‵ (box_owns (g.dealloc_token a) R (block_ptr b o) x) ∷ ‵ (Z.own_val a (h ∷ [])) ∷ Γ)
        G
    raw_box_in t b o h a x = step (λ s. let v : Val = both (vptr b o) h in
        nothing t $
        move t (2 ∷ 0 ∷ []) $
        fjoin t $
        feq_i t (List Val) (vptr b o ∷ []) (vptr b o ∷ []) refl $
        fjoin t $
        feq_i t (List Val) (v ∷ []) (v ∷ []) refl $
        fjoin t $
        fpack t (Valss (RawPtr ∷ Z ∷ []))
        (within (shape (raw_box.the_type R Z g)) (block_ptr b o, (a, tt)) (v ∷ []))
        (vptr b o ∷ [], (h ∷ [], tt)) $
        fjoin t $
        s)

-- the null pointer and a value of the allocator are a well-typed value of a handle
pub null_good : (h : Val)
    → Good (layout heap.the_row) h
    → T (has_ty (layout heap.the_row) h && true) × WT (both (ptr_val null_ptr) h)
null_good h fits = (and_tt (has_ty (layout heap.the_row) h) fits.0, (record { fits = lit< tt }, (fits.1, tt)))

-- a session's box in a block, which may be compared with null
abbrev pub boxed : heap.the_row.Denot → Ptr → session.the_row.Denot → base.Fml.Fml
boxed a p x = box_owns (ghosts.dealloc_token a) session.the_row p x

module _ {M : Type 1} {𝓤 : Ura M} (𝓛 : Logic 𝓤) where
  tested : (a : heap.the_row.Denot) (p : Ptr) (x : session.the_row.Denot)
      → ent 𝓤 (sem 𝓛 (boxed a p x)) (guard 𝓤 (Testable p) (sem 𝓛 (boxed a p x)))
  tested a p x =
      fact_use 𝓤 (Testable p)
      (via 𝓤 _
      (snd∗ 𝓤 (sem 𝓛 (lies_at session.the_row full_share p x))
      (sem 𝓛 (ghosts.dealloc_token a (bare (lone session.the_row.mir)) p)))
      (dealloc_token-Testable 𝓛 a (bare (lone session.the_row.mir)) p))
      (guard_i 𝓤 (Testable p) (sem 𝓛 (boxed a p x)))

-- a handle, by value
module _ {M : Type 1} {𝓤 : Ura M} {𝓛 : Logic 𝓤} {K : Type 0} {Γ : List (Item 𝓤)} {G : Goal 𝓤 𝓛.H} where
  -- a handle that is owned by value may be taken apart: into what its pointer owns of a session, and the allocator
  pub handle_out : K
      → (d : handle.the_row.Denot) (vs : List Val)
      → ((h : Val) → vs ≡ both (ptr_val d.at) h ∷ [] → Good (layout heap.the_row) h
      → Seq K 𝓛 (‵ (handle_owns d.alloc d.at d.session) ∷ ‵ (heap.the_row.own_val d.alloc (h ∷ [])) ∷ Γ) G)
      → Seq K 𝓛 (‵ (handle.the_row.own_val d vs) ∷ Γ) G
  handle_out t d vs k =
      fsplit t $ fpick t (λ vss. fsplit t $ feq_l t (λ ev. fsplit t $ feq_l t (λ ep.
      fsplit t $
      word_of (al heap.the_row heap.the_row heap_laws.the_row_laws ghosts) t d.alloc vss.1.0
      (λ h ea fits. move t (1 ∷ []) $ drop t $ move t (1 ∷ []) $
      k h
      (subst (λ (ws : List Val). vs ≡ vstruct (of_list (ptr_val d.at ∷ (ws ++ []))) ∷ []) ea
      (subst (λ (ps : List Val). vs ≡ vstruct (of_list (ps ++ (vss.1.0 ++ []))) ∷ []) ep ev))
      fits))))

  -- a handle has the null pointer and no session, or a pointer into a block with the box of its session
  pub handle_either : K
      → (a : heap.the_row.Denot) (p : Ptr) (s : Option session.the_row.Denot)
      → (p ≡ null_ptr → s ≡ None → Seq K 𝓛 Γ G)
      → ((b o : ℕ) (x : session.the_row.Denot) → p ≡ block_ptr b o → s ≡ Some x → Testable (block_ptr b o)
      → Seq K 𝓛 (‵ (boxed a (block_ptr b o) x) ∷ Γ) G)
      → Seq K 𝓛 (‵ (handle_owns a p s) ∷ Γ) G
  handle_either t a null_ptr None none one = drop t $ none refl refl
  handle_either t a null_ptr (Some x) none one =
      use1 𝓛 (given ⊥ (‵ ftrue)) (never_e 𝓤 _) $ learn t (λ wrong. absurd wrong)
  handle_either t a (block_ptr b o) None none one =
      use1 𝓛 (given ⊥ (‵ ftrue)) (never_e 𝓤 _) $ learn t (λ wrong. absurd wrong)
  handle_either t a (block_ptr b o) (Some x) none one =
      use1 𝓛 (given (Testable (block_ptr b o)) (‵ (boxed a (block_ptr b o) x))) (tested 𝓛 a (block_ptr b o) x) $
      learn t (λ e. one b o x refl refl e)

  -- what a pointer owns of a session, and the allocator, may be put together to a handle that is owned by value
  pub handle_in : K
      → (p : Ptr) (h : Val) (a : heap.the_row.Denot) (s : Option session.the_row.Denot)
      → Step K 𝓛
      (‵ (handle.the_row.own_val (record { at = p; alloc = a; session = s }) (both (ptr_val p) h ∷ [])) ∷ Γ)
      G
      (‵ (handle_owns a p s) ∷ ‵ (heap.the_row.own_val a (h ∷ [])) ∷ Γ)
      G
  handle_in t p h a s = step (λ k. let v : Val = both (ptr_val p) h in
      nothing t $
      move t (2 ∷ 0 ∷ []) $
      fjoin t $
      feq_i t (List Val) (ptr_val p ∷ []) (ptr_val p ∷ []) refl $
      fjoin t $
      feq_i t (List Val) (v ∷ []) (v ∷ []) refl $
      fjoin t $
      fpack t (Valss (RawPtr ∷ heap.the_row ∷ []))
      (within (shape (raw_box.the_type session.the_row heap.the_row ghosts)) (p, (a, tt)) (v ∷ []))
      (ptr_val p ∷ [], (h ∷ [], tt)) $
      fjoin t $
      use1 𝓛 (‵ (handle.the_row.own_val (record { at = p; alloc = a; session = s }) (v ∷ []))) (id⊢ 𝓤 _) $
      k)
