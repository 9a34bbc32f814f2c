-- A program that is accepted has a live map for each descriptor that it loads.
use Rattle.std.proofs.Common.{◌≡◌, ℕ, List, length, IsSome, sym, ap, subst, ◌∙◌}
use Rattle.std.specs.List.{zip}
use Rattle.std.specs.Map.{keys_of}
use Rattle.std.proofs.lemmas.Option.{slice_get_within, get_or_from_slice_get}
use Rattle.bpf_maps.specs.Live.{map_in}
use Rattle.fd_table.specs.Table.{named}
use Rattle.insn_set.specs.declared.insn.Insn.{Insn}
use Rattle.tagged_model.specs.Named.{shapes_named}
use Rattle.tagged_model.specs.declared.shape.Named.{Named}
use Rattle.verifier.specs.Laws.{LoadedMapsHaveShapes, MapsAreListed}
use Rattle.verifier.specs.Maps.{maps_of}
use Rattle.verifier.specs.Verdict.{IsAccepted}
use Rattle.tenant.specs.Kept.{KeptTenant, IsWellFormedTenant, IsBound, state_in}
use Rattle.tenant.specs.inside.Loading.{AreLive}
use Rattle.tenant.specs.Loaded.{LoadedProgram}
use Rattle.tenant.specs.Machine.{loaded_program, handles_from, targets}
use Rattle.tenant.proofs.LookUps.{live_named}
use Rattle.tenant.proofs.Named.{named_is_live}
use Rattle.tenant.proofs.LoadingHandles.{seconds, handles_keys, lookup_named, times_named, times_once, length-seconds, length-firsts, paired}
use Rattle.tenant.proofs.LoadingShapes.{shapes_picked, shape_is, shaped_map}

-- a loaded program is determined by its instructions, its targets and its maps
pub loaded_is : (l : LoadedProgram) (insns : List Insn) (named : List Named) (maps : List (ℕ × ℕ))
    → l.insns ≡ insns → l.named ≡ named
    → l.maps ≡ maps
    → l ≡ record { insns = insns; named = named; maps = maps }
loaded_is l insns named maps a b c =
    ap (λ (is : List Insn). record { insns = is; named = l.named; maps = l.maps }) a
    ∙ ap (λ (ns : List Named). record { insns = insns; named = ns; maps = l.maps }) b
    ∙ ap (λ (ms : List (ℕ × ℕ)). record { insns = insns; named = named; maps = ms }) c

-- the handle of each map that descriptors name is live
pub loaded_live : {k : KeptTenant}
    → IsWellFormedTenant k
    → (fds : List ℕ) → AreLive k.live (seconds (handles_from k.objects fds))
loaded_live {k} is fds handle some =
    let (i, fd, at, opened) = times_named k.objects fds handle some in (named_is_live is fd opened).live

module _ (have : LoadedMapsHaveShapes) (k : KeptTenant) (part : List ℕ) (insns : List Insn)
    (accepted : IsAccepted insns (targets (state_in part k))) where
  -- the entries have the descriptors of the program's loads
  keys : keys_of (handles_from k.objects (maps_of insns)) ≡ maps_of insns
  keys = handles_keys k.objects (maps_of insns) (λ i fd at.
      shaped_map (state_in part k) fd
      (subst (λ (n : ℕ). IsSome (shapes_named (targets (state_in part k)) n))
      (get_or_from_slice_get (maps_of insns) i fd 0 at)
      (have.named insns (targets (state_in part k)) accepted i 0 (slice_get_within (maps_of insns) i fd at))))

  -- an accepted program has as many handles as it loads maps
  pub loaded_count : length (seconds (handles_from k.objects (maps_of insns))) ≡ length (maps_of insns)
  loaded_count =
      let ms = handles_from k.objects (maps_of insns) in length-seconds ms ∙ sym (length-firsts ms) ∙ ap length keys

  -- the descriptors and the handles, paired, are the entries of the machine
  pub loaded_pairs :
      zip (maps_of insns) (seconds (handles_from k.objects (maps_of insns))) ≡ handles_from k.objects (maps_of insns)
  loaded_pairs =
      let ms = handles_from k.objects (maps_of insns) in
      ap (λ (fds : List ℕ). zip fds (seconds ms)) (sym keys) ∙ paired ms

  -- an accepted program is bound to the live maps that its descriptors name
  pub loaded_bound : MapsAreListed → IsWellFormedTenant k → IsBound k.live (loaded_program (state_in part k) insns)
  loaded_bound listed is = record {
    each = keys;
    once = times_once k.objects (maps_of insns) is.single (λ i j fd a b. listed.once insns i j fd a b);
    shaped = λ fd handle found.
        let (i, at, opened) = lookup_named k.objects (maps_of insns) fd handle found in
        let here = named_is_live is fd opened in (
          here.live,
          shapes_picked (maps_of insns) (targets (state_in part k)) i fd at
              ∙ shape_is (state_in part k) fd handle (map_in part k.live handle) opened (live_named part here),
        );
  }
