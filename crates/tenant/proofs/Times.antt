-- Maps that are held or released one after another.
use Rattle.std.proofs.Common.{◌≡◌, ℕ, zero, suc, ◌+◌, ◌≤◌, ◌<◌, List, [], ◌∷◌, length, take, get_or, refl, sym, ap, ◌∙◌, arith}
use Rattle.std.proofs.Math.Seq.{take-length}
use Rattle.bpf_maps.specs.declared.part.TheConstants.{PART}
use Rattle.tenant.specs.Kept.{times_listed, AreHeld}
use Rattle.tenant.specs.inside.Leaves.{HeldMaps, LeavesHeldMaps}
use Rattle.tenant.proofs.Releases.{one_at, here_one}

-- how often a handle is in the first i + 1 handles
times-next : (ps : List ℕ) (i p d q : ℕ)
    → i < length ps → p ≡ get_or ps i d
    → times_listed q (take (suc i) ps) ≡ times_listed q (take i ps) + one_at p q
unfolding times_listed
times-next [] i p d q within at = absurd (omega arith)
times-next (x ∷ ps) zero p d q within at =
    let same : one_at x q ≡ one_at p q = ap (λ (y : ℕ). one_at y q) (sym at) in omega arith
times-next (x ∷ ps) (suc i) p d q within at = let rest = times-next ps i p d q (omega arith) at in omega arith

-- one more handle of a list adds 1 to the count of this handle, and 0 to that of another one
pub times-more : (ps : List ℕ) (i p d q : ℕ)
    → i < length ps → p ≡ get_or ps i d
    → times_listed q (take (i + 1) ps) ≡ times_listed q (take i ps) + one_at p q
times-more ps i p d q within at =
    let e : i + 1 ≡ suc i = omega arith in
    ap (λ (n : ℕ). times_listed q (take n ps)) e ∙ times-next ps i p d q within at

-- the first i handles have it at most as often as all
times-first : (ps : List ℕ) (i q : ℕ) → times_listed q (take i ps) ≤ times_listed q ps
unfolding times_listed
times-first [] zero q = omega arith
times-first [] (suc i) q = omega arith
times-first (p ∷ ps) zero q = omega arith
times-first (p ∷ ps) (suc i) q = let rest = times-first ps i q in omega arith

-- the handle at an index is listed at least once more in the whole list than before the index
pub times-left : (ps : List ℕ) (i p d : ℕ)
    → i < length ps → p ≡ get_or ps i d
    → times_listed p (take i ps) + 1 ≤ times_listed p ps
times-left ps i p d within at =
    let more = times-more ps i p d p within at in
    let one = here_one p p refl in
    let first = times-first ps (i + 1) p in
    omega arith

-- if i is the number of all handles, the first i handles are all
pub times-all : (ps : List ℕ) (i q : ℕ) → i ≡ length ps → times_listed q (take i ps) ≡ times_listed q ps
times-all ps i q all = ap (λ (n : ℕ). times_listed q (take n ps)) all ∙ ap (times_listed q) (take-length ps)

-- without a release each live map has the shape, keys and values of before
pub leaves_all : {m : HeldMaps} → AreHeld m.live → length m.part ≡ PART → LeavesHeldMaps m m
leaves_all held whole = record { held = held; stays = λ q live. (live, refl); refused = refl; whole = whole }

-- if some releases leave the held maps, and then others do, all of them together do
pub leaves_then : {a b c : HeldMaps} → LeavesHeldMaps a b → LeavesHeldMaps b c → LeavesHeldMaps a c
leaves_then h k = record {
  held = k.held;
  stays = λ q live. let (there, same) = k.stays q live in let (was, too) = h.stays q there in (was, same ∙ too);
  refused = k.refused ∙ h.refused;
  whole = k.whole;
}

-- in the empty list no handle is listed
pub times-none : (q : ℕ) → times_listed q [] ≡ 0
unfolding times_listed
times-none q = refl
