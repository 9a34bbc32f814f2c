-- An update keeps no element apart.
use Rattle.std.proofs.Common.{◌≡◌, ℕ, eqb, List, Option, Some, None, Result, Ok, Err, sym, ap, subst, ⊎_elim}
use Rattle.std.proofs.lemmas.Bool.{eqb-true, eqb-false, cases_Bool}
use Rattle.tagged_model.specs.declared.fault.MapFault.{MapFault}
use Rattle.tagged_model.specs.Table.{Verdict, Refused, Present, New, verdict}
use Rattle.bpf_maps.specs.KeyTable.{KeyTable, table_of, Claims}
use Rattle.bpf_maps.specs.Live.{LiveMaps, LiveMap, live_or, keys_at}
use Rattle.bpf_helpers.specs.Named.{NamedPair}
use Rattle.bpf_helpers.specs.Calls.{SameApart}
use Rattle.bpf_helpers.specs.States.{CallState, CallResult}
use Rattle.bpf_helpers.specs.inside.Flat.{UpdatesNamed}

-- a claim leaves the elements that are kept apart
claims_apart : (v : Verdict ℕ) (key : List ℕ) (old : KeyTable) (answer : Result ℕ MapFault) (new : KeyTable)
    → Claims v key old answer new → new.kept ≡ old.kept
claims_apart (Refused fault) key old answer new claims = ap (λ (t : KeyTable). t.kept) claims.1
claims_apart (Present p) key old answer new claims = ap (λ (t : KeyTable). t.kept) claims.1
claims_apart New key old (Ok p) new claims = ap (λ (t : KeyTable). t.kept) claims.1
claims_apart New key old (Err fault) new claims = absurd claims

-- an update leaves them in each map
pub updates_apart : (here : CallState) (pair : Option NamedPair) (flags : ℕ) (answer : CallResult)
    → UpdatesNamed here pair flags answer → SameApart here.maps answer.maps
updates_apart here None flags answer nothing key = ap (λ (maps : LiveMaps). (keys_at maps key).kept) nothing.2
updates_apart here (Some pair) flags answer updates key =
    ⊎_elim
    (λ b.
    let claimed =
    claims_apart (verdict (table_of (keys_at here.maps pair.map)) pair.key flags) pair.key
    (keys_at here.maps pair.map) updates.claim (keys_at answer.maps pair.map)
    updates.claimed in
    subst (λ (k : ℕ). (keys_at answer.maps k).kept ≡ (keys_at here.maps k).kept)
    (sym (eqb-true key pair.map b)) claimed)
    (λ b. ap (λ (o : Option LiveMap). (live_or o).keys.kept) (updates.rest.others key (eqb-false key pair.map b)))
    (cases_Bool (eqb key pair.map))
