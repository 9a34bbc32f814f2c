-- Claims and deletions carried over to equal tables of keys.
use Rattle.std.proofs.Common.{◌≡◌, ℕ, List, Result, Ok, Err, ap, subst}
use Rattle.tagged_model.specs.declared.fault.MapFault.{MapFault}
use Rattle.tagged_model.specs.Table.{Verdict, Refused, Present, New, verdict, removal}
use Rattle.bpf_maps.specs.KeyTable.{KeyTable, table_of, Claims, Removes}

-- a claim in a table of keys is one in an equal table, with the same result
pub claims_along : (key : List ℕ) (flags : ℕ) (answer : Result ℕ MapFault) {t t' u u' : KeyTable}
    → t ≡ t' → u ≡ u'
    → Claims (verdict (table_of t) key flags) key t answer u
    → Claims (verdict (table_of t') key flags) key t' answer u'
claims_along key flags answer {t = t} {u' = u'} e f h =
    subst (λ (x : KeyTable). Claims (verdict (table_of x) key flags) key x answer u') e
    (subst (λ (y : KeyTable). Claims (verdict (table_of t) key flags) key t answer y) f h)

-- a delete from a table of keys is one from an equal table, with the same result
pub removes_along : (key : List ℕ) (answer : Result (Unit {0}) MapFault) {t t' u u' : KeyTable}
    → t ≡ t' → u ≡ u'
    → Removes (removal (table_of t) key) key t answer u
    → Removes (removal (table_of t') key) key t' answer u'
removes_along key answer {t = t} {u' = u'} e f h =
    subst (λ (x : KeyTable). Removes (removal (table_of x) key) key x answer u') e
    (subst (λ (y : KeyTable). Removes (removal (table_of t) key) key t answer y) f h)

-- a map keeps its shape
pub claims_shape : (v : Verdict ℕ) (key : List ℕ) (old new : KeyTable) (answer : Result ℕ MapFault)
    → Claims v key old answer new → new.shape ≡ old.shape
claims_shape (Refused f) key old new answer h = ap (λ (t : KeyTable). t.shape) h.1
claims_shape (Present p) key old new answer h = ap (λ (t : KeyTable). t.shape) h.1
claims_shape New key old new (Ok p) h = ap (λ (t : KeyTable). t.shape) h.1
claims_shape New key old new (Err fault) h = absurd h

-- a delete does not change the shape of the map
pub removes_shape : (v : Result ℕ MapFault) (key : List ℕ) (old new : KeyTable)
    (answer : Result (Unit {0}) MapFault)
    → Removes v key old answer new → new.shape ≡ old.shape
removes_shape (Err f) key old new answer h = ap (λ (t : KeyTable). t.shape) h.1
removes_shape (Ok p) key old new answer h = ap (λ (t : KeyTable). t.shape) h.1
