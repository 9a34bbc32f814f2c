-- Tables with distinct keys, and the tables after calls of the map.
use Rattle.std.proofs.Common.{◌≡◌, ◌≢◌, ℕ, zero, suc, ◌+◌, ◌^◌, ◌≤◌, ◌<◌, Bool, true, false, cond, List, [], ◌∷◌, ◌++◌, length, Option, Some}
use Rattle.std.proofs.Common.{None, Result, Ok, Err, is_some, refl, sym, ap, ap₂, subst, ◌∙◌, inl, inr, arith, true≢false, length-append}
use Rattle.std.specs.Prelude.{◌⊎◌, ◌==◌, ◌||◌, ◌&&◌, nat_le, if◌then◌else◌}
use Rattle.std.specs.List.{list_any, AllByRecursion}
use Rattle.std.specs.Map.{lookup, keys_of, remove_entry, set_value}
use Rattle.std.proofs.lemmas.Bool.{cases_eq, eq-eqb, ne_eqb, eqb-true}
use Rattle.std.proofs.lemmas.Option.{none-some}
use Rattle.std.proofs.lemmas.Map.Made.{is_some-lookup}
use Rattle.std.proofs.lemmas.Map.Entries.{length-keys_of}
use Rattle.words.specs.Bytes.{low_bytes, number_of}
use Rattle.words.specs.ByteLaws.{length-low_bytes, number_of-low_bytes}
use Rattle.tagged_model.specs.declared.fault.MapFault.{MapFault}
use Rattle.tagged_model.specs.declared.fault.MapFault.TheVariants.{NoEntry, TooBig, Exists, Invalid}
use Rattle.tagged_model.specs.declared.shape.MapKind.{MapKind}
use Rattle.tagged_model.specs.declared.shape.MapKind.TheVariants.{Hash, Array}
use Rattle.tagged_model.specs.Table.{Table, Verdict, Refused, Present, New, is_key, found, index_key, indexed, exist, no_exist, look_up}
use Rattle.tagged_model.specs.Table.{is_full, of_absent, of_found, verdict, removal_of, removal, with_new, with_object, with_deleted, after_run}
use Rattle.saving.specs.Restorable.{AreDistinct, IsWholeTable}

-- ---- keys

-- a key is equal to itself
pub same_key : (key : List ℕ) → is_key key key ≡ true
same_key [] = refl
same_key (x ∷ xs) = ap₂ (λ (a b : Bool). a && b) (eq-eqb x x refl) (same_key xs)

swapped : (m n : ℕ) → (m == n) ≡ (n == m)
swapped m n = by (cases_eq m n)
  where
    by : (m ≡ n) ⊎ (m ≡ n → ⊥) → (m == n) ≡ (n == m)
    by (inl same) = eq-eqb m n same ∙ sym (eq-eqb n m (sym same))
    by (inr other) = ne_eqb m n other ∙ sym (ne_eqb n m (λ e. other (sym e)))

key_either : (a b : List ℕ) → is_key a b ≡ is_key b a
key_either [] [] = refl
key_either [] (y ∷ ys) = refl
key_either (x ∷ xs) [] = refl
key_either (x ∷ xs) (y ∷ ys) = ap₂ (λ (p q : Bool). p && q) (swapped x y) (key_either xs ys)

one_key : (a b : List ℕ) → is_key a b ≡ true → a ≡ b
one_key [] [] e = refl
one_key [] (y ∷ ys) e = absurd (true≢false (sym e))
one_key (x ∷ xs) [] e = absurd (true≢false (sym e))
one_key (x ∷ xs) (y ∷ ys) e = by (x == y) refl (one_key xs ys) e
  where
    by : (b : Bool) → (x == y) ≡ b → (is_key xs ys ≡ true → xs ≡ ys) → (b && is_key xs ys) ≡ true → x ∷ xs ≡ y ∷ ys
    by true same rest e = ap₂ (λ (z : ℕ) (zs : List ℕ). z ∷ zs) (eqb-true x y same) (rest e)
    by false same rest e = absurd (true≢false (sym e))

-- if it is false that one of two tests holds, both are false
pub none_of : (a b : Bool) → (a || b) ≡ false → (a ≡ false) × (b ≡ false)
none_of true b e = absurd (true≢false e)
none_of false b e = (refl, e)

any_mid : (p : List ℕ → Bool) (xs ys : List (List ℕ)) (x : List ℕ) → list_any p (xs ++ x ∷ ys) ≡ false → p x ≡ false
any_mid p [] ys x e = (none_of (p x) (list_any p ys) e).0
any_mid p (z ∷ xs) ys x e = any_mid p xs ys x (none_of (p z) (list_any p (xs ++ x ∷ ys)) e).1

-- if keys are distinct, a key among them is not among those before it
pub mid_apart : (before : List (List ℕ)) (key : List ℕ) (after : List (List ℕ))
    → AreDistinct (before ++ key ∷ after) → list_any (is_key key) before ≡ false
mid_apart [] key after h = refl
mid_apart (b ∷ bs) key after h =
    ap₂ (λ (x y : Bool). x || y) (key_either key b ∙ any_mid (is_key b) bs after key h.0) (mid_apart bs key after h.1)

module _ {A : Type 0} where
  -- the keys of two joined lists of entries are those of the first, then those of the second
  pub keys_append : (es fs : List (List ℕ × A)) → keys_of (es ++ fs) ≡ keys_of es ++ keys_of fs
  keys_append [] fs = refl
  keys_append (e ∷ es) fs = ap (λ (ks : List (List ℕ)). e.0 ∷ ks) (keys_append es fs)

  -- a key that is not among the keys of the entries has no object
  pub not_found : (key : List ℕ) (es : List (List ℕ × A))
      → list_any (is_key key) (keys_of es) ≡ false → found key es ≡ None
  not_found key es e = by (found key es) (is_some-lookup (is_key key) es ∙ e)
    where
      by : (o : Option A) → is_some o ≡ false → o ≡ None
      by None e = refl
      by (Some x) e = absurd (true≢false e)

  absent_key : (key : List ℕ) (es : List (List ℕ × A))
      → found key es ≡ None → list_any (is_key key) (keys_of es) ≡ false
  absent_key key es e = sym (is_some-lookup (is_key key) es) ∙ ap is_some e

  -- ---- the keys after a call

  keys_set : (test : List ℕ → Bool) (es : List (List ℕ × A)) (a : A) → keys_of (set_value test es a) ≡ keys_of es
  keys_set test [] a = refl
  keys_set test (e ∷ es) a = by (test e.0) (keys_set test es a)
    where
      by : (b : Bool)
          → keys_of (set_value test es a) ≡ keys_of es
          → keys_of (cond b ((e.0, a) ∷ es) (e ∷ set_value test es a)) ≡ e.0 ∷ keys_of es
      by true rest = refl
      by false rest = ap (λ (ks : List (List ℕ)). e.0 ∷ ks) rest

  any_without : (p test : List ℕ → Bool) (es : List (List ℕ × A))
      → list_any p (keys_of es) ≡ false → list_any p (keys_of (remove_entry test es)) ≡ false
  any_without p test [] e = refl
  any_without p test (x ∷ es) e =
      let parts = none_of (p x.0) (list_any p (keys_of es)) e in
      by (test x.0) parts.0 parts.1 (any_without p test es parts.1)
    where
      by : (b : Bool)
          → p x.0 ≡ false → list_any p (keys_of es) ≡ false
          → list_any p (keys_of (remove_entry test es)) ≡ false
          → list_any p (keys_of (cond b es (x ∷ remove_entry test es))) ≡ false
      by true here later rest = later
      by false here later rest = ap₂ (λ (a b : Bool). a || b) here rest

  distinct_without : (test : List ℕ → Bool) (es : List (List ℕ × A))
      → AreDistinct (keys_of es) → AreDistinct (keys_of (remove_entry test es))
  distinct_without test [] h = tt
  distinct_without test (e ∷ es) h = by (test e.0) (distinct_without test es h.1)
    where
      by : (b : Bool)
          → AreDistinct (keys_of (remove_entry test es))
          → AreDistinct (keys_of (cond b es (e ∷ remove_entry test es)))
      by true rest = h.1
      by false rest = (any_without (is_key e.0) test es h.0, rest)

  length_without : (test : List ℕ → Bool) (es : List (List ℕ × A)) (a : A)
      → lookup test es ≡ Some a → length (remove_entry test es) + 1 ≡ length es
  length_without test [] a e = absurd (none-some a e)
  length_without test (x ∷ es) a e = by (test x.0) e (length_without test es a)
    where
      by : (b : Bool)
          → cond b (Some x.1) (lookup test es) ≡ Some a
          → (lookup test es ≡ Some a → length (remove_entry test es) + 1 ≡ length es)
          → length (cond b es (x ∷ remove_entry test es)) + 1 ≡ length (x ∷ es)
      by true e rest = omega arith
      by false e rest = let later = rest e in omega arith

  -- a property of the key of each entry
  each_key : (P : List ℕ → Type 0) (es : List (List ℕ × A))
      → AllByRecursion (λ e. P e.0) es → AllByRecursion P (keys_of es)
  each_key P [] h = tt
  each_key P (e ∷ es) h = (h.0, each_key P es h.1)

  -- a property of all keys holds for the key of each entry
  pub from_keys : (P : List ℕ → Type 0) (es : List (List ℕ × A))
      → AllByRecursion P (keys_of es) → AllByRecursion (λ e. P e.0) es
  from_keys P [] h = tt
  from_keys P (e ∷ es) h = (h.0, from_keys P es h.1)

  -- a property of all entries holds for all that are left after one is removed
  pub all_without : (P : List ℕ × A → Type 0) (test : List ℕ → Bool) (es : List (List ℕ × A))
      → AllByRecursion P es → AllByRecursion P (remove_entry test es)
  all_without P test [] h = tt
  all_without P test (e ∷ es) h = by (test e.0) (all_without P test es h.1)
    where
      by : (b : Bool)
          → AllByRecursion P (remove_entry test es)
          → AllByRecursion P (cond b es (e ∷ remove_entry test es))
      by true rest = h.1
      by false rest = (h.0, rest)

distinct_with : (ks : List (List ℕ)) (key : List ℕ)
    → AreDistinct ks → list_any (is_key key) ks ≡ false
    → AreDistinct (ks ++ key ∷ [])
distinct_with [] key h e = (refl, tt)
distinct_with (k ∷ ks) key h e =
    let parts = none_of (is_key key k) (list_any (is_key key) ks) e in
    (any_end (is_key k) ks h.0 (key_either k key ∙ parts.0), distinct_with ks key h.1 parts.1)
  where
    any_end : (p : List ℕ → Bool) (xs : List (List ℕ))
        → list_any p xs ≡ false → p key ≡ false → list_any p (xs ++ key ∷ []) ≡ false
    any_end p [] e f = ap (λ (b : Bool). b || false) f
    any_end p (x ∷ xs) e f =
        let parts = none_of (p x) (list_any p xs) e in ap₂ (λ (a b : Bool). a || b) parts.0 (any_end p xs parts.1 f)

-- a property of all elements and of a new one holds for all with the new one at the end
pub all_end : {X : Type 0} (P : X → Type 0) (xs : List X) (x : X)
    → AllByRecursion P xs → P x → AllByRecursion P (xs ++ x ∷ [])
all_end P [] x h p = (p, tt)
all_end P (y ∷ ys) x h p = (h.0, all_end P ys x h.1 p)

-- ---- verdicts

no_array : Array ≡ Hash → ⊥
no_array e = cc

module _ {A : Type 0} (t : Table A) (key : List ℕ) where
  pub record IsRoomFor : Type 0 where
    -- the key is not in the table
    pub absent : look_up t key ≡ None
    -- the map is a hash map
    pub hash : t.shape.kind ≡ Hash
    -- the map is not full
    pub room : (length t.entries + t.deleted) ≢ t.shape.max_entries

  has_room : (kind : MapKind) (flags : ℕ)
      → t.shape.kind ≡ kind → look_up t key ≡ None
      → of_absent {A = A} kind (is_full t) flags ≡ New
      → IsRoomFor
  has_room Array flags is none e = absurd (let wrong : of_absent {A = A} Array (is_full t) flags ≡ New = e in cc wrong)
  has_room Hash flags is none e = by_exist (flags == exist) e
    where
      by_full : (b : Bool)
          → is_full t ≡ b
          → (let full : Verdict A = Refused TooBig in if b then full else New) ≡ New
          → IsRoomFor
      by_full true same e = absurd (let wrong : (let full : Verdict A = Refused TooBig in full) ≡ New = e in cc wrong)
      by_full false same e = record {
        absent = none;
        hash = is;
        room = λ all. true≢false (sym (eq-eqb (length t.entries + t.deleted) t.shape.max_entries all) ∙ same);
      }

      by_exist : (b : Bool)
          → (let missing : Verdict A = Refused NoEntry in let full : Verdict A = Refused TooBig in
          if b then missing else (if is_full t then full else New))
          ≡ New
          → IsRoomFor
      by_exist true e =
          absurd (let wrong : (let missing : Verdict A = Refused NoEntry in missing) ≡ New = e in cc wrong)
      by_exist false e = by_full (is_full t) refl e

  -- a key whose update is a new one is absent from a hash map that is not full
  pub new_has_room : (flags : ℕ) → verdict t key flags ≡ New → IsRoomFor
  new_has_room flags e = by_flags (nat_le flags exist) e
    where
      present : (a : A) (b : Bool)
          → (let refused : Verdict A = Refused Exists in if b then refused else Present a) ≡ New
          → IsRoomFor
      present a true e =
          absurd (let wrong : (let refused : Verdict A = Refused Exists in refused) ≡ New = e in cc wrong)
      present a false e = absurd (let wrong : Present a ≡ New = e in cc wrong)

      by_found : (o : Option A) → look_up t key ≡ o → of_found t flags o ≡ New → IsRoomFor
      by_found None none e = has_room t.shape.kind flags refl none e
      by_found (Some a) there e = present a (flags == no_exist) e

      by_flags : (b : Bool)
          → (let refused : Verdict A = Refused Invalid in if b then of_found t flags (look_up t key) else refused) ≡ New
          → IsRoomFor
      by_flags true e = by_found (look_up t key) refl e
      by_flags false e =
          absurd (let wrong : (let refused : Verdict A = Refused Invalid in refused) ≡ New = e in cc wrong)

  pub record IsRemoved (a : A) : Type 0 where
    -- the key has this object in the table
    pub there : look_up t key ≡ Some a
    -- the map is a hash map
    pub hash : t.shape.kind ≡ Hash

  -- a deletion that succeeds is of a key with an object, in a hash map
  pub removed_is : (a : A) → removal t key ≡ Ok a → IsRemoved a
  removed_is a e = by t.shape.kind (look_up t key) refl refl e
    where
      by : (k : MapKind) (o : Option A) → t.shape.kind ≡ k → look_up t key ≡ o → removal_of k o ≡ Ok a → IsRemoved a
      by Array o is there e =
          absurd (let wrong : (let no : Result A MapFault = Err Invalid in no) ≡ Ok a = e in cc wrong)
      by Hash None is there e =
          absurd (let wrong : (let no : Result A MapFault = Err NoEntry in no) ≡ Ok a = e in cc wrong)
      by Hash (Some x) is there e = record { there = there ∙ ap (λ (y : A). Some y) (same_ok x a e); hash = is }
        where
          same_ok : (x a : A) → (let r : Result A MapFault = Ok x in r) ≡ Ok a → x ≡ a
          same_ok x a e = cc

-- ---- the tables after calls

module _ {A : Type 0} {t : Table A} (whole : IsWholeTable t) where
  -- a whole table is still whole after a new key of the map's key size is put
  pub whole_with_new : (key : List ℕ) (a : A) (flags : ℕ)
      → length key ≡ t.shape.key_size → verdict t key flags ≡ New
      → IsWholeTable (with_new t key a)
  whole_with_new key a flags size e =
      let room = new_has_room t key flags e in
      record {
        keys = all_end (λ (x : List ℕ × A). length x.0 ≡ t.shape.key_size) t.entries (key, a) whole.keys size;
        distinct =
            subst AreDistinct (sym (keys_append t.entries ((key, a) ∷ [])))
            (distinct_with (keys_of t.entries) key whole.distinct (absent_key key t.entries room.absent));
        few =
            let most = whole.few in
            let apart = room.room in
            let long = length-append t.entries ((key, a) ∷ []) in
            omega arith;
        indices = λ array. absurd (no_array (sym array ∙ room.hash));
      }

  -- a whole table is still whole with another object for a key
  pub whole_with_object : (key : List ℕ) (a : A) → IsWholeTable (with_object t key a)
  whole_with_object key a =
      let same = keys_set (is_key key) t.entries a in
      record {
        keys =
            from_keys (λ k. length k ≡ t.shape.key_size) (set_value (is_key key) t.entries a)
            (subst (AllByRecursion (λ k. length k ≡ t.shape.key_size)) (sym same)
            (each_key (λ k. length k ≡ t.shape.key_size) t.entries whole.keys));
        distinct = subst AreDistinct (sym same) whole.distinct;
        few =
            let long =
            sym (length-keys_of (set_value (is_key key) t.entries a)) ∙ ap length same ∙ length-keys_of t.entries in
            let most = whole.few in
            omega arith;
        indices = λ array. same ∙ whole.indices array;
      }

  -- a whole table is still whole after a key is deleted
  pub whole_with_deleted : (key : List ℕ) (a : A) → removal t key ≡ Ok a → IsWholeTable (with_deleted t key)
  whole_with_deleted key a e =
      let is = removed_is t key a e in
      record {
        keys = all_without (λ (x : List ℕ × A). length x.0 ≡ t.shape.key_size) (is_key key) t.entries whole.keys;
        distinct = distinct_without (is_key key) t.entries whole.distinct;
        few = let fewer = length_without (is_key key) t.entries a is.there in let most = whole.few in omega arith;
        indices = λ array. absurd (no_array (sym array ∙ is.hash));
      }

  -- a whole table is still whole at the end of a run
  pub whole_after_run : IsWholeTable (after_run t)
  whole_after_run = record {
    keys = whole.keys;
    distinct = whole.distinct;
    few = let most = whole.few in omega arith;
    indices = whole.indices;
  }

-- a table with the keys of a whole table, and other objects, is whole
pub whole_by_keys : {A B : Type 0} {t : Table A}
    → IsWholeTable t
    → (es : List (List ℕ × B)) → keys_of es ≡ keys_of t.entries
    → IsWholeTable (record { shape = t.shape; entries = es; deleted = t.deleted })
whole_by_keys {A} {B} {t} whole es same = record {
  keys =
      from_keys (λ k. length k ≡ t.shape.key_size) es
      (subst (AllByRecursion (λ k. length k ≡ t.shape.key_size)) (sym same)
      (each_key (λ k. length k ≡ t.shape.key_size) t.entries whole.keys));
  distinct = subst AreDistinct (sym same) whole.distinct;
  few =
      let long = sym (length-keys_of es) ∙ ap length same ∙ length-keys_of t.entries in
      let most = whole.few in
      omega arith;
  indices = λ array. same ∙ whole.indices array;
}

-- ---- a new table

-- a property of the key of each index holds for the keys of any successive indices
pub indexed_keys : (P : List ℕ → Type 0)
    → ((i : ℕ) → P (index_key i))
    → (from n : ℕ) → AllByRecursion P (keys_of (indexed (λ i. i) from n))
unfolding indexed
indexed_keys P h from zero = tt
indexed_keys P h from (suc n) = (h from, indexed_keys P h (from + 1) n)

-- the key of an index has four bytes
pub index_length : (i : ℕ) → length (index_key i) ≡ 4
unfolding index_key
index_length i = length-low_bytes 4 i

index_apart : (i j : ℕ) → i < j → j < 2 ^ 32 → is_key (index_key i) (index_key j) ≡ false
unfolding index_key
index_apart i j lt small = by (is_key (low_bytes 4 i) (low_bytes 4 j)) refl
  where
    by : (b : Bool) → is_key (low_bytes 4 i) (low_bytes 4 j) ≡ b → is_key (low_bytes 4 i) (low_bytes 4 j) ≡ false
    by true e =
        let same : i ≡ j =
        sym (number_of-low_bytes 4 i (omega arith))
        ∙ ap number_of (one_key (low_bytes 4 i) (low_bytes 4 j) e)
        ∙ number_of-low_bytes 4 j (omega arith) in
        absurd (omega arith)
    by false e = e

indexed_apart : (i from n : ℕ)
    → i < from → from + n ≤ 2 ^ 32
    → list_any (is_key (index_key i)) (keys_of (indexed (λ k. k) from n)) ≡ false
unfolding indexed
indexed_apart i from zero lt small = refl
indexed_apart i from (suc n) lt small =
    ap₂ (λ (a b : Bool). a || b) (index_apart i from lt (omega arith))
    (indexed_apart i (from + 1) n (omega arith) (omega arith))

-- the keys of successive indices of 32 bits are distinct
pub indexed_distinct : (from n : ℕ) → from + n ≤ 2 ^ 32 → AreDistinct (keys_of (indexed (λ k. k) from n))
unfolding indexed
indexed_distinct from zero small = tt
indexed_distinct from (suc n) small = (
  indexed_apart from (from + 1) n (omega arith) (omega arith),
  indexed_distinct (from + 1) n (omega arith),
)

-- n successive indices have n keys
pub indexed_long : (from n : ℕ) → length (keys_of (indexed (λ k. k) from n)) ≡ n
unfolding indexed
indexed_long from zero = refl
indexed_long from (suc n) = let rest = indexed_long (from + 1) n in omega arith
