-- `renew` of `HashMap`: the cleared index has no key, and the list has each element once, by the contracts of `clear` and `put_elements`;
-- so the invariant holds, and contracts see the table of a new hash map.
use Rattle.std.proofs.Common.{◌≡◌, ℕ, ◌+◌, ◌∙◌, List, [], sym, ap, subst, length, arith}
use Rattle.std.specs.Map.{values_of}
use Rattle.tagged_model.specs.declared.shape.MapKind.{MapKind}
use Rattle.tagged_model.specs.Table.{new_entries}
use Rattle.bpf_maps.specs.KeyTable.{KeyTable, occurrences, IsSized}
use Rattle.bpf_maps.specs.Index.{TakesKeys}
use Rattle.bpf_maps.proofs.hash_map.HashMap.renew.Goals as goal

pub invariant_of-self : goal.invariant_of-self
invariant_of-self c =
    let key_size : c.args.shape.key_size ≡ c.self.inside.shape.key_size =
    c.requires.key_size ∙ ap (λ (t : KeyTable). t.shape.key_size) (sym c.self.view_is) in
    let most : c.args.shape.max_entries ≡ c.self.inside.shape.max_entries =
    c.requires.max_entries ∙ ap (λ (t : KeyTable). t.shape.max_entries) (sym c.self.view_is) in
    record {
      kind = c.requires.kind;
      takes =
          subst (TakesKeys c.clear.new.self) (sym key_size)
          (c.clear.ensures.takes c.self.inside.shape.key_size c.self.invariant.takes);
      bound = c.clear.ensures.bound ∙ c.self.invariant.bound ∙ sym most;
      once = λ p.
          ap (λ (es : List (List ℕ × ℕ)). occurrences p (values_of es) + occurrences p c.put_elements.new.all.items)
          c.clear.ensures.entries
          ∙ (let e : 0 + occurrences p c.put_elements.new.all.items ≡ occurrences p c.put_elements.new.all.items =
          omega arith in
          e)
          ∙ c.put_elements.ensures.once p;
      all =
          let none = ap length c.clear.ensures.entries in
          let long = c.put_elements.ensures.length in
          let ok = c.put_elements.new.all.ok.0 in
          omega arith;
      kept = omega arith;
      room =
          let room = c.self.invariant.room in let same = most in let still = c.put_elements.ensures.room in omega arith;
      sized = subst (IsSized c.args.shape.key_size) (sym c.clear.ensures.entries) tt;
    }

pub returns : goal.returns
returns c =
    ap (λ (es : List (List ℕ × ℕ)). let t : KeyTable = record { shape = c.args.shape; entries = es; kept = [] } in t)
    (c.clear.ensures.entries
    ∙ ap (λ (kind : MapKind). new_entries (λ (i : ℕ). i) kind c.args.shape.max_entries) (sym c.requires.kind))
