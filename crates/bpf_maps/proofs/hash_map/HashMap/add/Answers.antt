-- `add` of `HashMap`: the last spare element is free, as not all spare ones are kept apart (`is_free`). The key gets it, and the elements
-- kept apart are unchanged, so the invariant holds (`kept_by_add`), and the change is that of an update of an absent key (`claims_new`).
use Rattle.std.proofs.Common.{◌≡◌, ◌≢◌, ℕ, ◌∙◌, ◌-◌, sym, ap, subst, refl, ◌<◌, length, take, get_or, vec_len}
use Rattle.tagged_model.specs.Table.{with_key}
use Rattle.bpf_maps.specs.KeyTable.{KeyTable, IsFree}
use Rattle.bpf_maps.specs.Index.{entries_of, TakesKeys, shown, IsWellFormedHash}
use Rattle.bpf_maps.specs.declared.hash_map.HashMap.TheInside.{Inside}
use Rattle.bpf_maps.proofs.Kept.{sound, kept_by_add, not_full, is_free, same_kept}
use Rattle.bpf_maps.proofs.Answered.{claims_new, same_table}
use Rattle.bpf_maps.proofs.hash_map.HashMap.add.Goals as goal
use Rattle.bpf_maps.proofs.hash_map.HashMap.add.Goals.{After-index-element}

module _ (c : After-index-element) where
  last : c.index-element.result.now
      ≡ get_or c.self.inside.spare.items (vec_len c.self.inside.spare - 1) c.index-element.result.now
  last =
      c.index-element.ensures
      ∙ ap (λ (n : ℕ). get_or c.self.inside.spare.items (n - 1) c.index-element.result.now) c.len-2.ensures

  some : vec_len c.self.inside.spare ≢ c.self.inside.kept
  some all = c.if-len-self.false (c.len.ensures ∙ all)

  free : IsFree (shown c.self.inside) c.index-element.result.now
  free = is_free c.self.invariant c.index-element.result.now last some

pub insert-requires-clause-within : goal.insert-requires-clause-within
insert-requires-clause-within c =
    subst (λ (n : ℕ). c.index-element.result.now < n) (sym c.self.invariant.bound)
    (free (goal.at.insert-requires-clause-within c).After-index-element).within

pub insert-requires-clause-free : goal.insert-requires-clause-free
insert-requires-clause-free c = (free (goal.at.insert-requires-clause-free c).After-index-element).entries

module _ (c : goal.After-pop) where
  abbrev chosen : After-index-element
  chosen = (goal.at.invariant_of-self c).After-index-element

  index :
      entries_of c.insert.new.self ≡ with_key c.args.key.now c.index-element.result.now (entries_of c.self.inside.index)
  index = c.insert.ensures.added

  size : length c.args.key.now ≡ c.self.inside.shape.key_size
  size = c.requires.size ∙ ap (λ (t : KeyTable). t.shape.key_size) (sym c.self.view_is)

  abbrev after : Inside
  after = record {
    shape = c.self.inside.shape;
    index = c.insert.new.self;
    spare = c.pop.new.self;
    kept = c.self.inside.kept;
  }

  whole : IsWellFormedHash after
  whole =
      kept_by_add c.self.invariant c.index-element.result.now (last chosen) (some chosen) after
      c.args.key.now size refl index refl c.pop.ensures.rest
      c.pop.ensures.capacity
      (subst (TakesKeys c.insert.new.self) size c.insert.ensures.takes) c.insert.ensures.bound

pub invariant_of-self : goal.invariant_of-self
invariant_of-self c = whole c

pub returns-clause-claimed : goal.returns-clause-claimed
returns-clause-claimed c =
    let element = c.index-element.result.now in
    let at = chosen c in
    claims_new c.args.key.now (shown c.self.inside) _ _ element c.self.view_is
    (not_full c.self.invariant element (last at) (some at))
    (free at)
    (same_table c.self.inside.shape (index c)
    (ap (take c.self.inside.kept) c.pop.ensures.rest ∙ same_kept c.self.invariant element (last at) (some at)))

pub returns-clause-sound : goal.returns-clause-sound
returns-clause-sound c = sound (whole c)
