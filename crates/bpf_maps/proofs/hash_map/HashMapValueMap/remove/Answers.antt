-- `remove` of `HashMap`: the removal of an absent key changes no entry (`without-absent`), as `NoEntry` requires. The element of a present
-- key becomes the last of those kept apart, by the push and the swap (`exchanged`, `first-put`). In both cases the invariant holds,
-- and so the table is sound.
use Rattle.std.proofs.Common.{◌≡◌, ℕ, ◌+◌, ◌∙◌, sym, ap, subst, refl, Some, None, [], ◌∷◌, ◌++◌, List, take}
use Rattle.std.specs.List.{swap}
use Rattle.tagged_model.specs.Table.{found}
use Rattle.bpf_maps.specs.KeyTable.{KeyTable, IsSound}
use Rattle.bpf_maps.specs.Index.{entries_of, TakesKeys, shown, IsWellFormedHash}
use Rattle.bpf_maps.specs.declared.hash_map.HashMap.TheInside.{Inside}
use Rattle.bpf_maps.proofs.Counts.{without-absent}
use Rattle.bpf_maps.proofs.Kept.{sound, kept_by_same, kept_by_remove, put_at, exchanged, first-put}
use Rattle.bpf_maps.proofs.Answered.{same_table, removes}
use Rattle.bpf_maps.proofs.hash_map.HashMapValueMap.remove.Goals as goal
use Rattle.bpf_maps.proofs.hash_map.HashMapValueMap.remove.Goals.{After-remove}

takes : (c : After-remove) → TakesKeys c.remove.new.self c.self.inside.shape.key_size
takes c =
    subst (TakesKeys c.remove.new.self)
    (c.requires.size ∙ ap (λ (t : KeyTable). t.shape.key_size) (sym c.self.view_is))
    c.remove.ensures.takes

module _ (c : goal.In_default) where
  none : found c.args.key.now (entries_of c.self.inside.index) ≡ None
  none = sym c.remove.ensures.element ∙ c.in_default.is

  same : entries_of c.remove.new.self ≡ entries_of c.self.inside.index
  same = c.remove.ensures.left ∙ without-absent c.args.key.now (entries_of c.self.inside.index) none

pub invariant_of-self : goal.invariant_of-self
invariant_of-self c =
    kept_by_same c.remove.new.self c.self.invariant (same c)
    (takes (goal.at.invariant_of-self c).After-remove) c.remove.ensures.bound

pub returns-in_default-clause-removed : goal.returns-in_default-clause-removed
returns-in_default-clause-removed c =
    removes c.args.key.now (shown c.self.inside) _ _ None _ c.self.view_is c.self.invariant.kind
    (none c)
    (refl, same_table c.self.inside.shape (same c) refl)

pub returns-in_default-clause-sound : goal.returns-in_default-clause-sound
returns-in_default-clause-sound c =
    subst IsSound (sym (same_table c.self.inside.shape (same c) refl)) (sound c.self.invariant)

module _ (c : goal.After-self-1) where
  found_is : found c.args.key.now (entries_of c.self.inside.index) ≡ Some c.in-Some.element
  found_is = sym c.remove.ensures.element ∙ c.in-Some.is

  spare : c.swap.new.self.items ≡ put_at c.self.inside.kept c.in-Some.element c.self.inside.spare.items
  spare =
      c.swap.ensures.items
      ∙ ap (λ (elements : List ℕ). swap elements c.self.inside.kept c.len-last.result) c.push_reserved.ensures.items
      ∙ ap (swap (c.self.inside.spare.items ++ c.in-Some.element ∷ []) c.self.inside.kept)
      (c.len-last.ensures ∙ c.self.inside.spare.ok.0)
      ∙ exchanged c.self.inside.kept c.in-Some.element c.self.inside.spare.items c.self.invariant.kept

  abbrev after : Inside
  after = record {
    shape = c.self.inside.shape;
    index = c.remove.new.self;
    spare = c.swap.new.self;
    kept = c.self.inside.kept + 1;
  }

  whole : IsWellFormedHash after
  whole =
      kept_by_remove after c.self.invariant c.args.key.now found_is refl c.remove.ensures.left spare
      (c.swap.ensures.capacity ∙ c.push_reserved.ensures.capacity)
      refl
      (takes (goal.at.invariant_of-self-2 c).After-remove) c.remove.ensures.bound

pub invariant_of-self-2 : goal.invariant_of-self-2
invariant_of-self-2 c = whole c

pub returns-clause-sound : goal.returns-clause-sound
returns-clause-sound c = sound (whole c)

pub returns-clause-removed : goal.returns-clause-removed
returns-clause-removed c =
    let kept =
    ap (take (c.self.inside.kept + 1)) (spare c)
    ∙ first-put c.self.inside.kept c.in-Some.element c.self.inside.spare.items c.self.invariant.kept in
    removes c.args.key.now (shown c.self.inside) _ _ (Some c.in-Some.element) _ c.self.view_is
    c.self.invariant.kind (found_is c)
    (refl, same_table c.self.inside.shape c.remove.ensures.left kept)
