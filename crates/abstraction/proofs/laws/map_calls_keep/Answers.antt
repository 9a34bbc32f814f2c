-- `map_calls_keep`: a look-up and a load of the direct value give an object that the map has had, since each key has one (`IsMapOf`);
-- an update and a delete keep the shape, the objects and their bytes in range, by cases of the verdict.
use Rattle.tagged_model.specs.StateLaws.{found_owned}
use Rattle.abstraction.proofs.MapCalls.{updated_keeps, removed_keeps}
use Rattle.abstraction.proofs.DirectValues.{direct_found}
use Rattle.abstraction.proofs.laws.map_calls_keep.Goals as goal

pub returns : goal.returns
returns c = record {
  direct = direct_found;
  owned = λ shape t key number is e. found_owned t.count key t.table.entries number is.owns e;
  updated = λ shape t key value flags is bytes size small. updated_keeps shape t is bytes value size small key flags;
  removed = λ shape t key is bytes. removed_keeps shape t is bytes key;
}
