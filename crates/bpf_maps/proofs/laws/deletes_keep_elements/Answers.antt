-- `deletes_keep_elements`: the element of the deleted key occurs once less in the entries and once more in the list of those kept apart,
-- and the counts of all other elements are unchanged (`times-kept`).
use Rattle.bpf_maps.proofs.Counts.{times-kept}
use Rattle.bpf_maps.proofs.laws.deletes_keep_elements.Goals as goal

pub returns : goal.returns
returns c = λ t key element p h. times-kept p key element t.entries t.kept h
