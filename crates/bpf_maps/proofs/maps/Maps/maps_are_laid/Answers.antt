-- `maps_are_laid`: each clause follows from the invariant of `Maps`, by the lemmas in `Whole` and `ByHandle`, first for the fields and then
-- for the live maps that contracts see.
use Rattle.std.proofs.Common.{◌≡◌, ◌≤◌, length, subst, arith}
use Rattle.bpf_maps.specs.declared.part.TheConstants.{LARGEST_SUM, MAPS}
use Rattle.bpf_maps.specs.Live.{LiveMaps, IsLaid, IsPacked, AreSound, areas}
use Rattle.bpf_maps.specs.InMaps.{as_live_maps}
use Rattle.bpf_maps.proofs.ByHandle.{handles_are}
use Rattle.bpf_maps.proofs.Whole.{laid, packed, sound_at}
use Rattle.bpf_maps.proofs.maps.Maps.maps_are_laid.Goals as goal

pub returns : goal.returns
returns c =
    let is = c.self.invariant in
    let sum = is.sum in
    let few = is.few in
    let bytes : areas (as_live_maps c.self.inside) ≤ LARGEST_SUM = omega arith in
    record {
      laid = subst IsLaid c.self.view_is (laid is);
      packed = subst IsPacked c.self.view_is (packed is);
      sound = subst AreSound c.self.view_is (sound_at is);
      maps =
          subst (λ (t : LiveMaps). length t.maps ≡ MAPS) c.self.view_is
          (handles_are c.self.inside.keys c.self.inside.maps is.keys);
      bytes = subst (λ (t : LiveMaps). areas t ≤ LARGEST_SUM) c.self.view_is bytes;
    }
