-- The map that a descriptor names. This project's own.
use Rattle.std.specs.Prelude.{◌≡◌, ℕ, ◌<◌, Option, Some, None, IsSome}
use Rattle.bpf_maps.specs.Live.{live_at}
use Rattle.fd_table.specs.Table.{named}
use Rattle.tenant.specs.declared.errno.Errno.{Errno}
use Rattle.tenant.specs.declared.errno.Errno.TheVariants.{BadDescriptor, Invalid}
use Rattle.tenant.specs.declared.object.OpenObject.{OpenObject}
use Rattle.tenant.specs.declared.object.OpenObject.TheVariants as object
use Rattle.tenant.specs.Kept.{KeptTenant}
use Rattle.bpf_maps.specs.Limits.{most_maps}

-- a descriptor names the live map of a handle
pub record IsMapOf (k : KeptTenant) (fd handle : ℕ) : Type 0 where
  pub opened : named k.objects fd ≡ Some (object.Map handle)
  pub live : IsSome (live_at k.live handle)
  pub within : handle < most_maps

-- the error of a command that requires a map, as a look-up does, by what the command's descriptor
-- names. If the descriptor is not open (the argument is None), it is EBADF (`BadDescriptor`); if it
-- names a program, EINVAL (`Invalid`). If it names a map, by its handle, there is no error: the
-- result is None
abbrev pub map_fault : Option OpenObject → Option Errno
map_fault None = Some BadDescriptor
map_fault (Some (object.Program l)) = Some Invalid
map_fault (Some (object.Map handle)) = None
